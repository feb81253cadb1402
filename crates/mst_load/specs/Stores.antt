-- A store that a type names where none is picked.
use Rattle.std.specs.Prelude.{[]}
use Rattle.mst_key.specs.declared.format.Format.TheVariants.{One}
use Rattle.mst_store.specs.Passes.{StoreId}

-- the store that is named where none is picked
abbrev pub no_store : StoreId
no_store = record {
  table = record {
    words = 0;
    slots = 0;
    views_name = 0;
    atom = 0;
    block = 0;
    offset = 0;
    slot_names = [];
  };
  rows = 0;
  passes = 0;
  format = One;
}
