-- What a sharded map is opened with, and the passes that are dealt of it.
use Rattle.std.specs.Prelude.{◌≡◌, ℕ, zero, suc, ◌+◌, ◌*◌, nat_le, if◌then◌else◌, List, [], ◌∷◌, ◌++◌, None, map, length}
use Rattle.std.specs.List.{AllByRecursion}
use Rattle.mst_key.specs.declared.format.Format.{Format}
use Rattle.mst_words.specs.declared.view.Shape.{Shape}
use Rattle.mst_store.specs.Passes.{Known, StoreId, HasShape, new_pass, most_rows}
use Rattle.mst_shards.specs.Laid.{AreOf}

-- the splits of a sharded map, the store of each shard, and the store of its directory
pub record Shards : Type 0 where
  pub splits : List (List ℕ)
  pub stores : List StoreId
  pub directory : StoreId

-- The rows of the directory's store: as many as a directory of this many shards takes in each of
-- the versions that may be live at once, the one to come with them, as far as a store can have them
abbrev pub directory_rows : ℕ → ℕ → ℕ
directory_rows shards passes =
    if nat_le (2 * (passes + 2) * shards + 64) most_rows then 2 * (passes + 2) * shards + 64
    else most_rows

-- the shape of the directory's store, over shards of a shape: each pass of the map has one of it
abbrev pub directory_shape : ℕ → Shape → Shape
directory_shape shards shape = record {
  rows = directory_rows shards shape.passes;
  passes = shape.passes;
  format = shape.format;
}

-- the splits are these, there is a store of this shape for each shard, and one of the directory
pub record HasShards (splits : List (List ℕ)) (shape : Shape) (s : Shards) : Type 0 where
  pub splits_are : s.splits ≡ splits
  pub count : length s.stores ≡ length splits + 1
  pub shaped : AllByRecursion (HasShape shape) s.stores
  pub directory_shaped : HasShape (directory_shape (length splits + 1) shape) s.directory

-- of which stores the seats are
pub record Seating : Type 0 where
  pub stores : List StoreId
  pub directory : StoreId

abbrev pub seats_of : Shards → Seating
seats_of s = record { stores = s.stores; directory = s.directory }

-- ---- lots

-- what is dealt to a writer or a reader: a pass of each shard, and one of the directory
pub record Dealt : Type 0 where
  pub passes : List Known
  pub directory : Known

-- a pass of a store in this format that has seen and made nothing
abbrev pub IsNew : Format → Known → Type 0
IsNew format p = (p.seen ≡ []) × (p.made ≡ None) × (p.store.format ≡ format)

-- what is dealt of this map: its passes are of the map's stores, all in one format, and have seen
-- and made nothing
pub record IsLot (s : Shards) (d : Dealt) : Type 0 where
  pub own : AreOf s.stores d.passes
  pub directory : d.directory.store ≡ s.directory
  pub new : AllByRecursion (IsNew s.directory.format) d.passes
  pub directory_new : IsNew s.directory.format d.directory

-- the lot with this number: none of its passes has seen or done anything
abbrev pub lot : List StoreId → StoreId → ℕ → Dealt
lot stores directory number = record {
  passes = map (λ store. new_pass store number) stores;
  directory = new_pass directory number;
}

-- the first lots, in the order of their numbers from 1
abbrev pub first_lots : List StoreId → StoreId → ℕ → List Dealt
first_lots stores directory zero = []
first_lots stores directory (suc n) =
    first_lots stores directory n ++ lot stores directory (suc n) ∷ []

-- and the pass of one more shard
abbrev pub dealt_more : Dealt → Known → Dealt
dealt_more d pass = record d { passes = d.passes ++ pass ∷ [] }
