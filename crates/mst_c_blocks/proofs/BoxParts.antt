-- The parts of a box of a sharded map own what the box owns.
use mir.Syntax.{impl, tnil, dnil}
use Rattle.mst_c_blocks.proofs.Names.{ghosts}
use mathlib.Core.List.{[]}
use denote.Signature.{Slot, plain}
use Rattle.std_alloc.proofs.BoxSteps.Form.{Bx}
use Rattle.std_heap.specs.contracts.Global as Heap
use Rattle.std_heap.specs.contracts.GlobalAllocator.TheImpl.{dict}
use Rattle.std_heap.proofs.Global.TheLaws as heap
use Rattle.mst_c_blocks.specs.contracts.role_box.RoleBox as RoleBox
use Rattle.mst_c_blocks.proofs.role_box.RoleBox.TheLaws as held
use Rattle.mst_c.specs.contracts.raw_box.RawBox as RawBox
use Rattle.mst_c_blocks.specs.contracts.hand.BlocksHand as Hand

abbrev pub E : Bx
E =
    record {
      row = RoleBox.the_row;
      laws = held.the_row_laws;
      al =
          record {
            row = Heap.the_row;
            laws = heap.the_row_laws;
            g = ghosts;
            d = dict;
            drops =
                impl [] tnil dnil;
          };
    }

abbrev pub FromRawBox : Slot 0
FromRawBox = plain (λ _. RawBox.the_row RoleBox.the_row Heap.the_row ghosts)

abbrev pub FromHand : Slot 0
FromHand = plain (λ _. Hand.the_row)
