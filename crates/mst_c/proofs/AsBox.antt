-- The parts own what a box at the same types owns.
use mir.Syntax.{impl, tnil, dnil}
use Rattle.mst_c.proofs.Names.{Bx}
use mathlib.Core.List.{[]}
use denote.Signature.{Slot, plain}
use Rattle.std_heap.specs.contracts.Global as Heap
use Rattle.std_heap.specs.contracts.GlobalAllocator.TheImpl.{ghosts, dict}
use Rattle.std_heap.proofs.Global.TheLaws as heap
use Rattle.mst_c.specs.contracts.pass_box.PassBox as PassBox
use Rattle.mst_c.proofs.pass_box.PassBox.TheLaws as held
use Rattle.mst_c.specs.contracts.raw_box.RawBox as RawBox
use Rattle.mst_c.specs.contracts.hand.Hand as Hand

abbrev pub E : Bx
E =
    record {
      row = PassBox.the_row;
      laws = held.the_row_laws;
      al =
          record {
            row = Heap.the_row;
            laws = heap.the_row_laws;
            g = ghosts;
            d = dict;
            drops =
                impl [] tnil dnil;
          };
    }

abbrev pub FromRawBox : Slot 0
FromRawBox = plain (λ _. RawBox.the_row PassBox.the_row Heap.the_row ghosts)

abbrev pub FromHand : Slot 0
FromHand = plain (λ _. Hand.the_row)
