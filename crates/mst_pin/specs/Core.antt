-- The core's fields read as its state.
use Rattle.std.specs.Prelude.{ℕ, ◌+◌, List, slice_index}
use Rattle.mst_pin.specs.declared.words.Words.{Words}
use Rattle.mst_pin.specs.declared.Core.{Core}
use Rattle.mst_pin.specs.State.{State, row_set}
use Rattle.mst_pin.specs.WordParts.{record_of}
use Rattle.mst_pin.specs.Words.{due_of, pinned_mask, pinned_by}

-- passes, words, and the rows of each record as bits
abbrev pub state_of : ℕ → Words → List ℕ → State
state_of n w rows = record {
  passes = n;
  current = record_of w.current;
  rows = λ r. row_set
      (slice_index rows r);
  pins = pinned_by (n + 2) (pinned_mask w);
  due = due_of w.returned;
}

unfoldable pub state : Core → State
state c = state_of c.passes c.words c.rows
