-- The words of one record are stored, and no others.
use Rattle.std.specs.Prelude.{◌≡◌, ◌≢◌, ℕ, ◌<◌, List, length, slice_index}
use Rattle.mst_words.specs.Layout.{record_words, record_word}
use Rattle.mst_words.specs.Records.{field}

-- every word but those of the record is as before, and there are as many
pub record OthersKept (which : ℕ) (old new : List ℕ) : Type 0 where
  pub long : length new ≡ length old
  pub others : (i : ℕ) → ((k : ℕ) → k < record_words → i ≢ record_word which k)
      → slice_index new i ≡ slice_index old i

-- the first n words of the record are these
pub record IsFiled (which n : ℕ) (words old new : List ℕ) : Type 0 where
  pub kept : OthersKept which old new
  pub so_far : (k : ℕ) → k < n → field new which k ≡ slice_index words k
