-- The words that the passes and the writer share, read as masks in which bit p - 1 is pass p.
use Rattle.std.specs.Prelude.{◌≡◌, ◌≢◌, ℕ, suc, zero, ◌+◌, ◌-◌, ◌^◌, ◌<◌, ◌==◌, if◌then◌else◌, Option, Some, None, slice_index, bit_xor}
use Rattle.std.specs.Int.{bit_at}
use Rattle.mst_pin.specs.WordParts.{record_of, mask_of}
use Rattle.mst_pin.specs.declared.words.Words.{Words}
use Rattle.mst_pin.specs.declared.words.Returned.{Returned}

-- the record of the publish whose transfer waits
abbrev pub due_of : Option Returned → Option ℕ
due_of None = None
due_of (Some d) = Some d.from

-- the mask that came back from that publish, at its record
abbrev pub returned_mask : Option Returned → ℕ → ℕ
returned_mask None r = 0
returned_mask (Some d) r = if r == d.from then d.mask else 0

-- the mask that counts with a record's DONE
abbrev pub counted_mask : Words → ℕ → ℕ
counted_mask w r =
    if r == record_of w.current then mask_of w.current else returned_mask w.returned r

-- the passes that pin a record
abbrev pub pinned_mask : Words → ℕ → ℕ
pinned_mask w r = bit_xor (counted_mask w r) (slice_index w.done r)

-- the record below n in whose mask the bit is set
abbrev pub record_with_bit : ℕ → (ℕ → ℕ) → ℕ → Option ℕ
record_with_bit zero masks k = None
record_with_bit (suc n) masks k =
    if bit_at (masks n) k == 1 then Some n else record_with_bit n masks k

-- the record below n that a pass pins, by the masks of the records
abbrev pub pinned_by : ℕ → (ℕ → ℕ) → ℕ → Option ℕ
pinned_by n masks p = if p == 0 then None else record_with_bit n masks (p - 1)

-- what the words keep, in a core of n passes
pub record IsKept (n : ℕ) (w : Words) : Type 0 where
  -- the current record is one of the core
  pub current_in : record_of w.current < n + 2
  -- so is the record whose transfer waits, which is not current
  pub due_in : (d : Returned) → w.returned ≡ Some d → (d.from < n + 2)
      × (d.from ≢ record_of w.current)
  -- only passes of the core pin
  pub few : (r : ℕ) → pinned_mask w r < 2 ^ n
  -- a pass pins at most one record
  pub one : (r s k : ℕ) → r < n + 2 → s < n + 2 → bit_at (pinned_mask w r) k ≡ 1
      → bit_at (pinned_mask w s) k ≡ 1 → r ≡ s
  pub passes_in : (0 < n) × (n < 33)
