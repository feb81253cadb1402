-- The parts of the word CURRENT: record number * masks + mask.
use Rattle.std.specs.Prelude.{ℕ, ◌/◌, ◌%◌}

-- how many masks of passes there are: 2^32, one bit for each of at most 32 passes
abbrev pub masks : ℕ
masks = 4294967296

abbrev pub record_of : ℕ → ℕ
record_of word = word / masks

abbrev pub mask_of : ℕ → ℕ
mask_of word = word % masks
