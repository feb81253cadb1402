-- What was read of a source.
use Rattle.std.specs.Prelude.{◌≡◌, ℕ, ◌+◌, ◌<◌, ◌≤◌, List, length}
use Rattle.mst_devices.specs.Device.{Flow}

-- the source gave these bytes, up to its end, and no more than `most`
pub record GaveAll {S : Type 0}
    (gives : Flow S) (left : S → ℕ) (most : ℕ)
    (s : S) (bytes : List ℕ) (t : S) : Type 0 where
  pub given : gives s bytes t
  pub ended : left t ≡ 0
  pub within : length bytes ≤ most

-- how many bytes are read at most at a time
abbrev pub piece : ℕ
piece = 4096

-- the source gave more bytes than `most`, by one piece at most
pub record GaveMore {S : Type 0} (gives : Flow S) (most : ℕ) (s t : S) : Type 0 where
  pub bytes : List ℕ
  pub given : gives s bytes t
  pub beyond : most < length bytes
  pub within : length bytes ≤ most + piece
