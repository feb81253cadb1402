-- What one read gave, what one write took, and what a buffer before a sink did.
use Rattle.std.specs.Prelude.{◌≡◌, ℕ, ◌+◌, ◌<◌, ◌≤◌, Bool, true, false, if◌then◌else◌, List, [], ◌++◌, length, take, Option}
use Rattle.std.specs.Io.KnownBytes.{Appends, Consumes, IsAtEnd}

-- which bytes a source gave, or a sink took, from the one state to the other
abbrev pub Flow : Type 0 → Type 1
Flow S = S → List ℕ → S → Type 0

-- n bytes at the front of the buffer were given; none only at the end
pub record Gave {S : Type 0} (gives : Flow S) (left : S → ℕ)
    (s : S) (buffer : List ℕ) (n : ℕ) (t : S) : Type 0 where
  pub within : n ≤ length buffer
  pub given : gives s (take n buffer) t
  pub fewer : n + left t ≤ left s
  pub end : n ≡ 0 → left t ≡ 0

-- the first n bytes were taken, at least one
pub record Took {S : Type 0} (takes : Flow S)
    (s : S) (bytes : List ℕ) (n : ℕ) (t : S) : Type 0 where
  pub some : 0 < n
  pub within : n ≤ length bytes
  pub taken : takes s (take n bytes) t

-- Where p waited before the sink, the text was put after it: the sink took a front of both, and q
-- waits now.
pub record Puts {S : Type 0} (takes : Flow S)
    (s : S) (p text : List ℕ) (t : S) (q : List ℕ) : Type 0 where
  pub taken : List ℕ
  pub takes_them : takes s taken t
  pub rest : p ++ text ≡ taken ++ q

-- Where p waited before the sink, the sink failed: it took a beginning of what waited and of the
-- text.
pub record Breaks {S : Type 0} (takes : Flow S)
    (s : S) (p text : List ℕ) (t : S) : Type 0 where
  pub taken : List ℕ
  pub takes_them : takes s taken t
  pub lost : List ℕ
  pub rest : p ++ text ≡ taken ++ lost

-- a sink over memory: its bytes, for how many there is room, and how many writes have failed
pub record Collected : Type 0 where
  pub bytes : List ℕ
  pub room : ℕ
  pub failures : ℕ

-- A source over a reader of std: how many bytes it gives at most, whether it came to its end, how
-- many reads have failed, and the bytes that the reader has left, where std knows them.
pub record Counted : Type 0 where
  pub left : ℕ
  pub has_ended : Bool
  pub failures : ℕ
  pub known : Option (List ℕ)

-- how many bytes it gives at most: none after its end
abbrev pub left_of : Counted → ℕ
left_of s = if s.has_ended then 0 else s.left

-- These bytes were given: the first of those that the reader had left. It reaches its end only if
-- none of them is left, and gives nothing after it.
pub record GaveKnown (s : Counted) (xs : List ℕ) (t : Counted) : Type 0 where
  pub counted : t.left + length xs ≡ s.left
  pub known : Consumes s.known t.known xs
  pub ends : s.has_ended ≡ false → t.has_ended ≡ true → IsAtEnd t.known
  pub stays : s.has_ended ≡ true → (xs ≡ []) × (t.has_ended ≡ true) × (t.known ≡ s.known)

-- a sink over a writer of std: how many writes have failed, and the bytes that the writer holds,
-- where std knows them
pub record Written : Type 0 where
  pub failures : ℕ
  pub known : Option (List ℕ)

-- these bytes were taken: they stand after those that the writer held
abbrev pub TookKnown : Written → List ℕ → Written → Type 0
TookKnown s xs t = Appends s.known t.known xs
