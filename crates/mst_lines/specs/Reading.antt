-- How a line is cut from what was read, while what waits before a sink is put.
use Rattle.std.specs.Prelude.{◌≡◌, ℕ, List, [], ◌∷◌, ◌++◌, Option}
use Rattle.mst_devices.specs.Device.{Flow, Puts, Breaks}
use Rattle.mst_lines.specs.Lines.{IsWithout, kept}

-- Of the bytes that were left, and those that the source gave, the first line is kept up to its
-- newline, and the others are left.
pub record Cuts {S W : Type 0} (gives : Flow S) (takes : Flow W)
    (left : List ℕ) (s : S) (w : W) (p : List ℕ)
    (k : Option (List ℕ)) (others : List ℕ) (t : S) (x : W) (q : List ℕ) : Type 0 where
  pub input : List ℕ
  pub given : gives s input t
  pub line : List ℕ
  pub without : IsWithout 10 line
  pub kept_is : k ≡ kept line
  pub cut : left ++ input ≡ line ++ 10 ∷ others
  pub puts : Puts takes w p [] x q

-- The source ended. The bytes that were left, and those that it gave, have no newline, and are
-- kept; all that waited was taken.
pub record Ends {S W : Type 0} (gives : Flow S) (takes : Flow W)
    (left : List ℕ) (s : S) (w : W) (p : List ℕ)
    (k : Option (List ℕ)) (t : S) (x : W) : Type 0 where
  pub input : List ℕ
  pub given : gives s input t
  pub without : IsWithout 10 (left ++ input)
  pub kept_is : k ≡ kept (left ++ input)
  pub taken : takes w p x

-- A device failed. The bytes that were left, and those that the source gave, have no newline; where
-- the sink did not fail, all that waited was taken.
pub record Fails {S W : Type 0} (gives : Flow S) (takes : Flow W) (failures : W → ℕ)
    (left : List ℕ) (s : S) (w : W) (p : List ℕ) (t : S) (x : W) : Type 0 where
  pub input : List ℕ
  pub given : gives s input t
  pub without : IsWithout 10 (left ++ input)
  pub breaks : Breaks takes w p [] x
  pub whole : failures x ≡ failures w → takes w p x

-- Of the bytes that were left, and those that the source gave, the first are kept, and the others
-- are left. There is no newline among the first.
pub record Goes {S W : Type 0} (gives : Flow S) (takes : Flow W)
    (left : List ℕ) (s : S) (w : W) (p : List ℕ)
    (k : Option (List ℕ)) (others : List ℕ) (t : S) (x : W) (q : List ℕ) : Type 0 where
  pub input : List ℕ
  pub given : gives s input t
  pub line : List ℕ
  pub without : IsWithout 10 line
  pub kept_is : k ≡ kept line
  pub cut : left ++ input ≡ line ++ others
  pub puts : Puts takes w p [] x q
