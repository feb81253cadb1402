-- How far a run is at a point of it.
use Rattle.std.specs.Prelude.{◌≡◌, ◌≢◌, ℕ, List, [], ◌++◌, Option, Some}
use Rattle.mst_devices.specs.Device.{Flow, Puts, Breaks}
use Rattle.mst_lines.specs.Lines.{complete, remainder}
use Rattle.mst_lines.specs.Runs.{Answering, Replies}

-- what was kept of a line was answered, and the answer was put
pub record Answered {W L : Type 0} (takes : Flow W) (answers : Answering L)
    (line : Option (List ℕ)) (s : W) (p : List ℕ) (a : L)
    (t : W) (q : List ℕ) (b : L) : Type 0 where
  pub text : List ℕ
  pub reply : answers a line text b
  pub puts : Puts takes s p text t q

-- what was kept of a line was answered, and the sink failed
pub record Lost {W L : Type 0} (takes : Flow W) (answers : Answering L)
    (line : Option (List ℕ)) (s : W) (p : List ℕ) (a : L) (t : W) (b : L) : Type 0 where
  pub text : List ℕ
  pub reply : answers a line text b
  pub breaks : Breaks takes s p text t

-- From s, w and a on the source gave bytes, of which some are left; the lines before these are
-- answered.
pub record Reached {S W L : Type 0}
    (gives : Flow S) (takes : Flow W) (answers : Answering L)
    (s : S) (w : W) (a : L) (left : List ℕ) (t : S) (x : W) (p : List ℕ) (b : L) : Type 0 where
  pub input : List ℕ
  pub given : gives s input t
  pub done : List ℕ
  pub split : input ≡ done ++ left
  pub ended : remainder done ≡ []
  pub text : List ℕ
  pub replies : Replies answers a (complete done) text b
  pub puts : Puts takes w [] text x p

-- what was kept of the rest of the input: it is answered where it is not empty
pub record Rests {L : Type 0} (answers : Answering L)
    (line : Option (List ℕ)) (a : L) (text : List ℕ) (b : L) : Type 0 where
  pub empty : line ≡ Some [] → (b ≡ a) × (text ≡ [])
  pub reply : line ≢ Some [] → answers a line text b

-- The rest was answered where it is not empty, and the sink took all that waited, and the answer.
pub record Closed {W L : Type 0} (takes : Flow W) (answers : Answering L)
    (line : Option (List ℕ)) (s : W) (p : List ℕ) (a : L) (t : W) (b : L) : Type 0 where
  pub text : List ℕ
  pub rests : Rests answers line a text b
  pub taken : takes s (p ++ text) t

-- the same, and the sink failed
pub record NotClosed {W L : Type 0} (takes : Flow W) (answers : Answering L)
    (line : Option (List ℕ)) (s : W) (p : List ℕ) (a : L) (t : W) (b : L) : Type 0 where
  pub text : List ℕ
  pub rests : Rests answers line a text b
  pub breaks : Breaks takes s p text t
