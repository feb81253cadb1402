-- Lines that are answered one after another, by whatever answers them.
use Rattle.std.specs.Prelude.{◌≡◌, ℕ, List, [], ◌∷◌, ◌++◌, Option}
use Rattle.mst_devices.specs.Device.{Flow, Breaks}
use Rattle.mst_lines.specs.Lines.{complete, lines_of, kept}

-- which text what answers gave for what was kept of a line, from the one state to the other
abbrev pub Answering : Type 0 → Type 1
Answering L = L → Option (List ℕ) → List ℕ → L → Type 0

-- From the one state to the other what answers gave one answer for each line, in their order, and
-- the text is the answers one after another.
abbrev pub Replies : {L : Type 0} → Answering L → L → List (List ℕ) → List ℕ → L → Type 0
Replies answers a [] text b = (b ≡ a) × (text ≡ [])
Replies answers a (line ∷ lines) text b = (first : List ℕ) × (rest : List ℕ) × (c : _)
    × answers a (kept line) first c × Replies answers c lines rest b × (text ≡ first ++ rest)

-- The source gave the input, and the sink took an answer for each of its lines.
pub record Ran {S W L : Type 0}
    (gives : Flow S) (takes : Flow W) (answers : Answering L)
    (s : S) (w : W) (a : L) (t : S) (x : W) (b : L) : Type 0 where
  pub input : List ℕ
  pub given : gives s input t
  pub text : List ℕ
  pub replies : Replies answers a (lines_of input) text b
  pub taken : takes w text x

-- A device failed: the sink took a beginning of the answers to some first lines of what was read,
-- and if it did not fail itself, all the answers to all complete lines.
pub record Stopped {S W L : Type 0}
    (gives : Flow S) (takes : Flow W) (failures : W → ℕ) (answers : Answering L)
    (s : S) (w : W) (a : L) (t : S) (x : W) (b : L) : Type 0 where
  pub input : List ℕ
  pub given : gives s input t
  pub first : List (List ℕ)
  pub others : List (List ℕ)
  pub some : lines_of input ≡ first ++ others
  pub text : List ℕ
  pub replies : Replies answers a first text b
  pub breaks : Breaks takes w [] text x
  pub whole : failures x ≡ failures w → (first ≡ complete input) × takes w text x
