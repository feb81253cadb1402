-- Which nodes of a tree that stands are kept: a mark for each row, set at the head of a kept node.
use Rattle.std.specs.Prelude.{◌≡◌, ◌⊎◌, ◌↔◌, ◌+◌, ℕ, zero, suc, Bool, true, false, if◌then◌else◌, List, [], ◌∷◌, ◌++◌, slice_get}
use Rattle.std.specs.Option.{option_map_or}
use Rattle.mst_arena.specs.Lists.{In}
use Rattle.mst_arena.specs.Standing.{Placed, none, head, Chain, end, cell}

-- a row past the end of the marks has none
abbrev pub is_marked : List Bool → ℕ → Bool
is_marked marks row = option_map_or (λ mark. mark) (slice_get marks row) false

-- the second marks are the first with one more at the row of each of these links that is not 0
abbrev pub AddsMarks : List Bool → List Bool → List ℕ → Type 0
AddsMarks old new links =
    (row : ℕ) → (is_marked new row ≡ true) ↔ (is_marked old row ≡ true) ⊎ In (row + 1) links

-- nothing stands at the link, or a kept node
abbrev pub stays : List Bool → ℕ → Bool
stays marks zero = true
stays marks (suc row) = is_marked marks row

-- the rows of a placed tree but for those of kept nodes and of all below them
abbrev mutual
  pub fallen : List Bool → Placed → List ℕ
  fallen marks none = []
  fallen marks (head at layer chain) = if is_marked marks at then []
      else at ∷ chain_fallen marks chain

  pub chain_fallen : List Bool → Chain → List ℕ
  chain_fallen marks (end child) = fallen marks child
  chain_fallen marks (cell at child key value rest) =
      at ∷ fallen marks child ++ chain_fallen marks rest
