-- The ages of the rows of a tree are known to each desk that says of these rows what the old one
-- said.
use Rattle.mst_words.proofs.Names.{◌≡◌, ℕ, ◌≤◌, List, length, ◌∙◌, Format, History, reaches, Life, In, HasAges}
use Rattle.mst_key.proofs.SpanLaws.{contains-all}
use Rattle.mst_arena.specs.Standing.{Placed, used}
use Rattle.mst_arena.specs.Ages.{placed_nodes, HasAge}
use Rattle.mst_arena.proofs.NodeRows.{all_contained, top_inside}

-- two desks say of these rows that the same versions reach them, up to the last of the history
abbrev pub SameAges : List Life → List Life → History → List ℕ → Type 0
SameAges lives lives' h rows = (x v : ℕ) → In x rows → v ≤ length h → reaches lives' v x ≡ reaches
    lives v x

pub ages_to : (first : Format) (lives lives' : List Life) (h : History) (p : Placed)
    → SameAges lives lives' h (used p) → HasAges first lives h p → HasAges first lives' h p
ages_to first lives lives' h p same ages = all_contained (HasAge first lives' h) (placed_nodes p)
    (λ q has r v i le. same r v (top_inside p q has r i) le ∙ contains-all (HasAge first lives h)
    (placed_nodes p) q ages has r v i le)
