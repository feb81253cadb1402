-- What one reading of a node's text says of a key.
use Rattle.std.specs.Prelude.{◌≡◌, ◌↔◌, ℕ, List, IsTrue}
use Rattle.mst_node.specs.Text.{FlatNode}
use Rattle.mst_node.specs.KeyPlace.{place_of, LiesWithin}
use Rattle.mst_node.specs.declared.finding.Finding.{Finding}
use Rattle.mst_node.specs.declared.key_place.Span.{Span}

-- what was found of a key in a flat node with this span
pub record IsFound (k : List ℕ) (span : Span) (n : FlatNode) (f : Finding) : Type 0 where
  pub layer : f.layer ≡ n.layer
  pub within : IsTrue f.within ↔ LiesWithin span n
  pub place : f.place ≡ place_of k span n
