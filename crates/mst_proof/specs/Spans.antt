-- The nodes of a tree, each with the span in which it stands, and those in whose span a key falls.
use Rattle.std.specs.Prelude.{ℕ, List, [], ◌∷◌, ◌++◌, Option, Some, None, map, filter}
use Rattle.mst_node.specs.Tree.{Tree, empty, node, Entries, last, entry}
use Rattle.mst_node.specs.declared.key_place.Span.{Span}
use Rattle.mst_proof.specs.Verdict.{is_inside}

-- each node before those below it; a node in a gap stands between the keys next to the gap
abbrev mutual
  pub spans : Option (List ℕ) → Option (List ℕ) → Tree → List (Span × Tree)
  spans low high empty = []
  spans low high (node format l es) =
      (record { low = low; high = high }, node format l es) ∷ spans_in low high es

  pub spans_in : Option (List ℕ) → Option (List ℕ) → Entries → List (Span × Tree)
  spans_in low high (last child) = spans low high child
  spans_in low high (entry child key value rest) =
      spans low (Some key) child ++ spans_in (Some key) high rest

-- the nodes in whose span the key falls, from the top down
abbrev pub nodes_around : List ℕ → Tree → List Tree
nodes_around k t = map (λ s. s.1) (filter (λ s. is_inside s.0 k) (spans None None t))
