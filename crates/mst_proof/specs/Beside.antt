-- A proof together with the tree of the map.
use Rattle.mst_key.specs.declared.format.Format.{Format}
use Rattle.std.specs.Prelude.{◌≡◌, ◌≤◌, ◌⊎◌, ℕ, List, [], ◌∷◌, ◌++◌, Option, Some, None, length, map, Contains}
use Rattle.mst_key.specs.declared.format.Format.TheVariants.{One, Two}
use Rattle.std.specs.declared.result.Result.TheVariants.{Ok}
use Rattle.mst_key.specs.Map.{key_cmp, IsMap, map_get}
use Rattle.mst_node.specs.declared.node.Node.{Node}
use Rattle.mst_node.specs.Tree.{Tree, empty, node, Entries, last, entry, pairs, subtrees, IsMst}
use Rattle.mst_node.specs.Shape.{tree_of}
use Rattle.mst_node.specs.Text.{digest, text, highest_count}
use Rattle.mst_node.specs.Trail.{by_order, nodes_met}
use Rattle.mst_node.specs.Collision.{Collision}
use Rattle.mst_proof.specs.declared.expected.Expected.{Expected}
use Rattle.mst_key.specs.Map.{Pair}
use Rattle.mst_proof.specs.Accepted.{held_answer}
use Rattle.mst_proof.specs.declared.claim.Claim.{Claim}
use Rattle.mst_proof.specs.declared.claim.Claim.TheVariants.{Nothing, Absence, Given, Unfit}
use Rattle.mst_proof.specs.Frame.{◌>>◌}
use Rattle.mst_proof.specs.Theorem.{claim_in, texts_of, TextsCollide, ValuesCollide}
use Rattle.mst_proof.specs.Verdict.{followed, settled, verdict}

-- the tree of an optional node
abbrev pub top_of : (format : Format) {A : Type 0} → Option (Node A) → Tree
top_of format None = empty
top_of format (Some n) = tree_of format n

-- the tree in the key's gap; none if an entry holds the key
abbrev pub gap_in : List ℕ → Entries → Tree
gap_in k (last child) = child
gap_in k (entry child key value rest) = by_order (key_cmp k key) child empty (gap_in k rest)

abbrev pub gap_tree : List ℕ → Tree → Tree
gap_tree k empty = empty
gap_tree k (node format l es) = gap_in k es

-- the value of the entry that holds the key; none if the key lies in a gap
abbrev pub held_in : List ℕ → Entries → Option (List ℕ)
held_in k (last child) = None
held_in k (entry child key value rest) = by_order (key_cmp k key) None (Some value) (held_in k rest)

abbrev pub held_value : List ℕ → Tree → Option (List ℕ)
held_value k empty = None
held_value k (node format l es) = held_in k es

-- a tree of a map of at most 65,535 pairs
pub record IsSmall (format : Format) (t : Tree) : Type 0 where
  pub mst : IsMst format t
  pub map : IsMap (pairs t)
  pub few : length (pairs t) ≤ highest_count

-- for a tree's digest the proof shows no answer but that of the tree's pairs
abbrev pub ShowsNoOther : (format : Format) → Tree → List ℕ → List ℕ → Type 0
ShowsNoOther format t k proof =
    (answer : Option (List ℕ)) → verdict format (digest t) k proof ≡ Ok answer
    → answer ≡ map_get (pairs t) k

-- what a node holds of a map's answer
abbrev pub looked : Format → List Pair → List ℕ → Option (List ℕ)
looked format m k = held_answer format (map_get m k)

-- so do these texts with this claim, whatever is expected of the first text in addition to that
-- digest
abbrev pub NoOther : (format : Format) → Claim → Tree → List ℕ → List (List ℕ) → Type 0
NoOther format claim t k ts = (x : Expected) (answer : Option (List ℕ)) → x.digest ≡ digest t
    → (followed format k x ts >> settled format claim) ≡ Ok answer → answer ≡ map_get (pairs t) k

-- a text and the text at its place on the tree's way to the key are a collision, or the value that
-- is claimed and the tree's value of the key
abbrev pub CollidesBeside : Claim → List ℕ → List (List ℕ) → Tree → List ℕ → List ℕ → Type 0
CollidesBeside claim k ts t one other =
    TextsCollide ts (map text (nodes_met k t)) one other
    ⊎ ValuesCollide claim (map_get (pairs t) k) one other

-- ---- all texts that such a pair may be of

-- the value of a claim
abbrev pub claimed : Claim → List (List ℕ)
claimed Nothing = []
claimed Absence = []
claimed (Given value) = value ∷ []
claimed Unfit = []

-- in format 2 the value that the proof claims, and those of the tree's pairs
abbrev pub values_named : Format → List ℕ → Tree → List (List ℕ)
values_named One proof t = []
values_named Two proof t = claimed (claim_in Two proof) ++ map (λ p. p.1) (pairs t)

-- the texts of a proof, those of a tree's nodes, the empty text, and in format 2 the values
abbrev pub texts_named : Format → List ℕ → Tree → List (List ℕ)
texts_named format proof t =
    texts_of format proof ++ (map text (subtrees t) ++ [] ∷ values_named format proof t)

-- two of the texts that are named are a collision
pub record CollidesAmong (ts : List (List ℕ)) (one other : List ℕ) : Type 0 where
  pub one_in : Contains ts one
  pub other_in : Contains ts other
  pub collision : Collision one other
