-- Accepted proofs, step by step as they are judged.
use Rattle.mst_proof.proofs.Names.{Format, IfSome, AllByRecursion, FlatNode, spelling, digest_of, IsFlatNode, framing, place_of, LiesWithin, Expected, Step, Decided, Onward, step_of, first_expected, held_answer, IsAnswer}
use Rattle.std.specs.Prelude.{◌≡◌, ◌<◌, ℕ, List, [], ◌∷◌, Option, None, length, map}

-- a flat node is as expected: its digest is the one named above it, its layer lies below, and its
-- keys lie in the gap where it stands
pub record IsExpected (x : Expected) (n : FlatNode) : Type 0 where
  pub digest : digest_of (spelling n) ≡ x.digest
  pub layer : IfSome x.upper (λ upper. n.layer < upper)
  pub keys : LiesWithin x.span n

-- what a node says of the key is the answer, and no node follows, or it leads on to those that
-- follow
abbrev pub Says : Step → List FlatNode → Option (List ℕ) → (Expected → Type 0) → Type 0
Says (Decided answer) ns a lead = (ns ≡ []) × (a ≡ answer)
Says (Onward next) ns a lead = lead next

-- The flat nodes lead to the answer. Each is as expected. Each but the last has a child in the
-- key's gap, and the next one is expected to have its digest, to lie below, and to have its keys in
-- that gap. The last one holds the key with the answer, or has no child in the key's gap, and the
-- answer is none.
abbrev pub Leads : List ℕ → Expected → List FlatNode → Option (List ℕ) → Type 0
Leads k x [] a = ⊥
Leads k x (n ∷ ns) a = IsExpected x n × Says (step_of n.layer (place_of k x.span n)) ns a
    (λ next. Leads k next ns a)

-- of no nodes the root is that of the empty map
abbrev pub LeadsFrom : List ℕ → List ℕ → List FlatNode → Option (List ℕ) → Type 0
LeadsFrom root k [] a = (root ≡ digest_of []) × (a ≡ None)
LeadsFrom root k (n ∷ ns) a = Leads k (first_expected root) (n ∷ ns) a

-- the bytes frame the texts of flat nodes that lead from the root to the answer
pub record Accepted (format : Format) (root k bytes : List ℕ) (a : Option (List ℕ)) : Type 0 where
  pub nodes : List FlatNode
  pub flat : AllByRecursion (λ n. (n.format ≡ format) × IsFlatNode n) nodes
  pub few : length nodes < 256
  pub frames : bytes ≡ framing format (map spelling nodes) a
  pub leads : LeadsFrom root k nodes (held_answer format a)
  pub fit : IsAnswer format a
