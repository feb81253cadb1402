-- When a proof is accepted for a root digest and a key, with an answer.
use Rattle.mst_key.specs.declared.format.Format.{Format}
use Rattle.std.specs.Prelude.{◌≡◌, ◌<◌, ◌⊎◌, ℕ, List, [], ◌∷◌, ◌++◌, Option, Some, None, length, map, IfSome, option_map}
use Rattle.std.specs.List.{AllByRecursion}
use Rattle.std.specs.declared.cmp.Ordering.TheVariants.{Less}
use Rattle.mst_key.specs.declared.format.Format.TheVariants.{One, Two}
use Rattle.mst_key.specs.Bytes.{IsValue}
use Rattle.mst_key.specs.Map.{key_cmp}
use Rattle.mst_node.specs.Text.{FlatEntry, FlatNode, spelling, digest_of, held_of}
use Rattle.mst_node.specs.Gaps.{IsBetween}
use Rattle.mst_node.specs.Grammar.{IsFlatNode}
use Rattle.mst_node.specs.Trail.{framing}

-- ---- one node

-- the text of a flat node has this digest, its layer lies below an upper one, and its keys between
-- two bounds; the upper layer and the bounds need not be there
pub record IsExpected (d : List ℕ) (upper : Option ℕ) (low high : Option (List ℕ))
    (n : FlatNode) : Type 0 where
  pub digest : digest_of (spelling n) ≡ d
  pub layer : IfSome upper (λ u. n.layer < u)
  pub keys : AllByRecursion (λ e. IsBetween low high e.key) n.entries

-- an entry of the flat node has the key, with this value
pub record Holds (n : FlatNode) (k v : List ℕ) : Type 0 where
  pub before : List FlatEntry
  pub entry : FlatEntry
  pub behind : List FlatEntry
  pub entries : n.entries ≡ before ++ entry ∷ behind
  pub key : entry.key ≡ k
  pub value : entry.held ≡ v

-- the key lies in the gap between these entries of the flat node: above the keys before it, and
-- below those after it
pub record IsInGap (n : FlatNode) (k : List ℕ) (before behind : List FlatEntry) : Type 0 where
  pub entries : n.entries ≡ before ++ behind
  pub lesser : AllByRecursion (λ e. key_cmp e.key k ≡ Less) before
  pub greater : AllByRecursion (λ e. key_cmp k e.key ≡ Less) behind

-- the child in a gap, by the entries after it: that of the first, or the node's last child
abbrev pub gap_child : List FlatEntry → Option (List ℕ) → Option (List ℕ)
gap_child [] tail = tail
gap_child (e ∷ behind) tail = e.child

-- the bounds of a gap: the nearest key on each side, or the node's own bound
abbrev pub gap_low : Option (List ℕ) → List FlatEntry → Option (List ℕ)
gap_low low [] = low
gap_low low (e ∷ before) = gap_low (Some e.key) before

abbrev pub gap_high : List FlatEntry → Option (List ℕ) → Option (List ℕ)
gap_high [] high = high
gap_high (e ∷ behind) high = Some e.key

-- ---- the nodes of a proof

-- the node holds the key, and is the last; the answer is its value
abbrev pub ShowsValue : List ℕ → FlatNode → List FlatNode → Option (List ℕ) → Type 0
ShowsValue k n ns a = (v : List ℕ) × Holds n k v × (ns ≡ []) × (a ≡ Some v)

-- the key's gap has no child, and the node is the last; the answer is absence
abbrev pub ShowsAbsence : List ℕ → FlatNode → List FlatNode → Option (List ℕ) → Type 0
ShowsAbsence k n ns a = (before : List FlatEntry) × (behind : List FlatEntry)
    × IsInGap n k before behind × (gap_child behind n.tail ≡ None) × (ns ≡ []) × (a ≡ None)

-- the key's gap has a child: its digest, the node's layer and the gap's bounds are expected of the
-- nodes that follow
abbrev pub LeadsOn : List ℕ → Option (List ℕ) → Option (List ℕ) → FlatNode
    → (List ℕ → Option ℕ → Option (List ℕ) → Option (List ℕ) → Type 0) → Type 0
LeadsOn k low high n rest = (before : List FlatEntry) × (behind : List FlatEntry) × (d : List ℕ)
    × IsInGap n k before behind × (gap_child behind n.tail ≡ Some d)
    × rest d (Some n.layer) (gap_low low before) (gap_high behind high)

-- the flat nodes lead to the answer, if this digest, upper layer and bounds are expected of the
-- first
abbrev pub Leads : List ℕ → List ℕ → Option ℕ → Option (List ℕ) → Option (List ℕ)
    → List FlatNode → Option (List ℕ) → Type 0
Leads k digest upper low high [] a = ⊥
Leads k digest upper low high (n ∷ ns) a =
    IsExpected digest upper low high n
    × (ShowsValue k n ns a ⊎ ShowsAbsence k n ns a ⊎ LeadsOn k low high n
    (λ d u l h. Leads k d u l h ns a))

-- of no nodes the root is that of the empty map; of the first node only the digest is expected
abbrev pub LeadsFrom : List ℕ → List ℕ → List FlatNode → Option (List ℕ) → Type 0
LeadsFrom root k [] a = (root ≡ digest_of []) × (a ≡ None)
LeadsFrom root k (n ∷ ns) a = Leads k root None None None (n ∷ ns) a

-- what a node holds of an answer: the value in format 1, its SHA-256 in format 2
abbrev pub held_answer : Format → Option (List ℕ) → Option (List ℕ)
held_answer format a = option_map (held_of format) a

-- in format 2 the proof may claim a value of any length
abbrev pub IsAnswer : Format → Option (List ℕ) → Type 0
IsAnswer One a = Unit {0}
IsAnswer Two a = IfSome a IsValue

-- the bytes frame the texts of flat nodes that lead from the root to the answer
pub record Accepted (format : Format) (root k bytes : List ℕ) (a : Option (List ℕ)) : Type 0 where
  pub nodes : List FlatNode
  pub flat : AllByRecursion (λ n. (n.format ≡ format) × IsFlatNode n) nodes
  pub few : length nodes < 256
  pub frames : bytes ≡ framing format (map spelling nodes) a
  pub leads : LeadsFrom root k nodes (held_answer format a)
  pub fit : IsAnswer format a
