-- The tree of a map has the map's pairs, and it is the one Merkle search tree that has them.
use Rattle.mst_node.proofs.Names.{◌≡◌, ◌≢◌, ℕ, zero, suc, ◌+◌, ◌<◌, ◌≤◌, Bool, true, false, ◌==◌, cond, ◌⊎◌, inl, inr, List, [], ◌∷◌, ◌++◌, length, refl, sym, ◌∙◌, ap, arith, length-append, append_assoc, nat_tests, append-nil, AllByRecursion, layer_in, Pair, Format, Tree, empty, node, Entries, last, entry, layers, greatest, pairs, entries_pairs, entry_count, IsMst, IsMstEntries, IsUnder}
use Rattle.mst_node.specs.Tree.{entries_of, tree_within, tree}
use Rattle.mst_node.proofs.TreeEquation.{Has, has_greatest, tree_some, tree-no_pairs, entries_at_layer, entries_other}

-- ---- the pairs of the tree

pub entries_pairs_same : (layer : List ℕ → ℕ) (below : List Pair → Tree) (l k : ℕ)
    → ((g : List Pair) → length g ≤ k → pairs (below g) ≡ g) → (gap m : List Pair)
    → length gap + length m ≤ k → entries_pairs (entries_of layer below l gap m) ≡ gap ++ m
unfolding entries_of
entries_pairs_same layer below l k same gap [] h = same gap (omega arith) ∙ sym (append-nil gap)
entries_pairs_same layer below l k same gap (p ∷ m) h = go (layer p.0 == l)
    (ap (λ (g : List Pair). g ++ p ∷ entries_pairs (entries_of layer below l [] m))
    (same gap (omega arith)) ∙ ap (λ (r : List Pair). gap ++ p ∷ r)
    (entries_pairs_same layer below l k same [] m (omega arith)))
    (entries_pairs_same layer below l k same (gap ++ p ∷ []) m
    (omega (arith, length-append gap (p ∷ []))) ∙ append_assoc gap (p ∷ []) m)
  where
    go : (t : Bool) → entries_pairs (entry (below gap) p.0 p.1 (entries_of layer below l [] m))
        ≡ gap ++ p ∷ m → entries_pairs (entries_of layer below l (gap ++ p ∷ []) m) ≡ gap ++ p ∷ m
        → entries_pairs (cond t (entry (below gap) p.0 p.1 (entries_of layer below l [] m))
        (entries_of layer below l (gap ++ p ∷ []) m)) ≡ gap ++ p ∷ m
    go true a b = a
    go false a b = b

pub entries_pairs_has : (layer : List ℕ → ℕ) (below : List Pair → Tree) (l k : ℕ)
    → ((g : List Pair) → length g ≤ k → pairs (below g) ≡ g) → (gap m : List Pair) → Has layer l m
    → length gap + length m ≤ suc k → entries_pairs (entries_of layer below l gap m) ≡ gap ++ m
unfolding entries_of
entries_pairs_has layer below l k same gap [] has h = absurd has
entries_pairs_has layer below l k same gap (p ∷ m) has h = go (layer p.0 == l) refl has
    (ap (λ (g : List Pair). g ++ p ∷ entries_pairs (entries_of layer below l [] m))
    (same gap (omega arith)) ∙ ap (λ (r : List Pair). gap ++ p ∷ r)
    (entries_pairs_same layer below l k same [] m (omega arith)))
    (λ is. entries_pairs_has layer below l k same (gap ++ p ∷ []) m is
    (omega (arith, length-append gap (p ∷ []))) ∙ append_assoc gap (p ∷ []) m)
  where
    go : (t : Bool) → (layer p.0 == l) ≡ t → Has layer l (p ∷ m)
        → entries_pairs (entry (below gap) p.0 p.1 (entries_of layer below l [] m)) ≡ gap ++ p ∷ m
        → (Has layer l m → entries_pairs (entries_of layer below l (gap ++ p ∷ []) m) ≡ gap ++ p
        ∷ m) → entries_pairs (cond t (entry (below gap) p.0 p.1 (entries_of layer below l [] m))
        (entries_of layer below l (gap ++ p ∷ []) m)) ≡ gap ++ p ∷ m
    go true e is a b = a
    go false e (inl is) a b = absurd (grind (arith, nat_tests))
    go false e (inr is) a b = b is

pub pairs_within : (layer : List ℕ → ℕ) (format : Format) (n : ℕ) (m : List Pair) → length m ≤ n
    → pairs (tree_within layer format n m) ≡ m
unfolding tree_within
pairs_within layer format n [] h = refl
pairs_within layer format zero (p ∷ m) h = absurd (omega arith)
pairs_within layer format (suc n) (p ∷ m) h =
    entries_pairs_has layer (tree_within layer format n) (greatest (layers layer (p ∷ m))) n
    (pairs_within layer format n) [] (p ∷ m) (has_greatest layer p m) (omega arith)

-- the tree of a map has its pairs
pub pairs_tree : (format : Format) (m : List Pair) → pairs (tree format m) ≡ m
unfolding tree
pairs_tree format m = pairs_within (layer_in format) format (length m) m (omega arith)

-- ---- one tree for each map

all-append : (P : Pair → Type 0) (xs ys : List Pair) → AllByRecursion P xs → AllByRecursion P ys
    → AllByRecursion P (xs ++ ys)
all-append P [] ys a b = b
all-append P (x ∷ xs) ys a b = (a.0, all-append P xs ys a.1 b)

all-map : (P Q : Pair → Type 0) → ((p : Pair) → P p → Q p) → (xs : List Pair) → AllByRecursion P xs
    → AllByRecursion Q xs
all-map P Q f [] a = tt
all-map P Q f (x ∷ xs) a = (f x a.0, all-map P Q f xs a.1)

-- the keys of a tree under a layer have lower layers
mutual
  pub keys_under : (t : Tree) (format : Format) (l : ℕ) → IsMst format t → IsUnder l t
      → AllByRecursion (λ p. layer_in format p.0 < l) (pairs t)
  keys_under empty format l mst under = tt
  keys_under (node g k es) format l mst under =
      all-map _ _ (λ p (h : layer_in format p.0 ≤ k). omega arith) (entries_pairs es)
      (keys_upto es format k mst.2)

  pub keys_upto : (es : Entries) (format : Format) (l : ℕ) → IsMstEntries format l es
      → AllByRecursion (λ p. layer_in format p.0 ≤ l) (entries_pairs es)
  keys_upto (last child) format l mst = all-map _ _ (λ p (h : layer_in format p.0 < l). omega arith)
      (pairs child) (keys_under child format l mst.1 mst.0)
  keys_upto (entry child key value rest) format l mst =
      all-append _ (pairs child) ((key, value) ∷ entries_pairs rest)
      (all-map _ _ (λ p (h : layer_in format p.0 < l). omega arith) (pairs child)
      (keys_under child format l mst.1 mst.0))
      (omega (arith, mst.2), keys_upto rest format l mst.3)

-- pairs of lower layers go into the gap
pub gap-lower : (format : Format) (l : ℕ) (gap xs m : List Pair)
    → AllByRecursion (λ p. layer_in format p.0 < l) xs → entries_of (layer_in format) (tree format)
    l gap (xs ++ m) ≡ entries_of (layer_in format) (tree format) l (gap ++ xs) m
gap-lower format l gap [] m low =
    ap (λ (g : List Pair). entries_of (layer_in format) (tree format) l g m) (sym (append-nil gap))
gap-lower format l gap (x ∷ xs) m low =
    let other : layer_in format x.0 ≢ l = λ e. omega (arith, e, low.0) in
    entries_other (layer_in format) (tree format) l gap x (xs ++ m) other
    ∙ gap-lower format l (gap ++ x ∷ []) xs m low.1
    ∙ ap (λ (g : List Pair). entries_of (layer_in format) (tree format) l g m)
    (append_assoc gap (x ∷ []) xs)

greatest-le : (format : Format) (l : ℕ) (m : List Pair)
    → AllByRecursion (λ p. layer_in format p.0 ≤ l) m → greatest (layers (layer_in format) m) ≤ l
greatest-le format l [] all = omega arith
greatest-le format l (p ∷ m) all = omega (arith, all.0, greatest-le format l m all.1)

greatest-ge : (format : Format) (xs m : List Pair) (p : Pair) → layer_in format p.0 ≤ greatest
    (layers (layer_in format) (xs ++ p ∷ m))
greatest-ge format [] m p = omega arith
greatest-ge format (x ∷ xs) m p = omega (arith, greatest-ge format xs m p)

entries_end : (format : Format) (l : ℕ) (gap : List Pair) → entries_of (layer_in format)
    (tree format) l gap [] ≡ last (tree format gap)
unfolding entries_of
entries_end format l gap = refl

-- entries with a key have its layer as the greatest
entries_greatest : (es : Entries) (format : Format) (l : ℕ) → 0 < entry_count es
    → IsMstEntries format l es → (0 < length (entries_pairs es))
    × (greatest (layers (layer_in format) (entries_pairs es)) ≡ l)
entries_greatest (last child) format l some mst = absurd (omega arith)
entries_greatest (entry child key value rest) format l some mst = (
  omega (arith, length-append (pairs child) ((key, value) ∷ entries_pairs rest)),
  omega (
    arith,
    mst.2,
    greatest-le format l (entries_pairs (entry child key value rest))
        (keys_upto (entry child key value rest) format l mst),
    greatest-ge format (pairs child)
        (entries_pairs rest) (key, value),
  ),
)

-- a Merkle search tree is the tree of its pairs
mutual
  pub tree_unique : (t : Tree) (format : Format) → IsMst format t → tree format (pairs t) ≡ t
  tree_unique empty format mst = tree-no_pairs format [] refl
  tree_unique (node g l es) format mst =
      let some = entries_greatest es format l mst.1 mst.2 in
      tree_some format (entries_pairs es) some.0
      ∙ ap (λ (k : ℕ). node format k
      (entries_of (layer_in format) (tree format) k [] (entries_pairs es))) some.1
      ∙ ap (node format l) (entries_unique es format l mst.2)
      ∙ ap (λ (f : Format). node f l es) (sym mst.0)

  pub entries_unique : (es : Entries) (format : Format) (l : ℕ) → IsMstEntries format l es
      → entries_of (layer_in format) (tree format) l [] (entries_pairs es) ≡ es
  entries_unique (last child) format l mst =
      ap (entries_of (layer_in format) (tree format) l []) (sym (append-nil (pairs child)))
      ∙ gap-lower format l [] (pairs child) [] (keys_under child format l mst.1 mst.0)
      ∙ entries_end format l (pairs child)
      ∙ ap last (tree_unique child format mst.1)
  entries_unique (entry child key value rest) format l mst =
      gap-lower format l [] (pairs child) ((key, value) ∷ entries_pairs rest)
      (keys_under child format l mst.1 mst.0)
      ∙ entries_at_layer (layer_in format) (tree format) l (pairs child) (key, value)
      (entries_pairs rest) mst.2
      ∙ ap (λ (t : Tree). entry t key value
      (entries_of (layer_in format) (tree format) l [] (entries_pairs rest)))
      (tree_unique child format mst.1)
      ∙ ap (entry child key value) (entries_unique rest format l mst.3)

-- ---- the tree of a map is a Merkle search tree

-- how long the gap and the other pairs may be: each gap has at most k pairs
abbrev Room : (List ℕ → ℕ) → ℕ → ℕ → List Pair → List Pair → Type 0
Room layer l k gap m = (length gap + length m ≤ k)
    ⊎ (Has layer l m × (length gap + length m ≤ suc k))

room_gap : (layer : List ℕ → ℕ) (l k : ℕ) (gap m : List Pair) (p : Pair) → Room layer l k gap
    (p ∷ m) → (length gap ≤ k) × (length m ≤ k)
room_gap layer l k gap m p (inl h) = (omega arith, omega arith)
room_gap layer l k gap m p (inr h) = (omega (arith, h.1), omega (arith, h.1))

room_on : (layer : List ℕ → ℕ) (l k : ℕ) (gap m : List Pair) (p : Pair) → layer p.0 ≢ l
    → Room layer l k gap (p ∷ m) → Room layer l k (gap ++ p ∷ []) m
room_on layer l k gap m p e (inl h) = inl (omega (arith, length-append gap (p ∷ [])))
room_on layer l k gap m p e (inr (inl i, h)) = absurd (e i)
room_on layer l k gap m p e (inr (inr i, h)) = inr (i, omega (arith, length-append gap (p ∷ [])))

room_end : (layer : List ℕ → ℕ) (l k : ℕ) (gap : List Pair) → Room layer l k gap [] → length gap ≤ k
room_end layer l k gap (inl h) = omega arith
room_end layer l k gap (inr h) = absurd h.0

entries_mst : (format : Format) (below : List Pair → Tree) (l k : ℕ)
    → ((g : List Pair) → length g ≤ k → IsMst format (below g))
    → ((g : List Pair) → AllByRecursion (λ p. layer_in format p.0 < l) g → IsUnder l (below g))
    → (gap m : List Pair) → Room (layer_in format) l k gap m
    → AllByRecursion (λ p. layer_in format p.0 < l) gap
    → AllByRecursion (λ p. layer_in format p.0 ≤ l) m → IsMstEntries format l
    (entries_of (layer_in format) below l gap m)
unfolding entries_of
entries_mst format below l k mst under gap [] room low upto =
    (under gap low, mst gap (room_end (layer_in format) l k gap room))
entries_mst format below l k mst under gap (p ∷ m) room low upto =
    go (layer_in format p.0 == l) refl
    (entries_mst format below l k mst under [] m
    (inl (omega (arith, (room_gap (layer_in format) l k gap m p room).1))) tt upto.1)
    (λ other. entries_mst format below l k mst under (gap ++ p ∷ []) m
    (room_on (layer_in format) l k gap m p other room)
    (all-append _ gap (p ∷ []) low (omega (arith, upto.0, other), tt)) upto.1)
  where
    go : (t : Bool) → (layer_in format p.0 == l) ≡ t → IsMstEntries format l
        (entries_of (layer_in format) below l [] m)
        → (layer_in format p.0 ≢ l → IsMstEntries format l
        (entries_of (layer_in format) below l (gap ++ p ∷ []) m)) → IsMstEntries format l
        (cond t (entry (below gap) p.0 p.1 (entries_of (layer_in format) below l [] m))
        (entries_of (layer_in format) below l (gap ++ p ∷ []) m))
    go true e a b = (
      under gap low,
      mst gap (room_gap (layer_in format) l k gap m p room).0,
      grind (arith, nat_tests),
      a,
    )
    go false e a b = b (grind (arith, nat_tests))

entries_some : (layer : List ℕ → ℕ) (below : List Pair → Tree) (l : ℕ) (gap m : List Pair)
    → Has layer l m → 0 < entry_count (entries_of layer below l gap m)
unfolding entries_of
entries_some layer below l gap [] has = absurd has
entries_some layer below l gap (p ∷ m) has =
    go (layer p.0 == l) refl has (entries_some layer below l (gap ++ p ∷ []) m)
  where
    go : (t : Bool) → (layer p.0 == l) ≡ t → Has layer l (p ∷ m)
        → (Has layer l m → 0 < entry_count (entries_of layer below l (gap ++ p ∷ []) m))
        → 0 < entry_count (cond t (entry (below gap) p.0 p.1 (entries_of layer below l [] m))
        (entries_of layer below l (gap ++ p ∷ []) m))
    go true e has b = omega arith
    go false e (inl i) b = absurd (grind (arith, nat_tests))
    go false e (inr i) b = b i

all-greatest : (layer : List ℕ → ℕ) (m : List Pair) (l : ℕ) → greatest (layers layer m) ≤ l
    → AllByRecursion (λ p. layer p.0 ≤ l) m
all-greatest layer [] l h = tt
all-greatest layer (p ∷ m) l h = (omega arith, all-greatest layer m l (omega arith))

greatest-lt : (format : Format) (l : ℕ) (p : Pair) (m : List Pair)
    → AllByRecursion (λ q. layer_in format q.0 < l) (p ∷ m)
    → greatest (layers (layer_in format) (p ∷ m)) < l
greatest-lt format l p [] all = omega (arith, all.0)
greatest-lt format l p (q ∷ m) all = omega (arith, all.0, greatest-lt format l q m all.1)

under_within : (format : Format) (n l : ℕ) (m : List Pair)
    → AllByRecursion (λ p. layer_in format p.0 < l) m
    → IsUnder l (tree_within (layer_in format) format n m)
unfolding tree_within
under_within format n l [] low = tt
under_within format zero l (p ∷ m) low = tt
under_within format (suc n) l (p ∷ m) low = greatest-lt format l p m low

pub mst_within : (format : Format) (n : ℕ) (m : List Pair) → length m ≤ n
    → IsMst format (tree_within (layer_in format) format n m)
unfolding tree_within
mst_within format n [] h = tt
mst_within format zero (p ∷ m) h = tt
mst_within format (suc n) (p ∷ m) h =
    let l = greatest (layers (layer_in format) (p ∷ m)) in
    let has = has_greatest (layer_in format) p m in (
      refl,
      entries_some (layer_in format) (tree_within (layer_in format) format n) l [] (p ∷ m) has,
      entries_mst format (tree_within (layer_in format) format n) l n (mst_within format n)
          (under_within format n l) [] (p ∷ m) (inr (has, omega arith)) tt
          (all-greatest (layer_in format) (p ∷ m) l (omega arith)),
    )

pub tree_mst : (format : Format) (m : List Pair) → IsMst format (tree format m)
unfolding tree
tree_mst format m = mst_within format (length m) m (omega arith)
