-- The tree of a map by its equation.
use Rattle.mst_node.proofs.Names.{◌≡◌, ℕ, zero, suc, ◌+◌, ◌<◌, ◌≤◌, max, Bool, true, false, ◌==◌, cond, ◌⊎◌, inl, inr, List, [], ◌∷◌, ◌++◌, length, refl, sym, ◌∙◌, ap, subst, arith, length-append, nat_tests, ◌≢◌, ◌-◌, get_or, take, drop, length-drop, slice_range, common_steps, take_more, TreeEntry, with_entries, layer_in, Pair, Format, Tree, empty, node, Entries, last, entry, layers, greatest}
use Rattle.std.proofs.Common.{eq-eqb}
use Rattle.std.proofs.Common.{add-one}
use Rattle.std.proofs.Math.Seq.{drop-cons}
use Rattle.std.proofs.lemmas.List.{get_or-drop}
use Rattle.mst_node.specs.Tree.{entries_of, tree_within, tree}

-- a pair of the list has the layer
abbrev pub Has : (List ℕ → ℕ) → ℕ → List Pair → Type 0
Has layer l [] = ⊥
Has layer l (p ∷ m) = (layer p.0 ≡ l) ⊎ Has layer l m

max_cases : (x y : ℕ) → (max x y ≡ x) ⊎ (max x y ≡ y)
max_cases x y = grind arith

-- the greatest layer is that of a pair
pub has_greatest : (layer : List ℕ → ℕ) (p : Pair) (m : List Pair)
    → Has layer (greatest (layers layer (p ∷ m))) (p ∷ m)
has_greatest layer p [] = inl (omega arith)
has_greatest layer p (q ∷ m) = elim (max_cases (layer p.0) (greatest (layers layer (q ∷ m)))) [
  | inl e ↦ inl (sym e)
  | inr e ↦ inr (let P : ℕ → Type 0 = λ l. Has layer l (q ∷ m) in
      subst P (sym e) (has_greatest layer q m))
]

-- two functions that agree on the gaps make the same entries
pub entries_same : (layer : List ℕ → ℕ) (a b : List Pair → Tree) (l k : ℕ)
    → ((g : List Pair) → length g ≤ k → a g ≡ b g) → (gap m : List Pair) → length gap + length m ≤ k
    → entries_of layer a l gap m ≡ entries_of layer b l gap m
unfolding entries_of
entries_same layer a b l k same gap [] h = ap last (same gap (omega arith))
entries_same layer a b l k same gap (p ∷ m) h =
    let here : a gap ≡ b gap = same gap (omega arith) in
    let there : entries_of layer a l [] m ≡ entries_of layer b l [] m =
    entries_same layer a b l k same [] m (omega arith) in
    let on : entries_of layer a l (gap ++ p ∷ []) m ≡ entries_of layer b l (gap ++ p ∷ []) m =
    entries_same layer a b l k same (gap ++ p ∷ []) m
    (omega (arith, length-append gap (p ∷ []))) in
    cc

-- if a pair has the layer, each gap is shorter than the list
pub entries_same_has : (layer : List ℕ → ℕ) (a b : List Pair → Tree) (l k : ℕ)
    → ((g : List Pair) → length g ≤ k → a g ≡ b g) → (gap m : List Pair) → Has layer l m
    → length gap + length m ≤ suc k → entries_of layer a l gap m ≡ entries_of layer b l gap m
unfolding entries_of
entries_same_has layer a b l k same gap [] has h = absurd has
entries_same_has layer a b l k same gap (p ∷ m) has h =
    go (layer p.0 == l) refl has
    (λ is. entries_same_has layer a b l k same (gap ++ p ∷ []) m is
    (omega (arith, length-append gap (p ∷ []))))
  where
    go : (t : Bool) → (layer p.0 == l) ≡ t → Has layer l (p ∷ m)
        → (Has layer l m → entries_of layer a l (gap ++ p ∷ []) m ≡ entries_of layer b l
        (gap ++ p ∷ []) m) → cond t (entry (a gap) p.0 p.1 (entries_of layer a l [] m))
        (entries_of layer a l (gap ++ p ∷ []) m) ≡ cond t
        (entry (b gap) p.0 p.1 (entries_of layer b l [] m)) (entries_of layer b l (gap ++ p ∷ []) m)
    go true e is next =
        let here : a gap ≡ b gap = same gap (omega arith) in
        let there : entries_of layer a l [] m ≡ entries_of layer b l [] m =
        entries_same layer a b l k same [] m (omega arith) in
        cc
    go false e (inl is) next = absurd (grind (arith, nat_tests))
    go false e (inr is) next = next is

-- how many pairs a list may have does not matter, if it is enough
pub within_same : (layer : List ℕ → ℕ) (format : Format) (n k : ℕ) (m : List Pair) → length m ≤ n
    → length m ≤ k → tree_within layer format n m ≡ tree_within layer format k m
unfolding tree_within
within_same layer format n k [] h i = refl
within_same layer format zero k (p ∷ m) h i = absurd (omega arith)
within_same layer format (suc n) zero (p ∷ m) h i = absurd (omega arith)
within_same layer format (suc n) (suc k) (p ∷ m) h i =
    ap (node format (greatest (layers layer (p ∷ m))))
    (entries_same_has layer (tree_within layer format n) (tree_within layer format k)
    (greatest (layers layer (p ∷ m))) (length m)
    (λ g j. within_same layer format n k g (omega arith) (omega arith)) [] (p ∷ m)
    (has_greatest layer p m) (omega arith))

-- the tree of a map that is not empty: its greatest layer, and the trees of the gaps
pub tree_node : (format : Format) (p : Pair) (m : List Pair) → tree format (p ∷ m) ≡ node format
    (greatest (layers (layer_in format) (p ∷ m)))
    (entries_of (layer_in format) (tree format) (greatest (layers (layer_in format) (p ∷ m))) []
    (p ∷ m))
unfolding tree tree_within
tree_node format p m =
    let l = greatest (layers (layer_in format) (p ∷ m)) in
    ap (node format l)
    (entries_same_has (layer_in format) (tree_within (layer_in format) format (length m))
    (tree format) l (length m)
    (λ g j. within_same (layer_in format) format (length m) (length g) g j (omega arith)) [] (p ∷ m)
    (has_greatest (layer_in format) p m) (omega arith))

pub tree-no_pairs : (format : Format) (m : List Pair) → length m ≡ 0 → tree format m ≡ empty
unfolding tree tree_within
tree-no_pairs format [] e = refl
tree-no_pairs format (p ∷ m) e = absurd (omega arith)

pub has_some : (layer : List ℕ → ℕ) (m : List Pair) → 0 < length m
    → Has layer (greatest (layers layer m)) m
has_some layer [] h = absurd (omega arith)
has_some layer (p ∷ m) h = has_greatest layer p m

pub tree_some : (format : Format) (m : List Pair) → 0 < length m → tree format m ≡ node format
    (greatest (layers (layer_in format) m))
    (entries_of (layer_in format) (tree format) (greatest (layers (layer_in format) m)) [] m)
tree_some format [] h = absurd (omega arith)
tree_some format (p ∷ m) h = tree_node format p m

pub entries_at_layer : (layer : List ℕ → ℕ) (below : List Pair → Tree) (l : ℕ) (gap : List Pair)
    (p : Pair) (m : List Pair) → layer p.0 ≡ l → entries_of layer below l gap (p ∷ m) ≡ entry
    (below gap) p.0 p.1 (entries_of layer below l [] m)
unfolding entries_of
entries_at_layer layer below l gap p m e = let t : (layer p.0 == l) ≡ true =
    eq-eqb (layer p.0) l e in rw t

pub entries_other : (layer : List ℕ → ℕ) (below : List Pair → Tree) (l : ℕ) (gap : List Pair)
    (p : Pair) (m : List Pair) → layer p.0 ≢ l → entries_of layer below l gap (p ∷ m) ≡ entries_of
    layer below l (gap ++ p ∷ []) m
unfolding entries_of
entries_other layer below l gap p m e = let t : (layer p.0 == l) ≡ false =
    grind (arith, nat_tests) in rw t

pub has_other : (layer : List ℕ → ℕ) (l : ℕ) (p : Pair) (m : List Pair) → layer p.0 ≢ l
    → Has layer l (p ∷ m) → Has layer l m
has_other layer l p m e (inl i) = absurd (e i)
has_other layer l p m e (inr i) = i

pub with_entries-push : (cs : List TreeEntry) (c : TreeEntry) (es : Entries)
    → with_entries (cs ++ c ∷ []) es ≡ with_entries cs (entry c.child c.key c.value es)
with_entries-push [] c es = refl
with_entries-push (d ∷ cs) c es = ap (entry d.child d.key d.value) (with_entries-push cs c es)

-- the pair at i, and the pairs after it
pub pairs_from : (m : List Pair) (i : ℕ) (x : Pair) → i < length m → x ≡ get_or m i x
    → drop i m ≡ x ∷ drop (i + 1) m
pairs_from m i x h e = let f = drop-cons m i x h in
    rw add-one (f ∙ ap (λ y. y ∷ drop (suc i) m) (sym e))

-- the gap grows by the pair at i
pub gap_more : (m : List Pair) (start i : ℕ) (x : Pair) → start ≤ i → i < length m
    → x ≡ get_or m i x → slice_range m start (i + 1) ≡ slice_range m start i ++ x ∷ []
gap_more m start i x s h e =
    let width : i + 1 - start ≡ i - start + 1 = omega arith in
    let place : start + (i - start) ≡ i = omega arith in
    let within : i - start < length (drop start m) = omega (arith, length-drop start m) in
    let at : get_or (drop start m) (i - start) x ≡ x = get_or-drop start m (i - start) x
    ∙ ap (λ j. get_or m j x) place ∙ sym e in
    ap (λ n. take n (drop start m)) width ∙ take_more (drop start m) (i - start) x within
    ∙ ap (λ y. take (i - start) (drop start m) ++ y ∷ []) at

pub gap_none : (m : List Pair) (i : ℕ) → slice_range m i i ≡ []
gap_none m i = let e : i - i ≡ 0 = omega arith in ap (λ n. take n (drop i m)) e

-- A pair of the layer: its entry ends the gap.
pub step_at : (format : Format) (m : List Pair) (x : Pair) (start i l : ℕ) (cs : List TreeEntry)
    (c : TreeEntry) (whole : Entries) → i < length m → x ≡ get_or m i x → layer_in format x.0 ≡ l
    → c ≡ record { child = tree format (slice_range m start i); key = x.0; value = x.1 }
    → with_entries cs (entries_of (layer_in format) (tree format) l (slice_range m start i)
    (drop i m)) ≡ whole → with_entries (cs ++ c ∷ [])
    (entries_of (layer_in format) (tree format) l (slice_range m (i + 1) (i + 1)) (drop (i + 1) m))
    ≡ whole
step_at format m x start i l cs c whole h e at is before =
    let R : List Pair → List Pair → Entries = entries_of (layer_in format) (tree format) l in
    let gap = slice_range m start i in
    let opened : with_entries cs (R gap (drop i m)) ≡ with_entries cs
    (entry (tree format gap) x.0 x.1 (R [] (drop (i + 1) m))) =
    ap (λ ps. with_entries cs (R gap ps)) (pairs_from m i x h e) ∙ ap (with_entries cs)
    (entries_at_layer (layer_in format) (tree format) l gap x (drop (i + 1) m) at) in
    ap (λ g. with_entries (cs ++ c ∷ []) (R g (drop (i + 1) m))) (gap_none m (i + 1))
    ∙ with_entries-push cs c (R [] (drop (i + 1) m))
    ∙ ap (λ (d : TreeEntry). with_entries cs (entry d.child d.key d.value (R [] (drop (i + 1) m))))
    is
    ∙ sym opened ∙ before

-- A pair of a lower layer: the gap goes on.
pub step_other : (format : Format) (m : List Pair) (x : Pair) (start i l : ℕ) (cs : List TreeEntry)
    (whole : Entries) → start ≤ i → i < length m → x ≡ get_or m i x → layer_in format x.0 ≢ l
    → with_entries cs (entries_of (layer_in format) (tree format) l (slice_range m start i)
    (drop i m)) ≡ whole → with_entries cs
    (entries_of (layer_in format) (tree format) l (slice_range m start (i + 1)) (drop (i + 1) m))
    ≡ whole
step_other format m x start i l cs whole s h e other before =
    let R : List Pair → List Pair → Entries = entries_of (layer_in format) (tree format) l in
    let gap = slice_range m start i in
    ap (λ g. with_entries cs (R g (drop (i + 1) m))) (gap_more m start i x s h e)
    ∙ sym (ap (λ ps. with_entries cs (R gap ps)) (pairs_from m i x h e) ∙ ap (with_entries cs)
    (entries_other (layer_in format) (tree format) l gap x (drop (i + 1) m) other))
    ∙ before

pub some_other : (format : Format) (m : List Pair) (x : Pair) (i l : ℕ) → i < length m
    → x ≡ get_or m i x → layer_in format x.0 ≢ l → Has (layer_in format) l (drop i m)
    → Has (layer_in format) l (drop (i + 1) m)
some_other format m x i l h e other has =
    let P : List Pair → Type 0 = Has (layer_in format) l in
    has_other (layer_in format) l x (drop (i + 1) m) other (subst P (pairs_from m i x h e) has)

drop_all : (m : List Pair) → drop (length m) m ≡ []
drop_all m = grind (arith, common_steps)

-- After the last pair the gap is the last one.
pub last_gap : (format : Format) (m : List Pair) (start i l : ℕ) (cs : List TreeEntry)
    (whole : Entries) → i ≡ length m → with_entries cs
    (entries_of (layer_in format) (tree format) l (slice_range m start i) (drop i m)) ≡ whole
    → with_entries cs (last (tree format (slice_range m start (length m)))) ≡ whole
unfolding entries_of
last_gap format m start i l cs whole end before =
    let R : List Pair → List Pair → Entries = entries_of (layer_in format) (tree format) l in
    let at_end : with_entries cs (R (slice_range m start (length m)) (drop (length m) m)) ≡ whole =
    subst (λ (j : ℕ). with_entries cs (R (slice_range m start j) (drop j m)) ≡ whole) end before
    in
    let none : drop (length m) m ≡ [] = drop_all m in
    subst (λ (ps : List Pair). with_entries cs (R (slice_range m start (length m)) ps) ≡ whole) none
    at_end
