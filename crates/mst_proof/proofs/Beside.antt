-- A proof beside the tree of the map: where the search goes in a node of the program, and the value
-- of the entry at which it ends.
use Rattle.mst_proof.proofs.Names.{Format, ◌≡◌, ℕ, suc, ◌+◌, ◌<◌, List, [], ◌∷◌, length, map, drop, Option, Some, None, sym, ◌∙◌, ap, subst, arith, common_steps, Ordering, key_cmp, Node, out-Node, Tree, empty, last, tree_of, tree_of_child, by_order, tree_of_out, gap_in, gap_tree, held_in, held_value}
use Rattle.std.proofs.Common.{get_or, add-one}
use Rattle.std.proofs.Math.Seq.{drop-cons}
use Rattle.mst_node.specs.declared.node.Entry.{Entry, out-Entry}
use Rattle.mst_node.specs.Shape.{TreeEntry, with_entries, tree_entry}
use Rattle.mst_node.proofs.NodeShapes.{tree_entry_out}

-- ---- entries of the program

-- the next entry in front of those after it
opened : (A : Type 0) (items es : List (Entry A)) (i : ℕ) (e : Entry A) → items ≡ es
    → i < length items → e ≡ get_or items i e → drop i es ≡ e ∷ drop (i + 1) es
opened A items es i e all h is =
    let at : e ≡ get_or es i e = is ∙ ap (λ (xs : List (Entry A)). get_or xs i e) all in
    let within : i < length es = omega (arith, h, ap length all) in
    let f = drop-cons es i e within in
    rw add-one (f ∙ ap (λ (y : Entry A). y ∷ drop (suc i) es) (sym at))

-- after all entries there is none
ended : (A : Type 0) (items es : List (Entry A)) (i : ℕ) → items ≡ es → i ≡ length items
    → drop i es ≡ []
ended A items es i all end =
    let none : drop (length es) es ≡ [] = grind (arith, common_steps) in
    let at : i ≡ length es = end ∙ ap length all in
    subst (λ (j : ℕ). drop j es ≡ []) (sym at) none

-- ---- the gap of the key

-- the gap of the key among entries of the program
abbrev pub gap_among : (format : Format) (A : Type 0) → List ℕ → List (Entry A) → Tree → Tree
gap_among format A k items tail =
    gap_in k (with_entries (map (tree_entry format) items) (last tail))

pub gap_of_node : (format : Format) (A : Type 0) (k : List ℕ) (n : Node A) → gap_among format A k
    (out-Node A n).entries.items (tree_of_child format (out-Node A n).tail) ≡ gap_tree k
    (tree_of format n)
gap_of_node format A k n = ap (gap_tree k) (sym (tree_of_out A format n))

-- what the order of the key to the next entry's key chooses
pub gap_step : (format : Format) (A : Type 0) (k : List ℕ) (items es : List (Entry A)) (i : ℕ)
    (e : Entry A) (tail : Tree) (r : Ordering) (whole : Tree) → items ≡ es → i < length items
    → e ≡ get_or items i e → r ≡ key_cmp k (out-Entry A e).key → gap_among format A k (drop i es)
    tail ≡ whole → by_order r (tree_of_child format (out-Entry A e).child) empty
    (gap_among format A k (drop (i + 1) es) tail) ≡ whole
gap_step format A k items es i e tail r whole all h is order before =
    let child = tree_of_child format (out-Entry A e).child in
    ap (λ (o : Ordering). by_order o child empty (gap_among format A k (drop (i + 1) es) tail))
    order
    ∙ ap (λ (x : TreeEntry). by_order (key_cmp k x.key) x.child empty
    (gap_among format A k (drop (i + 1) es) tail)) (sym (tree_entry_out A format e))
    ∙ ap (λ (xs : List (Entry A)). gap_among format A k xs tail)
    (sym (opened A items es i e all h is))
    ∙ before

-- after all entries the gap is the last one
pub gap_end : (format : Format) (A : Type 0) (k : List ℕ) (items es : List (Entry A)) (i : ℕ)
    (tail whole : Tree) → items ≡ es → i ≡ length items → gap_among format A k (drop i es) tail
    ≡ whole → tail ≡ whole
gap_end format A k items es i tail whole all end before =
    subst (λ (xs : List (Entry A)). gap_among format A k xs tail ≡ whole)
    (ended A items es i all end) before

-- ---- the value of the key's entry

-- the value of the key among entries of the program
abbrev pub held_among : (format : Format) (A : Type 0) → List ℕ → List (Entry A) → Tree
    → Option (List ℕ)
held_among format A k items tail =
    held_in k (with_entries (map (tree_entry format) items) (last tail))

pub held_of_node : (format : Format) (A : Type 0) (k : List ℕ) (n : Node A) → held_among format A k
    (out-Node A n).entries.items (tree_of_child format (out-Node A n).tail) ≡ held_value k
    (tree_of format n)
held_of_node format A k n = ap (held_value k) (sym (tree_of_out A format n))

pub held_step : (format : Format) (A : Type 0) (k : List ℕ) (items es : List (Entry A)) (i : ℕ)
    (e : Entry A) (tail : Tree) (r : Ordering) (whole : Option (List ℕ)) → items ≡ es
    → i < length items → e ≡ get_or items i e → r ≡ key_cmp k (out-Entry A e).key
    → held_among format A k (drop i es) tail ≡ whole → by_order r None (Some (out-Entry A e).value)
    (held_among format A k (drop (i + 1) es) tail) ≡ whole
held_step format A k items es i e tail r whole all h is order before =
    let value = (out-Entry A e).value in
    ap (λ (o : Ordering). by_order o None (Some value)
    (held_among format A k (drop (i + 1) es) tail)) order
    ∙ ap (λ (x : TreeEntry). by_order (key_cmp k x.key) None (Some x.value)
    (held_among format A k (drop (i + 1) es) tail)) (sym (tree_entry_out A format e))
    ∙ ap (λ (xs : List (Entry A)). held_among format A k xs tail)
    (sym (opened A items es i e all h is))
    ∙ before

-- after all entries none holds the key
pub held_end : (format : Format) (A : Type 0) (k : List ℕ) (items es : List (Entry A)) (i : ℕ)
    (tail : Tree) (whole : Option (List ℕ)) → items ≡ es → i ≡ length items → held_among format A k
    (drop i es) tail ≡ whole → None ≡ whole
held_end format A k items es i tail whole all end before =
    subst (λ (xs : List (Entry A)). held_among format A k xs tail ≡ whole)
    (ended A items es i all end) before
