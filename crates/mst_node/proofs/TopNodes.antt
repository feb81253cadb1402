-- The top of a list's tree, and the text of the node there.
use Rattle.mst_node.proofs.Names.{◌≡◌, ◌≢◌, ℕ, suc, ◌+◌, ◌<◌, ◌≤◌, max, Bool, true, false, ◌==◌, cond, List, [], ◌∷◌, ◌++◌, length, length-append, filter, get_or, drop, Option, Some, refl, sym, ◌∙◌, ap, arith, append_assoc, nat_tests, flat_map, slice_range, Format, layer_in, Pair, Tree, node, Entries, entry, layers, greatest, tree, entry_text, child_text, counted, child_digest, flat_entries, tail_digest, held_of, held_text, text, digest, heading, IsTop}
use Rattle.std.proofs.lemmas.List.Elements.{filter-append}
use Rattle.std.proofs.lemmas.List.Sums.{length-filter, count_by-le-length}
use Rattle.mst_node.specs.Tree.{entries_of}
use Rattle.mst_node.specs.declared.root.Top.{Top}
use Rattle.mst_node.proofs.TreeEquation.{tree_some, step_at, step_other, last_gap}

-- ---- one pair more

-- the pairs of a layer
abbrev pub at_layer : (List ℕ → ℕ) → ℕ → List Pair → List Pair
at_layer layer l m = filter (λ p. layer p.0 == l) m

pub greatest-push : (layer : List ℕ → ℕ) (m : List Pair) (p : Pair)
    → greatest (layers layer (m ++ p ∷ [])) ≡ max (greatest (layers layer m)) (layer p.0)
greatest-push layer [] p = grind arith
greatest-push layer (q ∷ m) p = let e = greatest-push layer m p in grind arith

at_layer-push : (layer : List ℕ → ℕ) (l : ℕ) (m : List Pair) (p : Pair) (t : Bool)
    → (layer p.0 == l) ≡ t
    → length (at_layer layer l (m ++ p ∷ [])) ≡ length (at_layer layer l m) + cond t 1 0
at_layer-push layer l m p t e =
    ap length (filter-append (λ q. layer q.0 == l) m (p ∷ []))
    ∙ length-append (at_layer layer l m) (cond (layer p.0 == l) (p ∷ []) [])
    ∙ ap (λ (n : ℕ). length (at_layer layer l m) + n) (one (layer p.0 == l) t e)
  where
    one : (s t : Bool) → s ≡ t → length (cond s (p ∷ []) []) ≡ cond t 1 0
    one true true e = refl
    one false false e = refl
    one true false e = absurd (cc)
    one false true e = absurd (cc)

pub at_layer-push_yes : (layer : List ℕ → ℕ) (l : ℕ) (m : List Pair) (p : Pair) → layer p.0 ≡ l
    → length (at_layer layer l (m ++ p ∷ [])) ≡ length (at_layer layer l m) + 1
at_layer-push_yes layer l m p e = at_layer-push layer l m p true (grind (arith, nat_tests))

pub at_layer-push_no : (layer : List ℕ → ℕ) (l : ℕ) (m : List Pair) (p : Pair) → layer p.0 ≢ l
    → length (at_layer layer l (m ++ p ∷ [])) ≡ length (at_layer layer l m)
at_layer-push_no layer l m p e = omega
    (arith, at_layer-push layer l m p false (grind (arith, nat_tests)))

-- no key has a layer above the greatest
pub at_layer-none : (layer : List ℕ → ℕ) (l : ℕ) (m : List Pair) → greatest (layers layer m) < l
    → length (at_layer layer l m) ≡ 0
at_layer-none layer l [] h = refl
at_layer-none layer l (p ∷ m) h =
    let t : (layer p.0 == l) ≡ false = grind (arith, nat_tests) in
    rw t (at_layer-none layer l m (omega arith))

pub at_layer-le : (layer : List ℕ → ℕ) (l : ℕ) (m : List Pair) → length (at_layer layer l m)
    ≤ length m
at_layer-le layer l m =
    omega (
      arith,
      length-filter (λ p. layer p.0 == l) m,
      count_by-le-length (λ p. layer p.0 == l) m,
    )

-- ---- the text of the top node

-- the bytes of entries in their node's text
abbrev pub entries_text : Format → Entries → List ℕ
entries_text format es = flat_map (entry_text format) (flat_entries format es) ++ child_text
    (tail_digest es)

-- a node has an entry for each pair of its layer
pub entries_count : (layer : List ℕ → ℕ) (format : Format) (below : List Pair → Tree) (l : ℕ)
    (gap m : List Pair) → length (flat_entries format (entries_of layer below l gap m)) ≡ length
    (at_layer layer l m)
unfolding entries_of
entries_count layer format below l gap [] = refl
entries_count layer format below l gap (p ∷ m) =
    go (layer p.0 == l) (entries_count layer format below l [] m)
    (entries_count layer format below l (gap ++ p ∷ []) m)
  where
    go : (t : Bool) → length (flat_entries format (entries_of layer below l [] m)) ≡ length
        (at_layer layer l m)
        → length (flat_entries format (entries_of layer below l (gap ++ p ∷ []) m)) ≡ length
        (at_layer layer l m)
        → length (flat_entries format
        (cond t (entry (below gap) p.0 p.1 (entries_of layer below l [] m))
        (entries_of layer below l (gap ++ p ∷ []) m))) ≡ length
        (cond t (p ∷ at_layer layer l m) (at_layer layer l m))
    go true h i = omega (arith, h)
    go false h i = i

-- the text of a list's top node: its heading, and its entries
pub text_some : (format : Format) (m : List Pair) (l n : ℕ) → 0 < length m
    → l ≡ greatest (layers (layer_in format) m) → n ≡ length (at_layer (layer_in format) l m)
    → text (tree format m) ≡ heading format l n ++ entries_text format
    (entries_of (layer_in format) (tree format) l [] m)
text_some format m l n some top count =
    let E : ℕ → Entries = λ k. entries_of (layer_in format) (tree format) k [] m in
    let same : n ≡ length (flat_entries format (E l)) =
    count ∙ sym (entries_count (layer_in format) format (tree format) l [] m) in
    ap text (tree_some format m some)
    ∙ ap (λ (k : ℕ). text (node format k (E k))) (sym top)
    ∙ ap (λ (k : ℕ). heading format l k ++ entries_text format (E l)) (sym same)

-- the digest of the tree of a list that is not empty stands in its place as a child
pub child_digest_some : (format : Format) (m : List Pair) → 0 < length m
    → child_digest (tree format m) ≡ Some (digest (tree format m))
child_digest_some format m some = ap child_digest (tree_some format m some)
    ∙ sym (ap (λ (t : Tree). Some (digest t)) (tree_some format m some))

-- the text goes on after an entry: the digest of its gap, its key and its value
pub text_at : (format : Format) (m : List Pair) (x : Pair) (start i l : ℕ) (front whole : List ℕ)
    (d : Option (List ℕ)) (k v : List ℕ) → i < length m → x ≡ get_or m i x → layer_in format x.0 ≡ l
    → d ≡ child_digest (tree format (slice_range m start i)) → k ≡ counted x.0
    → v ≡ held_text format (held_of format x.1) → front ++ entries_text format
    (entries_of (layer_in format) (tree format) l (slice_range m start i) (drop i m)) ≡ whole
    → (((front ++ child_text d) ++ k) ++ v) ++ entries_text format
    (entries_of (layer_in format) (tree format) l (slice_range m (i + 1) (i + 1)) (drop (i + 1) m))
    ≡ whole
text_at format m x start i l front whole d k v within is at child key held before =
    let E : List Pair → List Pair → Entries = entries_of (layer_in format) (tree format) l in
    let gap = slice_range m start i in
    let rest = E (slice_range m (i + 1) (i + 1)) (drop (i + 1) m) in
    let opened : entry (tree format gap) x.0 x.1 rest ≡ E gap (drop i m) =
    step_at format m x start i l [] (record { child = tree format gap; key = x.0; value = x.1 })
    (E gap (drop i m)) within is at refl refl in
    let moved : (((front ++ child_text d) ++ k) ++ v) ++ entries_text format rest ≡ front
    ++ entries_text format (entry (tree format gap) x.0 x.1 rest) =
    rw (child, key, held) (simp append_assoc) in
    moved ∙ ap (λ (es : Entries). front ++ entries_text format es) opened ∙ before

-- if the pair has another layer, the gap goes on
pub text_other : (format : Format) (m : List Pair) (x : Pair) (start i l : ℕ) (front whole : List ℕ)
    → start ≤ i → i < length m → x ≡ get_or m i x → layer_in format x.0 ≢ l → front ++ entries_text
    format (entries_of (layer_in format) (tree format) l (slice_range m start i) (drop i m)) ≡ whole
    → front ++ entries_text format
    (entries_of (layer_in format) (tree format) l (slice_range m start (i + 1)) (drop (i + 1) m))
    ≡ whole
text_other format m x start i l front whole s within is other before =
    let E : List Pair → List Pair → Entries = entries_of (layer_in format) (tree format) l in
    ap (λ (es : Entries). front ++ entries_text format es)
    (step_other format m x start i l [] (E (slice_range m start i) (drop i m)) s within is other
    refl) ∙ before

-- after the last pair the digest of the last gap ends the text
pub text_end : (format : Format) (m : List Pair) (start i l : ℕ) (front whole : List ℕ)
    (d : Option (List ℕ)) → i ≡ length m → d ≡ child_digest
    (tree format (slice_range m start (length m))) → front ++ entries_text format
    (entries_of (layer_in format) (tree format) l (slice_range m start i) (drop i m)) ≡ whole
    → front ++ child_text d ≡ whole
text_end format m start i l front whole d end child before =
    let E : List Pair → List Pair → Entries = entries_of (layer_in format) (tree format) l in
    ap (λ (c : Option (List ℕ)). front ++ child_text c) child
    ∙ ap (λ (es : Entries). front ++ entries_text format es)
    (last_gap format m start i l [] (E (slice_range m start i) (drop i m)) end refl)
    ∙ before

-- ---- the top with one pair more

pub is_top-above : (format : Format) (m : List Pair) (p : Pair) (top : Top) (l : ℕ)
    → IsTop format m top → layer_in format p.0 ≡ l → top.layer < l → IsTop format (m ++ p ∷ [])
    (record { layer = l; count = 1 })
is_top-above format m p top l is e h =
    let none : length (at_layer (layer_in format) l m) ≡ 0 =
    at_layer-none (layer_in format) l m (omega (arith, is.layer, h)) in
    record {
      layer = omega (arith, greatest-push (layer_in format) m p, is.layer, e, h);
      count =
          omega (arith, at_layer-push_yes (layer_in format) l m p e, none);
    }

pub is_top-same : (format : Format) (m : List Pair) (p : Pair) (top : Top) (l : ℕ)
    → IsTop format m top → layer_in format p.0 ≡ l → l ≡ top.layer → IsTop format (m ++ p ∷ [])
    (record { layer = l; count = top.count + 1 })
is_top-same format m p top l is e h =
    let same : length (at_layer (layer_in format) l m) ≡ length
    (at_layer (layer_in format) top.layer m) =
    ap (λ (k : ℕ). length (at_layer (layer_in format) k m)) h in
    record {
      layer = omega (arith, greatest-push (layer_in format) m p, is.layer, e, h);
      count =
          omega (arith, at_layer-push_yes (layer_in format) l m p e, same, is.count);
    }

pub is_top-below : (format : Format) (m : List Pair) (p : Pair) (top : Top) → IsTop format m top
    → layer_in format p.0 < top.layer → IsTop format (m ++ p ∷ []) top
is_top-below format m p top is h =
    record {
      layer = omega (arith, greatest-push (layer_in format) m p, is.layer, h);
      count =
          omega (
            arith,
            at_layer-push_no (layer_in format) top.layer m p (λ e. omega (arith, e, h)),
            is.count,
          );
    }
