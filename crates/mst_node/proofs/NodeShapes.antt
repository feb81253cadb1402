-- A node of the program as a tree, one level at a time.
use Rattle.mst_node.proofs.Names.{◌≡◌, ℕ, zero, suc, ◌+◌, ◌<◌, ◌≤◌, List, [], ◌∷◌, ◌++◌, length, map, get_or, take, Option, Some, refl, sym, ◌∙◌, ap, subst, arith, rules, length-append, append_assoc, flat_map, length-map, take_more, append-nil, Format, Node, out-Node, the_lemmas, Tree, node, Entries, last, pairs, entries_pairs, TreeEntry, with_entries, tree_of_child, tree_entry, FlatEntry, entry_text, spelling, child_digest, child_text, counted, held_of, held_text, flat_entries, tail_digest, text, digest, heading}
use Rattle.std.proofs.lemmas.List.Folds.{flat_map-map}
use Rattle.std.proofs.lemmas.Grind.{flat_map-append}
use Rattle.mst_node.specs.declared.node.Entry.{Entry, out-Entry}
use Rattle.mst_node.specs.declared.node.Entry.TheFolds.{fold_out-Node, fold_out-Entry}
use Rattle.mst_node.specs.Shape.{tree_of, entry_step, node_step}

-- ---- the tree of a node, from its fields

pub tree_of_out : (A : Type 0) (format : Format) (n : Node A) → tree_of format n ≡ node format
    (out-Node A n).layer (with_entries (map (tree_entry format) (out-Node A n).entries.items)
    (last (tree_of_child format (out-Node A n).tail)))
tree_of_out A format n =
    search (rules, the_lemmas, fold_out-Node A TreeEntry Tree (entry_step A) (node_step A format))

pub tree_entry_out : (A : Type 0) (format : Format) (e : Entry A) → tree_entry format e
    ≡ record {
      child = tree_of_child format (out-Entry A e).child;
      key = (out-Entry A e).key;
      value = (out-Entry A e).value;
    }
tree_entry_out A format e =
    search (rules, the_lemmas, fold_out-Entry A TreeEntry Tree (entry_step A) (node_step A format))

-- ---- what there is of pairs

-- there are no more entries than pairs
count-le-pairs : (xs : List TreeEntry) (es : Entries) → length xs ≤ length
    (entries_pairs (with_entries xs es))
count-le-pairs [] es = omega arith
count-le-pairs (x ∷ xs) es =
    omega (
      arith,
      count-le-pairs xs es,
      length-append (pairs x.child)
          ((x.key, x.value) ∷ entries_pairs (with_entries xs es)),
    )

-- a child before an entry has no more pairs than all the entries
child-le-pairs : (A : Type 0) (format : Format) (items : List (Entry A)) (i : ℕ) (e : Entry A)
    (es : Entries) → i < length items → e ≡ get_or items i e
    → length (pairs (tree_entry format e).child) ≤ length
    (entries_pairs (with_entries (map (tree_entry format) items) es))
child-le-pairs A format [] i e es h is = absurd (omega arith)
child-le-pairs A format (d ∷ items) zero e es h is =
    let x = tree_entry format d in
    let le : length (pairs x.child) ≤ length
    (entries_pairs (with_entries (map (tree_entry format) (d ∷ items)) es)) =
    omega (
      arith,
      length-append (pairs x.child)
          ((x.key, x.value) ∷ entries_pairs (with_entries (map (tree_entry format) items) es)),
    ) in
    subst (λ (y : Entry A). length (pairs (tree_entry format y).child) ≤ length
    (entries_pairs (with_entries (map (tree_entry format) (d ∷ items)) es))) (sym is) le
child-le-pairs A format (d ∷ items) (suc i) e es h is =
    let x = tree_entry format d in
    omega (
      arith,
      child-le-pairs A format items i e es (omega arith) is,
      length-append
          (pairs x.child)
          ((x.key, x.value) ∷ entries_pairs (with_entries (map (tree_entry format) items) es)),
    )

-- nor has the last child
tail-le-pairs : (xs : List TreeEntry) (t : Tree) → length (pairs t) ≤ length
    (entries_pairs (with_entries xs (last t)))
tail-le-pairs [] t = omega arith
tail-le-pairs (x ∷ xs) t =
    omega (
      arith,
      tail-le-pairs xs t,
      length-append (pairs x.child)
          ((x.key, x.value) ∷ entries_pairs (with_entries xs (last t))),
    )

pub entries-fit : (A : Type 0) (format : Format) (n : Node A) → length (out-Node A n).entries.items
    ≤ length (pairs (tree_of format n))
entries-fit A format n =
    let es = (out-Node A n).entries.items in
    rw (tree_of_out A format n)
    (omega (
      arith,
      count-le-pairs (map (tree_entry format) es)
          (last (tree_of_child format (out-Node A n).tail)),
      length-map {B = TreeEntry} es
          (tree_entry format),
    ))

pub child-fits : (A : Type 0) (format : Format) (n : Node A) (items : List (Entry A)) (i : ℕ)
    (e : Entry A) → items ≡ (out-Node A n).entries.items → i < length items → e ≡ get_or items i e
    → length (pairs (tree_of_child format (out-Entry A e).child)) ≤ length
    (pairs (tree_of format n))
child-fits A format n items i e all h is =
    let t = tree_of_child format (out-Entry A e).child in
    let es = last (tree_of_child format (out-Node A n).tail) in
    let of_entry : length (pairs t) ≤ length
    (entries_pairs (with_entries (map (tree_entry format) items) es)) =
    subst (λ (x : TreeEntry). length (pairs x.child) ≤ length
    (entries_pairs (with_entries (map (tree_entry format) items) es)))
    (tree_entry_out A format e) (child-le-pairs A format items i e es h is) in
    let of_items : length (pairs t) ≤ length
    (entries_pairs (with_entries (map (tree_entry format) (out-Node A n).entries.items) es)) =
    subst (λ (xs : List (Entry A)). length (pairs t) ≤ length
    (entries_pairs (with_entries (map (tree_entry format) xs) es))) all of_entry in
    subst (λ (u : Tree). length (pairs t) ≤ length (pairs u)) (sym (tree_of_out A format n))
    of_items

pub tail-fits : (A : Type 0) (format : Format) (n : Node A)
    → length (pairs (tree_of_child format (out-Node A n).tail)) ≤ length (pairs (tree_of format n))
tail-fits A format n =
    let t = tree_of_child format (out-Node A n).tail in
    subst (λ (u : Tree). length (pairs t) ≤ length (pairs u)) (sym (tree_of_out A format n))
    (tail-le-pairs (map (tree_entry format) (out-Node A n).entries.items) t)

-- ---- the text of a node, from its fields

-- the flat entry of an entry
abbrev pub flat_entry : Format → TreeEntry → FlatEntry
flat_entry format x =
    record { child = child_digest x.child; key = x.key; held = held_of format x.value }

flat_entries_with : (format : Format) (xs : List TreeEntry) (t : Tree) → flat_entries format
    (with_entries xs (last t)) ≡ map (flat_entry format) xs
flat_entries_with format [] t = refl
flat_entries_with format (x ∷ xs) t =
    ap (λ ys. flat_entry format x ∷ ys) (flat_entries_with format xs t)

tail_digest_with : (xs : List TreeEntry) (t : Tree) → tail_digest (with_entries xs (last t))
    ≡ child_digest t
tail_digest_with [] t = refl
tail_digest_with (x ∷ xs) t = tail_digest_with xs t

-- the bytes of an entry in its node's text
abbrev pub text_of_entry : {A : Type 0} → Format → Entry A → List ℕ
text_of_entry format e = entry_text format (flat_entry format (tree_entry format e))

-- the text up to an entry's end is the text up to the entry, and the entry's
pub text-more : (A : Type 0) (format : Format) (es items : List (Entry A)) (i : ℕ) (e : Entry A)
    (front : List ℕ) (d : Option (List ℕ)) (k v : List ℕ) → items ≡ es → i < length items
    → e ≡ get_or items i e → d ≡ child_digest (tree_of_child format (out-Entry A e).child)
    → k ≡ (out-Entry A e).key → v ≡ held_text format (held_of format (out-Entry A e).value)
    → ((front ++ flat_map (text_of_entry format) (take i es)) ++ child_text d) ++ counted k ++ v
    ≡ front ++ flat_map (text_of_entry format) (take (i + 1) es)
text-more A format es items i e front d k v all h is child key value =
    let g : Entry A → List ℕ = text_of_entry format in
    let taken : take (i + 1) items ≡ take i items ++ e ∷ [] =
    take_more items i e h ∙ ap (λ x. take i items ++ x ∷ []) (sym is) in
    let one : flat_map g (take (i + 1) items) ≡ flat_map g (take i items) ++ g e =
    ap (flat_map g) taken ∙ flat_map-append g (take i items) (e ∷ []) ∙ rw append-nil in
    let text : g e ≡ child_text d ++ counted k ++ v =
    ap (λ (x : TreeEntry). entry_text format (flat_entry format x)) (tree_entry_out A format e)
    ∙ rw (← child, ← key, ← value) in
    subst (λ (xs : List (Entry A)). ((front ++ flat_map g (take i xs)) ++ child_text d) ++ counted k
    ++ v ≡ front ++ flat_map g (take (i + 1) xs)) all
    (rw (one, text) (simp append_assoc))

-- the whole text
pub text_out : (A : Type 0) (format : Format) (n : Node A) → text (tree_of format n)
    ≡ (heading format (out-Node A n).layer (length (out-Node A n).entries.items) ++ flat_map
    (text_of_entry format) (out-Node A n).entries.items) ++ child_text
    (child_digest (tree_of_child format (out-Node A n).tail))
text_out A format n =
    let es = (out-Node A n).entries.items in
    let xs = map (tree_entry format) es in
    let t = tree_of_child format (out-Node A n).tail in
    let l = (out-Node A n).layer in
    ap text (tree_of_out A format n)
    ∙ ap (λ ys. spelling
    (record {
      format = format;
      layer = l;
      entries = ys;
      tail =
          tail_digest (with_entries xs (last t));
    })) (flat_entries_with format xs t)
    ∙ ap (λ d. spelling
    (record { format = format; layer = l; entries = map (flat_entry format) xs; tail = d }))
    (tail_digest_with xs t)
    ∙ simp (flat_map-map, length-map)
