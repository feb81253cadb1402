-- Whether a node is made: the node that stands at the link of its first key decides.
use Rattle.mst_batch.proofs.Names.{◌≡◌, ℕ, zero, suc, ◌+◌, ◌<◌, Bool, true, false, ◌⊎◌, inl, inr, List, [], ◌∷◌, length, map, get_or, refl, sym, ◌∙◌, ap, subst, arith, true≢false, ◌↔◌, Contains, Ordering, length-map, Contains-append_left, Contains-append_right, Format, Pair, key_cmp, contains-first, contains-later, by_order, Entries, entry_count, IsMst, Content, Placed, none, head, Chain, end, cell, link_of, rows_of, HasRows, Stands, Root, one_placed, HasEntry, placed_nodes, chain_nodes, Lies, TreeLies, plan_beside, entries_beside, link_of_key, chain_link, kept_entries, kept_node, Matches, PlanTree, PlannedEntry, with_planned, kept, made, last, plan_of, plan_of_node, planned_entry, PlanEntry, out-PlanEntry, PlanNode, out-PlanNode, rises}
use Rattle.std.specs.declared.cmp.Ordering.TheVariants.{Less, Equal, Greater}
use Rattle.mst_node.specs.Tree as tree
use Rattle.mst_batch.proofs.Besides.{node_rows}
use Rattle.mst_batch.proofs.Homes.{key_of_entry, match_kept, other_made}
use Rattle.mst_batch.proofs.PlanShapes.{plan_out, planned_entry_out, items, tail}
use Rattle.mst_batch.proofs.SameNodes.{plan_count, count_made}

-- ---- the first entry

module _ (format : Format) (whole : Placed) where
  count_beside : (es : Entries) → plan_count (entries_beside format whole es) ≡ entry_count es
  count_beside (tree.last child) = refl
  count_beside (tree.entry child key value rest) = ap (λ (n : ℕ). n + 1) (count_beside rest)

  key_there : (xs : List PlannedEntry) (t : PlanTree) (es : Entries) (x : PlannedEntry)
      → 0 < length xs → x ≡ get_or xs 0 x
      → with_planned xs (last t) ≡ entries_beside format whole es → HasEntry x.key es
  key_there [] t es x some is same = absurd (omega arith)
  key_there (y ∷ xs) t (tree.last child) x some is same = absurd cc
  key_there (y ∷ xs) t (tree.entry child key value rest) x some is same =
      let first : y.key ≡ key = cc in
      inl (ap (λ (z : PlannedEntry). z.key) is ∙ first)

  module _ {A : Type 0} (n : PlanNode A) (l : ℕ) (es : Entries)
      (mst : IsMst format (tree.node format l es))
      (is : plan_of_node n ≡ made l (entries_beside format whole es)) where
    entries_are : with_planned (map planned_entry (items A n)) (last (tail A n))
        ≡ entries_beside format whole es
    entries_are =
        let both : made (out-PlanNode A n).layer
        (with_planned (map planned_entry (items A n)) (last (tail A n)))
        ≡ made l (entries_beside format whole es) = sym (plan_out A n) ∙ is in cc

    pub some_entry : 0 < length (items A n)
    some_entry =
        omega (
          arith,
          mst.1,
          ap plan_count entries_are,
          count_made (map planned_entry (items A n)) (tail A n),
          length-map {B = PlannedEntry} (items A n) planned_entry,
          count_beside es,
        )

    pub first_key : (e : PlanEntry A) → e ≡ get_or (items A n) 0 e
        → HasEntry (out-PlanEntry A e).key es
    first_key e first =
        subst (λ (x : PlannedEntry). HasEntry x.key es) (planned_entry_out A e)
        (key_there (map planned_entry (items A n)) (tail A n) es (planned_entry e)
        (omega (arith, some_entry, length-map {B = PlannedEntry} (items A n) planned_entry))
        (at_front (items A n) some_entry first) entries_are)
      where
        at_front : (xs : List (PlanEntry A)) → 0 < length xs → e ≡ get_or xs 0 e
            → planned_entry e ≡ get_or (map planned_entry xs) 0 (planned_entry e)
        at_front [] some here = absurd (omega arith)
        at_front (x ∷ xs) some here = ap (λ (y : PlanEntry A). planned_entry y) here

-- ---- a gap with a tree to be made

-- of a node that stands, each tree below is kept
module _ (e : PlannedEntry) (other : (link : ℕ) → e.child ≡ kept link → ⊥) where
  no_gap : (xs : List PlannedEntry) (t : PlanTree) (c : Chain) (i : ℕ) → i < length xs
      → e ≡ get_or xs i e → with_planned xs (last t) ≡ kept_entries c → ⊥
  no_gap [] t c i h is same = omega (arith, h)
  no_gap (x ∷ xs) t (end child) i h is same = cc
  no_gap (x ∷ xs) t (cell at child key value rest) zero h is same =
      let first : x.child ≡ kept (link_of child) = cc in
      other (link_of child) (ap (λ (y : PlannedEntry). y.child) is ∙ first)
  no_gap (x ∷ xs) t (cell at child key value rest) (suc i) h is same =
      let others : with_planned xs (last t) ≡ kept_entries rest = cc in
      no_gap xs t rest i (omega (arith, h)) is others

no_tail : (xs : List PlannedEntry) (t : PlanTree) (c : Chain)
    → ((link : ℕ) → t ≡ kept link → ⊥) → with_planned xs (last t) ≡ kept_entries c → ⊥
no_tail [] t (end child) other same =
    let last_is : t ≡ kept (link_of child) = cc in other (link_of child) last_is
no_tail [] t (cell at child key value rest) other same = cc
no_tail (x ∷ xs) t (end child) other same = cc
no_tail (x ∷ xs) t (cell at child key value rest) other same =
    let others : with_planned xs (last t) ≡ kept_entries rest = cc in no_tail xs t rest other others

module _ {A : Type 0} (n : PlanNode A) where
  entries_of_kept : (p : Placed) → plan_of_node n ≡ kept_node p
      → (c : Chain) × (with_planned (map planned_entry (items A n)) (last (tail A n))
      ≡ kept_entries c)
  entries_of_kept none same =
      let both : made (out-PlanNode A n).layer
      (with_planned (map planned_entry (items A n)) (last (tail A n))) ≡ kept 0 =
      sym (plan_out A n) ∙ same in absurd cc
  entries_of_kept (head row l c) same =
      let both : made (out-PlanNode A n).layer
      (with_planned (map planned_entry (items A n)) (last (tail A n))) ≡ made l (kept_entries c) =
      sym (plan_out A n) ∙ same in
      (c, cc)

  pub new_gap : (i : ℕ) (e : PlanEntry A) → i < length (items A n) → e ≡ get_or (items A n) i e
      → ((link : ℕ) → plan_of (out-PlanEntry A e).child ≡ kept link → ⊥)
      → (p : Placed) → plan_of_node n ≡ kept_node p → ⊥
  new_gap i e h is other p same =
      let k = entries_of_kept p same in
      no_gap (planned_entry e)
      (λ link own. other link (sym (ap (λ (x : PlannedEntry). x.child) (planned_entry_out A e))
      ∙ own)) (map planned_entry (items A n)) (tail A n) k.0 i
      (omega (arith, h, length-map {B = PlannedEntry} (items A n) planned_entry))
      (mapped (items A n) i h is) k.1
    where
      mapped : (xs : List (PlanEntry A)) (j : ℕ) → j < length xs → e ≡ get_or xs j e
          → planned_entry e ≡ get_or (map planned_entry xs) j (planned_entry e)
      mapped [] j within here = absurd (omega (arith, within))
      mapped (x ∷ xs) zero within here = ap (λ (y : PlanEntry A). planned_entry y) here
      mapped (x ∷ xs) (suc j) within here = mapped xs j (omega (arith, within)) here

  pub new_tail : ((link : ℕ) → tail A n ≡ kept link → ⊥)
      → (p : Placed) → plan_of_node n ≡ kept_node p → ⊥
  new_tail other p same =
      let k = entries_of_kept p same in
      no_tail (map planned_entry (items A n)) (tail A n) k.0 other k.1

-- ---- at the link of a key is a node, or nothing

-- at the link is one of these nodes, or nothing
abbrev pub IsAmong : List Placed → ℕ → Type 0
IsAmong ps link = (p : Placed) × (link_of p ≡ link) × ((p ≡ none) ⊎ Contains ps p)

among : (ps qs : List Placed) (link : ℕ) → ((p : Placed) → Contains ps p → Contains qs p)
    → IsAmong ps link → IsAmong qs link
among ps qs link more (p, at, inl nothing) = (p, at, inl nothing)
among ps qs link more (p, at, inr has) = (p, at, inr (more p has))

module _ (q : List ℕ) where
  mutual
    pub node_of_key : (w : Placed) → IsAmong (placed_nodes w) (link_of_key q w)
    node_of_key none = (none, refl, inl refl)
    node_of_key (head at layer chain) =
        chain_node chain (head at layer chain) (placed_nodes (head at layer chain))
        (contains-first (head at layer chain) (chain_nodes chain) (head at layer chain) refl)
        (λ p has. contains-later (head at layer chain) (chain_nodes chain) p has)

    chain_node : (c : Chain) (here : Placed) (ps : List Placed) → Contains ps here
        → ((p : Placed) → Contains (chain_nodes c) p → Contains ps p)
        → IsAmong ps (chain_link q (link_of here) c)
    chain_node (end child) here ps own more =
        among (placed_nodes child) ps (link_of_key q child) more (node_of_key child)
    chain_node (cell at child key value rest) here ps own more =
        go (key_cmp q key)
        (among (placed_nodes child) ps (link_of_key q child)
        (λ p has. more p (Contains-append_left (placed_nodes child) (chain_nodes rest) p has))
        (node_of_key child))
        (chain_node rest here ps own
        (λ p has. more p (Contains-append_right (placed_nodes child) (chain_nodes rest) p has)))
      where
        go : (o : Ordering) → IsAmong ps (link_of_key q child)
            → IsAmong ps (chain_link q (link_of here) rest)
            → IsAmong ps (by_order o (link_of_key q child) (link_of here)
            (chain_link q (link_of here) rest))
        go Less below later = below
        go Equal below later = (here, refl, inr own)
        go Greater below later = later

module _ {format : Format} {content : Content} {root : Root} {m : List Pair}
    (st : Stands format content root m) (q : List ℕ) where
  abbrev pub at_key : IsAmong (placed_nodes st.tree.placed) (link_of_key q st.tree.placed)
  at_key = node_of_key q st.tree.placed

  found_rows : (p : Placed) → (p ≡ none) ⊎ Contains (placed_nodes st.tree.placed) p
      → HasRows content (rows_of format p)
  found_rows p (inl nothing) =
      subst (λ (r : Placed). HasRows content (rows_of format r)) (sym nothing) tt
  found_rows p (inr has) = node_rows format content st.tree.placed p has st.tree.rows

  pub lies_there : Lies format content (link_of_key q st.tree.placed) at_key.0
  lies_there = record { at = at_key.1; rows = found_rows at_key.0 at_key.2 }

  pub tree_there : {link : ℕ} → link ≡ link_of_key q st.tree.placed → TreeLies content link
  tree_there is = subst (TreeLies content) (sym is) (format, at_key.0, lies_there)

  -- ---- it decides

  module _ {A : Type 0} (n : PlanNode A) (l : ℕ) (es : Entries) {link : ℕ} {b : Bool}
      (at : link ≡ link_of_key q st.tree.placed) (own : HasEntry q es)
      (mst : IsMst format (tree.node format l es))
      (is : plan_of_node n ≡ made l (entries_beside format st.tree.placed es))
      (tells : (f : Format) (p : Placed) → Lies f content link p
      → (b ≡ true) ↔ (plan_of_node n ≡ kept_node p)) where
    here : Lies format content link at_key.0
    here = subst (λ (x : ℕ). Lies format content x at_key.0) (sym at) lies_there

    matching : plan_of_node n ≡ kept_node at_key.0
        → Matches st.tree.placed (link_of_key q st.tree.placed) l
        (entries_beside format st.tree.placed es)
    matching same = go at_key.0 at_key.1 at_key.2 (sym is ∙ same)
      where
        go : (p : Placed) → link_of p ≡ link_of_key q st.tree.placed
            → (p ≡ none) ⊎ Contains (placed_nodes st.tree.placed) p
            → made l (entries_beside format st.tree.placed es) ≡ kept_node p
            → Matches st.tree.placed (link_of_key q st.tree.placed) l
            (entries_beside format st.tree.placed es)
        go none own_link which e = absurd cc
        go (head row k chain) own_link (inl nothing) e = absurd cc
        go (head row k chain) own_link (inr has) e =
            let layer : k ≡ l = cc in
            let entries : entries_beside format st.tree.placed es ≡ kept_entries chain = cc in (
              row,
              chain,
              subst (λ (i : ℕ). Contains (placed_nodes st.tree.placed) (head row i chain)) layer
                  has,
              own_link,
              entries,
            )

    pub stays : b ≡ true → kept link ≡ plan_beside format st.tree.placed (tree.node format l es)
    stays ours =
        ap kept at
        ∙ sym (match_kept format content st.tree.placed st.tree.rows
        (rises format content root m st) l es q (key_of_entry es q own) mst
        (matching ((tells format at_key.0 here).0 ours)))

    matched : Matches st.tree.placed (link_of_key q st.tree.placed) l
        (entries_beside format st.tree.placed es) → plan_of_node n ≡ kept_node at_key.0
    matched match =
        let one : head match.0 l match.1 ≡ at_key.0 =
        one_placed format content (head match.0 l match.1) at_key.0
        (match.3 ∙ sym at_key.1)
        (node_rows format content st.tree.placed (head match.0 l match.1) match.2 st.tree.rows)
        lies_there.rows in
        is ∙ ap (made l) match.4 ∙ ap kept_node one

    pub is_made : b ≡ false
        → plan_of_node n ≡ plan_beside format st.tree.placed (tree.node format l es)
    is_made other =
        is
        ∙ sym (other_made format content st.tree.placed st.tree.rows
        (rises format content root m st) l es q (key_of_entry es q own) mst
        (λ match. true≢false (sym ((tells format at_key.0 here).1 (matched match)) ∙ other)))

-- a node that is none that stands is made
module _ {format : Format} {content : Content} {root : Root} {m : List Pair}
    (st : Stands format content root m) {A : Type 0} (n : PlanNode A) (l : ℕ) where
  pub nowhere : (es : Entries) → IsMst format (tree.node format l es)
      → plan_of_node n ≡ made l (entries_beside format st.tree.placed es)
      → ((p : Placed) → plan_of_node n ≡ kept_node p → ⊥)
      → plan_of_node n ≡ plan_beside format st.tree.placed (tree.node format l es)
  nowhere (tree.last child) mst is other = absurd (omega (arith, mst.1))
  nowhere (tree.entry child key value rest) mst is other =
      is_made st key n l (tree.entry child key value rest) {b = false} refl (inl refl) mst is
      (λ f p lies. (λ no. absurd (true≢false (sym no)), λ same. absurd (other p same))) refl
