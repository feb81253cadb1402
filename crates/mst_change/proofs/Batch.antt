-- The tree after a batch; which of its nodes stand in the old tree, and how the others are counted.
use Rattle.mst_change.proofs.Names.{◌≡◌, inl, inr, ℕ, ◌+◌, Bool, true, false, cond, List, [], ◌∷◌, refl, sym, ap, subst, ◌∙◌, arith, Format, batched, Pair, IsAscending, Tree, empty, node, Entries, last, entry, entry_count, pairs, tree, is_subtree, new_rows, InTree, InEntries}
use Rattle.std.proofs.Common.{◌↔◌}
use Rattle.mst_key.specs.declared.history.Edit.{Edit}
use Rattle.mst_key.specs.declared.history.Edit.TheVariants as edit
use Rattle.mst_key.specs.History.{edited}
use Rattle.mst_key.proofs.Ascending.{IsAscending-edited}
use Rattle.mst_node.proofs.InTrees.{in_old}
use Rattle.mst_change.specs.Batch.{tree_edited, tree_batched, rows_beside, entries_beside, HasEntry, HasOnTop}
use Rattle.mst_change.proofs.Put.Trees.{put_tree}
use Rattle.mst_change.proofs.Remove.Trees.{removed_tree}
use Rattle.mst_change.proofs.Cost.Fresh.{fresh, fresh_in, fresh_in_none, new_rows_fresh}
use Rattle.mst_change.proofs.Cost.Home.{HasKey, TopKey, one_home}

-- ---- the tree

edited_tree : (format : Format) (m : List Pair) (e : Edit) → IsAscending m
    → tree_edited format (tree format m) e ≡ tree format (edited m e)
edited_tree format m (edit.Put k v) rise = put_tree format m k v rise
edited_tree format m (edit.Remove k) rise = removed_tree format m k rise

pub batched_tree : (format : Format) (m : List Pair) (es : List Edit) → IsAscending m
    → tree_batched format (tree format m) es ≡ tree format (batched m es)
batched_tree format m [] rise = refl
batched_tree format m (e ∷ es) rise =
    ap (λ (t : Tree). tree_batched format t es) (edited_tree format m e rise)
    ∙ batched_tree format (edited m e) es (IsAscending-edited m e rise)

-- ---- what stands in a tree that stands stands too

mutual
  in_below : (old t s : Tree) → InTree s t → InTree t old → InTree s old
  in_below empty t s is also = absurd also
  in_below (node g l es) t s is (inl same) = subst (InTree s) same is
  in_below (node g l es) t s is (inr also) = inr (in_below_entries es t s is also)

  in_below_entries : (es : Entries) (t s : Tree) → InTree s t → InEntries t es → InEntries s es
  in_below_entries (last child) t s is also = in_below child t s is also
  in_below_entries (entry child key value rest) t s is (inl also) =
      inl (in_below child t s is also)
  in_below_entries (entry child key value rest) t s is (inr also) =
      inr (in_below_entries rest t s is also)

-- ---- the count

beside_node : (old : Tree) (n : Tree) (c f b : ℕ) (test : Bool)
    → b ≡ f → (test ≡ true → f ≡ 0) → cond test 0 (c + b) ≡ cond test 0 c + f
beside_node old n c f b true same none = let e = none refl in omega (arith, e)
beside_node old n c f b false same none = ap (λ x. c + x) same

mutual
  pub rows_beside_fresh : (t old : Tree) → rows_beside old t ≡ fresh old t
  rows_beside_fresh empty old = refl
  rows_beside_fresh (node g l es) old =
      beside_node old (node g l es) (entry_count es + 1) (fresh_in old es) (entries_beside old es)
      (is_subtree (node g l es) old) (entries_beside_fresh es old)
      (λ is. fresh_in_none es old (λ s i. in_below old (node g l es) s (inr i)
      (in_old (node g l es) old is)))

  entries_beside_fresh : (es : Entries) (old : Tree) → entries_beside old es ≡ fresh_in old es
  entries_beside_fresh (last child) old = rows_beside_fresh child old
  entries_beside_fresh (entry child key value rest) old =
      let one = rows_beside_fresh child old in
      let more = entries_beside_fresh rest old in
      omega (arith, one, more)

pub beside_cost : (old t : Tree) → rows_beside old t ≡ new_rows old t
beside_cost old t = rows_beside_fresh t old ∙ sym (new_rows_fresh t old)

-- ---- which node stands

key_of_entry : (es : Entries) (q : List ℕ) → HasEntry q es → HasKey q es
key_of_entry (last child) q has = has
key_of_entry (entry child key value rest) q (inl is) = inl is
key_of_entry (entry child key value rest) q (inr has) = inr (key_of_entry rest q has)

top_key : (t : Tree) (q : List ℕ) → HasOnTop q t → TopKey q t
top_key empty q has = has
top_key (node g l es) q has = key_of_entry es q has

-- a node stands in the tree exactly if it is the one that has its key there
pub stands_by_key : (old n u : Tree) (q : List ℕ) → IsAscending (pairs old)
    → is_subtree u old ≡ true → HasOnTop q u → HasOnTop q n
    → (is_subtree n old ≡ true) ↔ (n ≡ u)
stands_by_key old n u q rise is has shares = (
  (λ also. one_home old n u q rise (in_old n old also) (in_old u old is) (top_key n q shares)
      (top_key u q has)),
  (λ same. subst (λ (t : Tree). is_subtree t old ≡ true) (sym same) is),
)
