-- A migration to the format that the tree has costs nothing.
use Rattle.mst_change.proofs.Names.{◌≡◌, ◌+◌, Bool, true, not, cond, ◌||◌, List, [], ◌∷◌, inl, inr, refl, sym, ◌∙◌, ap, arith, Tree, subtrees, same_tree, top_entries, new_rows, same_from_tree}
use Rattle.std.specs.Prelude.{Contains}
use Rattle.std.specs.List.{list_any}
use Rattle.std.proofs.Math.Bool.{or-true}
use Rattle.mst_key.proofs.SpanLaws.{contains-cases, contains-nothing, contains-first, contains-later}
use Rattle.mst_node.proofs.Weights.{weigh, weigh_is}

-- each tree of a list is found in it
found : (t : Tree) (ts : List Tree) → Contains ts t → list_any (same_tree t) ts ≡ true
found t [] has = absurd (contains-nothing t has)
found t (u ∷ ts) has = elim (contains-cases u ts t has) [
  | inl is ↦ ap (λ (b : Bool). b || list_any (same_tree t) ts) (same_from_tree t u (sym is))
  | inr later ↦ ap (λ (b : Bool). same_tree t u || b) (found t ts later) ∙ or-true (same_tree t u)
]

none_new : (whole ts : List Tree) → ((t : Tree) → Contains ts t → Contains whole t)
    → weigh (λ t. not (list_any (same_tree t) whole)) ts ≡ 0
none_new whole [] inside = refl
none_new whole (t ∷ ts) inside =
    let old : cond (not (list_any (same_tree t) whole)) (top_entries t + 1) 0 ≡ 0 =
    ap (λ (b : Bool). cond (not b) (top_entries t + 1) 0)
    (found t whole (inside t (contains-first t ts t refl))) in
    omega (arith, old, none_new whole ts (λ u has. inside u (contains-later t ts u has)))

pub stays : (t : Tree) → new_rows t t ≡ 0
stays t = weigh_is (λ u. not (list_any (same_tree u) (subtrees t))) (subtrees t)
    ∙ none_new (subtrees t) (subtrees t) (λ u has. has)
