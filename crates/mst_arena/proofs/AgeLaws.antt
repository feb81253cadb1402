-- What a tree that has lasted says, version by version.
use Rattle.mst_arena.proofs.Names.{◌≡◌, ℕ, zero, suc, ◌≤◌, inl, inr, true, sym, ◌∙◌, ap, subst, arith, cases_lt, and_parts, and_from, Format}
use Rattle.mst_key.specs.History.{History}
use Rattle.mst_node.specs.Cost.{is_subtree}
use Rattle.mst_node.specs.Stays.{tree_at, lasts}
use Rattle.mst_node.specs.Tree.{Tree}
use Rattle.mst_node.proofs.HeldLaws.{lasts_here, lasts_on, lasts_stands}

module _ (first : Format) (h : History) (t : Tree) where
  abbrev Stood : ℕ → Type 0
  Stood u = is_subtree t (tree_at first h u) ≡ true

  pub stood_at : (v w u : ℕ) → v ≤ u → u ≤ w → lasts first h v w t ≡ true → Stood u
  stood_at v zero u from to is = let same : zero ≡ u = omega (arith, to) in subst Stood same is
  stood_at v (suc w) u from to is = elim (cases_lt w u) [
    | inl above ↦ let same : suc w ≡ u = omega (arith, above, to) in
        subst Stood same (lasts_stands first h v (suc w) t is)
    | inr below ↦ let before : v ≤ w = omega (arith, from, below) in
        stood_at v w u from below
        (and_parts (is_subtree t (tree_at first h (suc w))) (lasts first h v w t)
        (sym (lasts_on first h v w t before) ∙ is)).1
  ]

  pub lasted : (v w : ℕ) → v ≤ w → ((u : ℕ) → v ≤ u → u ≤ w → Stood u) → lasts first h v w t
      ≡ true
  lasted v zero le each = each zero le (omega arith)
  lasted v (suc w) le each = elim (cases_lt w v) [
    | inl last ↦ let same : v ≡ suc w = omega (arith, last, le) in
        ap (λ (n : ℕ). lasts first h n (suc w) t) same ∙ lasts_here first h (suc w) t
        ∙ each (suc w) le (omega arith)
    | inr below ↦ lasts_on first h v w t below
        ∙ and_from (is_subtree t (tree_at first h (suc w))) (lasts first h v w t)
        (each (suc w) le (omega arith))
        (lasted v w below (λ u from to. each u from (omega (arith, to))))
  ]
