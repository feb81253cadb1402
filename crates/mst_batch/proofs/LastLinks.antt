-- The greatest link of a plan is one that it keeps.
use Rattle.mst_batch.proofs.Names.{◌≡◌, ℕ, suc, zero, ◌+◌, ◌-◌, ◌<◌, max, List, [], ◌++◌, length, map, take, get_or, ◌⊎◌, inl, inr, refl, sym, ◌∙◌, ap, subst, arith, times, In, times-append, PlanNode, PlanEntry, out-PlanEntry, links_kept, PlannedEntry, planned_entry, plan_of, plan_of_node}
use Rattle.mst_batch.proofs.Marks.{list_links, list_links-append, links_with}
use Rattle.mst_batch.proofs.PlanShapes.{items, tail, plan_out, entries_more, take_all}

greater : (a b : ℕ) → (max a b ≡ a) ⊎ (max a b ≡ b)
greater a b = go (b - a) refl
  where
    go : (n : ℕ) → b - a ≡ n → (max a b ≡ a) ⊎ (max a b ≡ b)
    go zero e = inl (omega (arith, e))
    go (suc n) e = inr (omega (arith, e))

-- of two links that are kept or 0, the greater
greater_kept : (a b : ℕ) (front own last : List ℕ) → (0 < a → 0 < times a front + times a last)
    → (0 < b → In b own)
    → 0 < max a b → 0 < times (max a b) (front ++ (own ++ [])) + times (max a b) last
greater_kept a b front own last so_far here some = elim (greater a b) [
  | inl is ↦ subst (λ (m : ℕ). 0 < m → 0 < times m (front ++ (own ++ [])) + times m last)
      (sym is)
      (λ some_a. omega (
        arith,
        so_far some_a,
        times-append a front (own ++ []),
      )) some
  | inr is ↦ subst (λ (m : ℕ). 0 < m → 0 < times m (front ++ (own ++ [])) + times m last)
      (sym is)
      (λ some_b. omega (
        arith,
        here some_b,
        times-append b front (own ++ []),
        times-append b own [],
      )) some
]

module _ (A : Type 0) (n : PlanNode A) where
  -- the link is kept after the last entry or before one of so many, or is 0
  abbrev pub IsKeptSoFar : ℕ → ℕ → Type 0
  IsKeptSoFar i link = 0 < link
      → 0 < times link (list_links (map planned_entry (take i (items A n))))
      + times link (links_kept (tail A n))

  pub one_more : (i : ℕ) (e : PlanEntry A) → i < length (items A n) → e ≡ get_or (items A n) i e
      → (last own : ℕ) → IsKeptSoFar i last
      → (0 < own → In own (links_kept (plan_of (out-PlanEntry A e).child)))
      → IsKeptSoFar (i + 1) (max last own)
  one_more i e h is last own so_far here =
      subst (λ (links : List ℕ). 0 < max last own
      → 0 < times (max last own) links + times (max last own) (links_kept (tail A n)))
      (sym (ap list_links (entries_more A n i e h is)
      ∙ list_links-append (map planned_entry (take i (items A n))) _))
      (greater_kept last own (list_links (map planned_entry (take i (items A n)))) _
      (links_kept (tail A n)) so_far here)

  pub at_end : (i : ℕ) → i ≡ length (items A n) → (last : ℕ) → IsKeptSoFar i last
      → 0 < last → In last (links_kept (plan_of_node n))
  at_end i all last so_far some =
      let all_of = subst (λ (xs : List PlannedEntry). 0 < times last (list_links xs)
      + times last (links_kept (tail A n))) (take_all A n i all) (so_far some) in
      subst (In last)
      (sym (ap links_kept (plan_out A n)
      ∙ links_with (map planned_entry (items A n)) (tail A n)))
      (omega (
        arith,
        all_of,
        times-append last (list_links (map planned_entry (items A n)))
            (links_kept (tail A n)),
      ))
