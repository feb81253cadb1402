-- Marks that are added at the links of a plan, gap by gap.
use Rattle.mst_batch.proofs.Names.{◌≡◌, ℕ, ◌+◌, ◌<◌, List, [], ◌∷◌, ◌++◌, length, map, take, get_or, Bool, inl, inr, refl, sym, ◌∙◌, ap, subst, arith, append_assoc, In, times-append, in_either, PlanNode, PlanEntry, out-PlanEntry, links_kept, entries_links, AddsMarks, PlanTree, PlannedEntry, last, with_planned, planned_entry, plan_of, plan_of_node}
use Rattle.mst_batch.proofs.PlanShapes.{items, tail, plan_out, entries_more, take_all}

-- the links that entries keep in the gaps before them
abbrev pub list_links : List PlannedEntry → List ℕ
list_links [] = []
list_links (x ∷ xs) = links_kept x.child ++ list_links xs

pub list_links-append : (xs ys : List PlannedEntry)
    → list_links (xs ++ ys) ≡ list_links xs ++ list_links ys
list_links-append [] ys = refl
list_links-append (x ∷ xs) ys =
    ap (λ (links : List ℕ). links_kept x.child ++ links) (list_links-append xs ys)
    ∙ sym (append_assoc (links_kept x.child) (list_links xs) (list_links ys))

pub links_with : (xs : List PlannedEntry) (t : PlanTree) → entries_links (with_planned xs (last t))
    ≡ list_links xs ++ links_kept t
links_with [] t = refl
links_with (x ∷ xs) t = ap (λ (links : List ℕ). links_kept x.child ++ links) (links_with xs t)
    ∙ sym (append_assoc (links_kept x.child) (list_links xs) (links_kept t))

in_first : (r : ℕ) (xs ys : List ℕ) → In r xs → In r (xs ++ ys)
in_first r xs ys i = omega (arith, i, times-append r xs ys)

in_second : (r : ℕ) (xs ys : List ℕ) → In r ys → In r (xs ++ ys)
in_second r xs ys i = omega (arith, i, times-append r xs ys)

pub adds_none : (marks : List Bool) → AddsMarks marks marks []
adds_none marks row = (
  λ is. inl is,
  λ is. elim is [
    | inl was ↦ was
    | inr i ↦ absurd (omega (arith, i))
  ],
)

pub adds_more : (a b c : List Bool) (xs ys : List ℕ) → AddsMarks a b xs → AddsMarks b c ys
    → AddsMarks a c (xs ++ ys)
adds_more a b c xs ys first second row = (
  λ is. elim ((second row).0 is) [
    | inl was ↦ elim ((first row).0 was) [
      | inl old ↦ inl old
      | inr i ↦ inr (in_first (row + 1) xs ys i)
    ]
    | inr i ↦ inr (in_second (row + 1) xs ys i)
  ],
  λ is. elim is [
    | inl old ↦ (second row).1 (inl ((first row).1 (inl old)))
    | inr i ↦ elim (in_either (row + 1) xs ys i) [
      | inl x ↦ (second row).1 (inl ((first row).1 (inr x)))
      | inr y ↦ (second row).1 (inr y)
    ]
  ],
)

module _ (A : Type 0) (n : PlanNode A) where
  -- the marks of one gap more
  pub adds_entry : (i : ℕ) (e : PlanEntry A) → i < length (items A n) → e ≡ get_or (items A n) i e
      → (a b c : List Bool) → AddsMarks a b (list_links (map planned_entry (take i (items A n))))
      → AddsMarks b c (links_kept (plan_of (out-PlanEntry A e).child))
      → AddsMarks a c (list_links (map planned_entry (take (i + 1) (items A n))))
  adds_entry i e h is a b c so_far more =
      subst (AddsMarks a c)
      (sym (ap list_links (entries_more A n i e h is)
      ∙ list_links-append (map planned_entry (take i (items A n))) _))
      (adds_more a b c _ _ so_far (adds_more b c c _ [] more (adds_none c)))

  -- the marks of the last gap
  pub adds_last : (i : ℕ) → i ≡ length (items A n) → (a b c : List Bool)
      → AddsMarks a b (list_links (map planned_entry (take i (items A n))))
      → AddsMarks b c (links_kept (tail A n)) → AddsMarks a c (links_kept (plan_of_node n))
  adds_last i all a b c so_far more =
      subst (AddsMarks a c)
      (sym (ap links_kept (plan_out A n)
      ∙ links_with (map planned_entry (items A n)) (tail A n)))
      (adds_more a b c _ _
      (subst (λ (xs : List PlannedEntry). AddsMarks a b (list_links xs)) (take_all A n i all)
      so_far) more)
