-- A search for a key meets the nodes in whose span the key falls.
use Rattle.mst_proof.proofs.Names.{◌≡◌, ℕ, Bool, true, false, List, [], ◌∷◌, ◌++◌, map, Option, Some, ◌⊎◌, inl, inr, refl, sym, ◌∙◌, ap, subst, Ordering, Less, is_lt, is_gt, map-append, key_cmp, above, below, less_chain, greater_from_less, equal_from_same, Tree, empty, node, Entries, last, entry, LiesBetween, EntriesLieBetween, nodes_met, met_in_gap, Span, is_inside}
use Rattle.std.proofs.Common.{append-nil}
use Rattle.std.specs.Prelude.{filter, ◌&&◌, if◌then◌else◌}
use Rattle.std.proofs.lemmas.List.Elements.{filter-append}
use Rattle.mst_key.proofs.KeyOrder.{by_order}
use Rattle.mst_node.specs.Trail.{by_order as chosen}
use Rattle.mst_proof.specs.Spans.{spans, spans_in}

abbrev pub Stay : Type 0
Stay = Span × Tree

-- the nodes among these in whose span the key falls
abbrev pub around : List ℕ → List Stay → List Tree
around k ss = map (λ (s : Stay). s.1) (filter (λ (s : Stay). is_inside s.0 k) ss)

-- ---- spans on one side of the key

-- the key is the bound, or less
abbrev pub IsUpTo : List ℕ → List ℕ → Type 0
IsUpTo k j = (k ≡ j) ⊎ (key_cmp k j ≡ Less)

not_above : (k j : List ℕ) → IsUpTo k j → above (Some j) k ≡ false
not_above k j (inl same) = ap is_gt (equal_from_same k j same)
not_above k j (inr less) = ap is_gt less

not_below : (k j : List ℕ) → IsUpTo j k → below (Some j) k ≡ false
not_below k j (inl same) = ap is_lt (equal_from_same k j (sym same))
not_below k j (inr less) = ap is_lt (greater_from_less j k less)

up_to_less : (k j i : List ℕ) → IsUpTo k j → key_cmp j i ≡ Less → IsUpTo k i
up_to_less k j i (inl same) less = inr (subst (λ (l : List ℕ). key_cmp l i ≡ Less) (sym same) less)
up_to_less k j i (inr first) less = inr (less_chain k j i first less)

less_up_to : (i j k : List ℕ) → key_cmp i j ≡ Less → IsUpTo j k → IsUpTo i k
less_up_to i j k less (inl same) = inr (subst (λ (l : List ℕ). key_cmp i l ≡ Less) same less)
less_up_to i j k less (inr next) = inr (less_chain i j k less next)

skipped : (k : List ℕ) (s : Stay) (ss : List Stay) → is_inside s.0 k ≡ false → around k ss ≡ []
    → around k (s ∷ ss) ≡ []
skipped k s ss out none =
    ap (λ (b : Bool). map (λ (s : Stay). s.1)
    (if b then s ∷ filter (λ (s : Stay). is_inside s.0 k) ss else filter
    (λ (s : Stay). is_inside s.0 k) ss)) out ∙ none

around-append : (k : List ℕ) (ss rs : List Stay) → around k (ss ++ rs) ≡ around k ss ++ around k rs
around-append k ss rs =
    let test : Stay → Bool = λ s. is_inside s.0 k in
    let tree : Stay → Tree = λ s. s.1 in
    ap (λ (l : List Stay). map tree l) (filter-append test ss rs) ∙ map-append tree (filter test ss)
    (filter test rs)

both_none : (k : List ℕ) (ss rs : List Stay) → around k ss ≡ [] → around k rs ≡ []
    → around k (ss ++ rs) ≡ []
both_none k ss rs a b = around-append k ss rs ∙ ap (λ (ts : List Tree). ts ++ around k rs) a ∙ b

mutual
  pub none_above : (k j : List ℕ) (high : Option (List ℕ)) (t : Tree) → IsUpTo k j
      → LiesBetween (Some j) high t → around k (spans (Some j) high t) ≡ []
  none_above k j high empty up lies = refl
  none_above k j high (node f l es) up lies =
      skipped k (record { low = Some j; high = high }, node f l es) (spans_in (Some j) high es)
      (ap (λ (b : Bool). b && below high k) (not_above k j up))
      (none_above_in k j high es up lies)

  pub none_above_in : (k j : List ℕ) (high : Option (List ℕ)) (es : Entries) → IsUpTo k j
      → EntriesLieBetween (Some j) high es → around k (spans_in (Some j) high es) ≡ []
  none_above_in k j high (last child) up lies = none_above k j high child up lies
  none_above_in k j high (entry child key value rest) up lies =
      both_none k (spans (Some j) (Some key) child) (spans_in (Some key) high rest)
      (none_above k j (Some key) child up lies.1)
      (none_above_in k key high rest (up_to_less k j key up lies.0.above) lies.2)

both_false : (a : Bool) → a && false ≡ false
both_false true = refl
both_false false = refl

mutual
  pub none_below : (k j : List ℕ) (low : Option (List ℕ)) (t : Tree) → IsUpTo j k → LiesBetween low
      (Some j) t → around k (spans low (Some j) t) ≡ []
  none_below k j low empty up lies = refl
  none_below k j low (node f l es) up lies =
      skipped k (record { low = low; high = Some j }, node f l es) (spans_in low (Some j) es)
      (ap (λ (b : Bool). above low k && b) (not_below k j up) ∙ both_false (above low k))
      (none_below_in k j low es up lies)

  pub none_below_in : (k j : List ℕ) (low : Option (List ℕ)) (es : Entries) → IsUpTo j k
      → EntriesLieBetween low (Some j) es → around k (spans_in low (Some j) es) ≡ []
  none_below_in k j low (last child) up lies = none_below k j low child up lies
  none_below_in k j low (entry child key value rest) up lies =
      both_none k (spans low (Some key) child) (spans_in (Some key) (Some j) rest)
      (none_below k key low child (less_up_to key j k lies.0.below up) lies.1)
      (none_below_in k j (Some key) rest up lies.2)

-- ---- the nodes that are met

mutual
  pub met_around : (k : List ℕ) (low high : Option (List ℕ)) (t : Tree) → above low k ≡ true
      → below high k ≡ true → LiesBetween low high t → nodes_met k t ≡ around k (spans low high t)
  met_around k low high empty a b lies = refl
  met_around k low high (node f l es) a b lies =
      let inside : is_inside (record { low = low; high = high }) k ≡ true =
      ap (λ (x : Bool). x && below high k) a ∙ b in
      let rest = filter (λ (s : Stay). is_inside s.0 k) (spans_in low high es) in
      ap (λ (ts : List Tree). node f l es ∷ ts) (met_around_in k low high es a b lies)
      ∙ sym
      (ap (λ (x : Bool). map (λ (s : Stay). s.1)
      (if x then (record { low = low; high = high }, node f l es) ∷ rest else rest)) inside)

  pub met_around_in : (k : List ℕ) (low high : Option (List ℕ)) (es : Entries) → above low k ≡ true
      → below high k ≡ true → EntriesLieBetween low high es → met_in_gap k es ≡ around k
      (spans_in low high es)
  met_around_in k low high (last child) a b lies = met_around k low high child a b lies
  met_around_in k low high (entry child key value rest) a b lies =
      by_order k key
      (λ less.
      ap (λ (o : Ordering). chosen o (nodes_met k child) [] (met_in_gap k rest)) less
      ∙ met_around k low (Some key) child a (ap is_lt less) lies.1
      ∙ sym (append-nil (around k (spans low (Some key) child)))
      ∙ ap (λ (ts : List Tree). around k (spans low (Some key) child) ++ ts)
      (sym (none_above_in k key high rest (inr less) lies.2))
      ∙ sym (around-append k (spans low (Some key) child) (spans_in (Some key) high rest)))
      (λ same.
      ap (λ (o : Ordering). chosen o (nodes_met k child) [] (met_in_gap k rest))
      (equal_from_same k key same)
      ∙ sym (both_none k (spans low (Some key) child) (spans_in (Some key) high rest)
      (none_below k key low child (inl (sym same)) lies.1)
      (none_above_in k key high rest (inl same) lies.2)))
      (λ more.
      ap (λ (o : Ordering). chosen o (nodes_met k child) [] (met_in_gap k rest))
      (greater_from_less key k more)
      ∙ met_around_in k (Some key) high rest (ap is_gt (greater_from_less key k more)) b lies.2
      ∙ ap (λ (ts : List Tree). ts ++ around k (spans_in (Some key) high rest))
      (sym (none_below k key low child (inr more) lies.1))
      ∙ sym (around-append k (spans low (Some key) child) (spans_in (Some key) high rest)))
