-- Edits made in the parts of a list of pairs: below a key, of it, and above it.
use Rattle.mst_batch.proofs.Names.{◌≡◌, ℕ, List, [], ◌∷◌, ◌++◌, Less, is_lt, is_eq, is_gt, not, filter, refl, sym, ap, ◌∙◌, subst, AllByRecursion, Edit, AreAbove, AreRising, edited, batched, key_of, Pair, key_cmp, AllAbove, IsAscending, alls-append, alls-filter, alls-weaker, equal_from_same, less_chain, other_from_less, AllBelow-less, IsAscending-back, IsAscending-below, put_of, AreBelow, AreOf, above-first}
use Rattle.mst_key.specs.declared.history.Edit.TheVariants as edit
use Rattle.mst_key.specs.Map.{AllBelow}
use Rattle.mst_key.proofs.HistoryLaws.{batched-append}
use Rattle.mst_key.proofs.Splits.{put-left, put-right, put-first, remove-left, remove-right, remove-first}

-- ---- an edit of a key below all of the last pairs, or above all of the first ones

edited-left : (front back : List Pair) (e : Edit) → AllAbove back (key_of e)
    → edited (front ++ back) e ≡ edited front e ++ back
edited-left front back (edit.Put k v) above = put-left front back k v above
edited-left front back (edit.Remove k) above = remove-left front back k above

edited-right : (front back : List Pair) (e : Edit) → AllBelow front (key_of e)
    → edited (front ++ back) e ≡ front ++ edited back e
edited-right front back (edit.Put k v) below = put-right front back k v below
edited-right front back (edit.Remove k) below = remove-right front back k below

-- pairs and edits below a key leave pairs below it
edited-below : (m : List Pair) (e : Edit) (k : List ℕ) → AllBelow m k
    → key_cmp (key_of e) k ≡ Less → AllBelow (edited m e) k
edited-below m (edit.Put q v) k below less =
    let P : Pair → Type 0 = λ p. key_cmp p.0 k ≡ Less in
    alls-append P (filter (λ (p : Pair). is_lt (key_cmp p.0 q)) m)
    ((q, v) ∷ filter (λ (p : Pair). is_gt (key_cmp p.0 q)) m)
    (alls-filter P (λ (p : Pair). is_lt (key_cmp p.0 q)) m below)
    (less, alls-filter P (λ (p : Pair). is_gt (key_cmp p.0 q)) m below)
edited-below m (edit.Remove q) k below less =
    alls-filter (λ (p : Pair). key_cmp p.0 k ≡ Less) (λ (p : Pair). not (is_eq (key_cmp p.0 q))) m
    below

batched-below : (m : List Pair) (es : List Edit) (k : List ℕ) → AllBelow m k → AreBelow es k
    → AllBelow (batched m es) k
batched-below m [] k below less = below
batched-below m (e ∷ es) k below less =
    batched-below (edited m e) es k (edited-below m e k below less.0) less.1

-- ---- edits in two parts

-- the key of the edit is below these pairs
abbrev IsUnder : List Pair → Edit → Type 0
IsUnder back e = AllAbove back (key_of e)

-- the key of the edit is above these pairs and edits
abbrev IsOver : List Pair → List Edit → Edit → Type 0
IsOver front es f = AllBelow front (key_of f) × AreBelow es (key_of f)

batched-left : (front back : List Pair) (es : List Edit) → AllByRecursion (IsUnder back) es
    → batched (front ++ back) es ≡ batched front es ++ back
batched-left front back [] under = refl
batched-left front back (e ∷ es) under =
    ap (λ (m : List Pair). batched m es) (edited-left front back e under.0)
    ∙ batched-left (edited front e) back es under.1

batched-right : (front back : List Pair) (es : List Edit)
    → AllByRecursion (λ e. AllBelow front (key_of e)) es
    → batched (front ++ back) es ≡ front ++ batched back es
batched-right front back [] over = refl
batched-right front back (e ∷ es) over =
    ap (λ (m : List Pair). batched m es) (edited-right front back e over.0)
    ∙ batched-right front (edited back e) es over.1

batched_parts : (front back : List Pair) (es fs : List Edit) → AllByRecursion (IsUnder back) es
    → AllByRecursion (IsOver front es) fs
    → batched (front ++ back) (es ++ fs) ≡ batched front es ++ batched back fs
batched_parts front back es fs under over =
    batched-append (front ++ back) es fs
    ∙ ap (λ (m : List Pair). batched m fs) (batched-left front back es under)
    ∙ batched-right (batched front es) back fs
    (alls-weaker (IsOver front es) (λ (f : Edit). AllBelow (batched front es) (key_of f))
    (λ f o. batched-below front es (key_of f) o.0 o.1) fs over)

-- ---- the parts at a pair

below-less : (es : List Edit) (j k : List ℕ) → AreBelow es j → key_cmp j k ≡ Less → AreBelow es k
below-less es j k below less =
    alls-weaker (λ (e : Edit). key_cmp (key_of e) j ≡ Less)
    (λ (e : Edit). key_cmp (key_of e) k ≡ Less) (λ e is. less_chain (key_of e) j k is less) es below

of-less : (es : List Edit) (j k : List ℕ) → AreOf es j → key_cmp j k ≡ Less → AreBelow es k
of-less es j k own less =
    alls-weaker (λ (e : Edit). key_of e ≡ j) (λ (e : Edit). key_cmp (key_of e) k ≡ Less)
    (λ e is. subst (λ (q : List ℕ). key_cmp q k ≡ Less) (sym is) less) es own

module _ (front : List Pair) (k v : List ℕ) (back : List Pair)
    (rise : IsAscending (front ++ (k, v) ∷ back)) (lo own hi : List Edit) (low : AreBelow lo k)
    (same : AreOf own k) (high : AreAbove hi k) where
  from_pair : IsAscending ((k, v) ∷ back)
  from_pair = IsAscending-back front ((k, v) ∷ back) rise

  low_under : AllByRecursion (IsUnder ((k, v) ∷ back)) lo
  low_under = alls-weaker (λ (e : Edit). key_cmp (key_of e) k ≡ Less) (IsUnder ((k, v) ∷ back))
      (λ e less. above-first (k, v) back (key_of e) from_pair less) lo low

  own_under : AllByRecursion (IsUnder back) own
  own_under = alls-weaker (λ (e : Edit). key_of e ≡ k) (IsUnder back)
      (λ e is. subst (AllAbove back) (sym is) from_pair.0) own same

  front_below : AllBelow front k
  front_below = IsAscending-below front back (k, v) rise

  rest_over : AllByRecursion (IsOver front lo) (own ++ hi)
  rest_over = alls-append (IsOver front lo) own hi
      (alls-weaker (λ (e : Edit). key_of e ≡ k) (IsOver front lo)
      (λ e is. (
        subst (AllBelow front) (sym is) front_below,
        subst (AreBelow lo) (sym is) low,
      )) own same)
      (alls-weaker (λ (f : Edit). key_cmp k (key_of f) ≡ Less) (IsOver front lo)
      (λ f less. (
        AllBelow-less front k (key_of f) front_below less,
        below-less lo k (key_of f) low less,
      )) hi high)

  high_over : AllByRecursion (IsOver ((k, v) ∷ []) own) hi
  high_over = alls-weaker (λ (f : Edit). key_cmp k (key_of f) ≡ Less) (IsOver ((k, v) ∷ []) own)
      (λ f less. ((less, tt), of-less own k (key_of f) same less)) hi high

  pub batched_at : batched (front ++ (k, v) ∷ back) (lo ++ (own ++ hi))
      ≡ batched front lo ++ (batched ((k, v) ∷ []) own ++ batched back hi)
  batched_at =
      batched_parts front ((k, v) ∷ back) lo (own ++ hi) low_under rest_over
      ∙ ap (λ (m : List Pair). batched front lo ++ m)
      (batched_parts ((k, v) ∷ []) back own hi own_under high_over)

-- ---- the edit of a pair's own key

pub edited_own : (k v : List ℕ) (e : Edit) → key_of e ≡ k → edited ((k, v) ∷ []) e ≡ put_of e
edited_own k v (edit.Put q w) same =
    put-first [] q k w v (equal_from_same k q (sym same)) tt
edited_own k v (edit.Remove q) same =
    remove-first [] q k v (equal_from_same k q (sym same)) tt

-- of rising edits only one is of a key
pub one_of_key : (k : List ℕ) (e : Edit) (es : List Edit) → AreRising (e ∷ es)
    → AreOf (e ∷ es) k → es ≡ []
one_of_key k e [] rising own = refl
one_of_key k e (f ∷ es) rising own =
    absurd (other_from_less (key_of e) (key_of f) rising.0.0 (own.0 ∙ sym own.1.0))
