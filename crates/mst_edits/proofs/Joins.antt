-- A rising list of edits made in the list of a map: what holds in the middle, and that each step
-- keeps it.
use Rattle.std.proofs.Common.{◌≡◌, ℕ, List, [], ◌∷◌, ◌++◌, Less, Equal, Ordering, is_eq, is_lt, is_gt, not, filter, refl, sym, ap, ◌∙◌, append_assoc}
use Rattle.std.proofs.lemmas.Bool.{cond-false}
use Rattle.std.proofs.lemmas.List.{append-nil}
use Rattle.mst_key.specs.declared.history.Edit.{Edit}
use Rattle.mst_key.specs.declared.history.Edit.TheVariants as edit
use Rattle.mst_key.specs.Edits.{AreAbove, AreRising}
use Rattle.mst_key.specs.History.{edited, batched, key_of}
use Rattle.mst_key.specs.Map.{Pair, key_cmp, AllAbove, IsAscending, remove}
use Rattle.mst_key.proofs.KeyOrder.{equal_from_same}
use Rattle.mst_key.proofs.MapLaws.{AllAbove-less}
use Rattle.mst_key.proofs.Splits.{put-right, remove-right, put-before, above-stays}
use Rattle.mst_edits.proofs.Rising.{above-less}
use Rattle.mst_edits.specs.Listed.{put_of}

-- ---- the first pair, beside an edit

edited-kept : (p : Pair) (m : List Pair) (e : Edit) → key_cmp p.0 (key_of e) ≡ Less
    → edited (p ∷ m) e ≡ p ∷ edited m e
edited-kept p m (edit.Put k v) less = put-right (p ∷ []) m k v (less, tt)
edited-kept p m (edit.Remove k) less = remove-right (p ∷ []) m k (less, tt)

batched-kept : (p : Pair) (m : List Pair) (es : List Edit) → AreAbove es p.0
    → batched (p ∷ m) es ≡ p ∷ batched m es
batched-kept p m [] above = refl
batched-kept p m (e ∷ es) above =
    ap (λ (n : List Pair). batched n es) (edited-kept p m e above.0)
    ∙ batched-kept p (edited m e) es above.1

edited-passed : (p : Pair) (m : List Pair) (e : Edit) → key_cmp p.0 (key_of e) ≡ Equal
    → edited (p ∷ m) e ≡ edited m e
edited-passed p m (edit.Put k v) equal =
    let lesser : List Pair = filter (λ (r : Pair). is_lt (key_cmp r.0 k)) m in
    let greater : List Pair = filter (λ (r : Pair). is_gt (key_cmp r.0 k)) m in
    let low : filter (λ (r : Pair). is_lt (key_cmp r.0 k)) (p ∷ m) ≡ lesser =
    cond-false (is_lt (key_cmp p.0 k)) (p ∷ lesser) lesser (ap is_lt equal) in
    let high : filter (λ (r : Pair). is_gt (key_cmp r.0 k)) (p ∷ m) ≡ greater =
    cond-false (is_gt (key_cmp p.0 k)) (p ∷ greater) greater (ap is_gt equal) in
    λ i. low i ++ (k, v) ∷ high i
edited-passed p m (edit.Remove k) equal =
    cond-false (not (is_eq (key_cmp p.0 k))) (p ∷ remove m k) (remove m k)
    (ap (λ (r : Ordering). not (is_eq r)) equal)

-- ---- in the middle

-- these pairs are done, and these pairs and edits are left
pub record Joins (m : List Pair) (es : List Edit) (done rest : List Pair) (left : List Edit)
    : Type 0 where
  pub is : done ++ batched rest left ≡ batched m es
  pub ascending : IsAscending rest
  pub rising : AreRising left

pub joins-begin : (m : List Pair) (es : List Edit) → IsAscending m → AreRising es
    → Joins m es [] m es
joins-begin m es ascending rising = record {
  is = refl;
  ascending = ascending;
  rising = rising;
}

module _ (m : List Pair) (es : List Edit) (done : List Pair) where
  pub keep_pair : (p : Pair) (rest : List Pair) (e : Edit) (left : List Edit)
      → Joins m es done (p ∷ rest) (e ∷ left) → key_cmp p.0 (key_of e) ≡ Less
      → Joins m es (done ++ p ∷ []) rest (e ∷ left)
  keep_pair p rest e left j less = record {
    is = append_assoc done (p ∷ []) (batched rest (e ∷ left))
        ∙ ap (λ (l : List Pair). done ++ l) (sym (batched-kept p rest (e ∷ left)
        (less, above-less left p.0 (key_of e) less j.rising.0))) ∙ j.is;
    ascending = j.ascending.1;
    rising = j.rising;
  }

  pub pass_pair : (p : Pair) (rest : List Pair) (e : Edit) (left : List Edit)
      → Joins m es done (p ∷ rest) (e ∷ left) → p.0 ≡ key_of e
      → Joins m es done rest (e ∷ left)
  pass_pair p rest e left j same = record {
    is = ap (λ (n : List Pair). done ++ batched n left)
        (sym (edited-passed p rest e (equal_from_same p.0 (key_of e) same))) ∙ j.is;
    ascending = j.ascending.1;
    rising = j.rising;
  }

  pub make_edit : (rest : List Pair) (e : Edit) (left : List Edit)
      → Joins m es done rest (e ∷ left) → AllAbove rest (key_of e)
      → Joins m es (done ++ put_of e) rest left
  make_edit rest (edit.Put k v) left j above = record {
    is = append_assoc done ((k, v) ∷ []) (batched rest left)
        ∙ ap (λ (l : List Pair). done ++ l)
        (sym (ap (λ (n : List Pair). batched n left) (put-before rest k v above)
        ∙ batched-kept (k, v) rest left j.rising.0)) ∙ j.is;
    ascending = j.ascending;
    rising = j.rising.1;
  }
  make_edit rest (edit.Remove k) left j above = record {
    is = ap (λ (l : List Pair). l ++ batched rest left) (append-nil done)
        ∙ ap (λ (n : List Pair). done ++ batched n left) (sym (above-stays rest k above)) ∙ j.is;
    ascending = j.ascending;
    rising = j.rising.1;
  }

-- a key below the first of rising pairs is below all
pub above-first : (p : Pair) (rest : List Pair) (k : List ℕ) → IsAscending (p ∷ rest)
    → key_cmp k p.0 ≡ Less → AllAbove (p ∷ rest) k
above-first p rest k rise less = (less, AllAbove-less rest k p.0 less rise.0)
