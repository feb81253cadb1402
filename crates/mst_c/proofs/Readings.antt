-- How the edits of a buffer are read off, one after the other.
use Rattle.mst_c.proofs.Names.{◌≡◌, ℕ, zero, suc, ◌+◌, ◌<◌, ◌≤◌, List, [], ◌∷◌, ◌++◌, length, refl, sym, ap, ◌∙◌, arith, Result, Ok, Err, is_ok, false≢true, length-append, Edit, EditFault, edit_at, placed}
use Rattle.mst_c.specs.Batches.{edits_from, edits_in, edits_or_none}

-- what is left decides, with the edits so far
pub record Reading (packed : List ℕ) (before : List Edit) (rest : List ℕ) : Type 0 where
  pub steps : ℕ
  pub enough : length rest ≤ steps
  pub is : edits_in packed ≡ edits_from steps before rest

pub begins : (packed : List ℕ) → Reading packed [] packed
unfolding edits_in
begins packed = record { steps = length packed; enough = omega arith; is = refl }

-- one step more, with what it gives
step_is : (n : ℕ) (before : List Edit) (b : ℕ) (bytes : List ℕ)
    (first : Result (Edit × List ℕ) EditFault) → edit_at (b ∷ bytes) ≡ first
    → edits_from (suc n) before (b ∷ bytes) ≡ placed (length before) first
    (λ x. edits_from n (before ++ x.0 ∷ []) x.1)
unfolding edits_from
step_is n before b bytes first is = ap (λ (r : Result (Edit × List ℕ) EditFault).
    placed (length before) r (λ x. edits_from n (before ++ x.0 ∷ []) x.1)) is

-- the next edit is read, and what is left has steps enough
pub step : (n : ℕ) (before : List Edit) (rest : List ℕ) → length rest ≤ n → (e : Edit)
    (behind : List ℕ) → edit_at rest ≡ Ok (e, behind) → length behind < length rest
    → (m : ℕ) × (length behind ≤ m)
    × (edits_from n before rest ≡ edits_from m (before ++ e ∷ []) behind)
step n before [] enough e behind first less = absurd (omega (arith, less))
step zero before (b ∷ bytes) enough e behind first less = absurd (omega (arith, enough))
step (suc n) before (b ∷ bytes) enough e behind first less =
    (n, omega (arith, enough, less), step_is n before b bytes (Ok (e, behind)) first)

-- an edit was read
pub next : (packed : List ℕ) (before : List Edit) (rest : List ℕ) → Reading packed before rest
    → (e : Edit) (behind : List ℕ) → edit_at rest ≡ Ok (e, behind) → length behind < length rest
    → Reading packed (before ++ e ∷ []) behind
next packed before rest r e behind first less =
    let s = step r.steps before rest r.enough e behind first less in
    record { steps = s.0; enough = s.1; is = r.is ∙ s.2 }

bad_from : (packed : List ℕ) (before : List Edit) (rest : List ℕ) (n : ℕ) → length rest ≤ n
    → edits_in packed ≡ edits_from n before rest → (fault : EditFault) → edit_at rest ≡ Err fault
    → 0 < length rest → edits_in packed ≡ Err (record { place = length before; fault = fault })
bad_from packed before [] n enough is fault first some = absurd (omega (arith, some))
bad_from packed before (b ∷ bytes) zero enough is fault first some =
    absurd (omega (arith, enough))
bad_from packed before (b ∷ bytes) (suc n) enough is fault first some =
    is ∙ step_is n before b bytes (Err fault) first

-- the next one is bad
pub bad : (packed : List ℕ) (before : List Edit) (rest : List ℕ) → Reading packed before rest
    → (fault : EditFault) → edit_at rest ≡ Err fault → 0 < length rest
    → edits_in packed ≡ Err (record { place = length before; fault = fault })
bad packed before rest r = bad_from packed before rest r.steps r.enough r.is

-- a buffer that spells edits has no bad one
pub never_bad : (packed : List ℕ) (before : List Edit) (rest : List ℕ)
    → Reading packed before rest → (fault : EditFault) → edit_at rest ≡ Err fault
    → 0 < length rest → (es : List Edit) → edits_in packed ≡ Ok es → ⊥
never_bad packed before rest r fault first some es is =
    false≢true (ap is_ok (sym (bad packed before rest r fault first some) ∙ is))

pub none_from : (n : ℕ) (before : List Edit) → edits_from n before [] ≡ Ok before
unfolding edits_from
none_from zero before = refl
none_from (suc n) before = refl

ends_from : (packed : List ℕ) (before : List Edit) (rest : List ℕ) → length rest ≡ 0 → (n : ℕ)
    → edits_in packed ≡ edits_from n before rest → edits_in packed ≡ Ok before
ends_from packed before [] none n is = is ∙ none_from n before
ends_from packed before (b ∷ bytes) none n is = absurd (omega (arith, none))

-- all were read
pub ends : (packed : List ℕ) (before : List Edit) (rest : List ℕ) → Reading packed before rest
    → length rest ≡ 0 → edits_in packed ≡ Ok before
ends packed before rest r none = ends_from packed before rest none r.steps r.is

kept_by : (n : ℕ) (before es : List Edit) (first : Result (Edit × List ℕ) EditFault)
    → ((e : Edit) (behind : List ℕ) → edits_from n (before ++ e ∷ []) behind ≡ Ok es
    → length (before ++ e ∷ []) ≤ length es)
    → placed (length before) first (λ x. edits_from n (before ++ x.0 ∷ []) x.1) ≡ Ok es
    → length before ≤ length es
kept_by n before es (Ok (e, behind)) below is =
    let more : length (before ++ e ∷ []) ≤ length es = below e behind is in
    let both : length (before ++ e ∷ []) ≡ length before + 1 = length-append before (e ∷ []) in
    omega (arith, more, both)
kept_by n before es (Err fault) below is = absurd (false≢true (ap is_ok is))

-- no edit that was read is lost
kept : (n : ℕ) (before : List Edit) (rest : List ℕ) (es : List Edit)
    → edits_from n before rest ≡ Ok es → length before ≤ length es
unfolding edits_from
kept zero before rest es is =
    let same : length before ≡ length es = ap (λ r. length (edits_or_none r)) is in
    omega (arith, same)
kept (suc n) before [] es is =
    let same : length before ≡ length es = ap (λ r. length (edits_or_none r)) is in
    omega (arith, same)
kept (suc n) before (b ∷ bytes) es is = kept_by n before es (edit_at (b ∷ bytes))
    (λ e behind. kept n (before ++ e ∷ []) behind es) is

-- so the edits of a buffer with one that is read are some
pub some : (packed : List ℕ) (before : List Edit) (rest : List ℕ) → Reading packed before rest
    → (e : Edit) (behind : List ℕ) → edit_at rest ≡ Ok (e, behind) → length behind < length rest
    → (es : List Edit) → edits_in packed ≡ Ok es → 0 < length es
some packed before rest r e behind first less es is =
    let then_next : Reading packed (before ++ e ∷ []) behind =
    next packed before rest r e behind first less in
    let more : length (before ++ e ∷ []) ≤ length es =
    kept then_next.steps (before ++ e ∷ []) behind es (sym then_next.is ∙ is) in
    let both : length (before ++ e ∷ []) ≡ length before + 1 = length-append before (e ∷ []) in
    omega (arith, more, both)
