-- The steps by which edits are made in a list of pairs, of lists that point at edits.
use Rattle.std.proofs.Common.{◌≡◌, ◌<◌, ◌≤◌, List, [], ◌∷◌, ◌++◌, length, get_or, Bor, Less, Equal, Greater, sym, ap, ◌∙◌, subst}
use Rattle.mst_key.specs.declared.history.Edit.{Edit}
use Rattle.mst_key.specs.History.{batched, key_of}
use Rattle.mst_key.specs.Map.{Pair, key_cmp, AllAbove, IsAscending}
use Rattle.mst_key.proofs.KeyOrder.{same_from_equal, less_from_greater}
use Rattle.mst_edits.specs.Listed.{listed, put_of}
use Rattle.mst_edits.proofs.Joins.{Joins, keep_pair, pass_pair, make_edit, above-first}
use Rattle.mst_edits.proofs.Parts.{rest_of, first_and_rest, none_left}

abbrev pub Joining : List Pair → List (Bor Edit) → List Pair → List Pair → List (Bor Edit) → Type 0
Joining m edits done rest left = Joins m (listed edits) done rest (listed left)

module _ (m : List Pair) (edits : List (Bor Edit)) (done more rest : List Pair)
    (left : List (Bor Edit)) (j : Joining m edits done rest left) where
  module _ (e : Bor Edit) (any : 1 ≤ length left) (e_is : e ≡ get_or left 0 e) where
    left_is : listed left ≡ e.now ∷ listed (rest_of left)
    left_is = ap listed (first_and_rest left e any e_is)

    ready : Joins m (listed edits) done rest (e.now ∷ listed (rest_of left))
    ready = subst (λ (z : List Edit). Joins m (listed edits) done rest z) left_is j

    made : AllAbove rest (key_of e.now) → more ≡ done ++ put_of e.now
        → Joining m edits more rest (rest_of left)
    made above pushed =
        subst (λ (z : List Pair). Joins m (listed edits) z rest (listed (rest_of left)))
        (sym pushed)
        (make_edit m (listed edits) done rest e.now (listed (rest_of left)) ready above)

    -- an edit after all pairs
    pub step_added : length rest < 1 → more ≡ done ++ put_of e.now
        → Joining m edits more rest (rest_of left)
    step_added none pushed =
        made (subst (λ (z : List Pair). AllAbove z (key_of e.now)) (sym (none_left rest none)) tt)
        pushed

    module _ (p : Pair) (some : 1 ≤ length rest) (p_is : p ≡ get_or rest 0 p) where
      rest_is : rest ≡ p ∷ rest_of rest
      rest_is = first_and_rest rest p some p_is

      both : Joins m (listed edits) done (p ∷ rest_of rest) (e.now ∷ listed (rest_of left))
      both = subst (λ (z : List Pair). Joins m (listed edits) done z
          (e.now ∷ listed (rest_of left))) rest_is ready

      pub step_kept : key_cmp p.0 (key_of e.now) ≡ Less → (q : Pair) → q ≡ p
          → more ≡ done ++ q ∷ [] → Joining m edits more (rest_of rest) left
      step_kept less q q_is pushed =
          let is : more ≡ done ++ p ∷ [] =
          pushed ∙ ap (λ (r : Pair). done ++ r ∷ []) q_is in
          subst (λ (z : List Edit). Joins m (listed edits) more (rest_of rest) z) (sym left_is)
          (subst (λ (z : List Pair). Joins m (listed edits) z (rest_of rest)
          (e.now ∷ listed (rest_of left))) (sym is)
          (keep_pair m (listed edits) done p (rest_of rest) e.now (listed (rest_of left)) both
          less))

      pub step_passed : key_cmp p.0 (key_of e.now) ≡ Equal → Joining m edits done (rest_of rest)
          left
      step_passed equal =
          subst (λ (z : List Edit). Joins m (listed edits) done (rest_of rest) z) (sym left_is)
          (pass_pair m (listed edits) done p (rest_of rest) e.now (listed (rest_of left)) both
          (same_from_equal p.0 (key_of e.now) equal))

      pub step_made : key_cmp p.0 (key_of e.now) ≡ Greater → more ≡ done ++ put_of e.now
          → Joining m edits more rest (rest_of left)
      step_made greater pushed =
          made (subst (λ (z : List Pair). AllAbove z (key_of e.now)) (sym rest_is)
          (above-first p (rest_of rest) (key_of e.now)
          (subst IsAscending rest_is j.ascending)
          (less_from_greater p.0 (key_of e.now) greater))) pushed

  pub joined_is : length left < 1 → more ≡ done ++ rest → more ≡ batched m (listed edits)
  joined_is none whole =
      let ended : Joins m (listed edits) done rest [] =
      subst (λ (z : List Edit). Joins m (listed edits) done rest z)
      (ap listed (none_left left none)) j in
      whole ∙ ended.is
