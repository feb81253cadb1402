-- The steps of a merge, of lists that point at edits.
use Rattle.std.proofs.Common.{◌≡◌, ℕ, ◌<◌, ◌≤◌, List, [], ◌∷◌, ◌++◌, Option, length, get_or, Bor, Less, Equal, Greater, sym, ap, ◌∙◌, subst}
use Rattle.mst_key.specs.declared.history.Edit.{Edit}
use Rattle.mst_key.specs.Edits.{AreRising}
use Rattle.mst_key.specs.History.{key_of, value_after}
use Rattle.mst_key.specs.Map.{key_cmp}
use Rattle.mst_key.proofs.KeyOrder.{same_from_equal, less_from_greater}
use Rattle.mst_edits.specs.Listed.{listed}
use Rattle.mst_edits.proofs.Merges.{Merges, take_left, drop_left, take_right, take_last, merges-end}
use Rattle.mst_edits.proofs.Parts.{rest_of, first_and_rest, none_left, listed-append}

abbrev pub Merging : List (Bor Edit) → List (Bor Edit) → List (Bor Edit) → List (Bor Edit)
    → List (Bor Edit) → Type 0
Merging first second all left right =
    Merges (listed first) (listed second) (listed all) (listed left) (listed right)

module _ (first second all more left right : List (Bor Edit)) where
  at_all : (x : Bor Edit) → more ≡ all ++ x ∷ [] → (l r : List Edit)
      → Merges (listed first) (listed second) (listed all ++ x.now ∷ []) l r
      → Merges (listed first) (listed second) (listed more) l r
  at_all x pushed l r m =
      subst (λ (z : List Edit). Merges (listed first) (listed second) z l r)
      (sym (ap listed pushed ∙ listed-append all (x ∷ []))) m

  at_left : (l k r : List Edit) → l ≡ k → Merges (listed first) (listed second) (listed all) l r
      → Merges (listed first) (listed second) (listed all) k r
  at_left l k r is m =
      subst (λ (z : List Edit). Merges (listed first) (listed second) (listed all) z r) is m

  at_right : (a l r k : List Edit) → r ≡ k → Merges (listed first) (listed second) a l r
      → Merges (listed first) (listed second) a l k
  at_right a l r k is m =
      subst (λ (z : List Edit). Merges (listed first) (listed second) a l z) is m

  module _ (y : Bor Edit) (any : 1 ≤ length right) (y_is : y ≡ get_or right 0 y)
      (m : Merging first second all left right) where
    right_is : listed right ≡ y.now ∷ listed (rest_of right)
    right_is = ap listed (first_and_rest right y any y_is)

    -- an edit of the second list after all of the first one
    pub step_last : length left < 1 → more ≡ all ++ y ∷ []
        → Merging first second more left (rest_of right)
    step_last none pushed =
        let empty : listed left ≡ [] = ap listed (none_left left none) in
        let taken : Merges (listed first) (listed second) (listed all ++ y.now ∷ []) []
        (listed (rest_of right)) =
        take_last (listed first) (listed second) (listed all) y.now (listed (rest_of right))
        (at_left (listed left) [] (y.now ∷ listed (rest_of right)) empty
        (at_right (listed all) (listed left) (listed right) (y.now ∷ listed (rest_of right))
        right_is m)) in
        at_all y pushed (listed left) (listed (rest_of right))
        (subst (λ (z : List Edit). Merges (listed first) (listed second) (listed all ++ y.now ∷ [])
        z (listed (rest_of right))) (sym empty) taken)

    module _ (x : Bor Edit) (some : 1 ≤ length left) (x_is : x ≡ get_or left 0 x) where
      left_is : listed left ≡ x.now ∷ listed (rest_of left)
      left_is = ap listed (first_and_rest left x some x_is)

      both : Merges (listed first) (listed second) (listed all) (x.now ∷ listed (rest_of left))
          (y.now ∷ listed (rest_of right))
      both = at_left (listed left) (x.now ∷ listed (rest_of left))
          (y.now ∷ listed (rest_of right)) left_is
          (at_right (listed all) (listed left) (listed right) (y.now ∷ listed (rest_of right))
          right_is m)

      pub step_less : key_cmp (key_of x.now) (key_of y.now) ≡ Less → more ≡ all ++ x ∷ []
          → Merging first second more (rest_of left) right
      step_less less pushed =
          at_all x pushed (listed (rest_of left)) (listed right)
          (at_right (listed all ++ x.now ∷ []) (listed (rest_of left))
          (y.now ∷ listed (rest_of right)) (listed right) (sym right_is)
          (take_left (listed first) (listed second) (listed all) x.now (listed (rest_of left)) y.now
          (listed (rest_of right)) both less))

      pub step_equal : key_cmp (key_of x.now) (key_of y.now) ≡ Equal
          → Merging first second all (rest_of left) right
      step_equal equal =
          at_right (listed all) (listed (rest_of left)) (y.now ∷ listed (rest_of right))
          (listed right) (sym right_is)
          (drop_left (listed first) (listed second) (listed all) x.now (listed (rest_of left)) y.now
          (listed (rest_of right)) both (same_from_equal (key_of x.now) (key_of y.now) equal))

      pub step_greater : key_cmp (key_of x.now) (key_of y.now) ≡ Greater → more ≡ all ++ y ∷ []
          → Merging first second more left (rest_of right)
      step_greater greater pushed =
          at_all y pushed (listed left) (listed (rest_of right))
          (subst (λ (z : List Edit). Merges (listed first) (listed second)
          (listed all ++ y.now ∷ []) z (listed (rest_of right))) (sym left_is)
          (take_right (listed first) (listed second) (listed all) x.now (listed (rest_of left))
          y.now (listed (rest_of right)) both
          (less_from_greater (key_of x.now) (key_of y.now) greater)))

  module _ (none : length right < 1) (whole : more ≡ all ++ left)
      (m : Merging first second all left right) where
    listed_whole : listed more ≡ listed all ++ listed left
    listed_whole = ap listed whole ∙ listed-append all left

    ended : Merges (listed first) (listed second) (listed all) (listed left) []
    ended = at_right (listed all) (listed left) (listed right) [] (ap listed (none_left right none))
        m

    pub merged_rises : AreRising (listed more)
    merged_rises = subst AreRising (sym listed_whole) ended.left_rises

    pub merged_leaves : (q : List ℕ) (old : Option (List ℕ)) → value_after (listed more) q old
        ≡ value_after (listed second) q (value_after (listed first) q old)
    merged_leaves q old = ap (λ (z : List Edit). value_after z q old) listed_whole
        ∙ merges-end (listed first) (listed second) (listed all) (listed left) ended q old
