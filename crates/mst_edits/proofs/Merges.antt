-- Two rising lists of edits made one: what holds in the middle, and that each step keeps it.
use Rattle.std.proofs.Common.{◌≡◌, ℕ, List, [], ◌∷◌, ◌++◌, Option, Less, refl, sym, ap, ◌∙◌, subst, append_assoc}
use Rattle.std.proofs.lemmas.List.{append-nil}
use Rattle.mst_key.specs.declared.history.Edit.{Edit}
use Rattle.mst_key.specs.Edits.{AreAbove, AreRising}
use Rattle.mst_key.specs.History.{key_of, value_of, value_after}
use Rattle.mst_key.specs.Map.{key_cmp}
use Rattle.mst_key.proofs.BatchOrder.{value_after-append, value_after-same, value_after-other, value_after-unedited}
use Rattle.mst_key.proofs.KeyOrder.{by_same}
use Rattle.mst_edits.proofs.Rising.{above-less, above-unedited, rising-front, rising-back, rising-without, rising-with}

-- Both lists were merged so far, and these parts of them are left. What follows the merged edits in
-- either list has greater keys, and an edit of the second list comes after one of the first.
pub record Merges (first second all left right : List Edit) : Type 0 where
  pub values : (q : List ℕ) (old : Option (List ℕ))
      → value_after right q (value_after left q (value_after all q old))
      ≡ value_after second q (value_after first q old)
  pub left_rises : AreRising (all ++ left)
  pub right_rises : AreRising (all ++ right)

pub merges-begin : (first second : List Edit) → AreRising first → AreRising second
    → Merges first second [] first second
merges-begin first second low high = record {
  values = λ q old. refl;
  left_rises = low;
  right_rises = high;
}

module _ (first second all : List Edit) where
  pub take_left : (x : Edit) (xs : List Edit) (y : Edit) (ys : List Edit)
      → Merges first second all (x ∷ xs) (y ∷ ys) → key_cmp (key_of x) (key_of y) ≡ Less
      → Merges first second (all ++ x ∷ []) xs (y ∷ ys)
  take_left x xs y ys m less = record {
    values = λ q old.
        ap (λ (o : Option (List ℕ)). value_after (y ∷ ys) q (value_after xs q o))
        (value_after-append all (x ∷ []) q old) ∙ m.values q old;
    left_rises = subst AreRising (sym (append_assoc all (x ∷ []) xs)) m.left_rises;
    right_rises = subst AreRising (sym (append_assoc all (x ∷ []) (y ∷ ys)))
        (rising-with all x xs y ys m.left_rises m.right_rises less);
  }

  pub drop_left : (x : Edit) (xs : List Edit) (y : Edit) (ys : List Edit)
      → Merges first second all (x ∷ xs) (y ∷ ys) → key_of x ≡ key_of y
      → Merges first second all xs (y ∷ ys)
  drop_left x xs y ys m same = record {
    values = λ q old.
        let before : Option (List ℕ) = value_after all q old in
        by_same {G = value_after (y ∷ ys) q (value_after xs q before)
        ≡ value_after second q (value_after first q old)} q (key_of y)
        (λ here. value_after-same y ys q (value_after xs q before) here
        ∙ sym (value_after-same y ys q (value_after (x ∷ xs) q before) here) ∙ m.values q old)
        (λ other. ap (λ (o : Option (List ℕ)). value_after (y ∷ ys) q o)
        (sym (value_after-other x xs q before (λ is. other (is ∙ same)))) ∙ m.values q old);
    left_rises = rising-without all x xs m.left_rises;
    right_rises = m.right_rises;
  }

  -- an edit of the second list may be made before edits of greater keys
  values-right : (left : List Edit) (y : Edit) (ys : List Edit) → AreAbove left (key_of y)
      → (q : List ℕ) (old : Option (List ℕ))
      → value_after ys q (value_after left q (value_after (all ++ y ∷ []) q old))
      ≡ value_after (y ∷ ys) q (value_after left q (value_after all q old))
  values-right left y ys above q old =
      let before : Option (List ℕ) = value_after all q old in
      ap (λ (o : Option (List ℕ)). value_after ys q (value_after left q o))
      (value_after-append all (y ∷ []) q old)
      ∙ by_same {G = value_after ys q (value_after left q (value_after (y ∷ []) q before))
      ≡ value_after (y ∷ ys) q (value_after left q before)} q (key_of y)
      (λ here. ap (λ (o : Option (List ℕ)). value_after ys q (value_after left q o))
      (value_after-same y [] q before here)
      ∙ ap (λ (o : Option (List ℕ)). value_after ys q o)
      (value_after-unedited left q (value_of y)
      (above-unedited left q (subst (AreAbove left) (sym here) above)))
      ∙ sym (value_after-same y ys q (value_after left q before) here))
      (λ other. ap (λ (o : Option (List ℕ)). value_after ys q (value_after left q o))
      (value_after-other y [] q before other)
      ∙ sym (value_after-other y ys q (value_after left q before) other))

  pub take_right : (x : Edit) (xs : List Edit) (y : Edit) (ys : List Edit)
      → Merges first second all (x ∷ xs) (y ∷ ys) → key_cmp (key_of y) (key_of x) ≡ Less
      → Merges first second (all ++ y ∷ []) (x ∷ xs) ys
  take_right x xs y ys m less =
      let above : AreAbove (x ∷ xs) (key_of y) =
      (less, above-less xs (key_of y) (key_of x) less (rising-back all (x ∷ xs) m.left_rises).0) in
      record {
        values = λ q old. values-right (x ∷ xs) y ys above q old ∙ m.values q old;
        left_rises = subst AreRising (sym (append_assoc all (y ∷ []) (x ∷ xs)))
            (rising-with all y ys x xs m.right_rises m.left_rises less);
        right_rises = subst AreRising (sym (append_assoc all (y ∷ []) ys)) m.right_rises;
      }

  pub take_last : (y : Edit) (ys : List Edit) → Merges first second all [] (y ∷ ys)
      → Merges first second (all ++ y ∷ []) [] ys
  take_last y ys m =
      let right : AreRising ((all ++ y ∷ []) ++ ys) =
      subst AreRising (sym (append_assoc all (y ∷ []) ys)) m.right_rises in
      record {
        values = λ q old. values-right [] y ys tt q old ∙ m.values q old;
        left_rises = subst AreRising (sym (append-nil (all ++ y ∷ [])))
            (rising-front (all ++ y ∷ []) ys right);
        right_rises = right;
      }

  pub merges-end : (left : List Edit) → Merges first second all left [] → (q : List ℕ)
      (old : Option (List ℕ)) → value_after (all ++ left) q old
      ≡ value_after second q (value_after first q old)
  merges-end left m q old = value_after-append all left q old ∙ m.values q old
