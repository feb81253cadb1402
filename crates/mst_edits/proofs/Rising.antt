-- Lists of edits whose keys rise.
use Rattle.std.proofs.Common.{◌≡◌, ℕ, List, [], ◌∷◌, ◌++◌, Less, inl, inr}
use Rattle.mst_key.specs.declared.history.Edit.{Edit}
use Rattle.mst_key.specs.Edits.{AreAbove, AreRising}
use Rattle.mst_key.specs.History.{key_of, IsEdited}
use Rattle.mst_key.specs.Map.{key_cmp}
use Rattle.mst_key.proofs.Alls.{alls-append, alls-front, alls-back, alls-weaker}
use Rattle.mst_key.proofs.KeyOrder.{less_chain, other_from_less}

-- the key is less than that of an edit
abbrev pub IsBelow : List ℕ → Edit → Type 0
IsBelow k e = key_cmp k (key_of e) ≡ Less

pub above-less : (es : List Edit) (j k : List ℕ) → key_cmp j k ≡ Less → AreAbove es k
    → AreAbove es j
above-less es j k less above =
    alls-weaker (IsBelow k) (IsBelow j) (λ e up. less_chain j k (key_of e) less up) es above

-- a key below all edits is that of none
pub above-unedited : (es : List Edit) (k : List ℕ) → AreAbove es k → IsEdited k es → ⊥
above-unedited [] k above edited = edited
above-unedited (e ∷ es) k above (inl same) = other_from_less k (key_of e) above.0 same
above-unedited (e ∷ es) k above (inr more) = above-unedited es k above.1 more

pub rising-front : (es fs : List Edit) → AreRising (es ++ fs) → AreRising es
rising-front [] fs rise = tt
rising-front (e ∷ es) fs rise =
    (alls-front (IsBelow (key_of e)) es fs rise.0, rising-front es fs rise.1)

pub rising-back : (es fs : List Edit) → AreRising (es ++ fs) → AreRising fs
rising-back [] fs rise = rise
rising-back (e ∷ es) fs rise = rising-back es fs rise.1

-- one edit left out
pub rising-without : (es : List Edit) (f : Edit) (fs : List Edit) → AreRising (es ++ f ∷ fs)
    → AreRising (es ++ fs)
rising-without [] f fs rise = rise.1
rising-without (e ∷ es) f fs rise = (
  alls-append (IsBelow (key_of e)) es fs (alls-front (IsBelow (key_of e)) es (f ∷ fs) rise.0)
      (alls-back (IsBelow (key_of e)) es (f ∷ fs) rise.0).1,
  rising-without es f fs rise.1,
)

-- an edit put before others, all of greater keys
pub rising-with : (es : List Edit) (f : Edit) (fs : List Edit) (g : Edit) (gs : List Edit)
    → AreRising (es ++ f ∷ fs) → AreRising (es ++ g ∷ gs) → IsBelow (key_of f) g
    → AreRising (es ++ f ∷ g ∷ gs)
rising-with [] f fs g gs low high less =
    ((less, above-less gs (key_of f) (key_of g) less high.0), high)
rising-with (e ∷ es) f fs g gs low high less = (
  alls-append (IsBelow (key_of e)) es (f ∷ g ∷ gs)
      (alls-front (IsBelow (key_of e)) es (f ∷ fs) low.0) (
        (alls-back (IsBelow (key_of e)) es (f ∷ fs) low.0).0,
        alls-back (IsBelow (key_of e)) es (g ∷ gs) high.0,
      ),
  rising-with es f fs g gs low.1 high.1 less,
)
