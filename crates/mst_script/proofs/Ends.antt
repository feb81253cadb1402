-- The beginning and the end of a script.
use Rattle.mst_script.proofs.Names.{◌≡◌, List, [], ◌++◌, map, sym, refl, ap, ◌∙◌, subst, append-nil, All, IsPermutation, All-map, History, StoreId, Known, having_asked, having_seen, AreAllPasses, Settled, Machine, with_no_pins, AreAllOf, Gathers, Roster, everyone, Shows, Released}
use Rattle.mst_script.specs.Serving.{AllSaw, AllFreed}
use Rattle.mst_script.proofs.AllOf.{all_passes, all_moved, all_settled, all_free}
use Rattle.mst_script.proofs.Knowing.{knows_none}
use Rattle.mst_script.proofs.Settling.{settled_gathers, gathers_settled, shows_settled, still_there}

-- they settled, and none of them pins a version
pub first_shown : (s t : Roster) → s.pinned ≡ [] → (st : Settled s.free s.pinned t.free t.pinned)
    → Shows (with_no_pins st.log) t
first_shown s t none st = shows_settled (with_no_pins st.log) s t st refl (knows_none s.pinned none)

pub first_gathers : (s t : Roster) → s.pinned ≡ [] → (st : Settled s.free s.pinned t.free t.pinned)
    → Gathers st.log s.free
first_gathers s t none st =
    subst (Gathers st.log) (ap (λ (l : List Known). s.free ++ l) none ∙ append-nil s.free)
    (settled_gathers s t st)

pub all_freed : (store : StoreId) (r s : Roster) → AllFreed r s → AreAllOf store (everyone r)
    → AreAllOf store (everyone s)
all_freed store r s a all =
    subst (AreAllOf store) (sym (ap (λ (l : List Known). s.free ++ l) a.none ∙ append-nil s.free))
    (all_moved store (everyone r) s.free a.same all)

-- all pins were ended, and then all settled
pub last_saw : (m : Machine) (r s t : Roster) → Shows m r → AllFreed r s
    → (st : Settled s.free s.pinned t.free t.pinned) → AllSaw m.history t.free
last_saw m r s t shows a st =
    let free : everyone s ≡ s.free = ap (λ (l : List Known). s.free ++ l) a.none ∙ append-nil s.free
    in
    let moved : IsPermutation (everyone r) (everyone s) =
    subst (IsPermutation (everyone r)) (sym free) a.same in
    let is : st.log ≡ m.history = still_there m r s t shows moved st in
    let none : everyone t ≡ t.free =
    ap (λ (l : List Known). t.free ++ l) (st.still ∙ ap (map (having_asked 3)) a.none)
    ∙ append-nil t.free in
    let g : Gathers m.history t.free =
    subst (Gathers m.history) none
    (subst (λ (h : History). Gathers h (everyone t)) is (gathers_settled s t st)) in record {
      seen = subst (All (λ p. p.seen ≡ m.history)) (sym st.now)
          (All-map (λ (p : Known). p.seen ≡ m.history) (having_seen st.log) s.free (λ i d l. is));
      own = g.own;
      alone = g.alone;
    }

pub passes_freed : (r s : Roster) → AllFreed r s → AreAllPasses (everyone r)
    → AreAllPasses (everyone s)
passes_freed r s a w =
    all_passes w.store s
    (all_freed w.store r s a (record { of_one = w.of_one; complete = w.complete }))

pub all_released : (store : StoreId) (r t : Roster) → Released r t → AreAllOf store (everyone r)
    → AreAllOf store t.free
all_released store r t end all =
    all_free store t (end.settled.still ∙ ap (map (having_asked 3)) end.freed.none)
    (all_settled store end.s t end.settled (all_freed store r end.s end.freed all))
