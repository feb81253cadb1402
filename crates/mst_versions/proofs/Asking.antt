-- How the records are asked, from the desk as it was taken.
use Rattle.mst_versions.proofs.Names.{◌≡◌, ℕ, ◌+◌, ◌<◌, ◌≤◌, true, List, [], ◌∷◌, length, None, sym, ap, ◌∙◌, subst, arith, State, View, IsHolder, Takes, stored, state_of, Asked, KnowsRecords, HasAsked, AsksOnly, AsksEach, SeatState, TakesDesk}
use Rattle.mst_versions.proofs.Slots.{desk_there}

-- from the seat with the desk out of the slot to the one that has asked
pub only_asked : (m n m' : SeatState) → n ≡ (m.0, (0, None) ∷ []) → AsksOnly n m'
    → m' ≡ (
      record m.0 {
        drained = m'.0.drained;
        blocked = m'.0.blocked;
        found = m'.0.found;
        asked =
            m'.0.asked;
      },
      (0, None) ∷ [],
    )
only_asked m n m' left is =
    is ∙ ap (λ (z : SeatState). (
      record z.0 {
        drained = m'.0.drained;
        blocked = m'.0.blocked;
        found = m'.0.found;
        asked =
            m'.0.asked;
      },
      z.1,
    )) left

module _ (before : SeatState) (desk : State) (m : SeatState) (out : TakesDesk before desk m) where
  abbrev p : Takes (stored before.0.format) before out.0
  p = out.1

  -- the view of the holder of the turn
  abbrev holding : View
  holding = record before.0 {
    seen = p.log;
    known_words = p.words;
    turn = true;
    desk = p.desk;
    due =
        None;
    mask = 0;
    drained = [];
    blocked = [];
    noted = None;
    found = [];
    asked =
        before.0.asked + 1;
  }

  same_desk : desk ≡ state_of p.desk
  same_desk = desk_there before out.0 p desk out.2

  pub has_out : m ≡ (holding, (0, None) ∷ [])
  has_out = out.3 ∙ ap (λ (z : SeatState). (z.0, (0, None) ∷ [])) p.is

  pub none_drained : m.0.drained ≡ []
  none_drained = ap (λ (z : SeatState). z.0.drained) has_out

  pub none_blocked : m.0.blocked ≡ []
  none_blocked = ap (λ (z : SeatState). z.0.blocked) has_out

  pub none_found : m.0.found ≡ []
  none_found = ap (λ (z : SeatState). z.0.found) has_out

  -- the records may be asked
  pub knows : (passes : ℕ) → IsHolder m → passes ≡ m.0.passes → passes ≤ 32 → KnowsRecords desk m
  knows passes holder size few = subst (λ (z : SeatState). KnowsRecords desk z) (sym has_out)
      record {
        holder = subst IsHolder has_out holder;
        some = let d = p.dealt in let a = d.0 in let b = d.1 in omega (arith, a, b);
        few = subst (λ (z : SeatState). z.0.passes ≤ 32) has_out
            (subst (λ (n : ℕ). n ≤ 32) size few);
        current = sym (ap (λ (s : State). s.current) same_desk);
        there = subst (λ (s : State). s.current < before.0.passes + 2) (sym same_desk)
            p.stands.numbered;
        records = ap (λ (s : State). length s.versions) same_desk ∙ p.is_desk.records;
        versions = sym (ap (λ (s : State). s.versions) same_desk);
      }

-- every record but the current one was asked, once
pub all_asked : (desk : State) (a : Asked) (m m' : SeatState) (passes : ℕ) → passes ≡ m.0.passes
    → m.0.drained ≡ [] → m.0.blocked ≡ [] → AsksOnly m m' → AsksEach m m' → HasAsked (passes + 2)
    desk a m' → m'.0.asked ≡ m.0.asked + passes + 1
all_asked desk a m m' passes n drained blocked kept each h =
    let size : m'.0.passes ≡ m.0.passes = ap (λ (z : SeatState). z.0.passes) kept in
    let there = h.knows.there in
    let all = h.behind (omega (arith, there, size, n)) in
    let d : length m.0.drained ≡ 0 = ap (λ (z : List ℕ). length z) drained in
    let b : length m.0.blocked ≡ 0 = ap (λ (z : List ℕ). length z) blocked in
    omega (arith, each, all, d, b)
