-- The desk in the slot: as it is taken, and as it is given back.
use Rattle.mst_versions.proofs.Names.{◌≡◌, ℕ, List, [], ◌∷◌, Option, Some, None, refl, sym, ap, ◌∙◌, subst, State, IsSettled, Takes, IsGiving, stored, state_of, desk_state, Turn, SeatState, HoldsDesk}

-- the desk in the slot
abbrev or_else : State → Option State → State
or_else d None = d
or_else d (Some s) = s

abbrev desk_in : List (ℕ × Option State) → State → State
desk_in [] d = d
desk_in (s ∷ rest) d = or_else d s.1

module _ (before taken : SeatState) (p : Takes (stored before.0.format) before taken) where
  pub slot_there : taken.1 ≡ (0, Some (state_of p.desk)) ∷ []
  slot_there = ap (λ (z : SeatState). z.1) p.is ∙ ap (λ (o : Option State). (0, o) ∷ [])
      p.is_desk.there

  -- the desk that lies in the slot
  pub desk_there : (desk : State) → taken.1 ≡ (0, Some desk) ∷ [] → desk ≡ state_of p.desk
  desk_there desk slot = ap (λ (s : List (ℕ × Option State)). desk_in s desk)
      (sym slot ∙ slot_there)

-- the turn may be given back once the desk lies in the slot again
pub giving : {A : Type 0} (t : Turn A) (m m' : SeatState) → HoldsDesk t m → IsSettled t.desk
    → m' ≡ (m.0, (0, Some t.desk) ∷ []) → IsGiving (stored m'.0.format) (Some t.desk)
    (desk_state t.desk) m'
giving t m m' k settled is =
    subst (λ (z : SeatState). IsGiving (stored z.0.format) (Some t.desk) (desk_state t.desk) z)
    (sym is)
    record {
      on = k.holder.0;
      settled = k.holder.2;
      slot = refl;
      is_desk = record {
        there = refl;
        rows_is = k.rows_is;
        records = k.records;
        settled =
            settled;
        earlier = k.earlier;
      };
      current = k.current;
      agrees = k.agrees;
    }
