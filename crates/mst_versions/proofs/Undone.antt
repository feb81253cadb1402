-- The turn, after what was made in it is taken back.
use Rattle.mst_versions.proofs.Names.{◌≡◌, ℕ, ◌+◌, ◌<◌, ◌≤◌, sym, subst, ◌∙◌, arith, length-map, State, version, next, reaches, IsSettled, In, Agrees, stored, desk_state, version_of, Turn, SeatState, HoldsDesk}
use Rattle.mst_arena.specs.Undone.{undone_life, undone}
use Rattle.mst_arena.proofs.UndoLemmas.{same_undone, undone_past}

module _ {A : Type 0} (t : Turn A) (m : SeatState) (k : HoldsDesk t m) where
  abbrev back : State
  back = undone t.desk

  still : (v x : ℕ) → v ≤ version t.desk → reaches back.lives v x ≡ reaches t.desk.lives v x
  still v x le = same_undone (next t.desk) t.desk.lives v x (omega (arith, le))

  agree : (r : ℕ) → r < m.0.passes + 2 → (In r m.0.drained → ⊥)
      → Agrees (stored m.0.format) m.0.desk (desk_state back) r
  agree r small pinned =
      let a = k.agrees r small pinned in
      let v = version_of m.0.desk r in
      let le : v ≤ version t.desk = subst (λ (n : ℕ). n ≤ version t.desk) a.version
      (k.earlier r small) in record {
        version = a.version;
        reached = λ x i. still v x le ∙ a.reached x i;
        exactly = λ x i. a.exactly x (sym (still v x le) ∙ i);
        ages = λ x w older i. let w_le : w ≤ version t.desk = omega (arith, le, older) in let b =
            a.ages x w older i in
            (λ j. still w x w_le ∙ b.0 j, λ j. b.1 (sym (still w x w_le) ∙ j));
      }

  holds : HoldsDesk (record t { desk = back }) m
  holds = record {
    holder = k.holder;
    slot = k.slot;
    known = k.known;
    few = k.few;
    short = k.short;
    current = k.current;
    rows_is = length-map t.desk.lives (undone_life (next t.desk)) ∙ k.rows_is;
    records = k.records;
    version_is = k.version_is;
    earlier = k.earlier;
    agrees = agree;
    into_drained = k.into_drained;
    into_in = k.into_in;
    into_other = k.into_other;
  }

  pub undone_holds : (d : State) → d ≡ back → HoldsDesk (record t { desk = d }) m
  undone_holds d is = subst (λ (s : State). HoldsDesk (record t { desk = s }) m) (sym is) holds

  settled : IsSettled back
  settled r = undone_past (version t.desk) t.desk.lives r

  pub undone_settled : (d : State) → d ≡ back → IsSettled d
  undone_settled d is = subst IsSettled (sym is) settled
