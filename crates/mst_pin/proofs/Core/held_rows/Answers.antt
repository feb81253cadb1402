use Rattle.mst_pin.proofs.Names.{◌≡◌, ℕ, ⊎_elim, true, false, slice_index, sym, ap, ◌∙◌, subst, arith, dite, ℕ_discrete, row_set, IsPinned, state_of}
use Rattle.mst_pin.specs.Core.{state}
use Rattle.mst_pin.proofs.Cores.{pinned_in}
use Rattle.mst_pin.proofs.Options.{from_false}
use Rattle.mst_pin.proofs.Rows.{or_left, or_right, or_cases, zero_rows}
use Rattle.mst_pin.proofs.Core.held_rows.Goals as goal
use Rattle.mst_pin.proofs.Core.held_rows.Goals.{then-is_spare+then-not-is_drained, else-is_spare, else-is_spare-via-then-is_spare+else-not-is_drained, else-is_spare-via-else-is_spare}

pub loop-number-init : goal.loop-number-init
loop-number-init c =
    record {
      all = λ x r l. absurd (omega arith);
      only =
          λ x e. zero_rows (state c.args.self.now) x e;
    }

pub loop-number-preserved : goal.loop-number-preserved
unfolding state
loop-number-preserved c = let s = c.args.self.now in let n : ℕ = c.loop-number.number in
    let before : ℕ = c.loop-number.rows in let inv = c.loop-number.invariant in
    elim c.if-is_spare.branch [
      | then-is_spare+then-not-is_drained w ↦ let own : ℕ = slice_index s.rows n in
          let spare = c.is_spare.ensures.0 w.if-is_spare.true in
          let pinned : IsPinned (state_of s.passes s.words s.rows) n =
          from_false w.is_drained.result (IsPinned (state_of s.passes s.words s.rows) n)
          w.is_drained.ensures.pinned w.if-not-is_drained.true in record {
            all = λ x r l away held has. subst (λ (z : ℕ). row_set z x ≡ true) (sym w.rows-is)
                (dite (ℕ_discrete r n)
                (λ same. or_right before own x
                (ap (λ (z : ℕ). row_set (slice_index s.rows z) x) (sym same) ∙ has))
                (λ other. or_left before own x (inv.all x r (omega arith) away held has)));
            only = λ x e. ⊎_elim (λ (old : row_set before x ≡ true). inv.only x old)
                (λ (new : row_set own x ≡ true). (n, spare.1, pinned, new))
                (or_cases before own x (subst (λ (z : ℕ). row_set z x ≡ true) w.rows-is e));
          }
      | else-is_spare w ↦ let not_here : ((n ≡ (state_of s.passes s.words s.rows).current) → ⊥)
          → IsPinned (state_of s.passes s.words s.rows) n → ⊥ =
          λ away held. elim w.else-is_spare.branch [
            | else-is_spare-via-then-is_spare+else-not-is_drained w' ↦
                w'.is_drained.ensures.drained.0
                w'.if-not-is_drained.false held.0 held.1
            | else-is_spare-via-else-is_spare w' ↦ let yes =
                c.is_spare.ensures.1 (c.loop-number-test.true, away) in let no =
                w'.if-is_spare.false in
                let f : true ≡ false = sym yes ∙ no in absurd cc
          ] in record {
            all = λ x r l away held has. subst (λ (z : ℕ). row_set z x ≡ true) (sym w.rows-is)
                (dite (ℕ_discrete r n)
                (λ same. absurd (not_here (subst (λ (z : ℕ). z ≡ (state s).current → ⊥) same away)
                (subst (IsPinned (state_of s.passes s.words s.rows)) same held)))
                (λ other. inv.all x r (omega arith) away held has));
            only = λ x e. inv.only x (subst (λ (z : ℕ). row_set z x ≡ true) w.rows-is e);
          }
    ]

pub returns-clause-all : goal.returns-clause-all
unfolding state
returns-clause-all c = let s = c.args.self.now in λ x h. let l =
    pinned_in s.passes s.words s.rows h.0 h.2 in c.loop-number.invariant.all x h.0 (omega arith) h.1
    h.2 h.3

pub returns-clause-only : goal.returns-clause-only
unfolding state
returns-clause-only c = c.loop-number.invariant.only
