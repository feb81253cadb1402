use Rattle.mst_pin.proofs.Names.{◌≡◌, ℕ, ◌+◌, ◌-◌, sym, ap, ◌∙◌, arith, bit_at, pinned_mask}
use Rattle.std.proofs.Common.{below_more}
use Rattle.mst_pin.specs.Core.{state}
use Rattle.mst_pin.proofs.Masks.{pinned_some, pinned_none}
use Rattle.mst_pin.proofs.Cores.{none_above, none_at_zero}
use Rattle.mst_pin.proofs.Core.pinned_by.Goals as goal
use Rattle.mst_pin.proofs.Core.pinned_by.Goals.{then-pass-eq0-via-then-pass-eq0, then-pass-eq0-via-else-pass-eq0+then-pass-self}

pub returns-then-pass-eq0 : goal.returns-then-pass-eq0
unfolding state
returns-then-pass-eq0 c = let s = c.args.self.now in elim c.then-pass-eq0.branch [
  | then-pass-eq0-via-then-pass-eq0 w ↦ sym
      (none_at_zero s.passes s.words c.args.pass w.if-pass-eq0.true)
  | then-pass-eq0-via-else-pass-eq0+then-pass-self w ↦ sym
      (none_above s.passes s.words c.args.pass s.kept w.if-pass-self.true)
]

pub loop-number-init : goal.loop-number-init
loop-number-init c = λ r l. absurd (omega arith)

pub returns-then-pinned-pass-eq1 : goal.returns-then-pinned-pass-eq1
unfolding state
returns-then-pinned-pass-eq1 c = let s = c.args.self.now in let r : ℕ = c.loop-number.number in
    let k : ℕ = c.args.pass - 1 in
    let bit : bit_at (pinned_mask s.words r) k ≡ 1 =
    ap (λ (z : ℕ). bit_at z k) (sym c.pinned.ensures) ∙ c.if-pinned-pass-eq1.true in
    sym (pinned_some (s.passes + 2) (pinned_mask s.words) c.args.pass r (omega arith)
    c.loop-number-test.true bit (λ t l e. s.kept.one t r k l c.loop-number-test.true e bit))

pub loop-number-preserved : goal.loop-number-preserved
loop-number-preserved c = let s = c.args.self.now in
    below_more _ _ c.loop-number.invariant
    (λ e. c.if-pinned-pass-eq1.false
    (ap (λ (z : ℕ). bit_at z (c.args.pass - 1)) c.pinned.ensures ∙ e))

pub returns : goal.returns
unfolding state
returns c = let s = c.args.self.now in
    sym (pinned_none (s.passes + 2) (pinned_mask s.words) c.args.pass (omega arith)
    (λ r l. c.loop-number.invariant r (omega arith)))
