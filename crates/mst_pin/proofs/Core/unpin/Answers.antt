use Rattle.mst_pin.proofs.Names.{◌≡◌, ℕ, ◌∙◌, ◌^◌, ◌-◌, ap, sym, subst, arith, Words, IsKept, state_of}
use Rattle.mst_pin.specs.Core.{state}
use Rattle.mst_pin.proofs.Cores.{unpin_first, unpin_last, unpin_in, unpin_keeps, unpin_state}
use Rattle.mst_pin.proofs.WordSteps.{xored_done}
use Rattle.mst_pin.proofs.Core.unpin.Goals as goal

pub pass_bit-requires-clause-first : goal.pass_bit-requires-clause-first
unfolding state
pass_bit-requires-clause-first c = let s = c.args.self.now in
    unpin_first s.passes s.words s.rows c.args.pass c.unwrap-number.result s.kept
    (sym c.pinned_by.ensures ∙ c.unwrap-number.ensures) (omega arith)

pub pass_bit-requires-clause-last : goal.pass_bit-requires-clause-last
unfolding state
pass_bit-requires-clause-last c = let s = c.args.self.now in let h = s.kept.passes_in in
    let l = unpin_last s.passes s.words s.rows c.args.pass c.unwrap-number.result s.kept
    (sym c.pinned_by.ensures ∙ c.unwrap-number.ensures) (omega arith) in omega arith

pub xor_done-requires : goal.xor_done-requires
unfolding state
xor_done-requires c = let s = c.args.self.now in let h = s.kept.passes_in in
    let l = unpin_in s.passes s.words s.rows c.args.pass c.unwrap-number.result s.kept
    (sym c.pinned_by.ensures ∙ c.unwrap-number.ensures) (omega arith) in omega arith

pub invariant_of-self : goal.invariant_of-self
unfolding state
invariant_of-self c = let s = c.args.self.now in let r : ℕ = c.unwrap-number.result in
    let e : c.xor_done.new.self ≡ xored_done s.words r (2 ^ (c.args.pass - 1)) =
    c.xor_done.ensures ∙ ap (λ (z : ℕ). xored_done s.words r z) c.pass_bit.ensures in
    record {
      kept = subst (λ (w : Words). IsKept s.passes w) (sym e)
          (unpin_keeps s.passes s.words s.rows c.args.pass r s.kept
          (sym c.pinned_by.ensures ∙ c.unwrap-number.ensures) (omega arith));
    }

pub returns-clause-after : goal.returns-clause-after
unfolding state
returns-clause-after c = let s = c.args.self.now in let r : ℕ = c.unwrap-number.result in
    let e : c.xor_done.new.self ≡ xored_done s.words r (2 ^ (c.args.pass - 1)) =
    c.xor_done.ensures ∙ ap (λ (z : ℕ). xored_done s.words r z) c.pass_bit.ensures in
    ap (λ (w : Words). state_of s.passes w s.rows) e ∙ unpin_state s.passes s.words s.rows
    c.args.pass r s.kept (sym c.pinned_by.ensures ∙ c.unwrap-number.ensures) (omega arith)
