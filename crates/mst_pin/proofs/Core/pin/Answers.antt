use Rattle.mst_pin.proofs.Names.{◌≡◌, ℕ, ◌∙◌, ◌-◌, ◌+◌, ap, sym, subst, arith, bit_xor, Words, Record, record_of, IsKept, pinned_by, pinned_mask, state_of}
use Rattle.mst_pin.specs.Core.{state}
use Rattle.mst_pin.proofs.Cores.{pin_keeps, pin_state}
use Rattle.mst_pin.proofs.Options.{none_is}
use Rattle.mst_pin.proofs.WordSteps.{xored_current}
use Rattle.mst_pin.proofs.Core.pin.Goals as goal

pub pass_bit-requires-clause-last : goal.pass_bit-requires-clause-last
unfolding state
pass_bit-requires-clause-last c = let h = c.args.self.now.kept.passes_in in let l =
    c.requires.0 in omega arith

pub invariant_of-self : goal.invariant_of-self
unfolding state
invariant_of-self c = let s = c.args.self.now in let q = c.requires in
    let e : c.xor_current-found.new.self ≡ xored_current s.words (c.args.pass - 1) =
    c.xor_current-found.ensures.after
    ∙ ap (λ (z : ℕ). record s.words { current = bit_xor s.words.current z }) c.pass_bit.ensures
    in
    record {
      kept = subst (λ (w : Words). IsKept s.passes w) (sym e)
          (pin_keeps s.passes s.words s.rows c.args.pass s.kept q.0.0 q.0.1
          (none_is (pinned_by (s.passes + 2) (pinned_mask s.words) c.args.pass) q.1));
    }

pub returns-clause-answer : goal.returns-clause-answer
unfolding state
returns-clause-answer c =
    ap (λ (z : ℕ). Record z)
    (c.record_of-pinned.ensures ∙ ap record_of c.xor_current-found.ensures.before)

pub returns-clause-after : goal.returns-clause-after
unfolding state
returns-clause-after c = let s = c.args.self.now in let q = c.requires in
    let e : c.xor_current-found.new.self ≡ xored_current s.words (c.args.pass - 1) =
    c.xor_current-found.ensures.after
    ∙ ap (λ (z : ℕ). record s.words { current = bit_xor s.words.current z }) c.pass_bit.ensures
    in
    ap (λ (w : Words). state_of s.passes w s.rows) e ∙ pin_state s.passes s.words s.rows c.args.pass
    s.kept q.0.0 q.0.1
    (none_is (pinned_by (s.passes + 2) (pinned_mask s.words) c.args.pass) q.1)
