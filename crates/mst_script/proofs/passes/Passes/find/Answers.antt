use Rattle.mst_script.proofs.Names.{◌≡◌, rules, arith, sym, ◌∙◌}
use Rattle.std.proofs.lemmas.Grind.{common_steps}
use Rattle.mst_script.proofs.Finding.{not_there, not_yet, nowhere, found_at}
use Rattle.mst_script.proofs.passes.Passes.find.Goals as goal

pub loop-place-init : goal.loop-place-init
loop-place-init g c = λ k d l. absurd (omega (arith, l))

pub loop-place-preserved : goal.loop-place-preserved
loop-place-preserved g c = not_yet c.as_slice-pinned-items.result.now c.loop-place.place
    c.args.number c.pinned-item.result c.loop-place.invariant c.loop-place-test.true
    c.pinned-item.is (λ e. c.if-number.false (c.number.ensures.number ∙ e))

pub loop-place-2-init : goal.loop-place-2-init
loop-place-2-init g c = λ k d l. absurd (omega (arith, l))

pub returns-then-number-2 : goal.returns-then-number-2
returns-then-number-2 g c =
    let pinned : c.as_slice-pinned-items.result.now ≡ c.args.self.now.pinned = search rules in
    let free : c.as_slice-pass-items.result.now ≡ c.args.self.now.free = search rules in record {
      found = (
        found_at c.as_slice-pass-items.result.now c.args.self.now.free c.loop-place-2.place
            c.args.number c.pass-item.result c.loop-place-2-test.true c.pass-item.is
            (sym c.number-in-loop-place-2.ensures.number ∙ c.if-number-2.true) free,
        nowhere c.as_slice-pinned-items.result.now c.args.self.now.pinned c.loop-place.place
            c.args.number c.loop-place.invariant c.loop-place-test.false pinned,
      );
    }

pub loop-place-2-preserved : goal.loop-place-2-preserved
loop-place-2-preserved g c = not_yet c.as_slice-pass-items.result.now c.loop-place-2.place
    c.args.number c.pass-item.result c.loop-place-2.invariant c.loop-place-2-test.true
    c.pass-item.is (λ e. c.if-number-2.false (c.number-in-loop-place-2.ensures.number ∙ e))

pub unreachable-requires : goal.unreachable-requires
unreachable-requires g c =
    let pinned : c.as_slice-pinned-items.result.now ≡ c.args.self.now.pinned = search rules in
    let free : c.as_slice-pass-items.result.now ≡ c.args.self.now.free = search rules in
    not_there c.args.self.now c.args.number c.requires.there
    (nowhere c.as_slice-pass-items.result.now c.args.self.now.free c.loop-place-2.place
    c.args.number c.loop-place-2.invariant c.loop-place-2-test.false free)
    (nowhere c.as_slice-pinned-items.result.now c.args.self.now.pinned c.loop-place.place
    c.args.number c.loop-place.invariant c.loop-place-test.false pinned)

pub offset_bounds-pinned-items-place : goal.offset_bounds-pinned-items-place
offset_bounds-pinned-items-place g c = search rules

pub bounds-pinned-items-place : goal.bounds-pinned-items-place
bounds-pinned-items-place g c = search rules

pub returns-then-number : goal.returns-then-number
returns-then-number g c = grind (arith, common_steps)

pub offset_bounds-pass-items-place : goal.offset_bounds-pass-items-place
offset_bounds-pass-items-place g c = search rules

pub bounds-pass-items-place : goal.bounds-pass-items-place
bounds-pass-items-place g c = search rules
