use Rattle.mst_node.proofs.Names.{◌≡◌, ◌-◌, ◌+◌, ◌↔◌, ℕ, None, sym, ap, ◌∙◌, refl, arith, subst, rules, option_copied, FlatNode, KeysFit, entries_at, body_or_empty, seen}
use Rattle.mst_node.proofs.FittingKeys.{FitsFrom, fits-all, entries-step, entries-none, entries-first}
use Rattle.mst_node.proofs.EntryPlaces.{parts}
use Rattle.mst_node.proofs.flat.Flat.keys_fit.Goals as goal

pub loop-init : goal.loop-init
loop-init c =
    let f = c.self.inside in
    let b = body_or_empty c.self.inside.format f.count f.body.now in
    let p = parts c.self.inside.format f.count f.body.now c.self.invariant in
    let all : f.count ≡ f.count - 0 = omega arith in (
      (b.0, p.rest),
      ap (λ (n : ℕ). entries_at c.self.inside.format n f.body.now) (sym all)
          ∙ p.entries,
      subst (λ (n : FlatNode). KeysFit n ↔ FitsFrom f.format None f.layer b.0)
          c.self.view_is (fits-all f.format f.layer b),
    )

pub unreachable-requires : goal.unreachable-requires
unreachable-requires c = entries-first c.self.inside.format (c.self.inside.count - c.loop.counter)
    c.loop.rest.now c.loop.invariant.0 c.loop.invariant.1 (omega arith) c.in_default.ensures.reading

pub returns-then-not-fits : goal.returns-then-not-fits
returns-then-not-fits c =
    let l = c.self.inside.layer in
    let e = seen c.in-Some.entry in
    let step = entries-step c.self.inside.format (c.self.inside.count - c.loop.counter)
    (c.self.inside.count - (c.loop.counter + 1)) c.loop.rest.now c.loop.invariant.0
    (e, c.in-Some.after.now) c.loop.invariant.1 (omega arith) c.in-Some.ensures.reading in
    let last = option_copied c.loop.last in
    record {
      fit = (
        λ f. absurd (search rules),
        λ fit.
            let now = subst (FitsFrom c.self.inside.format last l) step.1 (c.loop.invariant.2.0 fit)
            in
            c.if-not-fits.ensures.fits.1 (now.0, now.1),
      );
    }

pub loop-preserved : goal.loop-preserved
loop-preserved c =
    let l = c.self.inside.layer in
    let e = seen c.in-Some.entry in
    let step = entries-step c.self.inside.format (c.self.inside.count - c.loop.counter)
    (c.self.inside.count - (c.loop.counter + 1)) c.loop.rest.now c.loop.invariant.0
    (e, c.in-Some.after.now) c.loop.invariant.1 (omega arith) c.in-Some.ensures.reading in
    let last = option_copied c.loop.last in
    let here = c.if-not-fits.ensures.fits.0 refl in (
      (step.0, c.loop.invariant.0.1),
      step.2,
      (
        λ fit. let now = subst (FitsFrom c.self.inside.format last l) step.1
            (c.loop.invariant.2.0 fit) in now.2,
        λ fits. c.loop.invariant.2.1
            (subst (FitsFrom c.self.inside.format last l) (sym step.1) (here.0, here.1, fits)),
      ),
    )

pub returns : goal.returns
returns c =
    let none = entries-none c.self.inside.format (c.self.inside.count - c.loop.counter)
    c.loop.rest.now c.loop.invariant.0 c.loop.invariant.1 (omega arith) in
    record {
      fit = (
        λ t. c.loop.invariant.2.1
            (subst (FitsFrom c.self.inside.format (option_copied c.loop.last) c.self.inside.layer)
            (sym none) tt),
        λ fit. refl,
      );
    }
