use Rattle.mst_node.proofs.Names.{◌≡◌, ◌-◌, ◌+◌, ℕ, false, true, refl, sym, ap, ◌∙◌, arith, scan_at, passing_from, key_before, fits_behind, seen}
use Rattle.std.proofs.lemmas.Bool.Decides.{same_from_decides}
use Rattle.mst_node.proofs.ScannedEntries.{behind-Decides, scan_more, scan_unread, scan_unfit}
use Rattle.mst_node.proofs.Stops.{passes_on}
use Rattle.mst_node.proofs.finding.pass.Goals as goal

pub loop-passed-init : goal.loop-passed-init
loop-passed-init c =
    let all : c.args.coming.left - 0 ≡ c.args.coming.left = omega arith in (
      ap (λ (n : ℕ). scan_at c.args.format c.args.layer c.args.key.now
          (passing_from c.args.coming.last.now c.args.stop.now) n c.args.coming.rest.now) all,
      c.requires.limit,
    )

pub returns-in_default-clause-unfit : goal.returns-in_default-clause-unfit
returns-in_default-clause-unfit c =
    sym c.loop-passed.invariant.0
    ∙ scan_unread c.args.format c.args.layer c.args.key.now
    (passing_from c.loop-passed.last.now c.args.stop.now)
    (c.args.coming.left - c.loop-passed.passed) c.loop-passed.rest.now (omega arith)
    c.in_default.ensures.reading

pub returns-then-not-goes_on-clause-scanned : goal.returns-then-not-goes_on-clause-scanned
returns-then-not-goes_on-clause-scanned c = c.loop-passed.invariant.0

pub returns-then-not-goes_on-clause-limit : goal.returns-then-not-goes_on-clause-limit
returns-then-not-goes_on-clause-limit c = c.loop-passed.invariant.1

pub returns-then-not-follows-clause-unfit : goal.returns-then-not-follows-clause-unfit
returns-then-not-follows-clause-unfit c =
    let e = seen c.in-Some.entry in
    let last = key_before c.loop-passed.last.now in
    let unfit = same_from_decides (fits_behind c.args.format c.args.layer last e.key) false
    (behind-Decides c.args.format c.args.layer last e.key) c.if-not-follows.ensures.fits in
    sym c.loop-passed.invariant.0
    ∙ scan_unfit c.args.format c.args.layer c.args.key.now
    (passing_from c.loop-passed.last.now c.args.stop.now)
    (c.args.coming.left - c.loop-passed.passed) c.loop-passed.rest.now (e, c.in-Some.after.now)
    (omega arith) c.in-Some.ensures.reading unfit

pub loop-passed-preserved : goal.loop-passed-preserved
loop-passed-preserved c =
    let e = seen c.in-Some.entry in
    let last = key_before c.loop-passed.last.now in
    let fit = same_from_decides (fits_behind c.args.format c.args.layer last e.key) true
    (behind-Decides c.args.format c.args.layer last e.key) c.if-not-follows.ensures.fits in
    let key = c.in-Some.ensures.key in (
      scan_more c.args.format c.args.layer c.args.key.now
          (passing_from c.loop-passed.last.now c.args.stop.now)
          (passing_from e.key c.args.stop.now) (c.args.coming.left - c.loop-passed.passed)
          (c.args.coming.left - (c.loop-passed.passed + 1)) c.loop-passed.rest.now
          (e, c.in-Some.after.now) (omega arith) c.in-Some.ensures.reading fit
          (passes_on c.args.key.now c.loop-passed.last.now c.args.stop.now e key
          (c.if-not-goes_on.ensures.on.0 refl))
          ∙ c.loop-passed.invariant.0,
      key.1,
    )

pub returns-clause-scanned : goal.returns-clause-scanned
returns-clause-scanned c =
    let none : 0 ≡ c.args.coming.left - c.loop-passed.passed = omega arith in
    ap (λ (n : ℕ). scan_at c.args.format c.args.layer c.args.key.now
    (passing_from c.loop-passed.last.now c.args.stop.now) n c.loop-passed.rest.now) none
    ∙ c.loop-passed.invariant.0

pub returns-clause-limit : goal.returns-clause-limit
returns-clause-limit c = c.loop-passed.invariant.1
