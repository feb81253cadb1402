use Rattle.std.proofs.Common.{◌≡◌, ◌-◌, ◌++◌, ◌∙◌, drop, length, min, sym, ap, subst, refl, arith, rules}
use Rattle.std.proofs.lemmas.Grind.{common_steps}
use Rattle.mst_devices.specs.Device.{Counted, Gave, GaveKnown, left_of}
use Rattle.mst_devices.proofs.Readers.{read_some}
use Rattle.mst_devices.proofs.standard.StdSourceSource.read.Goals as goal

pub same-self : goal.same-self
same-self g c = search rules

pub returns-then-most-eq0-clause-ok : goal.returns-then-most-eq0-clause-ok
returns-then-most-eq0-clause-ok g c = search rules

pub returns-then-most-eq0-clause-steady : goal.returns-then-most-eq0-clause-steady
returns-then-most-eq0-clause-steady g c = search rules

pub returns-then-most-eq0-clause-err : goal.returns-then-most-eq0-clause-err
returns-then-most-eq0-clause-err g c = search rules

pub returns-then-most-eq0-clause-failed : goal.returns-then-most-eq0-clause-failed
returns-then-most-eq0-clause-failed g c = search rules

pub slice_bounds-read-end : goal.slice_bounds-read-end
slice_bounds-read-end g c = search rules

pub slice_bounds-read-end-2 : goal.slice_bounds-read-end-2
slice_bounds-read-end-2 g c = search rules

pub overflow_sub-self : goal.overflow_sub-self
overflow_sub-self g c = search rules

pub overflow_add-self : goal.overflow_add-self
overflow_add-self g c = search rules

pub returns-in-Ok-eq0-clause-ok : goal.returns-in-Ok-eq0-clause-ok
returns-in-Ok-eq0-clause-ok g c = search rules

pub returns-in-Ok-eq0-clause-steady : goal.returns-in-Ok-eq0-clause-steady
returns-in-Ok-eq0-clause-steady g c = search rules

pub returns-in-Ok-eq0-clause-err : goal.returns-in-Ok-eq0-clause-err
returns-in-Ok-eq0-clause-err g c = search rules

pub returns-in-Ok-eq0-clause-failed : goal.returns-in-Ok-eq0-clause-failed
returns-in-Ok-eq0-clause-failed g c = search rules

pub returns-in-Ok-clause-ok : goal.returns-in-Ok-clause-ok
returns-in-Ok-clause-ok g c =
    let now : Counted =
    record {
      left = c.self.inside.left;
      has_ended = c.self.inside.has_ended;
      failures =
          c.self.inside.failures;
      known = g.R.Read.remaining c.self.inside.input;
    } in
    let then : Counted =
    record {
      left = c.self.inside.left - c.in-Ok.count;
      has_ended = c.self.inside.has_ended;
      failures = c.self.inside.failures;
      known = g.R.Read.remaining c.read.new.self;
    } in
    let is : now ≡ c.args.self.now = c.self.view_is in
    subst (λ (s : Counted). Gave GaveKnown left_of s
    (c.read.new.buf ++ drop c.most-most.result c.args.buffer.now) c.in-Ok.count then) is
    (read_some now then c.read.new.buf (drop c.most-most.result c.args.buffer.now)
    (length c.args.buffer.now) c.most-most.result c.in-Ok.count
    (c.most-most.ensures ∙ ap (λ (s : Counted). min (left_of s) (length c.args.buffer.now))
    (sym is))
    (omega (arith, c.if-most-eq0.false)) (omega (arith, c.in-Ok.count-test.1)) (search rules)
    (grind (arith, common_steps)) refl refl (search rules))

pub returns-in-Ok-clause-steady : goal.returns-in-Ok-clause-steady
returns-in-Ok-clause-steady g c = search rules

pub returns-in-Ok-clause-err : goal.returns-in-Ok-clause-err
returns-in-Ok-clause-err g c = search rules

pub returns-in-Ok-clause-failed : goal.returns-in-Ok-clause-failed
returns-in-Ok-clause-failed g c = search rules

pub returns-in-Err-clause-ok : goal.returns-in-Err-clause-ok
returns-in-Err-clause-ok g c = search rules

pub returns-in-Err-clause-steady : goal.returns-in-Err-clause-steady
returns-in-Err-clause-steady g c = search rules

pub returns-in-Err-clause-err : goal.returns-in-Err-clause-err
returns-in-Err-clause-err g c = search rules

pub returns-in-Err-clause-failed : goal.returns-in-Err-clause-failed
returns-in-Err-clause-failed g c = search rules
