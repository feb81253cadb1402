use Rattle.mst_store.proofs.Names.{◌≡◌, List, subst, ◌∙◌, arith, Edit, Known, known, IsPrepared}
use Rattle.mst_store.specs.Preparing.{Prepares}
use Rattle.mst_store.proofs.FewPairs.{prepared_map, prepared_few}
use Rattle.mst_store.proofs.FromSeats.{own_refused_batch}
use Rattle.mst_store.proofs.pass.Pass.prepare.Goals as goal

pub returns-in-Ok-clause-ok : goal.returns-in-Ok-clause-ok
returns-in-Ok-clause-ok g c =
    let i = c.self.inside in
    let now = known i.parameters.number i.made c.prepare.new.seat in
    subst (λ (es : List Edit). Prepares es c.args.self now) c.as_slice.ensures.value
    (subst (λ (p : Known). Prepares c.as_slice.result.now p now) c.self.view_is
    (c.in-Ok.ensures.told i.made))

pub returns-in-Ok-clause-map : goal.returns-in-Ok-clause-map
returns-in-Ok-clause-map g c =
    prepared_map c.self.inside.parameters.number c.args.edits.items c.in-Ok.prepared
    c.prepare.new.seat.me
    (subst (λ (es : List Edit). IsPrepared c.self.inside.parameters.number es c.in-Ok.prepared
    c.prepare.new.seat.me) c.as_slice.ensures.value c.in-Ok.ensures.prepared)

pub returns-in-Ok-clause-few : goal.returns-in-Ok-clause-few
returns-in-Ok-clause-few g c =
    let i = c.self.inside in
    let rest = c.self.invariant.rest in
    let kept = c.in-Ok.ensures.pass in
    let rows : c.prepare.new.seat.me.0.rows ≡ i.parameters.rows = kept.1 ∙ rest.rows_is in
    let few = rest.few_rows in
    prepared_few i.parameters.number c.args.edits.items c.in-Ok.prepared c.prepare.new.seat.me
    (subst (λ (es : List Edit). IsPrepared i.parameters.number es c.in-Ok.prepared
    c.prepare.new.seat.me) c.as_slice.ensures.value c.in-Ok.ensures.prepared)
    (omega (arith, rows, few))

pub invariant_of-result-in-Err : goal.invariant_of-result-in-Err
invariant_of-result-in-Err g c =
    let i = c.self.inside in
    let rest = c.self.invariant.rest in
    let kept = c.in-Err.ensures.pass in
    record {
      rest = record {
        free = c.in-Err.ensures.free;
        passes_is = kept.2 ∙ rest.passes_is;
        few = rest.few;
        rows_is = kept.1 ∙ rest.rows_is;
        few_rows = rest.few_rows;
      };
      low = c.self.invariant.low;
      own = own_refused_batch i.parameters.number i.seat c.prepare.new.seat c.self.invariant.own
          c.in-Err.fault c.as_slice.result.now c.in-Err.ensures.refused;
    }
