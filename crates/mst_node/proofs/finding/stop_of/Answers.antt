use Rattle.mst_node.proofs.Names.{refl, arith, not}
use Rattle.mst_node.proofs.Stops.{stops_at}
use Rattle.mst_node.proofs.finding.stop_of.Goals as goal

pub returns-clause-scanned : goal.returns-clause-scanned
returns-clause-scanned c = λ layer.
    stops_at c.args.format layer c.args.key.now c.args.coming
    (record {
      low = c.before-low.result;
      entry = c.in-Some.entry;
      here = not c.comes_before-here.result;
    }) c.comes_before-here.result c.in-Some.field-0-1.now (omega (arith, c.if-coming-eq0.false))
    c.in-Some.ensures.reading (c.requires.halts (omega (arith, c.if-coming-eq0.false)))
    c.comes_before-here.ensures.less c.before-low.ensures.key refl
