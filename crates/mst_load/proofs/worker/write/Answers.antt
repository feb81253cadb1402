use Rattle.mst_load.proofs.Names.{rules, ◌+◌}
use Rattle.mst_load.proofs.Working.{not_written, written_more}
use Rattle.mst_load.proofs.worker.write.Goals as goal

pub loop-index-init : goal.loop-index-init
loop-index-init g c = search (rules, not_written)

pub overflow_add-call : goal.overflow_add-call
overflow_add-call g c = search rules

pub key-requires : goal.key-requires
key-requires g c = search rules

pub loop-index-preserved : goal.loop-index-preserved
loop-index-preserved g c = (
  c.loop-index.invariant.0,
  written_more c.loop-index.index (c.loop-index.index + 1) _ _ _ _ _ _ c.put.result c.put.ensures.ok
      c.put.ensures.err (search rules) c.loop-index.invariant.0 c.key.ensures c.value.ensures
      c.loop-index.invariant.1,
)

pub returns : goal.returns
returns g c = search rules
