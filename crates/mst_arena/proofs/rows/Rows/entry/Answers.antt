use Rattle.mst_arena.proofs.Names.{rules}
use Rattle.mst_arena.proofs.rows.Rows.entry.Goals as goal

pub read-requires : goal.read-requires
read-requires g c = search rules

pub unreachable-requires : goal.unreachable-requires
unreachable-requires g c = search rules

pub unreachable-unreachable : goal.unreachable-unreachable
unreachable-unreachable g c = search rules

pub returns-clause-value : goal.returns-clause-value
returns-clause-value g c = search rules

pub returns-clause-same : goal.returns-clause-same
returns-clause-same g c = search rules
