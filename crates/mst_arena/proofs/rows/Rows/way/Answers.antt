use Rattle.mst_arena.proofs.Names.{rules}
use Rattle.mst_arena.proofs.rows.Rows.way.Goals as goal

pub entry-entry-requires : goal.entry-entry-requires
entry-entry-requires g c = search rules

pub returns-clause-way : goal.returns-clause-way
returns-clause-way g c = search rules

pub returns-clause-same : goal.returns-clause-same
returns-clause-same g c = search rules
