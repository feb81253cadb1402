use Rattle.mst_load.proofs.Names.{rules}
use Rattle.mst_load.specs.Lines.{lines_of}
use Rattle.mst_load.proofs.engine.Report.lines.Goals as goal

pub new-lines-requires : goal.new-lines-requires
new-lines-requires c = search rules

pub extend_count-requires-clause-room : goal.extend_count-requires-clause-room
extend_count-requires-clause-room c = search rules

pub extend_count-requires-clause-short : goal.extend_count-requires-clause-short
extend_count-requires-clause-short c = search rules

pub extend_count-requires-2-clause-room : goal.extend_count-requires-2-clause-room
extend_count-requires-2-clause-room c = search rules

pub extend_count-requires-2-clause-short : goal.extend_count-requires-2-clause-short
extend_count-requires-2-clause-short c = search rules

pub extend_digest-requires-clause-room : goal.extend_digest-requires-clause-room
extend_digest-requires-clause-room c = search rules

pub extend_digest-requires-clause-short : goal.extend_digest-requires-clause-short
extend_digest-requires-clause-short c = search rules

pub extend_digest-requires-2-clause-room : goal.extend_digest-requires-2-clause-room
extend_digest-requires-2-clause-room c = search rules

pub extend_digest-requires-2-clause-short : goal.extend_digest-requires-2-clause-short
extend_digest-requires-2-clause-short c = search rules

pub returns : goal.returns
unfolding lines_of
returns c = search rules
