use Rattle.mst_arena.proofs.EntryParts.{ends_of}
use Rattle.mst_arena.proofs.rows.Rows.links.Goals as goal

pub returns-clause-value : goal.returns-clause-value
returns-clause-value g c =
    ends_of (g.Self.Rows.content c.args.self.now c.args.row) c.entry-entry.result
    c.entry-entry.ensures.value
