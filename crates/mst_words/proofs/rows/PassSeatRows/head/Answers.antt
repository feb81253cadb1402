use Rattle.mst_words.proofs.Names.{◌≡◌, Some, rules, part_at, head_links, content_of}
use Rattle.mst_words.proofs.Limits.{head_within}
use Rattle.mst_words.proofs.rows.PassSeatRows.head.Goals as goal

pub unreachable-requires : goal.unreachable-requires
unreachable-requires g c = search rules

pub unreachable-unreachable : goal.unreachable-unreachable
unreachable-unreachable g c = search rules

pub returns-clause-value : goal.returns-clause-value
returns-clause-value g c = search rules

pub returns-clause-same : goal.returns-clause-same
returns-clause-same g c = search rules

pub returns-clause-limits : goal.returns-clause-limits
returns-clause-limits g c =
    let view = c.args.self.now.me.0 in
    let is : part_at head_links (content_of view) c.args.row ≡ Some c.in-Some.links =
    search rules in
    head_within view c.args.row c.in-Some.links is

pub words-requires : goal.words-requires
words-requires g c = search rules
