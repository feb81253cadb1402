use Rattle.mst_words.proofs.Names.{◌≡◌, ◌∙◌, Some, ap, part_at, entry_pair, content_of}
use Rattle.mst_words.proofs.rows.PassSeatRows.push_pair.Goals as goal

pub returns-clause-pushed : goal.returns-clause-pushed
returns-clause-pushed g c pair is =
    let there : part_at entry_pair (content_of c.self.inside.token.me.0) c.args.row ≡ Some pair
    = ap (λ s. part_at entry_pair (content_of s.me.0) c.args.row) c.self.view_is ∙ is in
    c.push_pair.ensures.pushed pair there
