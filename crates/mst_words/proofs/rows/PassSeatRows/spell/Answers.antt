use Rattle.mst_words.proofs.Names.{◌≡◌, ◌∙◌, Some, ap, part_at, entry_pair, content_of}
use Rattle.mst_words.proofs.rows.PassSeatRows.spell.Goals as goal

pub returns-clause-entry : goal.returns-clause-entry
returns-clause-entry g c pair is =
    let there : part_at entry_pair (content_of c.self.inside.token.me.0) c.args.row ≡ Some pair
    = ap (λ s. part_at entry_pair (content_of s.me.0) c.args.row) c.self.view_is ∙ is in
    c.spell.ensures.entry pair there

pub returns-clause-limits : goal.returns-clause-limits
returns-clause-limits g c pair is =
    let there : part_at entry_pair (content_of c.self.inside.token.me.0) c.args.row ≡ Some pair
    = ap (λ s. part_at entry_pair (content_of s.me.0) c.args.row) c.self.view_is ∙ is in
    c.spell.ensures.limits pair there
