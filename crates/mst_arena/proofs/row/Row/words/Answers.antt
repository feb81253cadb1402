use Rattle.mst_arena.proofs.Names.{sym, subst, rules, HasBytes}
use Rattle.mst_arena.proofs.Spelling.{row_with_words}
use Rattle.mst_arena.proofs.row.Row.words.Goals as goal

pub returns-in-Entry-clause-row : goal.returns-in-Entry-clause-row
returns-in-Entry-clause-row c =
    row_with_words c.entry_words.result c.args.self.now c.requires.limits
    (subst HasBytes (sym c.in-Entry.is) c.entry_words.ensures.bytes) (search rules)

pub returns-in-Head-clause-row : goal.returns-in-Head-clause-row
returns-in-Head-clause-row c =
    row_with_words c.head_words.result c.args.self.now c.requires.limits
    (subst HasBytes (sym c.in-Head.is) c.head_words.ensures.bytes) (search rules)
