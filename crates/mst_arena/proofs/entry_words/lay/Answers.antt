use Rattle.mst_arena.proofs.Names.{◌++◌, ◌∙◌, length, take, ap, arith}
use Rattle.mst_arena.proofs.EntryWords.{laid}
use Rattle.mst_arena.proofs.entry_words.lay.Goals as goal

pub returns-clause-text : goal.returns-clause-text
returns-clause-text g c =
    laid c.args.at _ c.args.len c.args.text.now c.copy_from_slice.new.self
    (omega (arith, c.requires.room, c.told-text))
    (omega (arith, c.requires.part, c.told-bytes, ap length c.copy_from_slice.ensures.after))
    ∙ ap (λ x. take c.args.at c.args.text.now ++ take c.args.len x) c.copy_from_slice.ensures.after
