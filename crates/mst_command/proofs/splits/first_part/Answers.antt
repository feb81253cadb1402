use Rattle.std.proofs.Common.{ap, ◌∙◌, sym}
use Rattle.std.specs.Option.{option_map}
use Rattle.mst_command.proofs.Splitting.{parts_cut, part_alone}
use Rattle.mst_command.proofs.splits.first_part.Goals as goal

pub returns-in-Some-clause-parts : goal.returns-in-Some-clause-parts
returns-in-Some-clause-parts c = parts_cut c.args.word.now c.in-Some.first.now c.in-Some.rest.now
    (sym (ap (option_map (λ parts. (parts.0.now, parts.1.now))) c.in-Some.is) ∙ c.cut.ensures)

pub returns-in-None-clause-parts : goal.returns-in-None-clause-parts
returns-in-None-clause-parts c = part_alone c.args.word.now
    (sym (ap (option_map (λ parts. (parts.0.now, parts.1.now))) c.in-None.is) ∙ c.cut.ensures)
