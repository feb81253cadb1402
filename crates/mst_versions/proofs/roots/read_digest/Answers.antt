use Rattle.mst_versions.proofs.Names.{◌∙◌}
use Rattle.mst_versions.proofs.Fields.{still_readable}
use Rattle.mst_versions.proofs.roots.read_digest.Goals as goal

pub field-second-requires-clause-readable : goal.field-second-requires-clause-readable
field-second-requires-clause-readable g c =
    still_readable c.args.which c.field-first.ensures.same c.requires.readable

pub field-third-requires-clause-readable : goal.field-third-requires-clause-readable
field-third-requires-clause-readable g c =
    still_readable c.args.which (c.field-second.ensures.same ∙ c.field-first.ensures.same)
    c.requires.readable

pub field-last-requires-clause-readable : goal.field-last-requires-clause-readable
field-last-requires-clause-readable g c =
    still_readable c.args.which (c.field-third.ensures.same ∙ c.field-second.ensures.same
    ∙ c.field-first.ensures.same) c.requires.readable
