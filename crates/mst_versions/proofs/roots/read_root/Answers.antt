use Rattle.mst_versions.proofs.Names.{◌∙◌}
use Rattle.mst_versions.proofs.Fields.{still_readable}
use Rattle.mst_versions.proofs.roots.read_root.Goals as goal

pub field-requires-clause-readable : goal.field-requires-clause-readable
field-requires-clause-readable g c =
    still_readable c.args.which c.field-version.ensures.same c.requires.readable

pub field-requires-2-clause-readable : goal.field-requires-2-clause-readable
field-requires-2-clause-readable g c =
    still_readable c.args.which (c.field.ensures.same ∙ c.field-version.ensures.same)
    c.requires.readable

pub field-requires-3-clause-readable : goal.field-requires-3-clause-readable
field-requires-3-clause-readable g c =
    still_readable c.args.which
    (c.field-2.ensures.same ∙ c.field.ensures.same ∙ c.field-version.ensures.same)
    c.requires.readable

pub field-requires-4-clause-readable : goal.field-requires-4-clause-readable
field-requires-4-clause-readable g c =
    still_readable c.args.which
    (c.field-3.ensures.same ∙ c.field-2.ensures.same ∙ c.field.ensures.same
    ∙ c.field-version.ensures.same) c.requires.readable

pub field-requires-5-clause-readable : goal.field-requires-5-clause-readable
field-requires-5-clause-readable g c =
    still_readable c.args.which
    (c.field-4.ensures.same ∙ c.field-3.ensures.same ∙ c.field-2.ensures.same
    ∙ c.field.ensures.same ∙ c.field-version.ensures.same) c.requires.readable
