use Rattle.mst_versions.proofs.Fields.{still_readable}
use Rattle.mst_versions.proofs.roots.read_link.Goals as goal

pub field-link-requires-clause-readable : goal.field-link-requires-clause-readable
field-link-requires-clause-readable g c =
    still_readable c.args.which c.field-version.ensures.same c.requires.readable
