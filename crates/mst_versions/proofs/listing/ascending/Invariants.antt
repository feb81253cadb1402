use Rattle.mst_versions.proofs.Listed.{ListsFirst}
use Rattle.mst_versions.proofs.listing.ascending.Given as goal

-- the versions so far were listed
abbrev pub invariant-loop-version : goal.invariant-loop-version
invariant-loop-version l = ListsFirst l.found l.version-index l.versions.items
