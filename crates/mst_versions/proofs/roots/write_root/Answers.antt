use Rattle.mst_versions.proofs.Names.{arith}
use Rattle.std.proofs.lemmas.Grind.{moves}
use Rattle.mst_versions.proofs.roots.write_root.Goals as goal

pub returns-clause-root : goal.returns-clause-root
returns-clause-root g c = grind (arith, moves)
