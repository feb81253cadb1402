use Rattle.mst_script.proofs.AllOf.{all_of}
use Rattle.mst_script_tests.proofs.script.run_over.Goals as goal

pub run-requires-clause-whole : goal.run-requires-clause-whole
run-requires-clause-whole g c = all_of _ _ c.dealt-passes.ensures.passes
