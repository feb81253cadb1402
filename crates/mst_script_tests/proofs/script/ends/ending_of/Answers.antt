use Rattle.mst_script.proofs.AllOf.{all_of}
use Rattle.mst_script_tests.proofs.script.ends.ending_of.Goals as goal

pub run-ended-requires-clause-whole : goal.run-ended-requires-clause-whole
run-ended-requires-clause-whole g c = all_of _ _ c.dealt-passes.ensures.passes
