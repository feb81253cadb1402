use Rattle.mst_script.proofs.AllOf.{all_of}
use Rattle.mst_script_tests.proofs.script.memory.starts_in.Goals as goal

pub starts_over-requires : goal.starts_over-requires
starts_over-requires g c = record { whole = all_of _ _ c.dealt-passes.ensures.passes }
