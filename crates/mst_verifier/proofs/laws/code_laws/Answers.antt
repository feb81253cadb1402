use Rattle.std.proofs.Common.{refl}
use Rattle.mst_verifier.proofs.CodeLaws.{differ, apart, grammar, digest, layer, keys}
use Rattle.mst_verifier.proofs.laws.code_laws.Goals as goal

pub returns-clause-tests : goal.returns-clause-tests
returns-clause-tests c = refl

pub returns-clause-sharded_tests : goal.returns-clause-sharded_tests
returns-clause-sharded_tests c = refl

pub returns-clause-directory_tests : goal.returns-clause-directory_tests
returns-clause-directory_tests c = λ fault. refl

pub returns-clause-shard_tests : goal.returns-clause-shard_tests
returns-clause-shard_tests c = λ fault. refl

pub returns-clause-part_tests : goal.returns-clause-part_tests
returns-clause-part_tests c = refl

pub returns-clause-differ : goal.returns-clause-differ
returns-clause-differ c = differ

pub returns-clause-apart : goal.returns-clause-apart
returns-clause-apart c = apart

pub returns-clause-grammar : goal.returns-clause-grammar
returns-clause-grammar c = λ format d text upper low high fault e fails. grammar format d text upper
    low high fault e fails

pub returns-clause-digest : goal.returns-clause-digest
returns-clause-digest c = λ format d text upper low high fault e fails. digest format d text upper
    low high fault e fails

pub returns-clause-layer : goal.returns-clause-layer
returns-clause-layer c = λ format d text upper low high fault e fails. layer format d text upper low
    high fault e fails

pub returns-clause-keys : goal.returns-clause-keys
returns-clause-keys c = λ format d text upper low high fault e fails. keys format d text upper low
    high fault e fails
