use Rattle.std.proofs.Common.{rules}
use Rattle.mst_verifier.proofs.codes.refusal_code.Goals as goal

pub returns-in-Format : goal.returns-in-Format
returns-in-Format c = search rules

pub returns-in-Root : goal.returns-in-Root
returns-in-Root c = search rules

pub returns-in-Key : goal.returns-in-Key
returns-in-Key c = search rules

pub returns-in-Proof-FormatByte : goal.returns-in-Proof-FormatByte
returns-in-Proof-FormatByte c = search rules

pub returns-in-Proof-CutShort : goal.returns-in-Proof-CutShort
returns-in-Proof-CutShort c = search rules

pub returns-in-Proof-LeftOver : goal.returns-in-Proof-LeftOver
returns-in-Proof-LeftOver c = search rules

pub returns-in-Proof-NoNode : goal.returns-in-Proof-NoNode
returns-in-Proof-NoNode c = search rules

pub returns-in-Proof-OtherDigest : goal.returns-in-Proof-OtherDigest
returns-in-Proof-OtherDigest c = search rules

pub returns-in-Proof-LayerNotBelow : goal.returns-in-Proof-LayerNotBelow
returns-in-Proof-LayerNotBelow c = search rules

pub returns-in-Proof-KeyOutside : goal.returns-in-Proof-KeyOutside
returns-in-Proof-KeyOutside c = search rules

pub returns-in-Proof-Unfinished : goal.returns-in-Proof-Unfinished
returns-in-Proof-Unfinished c = search rules

pub returns-in-Proof-TextBehind : goal.returns-in-Proof-TextBehind
returns-in-Proof-TextBehind c = search rules

pub returns-in-Proof-OtherValue : goal.returns-in-Proof-OtherValue
returns-in-Proof-OtherValue c = search rules

pub returns-in-ShardedProof : goal.returns-in-ShardedProof
returns-in-ShardedProof c = search rules
