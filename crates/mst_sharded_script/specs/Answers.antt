-- Answers to the lines of a script over a sharded map, and their text.
use Rattle.std.specs.Prelude.{ℕ, List, codes}
use Rattle.mst_batching.specs.declared.faults.ApplyFault.TheVariants as apply
use Rattle.mst_blocks.specs.declared.faults.PartFault.{PartFault}
use Rattle.mst_blocks.specs.declared.faults.PartFault.TheVariants as part
use Rattle.mst_blocks.specs.declared.faults.BlockFault.{BlockFault}
use Rattle.mst_blocks.specs.declared.faults.BlockFault.TheVariants as block
use Rattle.mst_requests.specs.Texts.{line_of}
use Rattle.mst_requests.specs.Answers.{text_of as text_of_store}
use Rattle.mst_sharded_script.specs.declared.answer.ShardedAnswer.{ShardedAnswer}
use Rattle.mst_sharded_script.specs.declared.answer.ShardedAnswer.TheVariants.{Store, Overtaken, NoSuch}

-- why a shard or the directory was refused its part of a block
abbrev pub part_words : PartFault → List ℕ
part_words (part.Refused apply.Busy) = codes "busy"
part_words (part.Refused apply.VersionsSpent) = codes "spent"
part_words (part.Refused (apply.Memory refused)) = codes "memory"
part_words (part.Refused apply.NoRoom) = codes "noroom"
part_words part.Overtaken = codes "overtaken"

-- why a block was refused
abbrev pub block_words : BlockFault → List ℕ
block_words (block.Memory refused) = codes "memory"
block_words (block.Shard place fault) = part_words fault
block_words (block.Directory fault) = part_words fault

-- the text of an answer
abbrev pub text_of : {A : Type 0} → ShardedAnswer A → List ℕ
text_of (Store answer) = text_of_store answer
text_of Overtaken = line_of (codes "overtaken")
text_of NoSuch = line_of (codes "fault L7")
