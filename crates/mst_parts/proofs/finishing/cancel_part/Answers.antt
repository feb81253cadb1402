use Rattle.mst_parts.proofs.Names.{part_nothing}
use Rattle.mst_parts.proofs.finishing.cancel_part.Goals as goal

-- its shard was refused it
pub returns : goal.returns
returns g c = record {
  nothing = part_nothing c.in-Stopped.field-0 c.args.part.edits c.args.part.pass
      c.in-Stopped.laid c.in-Stopped.ensures.comes.1;
}
