use denote.Exit.{yes}
use denote.Param.Send.{param_send, arg_send}
use Rattle.mst_parts.proofs.Names.{sym, ◌∙◌}
use Rattle.mst_parts.proofs.Sent.{part_send, kept_each}
use Rattle.mst_parts.proofs.threads.prepare_in_threads.Goals as goal

pub for_each_mut-requires-send-T : goal.for_each_mut-requires-send-T
for_each_mut-requires-send-T g c κs within =
    param_send 1 _ (arg_send _ yes _ (part_send _ _ c.type_bounds.send-A c.type_bounds.sync-A
    c.type_bounds.frees-A-Allocator))

pub returns : goal.returns
returns g c = record {
  same = kept_each c.args.parts.now c.for_each_mut.new.s c.for_each_mut.auto.s (λ i d at.
      let changed = c.for_each_mut.ensures i d at in
      sym changed.1.left ∙ changed.1.call ∙ changed.1.argument_is);
}
