use Rattle.mst_blocks.proofs.Names.{◌∙◌, sym, subst, Waiting, PreparesNext}
use Rattle.mst_blocks.proofs.blocks.prepare_next.Goals as goal

pub returns-in-Ok-keep_on-clause-ok : goal.returns-in-Ok-keep_on-clause-ok
returns-in-Ok-keep_on-clause-ok g c =
    let kept = c.in-Ok-keep_on.ensures.ok in
    subst (λ (w : Waiting). PreparesNext c.args.edits.items c.args.pass w) (sym kept.0) (record {
      prepares = c.in-Ok.ensures.ok;
      edits_are = c.in-Ok.ensures.edits;
      next = kept.1 ∙ c.last_version-last.ensures.last;
      map = c.in-Ok.ensures.map;
      few = c.in-Ok.ensures.few;
    })
