use Rattle.mst_sharded_script.proofs.Names.{◌∷◌, ◌++◌, [], List, vec_items, rules, sym, ap, ◌∙◌, map-append, into_iter_items, Whole, goes_on, all_gone, PassState, Free, are_free}
use Rattle.mst_sharded_script.proofs.state.all_free.Goals as goal

pub loop-reader-init : goal.loop-reader-init
loop-reader-init g c =
    let gives = c.into_iter-reader-iterator.ensures.into_iter_gives in
    ([], sym gives.0, c.new-passes.ensures.items)

pub loop-reader-preserved : goal.loop-reader-preserved
loop-reader-preserved g c =
    let was = c.loop-reader.invariant in
    let front : List Whole = was.0 in
    let r : Whole = c.in-Some.reader in (
      front ++ r ∷ [],
      goes_on (vec_items c.args.readers) front (into_iter_items c.loop-reader.reader-iterator)
          (into_iter_items c.next.new.self) r was.1 c.in-Some.ensures.steps.0,
      c.in_ok-push.ensures.items
          ∙ ap (λ (p : PassState). vec_items c.loop-reader.passes ++ p ∷ []) c.free.ensures
          ∙ ap (λ (l : List PassState). l ++ Free r ∷ []) was.2
          ∙ sym (map-append (λ (x : Whole). Free x) front (r ∷ [])),
    )

pub returns : goal.returns
returns g c =
    let was = c.loop-reader.invariant in
    record {
      free = was.2 ∙ ap are_free
          (all_gone (vec_items c.args.readers) was.0 (into_iter_items c.loop-reader.reader-iterator)
          was.1 (search rules));
    }
