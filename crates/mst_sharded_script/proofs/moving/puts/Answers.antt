use Rattle.mst_sharded_script.proofs.Names.{◌∷◌, ◌++◌, [], List, vec_items, rules, sym, ap, ◌∙◌, map-append, into_iter_items, Edit, Pair, goes_on, all_gone, puts_of}
use Rattle.mst_key.specs.declared.history.Edit.TheVariants.{Put}
use Rattle.mst_sharded_script.proofs.moving.puts.Goals as goal

pub loop-pair-init : goal.loop-pair-init
loop-pair-init g c =
    let gives = c.into_iter-pair-iterator.ensures.into_iter_gives in
    ([], sym gives.0, c.new-list.ensures.items)

pub loop-pair-preserved : goal.loop-pair-preserved
loop-pair-preserved g c =
    let was = c.loop-pair.invariant in
    let front : List Pair = was.0 in
    let p : Pair = c.in-Some.pair in (
      front ++ p ∷ [],
      goes_on (vec_items c.args.pairs) front (into_iter_items c.loop-pair.pair-iterator)
          (into_iter_items c.next.new.self) p was.1 c.in-Some.ensures.steps.0,
      c.in_ok-push.ensures.items
          ∙ ap (λ (l : List Edit). l ++ Put p.0 p.1 ∷ []) was.2
          ∙ sym (map-append (λ (q : Pair). Put q.0 q.1) front (p ∷ [])),
    )

pub returns : goal.returns
returns g c =
    let was = c.loop-pair.invariant in
    record {
      puts = was.2 ∙ ap puts_of
          (all_gone (vec_items c.args.pairs) was.0 (into_iter_items c.loop-pair.pair-iterator)
          was.1 (search rules));
    }
