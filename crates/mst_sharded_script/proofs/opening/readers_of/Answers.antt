use Rattle.mst_sharded_script.proofs.Names.{◌∷◌, ◌++◌, [], List, map, vec_items, rules, sym, ap, subst, ◌∙◌, map-append, arc_value, AllByRecursion, into_iter_items, Whole, Shards, Dealt, IsLot, goes_on, all_gone, reader_of}
use Rattle.mst_sharded_script.proofs.opening.readers_of.Goals as goal

pub loop-lot-init : goal.loop-lot-init
loop-lot-init g c =
    let gives = c.into_iter-lot-iterator.ensures.into_iter_gives in (
      [],
      sym gives.0,
      c.new-readers.ensures.items,
      subst (AllByRecursion (IsLot (arc_value c.args.shared.now))) (sym gives.0) c.requires.own,
    )

pub new-requires : goal.new-requires
new-requires g c = record {
  own = (subst (AllByRecursion (IsLot (arc_value c.args.shared.now))) c.in-Some.ensures.steps.0
      c.loop-lot.invariant.3).0;
}

pub loop-lot-preserved : goal.loop-lot-preserved
loop-lot-preserved g c =
    let was = c.loop-lot.invariant in
    let s : Shards = arc_value c.args.shared.now in
    let front : List Dealt = was.0 in
    let lot : Dealt = c.in-Some.lot in
    let rest = c.in-Some.ensures.steps.0 in (
      front ++ lot ∷ [],
      goes_on (vec_items c.args.lots) front (into_iter_items c.loop-lot.lot-iterator)
          (into_iter_items c.next.new.self) lot was.1 rest,
      c.in_ok-push.ensures.items
          ∙ ap (λ (r : Whole). vec_items c.loop-lot.readers ++ r ∷ []) c.in_ok-reader.ensures.reader
          ∙ ap (λ (l : List Whole). l ++ reader_of s.splits lot ∷ []) was.2
          ∙ sym (map-append (reader_of s.splits) front (lot ∷ [])),
      (subst (AllByRecursion (IsLot s)) rest was.3).1,
    )

pub returns : goal.returns
returns g c =
    let was = c.loop-lot.invariant in
    let splits = (arc_value c.args.shared.now).splits in
    record {
      readers = was.2 ∙ ap (λ (l : List Dealt). map (reader_of splits) l)
          (all_gone (vec_items c.args.lots) was.0 (into_iter_items c.loop-lot.lot-iterator)
          was.1 (search rules));
    }
