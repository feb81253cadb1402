use Rattle.mst_sharded_script.proofs.Names.{◌≡◌, ◌-◌, [], rules, vec_items, subst, arc_value, Whole, Shards, first_lots, IsWriterOf, HasMade}
use Rattle.mst_sharded_script.proofs.Opened.{if_is, new_of}
use Rattle.mst_sharded_script.proofs.opening.roles_of.Goals as goal

pub returns-in-Some : goal.returns-in-Some
returns-in-Some g c =
    let m : Shards = arc_value c.args.map.now in
    let here : c.deref.result.now ≡ m = search rules in
    let made = c.in_ok-made.made in
    let w : Whole = c.in-Some.writer in
    record {
      new = new_of m w (vec_items c.in_ok-lot.lots) (vec_items c.in_ok-readers.readers)
          (if_is (λ (x : Whole). IsWriterOf m x) made w c.in-Some.is c.in_ok-made.ensures.own)
          (if_is (λ (x : Whole). HasMade [] x) made w c.in-Some.is c.in_ok-made.ensures.none)
          c.in_ok-readers.ensures.readers
          (subst (λ (x : Shards). vec_items c.in_ok-lot.lots
          ≡ first_lots x.stores x.directory (x.directory.passes - 1)) here
          c.in_ok-lot.ensures.readers);
    }
