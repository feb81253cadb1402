use Rattle.mst_sharded_script.proofs.Names.{◌≡◌, IfSome, rules, vec_items, subst, IfOk, arc_value, Shards, AreNewOf}
use Rattle.mst_sharded_script.proofs.opening.deal_map.Goals as goal

pub returns : goal.returns
returns g c =
    let same : arc_value c.in_ok-map.map ≡ c.args.map = search rules in
    record {
      new = subst (λ (s : Shards). IfOk c.roles_of.result
          (λ dealt. IfSome dealt (λ roles. AreNewOf s roles.0 (vec_items roles.1)))) same
          c.roles_of.ensures.new;
    }
