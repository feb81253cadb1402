use Rattle.mst_snapshots.proofs.Names.{◌≡◌, List, vec_items, rules, sym, ap, subst, arith, ◌∙◌, arc_value, IfOk, sharded_proof, Known, Whole, whole, IsOneBlock, OfClean, AreOf, Shards, sharding, IsSnapshot}
use Rattle.mst_snapshots.proofs.Staying.{as_long}
use Rattle.mst_snapshots.proofs.snapshot.Snapshot.prove.Goals as goal

pub prove_in-requires : goal.prove_in-requires
prove_in-requires g c =
    let are : c.deref.result.now ≡ arc_value c.self.inside.map = search rules in
    let was = c.self.invariant.0 in
    record {
      one = subst (λ (s : Shards). IsOneBlock (whole s.splits (vec_items c.self.inside.pins)
          c.self.inside.directory)) (sym are) was.one;
      own = subst (λ (s : Shards). AreOf s.stores (vec_items c.self.inside.pins)) (sym are)
          was.own;
      own_directory = was.directory ∙ ap (λ (s : Shards). s.directory) (sym are);
    }

pub invariant_of-self : goal.invariant_of-self
invariant_of-self g c =
    let was = c.self.invariant in
    let same = as_long _ _ (vec_items c.self.inside.pins) (vec_items c.prove_in.new.pins)
    c.self.inside.pins.ok.0 c.prove_in.new.pins.ok.0 c.prove_in.ensures.same in
    let room = was.2 in
    let versions = was.3 in
    let found = was.4 in (
      subst (λ (d : Known). IsSnapshot (arc_value c.self.inside.map)
          (vec_items c.self.inside.checks.versions) c.self.inside.checks.number
          (whole (arc_value c.self.inside.map).splits (vec_items c.prove_in.new.pins) d))
          (sym c.prove_in.ensures.still)
          (subst (λ (x : List Known). IsSnapshot (arc_value c.self.inside.map)
          (vec_items c.self.inside.checks.versions) c.self.inside.checks.number
          (whole (arc_value c.self.inside.map).splits x c.self.inside.directory))
          (sym c.prove_in.ensures.same) was.0),
      was.1,
      omega (arith, same, room),
      omega (arith, same, versions),
      omega (arith, same, found),
    )

pub returns-clause-bytes : goal.returns-clause-bytes
returns-clause-bytes g c =
    let are : c.deref.result.now ≡ arc_value c.self.inside.map = search rules in
    subst (λ (w : Whole). IfOk c.prove_in.result (λ bytes. OfClean (λ f m. vec_items bytes
    ≡ sharded_proof f m w.sharding.splits c.args.key.now) w.sharding)) c.self.view_is
    (subst (λ (s : Shards). IfOk c.prove_in.result (λ bytes. OfClean (λ f m. vec_items bytes
    ≡ sharded_proof f m s.splits c.args.key.now)
    (sharding s.splits (vec_items c.self.inside.pins)))) are c.prove_in.ensures.bytes)

pub returns-clause-same : goal.returns-clause-same
returns-clause-same g c =
    ap (λ (x : List Known). whole (arc_value c.self.inside.map).splits x c.prove_in.new.directory)
    c.prove_in.ensures.same
    ∙ ap (λ (d : Known). whole (arc_value c.self.inside.map).splits (vec_items c.self.inside.pins)
    d) c.prove_in.ensures.still ∙ c.self.view_is
