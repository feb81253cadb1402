use Rattle.mst_snapshots.proofs.Names.{◌≡◌, ◌≤◌, length, vec_items, rules, sym, ap, subst, ◌∙◌, arc_value, IfOk, IfOk-weaker, directory, Known, Whole, whole, OfClean, IsSnapshot}
use Rattle.mst_snapshots.proofs.Shown.{pairs_shown, few_shown}
use Rattle.mst_snapshots.proofs.snapshot.Snapshot.directory.Goals as goal

pub pairs-requires : goal.pairs-requires
pairs-requires g c =
    let are : c.directory.result.now ≡ (arc_value c.self.inside.map).directory = search rules in
    record { own = c.self.invariant.0.directory ∙ sym are }

pub invariant_of-self : goal.invariant_of-self
invariant_of-self g c =
    let was = c.self.invariant in (
      subst (λ (d : Known). IsSnapshot (arc_value c.self.inside.map)
          (vec_items c.self.inside.checks.versions) c.self.inside.checks.number
          (whole (arc_value c.self.inside.map).splits (vec_items c.self.inside.pins) d))
          (sym c.pairs.ensures.same) was.0,
      was.1,
      was.2,
      was.3,
      was.4,
    )

pub returns-clause-pairs : goal.returns-clause-pairs
returns-clause-pairs g c =
    let w : Whole = whole (arc_value c.self.inside.map).splits (vec_items c.self.inside.pins)
    c.self.inside.directory in
    let count : c.len-shards.result ≡ length (vec_items c.self.inside.pins) = search rules in
    subst (λ (v : Whole). IfOk c.pairs.result (λ pairs. OfClean
    (λ f m. vec_items pairs ≡ directory f m v.sharding.splits) v.sharding)) c.self.view_is
    (IfOk-weaker c.pairs.result _
    (λ pairs. OfClean (λ f m. vec_items pairs ≡ directory f m w.sharding.splits) w.sharding)
    (λ pairs is. pairs_shown w (vec_items pairs) c.len-shards.result c.self.invariant.0.one count
    is) c.pairs.ensures.found)

pub returns-clause-few : goal.returns-clause-few
returns-clause-few g c =
    let w : Whole = whole (arc_value c.self.inside.map).splits (vec_items c.self.inside.pins)
    c.self.inside.directory in
    let count : c.len-shards.result ≡ length (vec_items c.self.inside.pins) = search rules in
    IfOk-weaker c.pairs.result _ (λ pairs. length (vec_items pairs) ≤ 1024)
    (λ pairs is. few_shown w (vec_items pairs) c.self.invariant.0.one
    (pairs_shown w (vec_items pairs) c.len-shards.result c.self.invariant.0.one count is))
    c.pairs.ensures.found

pub returns-clause-same : goal.returns-clause-same
returns-clause-same g c =
    ap (λ (d : Known). whole (arc_value c.self.inside.map).splits (vec_items c.self.inside.pins) d)
    c.pairs.ensures.same ∙ c.self.view_is
