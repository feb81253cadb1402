use Rattle.mst_snapshots.proofs.Names.{◌≡◌, ◌≤◌, ◌+◌, ℕ, List, length, set, vec_items, vec_len, rules, arith, sym, ap, subst, ◌∙◌, arc_value, Format, Pair, map_get, Known, StoreId, Whole, AreOf, sharding, place, Routes}
use Rattle.mst_store.specs.Passes.{Answers}
use Rattle.mst_snapshots.proofs.Routed.{set_back, routed, reader_routed}
use Rattle.mst_snapshots.proofs.reader.Reader.get.Given.{Over}
use Rattle.mst_snapshots.proofs.reader.Reader.get.Goals as goal

-- ---- the pass is laid back after its step

module _ (g : Over) (c : goal.After-lay_at g) where
  are : c.splits.result.now ≡ (arc_value c.self.inside.map).splits
  are = search rules

  within : c.place_of-place.result ≤ length (arc_value c.self.inside.map).splits
  within = subst (λ (x : List (List ℕ)). c.place_of-place.result ≤ length x) are
      c.place_of-place.ensures.within

  now : vec_items c.lay_at.new.laid
      ≡ set (vec_items c.self.inside.passes) c.place_of-place.result c.get-found.new.self
  now = set_back (arc_value c.self.inside.map).splits (vec_items c.self.inside.passes)
      (vec_items c.lift_at-pass.new.laid) (vec_items c.lay_at.new.laid) c.place_of-place.result
      (vec_len c.self.inside.passes) (vec_len c.lift_at-pass.new.laid) (vec_len c.lay_at.new.laid)
      c.lift_at-pass.result c.get-found.new.self c.self.invariant.0.sharding_is within
      c.self.inside.passes.ok.0 c.lift_at-pass.ensures.left c.lift_at-pass.ensures.len
      c.lay_at.ensures.len c.lay_at.new.laid.ok.0 c.lay_at.ensures.back

  routes : (S : Known → Known → Type 0) → S c.lift_at-pass.result c.get-found.new.self
      → Routes c.args.key.now S c.args.self.now.sharding
      (sharding (arc_value c.self.inside.map).splits (vec_items c.lay_at.new.laid))
  routes S step =
      let splits : List (List ℕ) = (arc_value c.self.inside.map).splits in
      let zs : List Known = vec_items c.lay_at.new.laid in
      subst (λ (w : Whole). Routes c.args.key.now S w.sharding (sharding splits zs))
      c.self.view_is
      (routed splits c.args.key.now S (vec_items c.self.inside.passes) zs c.place_of-place.result
      c.lift_at-pass.result c.get-found.new.self c.self.invariant.0.sharding_is within
      (c.place_of-place.ensures.place ∙ ap (λ (x : List (List ℕ)). place x c.args.key.now) are)
      c.lift_at-pass.ensures.pass now step)

pub invariant_of-self : goal.invariant_of-self
invariant_of-self g c =
    let was = c.self.invariant in
    let looks = c.get-found.ensures.answers.looks in
    let taken = c.lift_at-pass.ensures.len in
    let back = c.lay_at.ensures.len in
    let room = was.2 in
    let versions = was.3 in
    let found = was.4 in (
      reader_routed (arc_value c.self.inside.map) (vec_items c.self.inside.checks.versions)
          c.self.inside.checks.number (vec_items c.self.inside.passes)
          (vec_items c.lay_at.new.laid) c.self.inside.directory c.place_of-place.result
          c.lift_at-pass.result c.get-found.new.self was.0 (within g c)
          c.lift_at-pass.ensures.pass (now g c) (looks.same.0, looks.later),
      was.1,
      omega (arith, taken, back, room),
      omega (arith, taken, back, versions),
      omega (arith, taken, back, found),
    )

pub returns : goal.returns
returns g c =
    let question : Format → List Pair → _ = λ f m. map_get m c.args.key.now in
    record {
      answers = routes g c (λ x y. Answers question x c.get-found.result y)
          c.get-found.ensures.answers;
      once = routes g c (λ x y. y.asked ≡ x.asked + 1) c.get-found.ensures.once;
      directory = ap (λ (w : Whole). w.directory) c.self.view_is;
    }

pub lift_at-pass-requires-clause-own : goal.lift_at-pass-requires-clause-own
lift_at-pass-requires-clause-own g c =
    let are : c.stores.result.now ≡ (arc_value c.self.inside.map).stores = search rules in
    subst (λ (l : List StoreId). AreOf l (vec_items c.self.inside.passes)) (sym are)
    c.self.invariant.0.own
