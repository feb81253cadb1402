use Rattle.mst_snapshots.proofs.Names.{◌≡◌, List, ℕ, vec_items, rules, sym, ap, subst, arith, ◌∙◌, arc_value, Known, StoreId, whole, AreOf, IsReader}
use Rattle.mst_snapshots.proofs.Kept.{released}
use Rattle.mst_snapshots.proofs.Staying.{as_long}
use Rattle.mst_snapshots.proofs.snapshot.Snapshot.release.Goals as goal

pub unpin_laid-passes-requires-clause-own : goal.unpin_laid-passes-requires-clause-own
unpin_laid-passes-requires-clause-own g c =
    let are : c.stores.result.now ≡ (arc_value c.self.inside.map).stores = search rules in
    subst (λ (l : List StoreId). AreOf l (vec_items c.self.inside.pins)) (sym are)
    c.self.invariant.0.own

pub unpin_directory-directory-requires : goal.unpin_directory-directory-requires
unpin_directory-directory-requires g c =
    let are : c.directory.result.now ≡ (arc_value c.self.inside.map).directory = search rules in
    record {
      own = ap (λ (p : Known). p.store) c.into_laid.ensures.same ∙ c.self.invariant.0.directory
          ∙ sym are;
    }

pub invariant_of-result : goal.invariant_of-result
invariant_of-result g c =
    let was = c.self.invariant in
    let ps : List Known = vec_items c.self.inside.pins in
    let s = arc_value c.self.inside.map in
    let vs : List ℕ = vec_items c.self.inside.checks.versions in
    let n : ℕ = c.self.inside.checks.number in
    let same = as_long _ _ ps (vec_items c.unpin_laid-passes.result.0) c.self.inside.pins.ok.0
    c.unpin_laid-passes.result.0.ok.0 c.unpin_laid-passes.ensures.same in
    let versions = was.3 in
    let found = was.4 in
    let directory = c.unpin_directory-directory.ensures.same ∙ c.into_laid.ensures.same in (
      subst (λ (d : Known). IsReader s vs n
          (whole s.splits (vec_items c.unpin_laid-passes.result.0) d))
          (sym directory)
          (subst (λ (x : List Known). IsReader s vs n (whole s.splits x c.self.inside.directory))
          (sym c.unpin_laid-passes.ensures.same)
          (released s vs n (whole s.splits ps c.self.inside.directory) was.0)),
      c.unpin_laid-passes.ensures.empty,
      c.unpin_laid-passes.ensures.room,
      omega (arith, same, versions),
      omega (arith, same, found),
    )

pub returns : goal.returns
returns g c =
    let s = arc_value c.self.inside.map in
    record {
      same = ap (λ (x : List Known). whole s.splits x c.unpin_directory-directory.result)
          c.unpin_laid-passes.ensures.same
          ∙ ap (λ (d : Known). whole s.splits (vec_items c.self.inside.pins) d)
          (c.unpin_directory-directory.ensures.same ∙ c.into_laid.ensures.same)
          ∙ c.self.view_is;
    }
