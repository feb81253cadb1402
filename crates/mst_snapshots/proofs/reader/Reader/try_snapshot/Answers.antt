use Rattle.mst_snapshots.proofs.Names.{◌≡◌, ℕ, List, vec_items, vec_len, vec_capacity, rules, sym, ap, subst, arith, ◌∙◌, arc_value, Known, StoreId, Whole, whole, IsOneBlock, AreOf, Shards, PinsWhole, IsReader, IsSnapshot}
use Rattle.mst_snapshots.proofs.Staying.{as_long}
use Rattle.mst_snapshots.proofs.Tried.{pinned_reader, as_many_pins, whole_as, tried, failed, pinned_as}
use Rattle.mst_snapshots.proofs.reader.Reader.try_snapshot.Goals as goal

pub is_one_block-listing-requires-clause-reader : goal.is_one_block-listing-requires-clause-reader
is_one_block-listing-requires-clause-reader g c =
    let deref : c.deref-3.result.now ≡ arc_value c.self.inside.map = search rules in
    let vs : List ℕ = vec_items c.self.inside.checks.versions in
    let n : ℕ = c.self.inside.checks.number in
    let qs : List Known = vec_items c.pin_shards-pins.result.0 in
    let e : Known = c.pin_directory-listing.result.0 in
    subst (λ (s : Shards). IsReader s vs n (whole s.splits qs e)) (sym deref)
    (pinned_reader (arc_value c.self.inside.map) vs n (vec_items c.self.inside.passes) qs
    c.self.inside.directory e c.self.invariant.0 c.pin_shards-pins.ensures.pins
    c.pin_directory-listing.ensures.pin)

-- ---- a snapshot

pub invariant_of-result : goal.invariant_of-result
invariant_of-result g c =
    let was = c.self.invariant in
    let s : Shards = arc_value c.self.inside.map in
    let deref : c.deref-3.result.now ≡ arc_value c.self.inside.map = search rules in
    let qs : List Known = vec_items c.pin_shards-pins.result.0 in
    let zs : List Known = vec_items c.is_one_block-listing.new.pins in
    let e : Known = c.pin_directory-listing.result.0 in
    let m : ℕ = c.pin_directory-listing.result.1 in
    let one = subst (λ (x : Shards). IsOneBlock (whole x.splits qs e)) deref
    (c.is_one_block-listing.ensures.yes c.if-one.true) in
    let made = tried s (vec_items c.self.inside.checks.versions)
    (vec_items c.pin_shards-pins.new.versions) c.self.inside.checks.number m
    (vec_items c.self.inside.passes) qs zs c.self.inside.directory e c.of.result was.0
    c.pin_shards-pins.ensures.pins c.pin_directory-listing.ensures.pin
    c.pin_shards-pins.ensures.versions c.pin_directory-listing.ensures.version one
    c.is_one_block-listing.ensures.pins
    (c.of.ensures.same ∙ c.is_one_block-listing.ensures.same) in
    let many = as_many_pins (vec_len c.self.inside.passes) (vec_len c.pin_shards-pins.result.0)
    (vec_items c.self.inside.passes) qs c.self.inside.passes.ok.0 c.pin_shards-pins.result.0.ok.0
    c.pin_shards-pins.ensures.pins in
    let same = as_long (vec_len c.pin_shards-pins.result.0)
    (vec_len c.is_one_block-listing.new.pins) qs zs c.pin_shards-pins.result.0.ok.0
    c.is_one_block-listing.new.pins.ok.0 c.is_one_block-listing.ensures.pins in
    let room = c.pin_shards-pins.ensures.room in
    let kept = c.pin_shards-pins.ensures.kept in
    let cleared = c.clear.ensures.capacity in
    let versions = was.3 in
    let found = was.4 in
    let versions_room : vec_capacity c.noted.result.versions
    ≡ vec_capacity c.pin_shards-pins.new.versions =
    ap (λ v. vec_capacity v) c.noted.ensures.versions in
    let found_room : vec_capacity c.noted.result.found
    ≡ vec_capacity c.self.inside.checks.versions =
    ap (λ v. vec_capacity v) c.noted.ensures.found in (
      subst (λ (k : ℕ). IsSnapshot s (vec_items c.noted.result.versions) k
          (whole s.splits zs c.of.result)) (sym c.noted.ensures.number)
          (subst (λ (vs : List ℕ). IsSnapshot s vs m (whole s.splits zs c.of.result))
          (sym (ap (λ v. vec_items v) c.noted.ensures.versions)) made),
      c.pin_shards-pins.ensures.empty,
      omega (arith, same, room),
      omega (arith, same, many, versions_room, kept, cleared, found),
      omega (arith, same, many, found_room, versions),
    )

pub returns-then-one-clause-ok : goal.returns-then-one-clause-ok
returns-then-one-clause-ok g c =
    let s : Shards = arc_value c.self.inside.map in
    let zs : List Known = vec_items c.is_one_block-listing.new.pins in
    subst (λ (w : Whole). PinsWhole w (whole s.splits zs c.of.result)) c.self.view_is
    (pinned_as s.splits (vec_items c.self.inside.passes) (vec_items c.pin_shards-pins.result.0) zs
    c.self.inside.directory c.pin_directory-listing.result.0 c.of.result
    c.pin_shards-pins.ensures.pins c.pin_directory-listing.ensures.pin
    c.is_one_block-listing.ensures.pins
    (c.of.ensures.same ∙ c.is_one_block-listing.ensures.same))

pub returns-then-one-clause-one : goal.returns-then-one-clause-one
returns-then-one-clause-one g c =
    let s : Shards = arc_value c.self.inside.map in
    let deref : c.deref-3.result.now ≡ arc_value c.self.inside.map = search rules in
    let qs : List Known = vec_items c.pin_shards-pins.result.0 in
    let e : Known = c.pin_directory-listing.result.0 in
    subst IsOneBlock (sym (whole_as s.splits qs (vec_items c.is_one_block-listing.new.pins) e
    c.of.result c.is_one_block-listing.ensures.pins
    (c.of.ensures.same ∙ c.is_one_block-listing.ensures.same)))
    (subst (λ (x : Shards). IsOneBlock (whole x.splits qs e)) deref
    (c.is_one_block-listing.ensures.yes c.if-one.true))

-- ---- the reader again

pub unpin_laid-passes-requires-clause-own : goal.unpin_laid-passes-requires-clause-own
unpin_laid-passes-requires-clause-own g c =
    let are : c.stores-else-one.result.now ≡ (arc_value c.self.inside.map).stores = search rules in
    let s : Shards = arc_value c.self.inside.map in
    let now = pinned_reader s (vec_items c.self.inside.checks.versions) c.self.inside.checks.number
    (vec_items c.self.inside.passes) (vec_items c.pin_shards-pins.result.0)
    c.self.inside.directory c.pin_directory-listing.result.0 c.self.invariant.0
    c.pin_shards-pins.ensures.pins c.pin_directory-listing.ensures.pin in
    subst (λ (l : List StoreId). AreOf l (vec_items c.is_one_block-listing.new.pins)) (sym are)
    (subst (λ (x : List Known). AreOf s.stores x) (sym c.is_one_block-listing.ensures.pins) now.own)

pub unpin_directory-directory-requires : goal.unpin_directory-directory-requires
unpin_directory-directory-requires g c =
    let are : c.directory-else-one.result.now ≡ (arc_value c.self.inside.map).directory =
    search rules in
    record {
      own = ap (λ (p : Known). p.store) c.is_one_block-listing.ensures.same
          ∙ c.pin_directory-listing.ensures.pin.0.same.0 ∙ c.self.invariant.0.directory ∙ sym are;
    }

pub invariant_of-result-else-one : goal.invariant_of-result-else-one
invariant_of-result-else-one g c =
    let was = c.self.invariant in
    let s : Shards = arc_value c.self.inside.map in
    let qs : List Known = vec_items c.pin_shards-pins.result.0 in
    let zs : List Known = vec_items c.unpin_laid-passes.result.0 in
    let back = c.unpin_laid-passes.ensures.same ∙ c.is_one_block-listing.ensures.pins in
    let many = as_many_pins (vec_len c.self.inside.passes) (vec_len c.pin_shards-pins.result.0)
    (vec_items c.self.inside.passes) qs c.self.inside.passes.ok.0 c.pin_shards-pins.result.0.ok.0
    c.pin_shards-pins.ensures.pins in
    let same = as_long (vec_len c.pin_shards-pins.result.0) (vec_len c.unpin_laid-passes.result.0)
    qs zs c.pin_shards-pins.result.0.ok.0 c.unpin_laid-passes.result.0.ok.0 back in
    let kept = c.pin_shards-pins.ensures.kept in
    let cleared = c.clear.ensures.capacity in
    let versions = was.3 in
    let found = was.4 in (
      failed s (vec_items c.self.inside.checks.versions) c.self.inside.checks.number
          (vec_items c.self.inside.passes) qs zs c.self.inside.directory
          c.pin_directory-listing.result.0 c.unpin_directory-directory.result was.0
          c.pin_shards-pins.ensures.pins c.pin_directory-listing.ensures.pin back
          (c.unpin_directory-directory.ensures.same ∙ c.is_one_block-listing.ensures.same),
      c.unpin_laid-passes.ensures.empty,
      c.unpin_laid-passes.ensures.room,
      omega (arith, same, many, versions),
      omega (arith, same, many, kept, cleared, found),
    )

pub returns-else-one-clause-err : goal.returns-else-one-clause-err
returns-else-one-clause-err g c =
    let s : Shards = arc_value c.self.inside.map in
    let zs : List Known = vec_items c.unpin_laid-passes.result.0 in
    subst (λ (w : Whole). PinsWhole w (whole s.splits zs c.unpin_directory-directory.result))
    c.self.view_is
    (pinned_as s.splits (vec_items c.self.inside.passes) (vec_items c.pin_shards-pins.result.0) zs
    c.self.inside.directory c.pin_directory-listing.result.0 c.unpin_directory-directory.result
    c.pin_shards-pins.ensures.pins c.pin_directory-listing.ensures.pin
    (c.unpin_laid-passes.ensures.same ∙ c.is_one_block-listing.ensures.pins)
    (c.unpin_directory-directory.ensures.same ∙ c.is_one_block-listing.ensures.same))

pub returns-else-one-clause-moving : goal.returns-else-one-clause-moving
returns-else-one-clause-moving g c =
    let s : Shards = arc_value c.self.inside.map in
    let deref : c.deref-3.result.now ≡ arc_value c.self.inside.map = search rules in
    let qs : List Known = vec_items c.pin_shards-pins.result.0 in
    let e : Known = c.pin_directory-listing.result.0 in
    subst (λ (w : Whole). IsOneBlock w → ⊥) (sym (whole_as s.splits qs
    (vec_items c.unpin_laid-passes.result.0) e c.unpin_directory-directory.result
    (c.unpin_laid-passes.ensures.same ∙ c.is_one_block-listing.ensures.pins)
    (c.unpin_directory-directory.ensures.same ∙ c.is_one_block-listing.ensures.same)))
    (subst (λ (x : Shards). IsOneBlock (whole x.splits qs e) → ⊥) deref
    (c.is_one_block-listing.ensures.no c.if-one.false))
