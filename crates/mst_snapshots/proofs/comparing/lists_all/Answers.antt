use Rattle.mst_snapshots.proofs.Names.{◌≡◌, ◌+◌, ◌<◌, ◌≤◌, ℕ, List, length, vec_items, rules, arith, refl, sym, ◌∙◌, subst, after, map_next, Known, shard_at, sharding, IsSharding, Agrees, AreClean, low_before, pass_at}
use Rattle.mst_snapshots.proofs.Matching.{agree_next, all_agree, one_differs, one_more}
use Rattle.mst_snapshots.proofs.Staying.{there_is, own_still}
use Rattle.mst_snapshots.proofs.comparing.lists_all.Goals as goal

pub loop-place-init : goal.loop-place-init
loop-place-init g c =
    (refl, c.format-format.ensures.same, λ k low. absurd (omega (arith, low)), omega arith)

pub agrees_at-agree-requires-clause-there : goal.agrees_at-agree-requires-clause-there
agrees_at-agree-requires-clause-there g c =
    there_is c.args.splits.now (vec_items c.args.pins.now) (vec_items c.loop-place.pins)
    c.loop-place.place _ c.requires.sharding c.loop-place.invariant.0 c.loop-place.pins.ok.0
    (search rules)

pub agrees_at-agree-requires-clause-sharding : goal.agrees_at-agree-requires-clause-sharding
agrees_at-agree-requires-clause-sharding g c =
    subst (λ (qs : List Known). IsSharding (sharding c.args.splits.now qs))
    (sym c.loop-place.invariant.0) c.requires.sharding

pub agrees_at-agree-requires-clause-own : goal.agrees_at-agree-requires-clause-own
agrees_at-agree-requires-clause-own g c =
    own_still c.args.stores.now (vec_items c.args.pins.now) (vec_items c.loop-place.pins)
    c.loop-place.invariant.0 c.requires.own

pub agrees_at-agree-requires-clause-clean : goal.agrees_at-agree-requires-clause-clean
agrees_at-agree-requires-clause-clean g c =
    subst (λ (qs : List Known). AreClean c.args.splits.now c.args.clean.now qs)
    (sym c.loop-place.invariant.0) c.requires.clean

pub loop-place-preserved : goal.loop-place-preserved
loop-place-preserved g c =
    let was = c.loop-place.invariant in
    let ps : List Known = vec_items c.args.pins.now in
    let d : Known = c.args.directory.now in
    let n : ℕ = c.loop-place.place in
    let more : c.loop-place.place ≤ length c.args.splits.now = search rules in (
      c.agrees_at-agree.ensures.same ∙ was.0,
      c.entry_at-found.ensures.same ∙ was.1,
      agree_next c.format-format.result c.args.splits.now ps d n c.entry_at-found.result was.2
          (subst (λ (x : Known). c.entry_at-found.result
          ≡ map_next (after x.seen) (low_before c.args.splits.now n)) was.1
          c.entry_at-found.ensures.found)
          (subst (λ (qs : List Known). Agrees c.format-format.result
          (shard_at c.args.splits.now n) (pass_at qs n) c.entry_at-found.result) was.0
          (c.agrees_at-agree.ensures.yes (search rules))),
      omega (arith, more),
    )

pub returns-then-not-agree-clause-no : goal.returns-then-not-agree-clause-no
returns-then-not-agree-clause-no g c = λ is.
    let was = c.loop-place.invariant in
    let ps : List Known = vec_items c.args.pins.now in
    let d : Known = c.args.directory.now in
    let n : ℕ = c.loop-place.place in
    one_differs c.format-format.result c.args.splits.now ps d n c.entry_at-found.result
    c.format-format.ensures.found was.2 (search rules)
    (subst (λ (x : Known). c.entry_at-found.result
    ≡ map_next (after x.seen) (low_before c.args.splits.now n)) was.1
    c.entry_at-found.ensures.found)
    (subst (λ (qs : List Known). Agrees c.format-format.result
    (shard_at c.args.splits.now n) (pass_at qs n) c.entry_at-found.result → ⊥) was.0
    (c.agrees_at-agree.ensures.no (search rules)))

pub returns-in-None-clause-yes : goal.returns-in-None-clause-yes
returns-in-None-clause-yes g c = λ is.
    let was = c.loop-place.invariant in
    let ps : List Known = vec_items c.args.pins.now in
    let d : Known = c.args.directory.now in
    let n : ℕ = c.loop-place.place in
    let past : length c.args.splits.now < c.loop-place.place = search rules in
    let within = was.3 in
    let end : n ≡ length c.args.splits.now + 1 = omega (arith, past, within) in
    all_agree c.format-format.result c.args.splits.now ps d n c.entry_at.result
    c.requires.sharding c.requires.maps c.requires.few c.format-format.ensures.found was.2 end
    (subst (λ (j : ℕ). c.entry_at.result ≡ map_next (after d.seen) (low_before c.args.splits.now j))
    (sym end) (subst (λ (x : Known). c.entry_at.result
    ≡ map_next (after x.seen) (low_before c.args.splits.now (length c.args.splits.now + 1))) was.1
    c.entry_at.ensures.found)) c.in-None.is

pub returns-in-Some-clause-no : goal.returns-in-Some-clause-no
returns-in-Some-clause-no g c = λ is.
    let was = c.loop-place.invariant in
    let ps : List Known = vec_items c.args.pins.now in
    let d : Known = c.args.directory.now in
    let n : ℕ = c.loop-place.place in
    let past : length c.args.splits.now < c.loop-place.place = search rules in
    let within = was.3 in
    let end : n ≡ length c.args.splits.now + 1 = omega (arith, past, within) in
    one_more c.format-format.result c.args.splits.now ps d n c.entry_at.result _ was.2 end
    (subst (λ (j : ℕ). c.entry_at.result ≡ map_next (after d.seen) (low_before c.args.splits.now j))
    (sym end) (subst (λ (x : Known). c.entry_at.result
    ≡ map_next (after x.seen) (low_before c.args.splits.now (length c.args.splits.now + 1))) was.1
    c.entry_at.ensures.found)) c.in-Some.is
