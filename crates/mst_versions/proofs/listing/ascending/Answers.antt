use Rattle.mst_versions.proofs.Names.{◌≡◌, ◌+◌, ◌<◌, ℕ, List, length, get_or, sym, subst, rules, arith, added}
use Rattle.mst_versions.proofs.Listed.{ListsFirst, lists_none, lists_more, lists_all}
use Rattle.mst_versions.proofs.listing.ascending.Goals as goal

pub loop-version-init : goal.loop-version-init
loop-version-init c = lists_none c.args.found.now c.new-versions.result.items (search rules)

pub put_once-requires : goal.put_once-requires
put_once-requires c = record {
  room = (let few = c.loop-version.invariant.few in let all = c.requires.few in
      omega (arith, few, all));
}

pub loop-version-preserved : goal.loop-version-preserved
loop-version-preserved c =
    let l : List ℕ = c.args.found.now in
    let k : ℕ = c.loop-version.version-index in
    let within : k < length l = omega arith in
    let now : c.put_once.new.versions.items ≡ added c.loop-version.versions.items (get_or l k 0) =
    search rules in
    subst (λ (v : List ℕ). ListsFirst l (k + 1) v) (sym now)
    (lists_more l c.loop-version.versions.items k 0 within c.loop-version.invariant)

pub returns : goal.returns
returns c = record {
  listing = lists_all c.args.found.now c.loop-version.versions.items
      c.put_in_order.new.versions.items c.loop-version.version-index
      (omega (arith, c.loop-version-test.false)) (omega arith) c.loop-version.invariant
      c.put_in_order.ensures.same c.put_in_order.ensures.sorted;
}
