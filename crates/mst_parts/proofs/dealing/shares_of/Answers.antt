use Rattle.mst_parts.proofs.Names.{◌≡◌, ◌∷◌, [], length, vec_items, sym, ap, subst, arith, arc_value, AllByRecursion}
use Rattle.mst_key.proofs.Alls.{alls-append}
use Rattle.mst_parts.proofs.dealing.shares_of.Goals as goal

pub loop-place-init : goal.loop-place-init
loop-place-init g c =
    let none = c.in_ok-shares.ensures.empty in
    let len = c.in_ok-shares.shares.ok.0 in
    let zero_is = ap (λ l. length l) none in (
      omega (arith, len, zero_is),
      c.in_ok-shares.ensures.room,
      subst (AllByRecursion (λ share. arc_value share ≡ arc_value c.args.map.now)) (sym none) tt,
    )

pub loop-place-preserved : goal.loop-place-preserved
loop-place-preserved g c =
    let was = c.loop-place.invariant in
    let long = was.0 in
    let room = was.1 in
    let len = c.push_reserved.ensures.len in
    let cap = c.push_reserved.ensures.capacity in (
      omega (arith, long, len),
      omega (arith, room, cap),
      subst (AllByRecursion (λ share. arc_value share ≡ arc_value c.args.map.now))
          (sym c.push_reserved.ensures.items)
          (alls-append (λ share. arc_value share ≡ arc_value c.args.map.now)
          (vec_items c.loop-place.shares) (c.in_ok-share.share ∷ []) was.2
          (c.in_ok-share.ensures, tt)),
    )

pub returns-clause-same : goal.returns-clause-same
returns-clause-same g c = c.loop-place.invariant.2

pub returns-clause-count : goal.returns-clause-count
returns-clause-count g c = let long = c.loop-place.invariant.0 in omega (arith, long)
