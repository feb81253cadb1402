use Rattle.mst_script.proofs.Names.{◌≡◌, ◌++◌, [], arith, rules, ap, ◌∙◌, subst, append-nil, IsPermutation, IsPermutation-refl, Roster, roster, everyone}
use Rattle.mst_script.proofs.Finding.{one_freed}
use Rattle.mst_script.proofs.passes.Passes.unpin_all.Goals as goal

pub loop-pinned-init : goal.loop-pinned-init
loop-pinned-init g c =
    let same : c.args.self.now ≡ roster c.self.inside.free.items c.self.inside.pinned.items =
    search rules in record {
      same = subst (λ (r : Roster). IsPermutation (everyone c.args.self.now) (everyone r)) same
          (IsPermutation-refl (everyone c.args.self.now));
      free_room = c.self.invariant.0;
      pinned_room = c.self.invariant.1;
    }

pub push_reserved-requires : goal.push_reserved-requires
push_reserved-requires g c =
    omega (arith, c.loop-pinned.invariant.free_room, c.in-Some.ensures.cases)

pub loop-pinned-smaller : goal.loop-pinned-smaller
loop-pinned-smaller g c = omega (arith, c.in-Some.ensures.cases)

pub loop-pinned-preserved : goal.loop-pinned-preserved
loop-pinned-preserved g c = let k = c.loop-pinned.invariant in record {
  same = one_freed (everyone c.args.self.now) c.loop-pinned.self-inside.free.items
      c.loop-pinned.self-inside.pinned.items c.push_reserved.new.self.items c.pop.new.self.items
      c.in-Some.pinned c.unpin.result
      k.same c.in-Some.ensures.items c.push_reserved.ensures.items c.unpin.ensures.same;
  free_room =
      omega (
        arith,
        k.free_room,
        c.in-Some.ensures.cases,
        c.push_reserved.ensures.len,
        c.push_reserved.ensures.capacity,
      );
  pinned_room =
      omega (
        arith,
        k.pinned_room,
        c.in-Some.ensures.cases,
        c.push_reserved.ensures.len,
        c.pop.ensures.capacity,
      );
}

pub invariant_of-self : goal.invariant_of-self
invariant_of-self g c = let k = c.loop-pinned.invariant in (
  omega (arith, k.free_room, c.pop.ensures.len),
  omega (arith, k.pinned_room, c.pop.ensures.len, c.pop.ensures.capacity),
)

pub returns : goal.returns
returns g c =
    let none : c.pop.new.self.items ≡ [] = search rules in
    let empty : c.loop-pinned.self-inside.pinned.items ≡ [] = search rules in
    let free = c.loop-pinned.self-inside.free.items in record {
      freed = record {
        none = none;
        same = subst (IsPermutation (everyone c.args.self.now))
            (ap (λ l. free ++ l) empty ∙ append-nil free) c.loop-pinned.invariant.same;
      };
    }
