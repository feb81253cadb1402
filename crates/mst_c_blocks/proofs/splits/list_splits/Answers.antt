use Rattle.mst_c_blocks.proofs.Names.{rules, ◌≡◌, ◌<◌, ◌++◌, List, ℕ, length, sym, subst, ap, ◌∙◌, splits_bytes}
use Rattle.mst_c_blocks.proofs.SplitPacking.{packs_none, packs_more, packs_these}
use Rattle.mst_c_blocks.proofs.splits.list_splits.Goals as goal

-- a key stands next
pub unreachable-requires : goal.unreachable-requires
unreachable-requires c =
    let some : 0 < length c.loop-rest.rest.now = search rules in
    let packs = c.requires.packs in
    packs_none c.args.packed.now c.loop-rest.list.items c.loop-rest.rest.now c.loop-rest.invariant
    some c.in_default.ensures.none packs.0 packs.1

-- the next key is one more
pub loop-rest-preserved : goal.loop-rest-preserved
loop-rest-preserved c =
    let before : List (List ℕ) = c.loop-rest.list.items in
    subst (λ (ks : List (List ℕ)). c.args.packed.now ≡ splits_bytes ks ++ c.in-Some.behind.now)
    (sym c.in_ok-push.ensures.items)
    (c.loop-rest.invariant
    ∙ ap (λ (bytes : List ℕ). splits_bytes before ++ bytes) c.in-Some.ensures.some
    ∙ sym (packs_more before c.in-Some.key c.in-Some.behind.now))

-- no byte is left
pub returns : goal.returns
returns c =
    let none : length c.loop-rest.rest.now ≡ 0 = search rules in
    record {
      splits = packs_these c.args.packed.now c.loop-rest.list.items c.loop-rest.rest.now none
          c.loop-rest.invariant c.requires.packs;
    }
