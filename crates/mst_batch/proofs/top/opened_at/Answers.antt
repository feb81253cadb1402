use Rattle.mst_batch.proofs.Names.{◌≡◌, ℕ, ◌+◌, ◌<◌, zero, suc, List, [], ◌∷◌, ◌++◌, length, take, get_or, sym, ◌∙◌, ap, subst, arith, AllByRecursion, flat_map, take_more, take_all, Item, IsItem, IsStanding, opened}
use Rattle.std.proofs.lemmas.List.{flat_map_more}
use Rattle.mst_batch.proofs.top.opened_at.Goals as goal

-- what holds of each item holds of that at a place
holds_at : (P : Item → Type 0) (xs : List Item) (i : ℕ) (x : Item) → AllByRecursion P xs
    → i < length xs → x ≡ get_or xs i x → P x
holds_at P [] i x all lt is = absurd (omega arith)
holds_at P (y ∷ ys) zero x all lt is = subst P (sym is) all.0
holds_at P (y ∷ ys) (suc i) x all lt is = holds_at P ys i x all.1 (omega arith) is

one_more : (f : Item → List Item) (xs : List Item) (i : ℕ) (x : Item) → i < length xs
    → x ≡ get_or xs i x → flat_map f (take i xs) ++ f x ≡ flat_map f (take (i + 1) xs)
one_more f xs i x lt is = flat_map_more f [] (take i xs) x
    ∙ ap (flat_map f)
    (sym (take_more xs i x lt ∙ ap (λ (y : Item). take i xs ++ y ∷ []) (sym is)))

pub push_opened-requires : goal.push_opened-requires
push_opened-requires g c =
    let z = c.requires.items in
    record {
      item = (
        z.0,
        z.1,
        subst (λ x. IsStanding z.0 x z.1) (sym (ap g.R.Rows.content c.loop-item.invariant.same))
            z.2,
        holds_at (IsItem z.0 z.1) c.args.items.now c.loop-item.item-index c.item-item.result z.3
            c.loop-item-test.true c.item-item.is,
      );
    }

pub loop-item-preserved : goal.loop-item-preserved
loop-item-preserved g c = record {
  same = c.push_opened.ensures.same ∙ c.loop-item.invariant.same;
  items = λ format whole stands each.
      let xs = c.args.items.now in
      let i = c.loop-item.item-index in
      let f = opened whole c.args.layer in
      let x = c.item-item.result in
      c.in_ok-push_opened.ensures.items format whole
      (subst (λ y. IsStanding format y whole)
      (sym (ap g.R.Rows.content c.loop-item.invariant.same)) stands)
      (holds_at (IsItem format whole) xs i x each c.loop-item-test.true c.item-item.is)
      ∙ ap (λ (ys : List Item). ys ++ f x) (c.loop-item.invariant.items format whole stands each)
      ∙ one_more f xs i x c.loop-item-test.true c.item-item.is;
}

pub returns-clause-items : goal.returns-clause-items
returns-clause-items g c format whole stands each =
    c.loop-item.invariant.items format whole stands each
    ∙ ap (flat_map (opened whole c.args.layer))
    (take_all c.loop-item.item-index c.args.items.now (omega arith))
