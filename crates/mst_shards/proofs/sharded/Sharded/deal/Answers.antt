use Rattle.mst_shards.proofs.Names.{◌≡◌, ◌∙◌, ◌-◌, ◌≤◌, List, length, vec_items, sym, ap, subst, arith, AllByRecursion, StoreId, Shards, Dealt, IsLot, lot, first_lots}
use Rattle.std.proofs.lemmas.Result.{IfOk-from_err}
use Rattle.mst_shards.proofs.Dealing.{last_dealt, length-first_lots, lot_is, lots_are, shapes_format, shapes_passes}
use Rattle.mst_shards.proofs.sharded.Sharded.deal.Given.{Over}
use Rattle.mst_shards.proofs.sharded.Sharded.deal.Goals.{In-Some}
use Rattle.mst_shards.proofs.sharded.Sharded.deal.Goals as goal

-- ---- there is a lot

pub unreachable-requires : goal.unreachable-requires
unreachable-requires g c =
    let over : StoreId = c.self.inside.directory in
    let long = c.in_ok-lots.lots.ok.0 in
    let are : vec_items c.in_ok-lots.lots
    ≡ first_lots (vec_items c.self.inside.stores) over over.passes =
    c.in_ok-lots.ensures.lots
    ∙ ap (λ (l : List StoreId). first_lots l over over.passes) c.as_slice.ensures.value in
    let same = ap (λ (l : List Dealt). length l) are in
    let count = length-first_lots (vec_items c.self.inside.stores) over over.passes in
    let none = c.in_default.ensures.cases.0 in
    let passes = c.self.invariant.1.directory_shaped.1 in
    let some = c.self.invariant.2.2 in
    omega (arith, long, same, count, none, passes, some)

-- ---- the writer's lot and those of readers

module _ (g : Over) (c : In-Some g) where
  abbrev stores : List StoreId
  stores = vec_items c.self.inside.stores

  abbrev over : StoreId
  over = c.self.inside.directory

  abbrev map_is : Shards
  map_is = record {
    splits = vec_items c.self.inside.splits;
    stores = stores;
    directory = over;
  }

  are : vec_items c.in_ok-lots.lots ≡ first_lots stores over over.passes
  are = c.in_ok-lots.ensures.lots
      ∙ ap (λ (l : List StoreId). first_lots l over over.passes) c.as_slice.ensures.value

  some : 1 ≤ over.passes
  some =
      let same = c.self.invariant.1.directory_shaped.1 in
      let shape = c.self.invariant.2.2 in
      omega (arith, same, shape)

  formats : AllByRecursion (λ (s : StoreId). s.format ≡ over.format) stores
  formats = shapes_format c.self.inside.shape over.format stores
      (sym c.self.invariant.1.directory_shaped.2) c.self.invariant.1.shaped

  dealt : (c.in-Some.lot ≡ lot stores over over.passes)
      × (vec_items c.pop.new.self ≡ first_lots stores over (over.passes - 1))
  dealt = last_dealt stores over over.passes (vec_items c.in_ok-lots.lots)
      (vec_items c.pop.new.self) c.in-Some.lot some are c.in-Some.ensures.items

pub returns-clause-writer : goal.returns-clause-writer
returns-clause-writer g c =
    (dealt g c).0
    ∙ ap (λ (s : Shards). lot s.stores s.directory s.directory.passes) c.self.view_is

pub returns-clause-readers : goal.returns-clause-readers
returns-clause-readers g c =
    (dealt g c).1
    ∙ ap (λ (s : Shards). first_lots s.stores s.directory (s.directory.passes - 1)) c.self.view_is

pub returns-clause-writer_is : goal.returns-clause-writer_is
returns-clause-writer_is g c =
    subst (λ (s : Shards). IsLot s c.in-Some.lot) c.self.view_is
    (subst (λ (x : Dealt). IsLot (map_is g c) x) (sym (dealt g c).0)
    (lot_is (map_is g c) (over g c).passes (formats g c)))

pub returns-clause-readers_are : goal.returns-clause-readers_are
returns-clause-readers_are g c =
    subst (λ (s : Shards). AllByRecursion (IsLot s) (vec_items c.pop.new.self)) c.self.view_is
    (subst (λ (l : List Dealt). AllByRecursion (IsLot (map_is g c)) l) (sym (dealt g c).1)
    (lots_are (map_is g c) ((over g c).passes - 1) (formats g c)))

-- ---- the lots

pub all_lots-requires-clause-passes : goal.all_lots-requires-clause-passes
all_lots-requires-clause-passes g c =
    let passes = c.self.inside.directory.passes in
    subst (λ (l : List StoreId). AllByRecursion (λ s. s.passes ≡ passes) l)
    (sym c.as_slice.ensures.value)
    (shapes_passes c.self.inside.shape passes (vec_items c.self.inside.stores)
    (sym c.self.invariant.1.directory_shaped.1) c.self.invariant.1.shaped)

-- ---- no memory

pub returns-in_err-lots-clause-writer : goal.returns-in_err-lots-clause-writer
returns-in_err-lots-clause-writer g c =
    IfOk-from_err c.from_residual.result _ c.from_residual.ensures.0

pub returns-in_err-lots-clause-readers : goal.returns-in_err-lots-clause-readers
returns-in_err-lots-clause-readers g c =
    IfOk-from_err c.from_residual.result _ c.from_residual.ensures.0

pub returns-in_err-lots-clause-writer_is : goal.returns-in_err-lots-clause-writer_is
returns-in_err-lots-clause-writer_is g c =
    IfOk-from_err c.from_residual.result _ c.from_residual.ensures.0

pub returns-in_err-lots-clause-readers_are : goal.returns-in_err-lots-clause-readers_are
returns-in_err-lots-clause-readers_are g c =
    IfOk-from_err c.from_residual.result _ c.from_residual.ensures.0
