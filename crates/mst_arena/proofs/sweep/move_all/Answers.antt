use Rattle.mst_arena.proofs.Names.{◌≡◌, ◌++◌, ◌∷◌, [], ◌∙◌, ap, arith, times}
use Rattle.mst_arena.proofs.ListLemmas.{times-append}
use Rattle.mst_arena.proofs.sweep.move_all.Goals as goal

pub loop-row-preserved : goal.loop-row-preserved
loop-row-preserved g c =
    let k = c.loop-row.invariant in
    let row = c.in-Some.row in
    let from : c.loop-row.from.items ≡ c.pop.new.self.items ++ row ∷ [] = c.in-Some.ensures.items in
    let to : c.push_reserved.new.self.items ≡ c.loop-row.to.items ++ row ∷ [] =
    c.push_reserved.ensures.items in
    record {
      times =
          λ r. omega (
            arith,
            k.times r,
            ap (times r) from,
            ap (times r) to,
            times-append r
                c.pop.new.self.items (row ∷ []),
            times-append r c.loop-row.to.items (row ∷ []),
          );
      room =
          omega (
            arith,
            k.room,
            c.in-Some.ensures.cases,
            c.push_reserved.ensures.len,
            c.push_reserved.ensures.capacity,
          );
      from_room = c.in-Some.ensures.capacity ∙ k.from_room;
      to_room = c.push_reserved.ensures.capacity ∙ k.to_room;
    }
