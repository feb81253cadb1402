use Rattle.mst_arena.proofs.Names.{◌+◌, ◌∙◌, ap, map, length, rules, arith, undone_life}
use Rattle.std.proofs.lemmas.List.{length-map}
use Rattle.mst_arena.proofs.DeskLemmas.{read_index}
use Rattle.mst_arena.proofs.SetLemmas.{written}
use Rattle.mst_arena.proofs.UndoLemmas.{desk_undone}
use Rattle.mst_arena.proofs.desk.Desk.undo.Goals as goal

pub overflow_add-next : goal.overflow_add-next
overflow_add-next g c =
    let i = c.self.inside in
    omega (
      arith,
      c.self.invariant.small,
      read_index i.versions.items i.current c.index.result.now c.self.invariant.there
          c.index.ensures,
    )

pub invariant_of-self : goal.invariant_of-self
invariant_of-self g c =
    let i = c.self.inside in
    let n = c.index.result.now + 1 in
    let undone = c.undo_all.ensures.undone ∙ ap (map (undone_life n)) c.deref_mut.ensures.value in
    let lives = written i.lives.len c.undo_all.new.lives i.lives.items
    (omega (
      arith,
      ap length undone ∙ length-map i.lives.items (undone_life n),
      c.deref_mut.ensures.len,
      ap length c.deref_mut.ensures.value,
    )) in
    rw lives
    (desk_undone _ _ _ _ _ _ _ _ _ _ _ _ c.self.invariant n _ _ _ _ _ _ undone
    c.undo_all.ensures.free c.undo_all.ensures.dead (search rules) (search rules) (search rules))
