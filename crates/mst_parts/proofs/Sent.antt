-- The parts of a block, and the block, may go to another thread.
use Rattle.mst_parts.proofs.Names.{◌≡◌, ℕ, ◌<◌, List, [], ◌∷◌, length, get_or, refl, ap, ◌∙◌, arith}
use Rattle.std.proofs.Common.{suc}
use denote.RattleType.{RattleType}
use denote.Param.Send.{IsSend, IsSync, Frees, sendable, view_send}
use denote.Param.SendFields.{declared_send, as_row_send}
use Rattle.std.specs.declared.alloc.Allocator.{Ghosts}
use Rattle.std.specs.contracts.snapshot.Snapshot as Snapshot
use Rattle.mst_store.specs.contracts.laid.Laid as Laid
use Rattle.mst_blocks.specs.contracts.blocks.Part as Part
use Rattle.mst_parts.specs.contracts.part.Work as Work
use Rattle.mst_parts.specs.contracts.part.BlockPart as BlockPart
use Rattle.mst_blocks.specs.contracts.held.Held as Held
use Rattle.mst_parts.specs.contracts.block.Block as Block
use Rattle.mst_parts.proofs.part.Work.TheSendSync as work
use Rattle.mst_blocks.proofs.held.Held.TheSendSync as held
use Rattle.std.specs.contracts.vec.Vec as Vec

snapshot_send : (T : RattleType) → IsSend (Snapshot.the_field T).row
snapshot_send T = search sendable depth 20

module _ (A : RattleType) (g : Ghosts A.Denot) where
  fields_send : IsSend A → IsSync A → Frees g g.dealloc_token
      → IsSend (BlockPart.TheInside.the_row A g)
  fields_send s y f =
      let work_sent = as_row_send (Work.the_field A g) (work.the_field_send A g s y f) in
      let pass_sent = as_row_send (Snapshot.the_field (Laid.the_row A g))
      (snapshot_send (Laid.the_row A g)) in
      let edits_sent = as_row_send (Snapshot.the_field (Part.the_row A g))
      (snapshot_send (Part.the_row A g)) in
      declared_send (BlockPart.TheInside.the_type A g) (work_sent, (pass_sent, (edits_sent, tt)))

  pub part_send : IsSend A → IsSync A → Frees g g.dealloc_token → IsSend (BlockPart.the_row A g)
  part_send s y f =
      view_send (BlockPart.TheInside.the_row A g) _ _ _ _ (fields_send s y f)

  block_fields_send : IsSend A → IsSync A → Frees g g.dealloc_token
      → IsSend (Block.TheInside.the_row A g)
  block_fields_send s y f =
      let held_sent = as_row_send (Held.the_field A g) (held.the_field_send A g s y f) in
      let parts = Vec.the_row (BlockPart.the_row A g) A g in
      let parts_sent = as_row_send (Snapshot.the_field parts) (snapshot_send parts) in
      declared_send (Block.TheInside.the_type A g) (held_sent, (parts_sent, tt))

  pub block_send : IsSend A → IsSync A → Frees g g.dealloc_token → IsSend (Block.the_row A g)
  block_send s y f =
      view_send (Block.TheInside.the_row A g) _ _ _ _ (block_fields_send s y f)

-- each element stays
pub kept_each : {X : Type 0} (xs ys : List X) → length ys ≡ length xs
    → ((i : ℕ) (d : X) → i < length xs → get_or ys i d ≡ get_or xs i d) → ys ≡ xs
kept_each [] [] same each = refl
kept_each [] (y ∷ ys) same each = absurd (omega (arith, same))
kept_each (x ∷ xs) [] same each = absurd (omega (arith, same))
kept_each (x ∷ xs) (y ∷ ys) same each =
    let first : y ≡ x = each 0 x (omega arith) in
    let rest : ys ≡ xs = kept_each xs ys (omega (arith, same))
    (λ i d at. each (suc i) d (omega (arith, at))) in
    ap (λ t. y ∷ t) rest ∙ ap (λ h. h ∷ xs) first
