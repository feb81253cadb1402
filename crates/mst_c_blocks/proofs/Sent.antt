-- What a hand holds may go to another thread.
use denote.Param.Send.{IsSend, IsSync, Frees, sendable, view_send}
use denote.Param.SendFields.{declared_send, variants_send, as_row_send}
use Rattle.std.specs.contracts.option.Option as Option
use Rattle.core.proofs.option.Option.TheSendSync as option
use Rattle.std.proofs.Crossing as heap
use Rattle.std_heap.specs.contracts.Global as Heap
use Rattle.mst_c_blocks.proofs.Names.{ghosts}
use Rattle.std_heap.proofs.Global.TheSendSync as handle
use Rattle.mst_parts.specs.contracts.block.Block as Block
use Rattle.mst_parts.specs.contracts.part.BlockPart as BlockPart
use Rattle.mst_blocks.specs.contracts.writer.Writer as Writer
use Rattle.mst_parts.proofs.Sent.{part_send, block_send}
use Rattle.mst_blocks.proofs.writer.Writer.TheSendSync as writer
use Rattle.mst_snapshots.specs.contracts.reader.Reader as Reader
use Rattle.mst_snapshots.proofs.reader.Reader.TheSendSync as reader
use Rattle.mst_snapshots.specs.contracts.snapshot.Snapshot as Snapshot
use Rattle.mst_snapshots.proofs.snapshot.Snapshot.TheSendSync as snapshot
use Rattle.mst_slot.specs.contracts.share.Share as Share
use Rattle.mst_slot.specs.contracts.shares.Shares as Shares
use Rattle.mst_slot.proofs.Sent.{share_send, shares_send}
use Rattle.mst_c_blocks.specs.contracts.begun.BegunBlock as BegunBlock
use Rattle.mst_c_blocks.specs.contracts.role_box.Role as Role
use Rattle.mst_c_blocks.specs.contracts.role_box.RoleBox as RoleBox

heap_send : IsSend Heap.the_row
heap_send = handle.the_send

heap_sync : IsSync Heap.the_row
heap_sync = handle.the_sync

frees : Frees ghosts ghosts.dealloc_token
frees = heap.frees

part : IsSend (BlockPart.the_row Heap.the_row ghosts)
part = part_send Heap.the_row ghosts heap_send heap_sync frees

share : IsSend (Share.the_row (BlockPart.the_row Heap.the_row ghosts) Heap.the_row ghosts)
share =
    share_send (BlockPart.the_row Heap.the_row ghosts) Heap.the_row ghosts part heap_send heap_sync
    frees

begun_send : IsSend BegunBlock.the_row
begun_send =
    view_send BegunBlock.TheInside.the_row _ _ _ _
    (declared_send BegunBlock.TheInside.the_type (
      as_row_send (Block.the_field Heap.the_row ghosts)
          (block_send Heap.the_row ghosts heap_send heap_sync frees),
      (
        as_row_send (Shares.the_field (BlockPart.the_row Heap.the_row ghosts) Heap.the_row ghosts)
            (shares_send (BlockPart.the_row Heap.the_row ghosts) Heap.the_row ghosts part heap_send
            heap_sync frees),
        tt,
      ),
    ))

role_send : IsSend Role.the_row
role_send =
    variants_send Role.enum (
      tt,
      (
        (
          as_row_send (Writer.the_field Heap.the_row ghosts)
              (writer.the_send Heap.the_row ghosts heap_send heap_sync frees),
          tt,
        ),
        (
          (
            as_row_send (Reader.the_field Heap.the_row ghosts)
                (reader.the_send Heap.the_row ghosts heap_send heap_sync frees),
            tt,
          ),
          (
            (
              as_row_send (Snapshot.the_field Heap.the_row ghosts)
                  (snapshot.the_send Heap.the_row ghosts heap_send heap_sync frees),
              tt,
            ),
            (
              (as_row_send BegunBlock.the_field begun_send, tt),
              (
                (
                  as_row_send
                      (Option.the_field
                      (Share.the_row (BlockPart.the_row Heap.the_row ghosts) Heap.the_row ghosts))
                      (option.the_field_send
                      (Share.the_row (BlockPart.the_row Heap.the_row ghosts) Heap.the_row ghosts)
                      share),
                  tt,
                ),
                tt,
              ),
            ),
          ),
        ),
      ),
    )

pub box_send : IsSend RoleBox.the_row
box_send =
    view_send RoleBox.TheInside.the_row _ _ _ _
    (declared_send RoleBox.TheInside.the_type
    (role_send, (search sendable, tt)))
