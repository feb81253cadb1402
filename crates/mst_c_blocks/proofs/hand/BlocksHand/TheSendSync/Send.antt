-- A hand may go to another thread, as its box may.
use mir.Raw.{raw}
use base.Shift.{Keyless}
use denote.Memory.{lone}
use denote.RawPtr.{Ptr}
use denote.Struct.Struct.{exits_of}
use denote.Struct.Owning.{shape, fields, to}
use denote.Param.Send.{IsSend, AllSend, owning_send, struct_send, sendable}
use Rattle.mst_c_blocks.proofs.Names.{None, Some, HeldNow, hand_owns}
use Rattle.std.specs.Global.{Global}
use Rattle.std.proofs.Crossing as heap
use Rattle.std_alloc.proofs.SendSync.{quiet, lies}
use Rattle.std_heap.proofs.Global.TheSendSync as handle
use Rattle.mst_c_blocks.specs.contracts.role_box.RoleBox as RoleBox
use Rattle.mst_c_blocks.proofs.Sent.{box_send}
use Rattle.mst_c_blocks.specs.contracts.hand.BlocksHand.{the_row, the_type}

owned : (a : Global) (p : Ptr) (h : HeldNow) → Keyless (hand_owns a p h)
owned a p None = tt
owned a p (Some x) =
    (lies RoleBox.the_row box_send p x, heap.frees.frees a (raw (lone RoleBox.the_row.mir)) p)

pub send : IsSend the_row
send =
    let all : AllSend (fields the_type) = (search sendable, (handle.the_field_send, tt)) in
    owning_send the_type all (λ d. owned d.alloc d.ptr d.held)
    (λ k. quiet (to the_type) (exits_of k (fields the_type))
    ((struct_send (shape the_type) all).leaving k))
