-- What a `BlocksHand` owns: the same as a `Box<RoleBox>`, or nothing at null.
use Rattle.std.specs.Prelude.{Option, Some, None}
use base.Fml.{Fml, feq}
use base.Stored.{Coded}
use Rattle.std.specs.Coded.{coded_option}
use denote.RawPtr.{Ptr, null_ptr}
use Rattle.std.specs.Box.Ownership.{box_owns}
use Rattle.std.specs.Global.{Global}
use Rattle.std.specs.contracts.impls.GlobalAllocator.TheImpl.{ghosts}
use Rattle.mst_c_blocks.specs.contracts.role_box.RoleBox.{the_row}

abbrev pub HeldNow : Type 0
HeldNow = Option the_row.Denot

abbrev pub hand_owns : Global → Ptr → HeldNow → Fml
hand_owns alloc p None = feq Ptr p null_ptr
hand_owns alloc p (Some x) = box_owns (ghosts.dealloc_token alloc) the_row p x

abbrev pub hand_coded : Coded HeldNow
hand_coded = coded_option the_row.coded
