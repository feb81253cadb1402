-- The names of std, of specs and of the crates below that proofs of this crate use.
pub use Rattle.core.proofs.alloc.Calls.{handle_tells, token}
pub use Rattle.mst_c.proofs.RawBoxSteps.{Part}
pub use Rattle.mst_c.specs.Told.{room_after, size_after}
pub use Rattle.mst_c_blocks.specs.Holding.{Lists}
pub use Rattle.mst_c_blocks.specs.Opened.{HoldsWriter, new_reader, reader_of}
pub use Rattle.mst_c_blocks.specs.Owning.{HeldNow, hand_owns}
pub use Rattle.mst_c_blocks.specs.Parts.{WaitsIn}
pub use Rattle.mst_c_blocks.specs.Reading.{pairs_code}
pub use Rattle.mst_c_blocks.specs.Splits.{PacksSplits, splits_bytes}
pub use Rattle.mst_c_blocks.specs.declared.asking.ReadRefusal.{ReadRefusal}
pub use Rattle.mst_c_blocks.specs.declared.hand.PaddedBlocksHand.{PaddedBlocksHand}
pub use Rattle.mst_c_blocks.specs.declared.role_box.Role.{Role}
pub use Rattle.mst_c_blocks.specs.declared.role_box.Role.TheVariants.{Reader}
pub use Rattle.mst_key.specs.Bytes.{IsKey}
pub use Rattle.mst_key.specs.Map.{Pair}
pub use Rattle.mst_key.specs.declared.history.Edit.{Edit}
pub use Rattle.mst_parts.specs.Origins.{Origin}
pub use Rattle.mst_sharded_proof.specs.Shards.{AreSplits, least}
pub use Rattle.mst_shards.specs.BlockHistory.{Whole}
pub use Rattle.mst_shards.specs.Opening.{Dealt, IsLot, Shards, lot}
pub use Rattle.std.proofs.Common.{List, SFits, [], ap, arith, below_more, get_or, length, lit<, negsuc, of_z, pos, refl, rules, slice_set, subst, sym, to_z, to_z-of_z, w32, ℕ, ◌++◌, ◌+◌, ◌-◌, ◌<◌, ◌∙◌, ◌∷◌, ◌≡◌, ◌≤◌}
pub use Rattle.std.proofs.lemmas.List.{get_or-set_other, get_or-set_same, length-set}
pub use Rattle.std.proofs.raw_atomic.Walks.{proved_at}
pub use Rattle.std.specs.Arc.{arc_value}
pub use Rattle.std.specs.Prelude.{Err, None, Ok, Option, Result, Some, vec_len}
pub use Rattle.std.specs.Vec.Iter.{into_iter_items, into_iter_len}
pub use Rattle.std_alloc.proofs.BoxSteps.Form.{R, box_typed, handle, word}
pub use Rattle.std_alloc.proofs.ResultValues.{and_tt}
pub use Rattle.std_alloc.specs.Box.Ownership.{box_owns}
pub use Rattle.std_heap.specs.contracts.GlobalAllocator.TheImpl.{ghosts}
pub use mathlib.Core.Bool.{true, ◌&&◌}
