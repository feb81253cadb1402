-- The names of std, of specs and of the crates below that proofs of this crate use.
pub use Rattle.mst_blocks.proofs.Blocked.{from_err_of, from_ok, made_no_block, writer_count, writes_still}
pub use Rattle.mst_blocks.proofs.Committing.{Stops, part_nothing}
pub use Rattle.mst_blocks.proofs.Kept.{left_keeps, on_ok}
pub use Rattle.mst_blocks.specs.Blocks.{LeavesAll, MakesNothing, parts_of}
pub use Rattle.mst_blocks.specs.Staging.{AllStaged, Concludes, PreparesNext, canceled_stage}
pub use Rattle.mst_blocks.specs.Writing.{AddsBlock, HasMade, IsWriter, IsWriterOf, KeepStores, RefusesBlock}
pub use Rattle.mst_blocks.specs.declared.faults.BlockFault.{BlockFault}
pub use Rattle.mst_key.specs.declared.history.Edit.{Edit}
pub use Rattle.mst_parts.specs.Origins.{Begun, IsBlockOf, IsOf, IsStoreAt, Origin, begun, edits_of, passes_of}
pub use Rattle.mst_shards.proofs.HandingOut.{all_gone, goes_on}
pub use Rattle.mst_shards.proofs.PinningAll.{all_step_length}
pub use Rattle.mst_shards.specs.BlockHistory.{Blocks, Whole, whole}
pub use Rattle.mst_shards.specs.Opening.{Shards}
pub use Rattle.mst_shards.specs.Sharding.{AllStep}
pub use Rattle.mst_store.specs.Passes.{Known, StoreId}
pub use Rattle.mst_store.specs.Preparing.{Waiting}
pub use Rattle.std.proofs.Common.{List, [], ap, arith, get_or, length, map, refl, rules, subst, sym, vec_capacity, vec_items, vec_len, ℕ, ◌++◌, ◌+◌, ◌<◌, ◌∙◌, ◌∷◌, ◌≡◌, ◌≤◌}
pub use Rattle.std.proofs.lemmas.List.{length-map}
pub use Rattle.std.specs.Arc.{arc_value}
pub use Rattle.std.specs.List.{AllByRecursion}
pub use Rattle.std.specs.Prelude.{IfErr, IsNone, OnOk}
pub use Rattle.std.specs.VecDeque.{deque_items, deque_len}
pub use Rattle.std.specs.declared.result.Result.{Result}
