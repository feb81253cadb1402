-- The names of std, of specs and of the crates below that proofs of this crate use.
pub use Rattle.mst_blocks.specs.Blocks.{AddsBatch, AddsPart, AllAdd, LeavesAll, MakesBlock, MakesNothing, RefusesParts, last_made, listed_part, listed_parts, parts_from, parts_of, version_made}
pub use Rattle.mst_blocks.specs.Counting.{Counts, CountsAt}
pub use Rattle.mst_blocks.specs.Staging.{AllStaged, IsShown, PreparesNext, canceled_stage, listed_stages, published_stage, revealed_stage}
pub use Rattle.mst_blocks.specs.Writing.{AddsBlock, HasMade, HasSeenLast, IsLastRoot, IsWriter, IsWriterOf, RefusesBlock, at_last, block_map, empty_listings, last_block}
pub use Rattle.mst_blocks.specs.declared.blocks.Stage.{Stage}
pub use Rattle.mst_blocks.specs.declared.blocks.Stage.TheVariants.{Idle, Ready, Revealed}
pub use Rattle.mst_blocks.specs.declared.faults.BlockFault.{BlockFault}
pub use Rattle.mst_key.proofs.Ascending.{IsAscending-batched}
pub use Rattle.mst_key.proofs.Batches.{map_get-batched}
pub use Rattle.mst_key.proofs.HistoryLaws.{IsPrefix-length, after-push, format_after-push}
pub use Rattle.mst_key.proofs.KeyOrder.{by_same, less_chain, other_from_less, test_of_other, test_of_same}
pub use Rattle.mst_key.proofs.MapLaws.{map_determined, map_get-here, map_get-past}
pub use Rattle.mst_key.specs.History.{History, IsSmall, after, batched, format_after, key_of, value_after, value_of}
pub use Rattle.mst_key.specs.Map.{IsMap, Pair, key_cmp, map_get}
pub use Rattle.mst_key.specs.declared.format.Format.{Format}
pub use Rattle.mst_key.specs.declared.history.Change.TheVariants.{Batch}
pub use Rattle.mst_key.specs.declared.history.Edit.{Edit}
pub use Rattle.mst_key.specs.declared.history.Edit.TheVariants.{Put}
pub use Rattle.mst_key.specs.declared.history.Event.{Event}
pub use Rattle.mst_sharded_proof.proofs.Shards.{directory_map}
pub use Rattle.mst_sharded_proof.specs.Shards.{Shard, bound_text, directory, least, listing, part_of}
pub use Rattle.mst_sharded_proof.specs.Theorem.{CollideForKey, HasBytes, HasShardedRoot, IsSharded}
pub use Rattle.mst_shards.proofs.Intervals.{drop_shards, length-shards}
pub use Rattle.mst_shards.proofs.Moved.{read_any}
pub use Rattle.mst_shards.proofs.PinningAll.{all_step_length}
pub use Rattle.mst_shards.proofs.Rising.{RiseFrom, all_rise}
pub use Rattle.mst_shards.proofs.Stepping.{all_still, one_steps, steps_length}
pub use Rattle.mst_shards.specs.BlockHistory.{Blocks, IsNumber, IsOneBlock, Records, Whole, map_made, whole}
pub use Rattle.mst_shards.specs.Directory.{KeepWithin}
pub use Rattle.mst_shards.specs.Entries.{shard_at}
pub use Rattle.mst_shards.specs.Laid.{AreOf}
pub use Rattle.mst_shards.specs.Opening.{IsNew, Shards}
pub use Rattle.mst_shards.specs.Parts.{edits_at, picked}
pub use Rattle.mst_shards.specs.Sharding.{AllStep, IsSplits, Routes, StepsFrom, map_of, maps_of, place, sharding}
pub use Rattle.mst_store.specs.Passes.{Known, Looks, StoreId, format_seen, made_by, most_rows}
pub use Rattle.mst_store.specs.Preparing.{Waiting}
pub use Rattle.std.proofs.Common.{Less, List, None, Option, Some, [], ap, append-nil, append_assoc, arith, drop, get_or, inl, inr, is_eq, length, map, refl, rules, set, subst, suc, sym, take, vec_capacity, vec_items, vec_len, zero, ℕ, ◌++◌, ◌+◌, ◌<◌, ◌∙◌, ◌∷◌, ◌≡◌, ◌≢◌, ◌≤◌, ◌⊎◌}
pub use Rattle.std.proofs.Math.ListN.{drop_of_length-le}
pub use Rattle.std.proofs.Math.Seq.{map-set_same}
pub use Rattle.std.proofs.lemmas.Bool.{cond-false, cond-true}
pub use Rattle.std.proofs.lemmas.List.{length-append, length-map, take-append-le, take_all}
pub use Rattle.std.specs.Arc.{arc_value}
pub use Rattle.std.specs.List.{AllByRecursion}
pub use Rattle.std.specs.Prelude.{IfErr, IfOk, IsNone, OnOk, ◌==◌}
pub use Rattle.std.specs.VecDeque.{deque_items, deque_len}
pub use Rattle.std.specs.declared.result.Result.{Result}
pub use Rattle.std.specs.declared.result.Result.TheVariants.{Err, Ok}
