-- The names of std, of specs and of the crates below that proofs of this crate use.
pub use Rattle.mst_key.proofs.Alls.{filter-whole}
pub use Rattle.mst_key.proofs.Ascending.{IsAscending-after}
pub use Rattle.mst_key.proofs.HistoryLaws.{IsPrefix-length}
pub use Rattle.mst_key.specs.History.{History, after, format_after}
pub use Rattle.mst_key.specs.Map.{IsAscending, IsMap, Pair, above, below, from_on, key_cmp, map_get, map_next, map_range}
pub use Rattle.mst_key.specs.declared.format.Format.{Format}
pub use Rattle.mst_node.specs.Trail.{proof_text}
pub use Rattle.mst_sharded_proof.proofs.Shards.{length-directory}
pub use Rattle.mst_sharded_proof.specs.Frame.{sharded_proof}
pub use Rattle.mst_sharded_proof.specs.Shards.{Shard, directory, least, part_of}
pub use Rattle.mst_sharded_proof.specs.Theorem.{HasShardedRoot}
pub use Rattle.mst_shards.proofs.Intervals.{length-shards}
pub use Rattle.mst_shards.proofs.Moved.{read_any}
pub use Rattle.mst_shards.proofs.Owned.{as_many}
pub use Rattle.mst_shards.proofs.PinningAll.{all_step_length}
pub use Rattle.mst_shards.proofs.Stepping.{all_still}
pub use Rattle.mst_shards.specs.BlockHistory.{IsNumber, IsOneBlock, Whole, whole}
pub use Rattle.mst_shards.specs.Directory.{AllIn, KeepWithin, OfClean}
pub use Rattle.mst_shards.specs.Entries.{KeepsTo, low_at, shard_at}
pub use Rattle.mst_shards.specs.Laid.{AreOf}
pub use Rattle.mst_shards.specs.Opening.{Dealt, IsLot, Shards}
pub use Rattle.mst_shards.specs.Ranging.{union_from}
pub use Rattle.mst_shards.specs.Sharding.{AllStep, HaveFewPairs, IsSharding, IsSplits, PinsNow, Routes, map_of, maps_of, place, sharding, union}
pub use Rattle.mst_snapshots.specs.Agreeing.{AgreeTo, Agrees, AreClean, low_before}
pub use Rattle.mst_snapshots.specs.Reading.{IsLater, IsReader, IsSnapshot, PinsWhole, SeesOn, no_pass, pass_at, versions_of}
pub use Rattle.mst_snapshots.specs.Tries.{InVain, PinsAfter}
pub use Rattle.mst_store.specs.Passes.{Known, StoreId, format_seen, most_rows}
pub use Rattle.std.proofs.Common.{Less, List, None, Option, Some, [], ap, arith, cond, false, find, get_or, length, length-append, refl, rules, set, slice_get, subst, suc, sum_by, sym, take, true, vec_capacity, vec_items, vec_len, zero, ℕ, ◌&&◌, ◌++◌, ◌+◌, ◌-◌, ◌<◌, ◌∙◌, ◌∷◌, ◌≡◌, ◌≤◌}
pub use Rattle.std.proofs.lemmas.List.{take_all}
pub use Rattle.std.proofs.lemmas.Option.{none-some, same_Some, slice_get-get_or, slice_get-map}
pub use Rattle.std.proofs.lemmas.Result.{IfOk-weaker}
pub use Rattle.std.specs.Arc.{arc_value}
pub use Rattle.std.specs.List.{AllByRecursion, SwappedAt, swap_remove}
pub use Rattle.std.specs.Option.{option_copied, option_map}
pub use Rattle.std.specs.Prelude.{IfOk, IsSome, unwrap_or}
pub use Rattle.std.specs.VecDeque.{deque_items}
