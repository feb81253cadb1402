-- The names of std, of specs and of the crates below that proofs of this crate use.
pub use Rattle.mst_key.proofs.Alls.{alls-append, alls-passes, alls-weaker, filter-nothing, filter-whole}
pub use Rattle.mst_key.proofs.KeyOrder.{by_order, greater_from_less, less_chain, less_from_test}
pub use Rattle.mst_key.proofs.MapLaws.{map_get-above}
pub use Rattle.mst_key.specs.Bytes.{IsKey, IsValue}
pub use Rattle.mst_key.specs.History.{after, key_of}
pub use Rattle.mst_key.specs.Map.{AllAbove, IsAscending, IsMap, Pair, above, below, from_on, key_cmp, map_get, map_next}
pub use Rattle.mst_key.specs.declared.format.Format.{Format}
pub use Rattle.mst_key.specs.declared.history.Edit.{Edit}
pub use Rattle.mst_sharded_proof.proofs.Complete.{least_first}
pub use Rattle.mst_sharded_proof.specs.Shards.{AreSplits, Shard, is_in, least, part_of, shards_from}
pub use Rattle.mst_shards.specs.Entries.{shard_at, shard_from_at}
pub use Rattle.mst_shards.specs.Laid.{AreOf}
pub use Rattle.mst_shards.specs.Opening.{Dealt, IsLot, Shards, dealt_more, first_lots, lot}
pub use Rattle.mst_shards.specs.Ranging.{first_place, greater, last_place, lesser, split_before, union_from}
pub use Rattle.mst_shards.specs.Sharding.{AllStep, IsSharding, IsSplits, PinsNow, SeesMore, map_of, maps_of, place, sharding, union}
pub use Rattle.mst_store.specs.Passes.{HasShape, Known, StoreId, new_pass, new_passes}
pub use Rattle.std.proofs.Common.{Bool, Less, List, None, Option, Ordering, Some, [], ap, append-nil, append_assoc, arith, cond, drop, false, filter, find, get_or, get_or-set_other, get_or-set_same, is_gt, is_lt, length, length-append, length-set, map, not, refl, rules, set, slice_get, subst, suc, sym, take, true, true≢false, vec_capacity, vec_items, vec_len, zero, ℕ, ⊎_elim, ◌&&◌, ◌++◌, ◌+◌, ◌-◌, ◌<◌, ◌∙◌, ◌∷◌, ◌≡◌, ◌≢◌, ◌≤◌}
pub use Rattle.std.proofs.Math.ListN.{drop_of_length-le, get_or-append}
pub use Rattle.std.proofs.Math.Seq.{get_or-append_seam}
pub use Rattle.std.proofs.lemmas.Bool.{false_from_ne_true}
pub use Rattle.std.proofs.lemmas.List.{drop_more, get_or-map, length-map, map-append, same_lists}
pub use Rattle.std.proofs.lemmas.List.Elements.{filter-append}
pub use Rattle.std.specs.List.{AllByRecursion, SwappedAt, swap_remove}
pub use Rattle.std.specs.Option.{option_or}
pub use Rattle.std.specs.Vec.Iter.{into_iter_items, into_iter_len}
pub use Rattle.std.specs.VecDeque.{deque_capacity, deque_items, deque_len}
pub use mathlib.Core.Logic.{dite}
pub use native.Mathlib.Decide.{ℕ_discrete}
