-- The names of std, of specs and of the crates below that proofs of this crate use.
pub use Rattle.mst_blocks.specs.Writing.{HasMade, IsWriterOf}
pub use Rattle.mst_devices.proofs.Putting.{map_ok, on_err}
pub use Rattle.mst_key.specs.Map.{Pair}
pub use Rattle.mst_key.specs.declared.history.Edit.{Edit}
pub use Rattle.mst_requests.specs.declared.request.Command.TheVariants.{Get, Node, Pin, Put, Rows, Unpin}
pub use Rattle.mst_sharded_script.specs.Answers.{text_of}
pub use Rattle.mst_sharded_script.specs.Opening.{AreNewOf, Opens, reader_of}
pub use Rattle.mst_sharded_script.specs.Serving.{Acts, Serves, StepsAt, is_look, puts_of, stepped}
pub use Rattle.mst_sharded_script.specs.States.{Free, PassState, Pinned, ScriptState, are_free, with_readers}
pub use Rattle.mst_shards.proofs.HandingOut.{all_gone, goes_on}
pub use Rattle.mst_shards.specs.BlockHistory.{Whole}
pub use Rattle.mst_shards.specs.Opening.{Dealt, IsLot, Shards, first_lots}
pub use Rattle.mst_shards.specs.Sharding.{map_of}
pub use Rattle.std.proofs.Common.{IfSome, List, None, Option, Some, [], ap, append-nil, arith, length, map, refl, rules, subst, sym, take, true, vec_items, vec_len, ℕ, ◌++◌, ◌+◌, ◌-◌, ◌<◌, ◌∙◌, ◌∷◌, ◌≡◌}
pub use Rattle.std.proofs.lemmas.List.{map-append}
pub use Rattle.std.specs.Arc.{arc_value}
pub use Rattle.std.specs.List.{AllByRecursion, SwappedAt}
pub use Rattle.std.specs.Prelude.{IfOk, ◌≤◌}
pub use Rattle.std.specs.Vec.Iter.{into_iter_items, into_iter_len}
pub use Rattle.std.specs.VecDeque.{deque_items}
