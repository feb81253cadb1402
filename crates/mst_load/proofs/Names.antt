-- The names of std, of specs and of the crates below that proofs of this crate use.
pub use Rattle.mst_key.proofs.Alls.{alls-append}
pub use Rattle.mst_key.proofs.Ascending.{IsAscending-after}
pub use Rattle.mst_key.proofs.HistoryLaws.{IsPrefix-chain, after-append, events_of-append}
pub use Rattle.mst_key.proofs.KeyOrder.{equal_from_same, key_cmp-first_byte}
pub use Rattle.mst_key.specs.History.{History, IsMigration, IsPrefix, KeepsFormat, after, after_from, changed, events_of, format_after}
pub use Rattle.mst_key.specs.Map.{AllAbove, Pair, key_cmp, map_get}
pub use Rattle.mst_key.specs.declared.format.Format.{Format}
pub use Rattle.mst_key.specs.declared.format.Format.TheVariants.{One}
pub use Rattle.mst_key.specs.declared.history.Change.{Change}
pub use Rattle.mst_key.specs.declared.history.Change.TheVariants.{Batch, Migrate, Put, Remove}
pub use Rattle.mst_key.specs.declared.history.Event.{Event}
pub use Rattle.mst_load.specs.Calls.{all_calls, calls_of, change_of, event_of, key_of, round_left, value_of}
pub use Rattle.mst_load.specs.Listening.{HasHeard}
pub use Rattle.mst_load.specs.Reports.{HasSettled}
pub use Rattle.mst_load.specs.Workers.{HasAllCalls, HasPut, HasWorked, HasWritten, IsNewOf, IsWorkerOf, MadePuts}
pub use Rattle.mst_store.proofs.AllPasses.{none_held}
pub use Rattle.mst_store.specs.Passes.{IsSamePass, Known, Looks, StoreId, format_seen, new_pass}
pub use Rattle.mst_store.specs.Settling.{AreAllPasses, Settled, numbers}
pub use Rattle.mst_store.specs.Waiting.{RefusesAfter}
pub use Rattle.mst_store.specs.declared.faults.ChangeFault.{ChangeFault}
pub use Rattle.mst_store.specs.declared.faults.ChangeFault.TheVariants.{NoRoom, VersionsSpent}
pub use Rattle.std.proofs.Common.{Bool, List, None, Option, Some, [], ap, arith, below_more, cond, eq-eqb, false, filter, get_or, inl, inr, length, length-append, ne_eqb, refl, rules, subst, suc, sym, take, true, true≢false, zero, ℕ, ◌%◌, ◌*◌, ◌++◌, ◌+◌, ◌-◌, ◌<◌, ◌==◌, ◌∙◌, ◌∷◌, ◌≡◌, ◌≢◌, ◌≤◌}
pub use Rattle.std.proofs.lemmas.Bool.{cond-true}
pub use Rattle.std.proofs.lemmas.Bool.Decides.{nat_tests}
pub use Rattle.std.proofs.lemmas.Grind.{not_there}
pub use Rattle.std.proofs.lemmas.List.{append-nil}
pub use Rattle.std.specs.List.{All, AllByRecursion, Contains}
pub use Rattle.std.specs.Prelude.{vec_items, vec_len}
pub use Rattle.std.specs.Vec.Iter.{into_iter_items, into_iter_len}
pub use Rattle.std.specs.declared.cmp.Ordering.TheVariants.{Less}
pub use mathlib.Core.Logic.{dite}
pub use native.Mathlib.Decide.{ℕ_discrete}
