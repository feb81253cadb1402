-- The names of std, of specs and of the crates below that proofs of this crate use.
pub use Rattle.mst_batching.specs.Applying.{RefusesBatch}
pub use Rattle.mst_batching.specs.Preparing.{IsPrepared, batch_of}
pub use Rattle.mst_batching.specs.declared.faults.ApplyFault.{ApplyFault}
pub use Rattle.mst_batching.specs.declared.faults.ApplyFault.TheVariants.{Memory}
pub use Rattle.mst_batching.specs.declared.preparing.Preparation.{Preparation}
pub use Rattle.mst_key.proofs.HistoryLaws.{IsPrefix-chain, after-push, events_of-between}
pub use Rattle.mst_key.specs.History.{History, IsPrefix, Reply, after, batched, events_of, format_after}
pub use Rattle.mst_key.specs.Map.{Pair}
pub use Rattle.mst_key.specs.declared.format.Format.{Format}
pub use Rattle.mst_key.specs.declared.history.Change.{Change}
pub use Rattle.mst_key.specs.declared.history.Edit.{Edit}
pub use Rattle.mst_key.specs.declared.history.Event.{Event}
pub use Rattle.mst_node.specs.Tree.{empty}
pub use Rattle.mst_store.specs.Passes.{IsPinning, Known, Refuses, StoreId, Wrote, first_passes, having_asked, known, made_by, new_pass}
pub use Rattle.mst_store.specs.Preparing.{Waiting}
pub use Rattle.mst_store.specs.Settling.{AreAllPasses, GoesOn, IsBeside, having_seen, numbers}
pub use Rattle.mst_store.specs.Waiting.{HasTried}
pub use Rattle.mst_versions.specs.Turns.{SeatState}
pub use Rattle.mst_versions.specs.declared.faults.WriteFault.{WriteFault}
pub use Rattle.mst_versions.specs.declared.faults.WriteFault.TheVariants.{Busy, NoRoom, VersionsSpent}
pub use Rattle.mst_versions.specs.declared.parameters.PassParameters.{PassParameters}
pub use Rattle.mst_versions.specs.declared.reading.PinnedVersion.{PinnedVersion}
pub use Rattle.mst_words.specs.Access.{Seated}
pub use Rattle.mst_words.specs.Notes.{IsOfPasses}
pub use Rattle.mst_words.specs.declared.view.View.{View}
pub use Rattle.std.proofs.Common.{Bool, List, None, Option, Some, [], ap, arith, drop, false, get_or, if◌then◌else◌, length, length-append, map, refl, rules, set, subst, suc, sym, take, true, zero, ℕ, ◌++◌, ◌+◌, ◌<◌, ◌∙◌, ◌∷◌, ◌≡◌, ◌≢◌, ◌≤◌}
pub use Rattle.std.proofs.lemmas.List.{set-get_or}
pub use Rattle.std.proofs.lemmas.List.Elements.{All-append, All-head, All-map}
pub use Rattle.std.specs.List.{All}
pub use mathlib.Core.Logic.{dite}
pub use native.Mathlib.Decide.{ℕ_discrete}
