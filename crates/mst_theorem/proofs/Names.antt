-- The names of std, of specs and of the crates below that proofs of this crate use.
pub use Rattle.atomic_table.proofs.Lists.{set_here}
pub use Rattle.atomic_table.specs.Table.{Me}
pub use Rattle.mst_key.proofs.HistoryLaws.{IsPrefix-chain, IsPrefix-compare, IsPrefix-itself, IsPrefix-length}
pub use Rattle.mst_key.proofs.MapLaws.{map_get-put_same}
pub use Rattle.mst_key.specs.History.{History, IsPrefix, Reply, after, events_of, had, reply}
pub use Rattle.mst_key.specs.Map.{Pair, map_get}
pub use Rattle.mst_key.specs.declared.format.Format.{Format}
pub use Rattle.mst_key.specs.declared.history.Change.{Change}
pub use Rattle.mst_key.specs.declared.history.Change.TheVariants.{Put}
pub use Rattle.mst_key.specs.declared.history.Event.{Event}
pub use Rattle.mst_store.specs.Passes.{Answers, Known, Looks, Refuses, StoreId, Wrote, made_by, new_pass}
pub use Rattle.mst_store.specs.Settling.{Met}
pub use Rattle.mst_theorem.specs.Headline.{Adds, Call, IsHistoryOf, IsHonest, IsOneOrder, IsRun, IsServed, IsTold, Leads, NeverFalls, Operation, Reading, Single, Sits, Stays, calls_of, got, has_seen, left_by, rank, reach, read, refused, wrote}
pub use Rattle.mst_theorem.specs.Shown.{put_was}
pub use Rattle.mst_theorem.specs.Time.{GoesOn, IsPointOf}
pub use Rattle.mst_versions.specs.declared.faults.WriteFault.{WriteFault}
pub use Rattle.mst_words.proofs.Deeds.{other_keeps, publication_grows}
pub use Rattle.mst_words.proofs.Histories.{events_own}
pub use Rattle.mst_words.proofs.Worlds.{within}
pub use Rattle.mst_words.specs.Deeds.{Deed, pinning, trying}
pub use Rattle.mst_words.specs.Laws.{IsPublication, IsRuled, Table}
pub use Rattle.mst_words.specs.Moves.{ChangesSeats, Does, GoesBy, MakesCurrent, moves_of}
pub use Rattle.mst_words.specs.Notes.{IsOfPasses}
pub use Rattle.mst_words.specs.World.{SeatAt}
pub use Rattle.mst_words.specs.declared.view.Shape.{Shape}
pub use Rattle.mst_words.specs.declared.view.View.{View}
pub use Rattle.std.proofs.Common.{Bool, Err, IfErr, IfOk, List, None, Ok, Option, Result, Some, [], ap, append-nil, append_assoc, arith, eq-eqb, false, filter, get_or, if◌then◌else◌, inl, inr, length, length-append, map, ne_eqb, refl, subst, suc, sym, true, ℕ, ⊎_elim, ◌++◌, ◌+◌, ◌<◌, ◌==◌, ◌∙◌, ◌∷◌, ◌≡◌, ◌≢◌, ◌≤◌, ◌⊎◌}
pub use Rattle.std.proofs.lemmas.Bool.{cases_Bool}
pub use Rattle.std.proofs.lemmas.List.{append_cancel_left}
pub use Rattle.std.proofs.lemmas.List.Elements.{All-cons, All-nil}
pub use Rattle.std.specs.List.{AllByRecursion}
pub use mathlib.Core.Logic.{dite}
pub use native.Mathlib.Decide.{ℕ_discrete}
