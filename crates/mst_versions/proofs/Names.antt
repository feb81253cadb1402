-- The names of std, of specs and of the crates below that proofs of this crate use.
pub use Rattle.mst_arena.proofs.ListLemmas.{in_either, one_row}
pub use Rattle.mst_arena.specs.Ages.{HasAges}
pub use Rattle.mst_arena.specs.Lists.{In}
pub use Rattle.mst_arena.specs.Lives.{IsSettled, State, free_count, last_version, next, reached_at, reaches, swept_life, version}
pub use Rattle.mst_arena.specs.Standing.{IsDistinct, Stands, numbers, tree_of}
pub use Rattle.mst_arena.specs.declared.life.Life.{Life}
pub use Rattle.mst_arena.specs.declared.life.Life.TheVariants.{Born, Dead, Free}
pub use Rattle.mst_arena.specs.declared.row.Root.{Root}
pub use Rattle.mst_key.specs.History.{History, Reply, after, changed, events_of, format_after, had, was}
pub use Rattle.mst_key.specs.Map.{Pair, map_range}
pub use Rattle.mst_key.specs.declared.format.Format.{Format}
pub use Rattle.mst_key.specs.declared.history.Change.{Change}
pub use Rattle.mst_key.specs.declared.history.Change.TheVariants.{Migrate}
pub use Rattle.mst_key.specs.declared.history.Event.{Event}
pub use Rattle.mst_node.specs.Tree.{tree}
pub use Rattle.mst_path.proofs.lemmas.versions.Reached.{free_swept, reached_old, same_swept}
pub use Rattle.mst_path.specs.Ages.{HasPlace}
pub use Rattle.mst_path.specs.Reached.{ReachesExactly}
pub use Rattle.mst_versions.specs.Asking.{AsksEach, AsksOnly, HasAsked, KnowsRecords}
pub use Rattle.mst_versions.specs.Filing.{IsFiled}
pub use Rattle.mst_versions.specs.Known.{AtSeat, known}
pub use Rattle.mst_versions.specs.Listing.{IsListing, added}
pub use Rattle.mst_versions.specs.Pinned.{PinsVersion}
pub use Rattle.mst_versions.specs.Turns.{Added, AreLiveVersions, Begun, HasMade, HasTurn, HoldsDesk, IsLiveVersion, LeavesFree, SeatState, StoodAtAsk, TakesDesk}
pub use Rattle.mst_versions.specs.Writes.{LacksRows, Made, Refuses, made_at_seat, rows_of, rows_taken}
pub use Rattle.mst_versions.specs.declared.faults.WriteFault.TheVariants.{NoRoom}
pub use Rattle.mst_versions.specs.declared.turn.Asked.{Asked}
pub use Rattle.mst_versions.specs.declared.turn.Turn.{Turn}
pub use Rattle.mst_words.proofs.Framed.{aged_frame, stands_frame}
pub use Rattle.mst_words.proofs.Members.{each, in_cases, in_first, in_later, in_nothing, within}
pub use Rattle.mst_words.specs.Access.{IsSameSeat, Seated, beside, content_of}
pub use Rattle.mst_words.specs.Layout.{record_word, record_words}
pub use Rattle.mst_words.specs.Records.{Agrees, Standing, field, known_row, row}
pub use Rattle.mst_words.specs.Steps.{AsksCurrent, IsGiving, IsHolder, IsReadable, NotesCurrent, Takes, found_now}
pub use Rattle.mst_words.specs.Stored.{contents_after, desk_state, format_number, root_in, rows_in, state_of, stored, version_of}
pub use Rattle.mst_words.specs.declared.view.DeskState.{DeskState}
pub use Rattle.mst_words.specs.declared.view.View.{View}
pub use Rattle.std.proofs.Common.{Bool, List, None, Option, Some, [], ap, arith, cond, eqb, false, get_or, get_or-set_other, get_or-set_same, if◌then◌else◌, inr, is_some, length, length-append, length-set, map, not, refl, rules, set, slice_index, subst, sym, true, ℕ, ⊎_elim, ◌&&◌, ◌*◌, ◌++◌, ◌+◌, ◌-◌, ◌<◌, ◌||◌, ◌∙◌, ◌∷◌, ◌≡◌, ◌≤◌}
pub use Rattle.std.proofs.lemmas.Bool.{eq-eqb, lt-ltb}
pub use Rattle.std.proofs.lemmas.Bool.Decides.{nat_tests}
pub use Rattle.std.proofs.lemmas.List.{length-map, take_all}
pub use Rattle.std.proofs.lemmas.Option.{slice_get_within}
pub use Rattle.std.specs.List.{AllByRecursion, list_any}
pub use Rattle.std.specs.Prelude.{slice_get, take}
pub use mathlib.Core.Logic.{dite}
pub use native.Mathlib.Decide.{ℕ_discrete}
