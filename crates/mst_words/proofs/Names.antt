-- The names of std, of specs and of the crates below that proofs of this crate use.
pub use Rattle.atomic_table.proofs.Lists.{at_longer, at_set, at_snoc, set_again, set_else, set_here}
pub use Rattle.atomic_table.specs.Seated.{TableId}
pub use Rattle.atomic_table.specs.Table.{Allows, Me, Splits, State, Step, carried_after, keeps, opening, rest, step, stepped}
pub use Rattle.mst_arena.proofs.ListLemmas.{any_times}
pub use Rattle.mst_arena.proofs.Readers.{EntryIn, entry_with}
pub use Rattle.mst_arena.proofs.StopLemmas.{Goes, entry_met}
pub use Rattle.mst_arena.specs.Ages.{HasAges}
pub use Rattle.mst_arena.specs.Content.{Writes, part_at}
pub use Rattle.mst_arena.specs.Lists.{In}
pub use Rattle.mst_arena.specs.Lives.{last_version, reaches}
pub use Rattle.mst_arena.specs.Row.{HasBytes, entry_pair, head_links, keyed_links}
pub use Rattle.mst_arena.specs.Ways.{words_order}
pub use Rattle.mst_arena.specs.Words.{bytes_in, row_in, word_from}
pub use Rattle.mst_arena.specs.declared.life.Life.{Life}
pub use Rattle.mst_arena.specs.declared.life.Life.TheVariants.{Free}
pub use Rattle.mst_arena.specs.declared.row.Row.{Row}
pub use Rattle.mst_arena.specs.declared.row.Row.TheVariants.{Entry}
pub use Rattle.mst_key.proofs.HistoryLaws.{IsPrefix-itself, IsPrefix-nil, events_of-append}
pub use Rattle.mst_key.specs.Bytes.{IsBytes, IsKey, IsValue}
pub use Rattle.mst_key.specs.History.{History, IsPrefix, events_of}
pub use Rattle.mst_key.specs.Map.{Pair}
pub use Rattle.mst_key.specs.declared.format.Format.{Format}
pub use Rattle.mst_key.specs.declared.format.Format.TheVariants.{One}
pub use Rattle.mst_key.specs.declared.history.Event.{Event}
pub use Rattle.mst_node.specs.Text.{child_text, counted, digest_of, held_of, held_text}
pub use Rattle.mst_pin.proofs.Bits.{bit_other, bit_same, xor_low, xor_small}
pub use Rattle.mst_pin.specs.State.{after}
pub use Rattle.mst_pin.specs.WordParts.{masks}
pub use Rattle.mst_pin.specs.declared.event.Event.TheVariants.{Pin, Publish, Transfer, Unpin}
pub use Rattle.mst_words.specs.Access.{IsAt, IsPadded, PartStored, RowStored, Seated, content_of, may_read, may_write, relinked_list, with_words}
pub use Rattle.mst_words.specs.Deeds.{Deed, MayDo, asking, asking_current, forgetting, giving, glancing, noting, pinning, reading, seeing_all, seeing_told, told_by, transferring, trying, unpinning, word_after, writing}
pub use Rattle.mst_words.specs.Laws.{Adds, Hears, IsRuled, Makes, Table}
pub use Rattle.mst_words.specs.Layout.{first_record, first_row, record_word, record_words, row_word, row_words, table_words}
pub use Rattle.mst_words.specs.Moves.{ChangesSeats, Does, GoesBy, IsLedTo, IsReachedBy, MakesCurrent, moves_of}
pub use Rattle.mst_words.specs.Notes.{having_heard, note_of}
pub use Rattle.mst_words.specs.Path.{ComesTo, IsPathOf}
pub use Rattle.mst_words.specs.Pins.{Blamed, Clear, Counts, Drains, Pins, SeatPins, done, pin_bit}
pub use Rattle.mst_words.specs.Records.{Agrees, IsBlank, IsFramed, IsLive, Meaning, Reads, Rows, Standing, field, known_row, row}
pub use Rattle.mst_words.specs.Rule.{Parts, Ruled, Still, Turn}
pub use Rattle.mst_words.specs.Steps.{IsFree, IsGiving, IsHolder, IsPinned, IsReadable, IsReady, IsWritable, asks, gives_turn, pins_now, publishes, takes_turn, transfers}
pub use Rattle.mst_words.specs.Stored.{AgedOn, StandsOn, desk_state, fresh_desk, rows_in, stored, version_of}
pub use Rattle.mst_words.specs.World.{Fits, IsPlaced, SeatAt, World, dealer, having_dealt, idle, newcomer}
pub use Rattle.mst_words.specs.declared.view.DeskState.{DeskState}
pub use Rattle.mst_words.specs.declared.view.Shape.{Shape}
pub use Rattle.mst_words.specs.declared.view.View.{View}
pub use Rattle.std.proofs.Common.{Bool, List, None, Option, Ordering, Some, [], ap, append-nil, arith, bit_xor, cond, eq-eqb, eqb, false, get_or, get_or-set_other, get_or-set_same, if◌then◌else◌, inl, inr, length, length-append, length-set, lit<, map, ne_eqb, refl, replicate, rules, set, subst, suc, sym, take, true, zero, ℕ, ⊎_elim, ◌%◌, ◌*◌, ◌++◌, ◌+◌, ◌-◌, ◌/◌, ◌<◌, ◌^◌, ◌∙◌, ◌∷◌, ◌≡◌, ◌≢◌, ◌≤◌, ◌⊎◌}
pub use Rattle.std.proofs.lemmas.Bool.{ltb-true}
pub use Rattle.std.proofs.lemmas.Grind.{common_steps, elements}
pub use Rattle.std.proofs.lemmas.List.{length-replicate}
pub use Rattle.std.proofs.lemmas.List.FromFn.{get_or-map-range_with_len, length-map-range_with_len}
pub use Rattle.std.proofs.lemmas.Nat.Bits.{bit_at-lt, bit_at-zero}
pub use Rattle.std.proofs.lemmas.Option.{none-some, same_Some}
pub use Rattle.std.specs.Int.{bit_at}
pub use Rattle.std.specs.List.{All, AllByRecursion, range_with_len}
pub use Rattle.std.specs.Prelude.{IsSome, IsTrue, is_some, nat_lt, option_and_then, slice_index, slice_index_or}
pub use mathlib.Core.Logic.{dite}
pub use mathlib.Core.Option.{none, some, some-injective, some-ne-none}
pub use native.Mathlib.Decide.{dec_le, ℕ_discrete}
