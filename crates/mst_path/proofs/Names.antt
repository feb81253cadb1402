-- The names of std, of specs and of the crates below that proofs of this crate use.
pub use Rattle.mst_arena.proofs.ListLemmas.{in_either, one_row, times-append}
pub use Rattle.mst_arena.proofs.NodeRows.{all_contained, top_inside}
pub use Rattle.mst_arena.proofs.Stands.{all-append, all-back, all-front, one_placed, placed_frame, same_of_write}
pub use Rattle.mst_arena.specs.Ages.{HasAge, HasAges, chain_nodes, chain_own, placed_nodes, top_rows}
pub use Rattle.mst_arena.specs.Content.{Content, Writes, part_at}
pub use Rattle.mst_arena.specs.Limits.{highest_layer}
pub use Rattle.mst_arena.specs.Lists.{In, bit, times}
pub use Rattle.mst_arena.specs.Lives.{State, ended_life, free_count, is_free, next, reached_at, reaches, reaches_life, swept_life, version, with_life}
pub use Rattle.mst_arena.specs.Row.{entry_pair, entry_value, head_links, keyed_links}
pub use Rattle.mst_arena.specs.Standing.{Chain, HasRows, IsDistinct, Placed, Stands, cell, chain_rows, chain_used, count_of, end, entries_of, first_of, head, head_row, link_of, none, numbers, rows_of, tail_of, tree_of, used}
pub use Rattle.mst_arena.specs.declared.life.Life.{Life}
pub use Rattle.mst_arena.specs.declared.life.Life.TheVariants.{Born, Dead, Free}
pub use Rattle.mst_arena.specs.declared.row.HeadLinks.{HeadLinks}
pub use Rattle.mst_arena.specs.declared.row.KeyedLinks.{KeyedLinks}
pub use Rattle.mst_arena.specs.declared.row.Root.{Root}
pub use Rattle.mst_arena.specs.declared.row.Row.{Row}
pub use Rattle.mst_arena.specs.declared.row.Row.TheVariants.{Entry, Head}
pub use Rattle.mst_change.proofs.Parts.{with_entries-append, with_entries_count, with_first_count}
pub use Rattle.mst_change.proofs.Split.Steps.{gap_count}
pub use Rattle.mst_change.proofs.Split.Trees.{rest_rises}
pub use Rattle.mst_change.specs.Cost.{join_rows, put_rows, remove_rows, side_rows, split_rows}
pub use Rattle.mst_change.specs.Gap.{CellsBelow}
pub use Rattle.mst_change.specs.Join.{join}
pub use Rattle.mst_change.specs.Parts.{cells, first_child, is_empty, last_child, node_of, with_first}
pub use Rattle.mst_change.specs.Put.{put_at}
pub use Rattle.mst_change.specs.Remove.{tree_remove}
pub use Rattle.mst_change.specs.Split.{above, below}
pub use Rattle.mst_key.proofs.SpanLaws.{contains-cases, contains-nothing}
pub use Rattle.mst_key.specs.History.{History, after, format_after}
pub use Rattle.mst_key.specs.Layer.{layer_in}
pub use Rattle.mst_key.specs.Map.{IsAscending, Pair, map_get}
pub use Rattle.mst_key.specs.declared.format.Format.{Format}
pub use Rattle.mst_key.specs.declared.format.Format.TheVariants.{One}
pub use Rattle.mst_node.proofs.InTrees.{is_old}
pub use Rattle.mst_node.proofs.UniqueTree.{pairs_tree, tree_mst}
pub use Rattle.mst_node.specs.Cost.{cost, entries_subtrees, is_subtree, new_rows, same_bytes, subtrees, top_entries}
pub use Rattle.mst_node.specs.Shape.{TreeEntry, tree_entry, tree_of_child, with_entries}
pub use Rattle.mst_node.specs.Stays.{lasts, tree_at}
pub use Rattle.mst_node.specs.Text.{child_digest, child_text}
pub use Rattle.mst_node.specs.Tree.{Entries, IsMst, IsMstEntries, IsUnder, Tree, empty, entries_pairs, entry, entry_count, last, node, pairs, tree}
pub use Rattle.mst_node.specs.declared.node.Entry.{out-Entry}
pub use Rattle.mst_node.specs.declared.node.Entry.TheViews.{the_lemmas}
pub use Rattle.mst_node.specs.declared.node.Node.{out-Node}
pub use Rattle.mst_path.specs.AfterChange.{AfterChange}
pub use Rattle.mst_path.specs.Ages.{IsAged}
pub use Rattle.mst_path.specs.Changing.{AreOld, IsTaken, MapStands, OnlyFreeWritten}
pub use Rattle.mst_path.specs.Copying.{Copied, Copying, Going}
pub use Rattle.mst_path.specs.Cutting.{CutFound, CutGap, EntriesLie, gap_before}
pub use Rattle.mst_path.specs.Felling.{ToFell}
pub use Rattle.mst_path.specs.Frames.{Framed, frame_rows, in_entries, in_frame, spare, tree_round}
pub use Rattle.mst_path.specs.Gaps.{IsOpened, OpensEntry, OpensGap}
pub use Rattle.mst_path.specs.Joining.{Met, TwoTrees, both_joined, both_rows, height, height_at, in_both}
pub use Rattle.mst_path.specs.Made.{AreMade, IsMade, IsMadeChain}
pub use Rattle.mst_path.specs.Making.{BackRun, Finished, Grown, HasTail, PartsStand, Rest, Split, cell_of, cells_of, entries_to, in_parts, others, tail_behind}
pub use Rattle.mst_path.specs.Moves.{IsAlive, IsKilled, IsNew, IsOld, Moves}
pub use Rattle.mst_path.specs.Planting.{Planted, entries_node_count, node_count, rows_needed}
pub use Rattle.mst_path.specs.PutPath.{IsPutStep, PutsAnew, PutsBetween, PutsDown, RisingTree, TwoStand, in_rising, in_two, pair_rows, tree_with, with_pair, with_rows}
pub use Rattle.mst_path.specs.Reached.{Changes, IsPast, IsSettled, ReachesExactly, TogetherReach, advanced, swept_by}
pub use Rattle.mst_path.specs.RemovePath.{SearchTree, in_tree, without, without_rows}
pub use Rattle.mst_path.specs.Runs.{AreCopies, EachGap, OldPiece, Piece, RunStands, gaps_used, own, own_rows}
pub use Rattle.mst_path.specs.Splitting.{BothStand, ToSplit, side_of}
pub use Rattle.mst_path.specs.Takes.{FewRows, FreeIsBlank, IsOut, KeepsBut, RowsAreWritable, StaysBeside, Takes}
pub use Rattle.mst_path.specs.Writing.{IsAhead, IsRootOf, IsWriter, IsWritten, PlacedEntry, ahead, chain_of, entries_used, entry_rows, link_from, link_to, text_up_to}
pub use Rattle.mst_path.specs.declared.frames.Frame.{Frame}
pub use Rattle.mst_path.specs.declared.joining.Meeting.{Meeting}
pub use Rattle.mst_path.specs.declared.making.EntryRun.{EntryRun}
pub use Rattle.mst_path.specs.declared.making.NodeParts.{NodeParts}
pub use Rattle.mst_path.specs.declared.node_writer.NodeWriter.{NodeWriter}
pub use Rattle.mst_prefix.specs.Kept.{HasTaken}
pub use Rattle.sha2.specs.Sha256.{sha256}
pub use Rattle.std.proofs.Common.{Bool, IfSome, IsSome, IsTrue, List, None, Option, Some, [], ap, append_assoc, arith, cond, eqb, false, filter, get_or, inl, inr, length, length-append, map, min, nat_lt, refl, rules, subst, suc, sym, take, true, true≢false, zero, ℕ, ◌&&◌, ◌*◌, ◌++◌, ◌+◌, ◌-◌, ◌<◌, ◌==◌, ◌^◌, ◌||◌, ◌∙◌, ◌∷◌, ◌≡◌, ◌≢◌, ◌≤◌, ◌⊎◌}
pub use Rattle.std.proofs.Math.ListN.{length-set}
pub use Rattle.std.proofs.lemmas.Bool.{and_parts, or_cases}
pub use Rattle.std.proofs.lemmas.Bool.Decides.{nat_tests}
pub use Rattle.std.proofs.lemmas.Grind.{common_steps, elements}
pub use Rattle.std.proofs.lemmas.List.{append-nil, length-map, map-append}
pub use Rattle.std.proofs.lemmas.List.Elements.{Contains-append_cases}
pub use Rattle.std.proofs.lemmas.List.Sums.{count_by-le-length}
pub use Rattle.std.proofs.lemmas.Option.{slice_get-map}
pub use Rattle.std.specs.Bool.{MatchBool}
pub use Rattle.std.specs.List.{AllByRecursion, list_any}
pub use Rattle.std.specs.Option.{option_map_or}
pub use Rattle.std.specs.Prelude.{Contains, if◌then◌else◌, nat_le, option_and_then, option_map, slice_get, slice_set, ◌↔◌}
