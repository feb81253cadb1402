-- The names of std, of specs and of the crates below that proofs of this crate use.
pub use Rattle.mst_arena.proofs.ListLemmas.{in_either, times-append}
pub use Rattle.mst_arena.proofs.Stands.{all-back, all-front, one_placed}
pub use Rattle.mst_arena.specs.Ages.{chain_nodes, placed_nodes}
pub use Rattle.mst_arena.specs.Content.{Content, part_at}
pub use Rattle.mst_arena.specs.Lists.{In, bit, times}
pub use Rattle.mst_arena.specs.Lives.{State, free_count, is_free, version}
pub use Rattle.mst_arena.specs.Row.{bare_links, entry_pair, entry_value, head_links, keyed_links}
pub use Rattle.mst_arena.specs.Standing.{Chain, HasRows, Placed, Stands, cell, chain_rows, chain_used, count_of, end, entries_of, first_of, head, head_row, link_of, none, numbers, rows_of, tail_of, tree_of, used}
pub use Rattle.mst_arena.specs.declared.life.Life.TheVariants.{Born}
pub use Rattle.mst_arena.specs.declared.row.BareLinks.{BareLinks}
pub use Rattle.mst_arena.specs.declared.row.HeadLinks.{HeadLinks}
pub use Rattle.mst_arena.specs.declared.row.KeyedLinks.{KeyedLinks}
pub use Rattle.mst_arena.specs.declared.row.Root.{Root}
pub use Rattle.mst_arena.specs.declared.row.Row.{Row}
pub use Rattle.mst_arena.specs.declared.row.Row.TheVariants.{Entry, Head}
pub use Rattle.mst_batch.specs.Applying.{LacksBatch, LacksPairs}
pub use Rattle.mst_batch.specs.Beside.{AreMarks, Matches, chain_link, entries_beside, entries_links, kept_entries, kept_node, link_among, link_of_key, links_kept, node_at, plan_beside}
pub use Rattle.mst_batch.specs.Carrying.{IsPlanOf}
pub use Rattle.mst_batch.specs.Items.{AreItems, IsItem, IsPairOf, IsTold, IsUpTo, height_of, item_pairs, items_pairs, layer_of, pair_among}
pub use Rattle.mst_batch.specs.Kept.{AddsMarks, chain_fallen, fallen, is_marked}
pub use Rattle.mst_batch.specs.Known.{AreKnown, AreThere, HasKnown, IsEntryOf, IsThere, Known, all_known, known_of, known_of_entry, known_of_node, own_known}
pub use Rattle.mst_batch.specs.Opening.{Adds, AreBelow, AreOf, PartOf}
pub use Rattle.mst_batch.specs.Plans.{EachKept, EachKeptBelow, IsPlan, PlanEntries, PlanTree, PlannedEntry, entries_kept, entries_planned, entries_rows, entry, kept, last, made, plan_of, plan_of_node, planned_entry, rows_kept, rows_planned, tree_planned, with_planned}
pub use Rattle.mst_batch.specs.Replacing.{IsMarkedNode, Keeps, entries_trees, trees_kept}
pub use Rattle.mst_batch.specs.Sowing.{Sown}
pub use Rattle.mst_batch.specs.Tops.{IsStanding, IsTop, chain_items, is_pair, is_tree, node_items, opened, tree_items}
pub use Rattle.mst_batch.specs.Updating.{AreUpdates, IsUpdate, Updates}
pub use Rattle.mst_batch.specs.declared.items.Item.{Item}
pub use Rattle.mst_batch.specs.declared.plan.Origin.{Origin}
pub use Rattle.mst_batch.specs.declared.plan.Origin.TheVariants.{Changed, Kept}
pub use Rattle.mst_batch.specs.declared.plan.PlanEntry.{PlanEntry, out-PlanEntry}
pub use Rattle.mst_batch.specs.declared.plan.PlanEntry.TheFolds.{fold_out-PlanEntry, fold_out-PlanNode}
pub use Rattle.mst_batch.specs.declared.plan.PlanEntry.TheViews.{the_lemmas}
pub use Rattle.mst_batch.specs.declared.plan.PlanNode.{PlanNode, out-PlanNode}
pub use Rattle.mst_change.proofs.Batch.{beside_cost}
pub use Rattle.mst_change.proofs.Formats.{stays}
pub use Rattle.mst_change.proofs.Split.Trees.{child_rises, rest_rises}
pub use Rattle.mst_change.specs.Batch.{HasEntry, rows_beside}
pub use Rattle.mst_edits.proofs.Joins.{above-first}
pub use Rattle.mst_edits.proofs.Parts.{first_and_rest, none_left, rest_of}
pub use Rattle.mst_edits.proofs.Rising.{rising-back}
pub use Rattle.mst_edits.specs.Listed.{listed, put_of}
pub use Rattle.mst_key.proofs.Alls.{alls-append, alls-back, alls-filter, alls-front, alls-weaker}
pub use Rattle.mst_key.proofs.Ascending.{IsAscending-batched}
pub use Rattle.mst_key.proofs.HistoryLaws.{IsMap-batched}
pub use Rattle.mst_key.proofs.KeyOrder.{equal_from_same, less_chain, other_from_less, same_from_test}
pub use Rattle.mst_key.proofs.MapLaws.{AllBelow-less, IsMap-nil}
pub use Rattle.mst_key.proofs.SpanLaws.{contains-all, contains-cases, contains-first, contains-later, contains-nothing}
pub use Rattle.mst_key.proofs.Splits.{IsAscending-back, IsAscending-below}
pub use Rattle.mst_key.specs.Edits.{AreAbove, AreRising}
pub use Rattle.mst_key.specs.History.{IsSmall, batched, edited, key_of}
pub use Rattle.mst_key.specs.Layer.{layer_in}
pub use Rattle.mst_key.specs.Map.{AllAbove, IsAscending, Pair, key_cmp}
pub use Rattle.mst_key.specs.declared.format.Format.{Format}
pub use Rattle.mst_key.specs.declared.history.Edit.{Edit}
pub use Rattle.mst_node.proofs.TreeEquation.{Has, entries_at_layer, tree-no_pairs, tree_some}
pub use Rattle.mst_node.proofs.UniqueTree.{gap-lower, keys_under, pairs_tree, tree_mst, tree_unique}
pub use Rattle.mst_node.specs.Cost.{cost, is_subtree, new_rows}
pub use Rattle.mst_node.specs.Shape.{TreeEntry, with_entries}
pub use Rattle.mst_node.specs.Text.{digest}
pub use Rattle.mst_node.specs.Trail.{by_order}
pub use Rattle.mst_node.specs.Tree.{Entries, IsMst, IsMstEntries, IsUnder, Tree, entries_pairs, entry_count, pairs, tree}
pub use Rattle.mst_path.proofs.lemmas.rows.CopyRows.{all_in, at_self, kept_at, old_alive}
pub use Rattle.mst_path.proofs.lemmas.rows.Moving.{alive_out, moves_none, moves_takes, moves_then, old_stays}
pub use Rattle.mst_path.proofs.lemmas.steps.Felling.{Felling, height_read, lower}
pub use Rattle.mst_path.proofs.lemmas.steps.Untouched.{old_piece_later}
pub use Rattle.mst_path.proofs.lemmas.trees.Made.{piece_alive}
pub use Rattle.mst_path.proofs.lemmas.versions.Changes.{after_change, distinct_times, mst_of, one_standing, rises, unchanged_map}
pub use Rattle.mst_path.specs.AfterChange.{AfterChange}
pub use Rattle.mst_path.specs.Changing.{AreOld, MapStands}
pub use Rattle.mst_path.specs.Felling.{ToFell}
pub use Rattle.mst_path.specs.Joining.{height_at}
pub use Rattle.mst_path.specs.Making.{Grown}
pub use Rattle.mst_path.specs.Moves.{IsNew, IsOld, Moves}
pub use Rattle.mst_path.specs.Runs.{OldPiece}
pub use Rattle.mst_path.specs.Takes.{KeepsBut, Takes}
pub use Rattle.mst_path.specs.Writing.{IsRootOf, ahead}
pub use Rattle.mst_path.specs.declared.node_writer.NodeWriter.{NodeWriter}
pub use Rattle.mst_read.proofs.Descend.{depth}
pub use Rattle.mst_read.proofs.Still.{behind_still, lies_still}
pub use Rattle.mst_read.proofs.Walk.{AtCell, Onward, at_cell, at_end, further}
pub use Rattle.mst_read.specs.Search.{Lies, LiesBehind, TreeLies, chain_links, head_of}
pub use Rattle.std.proofs.Common.{Bool, Bor, Equal, Greater, IfSome, IsSome, Less, List, None, Option, Some, [], ap, append_assoc, arith, drop, eqb, false, filter, get_or, inl, inr, is_eq, is_gt, is_lt, length, length-append, length-drop, map, max, not, refl, rules, subst, suc, sym, take, true, true≢false, zero, ℕ, ◌*◌, ◌++◌, ◌+◌, ◌-◌, ◌<◌, ◌==◌, ◌||◌, ◌∙◌, ◌∷◌, ◌≡◌, ◌≢◌, ◌≤◌, ◌⊎◌}
pub use Rattle.std.proofs.lemmas.Bool.{eq-eqb, eqb-true}
pub use Rattle.std.proofs.lemmas.Bool.Decides.{nat_tests}
pub use Rattle.std.proofs.lemmas.Grind.{common_steps}
pub use Rattle.std.proofs.lemmas.List.{append-nil, at_drop_all, drop_more, get_or-drop, length-map, map-append, take-append-drop, take_all, take_more}
pub use Rattle.std.proofs.lemmas.List.Elements.{Contains-append_cases, Contains-append_left, Contains-append_right}
pub use Rattle.std.proofs.lemmas.List.Sums.{count_by-le-length}
pub use Rattle.std.proofs.lemmas.Option.{same_Some}
pub use Rattle.std.proofs.lemmas.Result.{IfOk-weaker, on_ok_weaker}
pub use Rattle.std.specs.List.{AllByRecursion, flat_map, list_any}
pub use Rattle.std.specs.Option.{option_map_or}
pub use Rattle.std.specs.Prelude.{Contains, Err, Ok, Result, if◌then◌else◌, min, option_and_then, slice_range, ◌^◌, ◌↔◌}
pub use Rattle.std.specs.declared.cmp.Ordering.{Ordering}
