-- The names of std, of specs and of the crates below that proofs of this crate use.
pub use Rattle.mst_change.specs.Cost.{entries_remove_rows, gap_rows, join_first_rows, join_last_rows, join_node_rows, join_rows, put_among_rows, put_cost, put_gap_rows, put_rows, remove_cost, remove_rows, side_rows, split_rows}
pub use Rattle.mst_change.specs.Gap.{IsAt, IsGap}
pub use Rattle.mst_change.specs.Join.{join, join_first, join_last, join_node}
pub use Rattle.mst_change.specs.Parts.{cells, first_child, is_empty, last_child, node_of, with_first}
pub use Rattle.mst_change.specs.Put.{put_among, put_at, put_in_gap, tree_put}
pub use Rattle.mst_change.specs.Remove.{entries_remove, tree_remove}
pub use Rattle.mst_change.specs.Split.{above, below, entries_above, entries_below}
pub use Rattle.mst_key.proofs.Alls.{alls-back, alls-weaker}
pub use Rattle.mst_key.proofs.KeyOrder.{equal_from_same, greater_from_less, key_cmp-itself}
pub use Rattle.mst_key.proofs.Splits.{IsAscending-above, IsAscending-below}
pub use Rattle.mst_key.specs.History.{batched}
pub use Rattle.mst_key.specs.Layer.{layer_in}
pub use Rattle.mst_key.specs.Map.{AllAbove, AllBelow, IsAscending, Pair, key_cmp, map_get}
pub use Rattle.mst_key.specs.declared.format.Format.{Format}
pub use Rattle.mst_node.proofs.InTrees.{InEntries, InTree, is_new, is_old, pairs_hold}
pub use Rattle.mst_node.proofs.SameTrees.{same_from_tree}
pub use Rattle.mst_node.proofs.UniqueTree.{pairs_tree, tree_mst, tree_unique}
pub use Rattle.mst_node.specs.Cost.{cost, is_subtree, new_rows, same_bytes, same_tree, subtrees, top_entries, weight}
pub use Rattle.mst_node.specs.Shape.{TreeEntry, with_entries}
pub use Rattle.mst_node.specs.Trail.{by_order}
pub use Rattle.mst_node.specs.Tree.{Entries, IsMst, IsMstEntries, IsUnder, Tree, empty, entries_pairs, entry, entry_count, last, node, pairs, tree}
pub use Rattle.std.proofs.Common.{Bool, Equal, Greater, Less, List, None, Option, Some, [], ap, append_assoc, arith, cond, false, filter, inl, inr, length, length-append, not, refl, subst, sym, true, ℕ, ◌&&◌, ◌++◌, ◌+◌, ◌<◌, ◌==◌, ◌||◌, ◌∙◌, ◌∷◌, ◌≡◌, ◌≤◌}
pub use Rattle.std.proofs.lemmas.Bool.{cond-false, cond_both}
pub use Rattle.std.proofs.lemmas.Bool.Decides.{nat_tests}
pub use Rattle.std.proofs.lemmas.List.{append-nil}
pub use Rattle.std.proofs.lemmas.List.Elements.{filter-append}
pub use Rattle.std.proofs.lemmas.List.Sums.{sum_by-cons}
pub use Rattle.std.specs.List.{AllByRecursion, sum_by}
pub use Rattle.std.specs.Option.{option_map_or}
