-- The names of std, of specs and of the crates below that proofs of this crate use.
pub use Rattle.mst_key.proofs.Alls.{alls-append, alls-back}
pub use Rattle.mst_key.proofs.SpanLaws.{contains-cases, contains-nothing}
pub use Rattle.mst_key.proofs.Splits.{IsAscending-back}
pub use Rattle.mst_key.specs.Bytes.{IsBytes, IsKey, IsValue}
pub use Rattle.mst_key.specs.History.{History}
pub use Rattle.mst_key.specs.Layer.{layer_in}
pub use Rattle.mst_key.specs.Map.{IsAscending, Pair, key_cmp}
pub use Rattle.mst_key.specs.declared.format.Format.{Format}
pub use Rattle.mst_key.specs.declared.format.Format.TheVariants.{One, Two}
pub use Rattle.mst_node.specs.Cost.{entries_subtrees, is_subtree, same_entries, same_format, same_tree, subtrees, top_entries}
pub use Rattle.mst_node.specs.Gaps.{IsBetween, LayersFall, LayersFallIn}
pub use Rattle.mst_node.specs.Grammar.{InGrammar, IsDigest, IsFlatEntry, IsFlatNode, IsHeld, KeysFit, flat_pairs}
pub use Rattle.mst_node.specs.Held.{HasSize}
pub use Rattle.mst_node.specs.KeyPlace.{place_among, place_of}
pub use Rattle.mst_node.specs.Reading.{behind_at, body_or_empty, child_at, entries_at, entry_at, held_at, node_at, node_of, part_at, whole, ◌>>=◌}
pub use Rattle.mst_node.specs.Scan.{Passing, Stopped, fits_behind, key_before, pass_at, passing_from, scan_at, scan_from, seen_stop, stop_at}
pub use Rattle.mst_node.specs.Seen.{seen}
pub use Rattle.mst_node.specs.Shape.{TreeEntry, tree_entry, tree_of_child, with_entries}
pub use Rattle.mst_node.specs.Stays.{held}
pub use Rattle.mst_node.specs.Text.{FlatEntry, FlatNode, child_digest, child_text, counted, digest, entry_text, flat_entries, format_byte, heading, held_of, held_text, spelling, tail_digest, text}
pub use Rattle.mst_node.specs.Top.{IsTop}
pub use Rattle.mst_node.specs.Trail.{by_order}
pub use Rattle.mst_node.specs.Tree.{Entries, IsMst, IsMstEntries, IsUnder, Tree, empty, entries_of, entries_pairs, entry, entry_count, greatest, last, layers, node, pairs, tree}
pub use Rattle.mst_node.specs.declared.key_place.KeyPlace.{KeyPlace}
pub use Rattle.mst_node.specs.declared.key_place.KeyPlace.TheVariants.{Found, Gap}
pub use Rattle.mst_node.specs.declared.node.Entry.TheViews.{the_lemmas}
pub use Rattle.mst_node.specs.declared.node.Node.{Node, out-Node}
pub use Rattle.sha2.specs.Hashers.{Holds256}
pub use Rattle.sha2.specs.Sha256.{sha256}
pub use Rattle.std.proofs.Common.{Bool, List, None, Option, Some, [], ap, append_assoc, arith, cond, drop, false, filter, get_or, inl, inr, length, length-append, length-drop, map, max, nat_lt, not, refl, rules, subst, suc, sym, take, tests, true, true≢false, zero, ℕ, ⊎_elim, ◌&&◌, ◌*◌, ◌++◌, ◌+◌, ◌-◌, ◌<◌, ◌==◌, ◌||◌, ◌↔◌, ◌∙◌, ◌∷◌, ◌≡◌, ◌≢◌, ◌≤◌, ◌⊎◌}
pub use Rattle.std.proofs.Math.Seq.{take-length}
pub use Rattle.std.proofs.lemmas.Bool.{and_from, and_parts, or_cases}
pub use Rattle.std.proofs.lemmas.Bool.Decides.{nat_tests}
pub use Rattle.std.proofs.lemmas.Cmp.{nat_list_cmp_total}
pub use Rattle.std.proofs.lemmas.Grind.{common_steps, elements}
pub use Rattle.std.proofs.lemmas.List.{append-nil, length-map, length-take, take_all, take_more}
pub use Rattle.std.proofs.lemmas.List.Folds.{list_any-append}
pub use Rattle.std.specs.Bool.{Decides}
pub use Rattle.std.specs.Int.{from_be_bytes, to_be_bytes, w16, w32}
pub use Rattle.std.specs.List.{AllByRecursion, flat_map, list_any, sum_by}
pub use Rattle.std.specs.Prelude.{Contains, IfOk, IfSome, IsSome, Result, is_some, option_copied, option_map, slice_range}
pub use Rattle.std.specs.declared.cmp.Ordering.{Ordering}
pub use Rattle.std.specs.declared.cmp.Ordering.TheVariants.{Equal, Greater, Less}
