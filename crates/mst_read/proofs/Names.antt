-- The names of std, of specs and of the crates below that proofs of this crate use.
pub use Rattle.mst_arena.proofs.EntryParts.{links_at}
pub use Rattle.mst_arena.proofs.Stands.{all-back, all-front}
pub use Rattle.mst_arena.specs.Content.{Content, part_at}
pub use Rattle.mst_arena.specs.Row.{IsHead, entry_pair, entry_value, keyed_links}
pub use Rattle.mst_arena.specs.Standing.{Chain, HasRows, Placed, Stands, cell, chain_rows, count_of, end, entries_of, first_of, head, link_of, none, rows_of, tail_of, tree_of}
pub use Rattle.mst_arena.specs.Ways.{entry_way}
pub use Rattle.mst_arena.specs.declared.row.HeadLinks.{HeadLinks}
pub use Rattle.mst_arena.specs.declared.row.KeyedLinks.{KeyedLinks}
pub use Rattle.mst_arena.specs.declared.row.Root.{Root}
pub use Rattle.mst_arena.specs.declared.row.Row.{Row}
pub use Rattle.mst_arena.specs.declared.row.Row.TheVariants.{Entry}
pub use Rattle.mst_key.proofs.KeyOrder.{equal_from_same, greater_from_less, less_chain, less_from_greater, same_from_equal}
pub use Rattle.mst_key.proofs.Splits.{IsAscending-above, IsAscending-back, IsAscending-below, IsAscending-front}
pub use Rattle.mst_key.specs.Map.{AllBelow, IsAscending, Pair, above, below, key_cmp, map_get}
pub use Rattle.mst_key.specs.declared.format.Format.{Format}
pub use Rattle.mst_node.proofs.UniqueTree.{tree_mst}
pub use Rattle.mst_node.specs.Text.{child_digest, child_text, counted, format_byte, heading, held_of, held_text, text}
pub use Rattle.mst_node.specs.Trail.{by_order, framed, trail}
pub use Rattle.mst_node.specs.Tree.{IsMst, IsMstEntries, IsUnder, Tree, entries_pairs, node, pairs}
pub use Rattle.mst_read.specs.Search.{Lies, LiesBehind, LinkStands, StandsBelow, TreeLies, chain_links, entry_above, gap_placed, head_of, place}
pub use Rattle.mst_read.specs.Span.{HeadStands, PartStands, filled, past_gap, rest_from}
pub use Rattle.mst_read.specs.declared.lookup.RowPlace.{RowPlace}
pub use Rattle.mst_read.specs.declared.lookup.RowPlace.TheVariants.{Found, Gap}
pub use Rattle.std.proofs.Common.{Bool, IsSome, List, None, Option, Some, [], ap, append_assoc, arith, cond, false, inl, inr, is_gt, is_lt, length, length-append, map, option_and_then, refl, rules, subst, suc, sym, true, true≢false, ℕ, ◌*◌, ◌++◌, ◌+◌, ◌-◌, ◌<◌, ◌∙◌, ◌∷◌, ◌≡◌, ◌≤◌, ◌⊎◌}
pub use Rattle.std.proofs.lemmas.Bool.{cond-true}
pub use Rattle.std.proofs.lemmas.List.{append-nil}
pub use Rattle.std.proofs.lemmas.Option.{same_Some}
pub use Rattle.std.specs.Int.{to_be_bytes, w32}
pub use Rattle.std.specs.Option.{option_copied}
pub use Rattle.std.specs.Prelude.{IfSome}
pub use Rattle.std.specs.declared.cmp.Ordering.{Ordering}
pub use Rattle.std.specs.declared.cmp.Ordering.TheVariants.{Equal, Greater, Less}
