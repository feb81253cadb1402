-- The names of std, of specs and of the crates below that proofs of this crate use.
pub use Rattle.mst_arena.specs.Bits.{BitWritten, Sums, bit, count_true, flags}
pub use Rattle.mst_arena.specs.Content.{Content, part_at}
pub use Rattle.mst_arena.specs.Lists.{AllOlder, AllReached, In, IsDesk, Lists, StayBut, is_at, is_dead, is_older, times}
pub use Rattle.mst_arena.specs.Lives.{State, is_free, next, reaches, reaches_life, swept_life, version, with_life}
pub use Rattle.mst_arena.specs.Row.{HasBytes, IsRow, entry_pair, entry_value, keyed_links}
pub use Rattle.mst_arena.specs.Standing.{Chain, Placed, cell, chain_used, end, head, none, rows_of, tree_of, used}
pub use Rattle.mst_arena.specs.Undone.{undone_life}
pub use Rattle.mst_arena.specs.Ways.{entry_way, words_order}
pub use Rattle.mst_arena.specs.Words.{byte_of_words, bytes_in, part_in, row_in, words_of}
pub use Rattle.mst_arena.specs.declared.life.Life.{Life}
pub use Rattle.mst_arena.specs.declared.life.Life.TheVariants.{Born, Dead, Free}
pub use Rattle.mst_arena.specs.declared.row.KeyedLinks.{KeyedLinks}
pub use Rattle.mst_arena.specs.declared.row.Row.{Row}
pub use Rattle.mst_arena.specs.declared.row.Row.TheVariants.{Entry, Head}
pub use Rattle.mst_arena.specs.declared.sought.Way.{Way}
pub use Rattle.mst_arena.specs.declared.sought.Way.TheVariants.{Child, Here, Next}
pub use Rattle.mst_key.specs.Bytes.{IsBytes, IsKey, IsValue}
pub use Rattle.mst_key.specs.Map.{Pair, key_cmp}
pub use Rattle.mst_key.specs.declared.format.Format.{Format}
pub use Rattle.mst_node.specs.Text.{child_text, counted}
pub use Rattle.std.proofs.Common.{Bool, Equal, Greater, IsSome, Less, List, None, Option, Ordering, Some, [], ap, arith, cond, drop, eqb, false, get_or, inl, inr, length, map, refl, replicate, rules, set, subst, suc, sym, take, true, vec_capacity, vec_len, zero, ℕ, ◌%◌, ◌*◌, ◌++◌, ◌+◌, ◌-◌, ◌/◌, ◌<◌, ◌^◌, ◌∙◌, ◌∷◌, ◌≡◌, ◌≢◌, ◌≤◌, ◌⊎◌}
pub use Rattle.std.proofs.Math.ListN.{length-set}
pub use Rattle.std.proofs.lemmas.Bool.{and_from, and_parts, cases_eq, cases_lt}
pub use Rattle.std.proofs.lemmas.Bool.Decides.{nat_tests}
pub use Rattle.std.proofs.lemmas.Grind.{common_steps, elements}
pub use Rattle.std.proofs.lemmas.List.{append-nil, ext_get_or, get_or-set_other, get_or-set_same, get_or-take, length-take-le, map-set, replicate_more, take_all}
pub use Rattle.std.proofs.lemmas.List.FromFn.{get_or-map-range_with_len, length-map-range_with_len}
pub use Rattle.std.proofs.lemmas.List.Sorted.{list_any-IsPermutation}
pub use Rattle.std.proofs.lemmas.Nat.Bits.{bit_at-zero}
pub use Rattle.std.proofs.lemmas.Option.{slice_get-get_or, slice_get-map}
pub use Rattle.std.specs.Int.{bit_at, trailing_zeros, w64}
pub use Rattle.std.specs.List.{AllByRecursion, list_any, range_with_len}
pub use Rattle.std.specs.List.Sorted.{IsNonDecreasing, IsPermutation}
pub use Rattle.std.specs.Prelude.{IfSome, nat_le, nat_lt, option_and_then, option_map, slice_get, slice_index, slice_range, slice_set, ◌&&◌, ◌==◌}
