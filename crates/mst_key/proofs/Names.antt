-- The names of std, of specs and of the crates below that proofs of this crate use.
pub use Rattle.mst_key.specs.Bytes.{IsKey, IsValue}
pub use Rattle.mst_key.specs.History.{History, IsEdited, IsPrefix, after, after_from, batched, changed, edited, events_of, format_after, had, key_of, reply, value_after, value_of, was}
pub use Rattle.mst_key.specs.Layer.{digits, zeros_in_front}
pub use Rattle.mst_key.specs.Map.{AllAbove, AllBelow, IsAscending, IsMap, Pair, key_cmp, map_get, put, remove}
pub use Rattle.mst_key.specs.declared.format.Format.{Format}
pub use Rattle.mst_key.specs.declared.format.Format.TheVariants.{One, Two}
pub use Rattle.mst_key.specs.declared.history.Change.{Change}
pub use Rattle.mst_key.specs.declared.history.Change.TheVariants.{Batch, Migrate, Put, Remove}
pub use Rattle.mst_key.specs.declared.history.Edit.{Edit}
pub use Rattle.sha2.proofs.Facts256.{length-sha256}
pub use Rattle.sha2.specs.Sha256.{sha256}
pub use Rattle.std.proofs.Common.{Bool, Contains, Equal, Greater, Less, List, None, Option, Ordering, Some, [], ap, append_assoc, arith, cond, false, filter, inl, inr, is_eq, is_gt, is_lt, length, length-append, not, refl, rules, subst, suc, sym, true, true≢false, zero, ℕ, ◌*◌, ◌++◌, ◌+◌, ◌<◌, ◌==◌, ◌∙◌, ◌∷◌, ◌≡◌, ◌≢◌, ◌≤◌, ◌⊎◌}
pub use Rattle.std.proofs.lemmas.Bool.{cond-false, cond-true, cond_both}
pub use Rattle.std.proofs.lemmas.Grind.{elements}
pub use Rattle.std.proofs.lemmas.List.{append-nil}
pub use Rattle.std.proofs.lemmas.List.Elements.{All-contains, All-from_recursion, Contains-append_right, filter-append}
pub use Rattle.std.specs.List.{AllByRecursion}
