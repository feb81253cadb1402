-- The names of std, of specs and of the crates below that proofs of this crate use.
pub use Rattle.hex.specs.Hex.{encode_lower}
pub use Rattle.mst_devices.proofs.Putting.{map_err, map_ok}
pub use Rattle.mst_key.proofs.HistoryLaws.{IsPrefix-itself}
pub use Rattle.mst_key.specs.History.{History, IsPrefix, Reply, after, done, events_of, format_after, had, was}
pub use Rattle.mst_key.specs.Map.{Pair, map_get}
pub use Rattle.mst_key.specs.declared.format.Format.{Format}
pub use Rattle.mst_key.specs.declared.history.Change.{Change}
pub use Rattle.mst_key.specs.declared.history.Edit.{Edit}
pub use Rattle.mst_node.specs.Tree.{tree}
pub use Rattle.mst_requests.specs.Answers.{text_of}
pub use Rattle.mst_requests.specs.Grammar.{asked}
pub use Rattle.mst_requests.specs.Texts.{fault_words, line_of, pinned_words, reply_words, rows_words, value_words}
pub use Rattle.mst_requests.specs.declared.request.Command.{Command}
pub use Rattle.mst_requests.specs.declared.request.Command.TheVariants.{Batch, Get, Migrate, Next, Node, Prove, Put, Range, Remove, Root, Rows, Unpin}
pub use Rattle.mst_requests.specs.declared.request.Fault.{Fault}
pub use Rattle.mst_requests.specs.declared.request.Request.{Request}
pub use Rattle.mst_script.specs.Machine.{Acts, AnswersRequest, Applies, Counts, Line, Machine, Migrates, Step, StepOf, Writes, top_words, with_no_pins}
pub use Rattle.mst_script.specs.Scripts.{RanScript, StoppedScript}
pub use Rattle.mst_script.specs.Serving.{AreAllOf, Gathers, IsNowhere, IsPlace, KnowsPins, Released, Roster, SawItself, Serves, Shows, Turn, everyone, is_pin, roster}
pub use Rattle.mst_store.proofs.AllPasses.{all_of_back, all_of_front, numbers-append}
pub use Rattle.mst_store.specs.Passes.{Known, Looks, StoreId, format_seen, having_asked, new_passes}
pub use Rattle.mst_store.specs.Settling.{AreAllPasses, Settled, having_seen, numbers}
pub use Rattle.mst_versions.specs.Writes.{rows_of}
pub use Rattle.std.proofs.Common.{Bool, List, None, Option, Some, [], ap, append-nil, arith, cond, eq-eqb, get_or, inl, inr, length, length-append, map, refl, rules, set, subst, suc, sym, zero, ℕ, ◌++◌, ◌+◌, ◌<◌, ◌^◌, ◌∙◌, ◌∷◌, ◌≡◌, ◌≢◌, ◌≤◌, ◌⊎◌}
pub use Rattle.std.proofs.lemmas.Bool.{false≢true}
pub use Rattle.std.proofs.lemmas.List.Elements.{All-append, All-cons, All-contains, All-head, All-map, All-nil, All-tail}
pub use Rattle.std.proofs.lemmas.List.Sorted.{All-permutation, Contains-permutation, IsPermutation-append_left, IsPermutation-map, IsPermutation-refl, IsPermutation-sym, IsPermutation-trans}
pub use Rattle.std.specs.List.{All, Contains, swap_remove}
pub use Rattle.std.specs.List.Sorted.{IsPermutation}
pub use Rattle.std.specs.Option.{option_copied}
pub use Rattle.std.specs.Prelude.{Err, Ok, Result, codes}
pub use mathlib.Core.Logic.{dite}
pub use native.Mathlib.Decide.{ℕ_discrete}
