-- The names of std, of specs and of the crates below that proofs of this crate use.
pub use Rattle.hex.specs.Hex.{encode_lower}
pub use Rattle.mst_devices.proofs.Putting.{breaks_more, on_err, puts_breaks, puts_then}
pub use Rattle.mst_devices.specs.Device.{Breaks, Puts}
pub use Rattle.mst_lines.specs.Lines.{longest_line}
pub use Rattle.mst_requests.specs.Batches.{before, edits_in, edits_read, told}
pub use Rattle.mst_requests.specs.Fields.{fields_behind, fields_of, number_up_to, spelt}
pub use Rattle.mst_requests.specs.Grammar.{IsDealt, asked}
pub use Rattle.mst_requests.specs.Texts.{line_of, pair_lines, pair_words}
pub use Rattle.mst_requests.specs.declared.request.Fault.{Fault}
pub use Rattle.mst_requests.specs.declared.request.Fault.TheVariants.{FieldCount}
pub use Rattle.std.proofs.Common.{Bool, IfSome, List, None, Option, Some, [], ap, append-nil, append_assoc, arith, cond, drop, false, get_or, length, refl, rules, subst, sym, take, true, ℕ, ◌*◌, ◌++◌, ◌+◌, ◌-◌, ◌<◌, ◌==◌, ◌∙◌, ◌∷◌, ◌≡◌, ◌≤◌}
pub use Rattle.std.proofs.lemmas.Grind.{common_steps}
pub use Rattle.std.proofs.lemmas.List.{take-append-drop}
pub use Rattle.std.specs.Char.{is_ascii_digit}
pub use Rattle.std.specs.List.{list_all}
pub use Rattle.std.specs.Prelude.{Err, IfOk, Ok, Result, nat_le, ◌&&◌}
pub use Rattle.std.specs.Result.{result_err}
