-- The names of std, of specs and of the crates below that proofs of this crate use.
pub use Rattle.core.proofs.alloc.Calls.{Fits, Goes-blank, handle_tells, token}
pub use Rattle.mst_c.specs.Batches.{edit_at, edit_bytes, edit_of, edits_bytes, edits_from, placed, size_bytes, ◌>>=◌}
pub use Rattle.mst_c.specs.Owning.{hand_owns}
pub use Rattle.mst_c.specs.Ranges.{pair_bytes, pairs_bytes, written}
pub use Rattle.mst_c.specs.Told.{bytes_code, room_after, size_after}
pub use Rattle.mst_c.specs.declared.hand.PaddedHand.{PaddedHand}
pub use Rattle.mst_c.specs.declared.packing.EditFault.{EditFault}
pub use Rattle.mst_c.specs.declared.packing.EditFault.TheVariants.{Form, KeySize, ValueSize}
pub use Rattle.mst_c.specs.declared.pass_box.State.{State}
pub use Rattle.mst_c.specs.declared.pass_box.State.TheVariants.{Free}
pub use Rattle.mst_key.specs.Bytes.{IsKey}
pub use Rattle.mst_key.specs.Map.{Pair}
pub use Rattle.mst_key.specs.declared.history.Edit.{Edit}
pub use Rattle.mst_key.specs.declared.history.Edit.TheVariants.{Put, Remove}
pub use Rattle.mst_store.specs.Passes.{Known, new_pass, new_passes}
pub use Rattle.std.proofs.Common.{Bool, List, [], ap, append-nil, append_assoc, arith, drop, false, get_or, if◌then◌else◌, length, lit<, nat_lt, of_z, refl, rules, subst, suc, sym, take, to_z, w32, zero, ℕ, ◌++◌, ◌+◌, ◌<◌, ◌∙◌, ◌∷◌, ◌≡◌, ◌≤◌}
pub use Rattle.std.proofs.lemmas.Bool.{false≢true}
pub use Rattle.std.proofs.lemmas.Bool.Decides.{nat_tests}
pub use Rattle.std.proofs.lemmas.List.{drop_at, length-append, length-take-le, take-append-drop, take_at}
pub use Rattle.std.proofs.raw_atomic.Walks.{proved_at}
pub use Rattle.std.specs.Int.{from_be_bytes, to_be_bytes, w16}
pub use Rattle.std.specs.Prelude.{Err, None, Ok, Option, Result, Some, is_ok, vec_len}
pub use Rattle.std_alloc.proofs.BoxSteps.Form.{B, Bx, P, R, box_ty, box_typed, handle, word, τ}
pub use Rattle.std_alloc.proofs.BoxSteps.Steps.{box_in, box_out}
pub use Rattle.std_alloc.proofs.ResultValues.{and_tt}
pub use Rattle.std_alloc.proofs.VecSteps.Shapes.{after}
pub use Rattle.std_alloc.specs.Box.Ownership.{box_owns}
pub use mathlib.Core.Bool.{true, ◌&&◌}
