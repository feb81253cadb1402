-- The names of std, of specs and of the crates below that proofs of this crate use.
pub use Rattle.mst_pin.specs.State.{State, Steps, opening, row_set}
pub use Rattle.mst_pin.specs.declared.event.Answer.{Answer}
pub use Rattle.mst_pin.specs.declared.event.Event.TheVariants.{Pin, Transfer}
pub use Rattle.mst_replay.specs.Line.{IsSpelt, rows_text}
pub use Rattle.mst_replay.specs.Replay.{Obeys, Replays}
pub use Rattle.mst_replay.specs.Reply.{reply_of}
pub use Rattle.mst_replay.specs.Rest.{IsRest, rest_text}
pub use Rattle.mst_replay.specs.declared.command.Command.{Command}
pub use Rattle.mst_replay.specs.declared.command.Command.TheVariants.{Open, Take}
pub use Rattle.mst_replay.specs.declared.reply.Reply.{Reply}
pub use Rattle.mst_replay.specs.declared.reply.Reply.TheVariants.{FaultLine, Records}
pub use Rattle.std.proofs.Common.{List, None, Option, Some, [], ap, arith, bit_or, drop, eqb, false, get_or, inl, inr, length, refl, rules, subst, suc, sym, take, true, zero, ℕ, ⊎_elim, ◌%◌, ◌*◌, ◌++◌, ◌+◌, ◌-◌, ◌<◌, ◌^◌, ◌∙◌, ◌∷◌, ◌≡◌, ◌≢◌, ◌≤◌}
pub use Rattle.std.proofs.lemmas.Fmt.{decimal_digit}
pub use Rattle.std.specs.Fmt.{decimal}
pub use Rattle.std.specs.Prelude.{codes}
pub use mathlib.Core.Logic.{dite}
pub use native.Mathlib.Decide.{dec_le, ℕ_discrete}
