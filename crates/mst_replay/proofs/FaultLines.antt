-- Which lines are answered `fault line`.
use Rattle.mst_replay.proofs.Names.{◌≡◌, inl, inr, ℕ, List, Option, None, Some, State, Answer, Command, Open, Take, Reply, FaultLine, IsSpelt, Replays, reply_of}
use Rattle.mst_pin.specs.declared.event.Answer.TheVariants as answer

pub no_command : (s t : Option State) (line : List ℕ) (reply : Reply)
    → ((c : Command) → IsSpelt c line → ⊥) → Replays s line reply t → (reply ≡ FaultLine) × (t ≡ s)
no_command s t line reply none (inl (c, spelt, obeyed)) = absurd (none c spelt)
no_command s t line reply none (inr (other, fault, same)) = (fault, same)

pub before_the_core : (t : Option State) (line : List ℕ) (reply : Reply)
    → ((n : ℕ) → IsSpelt (Open n) line → ⊥) → Replays None line reply t → (reply ≡ FaultLine)
    × (t ≡ None)
before_the_core t line reply none (inl (Open n, spelt, obeyed)) = absurd (none n spelt)
before_the_core t line reply none (inl (Take e, spelt, obeyed)) = (obeyed.0, obeyed.1)
before_the_core t line reply none (inr (other, fault, same)) = (fault, same)

no_answer : (a : Answer) → FaultLine ≡ reply_of a → ⊥
no_answer (answer.Record r) e = cc e
no_answer answer.Done e = cc e
no_answer answer.Yes e = cc e
no_answer answer.No e = cc e
no_answer answer.Refused e = cc e

pub fault_at_core : (s : State) (t : Option State) (line : List ℕ) → Replays (Some s) line FaultLine
    t → (c : Command) → IsSpelt c line → ⊥
fault_at_core s t line (inl (Open n, spelt, obeyed)) = absurd (cc obeyed.0)
fault_at_core s t line (inl (Take e, spelt, obeyed)) = absurd (no_answer obeyed.0 obeyed.3)
fault_at_core s t line (inr (other, fault, same)) = other
