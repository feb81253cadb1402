use Rattle.mst_replay.proofs.Names.{rules, ◌≡◌, Option, Some, inl, sym, refl, ap, subst, Answer, State, Steps, Command, Take, Reply, reply_of, Obeys}
use Rattle.mst_pin.specs.declared.event.Event.{Event}
use Rattle.mst_pin.specs.Core.{state}
use Rattle.mst_replay.specs.Replay.{state_in, core_state}
use Rattle.mst_replay.proofs.Replay.line.Goals as goal

-- an event of a core obeys where the core steps
taken : (s : Option State) (command : Command) (e : Event) (old new : State) (a : Answer)
    (reply : Reply) → command ≡ Take e → s ≡ Some old → Steps old e a new → reply ≡ reply_of a
    → Obeys s command reply (Some new)
taken s command e old new a reply is was step said =
    subst (λ (z : Option State). Obeys z command reply (Some new)) (sym was)
    (subst (λ (z : Command). Obeys (Some old) z reply (Some new)) (sym is)
    (a, new, step, said, refl))

pub returns-in-Some-core : goal.returns-in-Some-core
returns-in-Some-core c = inl (
  c.in-Some.command,
  c.in-Some.ensures.some,
  taken (core_state c.args.self.now) c.in-Some.command c.in-Take.event (state c.in-Some-core.core)
      (state c.step.new.self) c.step.result c.from.result c.in-Take.is
      (ap state_in c.in-Some-core.is) c.step.ensures.step c.from.ensures,
)

pub returns-in_default : goal.returns-in_default
returns-in_default c = search rules

pub overflow_add-result : goal.overflow_add-result
overflow_add-result c = search rules

pub returns-in-Open : goal.returns-in-Open
returns-in-Open c = search rules

pub returns-in-None : goal.returns-in-None
returns-in-None c = search rules
