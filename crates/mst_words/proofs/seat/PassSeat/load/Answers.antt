use Rattle.mst_words.proofs.Names.{Option, ap, sym, subst, rules, Me, View, Seated, IsReadable}
use Rattle.mst_arena.specs.Lives as lives
use Rattle.mst_words.proofs.seat.PassSeat.load.Goals as goal

pub load-requires-clause-own : goal.load-requires-clause-own
load-requires-clause-own g c = search rules

pub load-requires-clause-there : goal.load-requires-clause-there
load-requires-clause-there g c = search rules

pub load-requires-clause-readable : goal.load-requires-clause-readable
load-requires-clause-readable g c =
    subst (λ (m : Me (Option lives.State) View). IsReadable m.0 c.args.word)
    (sym (ap (λ (z : Seated). z.me) c.self.view_is)) c.requires.readable

pub returns-clause-same : goal.returns-clause-same
returns-clause-same g c = search rules

pub returns-clause-value : goal.returns-clause-value
returns-clause-value g c = search rules

pub invariant_of-self : goal.invariant_of-self
invariant_of-self g c = search rules
