use Rattle.std.proofs.Common.{sym, subst}
use Rattle.mst_prefix.specs.Kept.{TakenBy, TakenWith}
use Rattle.mst_prefix.proofs.hasher.TextHasher.finish.Goals as goal

pub returns-in-Some-clause-digest : goal.returns-in-Some-clause-digest
returns-in-Some-clause-digest g c = λ m taken.
    c.finalize-in-Some.ensures m (c.let_go.ensures.taken m
    (subst (λ b. TakenWith c.args.self.hasher b m) (sym c.deref_mut.ensures.value)
    (subst (λ l. TakenBy c.args.self.hasher l m) c.in-Some.is taken)))

pub returns-in-Some-clause-sound : goal.returns-in-Some-clause-sound
returns-in-Some-clause-sound g c =
    let m = c.requires.taken.0 in
    let taken = subst (λ b. TakenWith c.args.self.hasher b m) (sym c.deref_mut.ensures.value)
    (subst (λ l. TakenBy c.args.self.hasher l m) c.in-Some.is c.requires.taken.1)
    in
    let all = c.let_go.ensures.empty m taken c.let_go.new.hasher m
    (c.let_go.ensures.taken m taken)
    in
    (all.0, all.1)
