use Rattle.std.proofs.Common.{◌++◌, sym, subst}
use Rattle.mst_prefix.specs.Kept.{TakenWith}
use Rattle.mst_prefix.proofs.beginnings.Beginnings.take.Goals as goal

pub returns-in-Err-clause-took : goal.returns-in-Err-clause-took
returns-in-Err-clause-took g c = λ m taken.
    let same = subst (λ piece. TakenWith c.args.hasher.now
    (record c.args.self.now { piece = piece }) m)
    (sym c.in-Err.ensures.err) taken
    in
    c.let_go.ensures.empty m same c.update.new.self (m ++ c.args.bytes.now)
    (c.update.ensures m (c.let_go.ensures.taken m same))
