use Rattle.mst_versions.proofs.Names.{ℕ, sym, subst, IsReadable}
use Rattle.mst_versions.proofs.roots.field.Goals as goal

pub load-requires-clause-readable : goal.load-requires-clause-readable
load-requires-clause-readable g c = subst (λ (i : ℕ). IsReadable c.args.seat.now.me.0 i)
    (sym c.record_word.ensures.place) (c.requires.readable c.args.k c.requires.there.1)
