use Rattle.mst_node.proofs.Names.{◌++◌, ℕ, List, length, subst, sym, ap, ◌∙◌, arith, take_all}
use Rattle.mst_node.proofs.sinks.take_bytes.Goals as goal

pub slice_bounds-take-end-in-32 : goal.slice_bounds-take-end-in-32
slice_bounds-take-end-in-32 g c =
    sym (ap length (take_all 32 c.args.bytes.now (omega (arith, c.in-32.is))) ∙ c.in-32.is)

pub returns-in-32 : goal.returns-in-32
returns-in-32 g c = record {
  took = λ m took. subst
      (λ (xs : List ℕ). g.S.TextSink.took c.take-in-32.new.self (m ++ xs))
      (take_all 32 c.args.bytes.now (omega (arith, c.in-32.is)))
      (c.take-in-32.ensures.took m took);
}
