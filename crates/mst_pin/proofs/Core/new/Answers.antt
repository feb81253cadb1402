use Rattle.mst_pin.proofs.Names.{rules, ◌∙◌, ap, sym, subst, replicate, arith, Words, IsKept, state_of}
use Rattle.mst_pin.specs.Core.{state}
use Rattle.mst_pin.proofs.Cores.{fresh_kept, fresh_state}
use Rattle.mst_pin.proofs.Core.new.Goals as goal

pub invariant_of-result : goal.invariant_of-result
invariant_of-result c =
    record {
      kept = subst (λ (w : Words). IsKept c.args.passes w) (sym c.new.ensures)
          (fresh_kept c.args.passes (omega arith) (omega arith));
    }

pub returns-clause-opening : goal.returns-clause-opening
unfolding state
returns-clause-opening c = ap (λ (w : Words). state_of c.args.passes w (replicate 34 0))
    c.new.ensures ∙ fresh_state c.args.passes (omega arith) (omega arith)

pub returns-then-passes-eq0-clause-in_range : goal.returns-then-passes-eq0-clause-in_range
returns-then-passes-eq0-clause-in_range c = search rules

pub returns-then-passes-eq0-clause-opening : goal.returns-then-passes-eq0-clause-opening
returns-then-passes-eq0-clause-opening c = search rules

pub returns-clause-in_range : goal.returns-clause-in_range
returns-clause-in_range c = search rules
