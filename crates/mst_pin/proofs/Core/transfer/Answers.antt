use Rattle.mst_pin.proofs.Names.{◌∙◌, ap, sym, subst, arith, Words, IsKept, state_of}
use Rattle.mst_pin.specs.Core.{state}
use Rattle.mst_pin.proofs.Cores.{transfer_kept, transfer_state}
use Rattle.mst_pin.proofs.Options.{due_is_some}
use Rattle.mst_pin.proofs.WordSteps.{transferred_parts}
use Rattle.mst_pin.proofs.Core.transfer.Goals as goal

pub unwrap-due-requires : goal.unwrap-due-requires
unfolding state
unwrap-due-requires c = due_is_some c.args.self.now.words.returned c.requires

pub invariant_of-self : goal.invariant_of-self
unfolding state
invariant_of-self c = let s = c.args.self.now in let d = c.unwrap-due.result in
    record {
      kept = subst (λ (w : Words). IsKept s.passes w)
          (sym (transferred_parts s.words c.xor_done.new.self d c.xor_done.ensures))
          (transfer_kept s.passes s.words s.rows d s.kept c.unwrap-due.ensures (omega arith));
    }

pub returns-clause-after : goal.returns-clause-after
unfolding state
returns-clause-after c = let s = c.args.self.now in let d = c.unwrap-due.result in
    ap (λ (w : Words). state_of s.passes w s.rows)
    (transferred_parts s.words c.xor_done.new.self d c.xor_done.ensures)
    ∙ transfer_state s.passes s.words s.rows d s.kept c.unwrap-due.ensures (omega arith)
