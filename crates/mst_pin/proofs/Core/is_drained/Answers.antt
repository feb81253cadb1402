use Rattle.mst_pin.proofs.Names.{ℕ, ◌<◌, ◌+◌, eq-eqb, eqb-true, arith, dite, ℕ_discrete}
use Rattle.std.specs.Prelude.{slice_index}
use Rattle.mst_pin.specs.Core.{state}
use Rattle.mst_pin.proofs.Options.{due_none, on_false}
use Rattle.mst_pin.proofs.Cores.{drained_from_done, pinner_from_done}
use Rattle.mst_pin.proofs.Core.is_drained.Goals as goal

pub bounds-self-number : goal.bounds-self-number
unfolding state
bounds-self-number c = let h = c.args.self.now.kept.passes_in in let l = c.requires.record_in in
    omega arith

pub returns-clause-drained : goal.returns-clause-drained
unfolding state
returns-clause-drained c = let s = c.args.self.now in let r : ℕ = c.args.number in let settled =
    due_none s.words.returned c.requires.settled in
    let within : r < s.passes + 2 = c.requires.record_in in (
      λ t. drained_from_done s.passes s.words s.rows r s.kept settled within c.requires.spare
          (eqb-true (slice_index s.words.done r) 0 t),
      λ h. dite (ℕ_discrete (slice_index s.words.done r) 0)
          (λ is. eq-eqb (slice_index s.words.done r) 0 is)
          (λ not. let b = pinner_from_done s.passes s.words s.rows r s.kept settled within
          c.requires.spare not in absurd (h b.0 b.1)),
    )

pub returns-clause-pinned : goal.returns-clause-pinned
unfolding state
returns-clause-pinned c = let s = c.args.self.now in let r : ℕ = c.args.number in let settled =
    due_none s.words.returned c.requires.settled in
    let within : r < s.passes + 2 = c.requires.record_in in
    on_false (slice_index s.words.done r) _
    (λ not. pinner_from_done s.passes s.words s.rows r s.kept settled within c.requires.spare
    not)
