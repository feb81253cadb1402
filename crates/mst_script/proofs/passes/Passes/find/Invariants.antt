use Rattle.mst_script.proofs.Finding.{IsNotYet}
use Rattle.mst_script.proofs.passes.Passes.find.Given as goal

-- it stands at no place so far
abbrev pub invariant-loop-place : goal.invariant-loop-place
invariant-loop-place g l = IsNotYet l.pinned-items l.place l.number

abbrev pub invariant-loop-place-2 : goal.invariant-loop-place-2
invariant-loop-place-2 g l = IsNotYet l.pass-items l.place l.number
