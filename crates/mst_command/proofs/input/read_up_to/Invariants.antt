use Rattle.std.proofs.Common.{◌≡◌, ◌≤◌, length}
use Rattle.mst_command.proofs.input.read_up_to.Given as goal

-- the bytes so far are kept
abbrev pub invariant-loop-count : goal.invariant-loop-count
invariant-loop-count g l = record {
  failures : g.S.Source.failures l.source ≡ g.S.Source.failures l.fn.source;
  given : g.S.Source.gives l.fn.source l.bytes.items l.source;
  within : length l.bytes.items ≤ l.fn.most;
}

abbrev pub decreases-loop-count : goal.decreases-loop-count
decreases-loop-count g l = g.S.Source.left l.source
