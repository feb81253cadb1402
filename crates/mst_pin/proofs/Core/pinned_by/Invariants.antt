use Rattle.mst_pin.proofs.Names.{◌≢◌, ℕ, ◌<◌, ◌-◌, bit_at, pinned_mask}
use Rattle.mst_pin.proofs.Core.pinned_by.Given as goal

abbrev pub invariant-loop-number : goal.invariant-loop-number
invariant-loop-number l = (r : ℕ) → r < l.number → bit_at (pinned_mask l.self.words r) (l.pass - 1)
    ≢ 1
