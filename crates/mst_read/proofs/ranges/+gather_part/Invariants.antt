use Rattle.mst_read.proofs.Names.{◌≡◌, None, entries_pairs, entries_of, filled}
use Rattle.mst_read.proofs.Walk.{Onward}
use Rattle.mst_read.proofs.Gathering.{Rest, SomePart}
use Rattle.mst_read.proofs.ranges.+gather_part.Given as goal

-- layers fall
abbrev pub decreases-gather_part : goal.decreases-gather_part
decreases-gather_part g l = l.part.now.layer

-- what is found so far, with what the rest of the part adds, is what the whole part gives
abbrev pub invariant-loop : goal.invariant-loop
invariant-loop g l = record {
  same : l.rows ≡ l.fn.rows;
  onward : (s : SomePart (g.R.Rows.content l.fn.rows) l.fn.part)
      → Onward s.0 (g.R.Rows.content l.fn.rows) l.part.tail l.link l.counter l.end
      (Rest l.to l.limit s.0 l.part.layer l.found.items
      (filled None l.to l.limit l.fn.found.items
      (entries_pairs (entries_of s.0 s.1))));
}
