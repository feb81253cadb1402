use Rattle.mst_read.proofs.Names.{◌≡◌, ◌≤◌, ◌+◌, ◌*◌, ℕ, List, ◌∷◌, length, IfSome, Pair, format_byte, trail, IsHead, StandsBelow}
use Rattle.mst_read.proofs.Descend.{depth}
use Rattle.mst_read.proofs.Trails.{Met}
use Rattle.mst_read.proofs.proving.prove_below.Given as goal

-- after the format and room for a number the texts so far begin those of the trail; no text is
-- longer than the entries of one node make it, and a layer is left for each node to come
abbrev pub invariant-loop-top : goal.invariant-loop-top
invariant-loop-top g l = record {
  same : l.rows ≡ l.fn.rows;
  limits : IfSome l.top IsHead;
  few : l.count + depth l.top ≤ 129;
  made : (texts : List ℕ) × (l.proof.items ≡ format_byte l.format ∷ 0 ∷ texts)
      × (length texts ≤ 8584995 * l.count)
      × ((m : List Pair) → StandsBelow l.format (g.R.Rows.content l.fn.rows) l.link m
      → Met l.format (g.R.Rows.content l.fn.rows) l.top l.key texts l.count
      (trail l.format m l.key));
}

-- layers fall
abbrev pub decreases-loop-top : goal.decreases-loop-top
decreases-loop-top g l = depth l.top
