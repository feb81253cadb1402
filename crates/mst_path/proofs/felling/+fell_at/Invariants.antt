use Rattle.mst_path.proofs.Names.{◌≡◌, used, height_at, ToFell}
use Rattle.mst_path.proofs.lemmas.steps.Felling.{Felling}
use Rattle.mst_path.proofs.felling.+fell_at.Given as goal

-- layers fall
abbrev pub decreases-fell_at : goal.decreases-fell_at
decreases-fell_at g l = height_at (g.R.Rows.content l.rows.now) l.link

-- the head and the entries so far are felled
abbrev pub invariant-loop : goal.invariant-loop
invariant-loop g l = record {
  same : l.rows ≡ l.fn.rows;
  felling : (t : ToFell (g.R.Rows.content l.fn.rows) l.fn.desk l.fn.link) → Felling t.format
      used (g.R.Rows.content l.fn.rows) l.fn.desk l.desk l.head.layer (used t.placed) l.head.tail
      l.next l.counter l.head.count;
}
