use Rattle.mst_batch.proofs.Names.{◌≡◌, List, drop, Pair, Format, Stands, listed, AreUpdates}
use Rattle.mst_batch.proofs.updating.are_updates.Given as goal

-- all are such edits if those that are left are
abbrev pub invariant-loop-edit : goal.invariant-loop-edit
invariant-loop-edit g l = record {
  same : l.rows ≡ l.fn.rows;
  left : (f : Format) (m : List Pair) → Stands f (g.R.Rows.content l.fn.rows) l.fn.root m
      → AreUpdates m (listed (drop l.edit-index l.fn.edits)) → AreUpdates m (listed l.fn.edits);
}
