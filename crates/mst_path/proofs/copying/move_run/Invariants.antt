use Rattle.mst_path.proofs.Names.{Format, ◌≡◌, ◌≤◌, ◌+◌, free_count, RowsAreWritable, StaysBeside, IsWriter, Copying}
use Rattle.mst_path.specs.Writing.{IsNextBlank}
use Rattle.mst_path.proofs.lemmas.rows.CopyRuns.{Progress}
use Rattle.mst_path.proofs.copying.move_run.Given as goal

abbrev pub invariant-loop : goal.invariant-loop
invariant-loop g l = record {
  writer : IsWriter l.writer;
  left : l.writer.left + l.counter ≡ l.fn.writer.left;
  node : (l.writer.layer ≡ l.fn.writer.layer) × (l.writer.count ≡ l.fn.writer.count)
      × (l.writer.head ≡ l.fn.writer.head);
  room : l.writer.left ≤ free_count l.desk.lives + 1;
  ready : RowsAreWritable l.desk.lives (g.R.Rows.blank l.rows);
  beside : StaysBeside g.R.Rows.blank g.R.Rows.kept l.fn.rows l.rows;
  next : IsNextBlank l.writer.next (g.R.Rows.blank l.rows);
  progress : (format : Format)
      (k : Copying format l.fn.writer (g.R.Rows.content l.fn.rows) l.fn.desk l.fn.from l.fn.count)
      → Progress format k l.counter l.writer (g.R.Rows.content l.rows) l.desk l.link;
}
