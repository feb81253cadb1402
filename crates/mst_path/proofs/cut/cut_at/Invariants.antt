use Rattle.mst_path.proofs.Names.{Format, ◌≡◌, List, PlacedEntry, EntriesLie}
use Rattle.mst_path.proofs.lemmas.trees.Cutting.{Onward}
use Rattle.mst_path.proofs.cut.cut_at.Given as goal

-- the entries so far are below the key
abbrev pub invariant-loop-count : goal.invariant-loop-count
invariant-loop-count g l = record {
  same : l.rows ≡ l.initial.rows;
  onward : (format : Format) (es : List PlacedEntry) → EntriesLie (g.R.Rows.content l.initial.rows)
      l.initial.head es → Onward format (g.R.Rows.content l.initial.rows) l.key es l.link l.count
      l.head.count;
}
