use Rattle.mst_batch.proofs.Names.{◌≡◌, take, AllByRecursion, flat_map, Format, Placed, IsItem, IsStanding, opened}
use Rattle.mst_batch.proofs.top.opened_at.Given as goal

-- the items so far are opened
abbrev pub invariant-loop-item : goal.invariant-loop-item
invariant-loop-item g l = record {
  same : l.rows ≡ l.fn.rows;
  items : (format : Format) (whole : Placed)
      → IsStanding format (g.R.Rows.content l.fn.rows) whole
      → AllByRecursion (IsItem format whole) l.items
      → l.opened.items ≡ flat_map (opened whole l.layer) (take l.item-index l.items);
}
