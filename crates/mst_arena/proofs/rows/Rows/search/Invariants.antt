use Rattle.mst_arena.proofs.Names.{◌≡◌}
use Rattle.mst_arena.proofs.StopLemmas.{Goes}
use Rattle.mst_arena.proofs.rows.Rows.search.Given as goal

-- the search in the entries that are left ends where the search in all ends
abbrev pub invariant-loop-passed : goal.invariant-loop-passed
invariant-loop-passed g l = record {
  same : l.self ≡ l.fn.self;
  goes : Goes l.key (g.Self.Rows.content l.fn.self) l.count l.first l.passed l.link;
}
