use Rattle.mst_store.proofs.Names.{◌≡◌, ℕ, ◌<◌, ◌++◌, get_or, take, drop, map, IsPrefix, Known, having_asked, GoesOn}
use Rattle.mst_store.proofs.settling.collect_held.Given as goal

abbrev pub invariant-loop-pinned : goal.invariant-loop-pinned
invariant-loop-pinned g l = record {
  asked : l.line ≡ map (having_asked 1) (take l.pinned-index l.fn.line) ++ drop l.pinned-index
      l.fn.line;
  table : l.courier.table ≡ l.fn.courier.table;
  courier : GoesOn l.fn.courier.me l.courier.me;
  later : (k : ℕ) (d : Known) → k < l.pinned-index → IsPrefix (get_or l.fn.line k d).seen
      l.courier.me.0.seen;
}
