use Rattle.mst_store.proofs.Names.{◌≡◌, ℕ, ◌<◌, get_or, IsPrefix, Known, GoesOn}
use Rattle.mst_store.proofs.settling.collect_all.Given as goal

abbrev pub invariant-loop-pass : goal.invariant-loop-pass
invariant-loop-pass g l = record {
  same : l.line ≡ l.fn.line;
  table : l.courier.table ≡ l.fn.courier.table;
  courier : GoesOn l.fn.courier.me l.courier.me;
  later : (k : ℕ) (d : Known) → k < l.pass-index → IsPrefix (get_or l.fn.line k d).seen
      l.courier.me.0.seen;
}
