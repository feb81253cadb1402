use Rattle.mst_store.proofs.Names.{◌≡◌, ℕ, ◌<◌, ◌++◌, get_or, take, drop, map, events_of, Known, having_seen}
use Rattle.mst_store.proofs.settling.deliver_all.Given as goal

abbrev pub invariant-loop-pass : goal.invariant-loop-pass
invariant-loop-pass g l = record {
  table : l.courier.table ≡ l.fn.courier.table;
  courier : l.courier.me ≡ l.fn.courier.me;
  now : l.line ≡ map (having_seen l.fn.courier.me.0.seen) (take l.pass-index l.fn.line) ++ drop
      l.pass-index l.fn.line;
  own : (k : ℕ) (d : Known) → k < l.pass-index → events_of (get_or l.fn.line k d).number
      l.fn.courier.me.0.seen ≡ (get_or l.fn.line k d).mine;
}
