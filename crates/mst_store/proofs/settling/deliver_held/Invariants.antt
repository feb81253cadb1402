use Rattle.mst_store.proofs.Names.{◌≡◌, ℕ, ◌<◌, ◌++◌, get_or, take, drop, map, events_of, Known, having_asked}
use Rattle.mst_store.proofs.settling.deliver_held.Given as goal

abbrev pub invariant-loop-pinned : goal.invariant-loop-pinned
invariant-loop-pinned g l = record {
  table : l.courier.table ≡ l.fn.courier.table;
  courier : l.courier.me ≡ l.fn.courier.me;
  asked : l.line ≡ map (having_asked 2) (take l.pinned-index l.fn.line) ++ drop l.pinned-index
      l.fn.line;
  own : (k : ℕ) (d : Known) → k < l.pinned-index → events_of (get_or l.fn.line k d).number
      l.fn.courier.me.0.seen ≡ (get_or l.fn.line k d).mine;
}
