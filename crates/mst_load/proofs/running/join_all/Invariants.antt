use Rattle.mst_load.proofs.Names.{vec_items, vec_len, into_iter_items, into_iter_len, Known, IsWorkerOf}
use Rattle.std.specs.Prelude.{◌≡◌, ℕ, ◌+◌, ◌<◌, get_or}
use Rattle.mst_load.proofs.running.join_all.Given as goal

abbrev pub invariant-loop-handle : goal.invariant-loop-handle
invariant-loop-handle g l =
    (vec_len l.passes + into_iter_len l.handle-iterator ≡ vec_len l.fn.handles)
    × (l.falls ≡ 0)
    × ((k : ℕ) (d : Known) → k < vec_len l.passes → IsWorkerOf g.C.Course.store g.C.Course.writers
    g.C.Course.calls (get_or (vec_items l.passes) k d))
    × ((k : ℕ) (d : Known) → k < vec_len l.passes → (get_or (vec_items l.passes) k d).number ≡ k
    + 1)
    × ((k : ℕ) (d : _) → k < into_iter_len l.handle-iterator
    → (get_or (into_iter_items l.handle-iterator) k d).promise.number ≡ vec_len l.passes + k
    + 1)
