use Rattle.mst_load.proofs.Names.{vec_items, vec_len, into_iter_items, into_iter_len, Known, IsNewOf}
use Rattle.std.specs.Prelude.{◌≡◌, ℕ, ◌+◌, ◌<◌, get_or}
use Rattle.mst_load.proofs.running.start_all.Given as goal

abbrev pub invariant-loop-pass : goal.invariant-loop-pass
invariant-loop-pass g l =
    (vec_len l.handles + into_iter_len l.pass-iterator ≡ vec_len l.fn.passes)
    × ((k : ℕ) (d : Known) → k < into_iter_len l.pass-iterator → IsNewOf g.C.Course.store
    (get_or (into_iter_items l.pass-iterator) k d))
    × ((k : ℕ) (d : Known) → k < into_iter_len l.pass-iterator
    → (get_or (into_iter_items l.pass-iterator) k d).number ≡ vec_len l.handles + k + 1)
    × ((k : ℕ) (d : _) → k < vec_len l.handles → (get_or (vec_items l.handles) k d).promise.number
    ≡ k + 1)
