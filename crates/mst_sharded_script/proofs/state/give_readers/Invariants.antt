use Rattle.mst_sharded_script.proofs.Names.{◌≤◌, into_iter_items, into_iter_len, deque_items, Whole, PassState, with_readers}
use Rattle.std.specs.Prelude.{◌≡◌, ◌+◌, ◌++◌, List, length, vec_items, vec_len}
use Rattle.std.specs.VecDeque.{deque_len, deque_capacity}
use Rattle.mst_sharded_script.proofs.state.give_readers.Given as goal

-- the passes that are still to come stand in front of those that have their readers
abbrev pub invariant-loop-reader : goal.invariant-loop-reader
invariant-loop-reader g l =
    (done : List Whole) × (front : List PassState) × (rest : List PassState)
    × (vec_items l.fn.readers ≡ done ++ into_iter_items l.reader-iterator)
    × (vec_items l.fn.passes ≡ front ++ rest)
    × (deque_items l.given ≡ rest ++ with_readers done front)
    × (length done ≡ length front)
    × (length rest ≡ into_iter_len l.reader-iterator)
    × (deque_len l.given ≡ vec_len l.fn.passes)
    × (deque_len l.given ≤ deque_capacity l.given)
    × (length done + into_iter_len l.reader-iterator ≡ vec_len l.fn.passes)
