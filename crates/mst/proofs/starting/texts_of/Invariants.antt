use Rattle.std.specs.Prelude.{◌≡◌, ◌++◌, vec_items, length}
use Rattle.std.specs.Vec.Iter.{into_iter_items, into_iter_len}
use Rattle.mst.proofs.starting.texts_of.Given as goal

-- so far they are the first of the texts, and the others are still to come
abbrev pub invariant-loop-text : goal.invariant-loop-text
invariant-loop-text l =
    (vec_items l.texts ++ into_iter_items l.text-iterator ≡ into_iter_items l.fn.arguments)
    × (into_iter_len l.text-iterator ≡ length (into_iter_items l.text-iterator))
