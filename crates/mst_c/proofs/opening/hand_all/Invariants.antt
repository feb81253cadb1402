use Rattle.mst_c.proofs.Names.{Some, None, vec_len, Known, Free, PaddedHand}
use Rattle.std.specs.Prelude.{◌≡◌, ℕ, ◌+◌, ◌<◌, ◌≤◌, true, length, get_or}
use Rattle.std.specs.Vec.Iter.{into_iter_items, into_iter_len}
use Rattle.mst_c.proofs.opening.hand_all.Given as goal

-- the passes that are left are the last of those given, the hands before have the others, and those
-- after are empty
abbrev pub invariant-loop-pass : goal.invariant-loop-pass
invariant-loop-pass l =
    (l.at + into_iter_len l.pass-iterator ≡ vec_len l.fn.passes)
    × ((k : ℕ) (d : Known) → k < into_iter_len l.pass-iterator
    → get_or (into_iter_items l.pass-iterator) k d ≡ get_or l.fn.passes.items (l.at + k) d)
    × (l.all ≡ true → (k : ℕ) (d : Known) (h : PaddedHand) → k < l.at
    → (get_or l.hands k h).hand.held ≡ Some
    (Free (get_or l.fn.passes.items k d)))
    × ((k : ℕ) (h : PaddedHand) → l.at ≤ k → k < length l.hands → (get_or l.hands k h).hand.held
    ≡ None)
