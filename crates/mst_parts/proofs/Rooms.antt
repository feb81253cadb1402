-- Room in a list for what is left in a queue.
use Rattle.mst_parts.proofs.Names.{◌≡◌, ℕ, ◌+◌, ◌<◌, ◌≤◌, List, [], length, ap, arith}

-- an empty list has it if it has room for all
pub room_for_all : {X : Type 0} (xs : List X) (n left all room : ℕ) → n ≡ length xs → xs ≡ []
    → left ≡ all → all ≤ room → n + left ≤ room
room_for_all xs n left all room long none is fits =
    let zero = ap (λ l. length l) none in omega (arith, long, zero, is, fits)

-- then there is room for the first that is left
pub room_for_one : (n left rest room : ℕ) → n + left ≤ room → rest + 1 ≡ left → n < room
room_for_one n left rest room fits popped = omega (arith, fits, popped)

-- behind which fewer are left
pub one_fewer : (left rest : ℕ) → rest + 1 ≡ left → rest < left
one_fewer left rest popped = omega (arith, popped)

-- where the room is that of the queue, it has room for the list at the end
pub room_still : (n left room now : ℕ) → n + left ≤ room → now ≡ room → n ≤ now
room_still n left room now fits is = omega (arith, fits, is)
