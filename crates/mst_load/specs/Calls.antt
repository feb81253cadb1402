-- The calls of the writers.
use Rattle.std.specs.Prelude.{ℕ, zero, suc, ◌%◌, ◌==◌, if◌then◌else◌, List, [], ◌∷◌, ◌++◌, Option, Some, None}
use Rattle.std.specs.Int.{w32, to_be_bytes}
use Rattle.mst_key.specs.declared.history.Change.{Change}
use Rattle.mst_key.specs.declared.history.Change.TheVariants.{Put}
use Rattle.mst_key.specs.declared.history.Event.{Event}
use Rattle.mst_key.specs.History.{History, after}
use Rattle.mst_key.specs.Map.{Pair}

-- the key of a call of a writer: its number, and the call's by 32
abbrev pub key_of : ℕ → ℕ → List ℕ
key_of writer call = writer ∷ call % 32 ∷ []

-- the value of a call: its number in four bytes, the highest first
abbrev pub value_of : ℕ → List ℕ
value_of call = to_be_bytes w32 call

-- what a call of a writer asks for
abbrev pub change_of : ℕ → ℕ → Change
change_of writer call = Put (key_of writer call) (value_of call)

-- the event of a call of a writer
abbrev pub event_of : ℕ → ℕ → Event
event_of writer call = record { pass = writer; change = change_of writer call }

-- this many first calls of a writer, in their order
abbrev pub calls_of : ℕ → ℕ → History
calls_of writer zero = []
calls_of writer (suc n) = calls_of writer n ++ event_of writer (suc n) ∷ []

-- this many calls (the second number) of each of this many first writers (the first number), one
-- writer after another: each has keys of its own, so that any order of the writers' calls leaves
-- the same map
abbrev pub all_calls : ℕ → ℕ → History
all_calls zero calls = []
all_calls (suc w) calls = all_calls w calls ++ calls_of (suc w) calls

-- the map that these calls leave
unfoldable pub map_left : ℕ → ℕ → List Pair
map_left writers calls = after (all_calls writers calls)

-- the last of this many calls at this place in the round, where there is one
abbrev pub last : ℕ → ℕ → Option ℕ
last place zero = None
last place (suc n) = if suc n % 32 == place then Some (suc n) else last place n

-- the pair that a call of a writer leaves
abbrev pub pair_left : ℕ → Option ℕ → List Pair
pair_left writer None = []
pair_left writer (Some call) = (key_of writer call, value_of call) ∷ []

-- the pairs that `calls` calls of a writer leave at its first places, this many of them
abbrev pub round_left : ℕ → ℕ → ℕ → List Pair
round_left writer calls zero = []
round_left writer calls (suc place) =
    round_left writer calls place ++ pair_left writer (last place calls)
