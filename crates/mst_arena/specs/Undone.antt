-- What was done to rows for the version to come, taken back.
use Rattle.std.specs.Prelude.{ℕ, nat_lt, if◌then◌else◌, map}
use Rattle.mst_arena.specs.Lives.{State, next}
use Rattle.mst_arena.specs.declared.life.Life.{Life}
use Rattle.mst_arena.specs.declared.life.Life.TheVariants.{Free, Born, Dead}

-- what a life is without this version: a row that was born with it, or later, is free, and one that
-- died with it, or later, lives
abbrev pub undone_life : ℕ → Life → Life
undone_life next Free = Free
undone_life next (Born b) = if nat_lt b next then Born b else Free
undone_life next (Dead b d) =
    if nat_lt d next then Dead b d else (if nat_lt b next then Born b else Free)

-- the desk without births and deaths of the version to come
abbrev pub undone : State → State
undone s = record s { lives = map (undone_life (next s)) s.lives }
