-- Which store a laid pass is of, and whether it pins a version.
use Rattle.std.specs.Prelude.{◌≡◌}
use Rattle.mst_store.specs.Passes.{StoreId}
use Rattle.mst_c.specs.declared.pass_box.State.{State}
use Rattle.mst_c.specs.declared.pass_box.State.TheVariants.{Away, Free, Pinned}

-- between calls a hand's pass is there, and of the store next to it
abbrev pub IsOf : StoreId → State → Type 0
IsOf store Away = ⊥
IsOf store (Free p) = p.store ≡ store
IsOf store (Pinned p) = p.store ≡ store

-- the pass is there, and keeps no version's rows from being used again
abbrev pub PinsNone : State → Type 0
PinsNone Away = ⊥
PinsNone (Free p) = Unit {0}
PinsNone (Pinned p) = ⊥
