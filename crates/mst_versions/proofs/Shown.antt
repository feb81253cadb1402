-- What a seat shows of its pass, after what was told of the seat.
use Rattle.mst_versions.proofs.Names.{◌≡◌, ℕ, refl, sym, ap, ◌∙◌, subst, Format, Change, events_of, Seated, IsSameSeat, known, AtSeat, SeatState, Refuses}
use Rattle.atomic_table.specs.Seated.{TableId}
use Rattle.mst_words.specs.Steps.{Misses}
use Rattle.mst_versions.specs.declared.faults.WriteFault.TheVariants.{VersionsSpent}
use Rattle.mst_versions.specs.Known.{StoreId, store_of, FindsBusy}
use Rattle.mst_versions.specs.Turns.{Spent}

abbrev seat_at : TableId → ℕ → SeatState → Seated
seat_at table id m = record { table = table; id = id; me = m }

-- the seat that is known by its place and by what it knows
pub at_seat : (s z : Seated) (m : SeatState) → IsSameSeat s z → z.me ≡ m → z ≡ record s { me = m }
at_seat s z m same is = ap (λ (t : TableId). seat_at t z.id z.me) same.0
    ∙ ap (λ (i : ℕ). seat_at s.table i z.me) same.1 ∙ ap (seat_at s.table s.id) is

abbrev pub store_at : TableId → ℕ → ℕ → Format → StoreId
store_at table rows passes format =
    record { table = table; rows = rows; passes = passes; format = format }

-- the store is the same, if the table and what is known of its shape are
pub store_is : (s z : Seated) → z.table ≡ s.table → z.me.0.rows ≡ s.me.0.rows
    → z.me.0.passes ≡ s.me.0.passes → z.me.0.format ≡ s.me.0.format → store_of z ≡ store_of s
store_is s z table rows passes format =
    ap (λ (t : TableId). store_at t z.me.0.rows z.me.0.passes z.me.0.format) table
    ∙ ap (λ (n : ℕ). store_at s.table n z.me.0.passes z.me.0.format) rows
    ∙ ap (λ (n : ℕ). store_at s.table s.me.0.rows n z.me.0.format) passes
    ∙ ap (store_at s.table s.me.0.rows s.me.0.passes) format

-- the turn was tried in vain
pub busy_at : (number : ℕ) (s z : Seated) → IsSameSeat s z → Misses s.me z.me
    → AtSeat FindsBusy number s z
busy_at number s z same misses made =
    (ap (known number made) (at_seat s z _ same misses.is), misses.others)

-- the turn was given back since the version numbers are spent
pub spent_at : (number : ℕ) (s z : Seated) → IsSameSeat s z → s.me.0.number ≡ number
    → Spent s.me z.me → (change : Change) → AtSeat (Refuses VersionsSpent change) number s z
spent_at number s z same mine spent change made =
    subst (λ (x : Seated). Refuses VersionsSpent change (known number made s)
    (known number made x)) (sym (at_seat s z _ same spent.rest)) (
      record {
        same = (refl, refl);
        later = spent.later;
        mine = refl;
        own = subst (λ (n : ℕ). events_of n z.me.0.seen ≡ s.me.0.mine) mine spent.own;
        alone = spent.alone;
        missed = refl;
        made = refl;
      },
      spent.spent,
      refl,
      refl,
    )
