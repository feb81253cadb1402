-- Which pass pins which record, read from the words. Beside each record's word DONE counts a mask:
-- for the current record the one in the word CURRENT, for the record whose transfer waits the one
-- that the publication returned, otherwise none.
use Rattle.std.specs.Prelude.{◌≡◌, ◌≢◌, ◌⊎◌, ℕ, ◌+◌, ◌-◌, ◌*◌, ◌%◌, ◌<◌, ◌≤◌, true, List, [], ◌∷◌, slice_index, Option, Some, None}
use Rattle.std.specs.Int.{bit_at}
use Rattle.mst_arena.specs.Lists.{In}
use Rattle.mst_pin.specs.WordParts.{masks}
use Rattle.mst_words.specs.declared.view.View.{View}
use Rattle.mst_words.specs.World.{SeatAt}
use Rattle.mst_words.specs.Layout.{most_passes, current_word, done_word}

-- the word DONE of a record
abbrev pub done : List ℕ → ℕ → ℕ
done ws r = slice_index ws (done_word r)

-- 1 if the pass with this bit pins the record: its bits in DONE and in the mask beside it are not
-- the same
abbrev pub pin_bit : (ℕ → ℕ) → List ℕ → ℕ → ℕ → ℕ
pin_bit beside ws r k = (bit_at (beside r) k + bit_at (done ws r) k) % 2

-- what the words say of a seat is what its view says
pub record SeatPins (n : ℕ) (beside : ℕ → ℕ) (ws : List ℕ) (v : View) : Type 0 where
  pub small : v.number ≤ most_passes
  pub pinned : (r : ℕ) → v.pin ≡ Some r → (0 < v.number) × (r < n + 2)
      × (pin_bit beside ws r (v.number - 1) ≡ 1)
  pub unpinned : (r : ℕ) → 0 < v.number → r < n + 2 → v.pin ≢ Some r
      → pin_bit beside ws r (v.number - 1) ≡ 0

-- what the holder of the turn knows of pins: the record whose transfer waits with its mask, and
-- records that nobody pins
pub record Drains (n cur : ℕ) (due : Option ℕ) (beside : ℕ → ℕ)
    (views : List View) (v : View) : Type 0 where
  pub due_is : v.due ≡ due
  pub mask_is : (r : ℕ) → due ≡ Some r → beside r ≡ v.mask
  pub drained : (r : ℕ) → In r v.drained → (r < n + 2) × (r ≢ cur) × (due ≢ Some r)
      × ((i : ℕ) (u : View) → SeatAt views i u → u.pin ≢ Some r)

-- n passes have n + 2 records, of which one is current
pub record Pins (n cur mask : ℕ) (due : Option ℕ) (beside : ℕ → ℕ)
    (ws : List ℕ) (views : List View) : Type 0 where
  pub few : n ≤ most_passes
  pub current : slice_index ws current_word ≡ cur * masks + mask
  pub small : mask < masks
  pub cur_in : cur < n + 2
  pub beside_cur : beside cur ≡ mask
  pub beside_rest : (r : ℕ) → r ≢ cur → due ≢ Some r → beside r ≡ 0
  pub due_old : due ≢ Some cur
  pub due_in : (r : ℕ) → due ≡ Some r → r < n + 2
  pub seats : (i : ℕ) (v : View) → SeatAt views i v → SeatPins n beside ws v
  pub holder : (i : ℕ) (v : View) → SeatAt views i v → v.turn ≡ true
      → Drains n cur due beside views v

-- each bit that is set is that of a seat that pins the record
pub record Clear (n : ℕ) (beside : ℕ → ℕ) (ws : List ℕ) (views : List View) : Type 0 where
  pub seat_of : (r k : ℕ) → r < n + 2 → pin_bit beside ws r k ≡ 1 → (i : ℕ) × (u : View)
      × SeatAt views i u × (u.number ≡ k + 1) × (u.pin ≡ Some r)

-- For each record that was found pinned there is another pass that pinned it, and that pins this
-- record, the current one or none since. No pass stands for two records
abbrev pub Blamed : ℕ → ℕ → ℕ → List View → List ℕ → List ℕ → Type 0
Blamed n self cur views [] [] = Unit {0}
Blamed n self cur views (p ∷ ps) (r ∷ rs) = (0 < p) × (p < n + 1) × (p ≢ self) × (In p ps → ⊥)
    × ((i : ℕ) (u : View) → SeatAt views i u → u.number ≡ p
    → (u.pin ≡ Some r) ⊎ ((u.pin ≡ None) ⊎ (u.pin ≡ Some cur)))
    × Blamed n self cur views ps rs
Blamed n self cur views [] (r ∷ rs) = ⊥
Blamed n self cur views (p ∷ ps) [] = ⊥

-- so the holder of the turn finds fewer records pinned than there are other passes, and some record
-- can be published
pub record Counts (n cur : ℕ) (views : List View) : Type 0 where
  pub blamed : (i : ℕ) (v : View) → SeatAt views i v → v.turn ≡ true → (by : List ℕ)
      × Blamed n v.number cur views by v.blocked
