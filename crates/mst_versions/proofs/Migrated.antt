-- From the tree that was planted and the one that was felled to the migration that is made.
use Rattle.mst_versions.proofs.Names.{◌≡◌, ℕ, ◌+◌, ◌<◌, ◌≤◌, ◌&&◌, false, None, List, [], ◌∷◌, length, refl, sym, ap, ◌∙◌, subst, arith, take, take_all, Format, Migrate, Pair, map_range, after, format_after, was, tree, State, free_count, last_version, In, Stands, numbers, Root, reached_old, Seated, IsSameSeat, beside, content_of, stands_frame, each, Turn, SeatState, HasTurn, Begun, rows_taken, Made, LacksRows, AtSeat}
use Rattle.std.specs.Prelude.{◌≢◌, filter}
use Rattle.mst_key.specs.declared.format.Format.TheVariants.{One, Two}
use Rattle.mst_key.specs.Map.{from_on, below}
use Rattle.mst_node.specs.Cost.{same_format}
use Rattle.mst_node.proofs.FormatsShareNothing as formats
use Rattle.mst_change.proofs.Formats.{stays}
use Rattle.mst_arena.specs.Lists.{times}
use Rattle.mst_path.specs.Changing.{AreOld}
use Rattle.mst_path.specs.Felling.{MayFall}
use Rattle.mst_path.specs.Moves.{Moves}
use Rattle.mst_path.specs.Planting.{node_count}
use Rattle.mst_path.specs.Takes.{Takes, KeepsBut}
use Rattle.mst_path.proofs.lemmas.cost.NodeCounts.{count_nodes}
use Rattle.mst_path.proofs.lemmas.rows.Moving.{out_of_times, moves_takes, alive_out, old_stays}
use Rattle.mst_path.proofs.lemmas.versions.Changes.{after_change, unchanged_map}
use Rattle.mst_path.proofs.lemmas.versions.Migrated.{moved, changes, all_new}
use Rattle.mst_key.specs.declared.memory.Memory.{Memory}
use Rattle.mst_versions.specs.declared.faults.MigrateFault.TheVariants as fault
use Rattle.mst_versions.specs.Migrating.{RefusesMigration}
use Rattle.mst_versions.proofs.Made.{map_stands, key_aged, change_made}
use Rattle.mst_versions.proofs.Written.{room_left, looks_back, lacks_room, given_back}

-- ---- the map in memory

-- a map that stands has no more pairs than there are rows
pub few_pairs : {A : Type 0} (t : Turn A) (m : SeatState) → HasTurn t m → m.0.rows ≤ 65535
    → length (after m.0.seen) ≤ 65535
few_pairs t m h few = let all = room_left t m h in omega (arith, all, few)

no_bounds : (m : List Pair) → filter (λ p. from_on None p.0 && below None p.0) m ≡ m
no_bounds [] = refl
no_bounds (p ∷ m) = ap (λ (rest : List Pair). p ∷ rest) (no_bounds m)

-- a range that has no bounds is the whole map
pub whole_range : (m : List Pair) (limit : ℕ) → length m ≤ limit → map_range m None None limit ≡ m
whole_range m limit few = ap (take limit) (no_bounds m) ∙ take_all limit m few

-- ---- the tree in another format

differ : (f g : Format) → f ≢ g → same_format g f ≡ false
differ One One other = absurd (other refl)
differ One Two other = refl
differ Two One other = refl
differ Two Two other = absurd (other refl)

-- it takes a row for each pair and each node
taken_is : (f to : Format) (m : List Pair) → f ≢ to → rows_taken f m (Migrate to) ≡ length m
    + node_count (tree to m)
taken_is f to m other = formats.moved f to (differ f to other) m ∙ ap (λ (n : ℕ). length m + n)
    (sym (count_nodes (tree to m)))

pub lacks_rows : {A : Type 0} (t : Turn A) (m : SeatState) (to : Format) → t.format ≢ to
    → free_count t.desk.lives < length (after m.0.seen) + node_count (tree to (after m.0.seen))
    → LacksRows (Migrate to) t m
lacks_rows t m to other few = let is = taken_is t.format to (after m.0.seen) other in
    omega (arith, is, few)

module _ {A : Type 0} (t : Turn A) (s z : Seated) (h : HasTurn t s.me) (to : Format) (mid : State)
    (root : Root) (planted : (n : List Pair) (w : Stands to (content_of z.me.0) root n)
    → Takes t.desk mid (numbers w))
    (keeps : (n : List Pair) (w : Stands to (content_of z.me.0) root n) → KeepsBut (numbers w)
    (content_of s.me.0) (content_of z.me.0))
    (w : Stands to (content_of z.me.0) root (after s.me.0.seen)) where
  abbrev pairs : List Pair
  pairs = after s.me.0.seen

  are_old : AreOld t.desk (numbers h.stands)
  are_old = reached_old t.desk (numbers h.stands) h.settled h.reached

  moves : Moves t.desk mid (numbers w) []
  moves = moves_takes t.desk mid (numbers w) (planted pairs w)

  -- no row of the tree that stood was taken
  out : (x : ℕ) → In x (numbers h.stands) → times x (numbers w) ≡ 0
  out x i = let old = are_old x i in alive_out t.desk mid (numbers w) [] moves x (old.0, old.1)

  -- so it stands as it stood
  still : (q : Stands t.format (content_of z.me.0) t.root pairs) × (numbers q ≡ numbers h.stands)
  still = stands_frame t.format (content_of s.me.0) (content_of z.me.0) t.root t.root pairs h.stands
      (each (λ x. content_of z.me.0 x ≡ content_of s.me.0 x) (numbers h.stands)
      (λ x i. keeps pairs w x (out_of_times x (numbers w) (out x i)))) refl

  old_still : AreOld mid (numbers still.0)
  old_still r i = old_stays t.desk mid (numbers w) [] moves r (are_old r (subst (In r) still.1 i))
      refl

  pub may_fall : MayFall (content_of z.me.0) mid t.root
  may_fall = (t.format, pairs, still.0, old_still)

  module _ (d : State)
      (fells : (f : Format) (n : List Pair) (q : Stands f (content_of z.me.0) t.root n)
      → Moves mid d [] (numbers q)) where
    felled : Moves mid d [] (numbers h.stands)
    felled = subst (Moves mid d []) still.1 (fells t.format pairs still.0)

    both : (n : List Pair) (v : Stands to (content_of z.me.0) root n) → Moves t.desk d (numbers v)
        (numbers h.stands)
    both n v = moved t.desk mid d (numbers v) (numbers h.stands) (planted n v) felled

    pub moved_made : t.format ≢ to → beside z ≡ beside s → length s.me.0.seen < last_version
        → free_count mid.lives + (length pairs + node_count (tree to pairs)) ≡ free_count
        t.desk.lives → Made (Migrate to) t s.me root (was t.format) (record t { desk = d }) z.me
    moved_made other same early count =
        change_made t s z h root (was t.format) d (Migrate to) same early w
        (λ n v. changes t.desk d (numbers v) (numbers h.stands) (both n v))
        (ap (λ (f : Format). was f) h.format)
        (let is = taken_is t.format to pairs other in let room =
        felled.room in omega (arith, is, room, count))
        (λ v. all_new t.format to (differ t.format to other) t.desk d h.stands.tree.placed
        v.tree.placed (both pairs v))

-- ---- to the format that stands

pub stays_made : {A : Type 0} (t : Turn A) (s : Seated) (h : HasTurn t s.me) (to : Format)
    → t.format ≡ to → length s.me.0.seen < last_version → Made (Migrate to) t s.me t.root
    (was t.format) t s.me
stays_made t s h to is early =
    let f = t.format in
    let m = after s.me.0.seen in
    let c = content_of s.me.0 in
    let all = after_change f c c t.desk t.desk t.root t.root (λ n. n) (map_stands t s.me h)
    (λ n map. map) (λ n stands old. unchanged_map f c t.desk t.root (λ k. k) n stands old refl
    (stays (tree f n))) in
    subst (λ (g : Format). Made (Migrate g) t s.me t.root (was f) t s.me) is
    (change_made t s s h t.root (was f) t.desk (Migrate f) refl early h.stands
    (λ n v. all.changes m n h.stands v) (ap (λ (g : Format). was g) h.format)
    (all.counted m h.stands)
    (λ v. key_aged t s.me h c t.root t.desk m v (all.changes m m h.stands v) all.written
    (all.made m v) (all.counted m h.stands)))

-- ---- a migration that is refused

module _ {A : Type 0} (s : Seated) (m1 : SeatState) (t : Turn A) (b : Begun s.me t m1) (number : ℕ)
    (mine : s.me.0.number ≡ number) (m2 : SeatState) (z : Seated) (same : IsSameSeat s z)
    (still : m2 ≡ m1) (back : z.me ≡ (record m2.0 { turn = false }, [])) (to : Format)
    (other : t.format ≢ to) (early : length m1.0.seen < last_version) where
  other_now : format_after m1.0.format m1.0.seen ≢ to
  other_now is = other (b.has.format ∙ is)

  pub refused_memory : (refused : Memory)
      → AtSeat (RefusesMigration (fault.Memory refused) to) number s z
  refused_memory refused = given_back s m1 t b number mine m2 z same still back
      (RefusesMigration (fault.Memory refused) to)
      (λ made. (looks_back s m1 t b number mine made, early, b.asked, other_now))

  pub refused_room : LacksRows (Migrate to) t m1
      → AtSeat (RefusesMigration fault.NoRoom to) number s z
  refused_room lacks = given_back s m1 t b number mine m2 z same still back
      (RefusesMigration fault.NoRoom to)
      (λ made. (lacks_room s m1 t b number mine (Migrate to) early lacks made, other_now))
