-- What a pass may read and write of the rows, as the steps ask for it.
use Rattle.mst_words.proofs.Names.{◌≡◌, ℕ, zero, suc, ◌+◌, ◌<◌, ◌≤◌, ◌≢◌, ◌⊎◌, inl, inr, Bool, true, false, eqb, Option, Some, None, List, [], length, map, take, set, get_or, subst, refl, sym, ap, ◌∙◌, arith, ⊎_elim, if◌then◌else◌, length-set, get_or-set_same, get_or-set_other, option_and_then, range_with_len, dite, ℕ_discrete, ltb-true, length-map-range_with_len, get_or-map-range_with_len, TableId, Me, Writes, part_at, keyed_links, row_in, Row, any_times, View, row_word, row_words, first_row, table_words, IsBlank, IsReadable, IsWritable, stored, rows_in, version_of, IsAt, Seated, with_words, may_read, content_of, may_write, RowStored}
use Rattle.std.proofs.Common.{not, ◌&&◌, ◌||◌, is_some, is_none, nat_lt, IsSome, IfSome}
use Rattle.std.specs.List.{list_any}
use Rattle.std.proofs.lemmas.Bool.{lt-ltb, eqb-true}
use Rattle.std.proofs.lemmas.List.{ext_get_or, get_or-take, length-take-le}
use Rattle.std.proofs.lemmas.List.FromFn.{fill_by_all}
use Rattle.mst_arena.specs.Lives as lives
use Rattle.mst_arena.specs.Content.{relinked}
use Rattle.mst_arena.proofs.Readers.{relinked_words}
use Rattle.mst_words.specs.Records as records
use Rattle.mst_words.specs.Access.{beside, all_below, is_unreached}
use Rattle.mst_words.proofs.Framed.{same_row}
use Rattle.mst_words.proofs.Places.{place_above, place_below, place_apart}

both : (a b : Bool) → (a && b) ≡ true → (a ≡ true) × (b ≡ true)
both true b h = (refl, h)
both false b h = absurd (let c : false ≡ true = h in cc)

either_of : (a b : Bool) → (a || b) ≡ true → (a ≡ true) ⊎ (b ≡ true)
either_of true b h = inl refl
either_of false b h = inr h

there : (o : Option ℕ) → is_some o ≡ true → (r : ℕ) × (o ≡ Some r)
there (Some r) h = (r, refl)
there None h = absurd (let c : false ≡ true = h in cc)

gone : (o : Option ℕ) → is_none o ≡ true → o ≡ None
gone None h = refl
gone (Some r) h = absurd (let c : false ≡ true = h in cc)

-- a table of so many words has so many rows
pub rows_of_table : {board seat : TableId} {rows n : ℕ} → IsAt board seat rows
    → board.words ≡ table_words n → n ≡ rows
rows_of_table at wide = let a = at.wide in omega (arith, a, wide)

pub readable : (v : View) (x k : ℕ) → may_read v x ≡ true → k < row_words
    → IsReadable v (row_word v.rows x k)
readable v x k may lt = let a =
    both (nat_lt x v.rows) (v.turn || (is_some v.pin && list_any (eqb x) v.pinned_rows)) may in
    ⊎_elim
    (λ (on : v.turn ≡ true). inl (on, (let p = place_above v.rows x k in omega (arith, p))))
    (λ (pinned : (is_some v.pin && list_any (eqb x) v.pinned_rows) ≡ true). let b =
    both (is_some v.pin) (list_any (eqb x) v.pinned_rows) pinned in let p = there v.pin b.0 in
    inr (inr (p.0, x, k, p.1, any_times x v.pinned_rows b.1, lt, refl)))
    (either_of v.turn (is_some v.pin && list_any (eqb x) v.pinned_rows) a.1)

pub inside : (v : View) (x : ℕ) → may_read v x ≡ true → x < v.rows
inside v x may = let a =
    (both (nat_lt x v.rows) (v.turn || (is_some v.pin && list_any (eqb x) v.pinned_rows)) may).0 in
    ltb-true x v.rows a

each_below : (n : ℕ) (p : ℕ → Bool) (r : ℕ) → all_below n p ≡ true → r < n → p r ≡ true
each_below zero p r all lt = absurd (omega arith)
each_below (suc n) p r all lt = let a = both (p n) (all_below n p) all in
    dite (ℕ_discrete r n) (λ is. ap p is ∙ a.0) (λ other. each_below n p r a.1 (omega arith))

-- what a blank row is, read off the parts of its definition
pub record Blank (v : View) (x : ℕ) : Type 0 where
  pub known : length v.known_words ≡ table_words v.rows
  pub inside : x < v.rows
  pub on : v.turn ≡ true
  pub unpinned : v.pin ≡ None
  pub settled : v.due ≡ None
  pub unreached : is_unreached v x ≡ true

pub blank_parts : (v : View) (x : ℕ) → may_write v x ≡ true → Blank v x
blank_parts v x h = let a =
    both (eqb (length v.known_words) (table_words v.rows) && nat_lt x v.rows && v.turn && is_none
    v.pin && is_none v.due) (is_unreached v x) h in
    let b =
    both (eqb (length v.known_words) (table_words v.rows) && nat_lt x v.rows && v.turn && is_none
    v.pin) (is_none v.due) a.0 in
    let c = both (eqb (length v.known_words) (table_words v.rows) && nat_lt x v.rows && v.turn)
    (is_none v.pin) b.0 in
    let d = both (eqb (length v.known_words) (table_words v.rows) && nat_lt x v.rows) v.turn c.0 in
    let e = both (eqb (length v.known_words) (table_words v.rows)) (nat_lt x v.rows) d.0 in
    record {
      known = eqb-true (length v.known_words) (table_words v.rows) e.0;
      inside = ltb-true x v.rows e.1;
      on = d.1;
      unpinned = gone v.pin c.1;
      settled = gone v.due b.1;
      unreached = a.1;
    }

-- the holder of the turn may read a blank row
pub blank_may : (v : View) (x : ℕ) → may_write v x ≡ true → may_read v x ≡ true
blank_may v x h = let b = blank_parts v x h in
    ap (λ (t : Bool). t && (v.turn || (is_some v.pin && list_any (eqb x) v.pinned_rows)))
    (lt-ltb x v.rows b.inside)
    ∙ ap (λ (t : Bool). t || (is_some v.pin && list_any (eqb x) v.pinned_rows)) b.on

pub blank_row : (v : View) (x : ℕ) → may_write v x ≡ true → IsBlank (stored v.format) v x
blank_row v x h = let b = blank_parts v x h in (
  b.inside,
  (λ r small kept reached. ⊎_elim
      (λ (found : list_any (eqb r) v.drained ≡ true). kept (any_times r v.drained found))
      (λ (none_reaches : not (lives.reaches v.desk.lives (version_of v.desk r) x) ≡ true). let c :
      not true ≡ true = sym (ap not reached) ∙ none_reaches in
      absurd (let d : false ≡ true = c in cc))
      (either_of (list_any (eqb r) v.drained)
      (not (lives.reaches v.desk.lives (version_of v.desk r) x))
      (each_below (v.passes + 2)
      (λ r. list_any (eqb r) v.drained || not
      (lives.reaches v.desk.lives (version_of v.desk r) x)) r b.unreached small))),
)

pub writable : (v : View) (x k : ℕ) → may_write v x ≡ true → k < row_words
    → IsWritable (stored v.format) v (row_word v.rows x k)
writable v x k h lt = inl (x, k, blank_row v x h, lt, refl)

-- a row whose words were stored, one after the other
pub stored_none : (rows x : ℕ) (words old : List ℕ) → RowStored rows x 0 words old old
stored_none rows x words old = record {
  long = refl;
  so_far = λ k l. absurd (omega arith);
  others = λ i _. refl;
}

pub stored_more : (rows x n : ℕ) (words old new : List ℕ) → RowStored rows x n words old new
    → n < row_words → x < rows → length old ≡ table_words rows → (value : ℕ)
    → value ≡ get_or words n 0
    → RowStored rows x (n + 1) words old (set new (row_word rows x n) value)
stored_more rows x n words old new s lt inside wide value is =
    let long = s.long in let below = place_below rows x n inside lt in record {
      long = length-set new (row_word rows x n) value ∙ s.long;
      so_far = λ k l. dite (ℕ_discrete k n)
          (λ same. ap (λ (j : ℕ). get_or (set new (row_word rows x n) value) (row_word rows x j) 0)
          same
          ∙ get_or-set_same new (row_word rows x n) value 0 (omega (arith, below, long, wide)) ∙ is
          ∙ ap (λ (j : ℕ). get_or words j 0) (sym same))
          (λ other. get_or-set_other new (row_word rows x n) (row_word rows x k) value 0
          (λ e. other
          (place_apart rows x x k n inside inside (omega (arith, l, lt)) lt e).1)
          ∙ s.so_far k (omega (arith, l, other)));
      others = λ i away. get_or-set_other new (row_word rows x n) i value 0 (away n (omega arith))
          ∙ s.others i (λ k l. away k (omega (arith, l)));
    }

-- what a seat is beside the words that it knows stays when one of them is stored
pub stored_once : (old now new : Me (Option lives.State) View) (i value : ℕ)
    → now ≡ (record old.0 { known_words = now.0.known_words }, old.1)
    → new ≡ (record now.0 { known_words = set now.0.known_words i value }, now.1)
    → new ≡ (record old.0 { known_words = new.0.known_words }, old.1)
stored_once old now new i value kept s =
    s ∙ ap (λ (z : Me (Option lives.State) View).
    (record z.0 { known_words = set now.0.known_words i value }, z.1)) kept
    ∙ ap (λ (h : List ℕ). (record old.0 { known_words = h }, old.1))
    (sym (ap (λ (z : Me (Option lives.State) View). z.0.known_words) s))

-- and the row has one word more
pub stored_next : (old now new : Me (Option lives.State) View) (x n value : ℕ) (words : List ℕ)
    → now ≡ (record old.0 { known_words = now.0.known_words }, old.1)
    → new ≡ (
      record now.0 { known_words = set now.0.known_words (row_word now.0.rows x n) value },
      now.1,
    )
    → RowStored old.0.rows x n words old.0.known_words now.0.known_words → n < row_words
    → (x < now.0.rows) × (length now.0.known_words ≡ table_words now.0.rows)
    → value ≡ get_or words n 0
    → RowStored old.0.rows x (n + 1) words old.0.known_words new.0.known_words
stored_next old now new x n value words kept s so_far lt room is =
    let sized : now.0.rows ≡ old.0.rows =
    ap (λ (z : Me (Option lives.State) View). z.0.rows) kept in
    subst (λ (h : List ℕ). RowStored old.0.rows x (n + 1) words old.0.known_words h)
    (sym (ap (λ (z : Me (Option lives.State) View). z.0.known_words) s
    ∙ ap (λ (r : ℕ). set now.0.known_words (row_word r x n) value) sized))
    (stored_more old.0.rows x n words old.0.known_words now.0.known_words so_far lt
    (subst (λ (r : ℕ). x < r) sized room.0)
    (sym so_far.long ∙ room.1 ∙ ap table_words sized) value is)

-- the rows are as before but for the one that was written
pub written : (v : View) (x : ℕ) (value : Row) (words held : List ℕ) → may_write v x ≡ true
    → length words ≡ 16 → row_in words ≡ Some value → RowStored v.rows x 16 words v.known_words held
    → Writes (content_of v) (content_of (record v { known_words = held })) x value
written v x value words held blank long spelt s = let b = blank_parts v x blank in record {
  here = may (record v { known_words = held }) x b.inside b.on ∙ ap row_in (sym all) ∙ spelt;
  others = λ k other. elsewhere k other (may_read v k) refl;
}
  where
    may : (w : View) (k : ℕ) → k < w.rows → w.turn ≡ true → content_of w k ≡ rows_in
        (records.known_row w) k
    may w k lt on =
        ap (λ (t : Bool). if (t && (w.turn || (is_some w.pin && list_any (eqb k) w.pinned_rows)))
        then rows_in (records.known_row w) k else None) (lt-ltb k w.rows lt)
        ∙ ap (λ (t : Bool). if (t || (is_some w.pin && list_any (eqb k) w.pinned_rows)) then rows_in
        (records.known_row w) k else None) on

    all : words ≡ map (records.row v.rows held x) (range_with_len 0 16)
    all = fill_by_all (records.row v.rows held x) words 16 0 long
        (λ k lt. sym (s.so_far k (omega arith)))

    same_word : (k j : ℕ) → k < v.rows → k ≢ x → j < row_words → records.row v.rows held k j
        ≡ records.known_row v k j
    same_word k j within other lt = s.others (row_word v.rows k j)
        (λ i l e. other
        (place_apart v.rows k x j i within (blank_parts v x blank).inside lt l e).0)

    elsewhere : (k : ℕ) → k ≢ x → (b : Bool) → may_read v k ≡ b
        → (if b then rows_in (records.row v.rows held) k else None)
        ≡ (if b then rows_in (records.known_row v) k else None)
    elsewhere k other true may = same_row (records.known_row v) (records.row v.rows held) k
        (λ j lt. same_word k j (inside v k may) other lt)
    elsewhere k other false may = refl

pub row_written : (old new : Me (Option lives.State) View) (x : ℕ) (value : Row) (words : List ℕ)
    → new ≡ (record old.0 { known_words = new.0.known_words }, old.1) → may_write old.0 x ≡ true
    → length words ≡ 16 → row_in words ≡ Some value
    → RowStored old.0.rows x 16 words old.0.known_words new.0.known_words
    → Writes (content_of old.0) (content_of new.0) x value
row_written old new x value words kept blank long spelt s =
    subst (λ (z : Me (Option lives.State) View). Writes (content_of old.0) (content_of z.0) x value)
    (sym kept) (written old.0 x value words new.0.known_words blank long spelt s)

-- a list that is known index by index, from some number on
pub fill_from : (f : ℕ → ℕ) (xs : List ℕ) (a n : ℕ) → length xs ≡ n
    → ((k : ℕ) → k < n → get_or xs k 0 ≡ f (a + k)) → xs ≡ map f (range_with_len a n)
fill_from f xs a n long h = ext_get_or 0 xs (map f (range_with_len a n))
    (long ∙ sym (length-map-range_with_len f a n))
    (λ k lt. h k (omega arith)
    ∙ sym (get_or-map-range_with_len f a n k (a + k) 0 (omega arith) refl))

-- what is blank depends on no word, but on how many are known
pub blank_stays : (v w : View) → w ≡ record v { known_words = w.known_words } → length w.known_words
    ≡ length v.known_words → may_write w ≡ may_write v
blank_stays v w same long =
    ap may_write same ∙ ap {B = ℕ → Bool}
    (λ (n : ℕ) (x : ℕ). eqb n (table_words v.rows) && nat_lt x v.rows && v.turn && is_none v.pin
    && is_none v.due && is_unreached v x) long

-- a list that is known index by index below some number
pub same_front : (n : ℕ) (xs ys : List ℕ) → n ≤ length xs → length ys ≡ length xs
    → ((i : ℕ) → i < n → get_or ys i 0 ≡ get_or xs i 0) → take n ys ≡ take n xs
same_front n xs ys le long h = let a = length-take-le n xs le in let b =
    length-take-le n ys (omega (arith, le, long)) in ext_get_or 0 (take n ys) (take n xs)
    (b ∙ sym a)
    (λ i lt. let small : i < n = omega (arith, lt, b) in get_or-take n ys i 0 small ∙ h i small
    ∙ sym (get_or-take n xs i 0 small))

-- two seats that have the same parts
pub same_seated : (s : Seated) (table : TableId) (id : ℕ) (me : Me (Option lives.State) View)
    → table ≡ s.table → id ≡ s.id → me ≡ s.me
    → record { table = table; id = id; me = me } ≡ s
same_seated s table id me t i m =
    ap {B = Seated} (λ (x : TableId). record { table = x; id = id; me = me }) t
    ∙ ap {B = Seated} (λ (x : ℕ). record { table = s.table; id = x; me = me }) i
    ∙ ap {B = Seated} (λ (x : Me (Option lives.State) View).
    record { table = s.table; id = s.id; me = x }) m

-- what the seat is beside its rows depends on no word of a row
pub beside_stays : (s t : Seated) (x : ℕ) (words : List ℕ) → t ≡ with_words t.me.0.known_words s
    → first_row ≤ length s.me.0.known_words → RowStored s.me.0.rows x 16 words s.me.0.known_words
    t.me.0.known_words → beside t ≡ beside s
beside_stays s t x words same wide stored =
    let held = t.me.0.known_words in
    let front : take first_row held ≡ take first_row s.me.0.known_words =
    same_front first_row s.me.0.known_words held wide stored.long
    (λ i lt. stored.others i (λ k l is. let a = place_above s.me.0.rows x k in
    omega (arith, lt, is, a))) in
    ap beside same
    ∙ ap (λ (f : List ℕ). record { seat = with_words [] s; front = f; long = length held }) front
    ∙ ap (λ (n : ℕ). record {
      seat = with_words [] s;
      front = take first_row s.me.0.known_words;
      long = n;
    }) stored.long

-- the words of an entry that may be read spell it with other links, once these are put in
its_row : (b : Bool) (o : Option Row) (row : Row) → (if b then o else None) ≡ Some row
    → o ≡ Some row
its_row true o row is = is
its_row false o row is = cc

pub entry_copied : (v : View) (from child next : ℕ) (words : List ℕ) (P : Row → Type 0)
    → IsSome (part_at keyed_links (content_of v) from)
    → words ≡ map (records.known_row v from) (range_with_len 0 16) → child ≤ 65535
    → next ≤ 65535
    → ((value : Row) → row_in (set (set words 1 child) 2 next) ≡ Some value → P value)
    → IfSome (content_of v from) (λ entry. P (relinked child next entry))
entry_copied v from child next words P some loaded low small each = go (content_of v from) refl some
  where
    go : (o : Option Row) → content_of v from ≡ o → IsSome (option_and_then keyed_links o)
        → IfSome o (λ entry. P (relinked child next entry))
    go None is some = tt
    go (Some row) is some =
        each (relinked child next row)
        (relinked_words words row child next
        (ap row_in loaded ∙ its_row (may_read v from) (rows_in (records.known_row v) from) row
        is) some low small)
