-- An entry that is copied into a blank row, part by part.
use Rattle.mst_words.proofs.Names.{◌≡◌, ℕ, zero, suc, ◌+◌, ◌-◌, ◌<◌, ◌≤◌, Bool, true, false, Option, List, [], ◌∷◌, length, map, set, get_or, subst, refl, sym, ap, ◌∙◌, arith, length-set, get_or-set_same, get_or-set_other, IsTrue, nat_lt, range_with_len, dite, ℕ_discrete, length-map-range_with_len, get_or-map-range_with_len, Me, View, row_word, row_words, table_words, may_write, RowStored, PartStored, IsPadded, relinked_list}
use Rattle.std.proofs.lemmas.Bool.Decides.{nat_tests}
use Rattle.mst_arena.specs.Lives as lives
use Rattle.mst_words.specs.Records as records
use Rattle.mst_words.proofs.Accesses.{blank_stays, fill_from}
use Rattle.mst_words.proofs.Places.{place_below, place_apart}

-- ---- the seat between two steps

pub still_blank : (old now : Me (Option lives.State) View) (x : ℕ)
    → now ≡ (record old.0 { known_words = now.0.known_words }, old.1)
    → length now.0.known_words ≡ length old.0.known_words → IsTrue (may_write old.0 x)
    → IsTrue (may_write now.0 x)
still_blank old now x kept long blank = subst (λ (f : ℕ → Bool). IsTrue (f x))
    (sym (blank_stays old.0 now.0 (ap (λ (z : Me (Option lives.State) View). z.0) kept) long)) blank

-- ---- one part

part_more : (rows x at n : ℕ) (word : ℕ → ℕ) (old new : List ℕ)
    → PartStored rows x at n word old new → at + n < row_words → x < rows
    → length old ≡ table_words rows → (value : ℕ) → value ≡ word (at + n)
    → PartStored rows x at (n + 1) word old (set new (row_word rows x (at + n)) value)
part_more rows x at n word old new s lt inside wide value is =
    let long = s.long in let below = place_below rows x (at + n) inside lt in record {
      long = length-set new (row_word rows x (at + n)) value ∙ s.long;
      so_far = λ k l. dite (ℕ_discrete k n)
          (λ same. ap (λ (j : ℕ).
          get_or (set new (row_word rows x (at + n)) value) (row_word rows x (at + j)) 0) same
          ∙ get_or-set_same new (row_word rows x (at + n)) value 0
          (omega (arith, below, long, wide)) ∙ is
          ∙ ap (λ (j : ℕ). word (at + j)) (sym same))
          (λ other. get_or-set_other new (row_word rows x (at + n)) (row_word rows x (at + k)) value
          0
          (λ e. let same = (place_apart rows x x (at + k) (at + n) inside inside
          (omega (arith, l, lt)) lt e).1 in other (omega (arith, same)))
          ∙ s.so_far k (omega (arith, l, other)));
      others = λ i away. get_or-set_other new (row_word rows x (at + n)) i value 0
          (away n (omega arith))
          ∙ s.others i (λ k l. away k (omega (arith, l)));
    }

-- one word more of a part was stored
pub part_next : (old now new : Me (Option lives.State) View) (x at n value : ℕ) (word : ℕ → ℕ)
    → now ≡ (record old.0 { known_words = now.0.known_words }, old.1)
    → new ≡ (
      record now.0 { known_words = set now.0.known_words (row_word now.0.rows x (at + n)) value },
      now.1,
    )
    → PartStored old.0.rows x at n word old.0.known_words now.0.known_words → at + n < row_words
    → (x < now.0.rows) × (length now.0.known_words ≡ table_words now.0.rows)
    → value ≡ word (at + n)
    → PartStored old.0.rows x at (n + 1) word old.0.known_words new.0.known_words
part_next old now new x at n value word kept s so_far lt room is =
    let sized : now.0.rows ≡ old.0.rows =
    ap (λ (z : Me (Option lives.State) View). z.0.rows) kept in
    subst (λ (h : List ℕ). PartStored old.0.rows x at (n + 1) word old.0.known_words h)
    (sym (ap (λ (z : Me (Option lives.State) View). z.0.known_words) s
    ∙ ap (λ (r : ℕ). set now.0.known_words (row_word r x (at + n)) value) sized))
    (part_more old.0.rows x at n word old.0.known_words now.0.known_words so_far lt
    (subst (λ (r : ℕ). x < r) sized room.0)
    (sym so_far.long ∙ room.1 ∙ ap table_words sized) value is)

-- a word of any row behind the part is as before, also where it is of the same row
pub beyond : (rows x at n from k : ℕ) (word : ℕ → ℕ) (old new : List ℕ) → x < rows → from < rows
    → PartStored rows x at n word old new → at + n ≤ k → k < row_words
    → records.row rows new from k ≡ records.row rows old from k
beyond rows x at n from k word old new here there s le lt = s.others (row_word rows from k)
    (λ j l e. let same = (place_apart rows from x k (at + j) there here lt
    (omega (arith, l, le, lt)) e).1 in absurd (omega (arith, l, le, same)))

-- a list that is filled up to one word more
pub filled_more : (words : List ℕ) (word : ℕ → ℕ) (n value : ℕ) → n < length words
    → ((k : ℕ) → k < n → get_or words k 0 ≡ word k) → value ≡ word n
    → (k : ℕ) → k < n + 1 → get_or (set words n value) k 0 ≡ word k
filled_more words word n value lt so_far is k l = dite (ℕ_discrete k n)
    (λ same. ap (λ (j : ℕ). get_or (set words n value) j 0) same
    ∙ get_or-set_same words n value 0 lt ∙ is ∙ ap word (sym same))
    (λ other. get_or-set_other words n k value 0 other ∙ so_far k (omega (arith, l, other)))

-- ---- parts one behind the other

by_less : (P : Type 0) (k n : ℕ) → (k < n → P) → (n ≤ k → P) → P
by_less P k n less more = go (nat_lt k n) refl
  where
    go : (t : Bool) → nat_lt k n ≡ t → P
    go true e = less (grind (arith, nat_tests))
    go false e = more (grind (arith, nat_tests))

pub parts_joined : (rows x from at n m : ℕ) (old mid new : List ℕ) → x < rows → from < rows
    → PartStored rows x at n (records.row rows old from) old mid
    → PartStored rows x (at + n) m (records.row rows mid from) mid new → at + n + m ≤ row_words
    → PartStored rows x at (n + m) (records.row rows old from) old new
parts_joined rows x from at n m old mid new here there a b le = record {
  long = b.long ∙ a.long;
  so_far = λ k l. by_less (records.row rows new x (at + k) ≡ records.row rows old from (at + k)) k n
      (λ less. b.others (row_word rows x (at + k))
      (λ j i e. let same = (place_apart rows x x (at + k) (at + n + j) here here
      (omega (arith, l, le)) (omega (arith, i, le)) e).1 in
      absurd (omega (arith, i, same, less)))
      ∙ a.so_far k less) (λ more. behind k l more);
  others = λ i away. b.others i
      (λ k l e. let j : at + n + k ≡ at + (n + k) = omega arith in
      away (n + k) (omega (arith, l)) (e ∙ ap (row_word rows x) j))
      ∙ a.others i (λ k l. away k (omega (arith, l)));
}
  where
    behind : (k : ℕ) → k < n + m → n ≤ k → records.row rows new x (at + k)
        ≡ records.row rows old from (at + k)
    behind k l more =
        let e : at + n + (k - n) ≡ at + k = omega (arith, more) in
        let j : k - n < m = omega (arith, l, more) in
        ap (records.row rows new x) (sym e)
        ∙ b.so_far (k - n) j
        ∙ beyond rows x at n from (at + n + (k - n)) (records.row rows old from) old mid here there
        a
        (omega arith) (omega (arith, j, le))
        ∙ ap (records.row rows old from) e

-- words of two rows that are the same make the same list
pub same_words : (f h : ℕ → ℕ) (a n : ℕ) → ((k : ℕ) → a ≤ k → k < a + n → h k ≡ f k)
    → map h (range_with_len a n) ≡ map f (range_with_len a n)
same_words f h a n same =
    fill_from f (map h (range_with_len a n)) a n (length-map-range_with_len h a n)
    (λ k lt. get_or-map-range_with_len h a n k (a + k) 0 lt refl
    ∙ same (a + k) (omega arith) (omega (arith, lt)))

-- ---- the front of the copy, and the words behind it

front_words : (f : ℕ → ℕ) (kind child next lengths : ℕ) → kind ≡ f 0 → lengths ≡ f 3 → (k : ℕ)
    → k < 4 → get_or (kind ∷ child ∷ next ∷ lengths ∷ []) k 0 ≡ get_or (relinked_list f child next)
    k 0
front_words f kind child next lengths is size zero lt = is
front_words f kind child next lengths is size (suc zero) lt = refl
front_words f kind child next lengths is size (suc (suc zero)) lt = refl
front_words f kind child next lengths is size (suc (suc (suc zero))) lt = size
front_words f kind child next lengths is size (suc (suc (suc (suc k)))) lt = absurd (omega arith)

back_words : (f : ℕ → ℕ) (child next k : ℕ) → 4 ≤ k → k < 16
    → get_or (relinked_list f child next) k 0 ≡ f k
back_words f child next k ge lt =
    get_or-set_other (set (map f (range_with_len 0 16)) 1 child) 2 k next 0
    (λ e. absurd (omega (arith, e, ge)))
    ∙ get_or-set_other (map f (range_with_len 0 16)) 1 k child 0
    (λ e. absurd (omega (arith, e, ge)))
    ∙ get_or-map-range_with_len f 0 16 k k 0 lt (omega arith)

-- a word of any row behind the front is as before
pub behind_front : (rows x n from k : ℕ) (words old new : List ℕ) → x < rows → from < rows
    → RowStored rows x n words old new → n ≤ k → k < row_words
    → records.row rows new from k ≡ records.row rows old from k
behind_front rows x n from k words old new here there s le lt = s.others (row_word rows from k)
    (λ j l e. let same = (place_apart rows from x k j there here lt (omega (arith, l, le, lt)) e).1
    in absurd (omega (arith, l, le, same)))

pub entry_stored : (rows x from child next lengths : ℕ) (old mid new : List ℕ) → x < rows
    → from < rows → records.row rows old from 0 ≡ 1 → lengths ≡ records.row rows old from 3
    → RowStored rows x 4 (1 ∷ child ∷ next ∷ lengths ∷ []) old mid
    → PartStored rows x 4 12 (records.row rows mid from) mid new
    → RowStored rows x 16 (relinked_list (records.row rows old from) child next) old new
entry_stored rows x from child next lengths old mid new here there kind size a b = record {
  long = b.long ∙ a.long;
  so_far = λ k l. by_less
      (records.row rows new x k
      ≡ get_or (relinked_list (records.row rows old from) child next) k 0) k 4
      (λ less. b.others (row_word rows x k)
      (λ j i e. let same = (place_apart rows x x k (4 + j) here here (omega (arith, l))
      (omega (arith, i)) e).1 in absurd (omega (arith, i, same, less)))
      ∙ a.so_far k less
      ∙ front_words (records.row rows old from) 1 child next lengths (sym kind) size k less)
      (λ more. behind k l more);
  others = λ i away. b.others i (λ k l e. away (4 + k) (omega (arith, l)) e)
      ∙ a.others i (λ k l. away k (omega (arith, l)));
}
  where
    behind : (k : ℕ) → k < 16 → 4 ≤ k → records.row rows new x k
        ≡ get_or (relinked_list (records.row rows old from) child next) k 0
    behind k l more =
        let e : 4 + (k - 4) ≡ k = omega (arith, more) in
        ap (records.row rows new x) (sym e)
        ∙ b.so_far (k - 4) (omega (arith, l, more))
        ∙ ap (records.row rows mid from) e
        ∙ behind_front rows x 4 from k (1 ∷ child ∷ next ∷ lengths ∷ []) old mid here there a more l
        ∙ sym (back_words (records.row rows old from) child next k more l)

-- the words behind the front end as before
pub still_ends : (lengths size : ℕ) (f h : ℕ → ℕ) → lengths ≡ size
    → ((k : ℕ) → 4 ≤ k → k < 16 → h k ≡ f k) → IsPadded size f → IsPadded lengths h
still_ends lengths size f h is same e = record {
  key = λ common k lt. same (6 + k) (omega arith) (omega (arith, lt))
      ∙ e.key (sym is ∙ common) k lt;
  value = λ common k lt. same (12 + k) (omega arith) (omega (arith, lt))
      ∙ e.value (sym is ∙ common) k lt;
}
