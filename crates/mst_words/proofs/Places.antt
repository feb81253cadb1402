-- Where the words of rows lie: each word of each row has a place of its own, behind the records.
use Rattle.mst_words.proofs.Names.{◌≡◌, ℕ, ◌+◌, ◌-◌, ◌*◌, ◌<◌, ◌≤◌, Bool, true, false, refl, ap, ◌∙◌, arith, if◌then◌else◌, nat_lt, ltb-true, first_row, row_words, table_words}
use Rattle.std.proofs.lemmas.Bool.{ltb-false}
use Rattle.mst_words.specs.Layout.{row_word}

by_test : (P : Type 0) (k n : ℕ) → (nat_lt k n ≡ true → P) → (nat_lt k n ≡ false → P) → P
by_test P k n less more = go (nat_lt k n) refl
  where
    go : (t : Bool) → nat_lt k n ≡ t → P
    go true e = less e
    go false e = more e

-- by the lane of a word
pub by_lane : (P : Type 0) (rows x k : ℕ)
    → (k ≡ 0 → row_word rows x k ≡ rows * 4 + x * 8 + 285 → P)
    → (0 < k → k < 5 → row_word rows x k + 1 ≡ x * 4 + k + first_row → P)
    → (4 < k → k < 12 → row_word rows x k + 5 ≡ rows * 4 + x * 8 + k + first_row → P)
    → (11 < k → row_word rows x k + 12 ≡ rows * 12 + x * 4 + k + first_row → P) → P
unfolding row_word
by_lane P rows x k last front middle back = by_test P k 1
    (λ a. last (omega (arith, ltb-true k 1 a))
    (ap (λ (t : Bool). pick t (nat_lt k 5) (nat_lt k 12)) a ∙ omega arith))
    (λ a. by_test P k 5
    (λ b. let f = ltb-false k 1 a in
    let is : row_word rows x k ≡ x * 4 + (k - 1) + first_row =
    ap (λ (t : Bool). pick t (nat_lt k 5) (nat_lt k 12)) a
    ∙ ap (λ (t : Bool). pick false t (nat_lt k 12)) b in
    front (omega (arith, f)) (ltb-true k 5 b) (omega (arith, is, f)))
    (λ b. let g = ltb-false k 5 b in by_test P k 12
    (λ c. let is : row_word rows x k ≡ rows * 4 + x * 8 + (k - 5) + first_row =
    ap (λ (t : Bool). pick t (nat_lt k 5) (nat_lt k 12)) a
    ∙ ap (λ (t : Bool). pick false t (nat_lt k 12)) b
    ∙ ap (λ (t : Bool). pick false false t) c in
    middle (omega (arith, g)) (ltb-true k 12 c) (omega (arith, is, g)))
    (λ c. let h = ltb-false k 12 c in
    let is : row_word rows x k ≡ rows * 12 + x * 4 + (k - 12) + first_row =
    ap (λ (t : Bool). pick t (nat_lt k 5) (nat_lt k 12)) a
    ∙ ap (λ (t : Bool). pick false t (nat_lt k 12)) b
    ∙ ap (λ (t : Bool). pick false false t) c in
    back (omega (arith, h)) (omega (arith, is, h)))))
  where
    pick : Bool → Bool → Bool → ℕ
    pick a b c =
        if a then rows * 4 + x * 8 + 7 + first_row
        else if b then x * 4 + (k - 1) + first_row
        else if c then rows * 4 + x * 8 + (k - 5) + first_row
        else rows * 12 + x * 4 + (k - 12) + first_row

-- that of words 1 to 4 is the same in tables of any size
pub place_front : (rows x k : ℕ) → 0 < k → k < 5 → row_word rows x k + 1 ≡ x * 4 + k + first_row
place_front rows x k some few = by_lane (row_word rows x k + 1 ≡ x * 4 + k + first_row) rows x k
    (λ a e. absurd (omega (arith, a, some))) (λ a b e. e) (λ a b e. absurd (omega (arith, a, few)))
    (λ a e. absurd (omega (arith, a, few)))

-- it is behind the records
pub place_above : (rows x k : ℕ) → first_row ≤ row_word rows x k
place_above rows x k = by_lane (first_row ≤ row_word rows x k) rows x k
    (λ a e. omega (arith, e)) (λ a b e. omega (arith, a, e)) (λ a b e. omega (arith, a, e))
    (λ a e. omega (arith, a, e))

-- and in the table
pub place_below : (rows x k : ℕ) → x < rows → k < row_words → row_word rows x k < table_words rows
place_below rows x k inside small =
    by_lane (row_word rows x k < table_words rows) rows x k
    (λ a e. omega (arith, e, inside)) (λ a b e. omega (arith, b, e, inside))
    (λ a b e. omega (arith, b, e, inside)) (λ a e. omega (arith, small, e, inside))

-- no two words have one place
pub place_apart : (rows x y k j : ℕ) → x < rows → y < rows → k < row_words → j < row_words
    → row_word rows x k ≡ row_word rows y j → (x ≡ y) × (k ≡ j)
place_apart rows x y k j lx ly lk lj same = by_lane P rows x k
    (λ a e. by_lane P rows y j
    (λ b f. (omega (arith, a, e, b, f, same), omega (arith, a, b)))
    (λ b c f. absurd (omega (arith, a, e, b, c, f, same, ly)))
    (λ b c f. absurd (omega (arith, a, e, b, c, f, same)))
    (λ b f. absurd (omega (arith, a, e, b, f, same, lx))))
    (λ a d e. by_lane P rows y j
    (λ b f. absurd (omega (arith, a, d, e, b, f, same, lx)))
    (λ b c f. (omega (arith, a, d, e, b, c, f, same), omega (arith, a, d, e, b, c, f, same)))
    (λ b c f. absurd (omega (arith, a, d, e, b, c, f, same, lx)))
    (λ b f. absurd (omega (arith, a, d, e, b, f, same, lx))))
    (λ a d e. by_lane P rows y j
    (λ b f. absurd (omega (arith, a, d, e, b, f, same)))
    (λ b c f. absurd (omega (arith, a, d, e, b, c, f, same, ly)))
    (λ b c f. (omega (arith, a, d, e, b, c, f, same), omega (arith, a, d, e, b, c, f, same)))
    (λ b f. absurd (omega (arith, a, d, e, b, f, same, lx))))
    (λ a e. by_lane P rows y j
    (λ b f. absurd (omega (arith, a, e, b, f, same, ly)))
    (λ b c f. absurd (omega (arith, a, e, b, c, f, same, ly)))
    (λ b c f. absurd (omega (arith, a, e, b, c, f, same, ly)))
    (λ b f. (omega (arith, a, e, b, f, same, lk, lj), omega (arith, a, e, b, f, same, lk, lj))))
  where
    P : Type 0
    P = (x ≡ y) × (k ≡ j)
