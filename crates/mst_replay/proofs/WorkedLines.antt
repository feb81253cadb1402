-- Lines that no command is spelt as, and what others are answered.
use Rattle.mst_replay.proofs.Names.{◌≡◌, ◌≢◌, inl, inr, ⊎_elim, ℕ, zero, suc, ◌+◌, ◌<◌, ◌≤◌, ◌^◌, Option, Some, None, List, [], ◌∷◌, ◌++◌, length, get_or, true, false, sym, refl, ap, ◌∙◌, subst, arith, codes, decimal, dite, ℕ_discrete, decimal_digit, State, opening, row_set, Steps, Answer, Pin, Transfer, Command, Open, Take, Reply, FaultLine, Records, IsSpelt, rows_text, IsRest, Obeys, Replays, reply_of}
use Rattle.std.proofs.Common.{append-nil}
use Rattle.std.specs.Prelude.{◌↔◌}
use Rattle.std.specs.Str.Parse.{digits_value}
use Rattle.std.proofs.lemmas.Fmt.{decimal_is_IsNumeral, decimal_nonempty}
use Rattle.mst_pin.specs.declared.event.Event.TheVariants.{Unpin, Write, Publish, Ask}
use Rattle.mst_replay.specs.declared.reply.Reply.TheVariants.{Record}
use Rattle.mst_replay.specs.Laws.{IsFault}
use Rattle.mst_replay.proofs.Blanks.{HasNoBlank, decimal_no_blank, front_of, publish_fields}
use Rattle.mst_replay.proofs.FaultLines.{no_command, before_the_core}
use Rattle.mst_replay.proofs.Numbers.{cancel, wide, tail_same}
use Rattle.mst_replay.proofs.RowLists.{part, part_has, part_skips, bool_cases, begins, part_is_rest, numeral_tells, comma_before, text_of_zero}

pub fault : (line : List ℕ) → ((c : Command) → IsSpelt c line → ⊥) → IsFault line
fault line none s t reply = (no_command s t line reply none, λ e. inr (none, e.0, e.1))

-- ---- the word of a line, by its first two bytes

differ : (i x y : ℕ) (line other : List ℕ) → line ≡ other → get_or line i 0 ≡ x → get_or other i 0
    ≡ y → x ≢ y → ⊥
differ i x y line other e a b not = not (sym a ∙ ap (λ (l : List ℕ). get_or l i 0) e ∙ b)

module _ (line : List ℕ) where
  at_second : (other : List ℕ) (x y : ℕ) → line ≡ other → get_or line 1 0 ≡ x → get_or other 1 0 ≡ y
      → x ≢ y → ⊥
  at_second other x y e a b not = not (sym a ∙ ap (λ (l : List ℕ). get_or l 1 0) e ∙ b)

  pub pins : get_or line 1 0 ≡ 105 → ((p : ℕ) → p < 256 → line ≡ codes "pin " ++ decimal p → ⊥)
      → (c : Command) → IsSpelt c line → ⊥
  pins at none (Open n) s = at_second (codes "passes " ++ decimal n) 105 97 s.is_text at refl
      (λ e. omega arith)
  pins at none (Take (Pin p)) s = none p s.in_range s.is_text
  pins at none (Take (Unpin p)) s = at_second (codes "unpin " ++ decimal p) 105 110 s.is_text at
      refl (λ e. omega arith)
  pins at none (Take (Write x)) s = at_second (codes "write " ++ decimal x) 105 114 s.is_text at
      refl (λ e. omega arith)
  pins at none (Take (Publish r rows)) s =
      at_second (codes "publish " ++ decimal r ++ codes " " ++ rows_text rows) 105 117 s.is_text at
      refl (λ e. omega arith)
  pins at none (Take Transfer) s = at_second (codes "transfer") 105 114 s.is_text at refl
      (λ e. omega arith)
  pins at none (Take (Ask r)) s = at_second (codes "ask " ++ decimal r) 105 115 s.is_text at refl
      (λ e. omega arith)

  pub opens_only : get_or line 1 0 ≡ 97
      → ((n : ℕ) → 0 < n → n ≤ 32 → line ≡ codes "passes " ++ decimal n → ⊥) → (c : Command)
      → IsSpelt c line → ⊥
  opens_only at none (Open n) s = none n s.in_range.0 s.in_range.1 s.is_text
  opens_only at none (Take (Pin p)) s = at_second (codes "pin " ++ decimal p) 97 105 s.is_text at
      refl (λ e. omega arith)
  opens_only at none (Take (Unpin p)) s = at_second (codes "unpin " ++ decimal p) 97 110 s.is_text
      at refl (λ e. omega arith)
  opens_only at none (Take (Write x)) s = at_second (codes "write " ++ decimal x) 97 114 s.is_text
      at refl (λ e. omega arith)
  opens_only at none (Take (Publish r rows)) s =
      at_second (codes "publish " ++ decimal r ++ codes " " ++ rows_text rows) 97 117 s.is_text at
      refl (λ e. omega arith)
  opens_only at none (Take Transfer) s = at_second (codes "transfer") 97 114 s.is_text at refl
      (λ e. omega arith)
  opens_only at none (Take (Ask r)) s = at_second (codes "ask " ++ decimal r) 97 115 s.is_text at
      refl (λ e. omega arith)

  pub publishes : get_or line 1 0 ≡ 117
      → ((r rows : ℕ) → r < 256 → rows < 2 ^ 64 → line ≡ codes "publish " ++ decimal r ++ codes " "
      ++ rows_text rows → ⊥) → (c : Command) → IsSpelt c line → ⊥
  publishes at none (Open n) s = at_second (codes "passes " ++ decimal n) 117 97 s.is_text at refl
      (λ e. omega arith)
  publishes at none (Take (Pin p)) s = at_second (codes "pin " ++ decimal p) 117 105 s.is_text at
      refl (λ e. omega arith)
  publishes at none (Take (Unpin p)) s = at_second (codes "unpin " ++ decimal p) 117 110 s.is_text
      at refl (λ e. omega arith)
  publishes at none (Take (Write x)) s = at_second (codes "write " ++ decimal x) 117 114 s.is_text
      at refl (λ e. omega arith)
  publishes at none (Take (Publish r rows)) s = none r rows s.in_range.0 s.in_range.1 s.is_text
  publishes at none (Take Transfer) s = at_second (codes "transfer") 117 114 s.is_text at refl
      (λ e. omega arith)
  publishes at none (Take (Ask r)) s = at_second (codes "ask " ++ decimal r) 117 115 s.is_text at
      refl (λ e. omega arith)

  -- `write` and `transfer` have the same second byte
  pub writes : get_or line 0 0 ≡ 119 → get_or line 1 0 ≡ 114
      → ((x : ℕ) → x < 64 → line ≡ codes "write " ++ decimal x → ⊥) → (c : Command) → IsSpelt c line
      → ⊥
  writes first at none (Open n) s = at_second (codes "passes " ++ decimal n) 114 97 s.is_text at
      refl (λ e. omega arith)
  writes first at none (Take (Pin p)) s = at_second (codes "pin " ++ decimal p) 114 105 s.is_text at
      refl (λ e. omega arith)
  writes first at none (Take (Unpin p)) s = at_second (codes "unpin " ++ decimal p) 114 110
      s.is_text at refl (λ e. omega arith)
  writes first at none (Take (Write x)) s = none x s.in_range s.is_text
  writes first at none (Take (Publish r rows)) s =
      at_second (codes "publish " ++ decimal r ++ codes " " ++ rows_text rows) 114 117 s.is_text at
      refl (λ e. omega arith)
  writes first at none (Take Transfer) s = differ 0 119 116 line (codes "transfer") s.is_text first
      refl (λ e. omega arith)
  writes first at none (Take (Ask r)) s = at_second (codes "ask " ++ decimal r) 114 115 s.is_text at
      refl (λ e. omega arith)

  pub transfers : get_or line 0 0 ≡ 116 → get_or line 1 0 ≡ 114 → line ≢ codes "transfer"
      → (c : Command) → IsSpelt c line → ⊥
  transfers first at none (Open n) s = at_second (codes "passes " ++ decimal n) 114 97 s.is_text at
      refl (λ e. omega arith)
  transfers first at none (Take (Pin p)) s = at_second (codes "pin " ++ decimal p) 114 105 s.is_text
      at refl (λ e. omega arith)
  transfers first at none (Take (Unpin p)) s = at_second (codes "unpin " ++ decimal p) 114 110
      s.is_text at refl (λ e. omega arith)
  transfers first at none (Take (Write x)) s = differ 0 116 119 line (codes "write " ++ decimal x)
      s.is_text first refl (λ e. omega arith)
  transfers first at none (Take (Publish r rows)) s =
      at_second (codes "publish " ++ decimal r ++ codes " " ++ rows_text rows) 114 117 s.is_text at
      refl (λ e. omega arith)
  transfers first at none (Take Transfer) s = none s.is_text
  transfers first at none (Take (Ask r)) s = at_second (codes "ask " ++ decimal r) 114 115 s.is_text
      at refl (λ e. omega arith)

  -- a line of no bytes
  pub nothing : get_or line 1 0 ≡ 0 → (c : Command) → IsSpelt c line → ⊥
  nothing at (Open n) s = at_second (codes "passes " ++ decimal n) 0 97 s.is_text at refl
      (λ e. omega arith)
  nothing at (Take (Pin p)) s = at_second (codes "pin " ++ decimal p) 0 105 s.is_text at refl
      (λ e. omega arith)
  nothing at (Take (Unpin p)) s = at_second (codes "unpin " ++ decimal p) 0 110 s.is_text at refl
      (λ e. omega arith)
  nothing at (Take (Write x)) s = at_second (codes "write " ++ decimal x) 0 114 s.is_text at refl
      (λ e. omega arith)
  nothing at (Take (Publish r rows)) s =
      at_second (codes "publish " ++ decimal r ++ codes " " ++ rows_text rows) 0 117 s.is_text at
      refl (λ e. omega arith)
  nothing at (Take Transfer) s = at_second (codes "transfer") 0 114 s.is_text at refl
      (λ e. omega arith)
  nothing at (Take (Ask r)) s = at_second (codes "ask " ++ decimal r) 0 115 s.is_text at refl
      (λ e. omega arith)

-- ---- numbers

-- the number that a line spells after its word
pub value : (word digits : List ℕ) (n : ℕ) → n < 256 → word ++ digits ≡ word ++ decimal n
    → digits_value 10 digits ≡ n
value word digits n l e = ap (digits_value 10) (cancel word digits (decimal n) e)
    ∙ (decimal_is_IsNumeral n (wide n l)).1

-- ---- rows

-- after the first row of the text stand later rows
rows_behind : (a n s j : ℕ) (after : List ℕ) → a + n ≤ 64 → j < 64 → IsRest after
    → 44 ∷ (decimal j ++ after) ≡ part a n s → (m : ℕ) × (j + 1 + m ≤ 64)
    × (after ≡ part (j + 1) m s)
rows_behind a zero s j after within small is e =
    absurd (let f : 44 ∷ (decimal j ++ after) ≡ [] = e in cc)
rows_behind a (suc n) s j after within small is e = ⊎_elim
    (λ (has : row_set s a ≡ true). let f : decimal j ++ after ≡ decimal a ++ part (a + 1) n s =
    tail_same 44 (decimal j ++ after) (decimal a ++ part (a + 1) n s) (e ∙ part_has a n s has)
    in
    let same : j ≡ a = numeral_tells j a after (part (a + 1) n s) small (omega arith) is
    (part_is_rest (a + 1) n s) f in (
      n,
      omega arith,
      cancel (decimal j) after (part (j + 1) n s)
          (subst (λ (z : ℕ). decimal j ++ after ≡ decimal z ++ part (z + 1) n s) (sym same) f),
    ))
    (λ (not : row_set s a ≡ false). rows_behind (a + 1) n s j after (omega arith) small is
    (e ∙ part_skips a n s not))
    (bool_cases (row_set s a))

-- row 0 does not come after row 3
falling : (rows : ℕ) → rows < 2 ^ 64 → codes "3,0" ≡ rows_text rows → ⊥
falling rows small e = dite (ℕ_discrete rows 0)
    (λ none. let f : 51 ≡ 45 = ap (λ (l : List ℕ). get_or l 0 0) (e ∙ text_of_zero rows none) in
    omega arith)
    (λ some. let three : codes "3,0" ≡ decimal 3 ++ codes ",0" =
    ap (λ (l : List ℕ). l ++ codes ",0") (sym (decimal_digit 3 (omega arith))) in
    let h = rows_behind 0 64 rows 3 (codes ",0") (omega arith) (omega arith) refl
    (ap (λ (l : List ℕ). 44 ∷ l) (sym three) ∙ comma_before (codes "3,0") rows small some e) in
    no_zero h.0 h.1 (h.2))
  where
    no_zero : (m : ℕ) → 3 + 1 + m ≤ 64 → codes ",0" ≡ part (3 + 1) m rows → ⊥
    no_zero m within is = ⊎_elim
        (λ (none : part (3 + 1) m rows ≡ []). let f : codes ",0" ≡ [] =
        is ∙ none in let g : 44 ≡ 0 = ap (λ (l : List ℕ). get_or l 0 0) f in omega arith)
        (λ (h : (j : ℕ) × (3 + 1 ≤ j) × (j < 3 + 1 + m)
        × ((more : List ℕ) × IsRest more × (part (3 + 1) m rows ≡ 44 ∷ (decimal j ++ more)))).
        let low = h.1 in let high = h.2 in
        let zero_is : decimal 0 ++ [] ≡ codes "0" = append-nil (decimal 0) ∙ decimal_digit 0
        (omega arith) in
        let same = numeral_tells 0 h.0 [] h.3.0 (omega arith) (omega arith) tt h.3.1
        (zero_is ∙ tail_same 44 (codes "0") (decimal h.0 ++ h.3.0) (is ∙ h.3.2)) in omega arith)
        (begins (3 + 1) m rows)

pub no_falling_rows : (r rows : ℕ) → r < 256 → rows < 2 ^ 64 → codes "publish 1 3,0" ≡ codes
    "publish " ++ decimal r ++ codes " " ++ rows_text rows → ⊥
no_falling_rows r rows a b e =
    let is : codes "1 3,0" ≡ decimal r ++ 32 ∷ rows_text rows =
    cancel (codes "publish ") (codes "1 3,0") (decimal r ++ 32 ∷ rows_text rows)
    (e ∙ publish_fields r (rows_text rows)) in
    let h = front_of (codes "1 3,0") r (rows_text rows) 1 a is before (λ l. refl) in
    falling rows b h.2
  where
    before : (k : ℕ) → k < 1 → get_or (codes "1 3,0") k 0 ≢ 32
    before zero l e = let f : 49 ≡ 32 = e in omega arith
    before (suc k) l e = omega arith

-- ---- the lines

pub no_bytes : (c : Command) → IsSpelt c [] → ⊥
no_bytes = nothing [] refl

pub other_word : (c : Command) → IsSpelt c (codes "pins 1") → ⊥
other_word =
    pins (codes "pins 1") refl (λ p l e. let f : 115 ≡ 32 = ap (λ (z : List ℕ). get_or z 3 0) e in
    omega arith)

pub blank_behind : (c : Command) → IsSpelt c (codes "transfer ") → ⊥
blank_behind =
    transfers (codes "transfer ") refl refl (λ e. let f : 9 ≡ 8 = ap length e in omega arith)

no_blank_first : (ds rest : List ℕ) → HasNoBlank ds → 32 ∷ rest ≡ ds → ⊥
no_blank_first [] rest h e = let f : 32 ∷ rest ≡ [] = e in cc
no_blank_first (d ∷ ds) rest h e = h.0 (ap (λ (l : List ℕ). get_or l 0 0) (sym e))

pub two_blanks : (c : Command) → IsSpelt c (codes "pin  1") → ⊥
two_blanks =
    pins (codes "pin  1") refl
    (λ p l e. no_blank_first (decimal p) (codes "1") (decimal_no_blank p (wide p l))
    (cancel (codes "pin ") (codes " 1") (decimal p) e))

pub no_number : (c : Command) → IsSpelt c (codes "pin ") → ⊥
no_number =
    pins (codes "pin ") refl (λ p l e. let f : [] ≡ decimal p =
    cancel (codes "pin ") [] (decimal p) e in
    let some : 0 < length (decimal p) = decimal_nonempty p (wide p l) in
    let g : 0 ≡ length (decimal p) = ap length f in omega arith)

pub leading_zero : (c : Command) → IsSpelt c (codes "pin 01") → ⊥
leading_zero = pins (codes "pin 01") refl (λ p l e.
    let v : 1 ≡ p = value (codes "pin ") (codes "01") p l e in
    let f : codes "01" ≡ codes "1" = cancel (codes "pin ") (codes "01") (decimal p) e
    ∙ ap decimal (sym v) ∙ decimal_digit 1 (omega arith) in
    let g : 2 ≡ 1 = ap length f in omega arith)

pub pass_of_256 : (c : Command) → IsSpelt c (codes "pin 256") → ⊥
pass_of_256 =
    pins (codes "pin 256") refl (λ p l e. let v : 256 ≡ p = value (codes "pin ") (codes "256") p l e
    in omega arith)

pub no_passes : (c : Command) → IsSpelt c (codes "passes 0") → ⊥
no_passes = opens_only (codes "passes 0") refl (λ n some few e. let v : 0 ≡ n =
    value (codes "passes ") (codes "0") n (omega arith) e in omega arith)

pub passes_of_33 : (c : Command) → IsSpelt c (codes "passes 33") → ⊥
passes_of_33 = opens_only (codes "passes 33") refl (λ n some few e. let v : 33 ≡ n =
    value (codes "passes ") (codes "33") n (omega arith) e in omega arith)

pub row_of_64 : (c : Command) → IsSpelt c (codes "write 64") → ⊥
row_of_64 =
    writes (codes "write 64") refl refl (λ x l e. let v : 64 ≡ x =
    value (codes "write ") (codes "64") x (omega arith) e in omega arith)

pub rows_that_fall : (c : Command) → IsSpelt c (codes "publish 1 3,0") → ⊥
rows_that_fall = publishes (codes "publish 1 3,0") refl no_falling_rows

-- ---- lines of commands

pin_of_one : codes "pin 1" ≡ codes "pin " ++ decimal 1
pin_of_one = ap (λ (digits : List ℕ). codes "pin " ++ digits) (sym (decimal_digit 1 (omega arith)))

opens_no_core : (n : ℕ) → IsSpelt (Open n) (codes "pin 1") → ⊥
opens_no_core n s = differ 1 105 97 (codes "pin 1") (codes "passes " ++ decimal n) s.is_text refl
    refl (λ e. omega arith)

pub before_the_first : (t : Option State) (reply : Reply) → Replays None (codes "pin 1") reply t
    ↔ ((reply ≡ FaultLine) × (t ≡ None))
before_the_first t reply = (
  before_the_core t (codes "pin 1") reply opens_no_core,
  λ e. inl
      (Take (Pin 1), record { in_range = omega arith; is_text = pin_of_one }, e),
)

-- what a first pin in a new core is answered
first_pin : (p : ℕ) (a : Answer) (t : State) (reply : Reply) → 1 ≡ p → Steps (opening 2) (Pin p) a t
    → reply ≡ reply_of a → reply ≡ Record 0
first_pin p a t reply is (inl (taken, answered, same)) e = e ∙ ap reply_of answered
first_pin p a t reply is (inr (refused, answered, same)) e =
    absurd (refused ((omega arith, omega arith), refl))

second : (other : List ℕ) (y : ℕ) → codes "pin 1" ≡ other → get_or other 1 0 ≡ y → 105 ≢ y → ⊥
second other y e b not = at_second (codes "pin 1") other 105 y e refl b not

pinned_first : (c : Command) (t : Option State) (reply : Reply) → IsSpelt c (codes "pin 1")
    → Obeys (Some (opening 2)) c reply t → reply ≡ Record 0
pinned_first (Open n) t reply s obeyed = absurd (opens_no_core n s)
pinned_first (Take (Pin p)) t reply s obeyed =
    first_pin p obeyed.0 obeyed.1 reply (value (codes "pin ") (codes "1") p s.in_range s.is_text)
    obeyed.2 obeyed.3
pinned_first (Take (Unpin p)) t reply s obeyed =
    absurd (second (codes "unpin " ++ decimal p) 110 s.is_text refl (λ e. omega arith))
pinned_first (Take (Write x)) t reply s obeyed =
    absurd (second (codes "write " ++ decimal x) 114 s.is_text refl (λ e. omega arith))
pinned_first (Take (Publish r rows)) t reply s obeyed =
    absurd (second (codes "publish " ++ decimal r ++ codes " " ++ rows_text rows) 117 s.is_text refl
    (λ e. omega arith))
pinned_first (Take Transfer) t reply s obeyed =
    absurd (second (codes "transfer") 114 s.is_text refl (λ e. omega arith))
pinned_first (Take (Ask r)) t reply s obeyed =
    absurd (second (codes "ask " ++ decimal r) 115 s.is_text refl (λ e. omega arith))

pub in_new_core : (t : Option State) (reply : Reply) → Replays (Some (opening 2)) (codes "pin 1")
    reply t → reply ≡ Record 0
in_new_core t reply (inl (c, spelt, obeyed)) = pinned_first c t reply spelt obeyed
in_new_core t reply (inr (none, fault, same)) =
    absurd (none (Take (Pin 1)) (record { in_range = omega arith; is_text = pin_of_one }))

passes_of_two : codes "passes 2" ≡ codes "passes " ++ decimal 2
passes_of_two = ap (λ (digits : List ℕ). codes "passes " ++ digits)
    (sym (decimal_digit 2 (omega arith)))

third : (other : List ℕ) (y : ℕ) → codes "passes 2" ≡ other → get_or other 1 0 ≡ y → 97 ≢ y → ⊥
third other y e b not = at_second (codes "passes 2") other 97 y e refl b not

opened : (c : Command) (s t : Option State) (reply : Reply) → IsSpelt c (codes "passes 2")
    → Obeys s c reply t → (reply ≡ Records 4) × (t ≡ Some (opening 2))
opened (Open n) s t reply spelt obeyed = let v : 2 ≡ n =
    value (codes "passes ") (codes "2") n (let l = spelt.in_range.1 in omega arith) spelt.is_text
    in (
      obeyed.0 ∙ ap (λ (z : ℕ). Records (z + 2)) (sym v),
      obeyed.1 ∙ ap (λ (z : ℕ). Some (opening z))
          (sym v),
    )
opened (Take (Pin p)) s t reply spelt obeyed =
    absurd (third (codes "pin " ++ decimal p) 105 spelt.is_text refl (λ e. omega arith))
opened (Take (Unpin p)) s t reply spelt obeyed =
    absurd (third (codes "unpin " ++ decimal p) 110 spelt.is_text refl (λ e. omega arith))
opened (Take (Write x)) s t reply spelt obeyed =
    absurd (third (codes "write " ++ decimal x) 114 spelt.is_text refl (λ e. omega arith))
opened (Take (Publish r rows)) s t reply spelt obeyed =
    absurd (third (codes "publish " ++ decimal r ++ codes " " ++ rows_text rows) 117 spelt.is_text
    refl (λ e. omega arith))
opened (Take Transfer) s t reply spelt obeyed =
    absurd (third (codes "transfer") 114 spelt.is_text refl (λ e. omega arith))
opened (Take (Ask r)) s t reply spelt obeyed =
    absurd (third (codes "ask " ++ decimal r) 115 spelt.is_text refl (λ e. omega arith))

pub opens_two : (s t : Option State) (reply : Reply) → Replays s (codes "passes 2") reply t
    ↔ ((reply ≡ Records 4) × (t ≡ Some (opening 2)))
opens_two s t reply = (
  opens s t reply,
  λ e. inl
      (Open 2, record { in_range = (omega arith, omega arith); is_text = passes_of_two }, e),
)
  where
    opens : (s t : Option State) (reply : Reply) → Replays s (codes "passes 2") reply t
        → (reply ≡ Records 4) × (t ≡ Some (opening 2))
    opens s t reply (inl (c, spelt, obeyed)) = opened c s t reply spelt obeyed
    opens s t reply (inr (none, fault, same)) =
        absurd (none (Open 2)
        (record { in_range = (omega arith, omega arith); is_text = passes_of_two }))
