-- Words after a command that are read one by one, from the first to the last.
use Rattle.std.proofs.Common.{◌≡◌, ◌≢◌, ℕ, zero, suc, ◌-◌, ◌<◌, ◌≤◌, Bool, true, false, List, [], ◌∷◌, length, take, drop, get_or, map, Option, Some, None, refl, sym, ap, ◌∙◌, arith}
use Rattle.std.specs.Prelude.{◌==◌, not, nat_lt, is_none, is_some, codes}
use Rattle.std.specs.Str.{bytes_eq}
use Rattle.std.proofs.lemmas.List.{take_all}
use denote.Ref.{Bor}
use Rattle.mst_arguments.specs.declared.task.Subcommand.{Subcommand}
use Rattle.mst_arguments.specs.Options.{are_words, cut, first, is_flag, is_new_option, is_new_switch, is_switch, joined, name_of, operands, value_of}

abbrev Word : Type 0
Word = Bor (List ℕ)

abbrev pub first_word : List Word → Word
first_word words = get_or words 0 (record { ref_ptr = (0, 0); now = [] })

-- what a pattern leaves after the first word
abbrev pub others : List Word → List Word
others words = take (length words - 1) (drop 1 words)

whole : (words : List Word) → 1 ≤ length words → words ≡ first_word words ∷ others words
whole [] some = absurd (omega (arith, some))
whole (w ∷ words) some =
    ap (λ (l : List Word). w ∷ l)
    (sym (take_all (length (w ∷ words) - 1) words (omega arith)))

-- what stands behind the first of a list
behind : (x : List ℕ) (xs : List (List ℕ)) (place : ℕ) → place ≢ 0
    → get_or xs (place - 1) [] ≡ get_or (x ∷ xs) place []
behind x xs zero more = absurd (more refl)
behind x xs (suc place) more = let e : suc place - 1 ≡ place = omega arith in rw e refl

-- what is so of the first word and the others is so of the words
over_whole : {A : Type 0} (f : List Word → A) (words : List Word) (r : A) → 1 ≤ length words
    → r ≡ f (first_word words ∷ others words) → r ≡ f words
over_whole f words r some is = is ∙ ap f (sym (whole words some))

-- ---- the value of an option

pub no_value : (option : List ℕ) (words : List Word) → length words < 1
    → None ≡ value_of option words
no_value option [] none = refl
no_value option (w ∷ words) none = absurd (omega (arith, none))

module _ (option : List ℕ) (words : List Word) (some : 1 ≤ length words) where
  pub value_at_end : bytes_eq (first_word words).now (codes "--") ≡ true
      → None ≡ value_of option words
  value_at_end end = over_whole (value_of option) words None some (rw end refl)

  module _ (on : bytes_eq (first_word words).now (codes "--") ≡ false) where
    pub value_behind : (r : Option (List ℕ)) → bytes_eq (first_word words).now option ≡ true
        → r ≡ first (others words) → r ≡ value_of option words
    value_behind r it is = over_whole (value_of option) words r some (rw on (rw it is))

    module _ (other : bytes_eq (first_word words).now option ≡ false) where
      pub value_joined : (v : List ℕ) → Some v ≡ joined option (first_word words).now
          → Some v ≡ value_of option words
      value_joined v is =
          over_whole (value_of option) words (Some v) some (rw on (rw other (rw (sym is) refl)))

      pub value_later : (r : Option (List ℕ)) → None ≡ joined option (first_word words).now
          → r ≡ value_of option (others words) → r ≡ value_of option words
      value_later r none is =
          over_whole (value_of option) words r some (rw on (rw other (rw (sym none) is)))

-- ---- the operand at a place

abbrev operand_of : Bool → ℕ → List Word → List ℕ
operand_of v place words = get_or (operands v words) place []

pub no_operand : (v : Bool) (words : List Word) (place : ℕ) → length words < 1
    → [] ≡ get_or (operands v words) place []
no_operand v [] place none = refl
no_operand v (w ∷ words) place none = absurd (omega (arith, none))

module _ (v : Bool) (words : List Word) (place : ℕ) (some : 1 ≤ length words) where
  pub operand_value : (r : List ℕ) → v ≡ true
      → r ≡ get_or (operands false (others words)) place []
      → r ≡ get_or (operands v words) place []
  operand_value r value is = rw value (over_whole (operand_of true place) words r some is)

  module _ (word : v ≡ false) where
    over : (r : List ℕ) → r ≡ operand_of false place (first_word words ∷ others words)
        → r ≡ get_or (operands v words) place []
    over r is = rw word (over_whole (operand_of false place) words r some is)

    pub operand_at_end : (r : List ℕ) → bytes_eq (first_word words).now (codes "--") ≡ true
        → r ≡ get_or (map (λ w. w.now) (others words)) place []
        → r ≡ get_or (operands v words) place []
    operand_at_end r end is = over r (rw end is)

    module _ (on : bytes_eq (first_word words).now (codes "--") ≡ false) where
      pub operand_format : (r : List ℕ)
          → bytes_eq (first_word words).now (codes "--format") ≡ true
          → r ≡ get_or (operands true (others words)) place []
          → r ≡ get_or (operands v words) place []
      operand_format r it is = over r (rw on (rw it is))

      module _ (unlike : bytes_eq (first_word words).now (codes "--format") ≡ false) where
        pub operand_switch : (r : List ℕ)
            → bytes_eq (first_word words).now (codes "--sharded") ≡ true
            → r ≡ get_or (operands false (others words)) place []
            → r ≡ get_or (operands v words) place []
        operand_switch r it is = over r (rw on (rw unlike (rw it is)))

        module _ (other : bytes_eq (first_word words).now (codes "--sharded") ≡ false) where
          pub operand_joined : (r : List ℕ)
              → is_some (joined (codes "--format") (first_word words).now) ≡ true
              → r ≡ get_or (operands false (others words)) place []
              → r ≡ get_or (operands v words) place []
          operand_joined r it is = over r (rw on (rw unlike (rw other (rw it is))))

          module _ (bare : is_some (joined (codes "--format") (first_word words).now) ≡ false) where
            pub operand_first : place ≡ 0
                → (first_word words).now ≡ get_or (operands v words) place []
            operand_first first =
                over (first_word words).now (rw on (rw unlike (rw other (rw bare (rw first refl)))))

            pub operand_later : (r : List ℕ) → place ≢ 0
                → r ≡ get_or (operands false (others words)) (place - 1) []
                → r ≡ get_or (operands v words) place []
            operand_later r more is =
                over r (rw on (rw unlike (rw other (rw bare
                (is ∙ behind (first_word words).now (operands false (others words)) place more)))))

-- ---- whether the words are what a command takes

module _ (command : Subcommand) (v : Bool) (count : ℕ) (words : List Word) where
  pub no_value_due : length words < 1 → v ≡ false
      → (count == 0) ≡ are_words command v count words
  no_value_due none word = rw word (none_due words none)
    where
      none_due : (words : List Word) → length words < 1
          → (count == 0) ≡ are_words command false count words
      none_due [] none = refl
      none_due (w ∷ words) none = absurd (omega (arith, none))

  pub value_due : length words < 1 → v ≡ true → not v ≡ are_words command v count words
  value_due none value = rw value (one_due words none)
    where
      one_due : (words : List Word) → length words < 1
          → false ≡ are_words command true count words
      one_due [] none = refl
      one_due (w ∷ words) none = absurd (omega (arith, none))

  module _ (some : 1 ≤ length words) where
    as_value : (r : Bool) → v ≡ true
        → r ≡ are_words command true count (first_word words ∷ others words)
        → r ≡ are_words command v count words
    as_value r value is = rw value (over_whole (are_words command true count) words r some is)

    pub value_and_more : (r flag : Bool) → v ≡ true → flag ≡ is_flag (first_word words).now
        → flag ≡ false → r ≡ are_words command false count (others words)
        → r ≡ are_words command v count words
    value_and_more r flag value tested it is =
        as_value r value (rw (sym tested) (rw it is))

    pub value_a_flag : (flag : Bool) → v ≡ true → flag ≡ is_flag (first_word words).now
        → flag ≡ true → not flag ≡ are_words command v count words
    value_a_flag flag value tested it =
        as_value (not flag) value (rw (sym tested) (rw it refl))

    module _ (word : v ≡ false) where
      as_word : (r : Bool) → r ≡ are_words command false count (first_word words ∷ others words)
          → r ≡ are_words command v count words
      as_word r is = rw word (over_whole (are_words command false count) words r some is)

      pub end_and_operands : bytes_eq (first_word words).now (codes "--") ≡ true
          → (length (others words) == count) ≡ are_words command v count words
      end_and_operands end = as_word (length (others words) == count) (rw end refl)

      module _ (on : bytes_eq (first_word words).now (codes "--") ≡ false) where
        pub switch_and_more : (r new : Bool) → is_switch command (first_word words).now ≡ true
            → new ≡ is_new_switch command (first_word words).now (others words) → new ≡ true
            → r ≡ are_words command false count (others words)
            → r ≡ are_words command v count words
        switch_and_more r new it tested first is =
            as_word r (rw on (rw (sym tested) (rw it (rw first is))))

        pub switch_again : (new : Bool) → is_switch command (first_word words).now ≡ true
            → new ≡ is_new_switch command (first_word words).now (others words) → new ≡ false
            → new ≡ are_words command v count words
        switch_again new it tested none =
            as_word new (rw on (rw (sym tested) (rw it (rw none refl))))

        module _ (unlike : is_switch command (first_word words).now ≡ false) where
          pub option_and_more : (r new : Bool) → is_flag (first_word words).now ≡ true
              → new ≡ is_new_option command (name_of (first_word words).now) (others words)
              → new ≡ true
              → r ≡ are_words command (is_none (cut (first_word words).now)) count (others words)
              → r ≡ are_words command v count words
          option_and_more r new it tested first is =
              as_word r (rw on (rw unlike (rw it (rw (sym tested) (rw first is)))))

          pub option_again : (new : Bool) → is_flag (first_word words).now ≡ true
              → new ≡ is_new_option command (name_of (first_word words).now) (others words)
              → new ≡ false → new ≡ are_words command v count words
          option_again new it tested none =
              as_word new (rw on (rw unlike (rw it (rw (sym tested) (rw none refl)))))

          module _ (bare : is_flag (first_word words).now ≡ false) where
            pub operand_and_more : (r : Bool) → nat_lt 0 count ≡ true
                → r ≡ are_words command false (count - 1) (others words)
                → r ≡ are_words command v count words
            operand_and_more r due is = as_word r (rw on (rw unlike (rw bare (rw due is))))

            pub operand_too_many : nat_lt 0 count ≡ false
                → nat_lt 0 count ≡ are_words command v count words
            operand_too_many none =
                as_word (nat_lt 0 count) (rw on (rw unlike (rw bare (rw none refl))))
