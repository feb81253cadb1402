-- Every deed that a seat may do keeps the rule, and tells what it says: one lemma for all of them.
use Rattle.mst_words.proofs.Names.{◌≡◌, ℕ, ◌+◌, ◌-◌, ◌^◌, Bool, true, false, cond, eqb, Option, sym, refl, ◌∙◌, subst, arith, slice_index, none, Me, step, stepped, Allows, Format, View, Meaning, IsFramed, Ruled, IsFree, IsHolder, stored, Deed, told_by, trying, giving, pinning, unpinning, forgetting, reading, writing, transferring, asking, noting, asking_current, seeing_all, seeing_told, glancing, MayDo, word_after}
use prog.Atomic.{either}
use Rattle.mst_arena.specs.Lives as lives
use Rattle.mst_words.proofs.Framed.{stored_framed}
use Rattle.mst_words.proofs.Formats.{takes_by, gives_by, pins_by, asks_by}
use Rattle.mst_words.proofs.Steps.{reads_allows, writes_allows}
use Rattle.mst_words.proofs.PinSteps.{unpins_allows, forgets_allows}
use Rattle.mst_words.proofs.HoldSteps.{transfers_allows, notes_allows, asks_current_allows}
use Rattle.mst_words.proofs.Hearing.{all_allows, told_allows, glances_allows}

-- what a pass has and what it holds
abbrev Mine : Type 0
Mine = Me (Option lives.State) View

either_is : (b : Bool) (x y : ℕ) → either b x y ≡ cond b x y
either_is true x y = refl
either_is false x y = refl

-- a free pass is free by its own number
pub own_free : (number : ℕ) (m : Mine) → IsFree number m → IsFree m.0.number m
own_free number m f = let e = f.3 in let l = f.4 in (f.0, f.1, f.2, refl, omega (arith, e, l))

module _ (first : Format) (R N slots id : ℕ) (me : Mine) where
  abbrev T : Meaning (Option lives.State)
  T = stored first

  abbrev framed : IsFramed T
  framed = stored_framed first

  -- a step that makes of each number what f says
  abbrev Goes : ℕ → (ℕ → ℕ) → (ℕ → Mine → Type 0) → Type 0
  Goes i f then = Allows (Ruled T R N) slots id me i f then

  -- the deed on this word
  abbrev By : Deed → ℕ → ℕ → ℕ → Type 0
  By deed i a b = Goes i (word_after deed (step slots i a b none) me.0)
      (told_by deed (step slots i a b none) me)

  at_word : (deed : Deed) (i k a b : ℕ) → i ≡ k → By deed k a b → By deed i a b
  at_word deed i k a b is by = subst (λ (j : ℕ). By deed j a b) (sym is) by

  -- a step that makes the same of each number
  reword : (i : ℕ) (f h : ℕ → ℕ) (then : ℕ → Mine → Type 0) → ((n : ℕ) → f n ≡ h n)
      → Goes i f then → Goes i h then
  reword i f h then same goes s whole there at small =
      let r = goes s whole there at small in (
        r.0,
        r.1,
        r.2,
        subst (λ (n : ℕ). Ruled T R N (stepped s i n id me.1 r.0 r.1))
            (same (slice_index s.words i)) r.3,
        r.4,
      )

  tries : (a b : ℕ) → IsFree me.0.number me → By trying 0 a b
  tries a b free = reword 0 (λ n. either (eqb n 0) me.0.number n)
      (word_after trying (step slots 0 a b none) me.0) (told_by trying (step slots 0 a b none) me)
      (λ n. either_is (eqb n 0) me.0.number n)
      (takes_by first R N slots id me.0.number me.0.number me refl free)

  pub allowed : (deed : Deed) (i a b : ℕ) → MayDo deed i me → By deed i a b
  allowed trying i a b may = at_word trying i 0 a b may.0 (tries a b may.1)
  allowed giving i a b may = at_word giving i 0 a b may.0
      (gives_by first R N slots id may.1.0 may.1.1 me may.1.2)
  allowed pinning i a b may = at_word pinning i 1 a b may.0
      (pins_by first R N slots id (2 ^ (me.0.number - 1)) me.0.number me refl may.1)
  allowed unpinning i a b may = let r = may.0.0 in let pinned = may.0.1 in
      at_word unpinning i (r + 2) a b may.0.2
      (λ s whole there at small. unpins_allows T framed R N slots id r (2 ^ (me.0.number - 1))
      me.0.number me refl ((whole.parts.pins.seats id me.0 at).pinned r pinned).0
      (pinned, may.1, refl) s whole there at small)
  allowed forgetting i a b may = let r = may.0.0 in let pinned = may.0.1 in
      at_word forgetting i (r + 2) a b may.0.2
      (λ s whole there at small. forgets_allows T framed R N slots id r (2 ^ (me.0.number - 1))
      me.0.number me refl ((whole.parts.pins.seats id me.0 at).pinned r pinned).0
      (pinned, may.1, refl) s whole there at small)
  allowed reading i a b may = reads_allows T framed R N slots id i me may
  allowed writing i a b may = let holder : IsHolder me = may.0 in
      writes_allows T framed R N slots id i a me holder.0 holder.1 may.1
  allowed transferring i a b may = let r = may.0.0 in
      at_word transferring i (r + 2) a b may.0.2
      (transfers_allows T framed R N slots id r me.0.mask me may.1 may.0.1 refl)
  allowed asking i a b may = let r = may.0 in at_word asking i (r + 2) a b may.1
      (asks_by first R N slots id r me may.5 may.2 may.3 may.4)
  allowed noting i a b may = at_word noting i 1 a b may.0
      (notes_allows T framed R N slots id me may.1)
  allowed asking_current i a b may = let r = me.0.desk.current in
      at_word asking_current i (r + 2) a b may.0
      (asks_current_allows T framed R N slots id r me may.1 refl)
  allowed seeing_all i a b may = at_word seeing_all i 1 a b may.0
      (all_allows T framed R N slots id me may.1)
  allowed seeing_told i a b may = at_word seeing_told i 1 a b may.0
      (told_allows T framed R N slots id me may.1 may.2)
  allowed glancing i a b may = glances_allows T framed R N slots id i me may

  -- ---- the calls of the table

  -- one that makes of each number what the deed does
  pub by_deed : (deed : Deed) (i a b : ℕ) (f : ℕ → ℕ) → MayDo deed i me
      → ((n : ℕ) → word_after deed (step slots i a b none) me.0 n ≡ f n)
      → Goes i f (told_by deed (step slots i a b none) me)
  by_deed deed i a b f may same = reword i (word_after deed (step slots i a b none) me.0) f
      (told_by deed (step slots i a b none) me) same (allowed deed i a b may)

  pub stored_by : (deed : Deed) (i a : ℕ) → MayDo deed i me
      → ((n : ℕ) → word_after deed (step slots i a 0 none) me.0 n ≡ a)
      → ((n : ℕ) (m : Mine) → told_by deed (step slots i a 0 none) me n m
      → told_by deed (step slots i a 0 none) me a m)
      → Goes i (λ _. a) (λ _. told_by deed (step slots i a 0 none) me a)
  stored_by deed i a may same blind s whole there at small =
      let r = by_deed deed i a 0 (λ _. a) may same s whole there at small in
      (r.0, r.1, r.2, r.3, blind (slice_index s.words i) _ r.4)

  pub claimed_by : (deed : Deed) (i a : ℕ) → MayDo deed i me
      → ((n : ℕ) → word_after deed (step slots i 0 a none) me.0 n ≡ cond (eqb n 0) a n)
      → Goes i (λ n. either (eqb n 0) a n) (told_by deed (step slots i 0 a none) me)
  claimed_by deed i a may same = by_deed deed i 0 a (λ n. either (eqb n 0) a n) may
      (λ n. same n ∙ sym (either_is (eqb n 0) a n))
