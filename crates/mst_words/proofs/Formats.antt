-- Each seat knows the format of version 0, so what a step says by the rule's it says by the seat's.
use Rattle.mst_words.proofs.Names.{◌≡◌, ◌≢◌, ℕ, ◌+◌, ◌-◌, ◌*◌, ◌^◌, ◌<◌, eqb, bit_xor, List, Option, sym, subst, slice_index, none, Me, Allows, step, carried_after, Event, In, Format, masks, View, DeskState, Ruled, IsFree, IsHolder, IsGiving, IsReady, takes_turn, gives_turn, pins_now, asks, publishes, stored}
use prog.Atomic.{either}
use Rattle.mst_arena.specs.Lives.{State}
use Rattle.mst_words.proofs.Framed.{stored_framed}
use Rattle.mst_words.proofs.HoldSteps.{asks_allows, publishes_allows}
use Rattle.mst_words.proofs.PinSteps.{pins_now_allows}
use Rattle.mst_words.proofs.TurnSteps.{takes_allows, gives_allows}

-- what the step says
own_format : (first : Format) (R N slots id i : ℕ) (me : Me (Option State) View) (f : ℕ → ℕ)
    (then : Format → ℕ → Me (Option State) View → Type 0) → Allows (Ruled (stored first) R N) slots
    id me i f (then first) → Allows (Ruled (stored first) R N) slots id me i f (then me.0.format)
own_format first R N slots id i me f then allows s whole there at small =
    let r = allows s whole there at small in (
      r.0,
      r.1,
      r.2,
      r.3,
      subst (λ (k : Format). then k (slice_index s.words i) (r.0, carried_after me.1 r.1))
          (sym (whole.parts.world.placed id me.0 at).format_is) r.4,
    )

-- what the step asks for
given_format : (first : Format) (R N slots id i : ℕ) (me : Me (Option State) View) (f : ℕ → ℕ)
    (then : ℕ → Me (Option State) View → Type 0) (P : Format → Type 0) → P me.0.format
    → (P first → Allows (Ruled (stored first) R N) slots id me i f then)
    → Allows (Ruled (stored first) R N) slots id me i f then
given_format first R N slots id i me f then P is build s whole there at small =
    build (subst P (whole.parts.world.placed id me.0 at).format_is is) s whole there at small

-- ---- the steps that speak of what stands

module _ (first : Format) (R N slots id : ℕ) where
  pub takes_by : (p number : ℕ) (me : Me (Option State) View) → p ≡ number → IsFree number me
      → Allows (Ruled (stored first) R N) slots id me 0 (λ n. either (eqb n 0) p n)
      (takes_turn (stored me.0.format) (step slots 0 0 p none) me)
  takes_by p number me same free = own_format first R N slots id 0 me (λ n. either (eqb n 0) p n)
      (λ k. takes_turn (stored k) (step slots 0 0 p none) me)
      (takes_allows (stored first) (stored_framed first) R N slots id p number me same free)

  pub gives_by : (x : Option State) (d : DeskState) (me : Me (Option State) View)
      → IsGiving (stored me.0.format) x d me → Allows (Ruled (stored first) R N) slots id me 0
      (λ _. 0) (λ _. gives_turn (step slots 0 0 0 none) me 0)
  gives_by x d me is = given_format first R N slots id 0 me (λ _. 0)
      (λ _. gives_turn (step slots 0 0 0 none) me 0) (λ k. IsGiving (stored k) x d me) is
      (λ giving. gives_allows (stored first) (stored_framed first) R N slots id x d me giving)

  pub pins_by : (b number : ℕ) (me : Me (Option State) View) → b ≡ 2 ^ (number - 1)
      → IsFree number me → Allows (Ruled (stored first) R N) slots id me 1 (λ n. bit_xor n b)
      (pins_now (stored me.0.format) (step slots 1 b 0 none) me)
  pins_by b number me power free = own_format first R N slots id 1 me (λ n. bit_xor n b)
      (λ k. pins_now (stored k) (step slots 1 b 0 none) me)
      (pins_now_allows (stored first) (stored_framed first) R N slots id b number me power free)

  pub asks_by : (r : ℕ) (me : Me (Option State) View) → IsHolder me → r < me.0.passes + 2
      → r ≢ me.0.desk.current → (In r me.0.blocked → ⊥) → Allows (Ruled (stored first) R N) slots id
      me (r + 2) (λ n. n) (asks (stored me.0.format) (step slots (r + 2) 0 0 none) me)
  asks_by r me holder there other new = own_format first R N slots id (r + 2) me (λ n. n)
      (λ k. asks (stored k) (step slots (r + 2) 0 0 none) me)
      (asks_allows (stored first) (stored_framed first) R N slots id r me holder there other new)

  pub publishes_by : (b into : ℕ) (e : Event) (d : DeskState) (u : List ℕ)
      (me : Me (Option State) View) → IsReady (stored me.0.format) into e d u me.0
      → b ≡ into * masks → Allows (Ruled (stored first) R N) slots id me 1 (λ _. b)
      (publishes e d (step slots 1 b 0 none) me)
  publishes_by b into e d u me is word = given_format first R N slots id 1 me (λ _. b)
      (publishes e d (step slots 1 b 0 none) me) (λ k. IsReady (stored k) into e d u me.0) is
      (λ ready. publishes_allows (stored first) (stored_framed first) R N slots id b into e d u me
      ready word)
