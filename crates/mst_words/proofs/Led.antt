-- The steps of a table from its opening on, and what one list of events leads to.
use Rattle.mst_words.proofs.Names.{◌≡◌, ◌⊎◌, ℕ, ◌<◌, None, List, [], ◌∷◌, ◌++◌, sym, ap, ◌∙◌, subst, ⊎_elim, lit<, Publish, View, Shape, SeatAt, dealer, Deed, Table, IsRuled, IsReachedBy, moves_of, Does, MakesCurrent, ChangesSeats, GoesBy, IsLedTo}
use Rattle.mst_pin.specs.declared.event.Event as core
use Rattle.mst_pin.specs.State.{State}
use Rattle.mst_words.specs.Moves.{IsOpened}
use Rattle.mst_words.proofs.Paths.{path_opening, comes_one}
use Rattle.mst_words.proofs.Moves.{current_by, due_free, arrives, publication, seats_change, goes_on}

-- ---- from the opening on

pub opened : (z : Shape) (s : Table) (a : IsRuled z s) → IsOpened z s → IsReachedBy z [] s a
opened z s a o = arrives z s a [] 0 None (dealer z.rows z.passes z.format 1 ∷ [])
    (path_opening z.rows z.passes z.format) (current_by z s a 0 0 (lit< tt) (o.current))
    (due_free z s a o.turn) o.seats

one_step : (z : Shape) (s t : Table) (a : IsRuled z s) (b : IsRuled z t)
    (moves added : List core.Event) → GoesBy added s t → IsReachedBy z moves s a
    → IsReachedBy z (added ++ moves) t b
one_step z s t a b moves added goes q = ⊎_elim
    (λ (d : (deed : Deed) × (d : Does deed s t) × (added ≡ moves_of deed d.makes.before.0)). subst
    (λ (l : List core.Event). IsReachedBy z (l ++ moves) t b) (sym d.2)
    (goes_on z s t a b moves d.0 d.1 q))
    (λ (o : ((into : ℕ) × MakesCurrent into s t × (added ≡ Publish into 0 ∷ []))
    ⊎ (ChangesSeats s t × (added ≡ []))). ⊎_elim
    (λ (p : (into : ℕ) × MakesCurrent into s t × (added ≡ Publish into 0 ∷ [])). subst
    (λ (l : List core.Event). IsReachedBy z (l ++ moves) t b) (sym p.2)
    (publication z s t a b moves p.0 p.1 q))
    (λ (c : ChangesSeats s t × (added ≡ [])). subst
    (λ (l : List core.Event). IsReachedBy z (l ++ moves) t b) (sym c.1)
    (seats_change z s t a b moves c.0 q)) o) goes

pub led : (z : Shape) (tables : List Table) (moves : List core.Event) (t : Table) (b : IsRuled z t)
    → IsLedTo z tables moves t → IsReachedBy z moves t b
led z [] moves t b (o, none) = subst (λ (l : List core.Event). IsReachedBy z l t b) (sym none)
    (opened z t b o)
led z (s ∷ tables) moves t b (before, added, rest, a, goes, is) =
    subst (λ (l : List core.Event). IsReachedBy z l t b) (sym is)
    (one_step z s t a b before added goes (led z tables before s a rest))

-- ---- by one list

module _ (z : Shape) (moves : List core.Event) (s t : Table) (a : IsRuled z s) (b : IsRuled z t)
    (p : IsReachedBy z moves s a) (q : IsReachedBy z moves t b) where
  one_state : q.state ≡ p.state
  one_state = comes_one z.passes moves p.state q.state p.comes q.comes

  pub one_current : b.parts.cur ≡ a.parts.cur
  one_current = sym q.cur_is ∙ ap (λ (x : State). x.current) one_state ∙ p.cur_is

  pub one_due : b.parts.due ≡ a.parts.due
  one_due = sym q.due_is ∙ ap (λ (x : State). x.due) one_state ∙ p.due_is

  pub one_pin : (i j : ℕ) (v w : View) → SeatAt s.views i v → SeatAt t.views j w → 0 < v.number
      → w.number ≡ v.number → w.pin ≡ v.pin
  one_pin i j v w here there pos number =
      sym (q.pins_are j w there (subst (λ (n : ℕ). 0 < n) (sym number) pos))
      ∙ ap q.state.pins number ∙ ap (λ (x : State). x.pins v.number) one_state ∙ p.pins_are i v here
      pos
