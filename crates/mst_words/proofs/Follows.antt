-- What follows from the parts of the rule, in each state.
use Rattle.mst_words.proofs.Names.{◌≡◌, ◌⊎◌, ℕ, ◌+◌, ◌<◌, inl, inr, true, Option, Some, List, [], ◌∷◌, ◌++◌, length, sym, ap, ◌∙◌, subst, ⊎_elim, some, State, Event, History, In, View, DeskState, SeatAt, World, Drains, Meaning, IsFramed, IsLive, IsBlank, Parts, Ruled}
use lib.ListN.{get_elem?}
use Rattle.mst_words.proofs.Histories.{last_of, last_named, all_seen}

-- a record that is live was not found drained
pub live_not_drained : (N cur : ℕ) (due : Option ℕ) (beside : ℕ → ℕ) (vs : List View) (v : View)
    → Drains N cur due beside vs v → (r : ℕ) → IsLive cur vs r → In r v.drained → ⊥
live_not_drained N cur due beside vs v h r l within = let d = h.drained r within in
    ⊎_elim d.1 (λ (t : (i : ℕ) × (u : View) × (get_elem? vs i ≡ some u) × (u.pin ≡ Some r)). d.3 t.0
    t.1 t.2 t.3) l

module _ {S : Type 0} (T : Meaning S) (framed : IsFramed T) (R N : ℕ) where
  -- the holder's blank rows are in no live version
  pub blank_apart : (s : State S View) (q : Parts T R N s) (id : ℕ) (v : View)
      → get_elem? s.views id ≡ some v → v.turn ≡ true → (x : ℕ) → IsBlank T v x → (r : ℕ)
      → IsLive q.cur s.views r → In x (q.used r) → ⊥
  blank_apart s q id v at on x blank r l within = let h = q.rows.live r l in
      blank.1 r (subst (λ (n : ℕ). r < n + 2) (sym (q.world.placed id v at).passes_is) h.numbered)
      (live_not_drained N q.cur q.due q.beside s.views v (q.pins.holder id v at on) r l)
      (subst (λ (n : ℕ). T.Reaches v.desk n x)
      (sym h.filed ∙ ap (λ (d : DeskState). T.version d r) (sym (q.turn.holder id v at on).3))
      (subst (λ (d : DeskState). T.Reaches d (length (q.place r)) x)
      (sym (q.turn.holder id v at on).3) (h.reached x within)))

  -- the last event of the history is of a pass that has a seat, and has seen its own events
  whole_seen : (next : ℕ) (log : History) (views : List View) → World R N T.first next log views
      → (log ≡ []) ⊎ ((i : ℕ) × (v : View) × SeatAt views i v × (v.seen ≡ log))
  whole_seen next log views w = ⊎_elim (λ none. inl none)
      (λ (t : (front : History) × (e : Event) × (log ≡ front ++ e ∷ [])). let longer : History =
      t.0 ++ t.1 ∷ [] in let h : World R N T.first next longer views =
      subst (λ (l : History). World R N T.first next l views) t.2 w in
      let n = last_named (λ x. (0 < x.pass) × (x.pass < next)) t.0 t.1 h.named in let seat =
      h.seated t.1.pass n.0 n.1 in let v : View = seat.1 in let f = h.fits seat.0 v seat.2 in
      inr (
        seat.0,
        v,
        seat.2,
        all_seen v.number v.mine v.seen t.0 t.1 (sym seat.3) f.seen
            (f.mine (subst (λ (z : ℕ). 0 < z) (sym seat.3) n.0)) f.own ∙ sym t.2,
      )) (last_of log)

  -- the rule holds where its parts do
  pub ruled : (s : State S View) → Parts T R N s → Ruled T R N s
  ruled s q =
      record {
        parts = q;
        apart =
            record {
              blank = λ i v at on x blank r l within. blank_apart s q i v at on x blank r l within;
            };
        seen = record { whole = whole_seen q.next q.log s.views q.world };
      }
