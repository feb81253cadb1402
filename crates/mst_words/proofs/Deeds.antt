-- The steps of the laws, each of which keeps the history but a publication; what is writable; and
-- what the words say.
use Rattle.mst_words.proofs.Names.{◌≡◌, ◌⊎◌, ℕ, ◌+◌, ◌<◌, inl, inr, true, Option, List, [], ◌∷◌, ◌++◌, length, set, sym, refl, ap, ◌∙◌, subst, ⊎_elim, arith, dite, ℕ_discrete, State, Me, Step, set_here, set_again, Event, History, IsPrefix, IsPrefix-nil, IsPrefix-itself, In, record_word, record_words, row_word, row_words, View, Shape, DeskState, SeatAt, World, Fits, having_dealt, newcomer, Drains, Meaning, IsLive, IsBlank, field, row, Ruled, note_of, having_heard, IsWritable, stored, StandsOn, Deed, told_by, trying, giving, pinning, unpinning, forgetting, reading, writing, transferring, asking, noting, asking_current, seeing_all, seeing_told, glancing, Table, IsRuled, Makes, Adds, Hears}
use Rattle.mst_arena.specs.Lives as lives
use Rattle.mst_words.specs.Stored.{contents_after}
use Rattle.mst_words.specs.Laws.{IsWordOf, Tells, IsPublication, IsOther}
use Rattle.mst_words.proofs.Places.{place_above, place_apart}
use Rattle.mst_words.proofs.Follows.{live_not_drained}
use Rattle.mst_words.proofs.Worlds.{within}
use Rattle.mst_words.proofs.Ruling.{Whole, IsQuiet, set_stays, add_stays}

-- what a pass has and what it holds
abbrev Mine : Type 0
Mine = Me (Option lives.State) View

-- what a step tells leaves the number, the own events and what was seen
same_as : (log : History) (m m' n : Mine) → m' ≡ n → n.0.number ≡ m.0.number → n.0.mine ≡ m.0.mine
    → n.0.seen ≡ m.0.seen → IsQuiet log m.0 m'.0
same_as log m m' n is number mine seen = record {
  number = ap (λ (z : Mine). z.0.number) is ∙ number;
  mine = ap (λ (z : Mine). z.0.mine) is ∙ mine;
  seen =
      inl (subst (λ (l : History). IsPrefix m.0.seen l)
      (sym (ap (λ (z : Mine). z.0.seen) is ∙ seen)) (IsPrefix-itself m.0.seen));
}

-- or more is seen then
more_seen : (log : History) (m m' n : Mine) → m' ≡ n → n.0.number ≡ m.0.number → n.0.mine ≡ m.0.mine
    → IsPrefix m.0.seen n.0.seen → IsQuiet log m.0 m'.0
more_seen log m m' n is number mine seen = record {
  number = ap (λ (z : Mine). z.0.number) is ∙ number;
  mine = ap (λ (z : Mine). z.0.mine) is ∙ mine;
  seen =
      inl (subst (λ (l : History). IsPrefix m.0.seen l) (sym (ap (λ (z : Mine). z.0.seen) is))
      seen);
}

deed_quiet : (deed : Deed) (log : History) (st : Step (Option lives.State)) (m : Mine) (r : ℕ)
    (m' : Mine) → told_by deed st m r m' → Fits log m.0 → IsQuiet log m.0 m'.0
deed_quiet trying log st m r m' t f = dite (ℕ_discrete r 0)
    (λ hit. let k = t.1 hit in more_seen log m m' _ k.is refl refl k.later)
    (λ miss. same_as log m m' _ (t.2 miss).is refl refl refl)
deed_quiet giving log st m r m' t f = same_as log m m' _ t.1 refl refl refl
deed_quiet pinning log st m r m' t f = same_as log m m' _ t.1.is refl refl refl
deed_quiet unpinning log st m r m' t f = record {
  number = ap (λ (z : Mine). z.0.number) t.1;
  mine = ap (λ (z : Mine). z.0.mine) t.1;
  seen =
      inr (subst (λ (l : History). IsPrefix l log) (sym (ap (λ (z : Mine). z.0.seen) t.1))
      (f.pinned t.0.0 t.0.1).0);
}
deed_quiet forgetting log st m r m' t f = same_as log m m' _ t.1 refl refl refl
deed_quiet reading log st m r m' t f = same_as log m m' _ t.1 refl refl refl
deed_quiet writing log st m r m' t f = same_as log m m' _ t refl refl refl
deed_quiet transferring log st m r m' t f = same_as log m m' _ t.1 refl refl refl
deed_quiet asking log st m r m' t f = dite (ℕ_discrete r 0)
    (λ hit. same_as log m m' _ (t.2 hit) refl refl refl)
    (λ miss. same_as log m m' _ (t.3 miss).is refl refl refl)
deed_quiet noting log st m r m' t f = same_as log m m' _ t.1.is refl refl refl
deed_quiet asking_current log st m r m' t f = same_as log m m' _ t.1.is refl refl refl
deed_quiet seeing_all log st m r m' t f = more_seen log m m' _ t.1.is refl refl t.1.finds.later
deed_quiet seeing_told log st m r m' t f = more_seen log m m' _ t.1.is refl refl t.1.forward
deed_quiet glancing log st m r m' t f = same_as log m m' _ t.1 refl refl refl

module _ {S : Type 0} (T : Meaning S) (R N : ℕ) where
  -- one view changes, and the history stays
  set_ruled : (s t : State S View) (a : Ruled T R N s) (b : Ruled T R N t) (id : ℕ) (v w : View)
      → SeatAt s.views id v → t.views ≡ set s.views id w → IsQuiet a.parts.log v w
      → b.parts.log ≡ a.parts.log
  set_ruled s t a b id v w at views quiet = set_stays R N T.first a.parts.next b.parts.next
      a.parts.log b.parts.log s.views id v w a.parts.world
      (subst (λ (l : List View). World R N T.first b.parts.next b.parts.log l) views b.parts.world)
      a.seen.whole (subst (λ (l : List View). Whole b.parts.log l) views b.seen.whole) at quiet

  -- a seat is added, and the history stays
  add_ruled : (s t : State S View) (a : Ruled T R N s) (b : Ruled T R N t) (id : ℕ) (v w x : View)
      → SeatAt s.views id v → t.views ≡ set s.views id w ++ x ∷ [] → w.number ≡ v.number
      → w.mine ≡ v.mine → w.seen ≡ v.seen → IsPrefix x.seen a.parts.log
      → b.parts.log ≡ a.parts.log
  add_ruled s t a b id v w x at views number mine seen new =
      add_stays R N T.first a.parts.next b.parts.next a.parts.log b.parts.log s.views id v w x
      a.parts.world
      (subst (λ (l : List View). World R N T.first b.parts.next b.parts.log l) views b.parts.world)
      (subst (λ (l : List View). Whole b.parts.log l) views b.seen.whole) at number mine seen
      new

  -- the holder of the turn has seen the history, before its step and after
  held_ruled : (s t : State S View) (a : Ruled T R N s) (b : Ruled T R N t) (id : ℕ) (v w : View)
      (e : Event) → SeatAt s.views id v → t.views ≡ set s.views id w → v.turn ≡ true → w.turn ≡ true
      → w.seen ≡ v.seen ++ e ∷ [] → b.parts.log ≡ a.parts.log ++ e ∷ []
  held_ruled s t a b id v w e at views on on_then seen = let there : SeatAt t.views id w =
      subst (λ (l : List View). SeatAt l id w) (sym views)
      (set_here s.views id w (within s.views id v at)) in
      sym (b.parts.turn.holder id w there on_then).2 ∙ seen ∙ ap (λ (l : History). l ++ e ∷ [])
      (a.parts.turn.holder id v at on).2

  -- ---- what is writable

  -- the words of rows lie after those of records
  behind : (r k rows x j n : ℕ) → r < n + 2 → n < 33 → k < record_words
      → record_word r k ≡ row_word rows x j → ⊥
  behind r k rows x j n inside few small same = let a = place_above rows x j in
      omega (arith, inside, few, small, same, a)

  -- no word of a live record or of its rows is writable
  pub live_stays : (s : State S View) (a : Ruled T R N s) (id : ℕ) (v : View) (r i : ℕ)
      → SeatAt s.views id v → v.turn ≡ true → IsLive a.parts.cur s.views r
      → IsWordOf R r (a.parts.used r) i → IsWritable T v i → ⊥
  live_stays s a id v r i at on live word can = ⊎_elim
      (λ (t : (k : ℕ) × (k < record_words) × (i ≡ record_word r k)). ⊎_elim
      (λ (x : (x k : ℕ) × IsBlank T v x × (k < row_words) × (i ≡ row_word v.rows x k)). behind r t.0
      v.rows x.0 x.1 N numbered few t.1 (sym t.2 ∙ x.4))
      (λ (x : (r k : ℕ) × In r v.drained × (k < record_words) × (i ≡ record_word r k)). let e =
      t.2 in let f = x.4 in let l = t.1 in let m = x.3 in let same : x.0 ≡ r =
      omega (arith, e, f, l, m) in
      live_not_drained N a.parts.cur a.parts.due a.parts.beside s.views v known r live
      (subst (λ (z : ℕ). In z v.drained) same x.2)) can)
      (λ (t : (x k : ℕ) × In x (a.parts.used r) × (k < row_words) × (i ≡ row_word R x k)). ⊎_elim
      (λ (x : (x k : ℕ) × IsBlank T v x × (k < row_words) × (i ≡ row_word v.rows x k)).
      let same : t.0 ≡ x.0 =
      (place_apart R t.0 x.0 t.1 x.1 ((a.parts.rows.live r live).inside t.0 t.2)
      (subst (λ (z : ℕ). x.0 < z) sized x.2.0) t.3 x.3
      (sym t.4 ∙ x.4 ∙ ap (λ (z : ℕ). row_word z x.0 x.1) sized)).0 in
      a.apart.blank id v at on x.0 x.2 r live (subst (λ (z : ℕ). In z (a.parts.used r)) same t.2))
      (λ (x : (r k : ℕ) × In r v.drained × (k < record_words) × (i ≡ record_word r k)). behind x.0
      x.1 R t.0 t.1 N (known.drained x.0 x.2).0 few x.3 (sym x.4 ∙ t.4)) can) word
    where
      known : Drains N a.parts.cur a.parts.due a.parts.beside s.views v
      known = a.parts.pins.holder id v at on

      sized : v.rows ≡ R
      sized = (a.parts.world.placed id v at).rows_is

      numbered : r < N + 2
      numbered = (a.parts.rows.live r live).numbered

      few : N < 33
      few = let l = a.parts.pins.few in omega (arith, l)

  -- no live version reaches a writable row
  pub row_unreached : (s : State S View) (a : Ruled T R N s) (id : ℕ) (v : View) (r x k : ℕ)
      → SeatAt s.views id v → v.turn ≡ true → IsLive a.parts.cur s.views r → x < R → k < row_words
      → IsWritable T v (row_word R x k) → T.Reaches a.parts.desk (T.version a.parts.desk r) x → ⊥
  row_unreached s a id v r x k at on live inside small can reached = ⊎_elim
      (λ (t : (y j : ℕ) × IsBlank T v y × (j < row_words) × (row_word R x k ≡ row_word v.rows y j)).
      let same : x ≡ t.0 =
      (place_apart R x t.0 k t.1 inside (subst (λ (z : ℕ). t.0 < z) sized t.2.0) small t.3
      (t.4 ∙ ap (λ (z : ℕ). row_word z t.0 t.1) sized)).0 in
      t.2.1 r (subst (λ (n : ℕ). r < n + 2) (sym (a.parts.world.placed id v at).passes_is)
      (a.parts.rows.live r live).numbered)
      (live_not_drained N a.parts.cur a.parts.due a.parts.beside s.views v known r live)
      (subst (λ (d : DeskState). T.Reaches d (T.version d r) t.0)
      (sym (a.parts.turn.holder id v at on).3)
      (subst (λ (z : ℕ). T.Reaches a.parts.desk (T.version a.parts.desk r) z) same reached)))
      (λ (t : (q j : ℕ) × In q v.drained × (j < record_words) × (row_word R x k ≡ record_word q j)).
      behind t.0 t.1 R x k N (known.drained t.0 t.2).0
      (let l = a.parts.pins.few in omega (arith, l)) t.3 (sym t.4)) can
    where
      known : Drains N a.parts.cur a.parts.due a.parts.beside s.views v
      known = a.parts.pins.holder id v at on

      sized : v.rows ≡ R
      sized = (a.parts.world.placed id v at).rows_is

-- ---- of the table of a store

pub publication_grows : (z : Shape) (s t : Table) (a : IsRuled z s) (b : IsRuled z t) (e : Event)
    → IsPublication e s t → b.parts.log ≡ a.parts.log ++ e ∷ []
publication_grows z s t a b e p = let m = p.made in let is = m.tells.1.is in
    held_ruled (stored z.format) z.rows z.passes s t a b m.id m.before.0 m.after.0 e m.at m.views
    p.on (ap (λ (x : Mine). x.0.turn) is ∙ p.on) (ap (λ (x : Mine). x.0.seen) is)

pub other_keeps : (z : Shape) (s t : Table) (a : IsRuled z s) (b : IsRuled z t) → IsOther s t
    → b.parts.log ≡ a.parts.log
other_keeps z s t a b other = ⊎_elim
    (λ (d : (deed : Deed) × Makes (told_by deed) s t). let m =
    d.1 in set_ruled (stored z.format) z.rows z.passes s t a b m.id m.before.0 m.after.0 m.at
    m.views
    (deed_quiet d.0 a.parts.log m.step m.before m.found m.after m.tells
    (a.parts.world.fits m.id m.before.0 m.at)))
    (λ (o : Adds having_dealt newcomer s t ⊎ (Adds (λ v. v) note_of s t ⊎ Hears s t)). ⊎_elim
    (λ (d : Adds having_dealt newcomer s t). add_ruled (stored z.format) z.rows z.passes s t a b
    d.id d.view (having_dealt d.view) (newcomer d.view) d.at d.views refl refl refl
    (IsPrefix-nil a.parts.log))
    (λ (n : Adds (λ v. v) note_of s t ⊎ Hears s t). ⊎_elim
    (λ (d : Adds (λ v. v) note_of s t). add_ruled (stored z.format) z.rows z.passes s t a b d.id
    d.view d.view (note_of d.view) d.at d.views refl refl refl
    (a.parts.world.fits d.id d.view d.at).seen)
    (λ (h : Hears s t). set_ruled (stored z.format) z.rows z.passes s t a b h.id h.view
    (having_heard h.view h.note) h.at
    (h.views ∙ set_again (set s.views h.id (having_heard h.view h.note)) h.other h.note
    h.note_at)
    (record { number = refl; mine = refl; seen = inl (IsPrefix-itself h.view.seen) })) n) o) other

pub words_tell : (z : Shape) (s : Table) (a : IsRuled z s) → Tells z s a.parts.log
words_tell z s a = let q = a.parts in let stood = q.rows.live q.cur (inl refl) in record {
  current = q.cur;
  mask = q.mask;
  used = q.used q.cur;
  wide = q.wide;
  named = q.pins.current;
  small = q.pins.small;
  there = q.pins.cur_in;
  version = stood.version ∙ ap (λ (l : History). length l) q.rows.now;
  stands =
      subst (λ (l : History). StandsOn (row z.rows s.words) (field s.words q.cur)
      (contents_after z.format l) (q.used q.cur)) q.rows.now stood.stands;
  inside = stood.inside;
  seen = a.seen;
}
