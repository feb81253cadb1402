-- From the turn that was begun to the batch that is prepared, and from there to the one that is
-- published.
use Rattle.std.proofs.Common.{◌≡◌, ℕ, ◌+◌, ◌<◌, ◌≤◌, List, [], ◌∷◌, ◌++◌, length, Option, Some, refl, sym, ap, subst, ◌∙◌, arith}
use Rattle.mst_key.specs.declared.format.Format.{Format}
use Rattle.mst_key.specs.declared.history.Change.{Change}
use Rattle.mst_key.specs.declared.history.Change.TheVariants.{Batch}
use Rattle.mst_key.specs.declared.history.Edit.{Edit}
use Rattle.mst_key.specs.declared.history.Event.{Event}
use Rattle.mst_key.specs.History.{History, after, done, events_of}
use Rattle.mst_key.proofs.HistoryLaws.{events_of-append}
use Rattle.mst_arena.specs.Lives.{last_version}
use Rattle.mst_arena.specs.declared.row.Root.{Root}
use Rattle.mst_words.specs.declared.view.View.{View}
use Rattle.mst_words.specs.Access.{Seated, with_words, IsSameSeat}
use Rattle.mst_words.specs.Notes.{IsOfPasses}
use Rattle.mst_words.specs.Steps.{IsFree}
use Rattle.mst_batching.specs.declared.preparing.Preparation.{Preparation}
use Rattle.mst_versions.specs.declared.turn.Turn.{Turn}
use Rattle.mst_versions.specs.Known.{StoreId, Known, store_of, known, AtSeat, made_by}
use Rattle.mst_batching.specs.Preparing.{batch_of, IsPrepared, Prepares, published}
use Rattle.mst_versions.specs.Turns.{SeatState, Begun, HasMade, StaysMade, IsFilled, Added}
use Rattle.mst_versions.specs.Revealing.{closed}
use Rattle.mst_versions.specs.Writes.{made_at_seat, rows_of, rows_taken, Made, KeepsPass, Wrote, WroteAtSeat}
use Rattle.mst_versions.proofs.Shown.{at_seat, store_is}
use Rattle.mst_versions.proofs.Written.{room_left, format_now, finds_room, looks_back, one_event, one_longer}

abbrev known_of : StoreId → ℕ → History → History → ℕ → ℕ → List ℕ → Option ℕ → Known
known_of store number seen mine asked missed found made = record {
  store = store;
  number = number;
  seen = seen;
  mine = mine;
  asked = asked;
  missed = missed;
  found = found;
  made = made;
}

-- ---- what is prepared

-- a batch that is made stays made while its record is filled
pub made_filled : {A : Type 0} (edits : List Edit) (t t' : Turn A) (m : SeatState) (z y : Seated)
    (root : Root) → t'.format ≡ t.format → Made (Batch edits) t m root done t' z.me
    → StaysMade t' root t'.format z.me y.me → y ≡ with_words y.me.0.known_words z
    → Made (Batch edits) t m root done t' y.me
made_filled edits t t' m z y root same made stays is =
    let e = made_at_seat m (Batch edits) in record {
      has = subst (λ (f : Format). HasMade t' root f e y.me) same
          (stays e (subst (λ (f : Format). HasMade t' root f e z.me) (sym same) made.has));
      answer = made.answer;
      rows = made.rows;
      kept = ap (λ (q : Seated). q.me) is
          ∙ ap (λ (k : SeatState). (record k.0 { known_words = y.me.0.known_words }, k.1))
          made.kept;
    }

module _ {A : Type 0} (s z : Seated) (t : Turn A) (m1 : SeatState) (b : Begun s.me t m1)
    (number : ℕ) (mine : s.me.0.number ≡ number) (edits : List Edit) (root : Root) (t' : Turn A)
    (made : Made (Batch edits) t m1 root done t' z.me) where
  abbrev now : SeatState
  now = (record m1.0 { known_words = z.me.0.known_words }, m1.1)

  passes_kept : m1.0.passes ≡ s.me.0.passes
  passes_kept = ap (λ (v : View). v.passes) b.rest

  dealt : (0 < number) × (number ≤ m1.0.passes)
  dealt = let d = b.dealt in (omega (arith, mine, d.0), omega (arith, mine, d.1, passes_kept))

  own : events_of number m1.0.seen ≡ m1.0.mine
  own = ap (λ (n : ℕ). events_of n m1.0.seen) (sym mine) ∙ b.own
      ∙ sym (ap (λ (v : View). v.mine) b.rest)

  alone : IsOfPasses m1.0.passes m1.0.seen
  alone = subst (λ (n : ℕ). IsOfPasses n m1.0.seen) (sym passes_kept) b.alone

  same_number : m1.0.number ≡ number
  same_number = ap (λ (v : View). v.number) b.rest ∙ mine

  is_made : t'.format ≡ t.format → HasMade t' root t'.format (batch_of number edits) z.me
  is_made same = subst (λ (f : Format). HasMade t' root f (batch_of number edits) z.me) (sym same)
      (subst (λ (n : ℕ). HasMade t' root t.format (batch_of n edits) z.me) same_number made.has)

  pub prepared_is : t'.format ≡ t.format → IsFilled t' root t'.format z.me
      → IsPrepared number edits (record { turn = t'; root = root }) z.me
  prepared_is same filled = record {
    dealt = subst (λ (m : SeatState). (0 < number) × (number ≤ m.0.passes)) (sym made.kept) dealt;
    made = is_made same;
    filled = filled;
    own = subst (λ (m : SeatState). events_of number m.0.seen ≡ m.0.mine) (sym made.kept) own;
    alone = subst (λ (m : SeatState). IsOfPasses m.0.passes m.0.seen) (sym made.kept) alone;
  }

  pub prepared_keeps : KeepsPass s.me z.me
  prepared_keeps = subst (λ (m : SeatState). KeepsPass s.me m) (sym made.kept) (
    ap (λ (v : View). v.number) b.rest,
    ap (λ (v : View). v.rows) b.rest,
    passes_kept,
    ap (λ (v : View). v.format) b.rest,
    ap (λ (v : View). v.told) b.rest,
  )

  pub prepared_told : IsSameSeat s z → length m1.0.seen < last_version
      → AtSeat (Prepares edits) number s z
  prepared_told same early before =
      let change : Change = Batch edits in
      let left = room_left t m1 b.has in
      let rows_kept = ap (λ (v : View). v.rows) b.rest in
      subst (λ (x : Seated). Prepares edits (known number before s) (known number before x))
      (sym (at_seat s z now same made.kept)) record {
        looks = looks_back s m1 t b number mine before;
        dealt = dealt;
        numbered = early;
        room = subst (λ (f : Format). rows_of f (after m1.0.seen) + rows_taken f (after m1.0.seen)
            change ≤ s.me.0.rows) (format_now s.me m1 t b)
            (let taken = made.rows in omega (arith, left, taken, rows_kept));
        beside = finds_room s.me m1 t b change (let taken = made.rows in omega (arith, taken));
        asked = b.asked;
      }

-- ---- what is published, while the pass still has the turn

module _ {A : Type 0} (number : ℕ) (edits : List Edit) (p : Preparation A) (s z : Seated)
    (h : IsPrepared number edits p s.me)
    (added : Added (batch_of number edits) s.me (closed z.me)) where
  pub published_keeps : KeepsPass s.me z.me
  published_keeps = (added.free.3, added.free.4, added.free.5, added.free.6, added.free.7)

  pub published_free : IsFree number (closed z.me)
  published_free = (
    added.free.0,
    added.free.1,
    added.free.2,
    added.free.3 ∙ sym h.made.mine,
    h.dealt.0,
  )

  pub published_own : events_of number z.me.0.seen ≡ z.me.0.mine
  published_own = ap (events_of number) added.seen
      ∙ events_of-append number s.me.0.seen (batch_of number edits ∷ [])
      ∙ ap (λ (log : History). events_of number s.me.0.seen ++ log)
      (one_event number (Batch edits))
      ∙ ap (λ (log : History). log ++ batch_of number edits ∷ []) h.own ∙ sym added.mine

  pub published_at : IsSameSeat s z → (v : ℕ) → v ≡ length z.me.0.seen → (before : Option ℕ)
      → known number (Some v) z ≡ published edits (known number before s)
  published_at same v v_is before =
      let m = s.me.0 in
      let n = z.me.0 in
      ap (λ (x : StoreId). known_of x number n.seen n.mine n.asked n.missed n.found (Some v))
      (store_is s z same.0 added.free.4 added.free.5 added.free.6)
      ∙ ap (λ (x : History). known_of (store_of s) number x n.mine n.asked n.missed n.found
      (Some v))
      added.seen
      ∙ ap (λ (x : History). known_of (store_of s) number (m.seen ++ batch_of number edits ∷ []) x
      n.asked n.missed n.found (Some v)) added.mine
      ∙ ap (λ (x : ℕ). known_of (store_of s) number (m.seen ++ batch_of number edits ∷ [])
      (m.mine ++ batch_of number edits ∷ []) x n.missed n.found (Some v)) added.asked
      ∙ ap (λ (x : ℕ). known_of (store_of s) number (m.seen ++ batch_of number edits ∷ [])
      (m.mine ++ batch_of number edits ∷ []) (m.asked + 1) x n.found (Some v)) added.missed
      ∙ ap (λ (x : List ℕ). known_of (store_of s) number (m.seen ++ batch_of number edits ∷ [])
      (m.mine ++ batch_of number edits ∷ []) (m.asked + 1) m.missed x (Some v)) added.found
      ∙ ap (λ (x : ℕ). known_of (store_of s) number (m.seen ++ batch_of number edits ∷ [])
      (m.mine ++ batch_of number edits ∷ []) (m.asked + 1) m.missed m.found (Some x))
      (v_is ∙ ap (λ (log : History). length log) added.seen)

-- ---- the turn is given back

module _ (number : ℕ) (s z : Seated) (same : IsSameSeat s z) (is : z.me ≡ closed s.me) where
  -- what the pass shows stays
  pub closed_known : (made : Option ℕ) → known number made z ≡ known number made s
  closed_known made = ap (known number made) (at_seat s z (closed s.me) same is)

  pub closed_keeps : (m : SeatState) → KeepsPass m s.me → KeepsPass m z.me
  closed_keeps m keeps = subst (λ (n : SeatState). KeepsPass m n) (sym is) keeps

  pub closed_free : IsFree number (closed s.me) → IsFree number z.me
  closed_free free = subst (λ (n : SeatState). IsFree number n) (sym is) free

  pub closed_own : events_of number s.me.0.seen ≡ s.me.0.mine
      → events_of number z.me.0.seen ≡ z.me.0.mine
  closed_own own = subst (λ (n : SeatState). events_of number n.0.seen ≡ n.0.mine) (sym is) own

-- a batch that was prepared and published was written
pub prepared_wrote : (edits : List Edit) (p r : Known) → Prepares edits p r
    → Wrote (made_by p (Batch edits)) p done (published edits r)
prepared_wrote edits p r first =
    let e : Event = made_by p (Batch edits) in
    let k = first.looks in
    let event_is : made_by r (Batch edits) ≡ e = ap (λ (n : ℕ). batch_of n edits) k.same.1 in
    let seen_is : r.seen ++ made_by r (Batch edits) ∷ [] ≡ r.seen ++ e ∷ [] =
    ap (λ (d : Event). r.seen ++ d ∷ []) event_is in
    let mine_is : r.mine ++ made_by r (Batch edits) ∷ [] ≡ p.mine ++ e ∷ [] =
    ap (λ (log : History). log ++ made_by r (Batch edits) ∷ []) k.mine
    ∙ ap (λ (d : Event). p.mine ++ d ∷ []) event_is in
    record {
      log = r.seen;
      same = k.same;
      later = k.later;
      seen = seen_is;
      answer = refl;
      mine = mine_is;
      own = events_of-append r.number r.seen (made_by r (Batch edits) ∷ [])
          ∙ ap (λ (log : History). events_of r.number r.seen ++ log)
          (one_event r.number (Batch edits))
          ∙ ap (λ (log : History). log ++ made_by r (Batch edits) ∷ []) k.own;
      alone = one_longer r.store.passes r.seen (made_by r (Batch edits)) k.alone first.dealt.0
          first.dealt.1;
      numbered = first.numbered;
      room = first.room;
      beside = first.beside;
      asked = (let one = first.asked in omega (arith, one));
      missed = k.missed;
      made = refl;
    }

-- so it was at a seat
pub prepared_wrote_at : (s y z : Seated) (number v : ℕ) (edits : List Edit)
    → AtSeat (Prepares edits) number s y
    → ((before : Option ℕ) → known number (Some v) z ≡ published edits (known number before y))
    → WroteAtSeat number (Batch edits) s done v z
prepared_wrote_at s y z number v edits first last before =
    subst (λ (q : Known). Wrote (made_by (known number before s) (Batch edits))
    (known number before s) done q) (sym (last before))
    (prepared_wrote edits (known number before s) (known number before y) (first before))
