-- Each step carries the path of the core of pins on, by the events that it adds.
use Rattle.mst_words.proofs.Names.{◌≡◌, ◌⊎◌, ℕ, ◌+◌, ◌-◌, ◌*◌, ◌^◌, ◌<◌, ◌≤◌, ◌≢◌, true, Bool, cond, ne_eqb, Option, Some, None, List, [], ◌∷◌, ◌++◌, length, set, get_or, sym, refl, ap, ◌∙◌, subst, ⊎_elim, arith, lit<, bit_xor, get_or-set_same, dite, ℕ_discrete, Me, set_here, set_else, set_again, at_longer, Pin, Unpin, Publish, Transfer, In, masks, first_record, record_word, record_words, row_word, row_words, View, Shape, DeskState, SeatAt, having_dealt, newcomer, IsBlank, note_of, having_heard, IsPathOf, IsFree, IsWritable, stored, Deed, told_by, trying, giving, pinning, unpinning, forgetting, reading, writing, transferring, asking, noting, asking_current, seeing_all, seeing_told, glancing, Table, IsRuled, Makes, Adds, Hears, IsReachedBy, moves_of, Does, MakesCurrent, ChangesSeats, xor_low, xor_small}
use lib.Seq.{set-get_or}
use Rattle.mst_pin.specs.declared.event.Event as core
use Rattle.mst_arena.specs.Lives as lives
use Rattle.mst_words.specs.Deeds.{Told}
use Rattle.mst_words.proofs.Places.{place_above}
use Rattle.mst_words.proofs.Seats.{each_seat, same_view}
use Rattle.mst_words.proofs.Worlds.{within}
use Rattle.mst_words.proofs.Steps.{stays}
use Rattle.mst_words.proofs.Framed.{stored_framed}
use Rattle.mst_words.proofs.Seated.{path_more}
use Rattle.mst_words.proofs.PinSteps.{apart_from, dealt}
use Rattle.mst_words.proofs.Opens.{unseated}
use Rattle.mst_words.proofs.Paths.{path_same, path_pin, path_unpin, path_publish, path_transfer, no_pin}

-- what a pass has and what it holds
abbrev Mine : Type 0
Mine = Me (Option lives.State) View

-- ---- the current record and the transfer that waits, by the words and the views

halves : (c d m n : ℕ) → m < masks → n < masks → c * masks + m ≡ d * masks + n → c ≡ d
halves c d m n l k e = omega (arith, l, k, e)

-- the word of the current record names it
pub current_by : (z : Shape) (t : Table) (b : IsRuled z t) (c mask : ℕ) → mask < masks
    → get_or t.words 1 0 ≡ c * masks + mask → b.parts.cur ≡ c
current_by z t b c mask small word = halves b.parts.cur c b.parts.mask mask b.parts.pins.small small
    (sym b.parts.pins.current ∙ word)

current_stays : (z : Shape) (s t : Table) (a : IsRuled z s) (b : IsRuled z t) → get_or t.words 1 0
    ≡ get_or s.words 1 0 → b.parts.cur ≡ a.parts.cur
current_stays z s t a b word = current_by z t b a.parts.cur a.parts.mask a.parts.pins.small
    (word ∙ a.parts.pins.current)

-- while the turn is free no transfer waits, otherwise the one of which its holder knows
pub due_free : (z : Shape) (t : Table) (b : IsRuled z t) → get_or t.words 0 0 ≡ 0
    → b.parts.due ≡ None
due_free z t b free = (b.parts.turn.free free).3

pub due_held : (z : Shape) (t : Table) (b : IsRuled z t) (i : ℕ) (v : View) → SeatAt t.views i v
    → v.turn ≡ true → b.parts.due ≡ v.due
due_held z t b i v at on = sym (b.parts.pins.holder i v at on).due_is

-- who has the turn here has it there, and knows of the same transfer
abbrev HasHolder : List View → List View → Type 0
HasHolder vs us = (i : ℕ) (u : View) → SeatAt vs i u → u.turn ≡ true → (j : ℕ) × (x : View)
    × SeatAt us j x × (x.turn ≡ true) × (x.due ≡ u.due)

holder_set : (vs : List View) (id : ℕ) (v w : View) → SeatAt vs id v → w.turn ≡ v.turn
    → w.due ≡ v.due → HasHolder vs (set vs id w)
holder_set vs id v w at turn is_due i u e on = dite (ℕ_discrete i id)
    (λ is. let same : u ≡ v = same_view vs id u v (subst (λ (z : ℕ). SeatAt vs z u) is e) at in (
      id,
      w,
      set_here vs id w (within vs id v at),
      turn ∙ ap (λ (z : View). z.turn) (sym same)
          ∙ on,
      is_due ∙ ap (λ (z : View). z.due) (sym same),
    ))
    (λ not. (i, u, set_else vs id i w not ∙ e, on, refl))

holder_more : (vs us : List View) (n : View) → HasHolder vs us → HasHolder vs (us ++ n ∷ [])
holder_more vs us n h i u e on = let t =
    h i u e on in (t.0, t.1, at_longer us (n ∷ []) t.0 t.1 t.2, t.3, t.4)

due_stays : (z : Shape) (s t : Table) (a : IsRuled z s) (b : IsRuled z t) (us : List View)
    → get_or t.words 0 0 ≡ get_or s.words 0 0 → t.views ≡ us → HasHolder s.views us
    → b.parts.due ≡ a.parts.due
due_stays z s t a b us word views holder = dite (ℕ_discrete (get_or s.words 0 0) 0)
    (λ is. due_free z t b (word ∙ is) ∙ sym (due_free z s a is))
    (λ not. let k = (a.parts.turn.taken (omega (arith, not))).1 in let h = holder k.0 k.1 k.2 k.3 in
    due_held z t b h.0 h.1 (subst (λ (l : List View). SeatAt l h.0 h.1) (sym views) h.2) h.3 ∙ h.4
    ∙ sym (due_held z s a k.0 k.1 k.2 k.3))

-- a path to what the table has is one to the table
pub arrives : (z : Shape) (t : Table) (b : IsRuled z t) (moves : List core.Event) (cur : ℕ)
    (due : Option ℕ) (vs : List View) → IsPathOf moves z.passes cur due vs → b.parts.cur ≡ cur
    → b.parts.due ≡ due → t.views ≡ vs → IsReachedBy z moves t b
arrives z t b moves cur due vs q c d views =
    subst (λ (x : ℕ × Option ℕ × List View). IsPathOf moves z.passes x.0 x.1 x.2)
    (λ i. (sym c i, sym d i, sym views i)) q

-- ---- a deed

-- the pin, the turn and the transfer that the view knows are as before
record IsStill (v w : View) : Type 0 where
  number : w.number ≡ v.number
  pin : w.pin ≡ v.pin
  turn : w.turn ≡ v.turn
  due : w.due ≡ v.due

still : (m m' n : Mine) → m' ≡ n → n.0.number ≡ m.0.number → n.0.pin ≡ m.0.pin → n.0.turn ≡ m.0.turn
    → n.0.due ≡ m.0.due → IsStill m.0 m'.0
still m m' n is number pin turn is_due = record {
  number = ap (λ (x : Mine). x.0.number) is ∙ number;
  pin = ap (λ (x : Mine). x.0.pin) is ∙ pin;
  turn = ap (λ (x : Mine). x.0.turn) is ∙ turn;
  due = ap (λ (x : Mine). x.0.due) is ∙ is_due;
}

-- the word of the step, and each other word
word_there : (s t : Table) (i n j : ℕ) → t.words ≡ set s.words i n → i ≡ j → j < length s.words
    → get_or t.words j 0 ≡ n
word_there s t i n j words is inside =
    ap (λ (l : List ℕ). get_or l j 0) (words ∙ ap (λ (k : ℕ). set s.words k n) is)
    ∙ get_or-set_same s.words j n 0 inside

word_else : (s t : Table) (i n j : ℕ) → t.words ≡ set s.words i n → j ≢ i → get_or t.words j 0
    ≡ get_or s.words j 0
word_else s t i n j words other = ap (λ (l : List ℕ). get_or l j 0) words ∙ stays s.words i n j
    other

-- a writable word is none of the turn, the current record and the words DONE
above : (z : Shape) (v : View) (i : ℕ) → IsWritable (stored v.format) v i → first_record ≤ i
above z v i can =
    ⊎_elim (λ (t : (x k : ℕ) × IsBlank (stored v.format) v x × (k < row_words)
    × (i ≡ row_word v.rows x k)). let e = t.4 in let a = place_above v.rows t.0 t.1 in
    omega (arith, e, a))
    (λ (t : (r k : ℕ) × In r v.drained × (k < record_words) × (i ≡ record_word r k)). let e =
    t.4 in omega (arith, e)) can

module _ (z : Shape) (s t : Table) (a : IsRuled z s) (b : IsRuled z t) (moves : List core.Event)
  where
    room : (j : ℕ) → j < first_record → j < length s.words
    room j l = let w = a.parts.wide in omega (arith, w, l)

    -- no pin changes
    quiet : (id : ℕ) (v w : View) → SeatAt s.views id v → t.views ≡ set s.views id w
        → w.number ≡ v.number → w.pin ≡ v.pin → b.parts.cur ≡ a.parts.cur
        → b.parts.due ≡ a.parts.due
        → IsReachedBy z moves s a → IsReachedBy z moves t b
    quiet id v w at views number pin cur is_due q = arrives z t b moves a.parts.cur a.parts.due
        (set s.views id w)
        (path_same z.passes a.parts.cur a.parts.due s.views id v w moves q at number pin) cur is_due
        views

    -- nor the turn, the current record or the transfer
    calm : (id : ℕ) (v w : View) → SeatAt s.views id v → t.views ≡ set s.views id w → IsStill v w
        → get_or t.words 0 0 ≡ get_or s.words 0 0 → get_or t.words 1 0 ≡ get_or s.words 1 0
        → IsReachedBy z moves s a → IsReachedBy z moves t b
    calm id v w at views h turn current q =
        quiet id v w at views h.number h.pin (current_stays z s t a b current)
        (due_stays z s t a b (set s.views id w) turn views
        (holder_set s.views id v w at h.turn h.due)) q

    -- a word is loaded
    loads : (told : Told) (m : Makes told s t) → t.words ≡ set s.words m.step.word m.found
        → m.found ≡ get_or s.words m.step.word 0 → IsStill m.before.0 m.after.0
        → IsReachedBy z moves s a → IsReachedBy z moves t b
    loads told m words finds h q = let kept : t.words ≡ s.words =
        words ∙ ap (set s.words m.step.word) finds ∙ set-get_or s.words m.step.word 0 in
        calm m.id m.before.0 m.after.0 m.at m.views h (ap (λ (l : List ℕ). get_or l 0 0) kept)
        (ap (λ (l : List ℕ). get_or l 1 0) kept) q

    -- the seat has its new view
    there : (told : Told) (m : Makes told s t) → SeatAt t.views m.id m.after.0
    there told m = subst (λ (l : List View). SeatAt l m.id m.after.0) (sym m.views)
        (set_here s.views m.id m.after.0 (within s.views m.id m.before.0 m.at))

    tries : Does trying s t → IsReachedBy z moves s a → IsReachedBy z moves t b
    tries d q = let m = d.makes in let i = m.tells.0 in let current =
        word_else s t m.step.word _ 1 d.words (λ f. omega (arith, f, i)) in
        let before : get_or s.words 0 0 ≡ m.found = ap (λ (k : ℕ). get_or s.words k 0) (sym i)
        ∙ sym d.finds in dite (ℕ_discrete m.found 0)
        (λ hit. let is = (m.tells.1 hit).is in quiet m.id m.before.0 m.after.0 m.at m.views
        (ap (λ (x : Mine). x.0.number) is) (ap (λ (x : Mine). x.0.pin) is)
        (current_stays z s t a b current)
        (due_held z t b m.id m.after.0 (there (told_by trying) m) (ap (λ (x : Mine). x.0.turn) is)
        ∙ ap (λ (x : Mine). x.0.due) is ∙ sym (due_free z s a (before ∙ hit))) q)
        (λ miss. calm m.id m.before.0 m.after.0 m.at m.views
        (still m.before m.after _ (m.tells.2 miss).is refl refl refl refl)
        (word_there s t m.step.word _ 0 d.words i (room 0 (omega arith))
        ∙ ap (λ (x : Bool). cond x m.before.0.number m.found) (ne_eqb m.found 0 miss)
        ∙ sym before) current q)

    gives : Does giving s t → IsReachedBy z moves s a → IsReachedBy z moves t b
    gives d q = let m = d.makes in let i = m.tells.0 in let is = m.tells.1 in let giving =
        d.may.1.2 in
        quiet m.id m.before.0 m.after.0 m.at m.views (ap (λ (x : Mine). x.0.number) is)
        (ap (λ (x : Mine). x.0.pin) is)
        (current_stays z s t a b
        (word_else s t m.step.word _ 1 d.words (λ f. omega (arith, f, i))))
        (due_free z t b (word_there s t m.step.word _ 0 d.words i (room 0 (omega arith)))
        ∙ sym (due_held z s a m.id m.before.0 m.at giving.on ∙ giving.settled)) q

    writes : Does writing s t → IsReachedBy z moves s a → IsReachedBy z moves t b
    writes d q = let m = d.makes in let high = above z m.before.0 m.step.word d.may.1 in
        calm m.id m.before.0 m.after.0 m.at m.views
        (still m.before m.after _ m.tells refl refl refl refl)
        (word_else s t m.step.word _ 0 d.words (λ f. omega (arith, f, high)))
        (word_else s t m.step.word _ 1 d.words (λ f. omega (arith, f, high))) q

    pins : (d : Does pinning s t) → IsReachedBy z moves s a
        → IsReachedBy z (Pin d.makes.before.0.number ∷ moves) t b
    pins d q = let m = d.makes in let v : View = m.before.0 in let w : View = m.after.0 in let i =
        m.tells.0 in let p = m.tells.1 in let free : IsFree v.number m.before = d.may.1 in let pos =
        free.4 in
        let before : get_or s.words 1 0 ≡ m.found = ap (λ (k : ℕ). get_or s.words k 0) (sym i)
        ∙ sym d.finds in
        let cur : a.parts.cur ≡ p.cur = current_by z s a p.cur p.mask p.small (before ∙ p.found_is)
        in
        let number : w.number ≡ v.number = ap (λ (x : Mine). x.0.number) p.is in
        let small : v.number - 1 < 32 =
        (let l = (a.parts.pins.seats m.id v m.at).small in omega (arith, l, pos)) in
        let word = word_there s t m.step.word _ 1 d.words i (room 1 (omega arith))
        ∙ ap (λ (n : ℕ). bit_xor n (2 ^ (v.number - 1))) (sym before ∙ a.parts.pins.current)
        ∙ xor_low a.parts.cur a.parts.mask (v.number - 1) a.parts.pins.small small in
        arrives z t b (Pin v.number ∷ moves) a.parts.cur a.parts.due (set s.views m.id w)
        (path_pin z.passes a.parts.cur a.parts.due s.views m.id v w moves q m.at number free.2
        (ap (λ (x : Mine). x.0.pin) p.is ∙ ap (λ (n : ℕ). Some n) (sym cur))
        (apart_from (stored z.format) (stored_framed z.format) z.rows z.passes s a.parts m.id v m.at
        pos) pos (dealt (stored z.format) (stored_framed z.format) z.rows z.passes s a.parts m.id
        v m.at))
        (current_by z t b a.parts.cur (bit_xor a.parts.mask (2 ^ (v.number - 1)))
        (xor_small a.parts.mask (v.number - 1) a.parts.pins.small small) word)
        (due_stays z s t a b (set s.views m.id w)
        (word_else s t m.step.word _ 0 d.words (λ f. omega (arith, f, i))) m.views
        (holder_set s.views m.id v w m.at (ap (λ (x : Mine). x.0.turn) p.is)
        (ap (λ (x : Mine). x.0.due) p.is))) m.views

    -- of the record r
    ends : (told : Told) (m : Makes told s t) (r n : ℕ) → m.before.0.pin ≡ Some r → m.step.word ≡ r
        + 2 → t.words ≡ set s.words m.step.word n → m.after.0.number ≡ m.before.0.number
        → m.after.0.pin ≡ None → m.after.0.turn ≡ m.before.0.turn → m.after.0.due ≡ m.before.0.due
        → IsReachedBy z moves s a → IsReachedBy z (Unpin m.before.0.number ∷ moves) t b
    ends told m r n pinned i words number free turn is_due q = let v : View =
        m.before.0 in let w : View = m.after.0 in let pos =
        ((a.parts.pins.seats m.id v m.at).pinned r pinned).0 in
        arrives z t b (Unpin v.number ∷ moves) a.parts.cur a.parts.due (set s.views m.id w)
        (path_unpin z.passes a.parts.cur a.parts.due s.views m.id v w moves q m.at r number pinned
        free (apart_from (stored z.format) (stored_framed z.format) z.rows z.passes s a.parts m.id
        v m.at pos) pos)
        (current_stays z s t a b (word_else s t m.step.word n 1 words (λ f. omega (arith, f, i))))
        (due_stays z s t a b (set s.views m.id w)
        (word_else s t m.step.word n 0 words (λ f. omega (arith, f, i))) m.views
        (holder_set s.views m.id v w m.at turn is_due)) m.views

    transfers : Does transferring s t → IsReachedBy z moves s a → IsReachedBy z (Transfer ∷ moves) t
        b
    transfers d q = let m = d.makes in let v : View = m.before.0 in let w : View =
        m.after.0 in let r = m.tells.0.0 in let i = m.tells.0.2 in let is = m.tells.1 in
        arrives z t b (Transfer ∷ moves) a.parts.cur None (set s.views m.id w)
        (path_transfer z.passes a.parts.cur a.parts.due s.views m.id v w moves q m.at r
        (ap (λ (x : Mine). x.0.number) is) (ap (λ (x : Mine). x.0.pin) is)
        (due_held z s a m.id v m.at d.may.1 ∙ m.tells.0.1))
        (current_stays z s t a b (word_else s t m.step.word _ 1 d.words (λ f. omega (arith, f, i))))
        (due_held z t b m.id w (there (told_by transferring) m)
        (ap (λ (x : Mine). x.0.turn) is ∙ d.may.1) ∙ ap (λ (x : Mine). x.0.due) is) m.views

    pub publication : (into : ℕ) → MakesCurrent into s t → IsReachedBy z moves s a
        → IsReachedBy z (Publish into 0 ∷ moves) t b
    publication into p q = let m = p.publishes.made in let v : View = m.before.0 in let w : View =
        m.after.0 in let on = p.publishes.on in let is = m.tells.1.is in
        let sum : into * masks ≡ into * masks + 0 = omega arith in let known =
        a.parts.pins.holder m.id v m.at on in let mine = known.drained into p.drained in
        let cur_now : a.parts.cur ≡ v.desk.current = sym a.parts.rows.desk_at
        ∙ ap (λ (x : DeskState). x.current) (sym (a.parts.turn.holder m.id v m.at on).3) in
        arrives z t b (Publish into 0 ∷ moves) into (Some a.parts.cur) (set s.views m.id w)
        (path_publish z.passes a.parts.cur a.parts.due s.views m.id v w moves q m.at into
        (ap (λ (x : Mine). x.0.number) is) (ap (λ (x : Mine). x.0.pin) is)
        (sym known.due_is ∙ p.settled) mine.0 mine.1 mine.3)
        (current_by z t b into 0 (lit< tt)
        (word_there s t 1 (into * masks) 1 p.words refl (room 1 (omega arith)) ∙ sum))
        (due_held z t b m.id w
        (subst (λ (l : List View). SeatAt l m.id w) (sym m.views)
        (set_here s.views m.id w (within s.views m.id v m.at)))
        (ap (λ (x : Mine). x.0.turn) is ∙ on) ∙ ap (λ (x : Mine). x.0.due) is
        ∙ ap (λ (n : ℕ). Some n) (sym cur_now)) m.views

    -- ---- the seats

    -- a seat is added, which is no pass or the next one
    comes : (id : ℕ) (v w n : View) → SeatAt s.views id v → t.views ≡ set s.views id w ++ n ∷ []
        → t.words ≡ s.words → IsStill v w → n.pin ≡ None
        → (0 < n.number → (i : ℕ) (u : View) → SeatAt s.views i u → u.number ≡ n.number → ⊥)
        → IsReachedBy z moves s a → IsReachedBy z moves t b
    comes id v w n at views words h free new q = let us : List View = set s.views id w in
        let moved =
        path_same z.passes a.parts.cur a.parts.due s.views id v w moves q at h.number h.pin in
        arrives z t b moves a.parts.cur a.parts.due (us ++ n ∷ [])
        (path_more z.passes a.parts.cur a.parts.due us n moves moved
        (λ pos. no_pin z.passes a.parts.cur a.parts.due us moves moved n.number
        (each_seat (λ i u. u.number ≡ n.number → ⊥) s.views id w
        (λ e. new pos id v at (sym h.number ∙ e)) (λ i u _ e. new pos i u e)) ∙ sym free))
        (current_stays z s t a b (ap (λ (l : List ℕ). get_or l 1 0) words))
        (due_stays z s t a b (us ++ n ∷ []) (ap (λ (l : List ℕ). get_or l 0 0) words) views
        (holder_more s.views us n (holder_set s.views id v w at h.turn h.due))) views

    pub seats_change : ChangesSeats s t → IsReachedBy z moves s a → IsReachedBy z moves t b
    seats_change c q = ⊎_elim
        (λ (d : Adds having_dealt newcomer s t). comes d.id d.view (having_dealt d.view)
        (newcomer d.view) d.at d.views c.words
        (record { number = refl; pin = refl; turn = refl; due = refl }) refl
        (λ pos. unseated (stored z.format) (stored_framed z.format) z.rows z.passes s a.parts d.id
        d.view d.at pos) q)
        (λ (n : Adds (λ v. v) note_of s t ⊎ Hears s t). ⊎_elim
        (λ (d : Adds (λ v. v) note_of s t). comes d.id d.view d.view (note_of d.view) d.at d.views
        c.words (record { number = refl; pin = refl; turn = refl; due = refl }) refl
        (λ pos. absurd (omega (arith, pos))) q)
        (λ (h : Hears s t). calm h.id h.view (having_heard h.view h.note) h.at
        (h.views ∙ set_again (set s.views h.id (having_heard h.view h.note)) h.other h.note
        h.note_at)
        (record { number = refl; pin = refl; turn = refl; due = refl })
        (ap (λ (l : List ℕ). get_or l 0 0) c.words) (ap (λ (l : List ℕ). get_or l 1 0) c.words) q)
        n) c.seats

    -- ---- each deed

    pub goes_on : (deed : Deed) (d : Does deed s t) → IsReachedBy z moves s a
        → IsReachedBy z (moves_of deed d.makes.before.0 ++ moves) t b
    goes_on trying d q = tries d q
    goes_on giving d q = gives d q
    goes_on pinning d q = pins d q
    goes_on unpinning d q = let m = d.makes in let is =
        m.tells.1 in ends (told_by unpinning) m m.tells.0.0 _ m.tells.0.1 m.tells.0.2 d.words
        (ap (λ (x : Mine). x.0.number) is) (ap (λ (x : Mine). x.0.pin) is)
        (ap (λ (x : Mine). x.0.turn) is) (ap (λ (x : Mine). x.0.due) is) q
    goes_on forgetting d q = let m = d.makes in let is =
        m.tells.1 in ends (told_by forgetting) m m.tells.0.0 _ m.tells.0.1 m.tells.0.2 d.words
        (ap (λ (x : Mine). x.0.number) is) (ap (λ (x : Mine). x.0.pin) is)
        (ap (λ (x : Mine). x.0.turn) is) (ap (λ (x : Mine). x.0.due) is) q
    goes_on reading d q = let m = d.makes in loads (told_by reading) m d.words d.finds
        (still m.before m.after _ m.tells.1 refl refl refl refl) q
    goes_on writing d q = writes d q
    goes_on transferring d q = transfers d q
    goes_on asking d q = let m = d.makes in loads (told_by asking) m d.words d.finds
        (dite (ℕ_discrete m.found 0)
        (λ hit. still m.before m.after _ (m.tells.2 hit) refl refl refl refl)
        (λ miss. still m.before m.after _ (m.tells.3 miss).is refl refl refl refl)) q
    goes_on noting d q = let m = d.makes in loads (told_by noting) m d.words d.finds
        (still m.before m.after _ m.tells.1.is refl refl refl refl) q
    goes_on asking_current d q = let m = d.makes in loads (told_by asking_current) m d.words d.finds
        (still m.before m.after _ m.tells.1.is refl refl refl refl) q
    goes_on seeing_all d q = let m = d.makes in loads (told_by seeing_all) m d.words d.finds
        (still m.before m.after _ m.tells.1.is refl refl refl refl) q
    goes_on seeing_told d q = let m = d.makes in loads (told_by seeing_told) m d.words d.finds
        (still m.before m.after _ m.tells.1.is refl refl refl refl) q
    goes_on glancing d q = let m = d.makes in loads (told_by glancing) m d.words d.finds
        (still m.before m.after _ m.tells.1 refl refl refl refl) q
