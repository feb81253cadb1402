-- Tables that are not as the rule says: for each of its parts one, in which the worked new table,
-- or a table of one pass, breaks that part.
use Rattle.mst_words.proofs.Names.{◌≡◌, ℕ, zero, suc, ◌+◌, ◌*◌, ◌%◌, ◌<◌, inl, true, Option, Some, List, [], ◌∷◌, length, set, get_or, sym, refl, ap, ◌∙◌, subst, ⊎_elim, arith, bit_at, none-some, same_Some, none, some, some-injective, some-ne-none, One, History, masks, record_word, first_record, View, Shape, SeatAt, dealer, idle, Pin, Unpin, Publish, Transfer, ComesTo, Blamed, pin_bit, Table, IsRuled}
use lib.ListN.{get_elem?}
use Rattle.mst_arena.specs.Lives as lives
use Rattle.mst_pin.specs.declared.event.Event as core
use Rattle.mst_pin.specs.declared.event.Event.TheVariants.{Write, Ask}
use Rattle.mst_pin.specs.State as pin
use Rattle.mst_words.proofs.Worked.{shape, words, begun, event}

abbrev Slot : Type 0
Slot = Option lives.State

-- the only seat is the dealer's
one : (v : View) (i : ℕ) (u : View) → SeatAt (v ∷ []) i u → v ≡ u
one v zero u e = some-injective v u e
one v (suc i) u e = absurd (some-ne-none u (sym e))

-- a table whose only seat has seen nothing has no history
nothing_seen : (s : Table) (v : View) → s.views ≡ v ∷ [] → v.seen ≡ [] → (a : IsRuled shape s)
    → a.parts.log ≡ []
nothing_seen s v is none_yet a = ⊎_elim (λ none_there. none_there)
    (λ (t : (i : ℕ) × (u : View) × SeatAt s.views i u × (u.seen ≡ a.parts.log)). sym t.3
    ∙ ap (λ (z : View). z.seen)
    (sym (one v t.0 t.1 (subst (λ (l : List View). SeatAt l t.0 t.1) is t.2))) ∙ none_yet)
    a.seen.whole

-- the words: there are none
no_words : IsRuled shape (record begun { words = [] }) → ⊥
no_words a = let w : 0 ≡ 342 = a.parts.wide in omega (arith, w)

-- the turn: it is free, and the slot is empty
no_desk : IsRuled shape (record begun { homes = none ∷ [] }) → ⊥
no_desk a = let t = a.parts.turn.free refl in
    some-ne-none t.0
    (sym (some-injective none (some t.0)
    (ap (λ (l : List (mathlib.Core.Option.Option Slot)). get_elem? l 0) t.1)))

-- the pins: the word of the current record names record 4, of records 0 to 3
no_record : IsRuled shape (record begun { words = set words 1 17179869184 }) → ⊥
no_record a = let c : 17179869184 ≡ a.parts.cur * masks + a.parts.mask = a.parts.pins.current in
    let s = a.parts.pins.small in let l = a.parts.pins.cur_in in omega (arith, c, s, l)

-- the records and rows: the current record has version 1, before any event
no_version : IsRuled shape (record begun { words = set words first_record 1 }) → ⊥
no_version a = let q = a.parts in let stood = q.rows.live q.cur (inl refl) in
    let c : 0 ≡ q.cur * masks + q.mask = q.pins.current in let cur : q.cur ≡ 0 = omega (arith, c) in
    let version : 1 ≡ length (q.place q.cur) =
    subst (λ (r : ℕ). get_or (set words first_record 1) (record_word r 0) 0 ≡ length
    (q.place q.cur)) cur stood.version in
    let none_yet : length (q.place q.cur) ≡ 0 =
    ap (λ (l : History). length l)
    (q.rows.now ∙ nothing_seen (record begun { words = set words first_record 1 })
    (dealer 4 2 One 1) refl refl a) in omega (arith, version, none_yet)

-- the world: two seats are pass 1
two_of_one : IsRuled shape
    (record begun { views = dealer 4 2 One 3 ∷ idle 4 2 One 1 0 ∷ idle 4 2 One 1 0 ∷ [] }) → ⊥
two_of_one a = let same : 1 ≡ 2 = a.parts.world.apart 1 2 (idle 4 2 One 1 0) (idle 4 2 One 1 0) refl
    refl (omega arith) refl in omega (arith, same)

-- the world: a seat has seen an event of a pass that was not dealt
no_pass : IsRuled shape
    (record begun { views = record (dealer 4 2 One 1) { seen = event ∷ [] } ∷ [] }) → ⊥
no_pass a = let q = a.parts in let v : View = record (dealer 4 2 One 1) { seen = event ∷ [] } in
    let next : 1 ≡ q.next = ((q.world.placed 0 v refl).deals (omega arith)).0 in
    let b = (q.world.fits 0 v refl).seen in let long : 0 < length q.log =
    subst (λ (l : History). 0 < length l) (sym b.1) (omega arith) in
    let e = q.world.named 0 event long in let pos = e.0 in let below =
    e.1 in omega (arith, next, pos, below)

-- the pins of passes: the bit of pass 1 is set at record 0, and no seat pins it
no_pin : IsRuled shape (record begun { words = set words 2 1 }) → ⊥
no_pin a = let q = a.parts in
    let c : 0 ≡ q.cur * masks + q.mask = q.pins.current in let cur : q.cur ≡ 0 = omega (arith, c) in
    let mask : q.mask ≡ 0 = omega (arith, c) in
    let beside : q.beside 0 ≡ 0 = ap q.beside (sym cur) ∙ q.pins.beside_cur ∙ mask in
    let bit : pin_bit q.beside (set words 2 1) 0 0 ≡ 1 =
    ap (λ (z : ℕ). (bit_at z 0 + bit_at 1 0) % 2) beside in
    let t = q.clear.seat_of 0 0 (omega arith) bit in let number : 0 ≡ 1 =
    ap (λ (z : View). z.number) (one (dealer 4 2 One 1) t.0 t.1 t.2) ∙ t.3 in
    omega (arith, number)

-- the core of pins never comes to a state in which the transfer of the current record waits
never_due : (n : ℕ) (moves : List core.Event) (s : pin.State) → ComesTo n moves s
    → s.due ≡ Some s.current → ⊥
never_due n [] s is due = none-some s.current (sym (ap (λ (t : pin.State). t.due) is) ∙ due)
never_due n (Pin p ∷ es) s (before, comes, move, took, is) due =
    never_due n es before comes
    (sym (ap (λ (t : pin.State). t.due) is) ∙ due ∙ ap (λ (t : pin.State). Some t.current) is)
never_due n (Unpin p ∷ es) s (before, comes, move, took, is) due =
    never_due n es before comes
    (sym (ap (λ (t : pin.State). t.due) is) ∙ due ∙ ap (λ (t : pin.State). Some t.current) is)
never_due n (Write x ∷ es) s (before, comes, move, took, is) due = absurd move
never_due n (Publish r rows ∷ es) s (before, comes, move, took, is) due =
    took.2
    (sym (same_Some before.current r
    (sym (ap (λ (t : pin.State). t.due) is) ∙ due ∙ ap (λ (t : pin.State). Some t.current) is)))
never_due n (Transfer ∷ es) s (before, comes, move, took, is) due =
    none-some s.current (sym (ap (λ (t : pin.State). t.due) is) ∙ due)
never_due n (Ask r ∷ es) s (before, comes, move, took, is) due = absurd move

-- the path of the core: the holder of the turn waits with the transfer of record 0, which is
-- current
abbrev owing : View
owing = record (idle 4 2 One 1 0) { turn = true; due = Some 0 }

no_publication : (s : Table) → s.views ≡ dealer 4 2 One 2 ∷ owing ∷ [] → get_or s.words 1 0 ≡ 0
    → IsRuled shape s → ⊥
no_publication s is word a = let q = a.parts in let cur : q.cur ≡ 0 =
    (let c = q.pins.current in omega (arith, c, word)) in
    let due : Some 0 ≡ q.due =
    (q.pins.holder 1 owing (subst (λ (l : List View). SeatAt l 1 owing) (sym is) refl)
    refl).due_is in
    never_due 2 q.path.moves q.path.is.state q.path.is.comes
    (q.path.is.due_is ∙ sym due ∙ ap Some (sym cur ∙ sym q.path.is.cur_is))

-- ---- a store of one pass, which has the turn

abbrev alone : Shape
alone = record { rows = 4; passes = 1; format = One }

-- the counts: it found a record pinned, and there is no other pass
abbrev blocked : View
blocked = record (idle 4 1 One 1 0) { turn = true; blocked = 0 ∷ [] }

nobody : (cur : ℕ) (vs : List View) (by : List ℕ) → Blamed 1 1 cur vs by (0 ∷ []) → ⊥
nobody cur vs [] b = b
nobody cur vs (p ∷ ps) b = let pos = b.0 in let small = b.1 in let other =
    b.2 in other (omega (arith, pos, small))

no_other : (s : Table) → s.views ≡ dealer 4 1 One 2 ∷ blocked ∷ [] → IsRuled alone s → ⊥
no_other s is a = let b =
    a.parts.counts.blamed 1 blocked (subst (λ (l : List View). SeatAt l 1 blocked) (sym is) refl)
    refl in nobody a.parts.cur s.views b.0 b.1

-- what it noted: another word than that of the current record
abbrev noting : View
noting = record (idle 4 1 One 1 0) { turn = true; noted = Some 7 }

no_word : (s : Table) → s.views ≡ dealer 4 1 One 2 ∷ noting ∷ [] → get_or s.words 1 0 ≡ 0
    → IsRuled alone s → ⊥
no_word s is word a = let w : 7 ≡ get_or s.words 1 0 =
    a.parts.still.noted 1 noting (subst (λ (l : List View). SeatAt l 1 noting) (sym is) refl) refl
    refl 7 refl in omega (arith, w, word)
