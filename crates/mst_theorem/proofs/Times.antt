-- The history only grows from step to step, and a pin and a write find the whole of it.
use Rattle.mst_theorem.proofs.Names.{◌≡◌, ◌⊎◌, ℕ, ◌+◌, true, List, [], ◌∷◌, length, get_or, inl, inr, refl, sym, ap, ◌∙◌, subst, ⊎_elim, arith, Option, Some, Me, set_here, Event, History, IsPrefix, IsPrefix-itself, IsPrefix-chain, IsPrefix-length, View, Shape, SeatAt, Deed, pinning, trying, Table, IsRuled, IsPublication, moves_of, Does, MakesCurrent, ChangesSeats, GoesBy, within, publication_grows, other_keeps, GoesOn}
use Rattle.std.proofs.Common.{◌*◌}
use Rattle.std.proofs.lemmas.List.{get_or-set_other}
use Rattle.mst_pin.specs.declared.event.Event as core
use Rattle.mst_pin.specs.declared.event.Event.TheVariants.{Publish}
use Rattle.mst_pin.specs.WordParts.{masks}
use Rattle.mst_arena.specs.Lives as lives
use Rattle.mst_words.specs.Layout.{record_word}
use Rattle.mst_words.specs.Records.{field}
use Rattle.mst_words.specs.Laws.{HaveSeen}
use Rattle.mst_words.proofs.Ruling.{one_history}
use Rattle.mst_words.proofs.Moves.{current_by}

abbrev pub Mine : Type 0
Mine = Me (Option lives.State) View

-- the history of a table is one, whichever proof that it is ruled names it
pub same_log : (z : Shape) (s t : Table) (a : IsRuled z s) (b : IsRuled z t) → t ≡ s
    → b.parts.log ≡ a.parts.log
same_log z s t a b is = one_history z.rows z.passes z.format a.parts.next b.parts.next a.parts.log
    b.parts.log s.views t.views a.parts.world b.parts.world a.seen.whole b.seen.whole forth back
  where
    forth : HaveSeen s t
    forth i v e = (i, v, subst (λ (x : Table). SeatAt x.views i v) (sym is) e, refl)

    back : HaveSeen t s
    back i v e = (i, v, subst (λ (x : Table). SeatAt x.views i v) is e, refl)

same_later : (g h : History) → h ≡ g → IsPrefix g h
same_later g h is = subst (λ (l : History). IsPrefix g l) (sym is) (IsPrefix-itself g)

-- one step
step_later : (z : Shape) (s t : Table) (a : IsRuled z s) (b : IsRuled z t)
    (added : List core.Event) → GoesBy added s t → IsPrefix a.parts.log b.parts.log
step_later z s t a b added goes = ⊎_elim
    (λ (d : (deed : Deed) × (d : Does deed s t) × (added ≡ moves_of deed d.makes.before.0)).
    same_later a.parts.log b.parts.log (other_keeps z s t a b (inl (d.0, d.1.makes))))
    (λ (o : ((into : ℕ) × MakesCurrent into s t × (added ≡ Publish into 0 ∷ []))
    ⊎ (ChangesSeats s t × (added ≡ []))). ⊎_elim
    (λ (p : (into : ℕ) × MakesCurrent into s t × (added ≡ Publish into 0 ∷ [])).
    (p.1.event ∷ [], publication_grows z s t a b p.1.event p.1.publishes))
    (λ (c : ChangesSeats s t × (added ≡ [])).
    same_later a.parts.log b.parts.log (other_keeps z s t a b (inr c.0.seats))) o) goes

pub log_later : (z : Shape) (s t : Table) (a : IsRuled z s) (b : IsRuled z t) (steps : List Table)
    → GoesOn z s steps t → IsPrefix a.parts.log b.parts.log
log_later z s t a b [] on = same_later a.parts.log b.parts.log (same_log z s t a b on)
log_later z s t a b (u ∷ us) (added, goes, c, rest) =
    IsPrefix-chain a.parts.log c.parts.log b.parts.log (step_later z s u a c added goes)
    (log_later z u t c b us rest)

-- a pin finds the whole history: as many events as the record says that is current
pub pin_whole : (z : Shape) (s t : Table) (a : IsRuled z s) (b : IsRuled z t)
    (d : Does pinning s t) → d.makes.after.0.pinned_history ≡ a.parts.log
pin_whole z s t a b d = sym (IsPrefix-length v.pinned_history a.parts.log begins long)
  where
    v : View
    v = d.makes.after.0

    id : ℕ
    id = d.makes.id

    at : SeatAt t.views id v
    at = subst (λ (l : List View). SeatAt l id v) (sym d.makes.views)
        (set_here s.views id v (within s.views id d.makes.before.0 d.makes.at))

    cur : ℕ
    cur = d.makes.tells.1.cur

    pin_is : v.pin ≡ Some cur
    pin_is = ap (λ (x : Mine). x.0.pin) d.makes.tells.1.is

    begins : IsPrefix v.pinned_history a.parts.log
    begins = subst (λ (l : History). IsPrefix v.pinned_history l)
        (other_keeps z s t a b (inl (pinning, d.makes)))
        ((b.parts.world.fits id v at).pinned cur pin_is).0

    here : d.makes.step.word ≡ 1
    here = d.makes.tells.0

    found : get_or s.words 1 0 ≡ cur * masks + d.makes.tells.1.mask
    found = ap (λ (k : ℕ). get_or s.words k 0) (sym here) ∙ sym d.finds ∙ d.makes.tells.1.found_is

    same : a.parts.cur ≡ cur
    same = current_by z s a cur d.makes.tells.1.mask d.makes.tells.1.small found

    -- the record says how many events it stands for, before the pin and after it
    before : field s.words cur 0 ≡ length a.parts.log
    before = ap (λ (r : ℕ). field s.words r 0) (sym same)
        ∙ (a.parts.rows.live a.parts.cur (inl refl)).version ∙ ap length a.parts.rows.now

    kept : field t.words cur 0 ≡ field s.words cur 0
    kept = ap (λ (l : List ℕ). field l cur 0) d.words
        ∙ get_or-set_other s.words d.makes.step.word (record_word cur 0) _ 0
        (λ f. omega (arith, f, here))

    read : field t.words cur 0 ≡ length v.pinned_history
    read = (b.parts.rows.reads id v at cur pin_is).fields 0 (omega arith)
        ∙ ap (λ (x : Mine). field x.0.known_words cur 0) d.makes.tells.1.is
        ∙ d.makes.tells.1.version
        ∙ sym (ap (λ (x : Mine). length x.0.pinned_history) d.makes.tells.1.is)

    long : length a.parts.log ≡ length v.pinned_history
    long = sym before ∙ sym kept ∙ read

-- who has the turn has seen the whole history
pub write_whole : (z : Shape) (s t : Table) (a : IsRuled z s) (b : IsRuled z t) (e : Event)
    (p : IsPublication e s t) → p.made.before.0.seen ≡ a.parts.log
write_whole z s t a b e p = (a.parts.turn.holder p.made.id p.made.before.0 p.made.at p.on).2

-- and so has who takes it
pub turn_whole : (z : Shape) (s t : Table) (a : IsRuled z s) (b : IsRuled z t) (d : Does trying s t)
    → d.makes.after.0.turn ≡ true → d.makes.after.0.seen ≡ a.parts.log
turn_whole z s t a b d on = (b.parts.turn.holder d.makes.id v at on).2
    ∙ other_keeps z s t a b (inl (trying, d.makes))
  where
    v : View
    v = d.makes.after.0

    at : SeatAt t.views d.makes.id v
    at = subst (λ (l : List View). SeatAt l d.makes.id v) (sym d.makes.views)
        (set_here s.views d.makes.id v (within s.views d.makes.id d.makes.before.0 d.makes.at))

pub pin_seen : (z : Shape) (s t u : Table) (a : IsRuled z s) (b : IsRuled z t) (c : IsRuled z u)
    (i : ℕ) (v : View) (steps : List Table) (d : Does pinning t u) → SeatAt s.views i v
    → GoesOn z s steps t → IsPrefix v.seen d.makes.after.0.pinned_history
pin_seen z s t u a b c i v steps d at on =
    subst (λ (l : History). IsPrefix v.seen l) (sym (pin_whole z t u b c d))
    (IsPrefix-chain v.seen a.parts.log b.parts.log (a.parts.world.fits i v at).seen
    (log_later z s t a b steps on))

pub write_seen : (z : Shape) (s t u : Table) (a : IsRuled z s) (b : IsRuled z t) (c : IsRuled z u)
    (i : ℕ) (v : View) (steps : List Table) (e : Event) (p : IsPublication e t u)
    → SeatAt s.views i v → GoesOn z s steps t → IsPrefix v.seen p.made.before.0.seen
write_seen z s t u a b c i v steps e p at on =
    subst (λ (l : History). IsPrefix v.seen l) (sym (write_whole z t u b c e p))
    (IsPrefix-chain v.seen a.parts.log b.parts.log (a.parts.world.fits i v at).seen
    (log_later z s t a b steps on))
