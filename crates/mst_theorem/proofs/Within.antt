-- The point of a write lies within its call: it is the one publication of its event.
use Rattle.mst_theorem.proofs.Names.{◌≡◌, ◌⊎◌, ℕ, ◌+◌, List, [], ◌∷◌, ◌++◌, length, inl, inr, refl, sym, ap, ◌∙◌, subst, ⊎_elim, arith, Option, length-append, append_cancel_left, dite, ℕ_discrete, Me, set_here, Change, Event, History, Reply, events_of, IsPrefix, IsPrefix-length, IsPrefix-compare, View, Shape, SeatAt, Deed, Table, IsRuled, IsPublication, moves_of, Does, MakesCurrent, ChangesSeats, GoesBy, within, events_own, publication_grows, other_keeps, made_by, Operation, Call, wrote, Adds, IsHonest, Sits, GoesOn, IsPointOf}
use Rattle.mst_key.proofs.HistoryLaws.{events_of-begins}
use Rattle.mst_pin.specs.declared.event.Event as core
use Rattle.mst_pin.specs.declared.event.Event.TheVariants as move
use Rattle.mst_arena.specs.Lives as lives
use Rattle.mst_words.proofs.Histories.{events_other, all_seen}
use Rattle.mst_theorem.specs.Time.{Publishes, HasPoint}
use Rattle.mst_theorem.proofs.Times.{Mine, same_log, log_later, write_whole}
use Rattle.mst_theorem.proofs.Whole.{sits_begins, sits_own}

no_more : (mine : History) (e : Event) → mine ++ e ∷ [] ≡ mine → ⊥
no_more mine e is = let long : length (mine ++ e ∷ []) ≡ length mine + 1 =
    length-append mine (e ∷ []) in
    let same : length (mine ++ e ∷ []) ≡ length mine = ap length is in
    omega (arith, long, same)

same_last : (mine : History) (x e : Event) → IsPrefix (mine ++ x ∷ []) (mine ++ e ∷ []) → x ≡ e
same_last mine x e begins = let one : length (mine ++ x ∷ []) ≡ length mine + 1 =
    length-append mine (x ∷ []) in
    let other : length (mine ++ e ∷ []) ≡ length mine + 1 = length-append mine (e ∷ []) in
    let long : length (mine ++ e ∷ []) ≡ length (mine ++ x ∷ []) = omega (arith, one, other) in
    let last : e ∷ [] ≡ x ∷ [] =
    append_cancel_left mine (e ∷ []) (x ∷ [])
    (IsPrefix-length (mine ++ x ∷ []) (mine ++ e ∷ []) begins long) in
    let is : x ≡ e = cc in is

-- who publishes an event is the pass of the event
publisher : (z : Shape) (s t : Table) (a : IsRuled z s) (b : IsRuled z t) (e : Event)
    (p : IsPublication e s t) → p.made.before.0.number ≡ e.pass
publisher z s t a b e p = dite (ℕ_discrete e.pass m.0.number) (λ is. sym is)
    (λ other. absurd (no_more m.0.mine e (sym own ∙ events_other m.0.number a.parts.log e other
    ∙ (a.parts.world.fits p.made.id m.0 p.made.at).own)))
  where
    m : Me (Option lives.State) View
    m = p.made.before

    v : View
    v = p.made.after.0

    there : SeatAt t.views p.made.id v
    there = subst (λ (l : List View). SeatAt l p.made.id v) (sym p.made.views)
        (set_here s.views p.made.id v (within s.views p.made.id m.0 p.made.at))

    own : events_of m.0.number (a.parts.log ++ e ∷ []) ≡ m.0.mine ++ e ∷ []
    own = ap (events_of m.0.number) (sym (publication_grows z s t a b e p))
        ∙ ap (λ (k : ℕ). events_of k b.parts.log)
        (sym (ap (λ (x : Mine). x.0.number) p.made.tells.1.is))
        ∙ (b.parts.world.fits p.made.id v there).own
        ∙ ap (λ (x : Mine). x.0.mine) p.made.tells.1.is

-- the pass n had made its own events, and then has made one more, with which its history ends
module _ (z : Shape) (n : ℕ) (change : Change) (mine earlier seen : History)
    (ends : seen ≡ earlier ++ record { pass = n; change = change } ∷ [])
    (own : events_of n seen ≡ mine ++ record { pass = n; change = change } ∷ []) where
  abbrev e : Event
  e = record { pass = n; change = change }

  -- what has the same events of the pass, and ends with this one, is the same
  one_end : (log g : History) → IsPrefix seen log → IsPrefix (g ++ e ∷ []) log
      → events_of n (g ++ e ∷ []) ≡ mine ++ e ∷ [] → seen ≡ g ++ e ∷ []
  one_end log g a b is = ⊎_elim
      (λ (x : IsPrefix seen (g ++ e ∷ [])). all_seen n (mine ++ e ∷ []) seen g e refl x own is)
      (λ (x : IsPrefix (g ++ e ∷ []) seen). ends ∙ sym
      (all_seen n (mine ++ e ∷ []) (g ++ e ∷ []) earlier e refl
      (subst (λ (l : History). IsPrefix (g ++ e ∷ []) l) ends x) is
      (ap (events_of n) (sym ends) ∙ own)))
      (IsPrefix-compare seen (g ++ e ∷ []) log a b)

  record Found (s : Table) (steps : List Table) (t : Table) : Type 0 where
    pub front : List Table
    pub back : List Table
    pub u : Table
    pub v : Table
    pub steps_are : steps ≡ front ++ v ∷ back
    pub before : GoesOn z s front u
    pub point : Publishes n change seen u v
    pub behind : GoesOn z v back t

  -- it is this step
  here : (s u t : Table) (a : IsRuled z s) (d : IsRuled z u) (b : IsRuled z t) (us : List Table)
      (x : Event) → IsPublication x s u → x.pass ≡ n → GoesOn z u us t
      → IsPrefix seen b.parts.log → events_of n a.parts.log ≡ mine
      → events_of n b.parts.log ≡ mine ++ e ∷ [] → Found s (u ∷ us) t
  here s u t a d b us x made by_it rest begins low high =
      let later : IsPrefix d.parts.log b.parts.log = log_later z u t d b us rest in
      let grown : events_of n d.parts.log ≡ mine ++ x ∷ [] =
      ap (events_of n) (publication_grows z s u a d x made)
      ∙ events_own n a.parts.log x by_it ∙ ap (λ (l : History). l ++ x ∷ []) low in
      let few : IsPrefix (mine ++ x ∷ []) (mine ++ e ∷ []) =
      subst (λ (l : History). IsPrefix l (mine ++ e ∷ [])) grown
      (subst (λ (l : History). IsPrefix (events_of n d.parts.log) l) high
      (events_of-begins n d.parts.log b.parts.log later)) in
      let is : x ≡ e = same_last mine x e few in
      let step : IsPublication e s u = subst (λ (y : Event). IsPublication y s u) is made in
      let whole : d.parts.log ≡ a.parts.log ++ e ∷ [] = publication_grows z s u a d e step in
      record {
        front = [];
        back = us;
        u = s;
        v = u;
        steps_are = refl;
        before = refl;
        point = record {
          step = step;
          by = publisher z s u a d e step;
          seen_is =
              one_end b.parts.log a.parts.log begins
              (subst (λ (l : History). IsPrefix l b.parts.log) whole later)
              (events_own n a.parts.log e refl ∙ ap (λ (l : History). l ++ e ∷ []) low)
              ∙ ap (λ (l : History). l ++ e ∷ []) (sym (write_whole z s u a d e step));
        };
        behind = rest;
      }

  -- it is one of the steps that follow
  next : (s u t : Table) (added : List core.Event) (us : List Table) → GoesBy added s u
      → IsRuled z u → Found u us t → Found s (u ∷ us) t
  next s u t added us goes d f = record {
    front = u ∷ f.front;
    back = f.back;
    u = f.u;
    v = f.v;
    steps_are = ap (λ (l : List Table). u ∷ l) f.steps_are;
    before = (added, goes, d, f.before);
    point = f.point;
    behind = f.behind;
  }

  -- it is the step from s to u, or by then the pass has made no more
  either : (s u t : Table) (a : IsRuled z s) (d : IsRuled z u) (b : IsRuled z t)
      (added : List core.Event) (us : List Table) → GoesBy added s u → GoesOn z u us t
      → IsPrefix seen b.parts.log → events_of n a.parts.log ≡ mine
      → events_of n b.parts.log ≡ mine ++ e ∷ [] → (events_of n d.parts.log ≡ mine → Found u us t)
      → Found s (u ∷ us) t
  either s u t a d b added us goes rest begins low high further =
      let later = λ (same : events_of n d.parts.log ≡ mine).
      next s u t added us goes d (further same) in ⊎_elim
      (λ (x : (deed : Deed) × (d : Does deed s u) × (added ≡ moves_of deed d.makes.before.0)).
      later (ap (events_of n) (other_keeps z s u a d (inl (x.0, x.1.makes))) ∙ low))
      (λ (o : ((into : ℕ) × MakesCurrent into s u × (added ≡ move.Publish into 0 ∷ []))
      ⊎ (ChangesSeats s u × (added ≡ []))). ⊎_elim
      (λ (p : (into : ℕ) × MakesCurrent into s u × (added ≡ move.Publish into 0 ∷ [])).
      dite (ℕ_discrete p.1.event.pass n)
      (λ is. here s u t a d b us p.1.event p.1.publishes is rest begins low high)
      (λ other. later
      (ap (events_of n) (publication_grows z s u a d p.1.event p.1.publishes)
      ∙ events_other n a.parts.log p.1.event other ∙ low)))
      (λ (c : ChangesSeats s u × (added ≡ [])).
      later (ap (events_of n) (other_keeps z s u a d (inr c.0.seats)) ∙ low)) o) goes

  found : (steps : List Table) (s t : Table) (a : IsRuled z s) (b : IsRuled z t)
      → GoesOn z s steps t → IsPrefix seen b.parts.log → events_of n a.parts.log ≡ mine
      → events_of n b.parts.log ≡ mine ++ e ∷ [] → Found s steps t
  found [] s t a b on begins low high = absurd (no_more mine e
      (sym high ∙ ap (events_of n) (same_log z s t a b on) ∙ low))
  found (u ∷ us) s t a b (added, goes, d, rest) begins low high =
      either s u t a d b added us goes rest begins low high
      (λ same. found us u t d b rest begins same high)

pub write_point : (z : Shape) (s t : Table) (a : IsRuled z s) (b : IsRuled z t)
    (steps : List Table) (c : Call) → IsHonest c.operation c.old c.new
    → events_of c.old.number c.old.seen ≡ c.old.mine → Sits s c.old → Sits t c.new
    → GoesOn z s steps t → (change : Change) (answered : Reply) → c.operation ≡ wrote change
    answered
    → HasPoint z c s steps t
write_point z s t a b steps c honest own sat sits on change answered is =
    let e : Event = made_by c.old change in
    let adds : Adds e answered c.old c.new =
    subst (λ (o : Operation). IsHonest o c.old c.new) is honest in
    let number : c.new.number ≡ c.old.number = adds.number in
    let seen : events_of c.old.number c.new.seen ≡ c.old.mine ++ e ∷ [] =
    ap (λ (k : ℕ). events_of k c.new.seen) (sym number) ∙ adds.own own ∙ adds.mine in
    let high : events_of c.old.number b.parts.log ≡ c.old.mine ++ e ∷ [] =
    ap (λ (k : ℕ). events_of k b.parts.log) (sym number) ∙ sits_own z t b c.new sits ∙ adds.mine in
    let f = found z c.old.number change c.old.mine adds.log c.new.seen adds.seen seen steps s t a b
    on (sits_begins z t b c.new sits) (sits_own z s a c.old sat) high in record {
      front = f.front;
      back = f.back;
      u = f.u;
      v = f.v;
      steps_are = f.steps_are;
      before = f.before;
      point =
          subst (λ (o : Operation). IsPointOf o c.old.number c.new.seen f.u f.v) (sym is) f.point;
      behind = f.behind;
    }
