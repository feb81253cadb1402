-- What all passes know once they have settled.
use Rattle.mst_script.proofs.Names.{◌≡◌, ℕ, List, get_or, sym, ap, ◌∙◌, subst, All, Contains, IsPermutation, All-append, All-map, IsPermutation-sym, History, events_of, IsPrefix, IsPrefix-itself, Known, having_asked, having_seen, Settled, Machine, Gathers, Roster, everyone, SawItself, KnowsPins, Shows, all_of_front, all_of_back}
use Rattle.mst_script.proofs.AllOf.{settled_numbers}
use Rattle.mst_script.proofs.Gathering.{gathers_moved, one_history}
use Rattle.mst_script.proofs.Knowing.{knows_asked}

pub settled_gathers : (s t : Roster) → (st : Settled s.free s.pinned t.free t.pinned)
    → Gathers st.log (everyone s)
settled_gathers s t st = record { later = st.later; own = st.own; alone = st.alone }

-- each pass that settled has seen it, and keeps its number and its events
pub gathers_settled : (s t : Roster) → (st : Settled s.free s.pinned t.free t.pinned)
    → Gathers st.log (everyone t)
gathers_settled s t st = record {
  later = All-append (λ (p : Known). IsPrefix p.seen st.log) t.free t.pinned
      (subst (All (λ p. IsPrefix p.seen st.log)) (sym st.now)
      (All-map (λ (p : Known). IsPrefix p.seen st.log) (having_seen st.log) s.free
      (λ k d l. IsPrefix-itself st.log)))
      (subst (All (λ p. IsPrefix p.seen st.log)) (sym st.still)
      (All-map (λ (p : Known). IsPrefix p.seen st.log) (having_asked 3) s.pinned
      (all_of_back (λ (p : Known). IsPrefix p.seen st.log) s.free s.pinned st.later)));
  own = All-append (λ (p : Known). events_of p.number st.log ≡ p.mine) t.free t.pinned
      (subst (All (λ p. events_of p.number st.log ≡ p.mine)) (sym st.now)
      (All-map (λ (p : Known). events_of p.number st.log ≡ p.mine) (having_seen st.log) s.free
      (all_of_front (λ (p : Known). events_of p.number st.log ≡ p.mine) s.free s.pinned st.own)))
      (subst (All (λ p. events_of p.number st.log ≡ p.mine)) (sym st.still)
      (All-map (λ (p : Known). events_of p.number st.log ≡ p.mine) (having_asked 3) s.pinned
      (all_of_back (λ (p : Known). events_of p.number st.log ≡ p.mine) s.free s.pinned st.own)));
  alone = λ k d l. subst (λ (ns : List ℕ). Contains ns (get_or st.log k d).pass)
      (sym (settled_numbers s.free s.pinned t.free t.pinned st)) (st.alone k d l);
}

pub shows_settled : (m : Machine) (s t : Roster) → (st : Settled s.free s.pinned t.free t.pinned)
    → st.log ≡ m.history → KnowsPins m.pinned s.pinned → Shows m t
shows_settled m s t st is k = record {
  seen = subst (All (λ p. p.seen ≡ m.history)) (sym st.now)
      (All-map (λ (p : Known). p.seen ≡ m.history) (having_seen st.log) s.free (λ i d l. is));
  gathered = subst (λ (h : History). Gathers h (everyone t)) is (gathers_settled s t st);
  pins = knows_asked m.pinned s.pinned t.pinned st.still k;
}

-- each pass has seen its own events
pub all_itself : (m : Machine) (r : Roster) → Shows m r → All SawItself (everyone r)
all_itself m r shows = All-append SawItself r.free r.pinned
    (λ k d l. ap (events_of (get_or r.free k d).number) (shows.seen k d l)
    ∙ all_of_front (λ (p : Known). events_of p.number m.history ≡ p.mine) r.free r.pinned
    shows.gathered.own k d l)
    shows.pins.own

-- nobody made an event: the history stays
pub still_there : (m : Machine) (r s t : Roster) → Shows m r
    → IsPermutation (everyone r) (everyone s)
    → (st : Settled s.free s.pinned t.free t.pinned) → st.log ≡ m.history
still_there m r s t shows moved st =
    one_history (everyone r) st.log m.history (all_itself m r shows)
    (gathers_moved st.log (everyone s) (everyone r)
    (IsPermutation-sym (everyone r) (everyone s) moved) (settled_gathers s t st)) shows.gathered
