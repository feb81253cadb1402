-- The theorem, from its parts: of any run of a store whose passes a history holds, of passes that
-- settled, and at any moment of the table.
use Rattle.mst_theorem.proofs.Names.{◌≡◌, ℕ, ◌+◌, ◌<◌, ◌≤◌, ◌==◌, Bool, true, false, List, [], ◌∷◌, ◌++◌, length, filter, get_or, refl, sym, ap, ◌∙◌, subst, ⊎_elim, arith, ne_eqb, Some, AllByRecursion, Event, History, events_of, IsPrefix, IsPrefix-chain, Shape, Table, IsRuled, StoreId, Known, new_pass, Call, calls_of, rank, NeverFalls, IsRun, IsHistoryOf, IsOneOrder, Sits}
use Rattle.std.proofs.Common.{All, Contains}
use Rattle.std.proofs.lemmas.Bool.{cases_lt}
use Rattle.std.proofs.lemmas.List.{get_or-map, length-map}
use Rattle.std.proofs.lemmas.List.Elements.{All-weaker, recursion_from_All}
use Rattle.mst_words.specs.Stored.{stored}
use Rattle.mst_words.proofs.Deeds.{live_stays, words_tell}
use Rattle.mst_store.specs.Passes.{HasShape}
use Rattle.mst_store.specs.Settling.{numbers, AreAllPasses, IsOfOne, Settled}
use Rattle.mst_theorem.specs.Headline.{IsNow, Holds}
use Rattle.mst_theorem.proofs.Filters.{weaker, kept, none_pass}
use Rattle.mst_theorem.proofs.Spread.{spread, filter-spread, spread_same}
use Rattle.mst_theorem.proofs.Chains.{own_new, leads_own, leads_rises, each_own}
use Rattle.mst_theorem.proofs.Places.{Placed, leads_placed, from_parts, EachWritten, each_written}
use Rattle.mst_theorem.proofs.Served.{span, served, written_is, all_in_range}

pub one_order : (store : StoreId) (run : List Call) (now : ℕ → Known) (log : History)
    → IsRun store run now → IsHistoryOf store now log
    → (order : List Call) × IsOneOrder store run log order
one_order store run now log r h = (
  order,
  record {
    each = λ n. keeps (λ (c : Call). c.old.number == n) (rises n);
    served = served store.format run log [] 1 refl placed written_each;
    events = written_is store.format run log [] 1 refl placed written_each;
    keeps = keeps;
  },
)
  where
    order : List Call
    order = spread 1 (span log) run

    within : AllByRecursion (λ c. (0 < c.old.number) × (c.old.number ≤ store.passes)) run
    within = recursion_from_All
        (λ (c : Call). (0 < c.old.number) × (c.old.number ≤ store.passes)) run r.of_store

    placed : AllByRecursion (Placed store.format log) run
    placed = from_parts (Placed store.format log) store.passes run within
        (λ n low high. leads_placed store n log (new_pass store n) (calls_of n run) (now n)
        (r.leads n low high) (own_new store n) (h.later n low high))

    written_each : EachWritten store.format [] log run
    written_each = each_written store.format store.passes run [] log placed
        (λ n low high. each_own store n (calls_of n run) [] log (new_pass store n) (now n)
        (r.leads n low high) (own_new store n) refl (h.later n low high) (h.own n low high))
        (recursion_from_All (λ (e : Event). (0 < e.pass) × (e.pass ≤ store.passes)) log h.alone)

    keeps : (chosen : Call → Bool) → NeverFalls (filter chosen run)
        → filter chosen order ≡ filter chosen run
    keeps chosen up = filter-spread chosen 1 (span log) run
        ∙ spread_same 1 (span log) (filter chosen run) up
        (kept (λ (c : Call). (1 ≤ rank c) × (rank c < 1 + span log)) chosen run
        (all_in_range store.format log run placed))

    -- a number that no pass has, has no calls
    no_calls : (n : ℕ) → ((k : ℕ) → 0 < k → k ≤ store.passes → k ≡ n → ⊥) → NeverFalls
        (calls_of n run)
    no_calls n out = subst NeverFalls (sym (none_pass (λ (c : Call). c.old.number == n) run
        (weaker (λ (c : Call). (0 < c.old.number) × (c.old.number ≤ store.passes))
        (λ (c : Call). (c.old.number == n) ≡ false)
        (λ c x. ne_eqb c.old.number n (out c.old.number x.0 x.1)) run within))) tt

    rises : (n : ℕ) → NeverFalls (calls_of n run)
    rises n = ⊎_elim
        (λ (low : 0 < n). ⊎_elim
        (λ (past : store.passes < n). no_calls n (λ k some high is. omega (arith, past, high, is)))
        (λ (high : n ≤ store.passes). leads_rises (new_pass store n) (calls_of n run) (now n)
        (r.leads n low high))
        (cases_lt store.passes n))
        (λ (none : n ≤ 0). no_calls n (λ k some high is. omega (arith, none, some, is)))
        (cases_lt 0 n)

-- ---- passes that settled

-- the pass of a number
of_number : (P : Known → Type 0) (ps : List Known) (n : ℕ) (d : Known) → All P ps
    → Contains (numbers ps) n → (p : Known) × (p.number ≡ n) × P p
of_number P ps n d all there = let k : ℕ = there.0 in
    let inside : k < length ps = subst (λ (z : ℕ). k < z) (length-map ps (λ (p : Known). p.number))
    there.1 in (
      get_or ps k d,
      sym (get_or-map (λ (p : Known). p.number) ps k d n inside) ∙ there.2,
      all k d inside,
    )

-- two facts of all
both : (P Q : Known → Type 0) (ps : List Known) → All P ps → All Q ps → All (λ p. P p × Q p) ps
both P Q ps a b k d l = (a k d l, b k d l)

pub settled_order : (run : List Call) (now : ℕ → Known) (free held free' held' : List Known)
    (w : AreAllPasses (free ++ held)) (t : Settled free held free' held') → IsRun w.store run now
    → All (IsNow w.store now) (free ++ held)
    → (order : List Call) × IsOneOrder w.store run t.log order
settled_order run now free held free' held' w t r are = one_order w.store run now t.log r record {
  later = λ n low high. (fact n low high).0;
  own = λ n low high. (fact n low high).1;
  alone =
      All-weaker (IsOfOne ps) (λ (e : Event). (0 < e.pass) × (e.pass ≤ w.store.passes))
      (λ e there. let p = of_number (IsNow w.store now) ps e.pass (now 0) are there in
      let is = p.1 in let low = p.2.low in let high = p.2.high in
      (omega (arith, is, low), omega (arith, is, high))) t.log t.alone;
}
  where
    ps : List Known
    ps = free ++ held

    Has : Known → Type 0
    Has p = IsNow w.store now p × (IsPrefix p.seen t.log × (events_of p.number t.log ≡ p.mine))

    all : All Has ps
    all = both (IsNow w.store now)
        (λ (p : Known). IsPrefix p.seen t.log × (events_of p.number t.log ≡ p.mine)) ps are
        (both (λ (p : Known). IsPrefix p.seen t.log)
        (λ (p : Known). events_of p.number t.log ≡ p.mine) ps t.later t.own)

    fact : (n : ℕ) → 0 < n → n ≤ w.store.passes
        → IsPrefix (now n).seen t.log × (events_of n t.log ≡ (now n).mine)
    fact n low high = let p = of_number Has ps n (now 0) all (w.complete n low high) in
        let same : now n ≡ p.0 = ap now (sym p.1) ∙ p.2.0.is in (
          subst (λ (z : Known). IsPrefix z.seen t.log) (sym same) p.2.1.0,
          ap (λ (k : ℕ). events_of k t.log) (sym p.1) ∙ p.2.1.1
              ∙ ap (λ (z : Known). z.mine) (sym same),
        )

-- ---- any moment

-- what a pass at the table has seen begins the history, in which its events are its own
pub sits_begins : (z : Shape) (s : Table) (a : IsRuled z s) (p : Known) → Sits s p
    → IsPrefix p.seen a.parts.log
sits_begins z s a p t = let f = a.parts.world.fits t.id t.view t.at in ⊎_elim
    (λ (x : IsPrefix p.seen t.view.seen). IsPrefix-chain p.seen t.view.seen a.parts.log x f.seen)
    (λ (x : (r : ℕ) × (t.view.pin ≡ Some r) × IsPrefix p.seen t.view.pinned_history).
    IsPrefix-chain p.seen t.view.pinned_history a.parts.log x.2 (f.pinned x.0 x.1).0) t.seen

pub sits_own : (z : Shape) (s : Table) (a : IsRuled z s) (p : Known) → Sits s p
    → events_of p.number a.parts.log ≡ p.mine
sits_own z s a p t = ap (λ (k : ℕ). events_of k a.parts.log) (sym t.number)
    ∙ (a.parts.world.fits t.id t.view t.at).own ∙ t.mine

pub moment_order : (z : Shape) (s : Table) (a : IsRuled z s) (store : StoreId) (run : List Call)
    (now : ℕ → Known) → HasShape z store → IsRun store run now
    → ((n : ℕ) → 0 < n → n ≤ store.passes → Sits s (now n))
    → (order : List Call) × IsOneOrder store run a.parts.log order
moment_order z s a store run now shape r sits = one_order store run now log r record {
  later = λ n low high. sits_begins z s a (now n) (sits n low high);
  own = λ n low high.
      let is : (now n).number ≡ n = (leads_own store n (new_pass store n) (calls_of n run) (now n)
      (r.leads n low high) (own_new store n)).number_is in
      ap (λ (k : ℕ). events_of k log) (sym is) ∙ sits_own z s a (now n) (sits n low high);
  alone = All-weaker (λ (e : Event). (0 < e.pass) × (e.pass < a.parts.next))
      (λ (e : Event). (0 < e.pass) × (e.pass ≤ store.passes))
      (λ e x. let few = a.parts.world.few in let same = shape.1 in let low = x.0 in
      let high = x.1 in (low, omega (arith, few, same, high))) log a.parts.world.named;
}
  where
    log : History
    log = a.parts.log

pub moment_holds : (z : Shape) (s : Table) (a : IsRuled z s) (store : StoreId) (run : List Call)
    (now : ℕ → Known) → HasShape z store → IsRun store run now
    → ((n : ℕ) → 0 < n → n ≤ store.passes → Sits s (now n)) → Holds z s a store run
moment_holds z s a store run now shape r sits = let o =
    moment_order z s a store run now shape r sits in record {
      order = o.0;
      one = o.1;
      tells = words_tell z s a;
      stays =
          λ v r i turn. live_stays (stored z.format) z.rows z.passes s a turn.0 v r i turn.1 turn.2;
    }

-- a run whose calls each have seen as far as those before them is the order
pub order_is_run : (store : StoreId) (run order : List Call) (log : History)
    → IsOneOrder store run log order → NeverFalls run → order ≡ run
order_is_run store run order log o up =
    sym (all order) ∙ o.keeps (λ (c : Call). true) (subst NeverFalls (sym (all run)) up) ∙ all run
  where
    all : (cs : List Call) → filter (λ (c : Call). true) cs ≡ cs
    all [] = refl
    all (c ∷ cs) = ap (λ (l : List Call). c ∷ l) (all cs)

-- and so do two calls of it
pub pair_kept : (store : StoreId) (run order : List Call) (log : History) (picked : Call → Bool)
    (a b : Call) → IsOneOrder store run log order → filter picked run ≡ a ∷ b ∷ []
    → rank a ≤ rank b → filter picked order ≡ a ∷ b ∷ []
pair_kept store run order log picked a b o is far =
    o.keeps picked (subst NeverFalls (sym is) ((far, tt), (tt, tt))) ∙ is
