-- What the passes of a load have seen when they settle: no event came since, and none of the events
-- is a migration, so that the version is one of the format that the store was opened with.
use Rattle.mst_load.proofs.Names.{◌≡◌, ℕ, zero, suc, ◌+◌, ◌<◌, ◌≤◌, Bool, true, false, cond, List, [], ◌∷◌, ◌++◌, length, length-append, get_or, take, refl, sym, ap, ◌∙◌, subst, eq-eqb, arith, All, AllByRecursion, Contains, cond-true, nat_tests, Format, One, Event, History, IsMigration, KeepsFormat, after, events_of, IsPrefix, events_of-append, IsPrefix-chain, Known, Looks, format_seen, IsSamePass, numbers, AreAllPasses, Settled, none_held, HasSettled}
use Rattle.std.proofs.Common.{append-nil, drop, take_all}
use Rattle.std.specs.Prelude.{◌==◌, filter}
use Rattle.std.proofs.lemmas.List.{get_or-map, length-map, take-append-le}
use Rattle.std.proofs.lemmas.List.Elements.{All-append, All-map}
use Rattle.std.proofs.Math.ListN.{get_or-append}
use Rattle.mst_key.proofs.HistoryLaws.{format_after_none, IsPrefix-both_ways}
use Rattle.mst_node.specs.Text as text
use Rattle.mst_store.specs.Settling.{having_seen, IsOfOne}
use Rattle.mst_store.proofs.AllPasses.{all_settled}
use Rattle.mst_load.specs.Reports.{IsOneVersion, IsSettled}
use Rattle.mst_load.proofs.Returning.{all_same}

-- ---- events one by one, and in a list

pub each_keeps : (log : History) → All (λ e. IsMigration e.change → ⊥) log → KeepsFormat log
each_keeps [] all = tt
each_keeps (e ∷ log) all =
    (all 0 e (omega arith), each_keeps log (λ k d below. all (suc k) d (omega (arith, below))))

pub all_keep : (log : History) → KeepsFormat log → All (λ e. IsMigration e.change → ⊥) log
all_keep [] keeps k d below = absurd (omega (arith, below))
all_keep (e ∷ log) keeps zero d below = keeps.0
all_keep (e ∷ log) keeps (suc k) d below = all_keep log keeps.1 k d (omega (arith, below))

-- ---- a history of whose events each is well among those of its pass

first_holds : (P : Event → Type 0) (test : Event → Bool) (e : Event) (log : History) → test e ≡ true
    → AllByRecursion P (filter test (e ∷ log)) → P e
first_holds P test e log passes each =
    (subst (λ (b : Bool). AllByRecursion P (cond b (e ∷ filter test log) (filter test log))) passes
    each).0

rest_hold : (P : Event → Type 0) (test : Event → Bool) (e : Event) (log : History)
    → AllByRecursion P (filter test (e ∷ log)) → AllByRecursion P (filter test log)
rest_hold P test e log each = go (test e) each
  where
    go : (b : Bool) → AllByRecursion P (cond b (e ∷ filter test log) (filter test log))
        → AllByRecursion P (filter test log)
    go true all = all.1
    go false all = all

pub each_of : (P : Event → Type 0) (log : History)
    → ((k : ℕ) (d : Event) → k < length log → AllByRecursion P
    (events_of (get_or log k d).pass log)) → AllByRecursion P log
each_of P [] own = tt
each_of P (e ∷ log) own = (
  first_holds P (λ x. x.pass == e.pass) e log (grind (arith, nat_tests)) (own 0 e (omega arith)),
  each_of P log (λ k d below. rest_hold P (λ x. x.pass == (get_or log k d).pass) e log
      (own (suc k) d (omega (arith, below)))),
)

pub keeps_each : (log : History)
    → ((k : ℕ) (d : Event) → k < length log → KeepsFormat (events_of (get_or log k d).pass log))
    → KeepsFormat log
keeps_each log own = each_of (λ e. IsMigration e.change → ⊥) log own

-- ---- the last of a list

last_inside : (os : List Known) (p : Known) → length os < length (os ++ p ∷ [])
last_inside os p = let same = length-append os (p ∷ []) in omega (arith, same)

last_is : (os : List Known) (p : Known) → get_or (os ++ p ∷ []) (length os) p ≡ p
last_is [] p = refl
last_is (o ∷ os) p = last_is os p

-- what holds of all passes holds of the last, and of those before it
pub last_of : (P : Known → Type 0) (os : List Known) (p : Known) → All P (os ++ p ∷ []) → P p
    × All P os
last_of P os p all = (
  subst P (last_is os p) (all (length os) p (last_inside os p)),
  λ k d below. subst P (get_or-append os (p ∷ []) d k below)
      (all k d (let long = length-append os (p ∷ []) in omega (arith, below, long))),
)

-- ---- the passes that settled

lone : (P : Known → Type 0) (p : Known) → P p → All P (p ∷ [])
lone P p is zero d below = is
lone P p is (suc k) d below = absurd (omega (arith, below))

-- the pass of an event of one of the passes
pub pass_at : (ps : List Known) (d : Known) (pass : ℕ) → Contains (numbers ps) pass → (k : ℕ)
    × (k < length ps) × ((get_or ps k d).number ≡ pass)
pass_at ps d pass there =
    let same = length-map ps (λ (p : Known). p.number) in
    let low : there.0 < length ps = (let below = there.1 in omega (arith, below, same)) in
    (there.0, low, sym (get_or-map (λ (p : Known). p.number) ps there.0 d pass low) ∙ there.2)

-- the clauses of a settling with no pass that pins
pub settled_later : (ps free held : List Known) (s : Settled ps [] free held)
    → All (λ p. IsPrefix p.seen s.log) ps
settled_later ps free held s = subst (All (λ p. IsPrefix p.seen s.log)) (append-nil ps) s.later

pub settled_own : (ps free held : List Known) (s : Settled ps [] free held)
    → All (λ p. events_of p.number s.log ≡ p.mine) ps
settled_own ps free held s = subst (All (λ p. events_of p.number s.log ≡ p.mine)) (append-nil ps)
    s.own

pub settled_alone : (ps free held : List Known) (s : Settled ps [] free held)
    → All (IsOfOne ps) s.log
settled_alone ps free held s = subst (λ (l : List Known). All (IsOfOne l) s.log) (append-nil ps)
    s.alone

pub log_keeps : (ps free held : List Known) (q : Known) → All (λ p. KeepsFormat p.mine) ps
    → (s : Settled ps [] free held) → KeepsFormat s.log
log_keeps ps free held q each s = keeps_each s.log (λ k d below.
    let pass : ℕ = (get_or s.log k d).pass in
    let there = pass_at ps q pass (settled_alone ps free held s k d below) in
    subst (λ (n : ℕ). KeepsFormat (events_of n s.log)) there.2
    (subst KeepsFormat (sym (settled_own ps free held s there.0 q there.1))
    (each there.0 q there.1)))

-- so the root digest that it returns is in that format
pub format_kept : (q : Known) → q.store.format ≡ One → KeepsFormat q.seen → format_seen q ≡ One
format_kept q first keeps = format_after_none q.store.format q.seen keeps ∙ first

-- ---- no event after all passes settled

first_after : (log rest : History) (e : Event) → get_or (log ++ e ∷ rest) (length log) e ≡ e
first_after [] rest e = refl
first_after (x ∷ log) rest e = first_after log rest e

no_more : (log more : History) (ps : List Known) (d : Known) → IsPrefix log more
    → All (λ p. events_of p.number log ≡ p.mine) ps →
    All (λ p. events_of p.number more ≡ p.mine) ps → All (IsOfOne ps) more → more ≡ log
no_more log more ps d begins before now of_one = go begins.0 begins.1
  where
    go : (rest : History) → more ≡ log ++ rest → more ≡ log
    go [] is = is ∙ append-nil log
    go (e ∷ rest) is =
        let long : length more ≡ length log + length (e ∷ rest) = ap (λ (h : History). length h) is
        ∙ length-append log (e ∷ rest) in
        let inside : length log < length more = omega (arith, long) in
        let at : get_or more (length log) e ≡ e = ap (λ (h : History). get_or h (length log) e) is
        ∙ first_after log rest e in
        let there = pass_at ps d e.pass (subst (IsOfOne ps) at (of_one (length log) e inside)) in
        let n : ℕ = (get_or ps there.0 d).number in
        let same : events_of n more ≡ events_of n log =
        now there.0 d there.1 ∙ sym (before there.0 d there.1) in
        let cut : events_of n more ≡ events_of n log ++ events_of n (e ∷ rest) =
        ap (events_of n) is ∙ events_of-append n log (e ∷ rest) in
        let kept : events_of n (e ∷ rest) ≡ e ∷ events_of n rest =
        cond-true (e.pass == n) (e ∷ events_of n rest) (events_of n rest)
        (eq-eqb e.pass n (sym there.2)) in
        let sizes : length (events_of n log) ≡ length (events_of n log) + length
        (events_of n (e ∷ rest)) = ap (λ (h : History). length h) (sym same ∙ cut)
        ∙ length-append (events_of n log) (events_of n (e ∷ rest)) in
        let some : length (events_of n (e ∷ rest)) ≡ suc (length (events_of n rest)) =
        ap (λ (h : History). length h) kept in
        absurd (omega (arith, sizes, some))

-- a pass that pins finds what all had seen when they settled
pub pinned_same : (others free held : List Known) (p q : Known) → Looks p q
    → All (λ x. events_of x.number p.seen ≡ x.mine) (others ++ p ∷ []) →
    Settled (others ++ q ∷ []) [] free held → q.seen ≡ p.seen
pinned_same others free held p q looks seen s =
    let ps : List Known = others ++ q ∷ [] in
    let parts = last_of (λ (x : Known). events_of x.number p.seen ≡ x.mine) others p seen in
    let its : events_of q.number p.seen ≡ q.mine = ap (λ (n : ℕ). events_of n p.seen) looks.same.1
    ∙ parts.0 ∙ sym looks.mine in
    let before : All (λ x. events_of x.number p.seen ≡ x.mine) ps =
    All-append (λ (x : Known). events_of x.number p.seen ≡ x.mine) others (q ∷ []) parts.1
    (lone (λ (x : Known). events_of x.number p.seen ≡ x.mine) q its) in
    let begins : IsPrefix q.seen s.log =
    (last_of (λ (x : Known). IsPrefix x.seen s.log) others q (settled_later ps free held s)).0
    in
    let same : s.log ≡ p.seen =
    no_more p.seen s.log ps q (IsPrefix-chain p.seen q.seen s.log looks.later begins) before
    (settled_own ps free held s) (settled_alone ps free held s) in
    sym (IsPrefix-both_ways p.seen q.seen looks.later (subst (IsPrefix q.seen) same begins))

-- ---- the passes that settled

pub all_seen : (ps free held : List Known) (s : Settled ps [] free held) → All (λ p. p.seen ≡ s.log)
    free
all_seen ps free held s = subst (All (λ p. p.seen ≡ s.log)) (sym s.now)
    (All-map (λ (p : Known). p.seen ≡ s.log) (having_seen s.log) ps (λ k d below. refl))

pub all_own : (ps free held : List Known) (s : Settled ps [] free held)
    → All (λ p. events_of p.number s.log ≡ p.mine) free
all_own ps free held s =
    subst (All (λ p. events_of p.number s.log ≡ p.mine)) (sym s.now)
    (All-map (λ (p : Known). events_of p.number s.log ≡ p.mine) (having_seen s.log) ps
    (settled_own ps free held s))

pub all_first : (ps free held : List Known) (s : Settled ps [] free held)
    → All (λ p. p.store.format ≡ One) ps → All (λ p. p.store.format ≡ One) free
all_first ps free held s each = subst (All (λ p. p.store.format ≡ One)) (sym s.now)
    (All-map (λ (p : Known). p.store.format ≡ One) (having_seen s.log) ps each)

pub all_whole : (ps free held : List Known) → Settled ps [] free held → AreAllPasses ps
    → AreAllPasses free
all_whole ps free held s whole =
    subst AreAllPasses (append-nil free)
    (subst (λ (l : List Known). AreAllPasses (free ++ l)) s.still
    (all_settled ps [] free held s (none_held ps whole)))

-- as they stand in the list that was lent for it
pub settled_back : (ps free held : List Known) (n : ℕ) → Settled ps [] free held → length ps ≡ n
    → free ≡ take n (free ++ drop (length free) ps)
settled_back ps free held n s long =
    let same : length free ≡ length ps = ap (λ (l : List Known). length l) s.now ∙ length-map ps
    (having_seen s.log) in
    let most : n ≤ length free = omega (arith, same, long) in
    let least : length free ≤ n = omega (arith, same, long) in
    sym (take-append-le n free (drop (length free) ps) most ∙ take_all n free least)

-- what a report says of them
pub told_settled : (ps free held others : List Known) (p : Known) (events : ℕ) (digest : List ℕ)
    → (s : Settled ps [] free held) → others ++ p ∷ [] ≡ free →
    All (λ x. x.store.format ≡ One) ps → All (λ x. KeepsFormat x.mine) ps → events ≡ length p.seen
    → digest ≡ text.root (format_seen p) (after p.seen) → IsSettled ps events digest
told_settled ps free held others p events digest s is first keeps events_is digest_is =
    let seen : p.seen ≡ s.log =
    (last_of (λ (x : Known). x.seen ≡ s.log) others p
    (subst (All (λ x. x.seen ≡ s.log)) (sym is) (all_seen ps free held s))).0 in
    let one : p.store.format ≡ One =
    (last_of (λ (x : Known). x.store.format ≡ One) others p
    (subst (All (λ x. x.store.format ≡ One)) (sym is) (all_first ps free held s first))).0 in
    let kept : KeepsFormat p.seen = subst KeepsFormat (sym seen) (log_keeps ps free held p keeps s)
    in
    let format : format_seen p ≡ One = format_kept p one kept in record {
      log = s.log;
      later = settled_later ps free held s;
      own = settled_own ps free held s;
      alone = settled_alone ps free held s;
      events_is = events_is ∙ ap (λ (h : History). length h) seen;
      root_is = digest_is ∙ ap (λ (f : Format). text.root f (after p.seen)) format
          ∙ ap (λ (h : History). text.root One (after h)) seen;
    }

pub one_settled : (ps : List Known) (events : ℕ) (digest : List ℕ) → IsSettled ps events digest
    → IsOneVersion events digest
one_settled ps events digest s = (s.log, s.events_is, s.root_is)

pub settled_count : (n m writers calls events : ℕ) (digest : List ℕ) → HasSettled n writers calls
    events digest → n ≡ m → HasSettled m writers calls events digest
settled_count n m writers calls events digest s is =
    record {
      passes = s.passes;
      all = s.all;
      count_is = s.count_is ∙ is;
      numbered =
          s.numbered;
      rows = s.rows;
      format = s.format;
      worked = s.worked;
      settled = s.settled;
    }

-- and what a pass that is taken from them needs to tell it
pub seen_by_last : (ps free held others : List Known) (p : Known) → (s : Settled ps [] free held)
    → others ++ p ∷ [] ≡ free → All (λ x. events_of x.number p.seen ≡ x.mine) (others ++ p ∷ [])
seen_by_last ps free held others p s is =
    let seen : p.seen ≡ s.log =
    (last_of (λ (x : Known). x.seen ≡ s.log) others p
    (subst (All (λ x. x.seen ≡ s.log)) (sym is) (all_seen ps free held s))).0 in
    subst (λ (h : History). All (λ x. events_of x.number h ≡ x.mine) (others ++ p ∷ [])) (sym seen)
    (subst (All (λ x. events_of x.number s.log ≡ x.mine)) (sym is) (all_own ps free held s))

-- ---- the pass that pins, among all passes

same_at : (os : List Known) (p q : Known) → IsSamePass p q → (k : ℕ) (d : Known)
    → k < length (os ++ p ∷ []) → IsSamePass (get_or (os ++ p ∷ []) k d) (get_or (os ++ q ∷ []) k d)
same_at [] p q same zero d below = same
same_at [] p q same (suc k) d below = absurd (omega (arith, below))
same_at (o ∷ os) p q same zero d below = (refl, refl)
same_at (o ∷ os) p q same (suc k) d below = same_at os p q same k d (omega (arith, below))

pub all_with : (os : List Known) (p q : Known) → IsSamePass p q → AreAllPasses (os ++ p ∷ [])
    → AreAllPasses (os ++ q ∷ [])
all_with os p q same all =
    let before = length-append os (p ∷ []) in
    let after = length-append os (q ∷ []) in
    all_same (os ++ p ∷ []) (os ++ q ∷ []) (omega (arith, before, after)) (same_at os p q same) all
