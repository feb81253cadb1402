-- The courier's way along the line of the passes, and back.
use Rattle.mst_store.proofs.Names.{◌≡◌, ℕ, zero, suc, ◌+◌, ◌<◌, ◌≤◌, ◌≢◌, Bool, true, false, List, [], ◌∷◌, ◌++◌, length, get_or, set, take, drop, map, sym, refl, ap, ◌∙◌, subst, arith, All, All-map, Seated, PinnedVersion, dite, ℕ_discrete, Event, History, events_of, IsPrefix, View, IsOfPasses, PassParameters, StoreId, Known, IsPinning, having_asked, SeatState, AreAllPasses, IsBeside, GoesOn, IsPrefix-chain, events_of-between}
use Rattle.std.proofs.Common.{add-one}
use Rattle.std.specs.Prelude.{◌==◌}
use Rattle.std.proofs.lemmas.List.{get_or_default}
use Rattle.std.proofs.lemmas.List.Elements.{All-weaker}
use Rattle.atomic_table.specs.Seated.{TableId}
use Rattle.mst_words.specs.Steps.{IsPinned}
use Rattle.mst_versions.specs.Pinned.{HasPinned}
use Rattle.mst_words.specs.Notes.{having_heard, SeesTold}
use Rattle.mst_store.specs.Settling.{IsOfOne}
use Rattle.mst_store.proofs.AllPasses.{all_of_front, all_of_back}

-- what holds below a place and at it holds below the next
pub one_more : {X : Type 0} (P : X → Type 0) (xs : List X) (i : ℕ) (x : X) → i < length xs
    → ((k : ℕ) (d : X) → k < i → P (get_or xs k d)) → P (get_or xs i x) → (k : ℕ) (d : X)
    → k < i + 1 → P (get_or xs k d)
one_more P xs i x l below here k d m = dite (ℕ_discrete k i)
    (λ (is : k ≡ i). subst (λ (j : ℕ). P (get_or xs j d)) (sym is)
    (subst P (get_or_default xs i x d l) here))
    (λ (other : k ≢ i). below k d (omega (arith, other)))

-- ---- the way there

pub goes_on : (m n o : SeatState) → GoesOn m n → GoesOn n o → GoesOn m o
goes_on m n o g h = record {
  courier = h.courier;
  passes_is = h.passes_is ∙ g.passes_is;
  later =
      IsPrefix-chain m.0.seen n.0.seen o.0.seen g.later h.later;
}

-- what stands beside a courier stands beside it when it has gone on
pub beside_on : (t u : TableId) (m n : SeatState) (ps : List Known) → u ≡ t
    → n.0.passes ≡ m.0.passes
    → All (IsBeside t m.0.passes) ps → All (IsBeside u n.0.passes) ps
beside_on t u m n ps table passes = All-weaker (IsBeside t m.0.passes) (IsBeside u n.0.passes)
    (λ p b. record { table_is = b.table_is ∙ sym table; passes_is = b.passes_is ∙ sym passes }) ps

-- what it had heard it has heard when it has gone on
pub later_on : (m n : SeatState) (ps : List Known) → GoesOn m n
    → All (λ p. IsPrefix p.seen m.0.seen) ps
    → All (λ p. IsPrefix p.seen n.0.seen) ps
later_on m n ps on = All-weaker (λ (p : Known). IsPrefix p.seen m.0.seen)
    (λ (p : Known). IsPrefix p.seen n.0.seen)
    (λ p b. IsPrefix-chain p.seen m.0.seen n.0.seen b on.later) ps

-- what was done to each leaves what its number, its store and its history say
pub asked_beside : (t : TableId) (n k : ℕ) (ps : List Known) → All (IsBeside t n) ps
    → All (IsBeside t n) (map (having_asked k) ps)
asked_beside t n k ps a = All-map (IsBeside t n) (having_asked k) ps
    (All-weaker (IsBeside t n) (λ (p : Known). IsBeside t n (having_asked k p))
    (λ p b. record { table_is = b.table_is; passes_is = b.passes_is }) ps a)

-- what holds of each when it was done to each holds of each before, where that is the same
pub all_before : {X Y : Type 0} (P : Y → Type 0) (f : X → Y) (xs : List X) → All P (map f xs)
    → All (λ x. P (f x)) xs
all_before P f [] a k d l = absurd (omega arith)
all_before P f (x ∷ xs) a zero d l = a 0 (f x) (omega arith)
all_before P f (x ∷ xs) a (suc k) d l = all_before P f xs (λ j e m. a (suc j) e (omega arith)) k d
    (omega arith)

-- to ask once and then twice is to ask three times
pub asked_thrice : (ps : List Known) → map (having_asked 2) (map (having_asked 1) ps) ≡ map
    (having_asked 3) ps
asked_thrice [] = refl
asked_thrice (p ∷ ps) = let n : (p.asked + 1) + 2 ≡ p.asked + 3 = omega arith in
    ap (λ (k : ℕ). record p { asked = k } ∷ map (having_asked 2) (map (having_asked 1) ps)) n
    ∙ ap (λ (l : List Known). having_asked 3 p ∷ l) (asked_thrice ps)

-- ---- pinned passes

still : (at : PinnedVersion) (v : View) (h told : History) (n : ℕ) → HasPinned at v
    → HasPinned at (record v { seen = h; told = told; asked = n })
still at v h told n p =
    record {
      pin = p.pin;
      there = p.there;
      low = p.low;
      version = p.version;
      stands =
          p.stands;
      digest = p.digest;
      number = p.number;
    }

-- a pinned pass that looks and hears pins what it pinned
pub pinned_still : (parameters : PassParameters) (at : PinnedVersion) (s t : Seated)
    (h told : History)
    (n : ℕ) → t.me ≡ (record s.me.0 { seen = h; told = told; asked = n }, s.me.1)
    → IsPinning parameters at s → IsPinning parameters at t
pinned_still parameters at s t h told n is p = record {
  pinned = subst (λ (m : SeatState). HasPinned at m.0) (sym is) (still at s.me.0 h told n p.pinned);
  pin = subst (λ (m : SeatState). IsPinned parameters.number at.pinned m) (sym is) p.pin;
  empty = ap (λ (m : SeatState). m.1) is ∙ p.empty;
  some = p.some;
  low = p.low;
  passes_is = ap (λ (m : SeatState). m.0.passes) is ∙ p.passes_is;
  few = p.few;
  rows_is = ap (λ (m : SeatState). m.0.rows) is ∙ p.rows_is;
  few_rows = p.few_rows;
  own = subst (λ (m : SeatState). events_of parameters.number m.0.pinned_history ≡ m.0.mine)
      (sym is) p.own;
}

-- ---- the way back

-- A pass was told of a history that begins with what it had seen, and sees it now. The whole
-- history, which was found then, has no event of the pass that was not there before; so the one
-- between has none either
pub told_own : (m : SeatState) {n o : SeatState} (note : View) → n ≡ (having_heard m.0 note, m.1)
    → SeesTold n o → IsPrefix m.0.seen note.seen → events_of m.0.number m.0.seen ≡ m.0.mine
    → events_of m.0.number note.seen ≡ m.0.mine
told_own m {n} {o} note heard sees later own =
    let whole : IsPrefix note.seen sees.log = subst (λ (z : SeatState). IsPrefix z.0.told sees.log)
    heard
    sees.finds.told in
    let high : events_of m.0.number sees.log ≡ m.0.mine =
    subst (λ (z : SeatState). events_of z.0.number sees.log ≡ z.0.mine) heard sees.finds.own in
    events_of-between m.0.number m.0.mine m.0.seen note.seen sees.log later whole own high

-- the first elements are changed, and the rest is as it was
pub changed_at : {X : Type 0} (f : X → X) (xs : List X) (i : ℕ) (d : X)
    → get_or (map f (take i xs) ++ drop i xs) i d ≡ get_or xs i d
changed_at f [] zero d = refl
changed_at f [] (suc i) d = refl
changed_at f (x ∷ xs) zero d = refl
changed_at f (x ∷ xs) (suc i) d = changed_at f xs i d

changed_more : {X : Type 0} (f : X → X) (xs : List X) (i : ℕ) (d : X) → i < length xs
    → set (map f (take i xs) ++ drop i xs) i (f (get_or xs i d)) ≡ map f (take (suc i) xs) ++ drop
    (suc i) xs
changed_more f [] i d l = absurd (omega arith)
changed_more f (x ∷ xs) zero d l = refl
changed_more f (x ∷ xs) (suc i) d l = ap (λ zs. f x ∷ zs) (changed_more f xs i d (omega arith))

pub changed_next : {X : Type 0} (f : X → X) (xs : List X) (i : ℕ) (d : X) → i < length xs
    → set (map f (take i xs) ++ drop i xs) i (f (get_or xs i d)) ≡ map f (take (i + 1) xs) ++ drop
    (i + 1) xs
changed_next f xs i d l = changed_more f xs i d l ∙ ap (λ (j : ℕ). map f (take j xs) ++ drop j xs)
    (sym (add-one i))

-- ---- all passes of the store

-- a history of passes of the store has no events but theirs
pub all_alone : (ps : List Known) (passes : ℕ) (log : History) (w : AreAllPasses ps)
    → passes ≡ w.store.passes → IsOfPasses passes log → All (IsOfOne ps) log
all_alone ps passes log w same = All-weaker (λ (e : Event). (0 < e.pass) × (e.pass ≤ passes))
    (IsOfOne ps) (λ e b. w.complete e.pass b.0 (subst (λ (n : ℕ). e.pass ≤ n) same b.1)) log

-- what stands beside one of them stands beside all
beside_all : (t : TableId) (n : ℕ) (ps : List Known) (w : AreAllPasses ps) (p : Known)
    → p.store ≡ w.store → IsBeside t n p → All (IsBeside t n) ps
beside_all t n ps w p own b = All-weaker (λ (q : Known). q.store ≡ w.store) (IsBeside t n)
    (λ q is. let same : q.store ≡ p.store = is ∙ sym own in record {
      table_is = ap (λ (s : StoreId). s.table) same ∙ b.table_is;
      passes_is = ap (λ (s : StoreId). s.passes) same ∙ b.passes_is;
    }) ps w.of_one

pub beside_front : (t : TableId) (n : ℕ) (ps qs : List Known) (d : Known)
    → AreAllPasses (ps ++ qs) → 0 < length ps → IsBeside t n (get_or ps 0 d)
    → All (IsBeside t n) (ps ++ qs)
beside_front t n ps qs d w some b = beside_all t n (ps ++ qs) w (get_or ps 0 d)
    (all_of_front (λ (p : Known). p.store ≡ w.store) ps qs w.of_one 0 d some) b

pub beside_back : (t : TableId) (n : ℕ) (ps qs : List Known) (d : Known)
    → AreAllPasses (ps ++ qs) → 0 < length qs → IsBeside t n (get_or qs 0 d)
    → All (IsBeside t n) (ps ++ qs)
beside_back t n ps qs d w some b = beside_all t n (ps ++ qs) w (get_or qs 0 d)
    (all_of_back (λ (p : Known). p.store ≡ w.store) ps qs w.of_one 0 d some) b

-- a list of which is asked whether it is empty
pub some_in : {X : Type 0} (xs : List X) (b : Bool) → b ≡ (length xs == 0) → b ≡ false
    → 0 < length xs
some_in [] b is other = absurd (let both : true ≡ false = sym is ∙ other in cc)
some_in (x ∷ xs) b is other = omega arith
