-- How many puts of a load were made, worker by worker.
use Rattle.mst_load.proofs.Names.{◌≡◌, ◌≢◌, inl, inr, ℕ, zero, suc, ◌+◌, ◌-◌, ◌*◌, ◌<◌, ◌≤◌, Bool, cond, List, [], ◌∷◌, ◌++◌, length, length-append, get_or, refl, sym, ap, ◌∙◌, subst, eq-eqb, ne_eqb, arith, All, AllByRecursion, not_there, dite, ℕ_discrete, alls-append, Event, History, events_of, Known, new_pass, change_of, event_of, calls_of, HasPut, MadePuts, HasWorked, HasAllCalls}
use Rattle.std.proofs.Math.Nat.{suc-mul, zero-mul}
use Rattle.mst_key.specs.History.{IsAbout}
use Rattle.mst_load.proofs.Working.{put_same, refused_same}

-- the byte at which a key begins: that of a writer's key is the writer's number
abbrev pub first_of : List ℕ → ℕ
first_of [] = 0
first_of (b ∷ bs) = b

-- the event is about keys of its own pass alone
abbrev pub IsOwn : Event → Type 0
IsOwn e = (k : List ℕ) → IsAbout k e.change → first_of k ≡ e.pass

pub call_own : (w c : ℕ) → IsOwn (event_of w c)
call_own w c k about = ap first_of about

-- ---- one worker

record Made (calls : ℕ) (p q : Known) : Type 0 where
  number : q.number ≡ p.number
  few : length q.mine ≤ calls
  own : AllByRecursion IsOwn q.mine
  all : length q.mine ≡ calls → q.mine ≡ calls_of p.number calls

made : (n : ℕ) (p q : Known) → p.mine ≡ [] → MadePuts n p q → Made n p q
made zero p q none is =
    let mine : q.mine ≡ [] = ap (λ (r : Known). r.mine) is ∙ none in
    let long : length q.mine ≡ 0 = ap (λ (h : History). length h) mine in
    record {
      number = ap (λ (r : Known). r.number) is;
      few = omega (arith, long);
      own =
          subst (AllByRecursion IsOwn) (sym mine) tt;
      all = λ e. mine;
    }
made (suc n) p q none (r, before, last) = more (made n p r none before) last
  where
    more : Made n p r → HasPut (suc n) r q → Made (suc n) p q
    more m (inl put) =
        let mine : q.mine ≡ r.mine ++ event_of r.number (suc n) ∷ [] = put.1.wrote.mine in
        let long : length q.mine ≡ length r.mine + 1 = ap (λ (h : History). length h) mine
        ∙ length-append r.mine (event_of r.number (suc n) ∷ []) in
        let few : length r.mine ≤ n = m.few in record {
          number = (put_same (suc n) r q (inl put)).1 ∙ m.number;
          few = omega (arith, long, few);
          own =
              subst (AllByRecursion IsOwn) (sym mine)
              (alls-append IsOwn r.mine (event_of r.number (suc n) ∷ []) m.own
              (call_own r.number (suc n), tt));
          all =
              λ e. (let before : length r.mine ≡ n = omega (arith, long, e) in
              mine ∙ (λ i. m.all before i ++ event_of (m.number i) (suc n) ∷ []));
        }
    more m (inr (fault, refused)) =
        let same = refused_same fault (change_of r.number (suc n)) r q refused in
        let long : length q.mine ≡ length r.mine = ap (λ (h : History). length h) same.1 in
        let few : length r.mine ≤ n = m.few in record {
          number = same.0.1 ∙ m.number;
          few = omega (arith, long, few);
          own = subst (AllByRecursion IsOwn) (sym same.1) m.own;
          all = λ e. absurd (omega (arith, e, long, few));
        }

-- ---- what a truncated fact says of numbers

le_stable : (a b : ℕ) → ((a ≤ b → ⊥) → ⊥) → a ≤ b
le_stable a b h = dite (ℕ_discrete (a - b) 0) (λ (none : a - b ≡ 0). omega (arith, none))
    (λ (some : a - b ≢ 0). absurd (h (λ (low : a ≤ b). omega (arith, some, low))))

pub nat_stable : (a b : ℕ) → ((a ≡ b → ⊥) → ⊥) → a ≡ b
nat_stable a b h = dite (ℕ_discrete a b) (λ (same : a ≡ b). same)
    (λ (other : a ≢ b). absurd (h other))

pub by_all : (P : Event → Type 0) (h : History) → All P h → AllByRecursion P h
by_all P [] all = tt
by_all P (e ∷ h) all =
    (all 0 e (omega arith), by_all P h (λ k d below. all (suc k) d (omega (arith, below))))

pub to_all : (P : Event → Type 0) (h : History) → AllByRecursion P h → All P h
to_all P [] each k d below = absurd (omega (arith, below))
to_all P (e ∷ h) each zero d below = each.0
to_all P (e ∷ h) each (suc k) d below = to_all P h each.1 k d (omega (arith, below))

-- the events of the pass w, which has made all calls of its worker
pub record Counted (writers calls w : ℕ) (mine : History) : Type 0 where
  pub few : w ≤ writers → length mine ≤ calls
  pub none : writers < w → length mine ≡ 0
  pub own : AllByRecursion IsOwn mine
  pub all : w ≤ writers → length mine ≡ calls → (mine ≡ calls_of w calls → ⊥) → ⊥

worked_few : (writers calls : ℕ) (p : Known) → p.number ≤ writers → HasWorked writers calls
    (new_pass p.store p.number) p 0 → Made calls (new_pass p.store p.number) p
worked_few writers calls p low worked = made calls (new_pass p.store p.number) p refl
    (worked.writes low).puts

worked_none : (writers calls : ℕ) (p : Known) → writers < p.number → HasWorked writers calls
    (new_pass p.store p.number) p 0 → p.mine ≡ []
worked_none writers calls p high worked = (worked.reads high).mine

worked_own : (writers calls : ℕ) (p : Known) → HasWorked writers calls (new_pass p.store p.number) p
    0 → AllByRecursion IsOwn p.mine
worked_own writers calls p worked = dite (ℕ_discrete (p.number - writers) 0)
    (λ (none : p.number - writers ≡ 0). let low : p.number ≤ writers = omega (arith, none) in
    (worked_few writers calls p low worked).own)
    (λ (some : p.number - writers ≢ 0). let high : writers < p.number = omega (arith, some) in
    subst (AllByRecursion IsOwn) (sym (worked_none writers calls p high worked)) tt)

pub counted : (writers calls : ℕ) (p : Known) → HasAllCalls writers calls p → Counted writers calls
    p.number p.mine
counted writers calls p worked = record {
  few =
      λ low. le_stable (length p.mine) calls
      (λ no. not_there worked (λ w. no (worked_few writers calls p low w).few));
  none =
      λ high. nat_stable (length p.mine) 0
      (λ no. not_there worked
      (λ w. no (ap (λ (h : History). length h) (worked_none writers calls p high w))));
  own =
      by_all IsOwn p.mine (λ i d below k about. nat_stable (first_of k) (get_or p.mine i d).pass
      (λ no. not_there worked
      (λ w. no (to_all IsOwn p.mine (worked_own writers calls p w) i d below k about))));
  all = λ low long no. not_there worked (λ w. no ((worked_few writers calls p low w).all long));
}

-- ---- the events of all passes

pub kept_event : (w : ℕ) (e : Event) (h : History) → e.pass ≡ w → events_of w (e ∷ h) ≡ e
    ∷ events_of w h
kept_event w e h is = ap (λ (t : Bool). cond t (e ∷ events_of w h) (events_of w h))
    (eq-eqb e.pass w is)

pub left_event : (w : ℕ) (e : Event) (h : History) → e.pass ≢ w → events_of w (e ∷ h) ≡ events_of w
    h
left_event w e h other = ap (λ (t : Bool). cond t (e ∷ events_of w h) (events_of w h))
    (ne_eqb e.pass w other)

-- how many events are of the passes 1 to n
abbrev total : ℕ → History → ℕ
total zero h = 0
total (suc n) h = total n h + length (events_of (suc n) h)

total_none : (n : ℕ) → total n [] ≡ 0
total_none zero = refl
total_none (suc n) = let e : total n [] ≡ 0 = total_none n in let f : total (suc n) [] ≡ total n []
    + 0 = refl in omega (arith, e, f)

total_same : (n : ℕ) (e : Event) (h : History) → n < e.pass → total n (e ∷ h) ≡ total n h
total_same zero e h above = refl
total_same (suc n) e h above =
    (λ i. total_same n e h (omega (arith, above)) i + length
    (left_event (suc n) e h (λ is. omega (arith, above, is)) i))

total_more : (n : ℕ) (e : Event) (h : History) → 0 < e.pass → e.pass ≤ n → total n (e ∷ h) ≡ suc
    (total n h)
total_more zero e h some low = absurd (omega (arith, some, low))
total_more (suc n) e h some low = dite (ℕ_discrete e.pass (suc n))
    (λ (is : e.pass ≡ suc n).
    let before : total n (e ∷ h) ≡ total n h = total_same n e h (omega (arith, is)) in
    let here : length (events_of (suc n) (e ∷ h)) ≡ suc (length (events_of (suc n) h)) =
    ap (λ (g : History). length g) (kept_event (suc n) e h is) in
    sums (total n (e ∷ h)) (total n h) (length (events_of (suc n) (e ∷ h)))
    (length (events_of (suc n) h)) before here)
    (λ (other : e.pass ≢ suc n).
    let before : total n (e ∷ h) ≡ suc (total n h) =
    total_more n e h some (omega (arith, low, other)) in
    let here : length (events_of (suc n) (e ∷ h)) ≡ length (events_of (suc n) h) =
    ap (λ (g : History). length g) (left_event (suc n) e h other) in
    other_sums (total n (e ∷ h)) (total n h) (length (events_of (suc n) (e ∷ h)))
    (length (events_of (suc n) h)) before here)
  where
    sums : (a b c d : ℕ) → a ≡ b → c ≡ suc d → a + c ≡ suc (b + d)
    sums a b c d e f = omega (arith, e, f)

    other_sums : (a b c d : ℕ) → a ≡ suc b → c ≡ d → a + c ≡ suc (b + d)
    other_sums a b c d e f = omega (arith, e, f)

-- the event is of one of the passes 1 to n
abbrev pub IsOfFirst : ℕ → Event → Type 0
IsOfFirst n e = (0 < e.pass) × (e.pass ≤ n)

count : (n : ℕ) (h : History) → AllByRecursion (IsOfFirst n) h → length h ≡ total n h
count n [] each = sym (total_none n)
count n (e ∷ h) each = ap suc (count n h each.1) ∙ sym (total_more n e h each.0.0 each.0.1)

-- the events of each of the first passes are counted
abbrev pub AreCounted : ℕ → ℕ → ℕ → History → Type 0
AreCounted n writers calls h = (w : ℕ) → 0 < w → w ≤ n → Counted writers calls w (events_of w h)

fewer : (n m writers calls : ℕ) (h : History) → m ≤ n → AreCounted n writers calls h
    → AreCounted m writers calls h
fewer n m writers calls h less each w some low = each w some (omega (arith, less, low))

-- the first writers have made no more than their calls
few_writers : (n writers calls : ℕ) (h : History) → n ≤ writers → AreCounted n writers calls h
    → total n h ≤ n * calls
few_writers zero writers calls h low each = omega (arith, zero-mul calls)
few_writers (suc n) writers calls h low each =
    let before : total n h ≤ n * calls = few_writers n writers calls h (omega (arith, low))
    (fewer (suc n) n writers calls h (omega arith) each) in
    let here : length (events_of (suc n) h) ≤ calls = (each (suc n) (omega arith) (omega arith)).few
    low in
    sums (total n h) (length (events_of (suc n) h)) (n * calls) calls (suc n * calls) before here
    (suc-mul n calls)
  where
    sums : (a b c d e : ℕ) → a ≤ c → b ≤ d → e ≡ c + d → a + b ≤ e
    sums a b c d e f g i = omega (arith, f, g, i)

-- and where they have made as many, each has made all of its own
full_writers : (n writers calls : ℕ) (h : History) → n ≤ writers → AreCounted n writers calls h
    → total n h ≡ n * calls → (w : ℕ) → 0 < w → w ≤ n → length (events_of w h) ≡ calls
full_writers zero writers calls h low each all w some here = absurd (omega (arith, some, here))
full_writers (suc n) writers calls h low each all w some here =
    let fewer_each = fewer (suc n) n writers calls h (omega arith) each in
    let before : total n h ≤ n * calls = few_writers n writers calls h (omega (arith, low))
    fewer_each in
    let last : length (events_of (suc n) h) ≤ calls = (each (suc n) (omega arith) (omega arith)).few
    low in
    let both = parts (total n h) (length (events_of (suc n) h)) (n * calls) calls (suc n * calls)
    before last (suc-mul n calls) all in dite (ℕ_discrete w (suc n))
    (λ (is : w ≡ suc n). ap (λ (v : ℕ). length (events_of v h)) is ∙ both.1)
    (λ (other : w ≢ suc n). full_writers n writers calls h (omega (arith, low)) fewer_each both.0 w
    some (omega (arith, here, other)))
  where
    parts : (a b c d e : ℕ) → a ≤ c → b ≤ d → e ≡ c + d → a + b ≡ e → (a ≡ c) × (b ≡ d)
    parts a b c d e f g i j = (omega (arith, f, g, i, j), omega (arith, f, g, i, j))

-- the readers have made no event
total_writers : (n writers calls : ℕ) (h : History) → writers ≤ n → AreCounted n writers calls h
    → total n h ≡ total writers h
total_writers zero writers calls h low each = let is : 0 ≡ writers = omega (arith, low) in
    ap (λ (m : ℕ). total m h) is
total_writers (suc n) writers calls h low each = dite (ℕ_discrete (suc n) writers)
    (λ (is : suc n ≡ writers). ap (λ (m : ℕ). total m h) is)
    (λ (other : suc n ≢ writers).
    let before : total n h ≡ total writers h =
    total_writers n writers calls h (omega (arith, low, other))
    (fewer (suc n) n writers calls h (omega arith) each) in
    let here : length (events_of (suc n) h) ≡ 0 = (each (suc n) (omega arith) (omega arith)).none
    (omega (arith, low, other)) in
    sums (total n h) (length (events_of (suc n) h)) (total writers h) before here)
  where
    sums : (a b c : ℕ) → a ≡ c → b ≡ 0 → a + b ≡ c
    sums a b c f g = omega (arith, f, g)

-- a history of readers and writers has no more events than the writers have calls
pub few_events : (readers writers calls : ℕ) (h : History)
    → AllByRecursion (IsOfFirst (readers + writers)) h → AreCounted (readers + writers) writers
    calls h → length h ≤ writers * calls
few_events readers writers calls h range each =
    let counts : length h ≡ total writers h = count (readers + writers) h range ∙ total_writers
    (readers + writers) writers calls h (omega arith) each in
    let few : total writers h ≤ writers * calls = few_writers writers writers calls h (omega arith)
    (fewer (readers + writers) writers writers calls h (omega arith) each) in
    omega (arith, counts, few)

-- and where it has as many, each writer has made all of its calls
pub full_events : (readers writers calls : ℕ) (h : History)
    → AllByRecursion (IsOfFirst (readers + writers)) h → AreCounted (readers + writers) writers
    calls h → length h ≡ writers * calls →
    (w : ℕ) → 0 < w → w ≤ writers → length (events_of w h) ≡ calls
full_events readers writers calls h range each all =
    let counts : length h ≡ total writers h = count (readers + writers) h range ∙ total_writers
    (readers + writers) writers calls h (omega arith) each in
    full_writers writers writers calls h (omega arith)
    (fewer (readers + writers) writers writers calls h (omega arith) each) (sym counts ∙ all)

-- where each writer has made all of its calls, there are as many events as calls
whole_writers : (n calls : ℕ) (h : History)
    → ((w : ℕ) → 0 < w → w ≤ n → length (events_of w h) ≡ calls) → total n h ≡ n * calls
whole_writers zero calls h each = sym (zero-mul calls)
whole_writers (suc n) calls h each =
    let before : total n h ≡ n * calls =
    whole_writers n calls h (λ w some low. each w some (omega (arith, low))) in
    sums (total n h) (length (events_of (suc n) h)) (n * calls) calls (suc n * calls) before
    (each (suc n) (omega arith) (omega arith)) (suc-mul n calls)
  where
    sums : (a b c d e : ℕ) → a ≡ c → b ≡ d → e ≡ c + d → a + b ≡ e
    sums a b c d e f g i = omega (arith, f, g, i)

pub all_events : (readers writers calls : ℕ) (h : History)
    → AllByRecursion (IsOfFirst (readers + writers)) h → AreCounted (readers + writers) writers
    calls h → ((w : ℕ) → 0 < w → w ≤ writers → length (events_of w h) ≡ calls)
    → length h ≡ writers * calls
all_events readers writers calls h range each whole = count (readers + writers) h range
    ∙ total_writers (readers + writers) writers calls h (omega arith) each
    ∙ whole_writers writers calls h whole
