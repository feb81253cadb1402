-- The map that all calls of the writers leave, in whichever order they came.
use Rattle.mst_load.proofs.Names.{◌≡◌, ◌≢◌, ℕ, zero, suc, ◌+◌, ◌-◌, ◌*◌, ◌<◌, ◌≤◌, List, [], ◌∷◌, ◌++◌, length, get_or, Option, Some, None, refl, sym, ap, ◌∙◌, subst, arith, false, true, Bool, AllByRecursion, append-nil, dite, ℕ_discrete, alls-append, IsAscending-after, events_of-append, One, Change, Put, Remove, Migrate, Batch, History, after, after_from, changed, events_of, Pair, map_get, Known, new_pass, event_of, calls_of, all_calls, HasSettled}
use Rattle.std.specs.Str.{bytes_eq}
use Rattle.std.proofs.lemmas.Bool.Decides.{not_from_Decides}
use Rattle.std.proofs.lemmas.Slice.Eq.{bytes_eq-Decides}
use Rattle.mst_key.proofs.Batches.{map_get-batched}
use Rattle.mst_key.proofs.HistoryLaws.{map_get-changed_other}
use Rattle.mst_key.proofs.KeyOrder.{by_same}
use Rattle.mst_key.proofs.MapLaws.{map_get-put_same, map_get-put_other, map_get-remove_same, map_get-remove_other, map_determined}
use Rattle.mst_key.specs.History.{value_after}
use Rattle.mst_node.specs.Text as text
use Rattle.mst_load.specs.Calls.{map_left}
use Rattle.mst_load.proofs.Counting.{first_of, IsOwn, IsOfFirst, Counted, AreCounted, by_all, call_own, counted, kept_event, left_event, few_events, full_events}
use Rattle.mst_load.proofs.Kept.{each_of, pass_at}

-- ---- a look-up sees the events of one pass

same_change : (c : Change) (m n : List Pair) (k : List ℕ) → map_get m k ≡ map_get n k
    → map_get (changed m c) k ≡ map_get (changed n c) k
same_change (Put q v) m n k same =
    by_same {G = map_get (changed m (Put q v)) k ≡ map_get (changed n (Put q v)) k} k q
    (λ is. ap (map_get (changed m (Put q v))) is ∙ map_get-put_same m q v
    ∙ sym (map_get-put_same n q v) ∙ ap (map_get (changed n (Put q v))) (sym is))
    (λ other. map_get-put_other m q v k other ∙ same ∙ sym (map_get-put_other n q v k other))
same_change (Remove q) m n k same =
    by_same {G = map_get (changed m (Remove q)) k ≡ map_get (changed n (Remove q)) k} k q
    (λ is. ap (map_get (changed m (Remove q))) is ∙ map_get-remove_same m q
    ∙ sym (map_get-remove_same n q) ∙ ap (map_get (changed n (Remove q))) (sym is))
    (λ other. map_get-remove_other m q k other ∙ same ∙ sym (map_get-remove_other n q k other))
same_change (Migrate to) m n k same = same
same_change (Batch es) m n k same =
    map_get-batched m es k ∙ ap (λ (o : Option (List ℕ)). value_after es k o) same
    ∙ sym (map_get-batched n es k)

seen_by_own : (k : List ℕ) (h : History) (m n : List Pair) → AllByRecursion IsOwn h
    → map_get m k ≡ map_get n k → map_get (after_from m h) k ≡ map_get
    (after_from n (events_of (first_of k) h)) k
seen_by_own k [] m n own same = same
seen_by_own k (e ∷ h) m n own same = dite (ℕ_discrete e.pass (first_of k))
    (λ (is : e.pass ≡ first_of k). seen_by_own k h (changed m e.change) (changed n e.change) own.1
    (same_change e.change m n k same)
    ∙ ap (λ (g : History). map_get (after_from n g) k) (sym (kept_event (first_of k) e h is)))
    (λ (other : e.pass ≢ first_of k). seen_by_own k h (changed m e.change) n own.1
    (map_get-changed_other m e.change k (λ about. other (sym (own.0 k about))) ∙ same)
    ∙ ap (λ (g : History). map_get (after_from n g) k) (sym (left_event (first_of k) e h other)))

-- so two histories whose passes' events look alike leave one map
one_map : (g h : History) → AllByRecursion IsOwn g → AllByRecursion IsOwn h
    → ((w : ℕ) (k : List ℕ) → map_get (after (events_of w g)) k ≡ map_get (after (events_of w h)) k)
    → after g ≡ after h
one_map g h own other same = map_determined (after g) (after h) (IsAscending-after g)
    (IsAscending-after h)
    (λ k. seen_by_own k g [] [] own refl ∙ same (first_of k) k
    ∙ sym (seen_by_own k h [] [] other refl))

-- ---- the calls one writer after another

calls_own : (w n : ℕ) → AllByRecursion IsOwn (calls_of w n)
calls_own w zero = tt
calls_own w (suc n) = alls-append IsOwn (calls_of w n) (event_of w (suc n) ∷ []) (calls_own w n)
    (call_own w (suc n), tt)

all_own : (w n : ℕ) → AllByRecursion IsOwn (all_calls w n)
all_own zero n = tt
all_own (suc w) n = alls-append IsOwn (all_calls w n) (calls_of (suc w) n) (all_own w n)
    (calls_own (suc w) n)

its_calls : (w n : ℕ) → events_of w (calls_of w n) ≡ calls_of w n
its_calls w zero = refl
its_calls w (suc n) = events_of-append w (calls_of w n) (event_of w (suc n) ∷ [])
    ∙ (λ i. its_calls w n i ++ kept_event w (event_of w (suc n)) [] refl i)

other_calls : (v w n : ℕ) → w ≢ v → events_of v (calls_of w n) ≡ []
other_calls v w zero other = refl
other_calls v w (suc n) other = events_of-append v (calls_of w n) (event_of w (suc n) ∷ [])
    ∙ (λ i. other_calls v w n other i ++ left_event v (event_of w (suc n)) [] other i)

none_above : (v w n : ℕ) → w < v → events_of v (all_calls w n) ≡ []
none_above v zero n above = refl
none_above v (suc w) n above =
    events_of-append v (all_calls w n) (calls_of (suc w) n)
    ∙ (λ i. none_above v w n (omega (arith, above)) i ++ other_calls v (suc w) n
    (λ is. omega (arith, above, is)) i)

none_of_zero : (w n : ℕ) → events_of 0 (all_calls w n) ≡ []
none_of_zero zero n = refl
none_of_zero (suc w) n = events_of-append 0 (all_calls w n) (calls_of (suc w) n)
    ∙ (λ i. none_of_zero w n i ++ other_calls 0 (suc w) n (λ is. omega (arith, is)) i)

all_of_one : (v w n : ℕ) → 0 < v → v ≤ w → events_of v (all_calls w n) ≡ calls_of v n
all_of_one v zero n some low = absurd (omega (arith, some, low))
all_of_one v (suc w) n some low = events_of-append v (all_calls w n) (calls_of (suc w) n)
    ∙ dite (ℕ_discrete v (suc w))
    (λ (is : v ≡ suc w).
    (λ i. none_above v w n (omega (arith, is)) i ++ events_of v (calls_of (sym is i) n))
    ∙ its_calls v n)
    (λ (other : v ≢ suc w). (λ i. all_of_one v w n some (omega (arith, low, other)) i ++ other_calls
    v (suc w) n (λ is. other (sym is)) i) ∙ append-nil (calls_of v n))

-- ---- the history of a report

no_events : (h : History) → length h ≡ 0 → h ≡ []
no_events [] is = refl
no_events (e ∷ h) is = absurd (omega (arith, is))

-- no event is of a pass that there is not
none_outside : (n w : ℕ) (h : History) → AllByRecursion (IsOfFirst n) h
    → (IsOfFirst n (record { pass = w; change = Migrate One }) → ⊥) → events_of w h ≡ []
none_outside n w [] each out = refl
none_outside n w (e ∷ h) each out =
    left_event w e h (λ is. out (subst (λ (v : ℕ). (0 < v) × (v ≤ n)) is each.0))
    ∙ none_outside n w h each.1 out

-- equal look-ups, where they cannot differ
look_stable : (a b : Option (List ℕ)) → ((a ≡ b → ⊥) → ⊥) → a ≡ b
look_stable None None h = refl
look_stable None (Some y) h = absurd (h (λ e. cc))
look_stable (Some x) None h = absurd (h (λ e. cc))
look_stable (Some x) (Some y) h = go (bytes_eq x y) refl
  where
    go : (t : Bool) → bytes_eq x y ≡ t → Some x ≡ Some y
    go true is = ap Some ((bytes_eq-Decides x y).0 is)
    go false is = absurd (h (λ e. not_from_Decides (bytes_eq x y) (bytes_eq-Decides x y) is (cc)))

module _ (readers writers calls events : ℕ) (root : List ℕ)
    (s : HasSettled (readers + writers) writers calls events root) where
  abbrev pub log : History
  log = s.settled.log

  abbrev pub none : Known
  none = new_pass s.all.store 0

  pub in_range : AllByRecursion (IsOfFirst (readers + writers)) log
  in_range = by_all (IsOfFirst (readers + writers)) log (λ i e below.
      let at = pass_at s.passes none (get_or log i e).pass (s.settled.alone i e below) in
      let is : (get_or s.passes at.0 none).number ≡ (get_or log i e).pass = at.2 in
      let number : (get_or s.passes at.0 none).number ≡ at.0 + 1 = s.numbered at.0 none at.1 in
      let low : at.0 < length s.passes = at.1 in
      let size : length s.passes ≡ readers + writers = s.count_is in
      (omega (arith, is, number), omega (arith, is, number, low, size)))

  pub each_counted : AreCounted (readers + writers) writers calls log
  each_counted w some low =
      let size : length s.passes ≡ readers + writers = s.count_is in
      let there : w - 1 < length s.passes = omega (arith, some, low, size) in
      let number : (get_or s.passes (w - 1) none).number ≡ w - 1 + 1 =
      s.numbered (w - 1) none there in
      let is : (get_or s.passes (w - 1) none).number ≡ w = omega (arith, number, some) in
      subst (λ (v : ℕ). Counted writers calls v (events_of v log)) is
      (subst (Counted writers calls (get_or s.passes (w - 1) none).number)
      (sym (s.settled.own (w - 1) none there))
      (counted writers calls (get_or s.passes (w - 1) none) (s.worked (w - 1) none there)))

  each_own : AllByRecursion IsOwn log
  each_own = each_of IsOwn log (λ i e below.
      let at = pass_at s.passes none (get_or log i e).pass (s.settled.alone i e below) in
      let number : (get_or s.passes at.0 none).number ≡ at.0 + 1 = s.numbered at.0 none at.1 in
      let size : length s.passes ≡ readers + writers = s.count_is in
      let low : at.0 < length s.passes = at.1 in
      let is : (get_or s.passes at.0 none).number ≡ (get_or log i e).pass = at.2 in
      (each_counted (get_or log i e).pass (omega (arith, is, number))
      (omega (arith, is, number, low, size))).own)

  pub few_puts : events ≤ writers * calls
  few_puts =
      let is : events ≡ length log = s.settled.events_is in
      let few : length log ≤ writers * calls = few_events readers writers calls log in_range
      each_counted in
      omega (arith, is, few)

  looks_alike : events ≡ writers * calls → (w : ℕ) (k : List ℕ) → map_get (after (events_of w log))
      k ≡ map_get (after (events_of w (all_calls writers calls))) k
  looks_alike all w k = dite (ℕ_discrete w 0)
      (λ (zero_is : w ≡ 0). nothing
      (none_outside (readers + writers) w log in_range (λ range. let some : 0 < w =
      range.0 in omega (arith, zero_is, some)))
      (ap (λ (v : ℕ). events_of v (all_calls writers calls)) zero_is ∙ none_of_zero writers calls))
      (λ (other : w ≢ 0). dite (ℕ_discrete (w - writers) 0)
      (λ (low_is : w - writers ≡ 0). written (omega (arith, other)) (omega (arith, low_is)))
      (λ (high : w - writers ≢ 0). let above : writers < w = omega (arith, high) in
      dite (ℕ_discrete (w - (readers + writers)) 0)
      (λ (inside : w - (readers + writers) ≡ 0). nothing
      (no_events (events_of w log)
      ((each_counted w (omega (arith, other)) (omega (arith, inside))).none above))
      (none_above w writers calls above))
      (λ (outside : w - (readers + writers) ≢ 0). nothing
      (none_outside (readers + writers) w log in_range
      (λ range. let low : w ≤ readers + writers = range.1 in omega (arith, outside, low)))
      (none_above w writers calls above))))
    where
      nothing : events_of w log ≡ [] → events_of w (all_calls writers calls) ≡ []
          → map_get (after (events_of w log)) k ≡ map_get
          (after (events_of w (all_calls writers calls))) k
      nothing a b = ap (λ (g : History). map_get (after g) k) (a ∙ sym b)

      written : 0 < w → w ≤ writers → map_get (after (events_of w log)) k ≡ map_get
          (after (events_of w (all_calls writers calls))) k
      written some low =
          let long : length (events_of w log) ≡ calls =
          full_events readers writers calls log in_range each_counted
          (sym s.settled.events_is ∙ all) w some low in
          let known = each_counted w some (omega (arith, low)) in
          look_stable (map_get (after (events_of w log)) k) (map_get (after (calls_of w calls)) k)
          (λ no. known.all low long (λ is. no (ap (λ (g : History). map_get (after g) k) is)))
          ∙ ap (λ (g : History). map_get (after g) k) (sym (all_of_one w writers calls some low))

  pub all_puts : (built : List ℕ) → built ≡ text.root One (map_left writers calls)
      → events ≡ writers * calls → root ≡ built
  unfolding map_left
  all_puts built is all = s.settled.root_is ∙ ap (λ (m : List Pair). text.root One m)
      (one_map log (all_calls writers calls) each_own (all_own writers calls) (looks_alike all))
      ∙ sym is
