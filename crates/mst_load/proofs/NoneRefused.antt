-- No put of a load is refused: its few keys never need as many rows as the store has, however many
-- versions the passes pin, and there are fewer events than versions.
use Rattle.mst_load.proofs.Names.{◌≡◌, ◌≢◌, inl, inr, ℕ, zero, suc, ◌+◌, ◌-◌, ◌*◌, ◌%◌, ◌<◌, ◌≤◌, Bool, true, false, List, [], ◌∷◌, ◌++◌, length, length-append, get_or, refl, sym, ap, ◌∙◌, subst, arith, true≢false, nat_tests, not_there, dite, ℕ_discrete, alls-append, after-append, IsPrefix-chain, Format, Event, History, after, changed, format_after, events_of, IsPrefix, Pair, ChangeFault, VersionsSpent, NoRoom, StoreId, Known, IsSamePass, new_pass, RefusesAfter, change_of, event_of, HasSettled, HasPut, MadePuts, HasWorked, HasAllCalls}
use Rattle.std.proofs.lemmas.Nat.{mul-le}
use Rattle.mst_key.proofs.Alls.{alls-front}
use Rattle.mst_key.specs.History.{changed_format}
use Rattle.mst_node.specs.Tree.{tree}
use Rattle.mst_versions.specs.Writes.{LacksRoomBeside}
use Rattle.mst_load.proofs.Counting.{by_all, to_all, nat_stable, all_events}
use Rattle.mst_load.proofs.FewKeys.{is_call, AreCalls, few_pairs, each_few}
use Rattle.mst_versions.proofs.FewRows.{few_new}
use Rattle.mst_load.proofs.FewRows.{held_few}
use Rattle.mst_load.proofs.Kept.{each_of, pass_at}
use Rattle.mst_load.proofs.Merged.{log, none, in_range, each_counted, few_puts}
use Rattle.mst_load.proofs.Working.{put_same}

-- ---- one put

call_is : (w c : ℕ) → w < 9 → is_call (change_of w c) ≡ true
call_is w c low = let inside : c % 32 < 32 = omega arith in
    grind (arith, nat_tests, low, inside)

-- what is kept and the change together take fewer rows than there are
room_always : (first : Format) (passes : ℕ) (h : History) (found : List ℕ) (e : Event)
    → AreCalls h → is_call e.change ≡ true → passes ≤ 32
    → LacksRoomBeside first 32768 passes h found e.change → ⊥
room_always first passes h found e calls call few lacks =
    let kept = held_few first h (length h ∷ found) (each_few h calls) in
    let new = few_new (tree (format_after first h) (after h))
    (changed_format (format_after first h) e.change) (changed (after h) e.change) in
    let pairs : length (changed (after h) e.change) ≤ 288 =
    subst (λ (m : List Pair). length m ≤ 288) (after-append h (e ∷ []))
    (few_pairs (h ++ e ∷ [])
    (alls-append (λ (x : Event). is_call x.change ≡ true) h (e ∷ []) calls (call, tt))) in
    let fewer : length found < passes = lacks.are.few in
    let lack = lacks.lacks in
    omega (arith, kept, new, pairs, fewer, few, lack)

never_refused : (fault : ChangeFault) (w c : ℕ) (p q : Known) (h : History) → w < 9 → AreCalls h
    → length h ≤ 800000 → IsPrefix q.seen h → p.store.rows ≡ 32768 → p.store.passes ≤ 32
    → RefusesAfter fault (change_of w c) p q → ⊥
never_refused VersionsSpent w c p q h low calls short begins rows few r =
    let spent : length q.seen ≡ 9223372036854775807 = r.refused.1 in
    let long : length h ≡ length q.seen + length begins.0 =
    ap (λ (g : History). length g) begins.1 ∙ length-append q.seen begins.0 in
    omega (arith, spent, long, short)
never_refused NoRoom w c p q h low calls short begins rows few r =
    room_always p.store.format p.store.passes q.seen q.found (event_of w c)
    (alls-front (λ (x : Event). is_call x.change ≡ true) q.seen begins.0
    (subst AreCalls begins.1 calls)) (call_is w c low) few
    (subst (λ (n : ℕ). LacksRoomBeside p.store.format n p.store.passes q.seen q.found
    (change_of w c))
    rows r.refused.4)

-- ---- all puts of a writer

puts_same : (n : ℕ) (p q : Known) → MadePuts n p q → IsSamePass p q
puts_same zero p q is = (ap (λ (r : Known). r.store) is, ap (λ (r : Known). r.number) is)
puts_same (suc n) p q (r, before, last) =
    let a = puts_same n p r before in let b = put_same (suc n) r q last in (b.0 ∙ a.0, b.1 ∙ a.1)

-- each of its events is a call
puts_calls : (n : ℕ) (p q : Known) → p.mine ≡ [] → p.number < 9 → MadePuts n p q
    → AreCalls q.mine
puts_calls zero p q start low is =
    subst AreCalls (sym (ap (λ (r : Known). r.mine) is ∙ start)) tt
puts_calls (suc n) p q start low (r, before, last) = more last (puts_calls n p r start low before)
  where
    more : HasPut (suc n) r q → AreCalls r.mine → AreCalls q.mine
    more (inl (answered, put)) calls =
        let number : r.number ≡ p.number = (puts_same n p r before).1 in
        subst AreCalls (sym put.wrote.mine)
        (alls-append (λ (x : Event). is_call x.change ≡ true) r.mine
        (event_of r.number (suc n) ∷ []) calls
        (call_is r.number (suc n) (omega (arith, number, low)), tt))
    more (inr (VersionsSpent, refused)) calls =
        subst AreCalls (sym refused.refused.0.mine) calls
    more (inr (NoRoom, refused)) calls = subst AreCalls (sym refused.refused.0.mine) calls

-- and each of its calls is an event
puts_all : (n : ℕ) (p q : Known) (h : History) → p.number < 9 → AreCalls h → length h ≤ 800000
    → IsPrefix q.seen h → p.store.rows ≡ 32768 → p.store.passes ≤ 32 → MadePuts n p q
    → length q.mine ≡ length p.mine + n
puts_all zero p q h low calls short begins rows few is =
    let same : length q.mine ≡ length p.mine = ap (λ (r : Known). length r.mine) is in
    omega (arith, same)
puts_all (suc n) p q h low calls short begins rows few (r, before, last) =
    more last (λ early. puts_all n p r h low calls short early rows few before)
  where
    more : HasPut (suc n) r q → (IsPrefix r.seen h → length r.mine ≡ length p.mine + n)
        → length q.mine ≡ length p.mine + suc n
    more (inl (answered, put)) so_far =
        let e : Event = event_of r.number (suc n) in
        let earlier : IsPrefix r.seen q.seen =
        IsPrefix-chain r.seen put.wrote.log q.seen put.wrote.later (e ∷ [], put.wrote.seen) in
        let before_it = so_far (IsPrefix-chain r.seen q.seen h earlier begins) in
        let long : length q.mine ≡ length r.mine + 1 =
        ap (λ (g : History). length g) put.wrote.mine ∙ length-append r.mine (e ∷ []) in
        omega (arith, long, before_it)
    more (inr (fault, refused)) so_far =
        let same = puts_same n p r before in
        let number : r.number ≡ p.number = same.1 in
        absurd (never_refused fault r.number (suc n) r q h (omega (arith, number, low)) calls short
        begins (ap (λ (t : StoreId). t.rows) same.0 ∙ rows)
        (subst (λ (t : StoreId). t.passes ≤ 32) (sym same.0) few) refused)

-- so a pass that had none has as many as it made calls
puts_whole : (n : ℕ) (p q : Known) (h : History) → p.mine ≡ [] → p.number < 9 → AreCalls h
    → length h ≤ 800000 → IsPrefix q.seen h → p.store.rows ≡ 32768 → p.store.passes ≤ 32
    → MadePuts n p q → length q.mine ≡ n
puts_whole n p q h start low calls short begins rows few puts =
    let all = puts_all n p q h low calls short begins rows few puts in
    let nothing : length p.mine ≡ 0 = ap (λ (g : History). length g) start in
    omega (arith, all, nothing)

-- ---- the workers

true_stable : (b : Bool) → ((b ≡ true → ⊥) → ⊥) → b ≡ true
true_stable true h = refl
true_stable false h = absurd (h (λ e. true≢false (sym e)))

worked_calls : (writers calls : ℕ) (p : Known) → writers ≤ 8
    → HasWorked writers calls (new_pass p.store p.number) p 0 → AreCalls p.mine
worked_calls writers calls p low worked = dite (ℕ_discrete (p.number - writers) 0)
    (λ (below : p.number - writers ≡ 0). puts_calls calls (new_pass p.store p.number) p refl
    (omega (arith, below, low)) (worked.writes (omega (arith, below))).puts)
    (λ (above : p.number - writers ≢ 0). subst AreCalls
    (sym (worked.reads (omega (arith, above))).mine) tt)

known_calls : (writers calls : ℕ) (p : Known) → writers ≤ 8 → HasAllCalls writers calls p
    → AreCalls p.mine
known_calls writers calls p low worked = by_all (λ (x : Event). is_call x.change ≡ true) p.mine
    (λ i d below. true_stable (is_call (get_or p.mine i d).change)
    (λ no. not_there worked (λ w. no (to_all (λ (x : Event). is_call x.change ≡ true) p.mine
    (worked_calls writers calls p low w) i d below))))

-- ---- the history of a report

module _ (readers writers calls events : ℕ) (root : List ℕ)
    (s : HasSettled (readers + writers) writers calls events root)
    (few_readers : readers ≤ 24) (few_writers : writers ≤ 8) (few_calls : calls ≤ 100000) where
  abbrev h : History
  h = log readers writers calls events root s

  abbrev other : Known
  other = none readers writers calls events root s

  each_call : AreCalls h
  each_call = each_of (λ (x : Event). is_call x.change ≡ true) h (λ i e below.
      let at = pass_at s.passes other (get_or h i e).pass (s.settled.alone i e below) in
      subst (λ (n : ℕ). AreCalls (events_of n h)) at.2
      (subst AreCalls (sym (s.settled.own at.0 other at.1))
      (known_calls writers calls (get_or s.passes at.0 other) few_writers
      (s.worked at.0 other at.1))))

  short : length h ≤ 800000
  short =
      let is : events ≡ length h = s.settled.events_is in
      let few : events ≤ writers * calls = few_puts readers writers calls events root s in
      let most : writers * calls ≤ 8 * 100000 = mul-le writers calls 8 100000 few_writers few_calls
      in omega (arith, is, few, most)

  -- the store has no more passes than there are in the list
  few_passes : (k : ℕ) → k < length s.passes → (get_or s.passes k other).store.passes ≤ 32
  few_passes k below =
      let size : length s.passes ≡ readers + writers = s.count_is in
      subst (λ (t : StoreId). t.passes ≤ 32) (sym (s.all.of_one k other below))
      (dite (ℕ_discrete s.all.store.passes 0)
      (λ (no : s.all.store.passes ≡ 0). omega (arith, no))
      (λ (some : s.all.store.passes ≢ 0).
      let at = pass_at s.passes other s.all.store.passes
      (s.all.complete s.all.store.passes (omega (arith, some)) (omega arith)) in
      let number : (get_or s.passes at.0 other).number ≡ at.0 + 1 = s.numbered at.0 other at.1 in
      let is : (get_or s.passes at.0 other).number ≡ s.all.store.passes = at.2 in
      let inside : at.0 < length s.passes = at.1 in
      omega (arith, number, is, inside, size, few_readers, few_writers)))

  writer_whole : (w : ℕ) → 0 < w → w ≤ writers → length (events_of w h) ≡ calls
  writer_whole w some low =
      let size : length s.passes ≡ readers + writers = s.count_is in
      let there : w - 1 < length s.passes = omega (arith, some, low, size) in
      let p : Known = get_or s.passes (w - 1) other in
      let number : p.number ≡ w - 1 + 1 = s.numbered (w - 1) other there in
      let is : p.number ≡ w = omega (arith, number, some) in
      let made : length p.mine ≡ calls = nat_stable (length p.mine) calls
      (λ no. not_there (s.worked (w - 1) other there) (λ worked. no
      (puts_whole calls (new_pass p.store p.number) p h refl (omega (arith, is, low, few_writers))
      each_call short (s.settled.later (w - 1) other there) (s.rows (w - 1) other there)
      (few_passes (w - 1) there) (worked.writes (omega (arith, is, low))).puts))) in
      ap (λ (n : ℕ). length (events_of n h)) (sym is)
      ∙ ap (λ (g : History). length g) (s.settled.own (w - 1) other there) ∙ made

  pub all_made : events ≡ writers * calls
  all_made = s.settled.events_is ∙ all_events readers writers calls h
      (in_range readers writers calls events root s)
      (each_counted readers writers calls events root s) writer_whole
