-- A put, whose version is told to another pass, which looks and gets: it reads what was put.
use Rattle.mst_theorem.proofs.Names.{◌≡◌, ℕ, ◌<◌, ◌≤◌, ◌==◌, if◌then◌else◌, Bool, true, List, [], ◌∷◌, length, map, inl, refl, sym, ap, ◌∙◌, subst, arith, eq-eqb, ne_eqb, Option, Some, Result, Ok, Err, IfOk, All-cons, All-nil, dite, ℕ_discrete, Put, map_get, events_of, IsPrefix, had, map_get-put_same, IsOfPasses, WriteFault, StoreId, Known, Looks, Answers, Wrote, made_by, new_pass, Met, Call, IsHonest, Leads, calls_of, IsRun, IsHistoryOf, IsOneOrder, IsServed, NeverFalls, left_by, wrote, read, got, has_seen}
use Rattle.std.proofs.Common.{◌↔◌, IfSome}
use Rattle.mst_theorem.proofs.Calls.{by_contract}
use Rattle.mst_theorem.proofs.Chains.{IsOwn, own_new, own_goes, shorter}
use Rattle.mst_theorem.proofs.Filters.{take_in, leave_out}
use Rattle.mst_theorem.proofs.Whole.{one_order, order_is_run}

-- the put was not refused, and the number is that of its version
module _ (store : StoreId) (p q r p' r' : Known) (k v : List ℕ) (old : Option (List ℕ)) (n : ℕ)
    (seen : Bool) (found : Option (List ℕ)) (two : store.passes ≡ 2)
    (put_is : Wrote (made_by (new_pass store 1) (Put k v)) (new_pass store 1) (had old) p)
    (told : n ≡ length p.seen) (looks : Looks (new_pass store 2) q)
    (exact : (seen ≡ true) ↔ (n ≤ length q.seen)) (yes : seen ≡ true)
    (answers : Answers (λ _ m. map_get m k) q found r) (met : Met p r p' r') where
  abbrev first : Call
  first = record { operation = wrote (Put k v) (had old); old = new_pass store 1; new = p }

  abbrev second : Call
  second = record { operation = read (has_seen n seen); old = new_pass store 2; new = q }

  abbrev third : Call
  third = record { operation = read (got k found); old = q; new = r }

  abbrev run : List Call
  run = first ∷ second ∷ third ∷ []

  abbrev now : ℕ → Known
  now m = if m == 1 then p else r

  put : IsHonest (wrote (Put k v) (had old)) (new_pass store 1) p
  put = by_contract (wrote (Put k v) (had old)) (new_pass store 1) p (inl put_is)

  look : IsHonest (read (has_seen n seen)) (new_pass store 2) q
  look = by_contract (read (has_seen n seen)) (new_pass store 2) q (looks, exact)

  get : IsHonest (read (got k found)) q r
  get = by_contract (read (got k found)) q r (inl answers)

  one : IsOwn store 1 p
  one = own_goes store 1 (wrote (Put k v) (had old)) (new_pass store 1) p put (own_new store 1)

  other : IsOwn store 2 q
  other = own_goes store 2 (read (has_seen n seen)) (new_pass store 2) q look (own_new store 2)

  then_other : IsOwn store 2 r
  then_other = own_goes store 2 (read (got k found)) q r get other

  -- each pass is the first or the second
  each : (P : ℕ → Type 0) → P 1 → P 2 → (m : ℕ) → 0 < m → m ≤ store.passes → P m
  each P a b m low high = dite (ℕ_discrete m 1) (λ is. subst P (sym is) a)
      (λ not. subst P (let is : 2 ≡ m = omega (arith, low, high, two, not) in is) b)

  alone : calls_of 1 run ≡ first ∷ []
  alone = ap (λ (l : List Call). first ∷ l)
      (leave_out (λ (c : Call). c.old.number == 1) third []
      (ne_eqb q.number 1 (let is = other.number_is in λ e. omega (arith, is, e))))

  both : calls_of 2 run ≡ second ∷ third ∷ []
  both = ap (λ (l : List Call). second ∷ l)
      (take_in (λ (c : Call). c.old.number == 2) third [] (eq-eqb q.number 2 other.number_is))

  abbrev IsIn : Call → Type 0
  IsIn c = (0 < c.old.number) × (c.old.number ≤ store.passes)

  runs : IsRun store run now
  runs = record {
    of_store = let is = other.number_is in
        All-cons IsIn first (second ∷ third ∷ []) (omega arith, omega (arith, two))
        (All-cons IsIn second (third ∷ []) (omega arith, omega (arith, two))
        (All-cons IsIn third [] (omega (arith, is), omega (arith, is, two)) (All-nil IsIn)));
    leads = each (λ m. Leads (new_pass store m) (calls_of m run) (now m))
        (subst (λ (l : List Call). Leads (new_pass store 1) l p) (sym alone) (refl, put, refl))
        (subst (λ (l : List Call). Leads (new_pass store 2) l r) (sym both)
        (refl, look, (refl, get, refl)));
  }

  history : IsHistoryOf store now met.log
  history = record {
    later = each (λ m. IsPrefix (now m).seen met.log) met.later.0 met.later.1;
    own = each (λ m. events_of m met.log ≡ (now m).mine)
        (ap (λ (m : ℕ). events_of m met.log) (sym one.number_is) ∙ met.own.0)
        (ap (λ (m : ℕ). events_of m met.log) (sym then_other.number_is) ∙ met.own.1);
    alone = subst (λ (s : StoreId). IsOfPasses s.passes met.log) one.store_is met.alone;
  }

  whole : (order : List Call) × IsOneOrder store run met.log order
  whole = one_order store run now met.log runs history

  -- each has seen as far as those before it, so they stand in the order as they were made
  rises : NeverFalls run
  rises = let enough : n ≤ length q.seen = exact.0 yes in
      let further : length q.seen ≤ length r.seen = shorter q.seen r.seen answers.looks.later in (
        (omega (arith, told, enough), (omega (arith, told, enough, further), tt)),
        ((omega (arith, further), tt), (tt, tt)),
      )

  reads_it : found ≡ Some v
  reads_it = let served : IsServed (left_by store.format []) (map (λ (c : Call). c.operation) run)
      (left_by store.format met.log) =
      subst (λ (l : List Call). IsServed (left_by store.format [])
      (map (λ (c : Call). c.operation) l) (left_by store.format met.log))
      (order_is_run store run whole.0 met.log whole.1 rises) whole.1.served in
      served.1.1.0 ∙ map_get-put_same [] k v

pub told_read : (store : StoreId) (p q r p' r' : Known) (k v : List ℕ)
    (put : Result (Option (List ℕ)) WriteFault) (made : Option ℕ) (n : ℕ) (seen : Bool)
    (found : Option (List ℕ)) → store.passes ≡ 2
    → IfOk put (λ old. Wrote (made_by (new_pass store 1) (Put k v)) (new_pass store 1) (had old) p)
    → made ≡ p.made → IfSome made (λ m. n ≡ m) → Looks (new_pass store 2) q
    → ((seen ≡ true) ↔ (n ≤ length q.seen)) → Answers (λ _ m. map_get m k) q found r → Met p r p' r'
    → IfOk put (λ _. seen ≡ true → found ≡ Some v)
told_read store p q r p' r' k v (Ok old) made n seen found two wrote_it made_is told looks exact
    answers met = λ yes.
    reads_it store p q r p' r' k v old n seen found two wrote_it
    (subst (λ (m : Option ℕ). IfSome m (λ l. n ≡ l)) (made_is ∙ wrote_it.made) told) looks exact
    yes answers met
told_read store p q r p' r' k v (Err fault) made n seen found two wrote_it made_is told looks exact
    answers met = tt
