-- A put and a get of two passes that then meet.
use Rattle.mst_theorem.proofs.Names.{◌≡◌, ℕ, ◌<◌, ◌≤◌, ◌==◌, if◌then◌else◌, List, [], ◌∷◌, inl, refl, sym, ap, ◌∙◌, subst, arith, Option, Result, Ok, Err, IfOk, IfErr, ◌⊎◌, ⊎_elim, None, Some, map, All-cons, All-nil, dite, ℕ_discrete, Put, map_get, History, events_of, IsPrefix, had, IsOfPasses, WriteFault, StoreId, Known, Answers, Wrote, Refuses, made_by, new_pass, Met, Call, IsHonest, Leads, calls_of, IsRun, IsHistoryOf, IsOneOrder, IsServed, left_by, wrote, read, got, refused, put_was}
use Rattle.mst_theorem.specs.Shown.{HaveOneOrder}
use Rattle.mst_theorem.proofs.Calls.{by_contract}
use Rattle.mst_theorem.proofs.Chains.{IsOwn, own_new, own_goes}
use Rattle.mst_theorem.proofs.TwoOrders.{two_orders, finds_put, finds_none}
use Rattle.mst_theorem.proofs.Whole.{one_order}

put_honest : (p q : Known) (k v : List ℕ) (r : Result (Option (List ℕ)) WriteFault)
    → IfOk r (λ old. Wrote (made_by p (Put k v)) p (had old) q)
    → IfErr r (λ fault. Refuses fault (Put k v) p q) → IsHonest (put_was k v r) p q
put_honest p q k v (Ok old) ok err = by_contract (wrote (Put k v) (had old)) p q (inl ok)
put_honest p q k v (Err fault) ok err = by_contract (read (refused (Put k v))) p q
    (inl (fault, err))

pub two_calls : (store : StoreId) (p q p' q' : Known) (k v : List ℕ)
    (r : Result (Option (List ℕ)) WriteFault) (found : Option (List ℕ)) → store.passes ≡ 2
    → IfOk r (λ old. Wrote (made_by (new_pass store 1) (Put k v)) (new_pass store 1) (had old) p)
    → IfErr r (λ fault. Refuses fault (Put k v) (new_pass store 1) p)
    → Answers (λ _ m. map_get m k) (new_pass store 2) found q → Met p q p' q'
    → HaveOneOrder store (put_was k v r ∷ read (got k found) ∷ []) p'.seen
    × ((found ≡ None) ⊎ (found ≡ Some v))
two_calls store p q p' q' k v r found two ok err answers met = (
  record {
    run = run;
    asked = refl;
    order = whole.0;
    one = subst (λ (l : History). IsOneOrder store run l whole.0)
        (sym (ap (λ (x : Known). x.seen) met.now.0)) whole.1;
  },
  found_is,
)
  where
    first : Call
    first = record { operation = put_was k v r; old = new_pass store 1; new = p }

    second : Call
    second = record { operation = read (got k found); old = new_pass store 2; new = q }

    run : List Call
    run = first ∷ second ∷ []

    now : ℕ → Known
    now n = if n == 1 then p else q

    put : IsHonest (put_was k v r) (new_pass store 1) p
    put = put_honest (new_pass store 1) p k v r ok err

    get : IsHonest (read (got k found)) (new_pass store 2) q
    get = by_contract (read (got k found)) (new_pass store 2) q (inl answers)

    one : IsOwn store 1 p
    one = own_goes store 1 (put_was k v r) (new_pass store 1) p
        put (own_new store 1)

    other : IsOwn store 2 q
    other = own_goes store 2 (read (got k found)) (new_pass store 2) q
        get (own_new store 2)

    -- each pass is the first or the second
    each : (P : ℕ → Type 0) → P 1 → P 2 → (n : ℕ) → 0 < n → n ≤ store.passes → P n
    each P a b n low high = dite (ℕ_discrete n 1) (λ is. subst P (sym is) a)
        (λ not. subst P (let is : 2 ≡ n = omega (arith, low, high, two, not) in is) b)

    runs : IsRun store run now
    runs = record {
      of_store = All-cons (λ (c : Call). (0 < c.old.number) × (c.old.number ≤ store.passes))
          first (second ∷ []) (omega arith, omega (arith, two))
          (All-cons (λ (c : Call). (0 < c.old.number) × (c.old.number ≤ store.passes)) second []
          (omega arith, omega (arith, two))
          (All-nil (λ (c : Call). (0 < c.old.number) × (c.old.number ≤ store.passes))));
      leads = each (λ n. Leads (new_pass store n) (calls_of n run) (now n)) (refl, put, refl)
          (refl, get, refl);
    }

    history : IsHistoryOf store now met.log
    history = record {
      later = each (λ n. IsPrefix (now n).seen met.log) met.later.0 met.later.1;
      own = each (λ n. events_of n met.log ≡ (now n).mine)
          (ap (λ (n : ℕ). events_of n met.log) (sym one.number_is) ∙ met.own.0)
          (ap (λ (n : ℕ). events_of n met.log) (sym other.number_is) ∙ met.own.1);
      alone = subst (λ (s : StoreId). IsOfPasses s.passes met.log) one.store_is met.alone;
    }

    whole : (order : List Call) × IsOneOrder store run met.log order
    whole = one_order store run now met.log runs history

    -- in either order
    found_is : (found ≡ None) ⊎ (found ≡ Some v)
    found_is = ⊎_elim
        (λ (e : whole.0 ≡ first ∷ second ∷ []). finds_put store.format k v r found
        (left_by store.format met.log)
        (subst (λ (l : List Call). IsServed (left_by store.format [])
        (map (λ (c : Call). c.operation) l) (left_by store.format met.log)) e whole.1.served))
        (λ (e : whole.0 ≡ second ∷ first ∷ []). finds_none store.format k v r found
        (left_by store.format met.log)
        (subst (λ (l : List Call). IsServed (left_by store.format [])
        (map (λ (c : Call). c.operation) l) (left_by store.format met.log)) e whole.1.served))
        (two_orders first second whole.0 (λ e. omega (arith, e)) whole.1.each)
