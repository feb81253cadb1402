-- Calls of a worker, one after another.
use Rattle.mst_load.proofs.Names.{◌≡◌, inl, inr, ℕ, zero, suc, ◌+◌, ◌-◌, ◌<◌, ◌≤◌, List, [], ◌∷◌, length, length-append, refl, sym, ap, ◌∙◌, subst, arith, dite, ℕ_discrete, alls-append, History, KeepsFormat, IsMigration, Change, Put, Event, ChangeFault, VersionsSpent, NoRoom, StoreId, Known, IsSamePass, Looks, new_pass, RefusesAfter, key_of, value_of, change_of, event_of, HasPut, MadePuts, HasWritten, HasWorked, IsNewOf, IsWorkerOf}
use Rattle.std.proofs.Common.{◌⊎◌, Result, Ok, Err, IfOk, IfErr}
use Rattle.std.specs.Prelude.{Option}
use mathlib.Core.Logic.{∥∥₁_map}
use Rattle.mst_key.specs.History.{had}
use Rattle.mst_store.specs.Passes.{made_by}
use Rattle.mst_store.specs.Waiting.{WroteAfter}
use Rattle.mst_load.proofs.Kept.{each_keeps, all_keep}
use Rattle.mst_load.specs.declared.worker.Plan.{Plan}
use Rattle.mst_load.specs.Workers.{HasRead}

same_then : (p q r : Known) → IsSamePass p q → IsSamePass q r → IsSamePass p r
same_then p q r a b = (b.0 ∙ a.0, b.1 ∙ a.1)

-- a refused put leaves the pass's events as they were
pub refused_same : (fault : ChangeFault) (change : Change) (p q : Known) → RefusesAfter fault change
    p q → IsSamePass p q × (q.mine ≡ p.mine)
refused_same VersionsSpent change p q r = (r.refused.0.same, r.refused.0.mine)
refused_same NoRoom change p q r = (r.refused.0.same, r.refused.0.mine)

pub put_same : (call : ℕ) (p q : Known) → HasPut call p q → IsSamePass p q
put_same call p q (inl made) = made.1.wrote.same
put_same call p q (inr (fault, refused)) =
    (refused_same fault (change_of p.number call) p q refused).0

-- no call was made yet
pub not_written : (p : Known) → HasWritten 0 p p
not_written p = record { same = (refl, refl); puts = refl }

-- one call more
pub written_more : (n m number : ℕ) (key value : List ℕ) (first p q : Known)
    (r : Result (Option (List ℕ)) ChangeFault) →
    IfOk r (λ old. WroteAfter (made_by p (Put key value)) p (had old) q)
    → IfErr r (λ fault. RefusesAfter fault (Put key value) p q) →
    m ≡ n + 1 → number ≡ first.number → key ≡ key_of number m → value ≡ value_of m
    → HasWritten n first p → HasWritten m first q
written_more n m number key value first p q r ok err next number_is key_at value_is so_far =
    let same_number : number ≡ p.number = number_is ∙ sym so_far.same.1 in
    let key_is : key ≡ key_of p.number m = key_at ∙ ap (λ (w : ℕ). key_of w m) same_number in
    let change : Put key value ≡ change_of p.number m = (λ i. Put (key_is i) (value_is i)) in
    let count : m ≡ suc n = omega (arith, next) in
    let last : HasPut m p q = put_is change r ok err in record {
      same = same_then first p q so_far.same (put_same m p q last);
      puts = subst (λ (k : ℕ). MadePuts k first q) (sym count)
          (p, so_far.puts, subst (λ (k : ℕ). HasPut k p q) count last);
    }
  where
    put_is : Put key value ≡ change_of p.number m → (r : Result (Option (List ℕ)) ChangeFault) →
        IfOk r (λ old. WroteAfter (made_by p (Put key value)) p (had old) q)
        → IfErr r (λ fault. RefusesAfter fault (Put key value) p q) → HasPut m p q
    put_is change (Ok old) ok err =
        inl (had old, subst (λ (c : Change). WroteAfter (made_by p c) p (had old) q) change ok)
    put_is change (Err fault) ok err =
        inr (fault, subst (λ (c : Change). RefusesAfter fault c p q) change err)

-- nothing was read yet
pub not_read : (p : Known) → HasRead 0 p p
not_read p = record {
  same = (refl, refl);
  mine = refl;
  later = omega arith;
  asked =
      omega arith;
  missed = refl;
}

-- a look by one step is a read
pub looked : (p q : Known) → Looks p q → q.asked ≡ p.asked + 1 → HasRead 1 p q
looked p q looks once =
    let longer : length q.seen ≡ length p.seen + length looks.later.0 =
    ap (λ (h : History). length h) looks.later.1 ∙ length-append p.seen looks.later.0 in
    record {
      same = looks.same;
      mine = looks.mine;
      later = omega (arith, longer);
      asked =
          once;
      missed = looks.missed;
    }

-- one read more
pub read_more : (n m : ℕ) (p q r : Known) → m ≡ n + 1 → HasRead n p q → HasRead 1 q r
    → HasRead m p r
read_more n m p q r next a b =
    let first : length p.seen ≤ length q.seen = a.later in let second : length q.seen ≤ length
    r.seen = b.later in
    let before : q.asked ≡ p.asked + n = a.asked in let once : r.asked ≡ q.asked + 1 = b.asked in
    record {
      same = same_then p q r a.same b.same;
      mine = b.mine ∙ a.mine;
      later =
          omega (arith, first, second);
      asked = omega (arith, before, once, next);
      missed =
          b.missed ∙ a.missed;
    }

-- none of the calls of a writer is a migration
put_keeps : (call : ℕ) (p q : Known) → HasPut call p q → KeepsFormat p.mine → KeepsFormat q.mine
put_keeps call p q (inl made) keeps =
    subst KeepsFormat (sym made.1.wrote.mine)
    (alls-append (λ (e : Event). IsMigration e.change → ⊥) p.mine (event_of p.number call ∷ [])
    keeps ((λ none. none), tt))
put_keeps call p q (inr (fault, refused)) keeps =
    subst KeepsFormat (sym (refused_same fault (change_of p.number call) p q refused).1) keeps

puts_keep : (n : ℕ) (p q : Known) → MadePuts n p q → KeepsFormat p.mine → KeepsFormat q.mine
puts_keep zero p q is keeps = subst KeepsFormat (sym (ap (λ (r : Known). r.mine) is)) keeps
puts_keep (suc n) p q (r, before, last) keeps =
    put_keeps (suc n) r q last (puts_keep n p r before keeps)

-- a worker is still one of its store when it has worked
pub still_worker : (store : StoreId) (writers calls : ℕ) (plan : Plan) (p q : Known) (falls : ℕ)
    → plan.writers ≡ writers → plan.calls ≡ calls →
    HasWorked plan.writers plan.calls p q falls → IsNewOf store p → IsWorkerOf store writers calls q
still_worker store writers calls plan p q falls same_writers same_calls worked was = record {
  of_store = worked.same.0 ∙ was.of_store;
  keeps = all_keep q.mine (elim (below_or_above p.number plan.writers) [
    | inl low ↦ puts_keep plan.calls p q (worked.writes low).puts (each_keeps p.mine was.keeps)
    | inr high ↦ subst KeepsFormat (sym (worked.reads high).mine) (each_keeps p.mine was.keeps)
  ]);
  worked = ∥∥₁_map {B = HasWorked writers calls (new_pass q.store q.number) q 0} was.fresh
      (λ (is : p ≡ new_pass p.store p.number). all_calls is);
}
  where
    below_or_above : (n w : ℕ) → (n ≤ w) ⊎ (w < n)
    below_or_above n w = dite (ℕ_discrete (n - w) 0) (λ none. inl (omega (arith, none)))
        (λ some. inr (omega (arith, some)))

    all_calls : p ≡ new_pass p.store p.number → HasWorked writers calls (new_pass q.store q.number)
        q 0
    all_calls is =
        let first : p ≡ new_pass q.store q.number =
        is ∙ (λ i. new_pass (sym worked.same.0 i) (sym worked.same.1 i)) in
        let named : HasWorked writers calls p q falls =
        subst (λ (n : ℕ). HasWorked writers n p q falls) same_calls
        (subst (λ (n : ℕ). HasWorked n plan.calls p q falls) same_writers worked) in
        subst (λ (r : Known). HasWorked writers calls r q 0) first
        (subst (λ (n : ℕ). HasWorked writers calls p q n) worked.never named)
