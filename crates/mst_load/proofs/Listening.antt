-- Calls of a reader, one after another.
use Rattle.mst_load.proofs.Names.{◌≡◌, ℕ, suc, ◌+◌, ◌≤◌, Bool, true, false, List, Option, Some, None, length, length-append, refl, sym, ap, subst, ◌∙◌, arith, History, after, map_get, Known, key_of, HasHeard}
use Rattle.std.specs.Prelude.{◌%◌, ◌==◌, if◌then◌else◌}
use Rattle.mst_load.specs.Listening.{HasAsked, MadeReads, found_in, having_fetched, having_read, nothing_heard}
use Rattle.mst_load.specs.declared.worker.Heard.{Heard}
use Rattle.mst_load.proofs.Working.{looked, not_read, read_more}

-- no call was made yet
pub none_heard : (p : Known) → HasHeard 0 p p nothing_heard
none_heard p = record {
  reads = not_read p;
  made = (refl, refl);
  newest = omega arith;
  never = refl;
  few = omega arith;
}

at_most_one : (value : Option (List ℕ)) → found_in value ≤ 1
at_most_one None = omega arith
at_most_one (Some value) = omega arith

-- what one answer more leaves of what was heard
told : (is_odd : Bool) (n : ℕ) (q r : Known) (a b : Heard)
    → b ≡ (if is_odd then having_read r a else having_fetched r a)
    → a.newest ≤ length q.seen → length q.seen ≤ length r.seen → a.falls ≡ 0 → a.found ≤ n
    → (b.newest ≤ length r.seen) × (b.falls ≡ 0) × (b.found ≤ n + 1)
told true n q r a b is newest later never few =
    let last : b.newest ≡ length r.seen = ap (λ (h : Heard). h.newest) is in
    let found : b.found ≡ a.found = ap (λ (h : Heard). h.found) is in
    (omega (arith, last), ap (λ (h : Heard). h.falls) is ∙ never, omega (arith, found, few))
told false n q r a b is newest later never few =
    let last : b.newest ≡ a.newest = ap (λ (h : Heard). h.newest) is in
    let found : b.found ≡ a.found + found_in (map_get (after r.seen) (key_of 1 1)) =
    ap (λ (h : Heard). h.found) is in
    let one : found_in (map_get (after r.seen) (key_of 1 1)) ≤ 1 =
    at_most_one (map_get (after r.seen) (key_of 1 1)) in (
      omega (arith, last, newest, later),
      ap (λ (h : Heard). h.falls) is ∙ never,
      omega (arith, found, one, few),
    )

-- one call more
pub heard_more : (n m : ℕ) (p q r : Known) (a b : Heard) → m ≡ n + 1 → HasHeard n p q a
    → HasAsked m a q r b → HasHeard m p r b
heard_more n m p q r a b next before asked =
    let count : m ≡ suc n = omega (arith, next) in
    let longer : length r.seen ≡ length q.seen + length asked.looks.later.0 =
    ap (λ (h : History). length h) asked.looks.later.1 ∙ length-append q.seen asked.looks.later.0 in
    let later : length q.seen ≤ length r.seen = omega (arith, longer) in
    let now = told (m % 2 == 1) n q r a b asked.heard before.newest later before.never before.few in
    let few : b.found ≤ n + 1 = now.2 in
    record {
      reads = read_more n m p q r next before.reads (looked q r asked.looks asked.once);
      made = subst (λ (k : ℕ). MadeReads k p r b) (sym count)
          (q, a, before.made, subst (λ (k : ℕ). HasAsked k a q r b) count asked);
      newest = now.0;
      never = now.1;
      few = omega (arith, few, next);
    }
