-- Where a search among the entries of a node ends, entry by entry.
use Rattle.mst_arena.proofs.Names.{◌≡◌, ℕ, zero, suc, ◌+◌, ◌-◌, ◌<◌, ◌≤◌, List, [], Option, Some, None, IsSome, refl, sym, ◌∙◌, ap, subst, arith, option_and_then, Row, Entry, Head, Way, Child, Here, Next, Content, part_at, keyed_links, entry_way}
use Rattle.mst_arena.specs.declared.sought.Stop.{Stop}
use Rattle.mst_arena.specs.declared.sought.Stop.TheVariants.{Gap, Found, End}
use Rattle.mst_arena.specs.Ways.{by_way, stop_from}

-- a row from which there is a way is an entry
entry_there : (k : List ℕ) (o : Option Row) (next : Way → Option Stop)
    → IsSome (option_and_then next (option_and_then (entry_way k) o))
    → IsSome (option_and_then keyed_links o)
entry_there k None next some = some
entry_there k (Some (Head layer count first tail digest)) next some = some
entry_there k (Some (Entry child link key value)) next some = refl

some_of_none : IsSome (stop_from [] (λ row. None) 1 0) → ⊥
some_of_none some = cc

-- what a search that ends somewhere finds at its first entry
pub record AtEntry (k : List ℕ) (content : Content) (left link : ℕ) : Type 0 where
  pub some : 0 < link
  pub there : IsSome (part_at keyed_links content (link - 1))
  pub goes : {w : Way} → part_at (entry_way k) content (link - 1) ≡ Some w
      → by_way link left (stop_from k content (left - 1)) w ≡ stop_from k content left link

at_entry : (k : List ℕ) (content : Content) (left link : ℕ) → 0 < left
    → IsSome (stop_from k content left link) → AtEntry k content left link
at_entry k content zero link lt some = absurd (omega (arith, lt))
at_entry k content (suc n) zero lt some = absurd (some_of_none some)
at_entry k content (suc n) (suc row) lt some =
    let here : suc row - 1 ≡ row = omega arith in
    let fewer : suc n - 1 ≡ n = omega arith in
    record {
      some = omega arith;
      there = subst (λ (r : ℕ). IsSome (part_at keyed_links content r)) (sym here)
          (entry_there k (content row) (by_way (suc row) (suc n) (stop_from k content n)) some);
      goes = λ {w} way.
          ap (λ (m : ℕ). by_way (suc row) (suc n) (stop_from k content m) w) fewer
          ∙ sym (ap (option_and_then (by_way (suc row) (suc n) (stop_from k content n)))
          (ap (part_at (entry_way k) content) (sym here) ∙ way));
    }

-- a search of so many entries, after some of them were passed: it ends where the whole search does
pub record Goes (k : List ℕ) (content : Content) (count first passed link : ℕ) : Type 0 where
  pub some : IsSome (stop_from k content count first)
  pub onward : stop_from k content (count - passed) link ≡ stop_from k content count first

pub from_first : (k : List ℕ) (content : Content) (count first : ℕ)
    → IsSome (stop_from k content count first) → Goes k content count first 0 first
from_first k content count first some = let all : count - 0 ≡ count = omega arith in
    record { some = some; onward = ap (λ (n : ℕ). stop_from k content n first) all }

module _ {k : List ℕ} {content : Content} {count first passed link : ℕ}
    (s : Goes k content count first passed link) where
  pub entry_met : passed < count → AtEntry k content (count - passed) link
  entry_met lt = at_entry k content (count - passed) link (omega (arith, lt))
      (let Is : Option Stop → Type 0 = IsSome in subst Is (sym s.onward) s.some)

  module _ (lt : passed < count) {w : Way}
      (way : part_at (entry_way k) content (link - 1) ≡ Some w) where
    from_entry : by_way link (count - passed) (stop_from k content (count - passed - 1)) w
        ≡ stop_from k content count first
    from_entry = (entry_met lt).goes way ∙ s.onward

    pub in_gap : {child : ℕ} → w ≡ Child child → stop_from k content count first ≡ Some
        (Gap link child (count - passed))
    in_gap is = sym (rw is at from_entry)

    pub at_key : w ≡ Here → stop_from k content count first ≡ Some (Found link (count - passed))
    at_key is = sym (rw is at from_entry)

    pub past_entry : {next : ℕ} → w ≡ Next next → stop_from k content (count - (passed + 1)) next
        ≡ stop_from k content count first
    past_entry {next} is =
        let fewer : count - (passed + 1) ≡ count - passed - 1 = omega arith in
        ap (λ (n : ℕ). stop_from k content n next) fewer ∙ rw is at from_entry

  pub behind_all : count ≤ passed → stop_from k content count first ≡ Some End
  behind_all le =
      let none : count - passed ≡ 0 = omega (arith, le) in
      sym s.onward ∙ ap (λ (n : ℕ). stop_from k content n link) none
