-- The way to a key from a row that a pass may read, by the row's words.
use Rattle.mst_words.proofs.Names.{◌≡◌, ℕ, ◌+◌, ◌-◌, ◌<◌, ◌≤◌, List, Option, subst, Bool, true, false, Ordering, refl, sym, ◌∙◌, ap, Some, None, if◌then◌else◌, option_and_then, IsSome, IsKey, IsBytes, part_at, keyed_links, words_order, Goes, entry_met, Me, View, known_row, rows_in, may_read, content_of}
use Rattle.std.proofs.Common.{Less, Equal, Greater}
use Rattle.mst_node.specs.Trail.{by_order}
use Rattle.mst_arena.specs.Lives as lives
use Rattle.mst_arena.specs.Ways.{entry_way, stop_from}
use Rattle.mst_arena.specs.declared.sought.Way.TheVariants.{Child, Here, Next}
use Rattle.mst_arena.specs.declared.sought.Stop.TheVariants.{Gap, Found}
use Rattle.mst_arena.proofs.WayLemmas.{way_in_words}
use Rattle.mst_arena.proofs.StopLemmas.{in_gap, at_key, past_entry}
use Rattle.mst_words.proofs.ShortRows.{key_of}

-- the links of an entry are small, and the order by words chooses the way
pub record WayAt (k : List ℕ) (v : View) (x : ℕ) : Type 0 where
  pub readable : may_read v x ≡ true
  pub child : known_row v x 1 ≤ 65535
  pub next : known_row v x 2 ≤ 65535
  pub way : part_at (entry_way k) (content_of v) x ≡ Some
      (by_order (words_order k (known_row v x)) (Child (known_row v x 1)) Here
      (Next (known_row v x 2)))

pub way_of_row : (k : List ℕ) (v : View) (x : ℕ) → IsKey k → IsBytes k
    → IsSome (part_at keyed_links (content_of v) x) → WayAt k v x
way_of_row k v x size all some = go (may_read v x) refl some
  where
    go : (b : Bool) → may_read v x ≡ b
        → IsSome (option_and_then keyed_links (if b then rows_in (known_row v) x else None))
        → WayAt k v x
    go true e some = let w = way_in_words k _ size all some in
        record { readable = e; child = w.child; next = w.next; way = rw e w.way }
    go false e some = cc

-- the way, where the order by words and the link are known
module _ {k : List ℕ} {v : View} {x : ℕ} (w : WayAt k v x) {o : Ordering}
    (order : o ≡ words_order k (known_row v x)) where
  by_words : part_at (entry_way k) (content_of v) x ≡ Some
      (by_order o (Child (known_row v x 1)) Here (Next (known_row v x 2)))
  by_words =
      w.way ∙ ap (λ (r : Ordering). Some
      (by_order r (Child (known_row v x 1)) Here (Next (known_row v x 2)))) (sym order)

  pub way_to_child : {n : ℕ} → o ≡ Less → n ≡ known_row v x 1 → part_at (entry_way k)
      (content_of v) x ≡ Some (Child n)
  way_to_child is word =
      by_words ∙ ap
      (λ (r : Ordering). Some
      (by_order r (Child (known_row v x 1)) Here (Next (known_row v x 2)))) is
      ∙ ap (λ (l : ℕ). Some (Child l)) (sym word)

  pub way_here : o ≡ Equal → part_at (entry_way k) (content_of v) x ≡ Some Here
  way_here is =
      by_words ∙ ap
      (λ (r : Ordering). Some
      (by_order r (Child (known_row v x 1)) Here (Next (known_row v x 2)))) is

  pub way_to_next : {n : ℕ} → o ≡ Greater → n ≡ known_row v x 2 → part_at (entry_way k)
      (content_of v) x ≡ Some (Next n)
  way_to_next is word =
      by_words ∙ ap
      (λ (r : Ordering). Some
      (by_order r (Child (known_row v x 1)) Here (Next (known_row v x 2)))) is
      ∙ ap (λ (l : ℕ). Some (Next l)) (sym word)

-- a word of a row that was loaded while the words are the same
pub loaded_still : {old now : Me (Option lives.State) View} → now ≡ old → (x i : ℕ) → {n : ℕ}
    → n ≡ known_row now.0 x i → n ≡ known_row old.0 x i
loaded_still same x i {n} =
    subst (λ (m : Me (Option lives.State) View). n ≡ known_row m.0 x i) same

-- a search has come to an entry
module _ {k : List ℕ} {old : Me (Option lives.State) View} {count first passed link : ℕ}
    (s : Goes k (content_of old.0) count first passed link) (lt : passed < count) where
  pub may_be_read : {now : Me (Option lives.State) View} → now ≡ old
      → may_read now.0 (link - 1) ≡ true
  may_be_read same =
      ap (λ (m : Me (Option lives.State) View). may_read m.0 (link - 1)) same
      ∙ (key_of old.0 (link - 1) (entry_met s lt).there).readable

  -- and knows the order of the key and the entry's, and then a link, while the words are the same
  module _ (size : IsKey k) (all : IsBytes k) {now : Me (Option lives.State) View}
      (same : now ≡ old)
      {o : Ordering} (order : o ≡ words_order k (known_row now.0 (link - 1))) where
    pub met : WayAt k old.0 (link - 1)
    met = way_of_row k old.0 (link - 1) size all (entry_met s lt).there

    ordered : o ≡ words_order k (known_row old.0 (link - 1))
    ordered = subst
        (λ (m : Me (Option lives.State) View). o ≡ words_order k (known_row m.0 (link - 1)))
        same order

    pub stops_at : o ≡ Equal → stop_from k (content_of old.0) count first ≡ Some
        (Found link (count - passed))
    stops_at is = at_key s lt (way_here met ordered is) refl

    pub stops_before : {n : ℕ} → o ≡ Less → n ≡ known_row old.0 (link - 1) 1
        → stop_from k (content_of old.0) count first ≡ Some (Gap link n (count - passed))
    stops_before is word = in_gap s lt (way_to_child met ordered is word) refl

    pub goes_on : {n : ℕ} → o ≡ Greater → n ≡ known_row old.0 (link - 1) 2
        → Goes k (content_of old.0) count first (passed + 1) n
    goes_on is word = record {
      some = s.some;
      onward = past_entry s lt (way_to_next met ordered is word) refl;
    }
