-- Whether the key of an entry is below a bound, and the first key above one.
use Rattle.mst_read.proofs.Names.{◌≡◌, ◌-◌, ◌<◌, ℕ, true, false, List, Option, Some, None, IsSome, refl, ◌∙◌, sym, ap, subst, arith, is_lt, Format, below, Content, part_at, keyed_links, entry_way, KeyedLinks, Chain, HeadLinks, same_from_equal, equal_from_same, less_from_greater, greater_from_less, LiesBehind, entry_above}
use Rattle.mst_arena.specs.Ways.{way_at}
use Rattle.mst_arena.specs.declared.sought.Way.{Way}
use Rattle.mst_arena.specs.declared.sought.Way.TheVariants.{Child, Here, Next}
use Rattle.mst_arena.proofs.WayLemmas.{way_is, to_child, is_here, to_next}
use Rattle.mst_read.proofs.Walk.{Onward, at_cell, entry_left}

-- the first entry of the rest of a chain whose key is above the bound is the first of the whole
abbrev pub BeginsAbove : Option (List ℕ) → Chain → Chain → Type 0
BeginsAbove bound whole rest = entry_above bound rest ≡ entry_above bound whole

-- whether the key of an entry is below a bound, by the way to the bound from the entry
module _ (content : Content) (row : ℕ) (k : List ℕ) {e : KeyedLinks} {w : Way}
    (read : part_at keyed_links content row ≡ Some e)
    (answer : part_at (entry_way k) content row ≡ Some w) where
  to_bound : way_at k e.child e.next e.key ≡ w
  to_bound = way_is content row k e w read answer

  pub below_in_gap : {link : ℕ} → w ≡ Child link → false ≡ below (Some k) e.key
  below_in_gap {link} is =
      sym (ap is_lt (greater_from_less k e.key (to_child k e link (to_bound ∙ is)).0))

  pub below_at_key : w ≡ Here → false ≡ below (Some k) e.key
  below_at_key is =
      sym (ap is_lt (equal_from_same e.key k
      (sym (same_from_equal k e.key (is_here k e (to_bound ∙ is))))))

  pub below_past : {link : ℕ} → w ≡ Next link → true ≡ below (Some k) e.key
  below_past {link} is =
      sym (ap is_lt (less_from_greater k e.key (to_next k e link (to_bound ∙ is)).0))

-- the first entry of a node, if no bound is given
module _ {format : Format} {content : Content} {links : HeadLinks} {c : Chain}
    (lies : LiesBehind format content links c) (some : 0 < links.count) where
  all_left : Onward format content links.tail links.first 0 links.count (BeginsAbove None c)
  all_left = record {
    rest = c;
    first_is = lies.first;
    tail_is = lies.tail;
    left =
        omega (arith, lies.count);
    rows = lies.rows;
    holds = refl;
  }

  pub first_there : IsSome (part_at keyed_links content (links.first - 1))
  first_there =
      let Is : Option KeyedLinks → Type 0 = IsSome in
      subst Is (sym (entry_left all_left some).1) refl

  pub first_of_all : {e : KeyedLinks} → part_at keyed_links content (links.first - 1) ≡ Some e
      → Some (links.first - 1, e.child) ≡ entry_above None c
  first_of_all read =
      let a = at_cell all_left some refl read in
      ap (λ (link : ℕ). Some (links.first - 1, link)) (sym a.child_is) ∙ a.holds
