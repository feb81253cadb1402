-- Where a search among the entries of a node ends, and what it tells of the node.
use Rattle.mst_read.proofs.Names.{◌≡◌, ◌+◌, ◌-◌, ◌<◌, ◌≤◌, ℕ, suc, true, false, List, Option, Some, None, IsSome, refl, ◌∙◌, sym, ap, subst, arith, is_gt, Ordering, Less, Equal, Greater, Format, key_cmp, above, same_from_equal, equal_from_same, less_from_greater, greater_from_less, by_order, Content, part_at, keyed_links, entry_way, Placed, none, Chain, end, cell, link_of, first_of, tail_of, count_of, rows_of, chain_rows, HasRows, HeadLinks, KeyedLinks, same_Some, all-back, LiesBehind, chain_links, place, entry_above, gap_placed, rest_from, RowPlace}
use Rattle.std.specs.Prelude.{option_and_then}
use Rattle.mst_arena.specs.Ways.{by_way, stop_from}
use Rattle.mst_arena.specs.declared.sought.Way.TheVariants as way
use Rattle.mst_arena.specs.declared.sought.Stop.{Stop}
use Rattle.mst_arena.specs.declared.sought.Stop.TheVariants.{Gap, Found, End}
use Rattle.mst_read.specs.declared.lookup.RowPlace.TheVariants as at
use Rattle.mst_read.proofs.Walk.{Onward, at_end}
use Rattle.mst_read.proofs.Ways.{BeginsAbove}

-- where a search among the entries of a chain ends
abbrev pub stop_of : List ℕ → Chain → Stop
stop_of k (end child) = End
stop_of k (cell at child key value rest) = by_order (key_cmp k key)
    (Gap (at + 1) (link_of child) (count_of rest + 1)) (Found (at + 1) (count_of rest + 1))
    (stop_of k rest)

-- ---- a search over the rows of a chain ends there

goes_by : (k : List ℕ) (content : Content) (link child left next n : ℕ) (o : Ordering) (s : Stop)
    → stop_from k content n next ≡ Some s
    → by_way link left (stop_from k content n)
    (by_order o (way.Child child) way.Here (way.Next next))
    ≡ Some (by_order o (Gap link child left) (Found link left) s)
goes_by k content link child left next n Less s is = refl
goes_by k content link child left next n Equal s is = refl
goes_by k content link child left next n Greater s is = is

stops : (format : Format) (content : Content) (k : List ℕ) (c : Chain)
    → HasRows content (chain_rows format c)
    → stop_from k content (count_of c) (first_of c) ≡ Some (stop_of k c)
stops format content k (end child) rows = refl
stops format content k (cell at child key value rest) rows =
    let count : count_of rest + 1 ≡ suc (count_of rest) = omega arith in
    let first : at + 1 ≡ suc at = omega arith in
    let there : part_at (entry_way k) content at ≡ Some
    (by_order (key_cmp k key) (way.Child (link_of child)) way.Here (way.Next (first_of rest))) =
    ap (option_and_then (entry_way k)) rows.0 in
    let others : stop_from k content (count_of rest) (first_of rest) ≡ Some (stop_of k rest) =
    stops format content k rest (all-back _ (rows_of format child) (chain_rows format rest) rows.1)
    in
    ap (λ (n : ℕ). stop_from k content n (at + 1)) count
    ∙ ap (stop_from k content (suc (count_of rest))) first
    ∙ ap (option_and_then
    (by_way (suc at) (suc (count_of rest)) (stop_from k content (count_of rest))))
    there
    ∙ ap (λ (n : ℕ). by_way (suc at) n (stop_from k content (count_of rest))
    (by_order (key_cmp k key) (way.Child (link_of child)) way.Here (way.Next (first_of rest))))
    (sym count)
    ∙ ap (λ (l : ℕ). by_way l (count_of rest + 1) (stop_from k content (count_of rest))
    (by_order (key_cmp k key) (way.Child (link_of child)) way.Here (way.Next (first_of rest))))
    (sym first)
    ∙ goes_by k content (at + 1) (link_of child) (count_of rest + 1) (first_of rest) (count_of rest)
    (key_cmp k key) (stop_of k rest) others

-- ---- what it tells of the whole node

-- the place of the key, by where the search for it ends and the link of the tree in the last gap
abbrev pub place_at : ℕ → Stop → RowPlace
place_at tail (Gap link child left) = at.Gap child
place_at tail (Found link left) = at.Found (link - 1)
place_at tail End = at.Gap tail

placed_by : (o : Ordering) (tail row child left : ℕ) (s : Stop) (p : RowPlace) → p ≡ place_at tail s
    → by_order o (at.Gap child) (at.Found row) p
    ≡ place_at tail (by_order o (Gap (row + 1) child left) (Found (row + 1) left) s)
placed_by Less tail row child left s p is = refl
placed_by Equal tail row child left s p is = let one : row ≡ row + 1 - 1 = omega arith in
    ap at.Found one
placed_by Greater tail row child left s p is = is

place_is : (k : List ℕ) (c : Chain) → place k c ≡ place_at (tail_of c) (stop_of k c)
place_is k (end child) = refl
place_is k (cell at child key value rest) =
    placed_by (key_cmp k key) (tail_of rest) at (link_of child) (count_of rest + 1) (stop_of k rest)
    (place k rest) (place_is k rest)

-- the gap in which a key would lie, and the part of the node from there on
abbrev pub part_at_stop : ℕ → ℕ → Stop → ℕ × HeadLinks
part_at_stop layer tail (Gap link child left) =
    (child, record { layer = layer; count = left; first = link; tail = tail })
part_at_stop layer tail (Found link left) =
    (0, record { layer = layer; count = left; first = link; tail = tail })
part_at_stop layer tail End = (tail, record { layer = layer; count = 0; first = 0; tail = tail })

-- the parts of two stops that are the same
same_found : {a b m n : ℕ} → Found a m ≡ Found b n → (a ≡ b) × (m ≡ n)
same_found is = let a = is in (cc, cc)

same_gap : {a b l r m n : ℕ} → Gap a l m ≡ Gap b r n → (a ≡ b) × (l ≡ r)
same_gap is = let a = is in (cc, cc)

-- the chain is cut at the key where the search ends
cut_by : (o : Ordering) (k : List ℕ) (layer at : ℕ) (child : Placed) (key value : List ℕ)
    (rest : Chain)
    → (link_of (gap_placed k rest), chain_links layer (rest_from k rest))
    ≡ part_at_stop layer (tail_of rest) (stop_of k rest)
    → (
      link_of (by_order o child none (gap_placed k rest)),
      chain_links layer (by_order o (cell at child key value rest) (cell at child key value rest)
          (rest_from k rest)),
    ) ≡ part_at_stop layer (tail_of rest)
    (by_order o (Gap (at + 1) (link_of child) (count_of rest + 1))
    (Found (at + 1) (count_of rest + 1))
    (stop_of k rest))
cut_by Less k layer at child key value rest is = refl
cut_by Equal k layer at child key value rest is = refl
cut_by Greater k layer at child key value rest is = is

cut_is : (k : List ℕ) (layer : ℕ) (c : Chain)
    → (link_of (gap_placed k c), chain_links layer (rest_from k c))
    ≡ part_at_stop layer (tail_of c) (stop_of k c)
cut_is k layer (end child) = refl
cut_is k layer (cell at child key value rest) =
    cut_by (key_cmp k key) k layer at child key value rest (cut_is k layer rest)

-- an entry that has the key, with the rest behind it
pub record FoundAt (format : Format) (content : Content) (k : List ℕ) (c : Chain) (link left : ℕ)
    : Type 0 where
  pub some : 0 < link
  pub entry : KeyedLinks
  pub rest : Chain
  pub here : part_at keyed_links content (link - 1) ≡ Some entry
  pub first : first_of rest ≡ entry.next
  pub tail : tail_of rest ≡ tail_of c
  pub fewer : left ≤ count_of c
  pub count : count_of rest + 1 ≡ left
  pub rows : HasRows content (chain_rows format rest)
  pub above_is : entry_above (Some k) rest ≡ entry_above (Some k) c

found_at : (format : Format) (content : Content) (k : List ℕ) (c : Chain) (link left : ℕ)
    → HasRows content (chain_rows format c) → stop_of k c ≡ Found link left
    → FoundAt format content k c link left
found_at format content k (end child) link left rows is = absurd cc
found_at format content k (cell at child key value rest) link left rows is =
    go (key_cmp k key) refl is (found_at format content k rest link left behind)
  where
    behind : HasRows content (chain_rows format rest)
    behind = all-back _ (rows_of format child) (chain_rows format rest) rows.1

    go : (o : Ordering) → key_cmp k key ≡ o
        → by_order o (Gap (at + 1) (link_of child) (count_of rest + 1))
        (Found (at + 1) (count_of rest + 1)) (stop_of k rest) ≡ Found link left
        → (stop_of k rest ≡ Found link left → FoundAt format content k rest link left)
        → FoundAt format content k (cell at child key value rest) link left
    go Less order is others = absurd cc
    go Equal order is others =
        let both = same_found is in
        let low : above (Some k) key ≡ false =
        ap is_gt (equal_from_same key k (sym (same_from_equal k key order))) in
        let row : at ≡ link - 1 = omega (arith, both.0) in
        record {
          some = omega (arith, both.0);
          entry = record { child = link_of child; next = first_of rest; key = key };
          rest = rest;
          here = ap (part_at keyed_links content) (sym row) ∙ ap (option_and_then keyed_links)
              rows.0;
          first = refl;
          tail = refl;
          fewer = omega (arith, both.1);
          count = both.1;
          rows = behind;
          above_is = rw low refl;
        }
    go Greater order is others =
        let h = others is in
        let low : above (Some k) key ≡ false = ap is_gt (less_from_greater k key order) in
        let fewer = h.fewer in
        record {
          some = h.some;
          entry = h.entry;
          rest = h.rest;
          here = h.here;
          first = h.first;
          tail = h.tail;
          fewer = omega (arith, fewer);
          count = h.count;
          rows = h.rows;
          above_is = h.above_is ∙ rw low refl;
        }

-- the first entry above the key, where the search ends before one or behind all
above_gap : (k : List ℕ) (c : Chain) (link child left : ℕ) → stop_of k c ≡ Gap link child left
    → (0 < link) × (Some (link - 1, child) ≡ entry_above (Some k) c)
above_gap k (end p) link child left is = absurd cc
above_gap k (cell at p key value rest) link child left is =
    go (key_cmp k key) refl is (above_gap k rest link child left)
  where
    go : (o : Ordering) → key_cmp k key ≡ o
        → by_order o (Gap (at + 1) (link_of p) (count_of rest + 1))
        (Found (at + 1) (count_of rest + 1)) (stop_of k rest) ≡ Gap link child left
        → (stop_of k rest ≡ Gap link child left
        → (0 < link) × (Some (link - 1, child) ≡ entry_above (Some k) rest))
        → (0 < link) × (Some (link - 1, child) ≡ entry_above (Some k) (cell at p key value rest))
    go Less order is others =
        let both = same_gap is in
        let high : above (Some k) key ≡ true = ap is_gt (greater_from_less k key order) in
        let row : link - 1 ≡ at = omega (arith, both.0) in (
          omega (arith, both.0),
          ap (λ (r : ℕ). Some (r, child)) row ∙ ap (λ (l : ℕ). Some (at, l)) (sym both.1)
              ∙ sym (rw high refl),
        )
    go Equal order is others = absurd cc
    go Greater order is others =
        let low : above (Some k) key ≡ false = ap is_gt (less_from_greater k key order) in
        let h = others is in (h.0, h.1 ∙ sym (rw low refl))

above_none : (k : List ℕ) (c : Chain) → stop_of k c ≡ End → None ≡ entry_above (Some k) c
above_none k (end p) is = refl
above_none k (cell at p key value rest) is = go (key_cmp k key) refl is (above_none k rest)
  where
    go : (o : Ordering) → key_cmp k key ≡ o
        → by_order o (Gap (at + 1) (link_of p) (count_of rest + 1))
        (Found (at + 1) (count_of rest + 1)) (stop_of k rest) ≡ End
        → (stop_of k rest ≡ End → None ≡ entry_above (Some k) rest)
        → None ≡ entry_above (Some k) (cell at p key value rest)
    go Less order is others = absurd cc
    go Equal order is others = absurd cc
    go Greater order is others =
        let low : above (Some k) key ≡ false = ap is_gt (less_from_greater k key order) in
        others is ∙ sym (rw low refl)

-- a node that lies in the content
module _ {format : Format} {content : Content} {links : HeadLinks} {c : Chain}
    (lies : LiesBehind format content links c) (k : List ℕ) where
  stops_lying : stop_from k content links.count links.first ≡ Some (stop_of k c)
  stops_lying =
      ap (λ (n : ℕ). stop_from k content n links.first) (sym lies.count)
      ∙ ap (stop_from k content (count_of c)) (sym lies.first)
      ∙ stops format content k c lies.rows

  pub stops_there : IsSome (stop_from k content links.count links.first)
  stops_there = let Is : Option Stop → Type 0 = IsSome in subst Is (sym stops_lying) refl

  module _ {s : Stop} (found : stop_from k content links.count links.first ≡ Some s) where
    stop_is : stop_of k c ≡ s
    stop_is = same_Some (stop_of k c) s (sym stops_lying ∙ found)

    pub place_found : {p : RowPlace} → p ≡ place_at links.tail s → p ≡ place k c
    place_found is =
        is ∙ ap (place_at links.tail) (sym stop_is)
        ∙ ap (λ (n : ℕ). place_at n (stop_of k c)) (sym lies.tail) ∙ sym (place_is k c)

    pub part_found : {layer : ℕ} {part : ℕ × HeadLinks} → part ≡ part_at_stop layer links.tail s
        → part ≡ (link_of (gap_placed k c), chain_links layer (rest_from k c))
    part_found {layer} is =
        is ∙ ap (part_at_stop layer links.tail) (sym stop_is)
        ∙ ap (λ (n : ℕ). part_at_stop layer n (stop_of k c)) (sym lies.tail)
        ∙ sym (cut_is k layer c)

    pub link_some : {link left : ℕ} → s ≡ Found link left → 0 < link
    link_some {link} {left} is =
        (found_at format content k c link left lies.rows (stop_is ∙ is)).some

-- a search that ended somewhere ends there in the same rows
pub ends_still : {before after : Content} → after ≡ before → (k : List ℕ) (count first : ℕ)
    → IsSome (stop_from k before count first) → IsSome (stop_from k after count first)
ends_still same k count first =
    subst (λ (x : Content). IsSome (stop_from k x count first)) (sym same)

pub stop_before : {before after : Content} → after ≡ before → (k : List ℕ) (count first : ℕ)
    → {s : Stop} → stop_from k after count first ≡ Some s → stop_from k before count first ≡ Some s
stop_before same k count first is =
    ap (λ (x : Content). stop_from k x count first) (sym same) ∙ is

-- the first entry of the rest of a chain whose key is above the bound is the first of the whole,
-- and a search of the rest ended somewhere
pub all_ahead : {format : Format} {content : Content} {links : HeadLinks} {c : Chain} (k : List ℕ)
    → LiesBehind format content links c
    → Onward format content links.tail links.first 0 links.count (BeginsAbove (Some k) c)
all_ahead {c = c} k lies = record {
  rest = c;
  first_is = lies.first;
  tail_is = lies.tail;
  left = omega (arith, lies.count);
  rows = lies.rows;
  holds = refl;
}

module _ {format : Format} {content : Content} {tail next all : ℕ} (k : List ℕ) (whole : Chain)
    (o : Onward format content tail next 0 all (BeginsAbove (Some k) whole)) where
  stops_ahead : stop_from k content all next ≡ Some (stop_of k o.rest)
  stops_ahead =
      let count : all ≡ count_of o.rest = omega (arith, o.left) in
      ap (λ (n : ℕ). stop_from k content n next) count
      ∙ ap (stop_from k content (count_of o.rest)) (sym o.first_is)
      ∙ stops format content k o.rest o.rows

  pub ends_ahead : IsSome (stop_from k content all next)
  ends_ahead = let Is : Option Stop → Type 0 = IsSome in subst Is (sym stops_ahead) refl

  module _ {s : Stop} (found : stop_from k content all next ≡ Some s) where
    ahead_is : stop_of k o.rest ≡ s
    ahead_is = same_Some (stop_of k o.rest) s (sym stops_ahead ∙ found)

    pub gap_link : {link child left : ℕ} → s ≡ Gap link child left → 0 < link
    gap_link {link} {child} {left} is = (above_gap k o.rest link child left (ahead_is ∙ is)).0

    pub above_found : {link child left : ℕ} → s ≡ Gap link child left
        → Some (link - 1, child) ≡ entry_above (Some k) whole
    above_found {link} {child} {left} is =
        (above_gap k o.rest link child left (ahead_is ∙ is)).1 ∙ o.holds

    pub none_above : s ≡ End → None ≡ entry_above (Some k) whole
    none_above is = above_none k o.rest (ahead_is ∙ is) ∙ o.holds

    module _ {link left : ℕ} (is : s ≡ Found link left) where
      key_met : FoundAt format content k o.rest link left
      key_met = found_at format content k o.rest link left o.rows (ahead_is ∙ is)

      pub found_link : 0 < link
      found_link = key_met.some

      pub found_there : IsSome (part_at keyed_links content (link - 1))
      found_there = let Is : Option KeyedLinks → Type 0 = IsSome in subst Is (sym key_met.here) refl

      pub found_left : (0 < left) × (left ≤ all)
      found_left =
          let count = key_met.count in
          let fewer = key_met.fewer in
          (omega (arith, count), omega (arith, fewer, o.left))

      pub behind_found : {e : KeyedLinks} → part_at keyed_links content (link - 1) ≡ Some e
          → Onward format content tail e.next 0 (left - 1) (BeginsAbove (Some k) whole)
      behind_found {e} read =
          let same : key_met.entry ≡ e = same_Some key_met.entry e (sym key_met.here ∙ read) in
          let count = key_met.count in
          record {
            rest = key_met.rest;
            first_is = key_met.first ∙ ap (λ (x : KeyedLinks). x.next) same;
            tail_is = key_met.tail ∙ o.tail_is;
            left = omega (arith, count);
            rows = key_met.rows;
            holds = key_met.above_is ∙ o.holds;
          }

  pub nothing_left : all ≡ 0 → None ≡ entry_above (Some k) whole
  nothing_left is = let a = at_end o is in a.holds
