-- Pairs counted along the entries of a node.
use Rattle.mst_read.proofs.Names.{◌≡◌, ℕ, ◌+◌, ◌<◌, List, [], ◌∷◌, length, length-append, refl, ap, subst, arith, Format, Pair, IsAscending, IsAscending-front, IsAscending-back, pairs, entries_pairs, IsMstEntries, Content, HeadLinks, KeyedLinks, none, head, Chain, end, cell, tree_of, entries_of, count_of, PartStands}
use Rattle.std.proofs.Common.{◌%◌, ◌^◌}
use Rattle.mst_read.proofs.Descend.{Ahead, Inside}
use Rattle.mst_read.proofs.Walk.{Onward, AtCell, AtEnd, further}

-- the pairs of the rest of a node, with those that are counted, are as many as the whole node has,
-- if these are fewer than 2^64
pub record Left (format : Format) (layer counted whole : ℕ) (rest : Chain) : Type 0 where
  pub mst : IsMstEntries format layer (entries_of format rest)
  pub rise : IsAscending (entries_pairs (entries_of format rest))
  pub sum : whole < 2 ^ 64 → counted + length (entries_pairs (entries_of format rest)) ≡ whole

-- in the lowest layer no gap has a tree
pub lowest : (format : Format) (c : Chain) → IsMstEntries format 0 (entries_of format c)
    → length (entries_pairs (entries_of format c)) ≡ count_of c
lowest format (end none) is = refl
lowest format (end (head at layer c)) is = absurd (omega (arith, is.0))
lowest format (cell at none key value rest) is = omega (arith, lowest format rest is.3)
lowest format (cell at (head row layer c) key value rest) is = absurd (omega (arith, is.0))

pub start : {format : Format} {content : Content} {node : HeadLinks} {c : Chain}
    → PartStands format content node c → Onward format content node.tail node.first 0 node.count
    (Left format node.layer 0 (length (entries_pairs (entries_of format c))))
start {c = c} s = record {
  rest = c;
  first_is = s.lies.first;
  tail_is = s.lies.tail;
  left = omega (arith, s.lies.count);
  rows = s.lies.rows;
  holds = record { mst = s.mst; rise = s.rise; sum = λ few. omega arith };
}

-- a list that is as long as another
abbrev pub AsLong : List Pair → List Pair → Type 0
AsLong whole ps = length ps ≡ length whole

-- as many pairs were counted in a tree, if they are fewer than 2^64
abbrev pub Counts : ℕ → List Pair → Type 0
Counts n ps = length ps < 2 ^ 64 → n ≡ length ps

module _ {format : Format} {content : Content} {layer tail row done all : ℕ} {e : KeyedLinks}
    {counted whole : ℕ}
    (a : AtCell format content tail row done all e (Left format layer counted whole)) where
  abbrev pub front : List Pair
  front = pairs (tree_of format a.child)

  abbrev pub back : List Pair
  back = entries_pairs (entries_of format a.rest)

  -- the tree in the gap before the entry
  pub gap : Ahead format content layer e.child (λ (ps : List Pair). ps ≡ front)
  gap = record {
    placed = a.child;
    lies = record { at = a.child_is; rows = a.child_rows };
    under = a.holds.mst.0;
    mst = a.holds.mst.1;
    rise = IsAscending-front front ((e.key, a.value) ∷ back) a.holds.rise;
    holds = refl;
  }

  sums : whole < 2 ^ 64 → counted + (length front + (length back + 1)) ≡ whole
  sums few =
      omega (arith, length-append front ((e.key, a.value) ∷ back), a.holds.sum few)

  pub goes_on : (next : ℕ) → (whole < 2 ^ 64 → next ≡ counted + length front)
      → Onward format content tail e.next (done + 1) all
      (Left format layer ((next + 1) % 2 ^ 64) whole)
  goes_on next in_gap =
      further a (Left format layer ((next + 1) % 2 ^ 64) whole) (record {
        mst = a.holds.mst.3;
        rise = (IsAscending-back front ((e.key, a.value) ∷ back) a.holds.rise).1;
        sum = λ few. omega (arith, few, sums few, in_gap few);
      })

  -- the pairs of the gap are added to those that are counted
  pub added : {n : ℕ} → Counts n front → whole < 2 ^ 64
      → (counted + n) % 2 ^ 64 ≡ counted + length front
  added counts few =
      let less : length front < 2 ^ 64 = omega (arith, few, sums few) in
      omega (arith, few, sums few, counts less)

  -- there is no tree in the gap
  pub none_added : [] ≡ front → counted ≡ counted + length front
  none_added nothing = omega (arith, ap length nothing)

-- the tree in the last gap
module _ {format : Format} {content : Content} {layer tail counted whole : ℕ}
    (a : AtEnd format content tail (Left format layer counted whole)) where
  pub last : Ahead format content layer tail (λ (ps : List Pair). ps ≡ pairs
      (tree_of format a.child))
  last = record {
    placed = a.child;
    lies = record { at = a.child_is; rows = a.rows };
    under = a.holds.mst.0;
    mst = a.holds.mst.1;
    rise = a.holds.rise;
    holds = refl;
  }

  pub ends : {n : ℕ} → Counts n (pairs (tree_of format a.child)) → whole < 2 ^ 64
      → (counted + n) % 2 ^ 64 ≡ whole
  ends counts few =
      let less : length (pairs (tree_of format a.child)) < 2 ^ 64 =
      omega (arith, few, a.holds.sum few) in
      omega (arith, few, a.holds.sum few, counts less)

  pub nothing_left : [] ≡ pairs (tree_of format a.child) → whole < 2 ^ 64 → counted ≡ whole
  nothing_left nothing few = omega (arith, ap length nothing, a.holds.sum few)

-- the head of a tree was read, and the node counted
module _ {format : Format} {content : Content} {links : HeadLinks} {whole : List Pair}
    (d : Inside format content links (λ (ps : List Pair). ps ≡ whole)) where
  pub node_stands : PartStands format content links d.chain
  node_stands = record { lies = d.lies; mst = d.mst; rise = d.rise }

  pub node_counts : {n : ℕ} → Counts n (entries_pairs (entries_of format d.chain))
      → Counts n whole
  node_counts counts = subst (Counts _) d.holds counts
