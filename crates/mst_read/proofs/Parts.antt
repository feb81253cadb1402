-- A node cut at a key: the tree in the gap in which the key would lie, and the part from the first
-- entry on whose key is not below it.
use Rattle.mst_read.proofs.Names.{◌≡◌, ℕ, ◌+◌, ◌-◌, ◌<◌, inl, inr, List, [], ◌∷◌, ◌++◌, Option, Some, None, refl, sym, ◌∙◌, ap, subst, arith, Ordering, Less, Equal, Greater, Format, Pair, key_cmp, IsAscending, same_from_equal, less_from_greater, IsAscending-front, IsAscending-back, IsAscending-below, pairs, entries_pairs, IsMst, IsMstEntries, IsUnder, by_order, Content, HeadLinks, Placed, none, Chain, end, cell, tree_of, entries_of, link_of, rows_of, chain_rows, HasRows, all-front, all-back, Lies, LiesBehind, TreeLies, head_of, chain_links, gap_placed, HeadStands, PartStands, filled, past_gap, rest_from}
use Rattle.mst_read.proofs.Still.{lies_still, stands_still, part_still}
use Rattle.mst_read.proofs.Descend.{Reached, inside, falls, depth, depth_is}
use Rattle.mst_read.proofs.Fillings.{from_less, from_same, not_from_more, all_from, none_from, filled-append, filled-nothing, filled-unbound, outside-from}

-- the link of the tree in the gap, and the part after it
abbrev pub CutIs : List ℕ → ℕ → Chain → ℕ × HeadLinks → Type 0
CutIs k layer whole found =
    found ≡ (link_of (gap_placed k whole), chain_links layer (rest_from k whole))

-- ---- what the cut says of the pairs

-- a tree, and a part of a node, with the pairs of a list that are not below the key
record CutAt (format : Format) (content : Content) (layer : ℕ) (k : List ℕ) (gap : Placed)
    (rest : Chain) (whole : List Pair) : Type 0 where
  gap_rows : HasRows content (rows_of format gap)
  gap_under : IsUnder layer (tree_of format gap)
  gap_mst : IsMst format (tree_of format gap)
  gap_rise : IsAscending (pairs (tree_of format gap))
  rest_rows : HasRows content (chain_rows format rest)
  rest_mst : IsMstEntries format layer (entries_of format rest)
  rest_rise : IsAscending (entries_pairs (entries_of format rest))
  sum : (to : Option (List ℕ)) (limit : ℕ) (found : List Pair) → filled None to limit
      (filled (Some k) to limit found (pairs (tree_of format gap))) (past_gap format rest) ≡ filled
      (Some k) to limit found whole

module _ (format : Format) (content : Content) (layer : ℕ) (k : List ℕ) where
  cut_at : (c : Chain) → HasRows content (chain_rows format c) → IsMstEntries format layer
      (entries_of format c) → IsAscending (entries_pairs (entries_of format c))
      → CutAt format content layer k (gap_placed k c) (rest_from k c)
      (entries_pairs (entries_of format c))
  cut_at (end p) rows mst rise = record {
    gap_rows = rows;
    gap_under = mst.0;
    gap_mst = mst.1;
    gap_rise = rise;
    rest_rows = rows;
    rest_mst = mst;
    rest_rise = rise;
    sum = λ to limit found. filled-nothing None to limit
        (filled (Some k) to limit found (pairs (tree_of format p))) [] tt;
  }
  cut_at (cell at p key v c) rows mst rise =
      go (key_cmp k key) refl
      (cut_at c (all-back _ (rows_of format p) (chain_rows format c) rows.1) mst.3
      (IsAscending-back front ((key, v) ∷ back) rise).1)
    where
      front : List Pair
      front = pairs (tree_of format p)

      back : List Pair
      back = entries_pairs (entries_of format c)

      own : List Pair
      own = (key, v) ∷ []

      go : (o : Ordering) → key_cmp k key ≡ o → CutAt format content layer k (gap_placed k c)
          (rest_from k c) back → CutAt format content layer k (by_order o p none (gap_placed k c))
          (by_order o (cell at p key v c) (cell at p key v c) (rest_from k c))
          (front ++ (key, v) ∷ back)
      go Less e further = record {
        gap_rows = all-front _ (rows_of format p) (chain_rows format c) rows.1;
        gap_under = mst.0;
        gap_mst = mst.1;
        gap_rise = IsAscending-front front ((key, v) ∷ back) rise;
        rest_rows = rows;
        rest_mst = mst;
        rest_rise = rise;
        sum = λ to limit found.
            sym (filled-unbound (Some k) to limit (filled (Some k) to limit found front)
            ((key, v) ∷ back)
            (all_from k key v back (from_less k key e)
            (IsAscending-back front ((key, v) ∷ back) rise).0))
            ∙ sym (filled-append (Some k) to limit found front ((key, v) ∷ back));
      }
      go Equal e further =
          let same : k ≡ key = same_from_equal k key e in
          record {
            gap_rows = tt;
            gap_under = tt;
            gap_mst = tt;
            gap_rise = tt;
            rest_rows = rows;
            rest_mst = mst;
            rest_rise = rise;
            sum = λ to limit found.
                let outside = none_from k key front to (IsAscending-below front back (key, v) rise)
                (inr (sym same)) in
                ap (λ (l : List Pair). filled None to limit l ((key, v) ∷ back))
                (filled-nothing (Some k) to limit found [] tt
                ∙ sym (filled-nothing (Some k) to limit found front outside))
                ∙ sym (filled-unbound (Some k) to limit (filled (Some k) to limit found front)
                ((key, v) ∷ back)
                (all_from k key v back (from_same k key same)
                (IsAscending-back front ((key, v) ∷ back) rise).0))
                ∙ sym (filled-append (Some k) to limit found front ((key, v) ∷ back));
          }
      go Greater e further =
          let more : key_cmp key k ≡ Less = less_from_greater k key e in
          record {
            gap_rows = further.gap_rows;
            gap_under = further.gap_under;
            gap_mst = further.gap_mst;
            gap_rise = further.gap_rise;
            rest_rows = further.rest_rows;
            rest_mst = further.rest_mst;
            rest_rise = further.rest_rise;
            sum = λ to limit found.
                let outside = none_from k key front to (IsAscending-below front back (key, v) rise)
                (inl more) in
                let alone = filled-nothing (Some k) to limit found own
                (outside-from (Some k) to limit key v (not_from_more k key more), tt) in
                further.sum to limit found
                ∙ ap (λ (l : List Pair). filled (Some k) to limit l back) (sym alone)
                ∙ sym (filled-append (Some k) to limit found own back)
                ∙ ap (λ (l : List Pair). filled (Some k) to limit l ((key, v) ∷ back))
                (sym (filled-nothing (Some k) to limit found front outside))
                ∙ sym (filled-append (Some k) to limit found front ((key, v) ∷ back));
          }

-- ---- the node of a head that was read

pub record Opened (format : Format) (content : Content) (links : HeadLinks) (p : Placed) : Type 0
  where
    pub chain : Chain
    pub stands : PartStands format content links chain
    pub same : entries_pairs (entries_of format chain) ≡ pairs (tree_of format p)

pub opened : {format : Format} {content : Content} {top : Option HeadLinks} {links : HeadLinks}
    {p : Placed} → top ≡ Some links → HeadStands format content top p → Opened format content links
    p
opened {format} {content} {top} {links} {p} some s =
    let P = λ (ps : List Pair). ps ≡ pairs (tree_of format p) in
    let r : Reached format content top P =
    record {
      placed = p;
      head_is = s.head_is;
      rows = s.rows;
      mst = s.mst;
      rise = s.rise;
      holds =
          refl;
    } in
    let d = inside r some in
    record {
      chain = d.chain;
      stands = record { lies = d.lies; mst = d.mst; rise = d.rise };
      same =
          d.holds;
    }

-- the node was cut
module _ {format : Format} {content : Content} {top : Option HeadLinks} {links : HeadLinks}
    {p : Placed} (k : List ℕ) (some : top ≡ Some links) (s : HeadStands format content top p)
    {found : ℕ × HeadLinks} (read : (f : Format) (c : Chain) → LiesBehind f content links c
    → CutIs k links.layer c found) where
  o : Opened format content links p
  o = opened some s

  abbrev pub gap : Placed
  gap = gap_placed k (opened some s).chain

  abbrev pub rest : Chain
  rest = rest_from k (opened some s).chain

  cut : CutAt format content links.layer k gap rest
      (entries_pairs (entries_of format (opened some s).chain))
  cut = cut_at format content links.layer k (opened some s).chain (opened some s).stands.lies.rows
      (opened some s).stands.mst (opened some s).stands.rise

  is : CutIs k links.layer (opened some s).chain found
  is = read format (opened some s).chain (opened some s).stands.lies

  pub gap_lies : {after : Content} → after ≡ content → Lies format after found.0 gap
  gap_lies same =
      lies_still same
      (record { at = ap (λ (x : ℕ × HeadLinks). x.0) (sym is); rows = cut.gap_rows })

  pub gap_there : {after : Content} → after ≡ content → TreeLies after found.0
  gap_there same = (format, gap, gap_lies same)

  -- the head of the tree in the gap was read, while the rows are the same
  module _ {after : Content} {below : Option HeadLinks} (same : after ≡ content)
      (head_read : (f : Format) (q : Placed) → Lies f after found.0 q → below ≡ head_of q) where
    below_is : below ≡ head_of gap
    below_is = head_read format gap (gap_lies same)

    pub gap_stands : {later : Content} → later ≡ after → HeadStands format later below gap
    gap_stands still =
        stands_still (still ∙ same)
        (record {
          head_is = sym below_is;
          rows = cut.gap_rows;
          mst = cut.gap_mst;
          rise =
              cut.gap_rise;
        })

    pub gap_falls : depth below < depth top
    gap_falls =
        omega (arith, depth_is some, falls format links.layer gap below cut.gap_under below_is)

  pub rest_stands : {after : Content} → after ≡ content → PartStands format after found.1 rest
  rest_stands {after} same = subst (λ (x : HeadLinks). PartStands format after x rest)
      (ap (λ (x : ℕ × HeadLinks). x.1) (sym is)) (part_still same (record {
        lies = record { first = refl; tail = refl; count = refl; rows = cut.rest_rows };
        mst = cut.rest_mst;
        rise = cut.rest_rise;
      }))

  -- the tree in the gap is gathered, and then the part after it
  pub sums : (to : Option (List ℕ)) (limit : ℕ) (before next : List Pair) → next ≡ filled (Some k)
      to limit before (pairs (tree_of format gap)) → filled None to limit next
      (past_gap format rest) ≡ filled (Some k) to limit before (pairs (tree_of format p))
  sums to limit before next in_gap =
      ap (λ (l : List Pair). filled None to limit l (past_gap format rest)) in_gap
      ∙ cut.sum to limit before
      ∙ ap (filled (Some k) to limit before) (opened some s).same
