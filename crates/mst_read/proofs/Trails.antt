-- The trail of a key along the rows of a tree.
use Rattle.mst_read.proofs.Names.{◌≡◌, ℕ, ◌+◌, ◌<◌, List, [], ◌∷◌, ◌++◌, length, map, Option, Some, None, refl, sym, ◌∙◌, ap, subst, arith, append_assoc, length-append, append-nil, w32, to_be_bytes, Ordering, Less, Equal, Greater, Format, Pair, key_cmp, Tree, node, IsMst, IsMstEntries, IsUnder, text, trail, framed, by_order, tree_mst, Content, Root, HeadLinks, Placed, none, head, Chain, end, cell, tree_of, entries_of, link_of, first_of, tail_of, count_of, rows_of, chain_rows, HasRows, Stands, all-front, all-back, Lies, LiesBehind, head_of, place, gap_placed, Found, Gap}
use Rattle.mst_node.specs.Trail.{nodes_met, met_in_gap}
use Rattle.mst_read.proofs.Descend.{opened_head, lies_at, falls, depth}

-- ---- the tree in the gap for a key

pub no_gap_where_found : (k : List ℕ) (row : ℕ) (c : Chain) → place k c ≡ Found row → gap_placed k c
    ≡ none
no_gap_where_found k row (end p) is = let no : Gap (link_of p) ≡ Found row = is in cc
no_gap_where_found k row (cell at p key v c) is = go (key_cmp k key) is (no_gap_where_found k row c)
  where
    go : (o : Ordering) → by_order o (Gap (link_of p)) (Found at) (place k c) ≡ Found row
        → (place k c ≡ Found row → gap_placed k c ≡ none) → by_order o p none (gap_placed k c)
        ≡ none
    go Less is further = let no : Gap (link_of p) ≡ Found row = is in cc
    go Equal is further = refl
    go Greater is further = further is

pub gap_lies : (format : Format) (content : Content) (k : List ℕ) (link : ℕ) (c : Chain)
    → HasRows content (chain_rows format c) → place k c ≡ Gap link → Lies format content link
    (gap_placed k c)
gap_lies format content k link (end p) rows is = let at : link_of p ≡ link =
    cc in record { at = at; rows = rows }
gap_lies format content k link (cell at p key v c) rows is =
    go (key_cmp k key) is
    (gap_lies format content k link c
    (all-back _ (rows_of format p) (chain_rows format c) rows.1))
  where
    go : (o : Ordering) → by_order o (Gap (link_of p)) (Found at) (place k c) ≡ Gap link
        → (place k c ≡ Gap link → Lies format content link (gap_placed k c))
        → Lies format content link (by_order o p none (gap_placed k c))
    go Less is further = let here : link_of p ≡ link =
        cc in record {
          at = here;
          rows = all-front _ (rows_of format p) (chain_rows format c) rows.1;
        }
    go Equal is further = let no : Found at ≡ Gap link = is in cc
    go Greater is further = further is

-- what the gap's tree has: its rows, a layer below the node's, and the rest of the trail
pub record InGap (format : Format) (content : Content) (k : List ℕ) (l : ℕ) (p : Placed)
    (met : List Tree) : Type 0 where
  pub rows : HasRows content (rows_of format p)
  pub mst : IsMst format (tree_of format p)
  pub under : IsUnder l (tree_of format p)
  pub trail : nodes_met k (tree_of format p) ≡ met

pub in_gap : (format : Format) (content : Content) (k : List ℕ) (l : ℕ) (c : Chain)
    → HasRows content (chain_rows format c) → IsMstEntries format l (entries_of format c)
    → InGap format content k l (gap_placed k c) (met_in_gap k (entries_of format c))
in_gap format content k l (end p) rows mst =
    record { rows = rows; mst = mst.1; under = mst.0; trail = refl }
in_gap format content k l (cell at p key v c) rows mst =
    go (key_cmp k key)
    (in_gap format content k l c (all-back _ (rows_of format p) (chain_rows format c) rows.1)
    mst.3)
  where
    go : (o : Ordering) → InGap format content k l (gap_placed k c)
        (met_in_gap k (entries_of format c)) → InGap format content k l
        (by_order o p none (gap_placed k c))
        (by_order o (nodes_met k (tree_of format p)) [] (met_in_gap k (entries_of format c)))
    go Less further =
        record {
          rows = all-front _ (rows_of format p) (chain_rows format c) rows.1;
          mst =
              mst.1;
          under = mst.0;
          trail = refl;
        }
    go Equal further = record { rows = tt; mst = tt; under = tt; trail = refl }
    go Greater further = further

-- a text after its length in four bytes
pub framed_length : (texts next t : List ℕ) → next ≡ texts ++ (to_be_bytes w32 (length t) ++ t)
    → length next ≡ length texts + (4 + length t)
framed_length texts next t is =
    omega (
      arith,
      ap (λ (l : List ℕ). length l) is,
      length-append texts
          (to_be_bytes w32 (length t) ++ t),
    )

-- ---- the walk down

-- the texts so far, with those that the tree under the search adds, are those of the whole trail
pub record Met (format : Format) (content : Content) (top : Option HeadLinks) (k texts : List ℕ)
    (count : ℕ) (whole : List Tree) : Type 0 where
  pub placed : Placed
  pub head_is : head_of placed ≡ top
  pub rows : HasRows content (rows_of format placed)
  pub mst : IsMst format (tree_of format placed)
  pub holds : texts ++ framed (map text (nodes_met k (tree_of format placed))) ≡ framed
      (map text whole)
  pub counts : count + length (nodes_met k (tree_of format placed)) ≡ length whole

-- the same of a node whose head was read
pub record MetNode (format : Format) (content : Content) (links : HeadLinks) (k texts : List ℕ)
    (count : ℕ) (whole : List Tree) : Type 0 where
  pub chain : Chain
  pub lies : LiesBehind format content links chain
  pub mst : IsMstEntries format links.layer (entries_of format chain)
  pub holds : texts ++ framed
      (map text (node format links.layer (entries_of format chain) ∷ met_in_gap k
      (entries_of format chain))) ≡ framed (map text whole)
  pub counts : count + (length (met_in_gap k (entries_of format chain)) + 1) ≡ length whole

-- at the end of the trail
pub record Whole (texts : List ℕ) (count : ℕ) (whole : List Tree) : Type 0 where
  pub texts_are : texts ≡ framed (map text whole)
  pub count_is : count ≡ length whole

pub begins : (format : Format) {content : Content} {at : Root} {m : List Pair}
    (s : Stands format content at m) (k : List ℕ) {texts : List ℕ} {top : Option HeadLinks}
    → ((f : Format) (p : Placed) → Lies f content at.link p → top ≡ head_of p) → texts ≡ []
    → Met format content top k texts 0 (trail format m k)
begins format {m = m} s k read empty = record {
  placed = s.tree.placed;
  head_is = sym (read format s.tree.placed (lies_at s));
  rows = s.tree.rows;
  mst = let Mst : Tree → Type 0 = IsMst format in subst Mst (sym s.tree.is) (tree_mst format m);
  holds =
      ap (λ (texts : List ℕ). texts ++ framed
      (map text (nodes_met k (tree_of format s.tree.placed)))) empty
      ∙ ap (λ (t : Tree). framed (map text (nodes_met k t))) s.tree.is;
  counts = omega (arith, ap (λ (t : Tree). length (nodes_met k t)) s.tree.is);
}

module _ (format : Format) {content : Content} {top : Option HeadLinks} {k texts : List ℕ}
    {count : ℕ} {whole : List Tree} (r : Met format content top k texts count whole) where
  pub opens : {links : HeadLinks} → top ≡ Some links → MetNode format content links k texts count
      whole
  opens {links} some = go r.placed (r.head_is ∙ some) r.rows r.mst r.holds r.counts
    where
      go : (p : Placed) → head_of p ≡ Some links → HasRows content (rows_of format p)
          → IsMst format (tree_of format p) → texts ++ framed
          (map text (nodes_met k (tree_of format p))) ≡ framed (map text whole)
          → count + length (nodes_met k (tree_of format p)) ≡ length whole → MetNode format content
          links k texts count whole
      go none is rows mst holds counts = let no : ◌≡◌ {A = Option HeadLinks} None (Some links) =
          is in cc
      go (head at l c) is rows mst holds counts =
          let opened = opened_head format content links at l c is rows in
          record {
            chain = c;
            lies = opened.0;
            mst = subst (λ (n : ℕ). IsMstEntries format n (entries_of format c)) opened.1 mst.2;
            holds =
                subst (λ (n : ℕ). texts ++ framed
                (map text (node format n (entries_of format c) ∷ met_in_gap k
                (entries_of format c))) ≡ framed (map text whole)) opened.1 holds;
            counts = omega (arith, counts);
          }

  pub ends : top ≡ None → Whole texts count whole
  ends nothing = go r.placed (r.head_is ∙ nothing) r.holds r.counts
    where
      go : (p : Placed) → head_of p ≡ None → texts ++ framed
          (map text (nodes_met k (tree_of format p))) ≡ framed (map text whole)
          → count + length (nodes_met k (tree_of format p)) ≡ length whole → Whole texts count whole
      go none is holds counts =
          record { texts_are = sym (append-nil texts) ∙ holds; count_is = omega (arith, counts) }
      go (head at l c) is holds counts =
          let no : ◌≡◌ {A = Option HeadLinks}
          (Some (record { layer = l; count = count_of c; first = first_of c; tail = tail_of c }))
          None = is in cc

module _ (format : Format) {content : Content} {links : HeadLinks} {k texts : List ℕ} {count : ℕ}
    {whole : List Tree} (d : MetNode format content links k texts count whole) where
  pub goes_on : {t next : List ℕ} {top : Option HeadLinks} → top ≡ head_of (gap_placed k d.chain)
      → t ≡ text (node format links.layer (entries_of format d.chain))
      → next ≡ texts ++ (to_be_bytes w32 (length t) ++ t) → Met format content top k next
      (count + 1) whole
  goes_on is text_is next_is =
      let g = in_gap format content k links.layer d.chain d.lies.rows d.mst in
      record {
        placed = gap_placed k d.chain;
        head_is = sym is;
        rows = g.rows;
        mst = g.mst;
        holds =
            ap (λ (x : List ℕ). x ++ framed
            (map text (nodes_met k (tree_of format (gap_placed k d.chain)))))
            (next_is ∙ ap (λ (x : List ℕ). texts ++ (to_be_bytes w32 (length x) ++ x)) text_is)
            ∙ ap (λ (ns : List Tree).
            (texts ++ (to_be_bytes w32
            (length (text (node format links.layer (entries_of format d.chain)))) ++ text
            (node format links.layer (entries_of format d.chain)))) ++ framed (map text ns))
            g.trail
            ∙ append_assoc texts _ _
            ∙ d.holds;
        counts = omega (arith, d.counts, ap length g.trail);
      }

  pub goes_down : {top : Option HeadLinks} → top ≡ head_of (gap_placed k d.chain)
      → depth top < links.layer + 1
  goes_down {top} is = falls format links.layer (gap_placed k d.chain) top
      (in_gap format content k links.layer d.chain d.lies.rows d.mst).under is
