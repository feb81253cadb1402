-- A walk down from node to node.
use Rattle.mst_read.proofs.Names.{◌≡◌, ℕ, ◌+◌, ◌<◌, ◌≤◌, List, [], Option, Some, None, refl, sym, ◌∙◌, ap, subst, arith, IfSome, Format, Pair, IsAscending, Tree, pairs, entries_pairs, IsMst, IsMstEntries, IsUnder, tree_mst, Content, Root, HeadLinks, IsHead, Placed, none, head, Chain, tree_of, entries_of, first_of, tail_of, count_of, rows_of, HasRows, Stands, Lies, LiesBehind, TreeLies, StandsBelow, head_of, HeadStands}
use Rattle.mst_node.proofs.UniqueTree.{pairs_tree}
use Rattle.mst_read.specs.Search.{ChainLies}
use Rattle.mst_read.proofs.Still.{lies_still, behind_still}

-- a Merkle search tree under a layer, whose keys rise, lies at the link, and something holds of its
-- pairs
pub record Ahead (format : Format) (content : Content) (layer link : ℕ) (P : List Pair → Type 0) :
    Type 0 where
  pub placed : Placed
  pub lies : Lies format content link placed
  pub under : IsUnder layer (tree_of format placed)
  pub mst : IsMst format (tree_of format placed)
  pub rise : IsAscending (pairs (tree_of format placed))
  pub holds : P (pairs (tree_of format placed))

-- a Merkle search tree whose keys rise has the head that was read, and something holds of its pairs
pub record Reached (format : Format) (content : Content) (top : Option HeadLinks)
    (P : List Pair → Type 0) : Type 0 where
  pub placed : Placed
  pub head_is : head_of placed ≡ top
  pub rows : HasRows content (rows_of format placed)
  pub mst : IsMst format (tree_of format placed)
  pub rise : IsAscending (pairs (tree_of format placed))
  pub holds : P (pairs (tree_of format placed))

-- the node of a head that was read
pub record Inside (format : Format) (content : Content) (links : HeadLinks)
    (P : List Pair → Type 0) : Type 0 where
  pub chain : Chain
  pub lies : LiesBehind format content links chain
  pub mst : IsMstEntries format links.layer (entries_of format chain)
  pub rise : IsAscending (entries_pairs (entries_of format chain))
  pub holds : P (entries_pairs (entries_of format chain))

-- the number of layers that a tree can have whose head was read
abbrev pub depth : Option HeadLinks → ℕ
depth None = 0
depth (Some links) = links.layer + 1

pub depth_is : {top : Option HeadLinks} {links : HeadLinks} → top ≡ Some links
    → depth top ≡ links.layer + 1
depth_is some = ap depth some

-- no layer is above 128
pub depth_small : (top : Option HeadLinks) → IfSome top IsHead → depth top ≤ 129
depth_small None is = omega arith
depth_small (Some links) is = omega (arith, is.0)

-- layers fall
pub falls : (format : Format) (l : ℕ) (p : Placed) (top : Option HeadLinks)
    → IsUnder l (tree_of format p) → top ≡ head_of p → depth top < l + 1
falls format l none top under is = let e : depth top ≡ 0 = ap depth is in omega arith
falls format l (head at k c) top under is = let e : depth top ≡ k + 1 =
    ap depth is in omega (arith, under)

-- what stands at a root
module _ {format : Format} {content : Content} {at : Root} {m : List Pair}
    (s : Stands format content at m) where
  -- at its link, whatever digest is kept beside it
  pub at_link : StandsBelow format content at.link m
  at_link = record { map = s.map; digest = refl; tree = s.tree }

  pub lies_at : Lies format content at.link s.tree.placed
  lies_at = record { at = s.tree.at; rows = s.tree.rows }

  pub there_at : TreeLies content at.link
  there_at = (format, s.tree.placed, lies_at)

  pub pairs_at : pairs (tree_of format s.tree.placed) ≡ m
  pairs_at = ap pairs s.tree.is ∙ pairs_tree format m

  -- and its head was read
  pub head_stands : {top : Option HeadLinks}
      → ((f : Format) (p : Placed) → Lies f content at.link p → top ≡ head_of p)
      → HeadStands format content top s.tree.placed
  head_stands read = record {
    head_is = sym (read format s.tree.placed lies_at);
    rows = s.tree.rows;
    mst = let Mst : Tree → Type 0 = IsMst format in subst Mst (sym s.tree.is) (tree_mst format m);
    rise = subst IsAscending (sym pairs_at) s.map.ascending;
  }

  pub reached_at : (P : List Pair → Type 0) → P m → {top : Option HeadLinks}
      → ((f : Format) (p : Placed) → Lies f content at.link p → top ≡ head_of p)
      → Reached format content top P
  reached_at P holds read =
      let h = head_stands read in
      record {
        placed = s.tree.placed;
        head_is = h.head_is;
        rows = h.rows;
        mst = h.mst;
        rise =
            h.rise;
        holds = subst P (sym pairs_at) holds;
      }

module _ {format : Format} {content : Content} {layer link : ℕ} {P : List Pair → Type 0}
    (a : Ahead format content layer link P) where
  pub ahead_there : {after : Content} → after ≡ content → TreeLies after link
  ahead_there same = (format, a.placed, lies_still same a.lies)

  -- what follows from what holds of its pairs
  pub holding : (Q : List Pair → Type 0) → ((ps : List Pair) → P ps → Q ps) → Ahead format content
      layer link Q
  holding Q f = record {
    placed = a.placed;
    lies = a.lies;
    under = a.under;
    mst = a.mst;
    rise =
        a.rise;
    holds = f (pairs (tree_of format a.placed)) a.holds;
  }

  -- the head of the tree ahead is read, while the rows are the same
  module _ {after : Content} {top : Option HeadLinks} (same : after ≡ content)
      (read : (f : Format) (p : Placed) → Lies f after link p → top ≡ head_of p) where
    top_is : top ≡ head_of a.placed
    top_is = read format a.placed (lies_still same a.lies)

    pub reach : Reached format content top P
    reach = record {
      placed = a.placed;
      head_is = sym top_is;
      rows = a.lies.rows;
      mst =
          a.mst;
      rise = a.rise;
      holds = a.holds;
    }

    pub lower : depth top < layer + 1
    lower = falls format layer a.placed top a.under top_is

-- the node has the head that was read
pub opened_head : (format : Format) (content : Content) (links : HeadLinks) (at l : ℕ) (c : Chain)
    → head_of (head at l c) ≡ Some links → HasRows content (rows_of format (head at l c))
    → LiesBehind format content links c × (l ≡ links.layer)
opened_head format content links at l c is rows =
    let whole : Some
    (record { layer = l; count = count_of c; first = first_of c; tail = tail_of c })
    ≡ Some links = is in
    let fields : record {
      layer = l;
      count = count_of c;
      first = first_of c;
      tail = tail_of c;
    } ≡ links = cc in (
      record {
        first = ap (λ (x : HeadLinks). x.first) fields;
        tail = ap (λ (x : HeadLinks). x.tail) fields;
        count = ap (λ (x : HeadLinks). x.count) fields;
        rows = rows.1;
      },
      ap (λ (x : HeadLinks). x.layer) fields,
    )

module _ {format : Format} {content : Content} {top : Option HeadLinks} {P : List Pair → Type 0}
    (r : Reached format content top P) where
  pub inside : {links : HeadLinks} → top ≡ Some links → Inside format content links P
  inside {links} some = go r.placed (r.head_is ∙ some) r.rows r.mst r.rise r.holds
    where
      go : (p : Placed) → head_of p ≡ Some links → HasRows content (rows_of format p)
          → IsMst format (tree_of format p) → IsAscending (pairs (tree_of format p))
          → P (pairs (tree_of format p)) → Inside format content links P
      go none is rows mst rise holds = let no : None ≡ Some links = is in cc
      go (head at l c) is rows mst rise holds =
          let opened = opened_head format content links at l c is rows in
          record {
            chain = c;
            lies = opened.0;
            mst = subst (λ (n : ℕ). IsMstEntries format n (entries_of format c)) opened.1 mst.2;
            rise = rise;
            holds = holds;
          }

  -- the empty tree has no pairs
  pub at_nothing : top ≡ None → P []
  at_nothing nothing = go r.placed (r.head_is ∙ nothing) r.holds
    where
      go : (p : Placed) → head_of p ≡ None → P (pairs (tree_of format p)) → P []
      go none is holds = holds
      go (head at l c) is holds =
          let no : ◌≡◌ {A = Option HeadLinks}
          (Some (record {
            layer = l;
            count = count_of c;
            first = first_of c;
            tail =
                tail_of c;
          })) None = is in cc

pub node_there : {format : Format} {content : Content} {links : HeadLinks} {P : List Pair → Type 0}
    (d : Inside format content links P) {after : Content} → after ≡ content → ChainLies after links
node_there {format} d same = (format, d.chain, behind_still same d.lies)
