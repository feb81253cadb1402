-- The link of the node that has a key, by a search that goes down from node to node.
use Rattle.mst_batch.proofs.Names.{◌≡◌, ℕ, ◌<◌, ◌+◌, List, Option, Some, None, refl, sym, ◌∙◌, ap, subst, Ordering, Format, Pair, key_cmp, by_order, IsMst, IsMstEntries, IsUnder, Content, Placed, none, head, Chain, end, cell, tree_of, entries_of, link_of, rows_of, chain_rows, HasRows, Stands, HeadLinks, Root, all-front, all-back, mst_of, Lies, LiesBehind, TreeLies, head_of, chain_links, lies_still, behind_still, depth, link_of_key, chain_link}
use Rattle.std.specs.declared.cmp.Ordering.TheVariants.{Less, Equal, Greater}
use Rattle.mst_read.specs.Search.{ChainLies, place}
use Rattle.mst_read.specs.declared.lookup.RowPlace.{RowPlace}
use Rattle.mst_read.specs.declared.lookup.RowPlace.TheVariants.{Found, Gap}
use Rattle.mst_read.proofs.Descend.{falls, lies_at}
use Rattle.mst_batch.proofs.Heads.{with_head}

-- a search tree lies at the link, its head was read, and the key's link in it is the answer
pub record Reached (format : Format) (content : Content) (q : List ℕ) (link : ℕ)
    (top : Option HeadLinks) (answer : ℕ) : Type 0 where
  pub placed : Placed
  pub lies : Lies format content link placed
  pub head_is : top ≡ head_of placed
  pub mst : IsMst format (tree_of format placed)
  pub is : link_of_key q placed ≡ answer

-- the node of a head that was read at the link
pub record Inside (format : Format) (content : Content) (q : List ℕ) (link : ℕ)
    (links : HeadLinks) (answer : ℕ) : Type 0 where
  pub chain : Chain
  pub lies : LiesBehind format content links chain
  pub mst : IsMstEntries format links.layer (entries_of format chain)
  pub is : chain_link q link chain ≡ answer

-- a search tree under a layer lies at the link
pub record Ahead (format : Format) (content : Content) (q : List ℕ) (layer link answer : ℕ)
    : Type 0 where
  pub placed : Placed
  pub lies : Lies format content link placed
  pub under : IsUnder layer (tree_of format placed)
  pub mst : IsMst format (tree_of format placed)
  pub is : link_of_key q placed ≡ answer

-- ---- where the search in a node ends

module _ (q : List ℕ) where
  at_key : (here row : ℕ) (c : Chain) → place q c ≡ Found row → chain_link q here c ≡ here
  at_key here row (end p) is = let no : Gap (link_of p) ≡ Found row = is in cc
  at_key here row (cell at p key v c) is = go (key_cmp q key) is (at_key here row c)
    where
      go : (o : Ordering) → by_order o (Gap (link_of p)) (Found at) (place q c) ≡ Found row
          → (place q c ≡ Found row → chain_link q here c ≡ here)
          → by_order o (link_of_key q p) here (chain_link q here c) ≡ here
      go Less ends later = let no : Gap (link_of p) ≡ Found row = ends in cc
      go Equal ends later = refl
      go Greater ends later = later ends

  gap : (format : Format) (content : Content) (l link here : ℕ) (c : Chain)
      → HasRows content (chain_rows format c) → IsMstEntries format l (entries_of format c)
      → place q c ≡ Gap link → Ahead format content q l link (chain_link q here c)
  gap format content l link here (end p) rows mst is =
      let at : link_of p ≡ link = cc in
      record {
        placed = p;
        lies = record { at = at; rows = rows };
        under = mst.0;
        mst = mst.1;
        is = refl;
      }
  gap format content l link here (cell at p key v c) rows mst is =
      go (key_cmp q key) is
      (gap format content l link here c (all-back _ (rows_of format p) (chain_rows format c) rows.1)
      mst.3)
    where
      go : (o : Ordering) → by_order o (Gap (link_of p)) (Found at) (place q c) ≡ Gap link
          → (place q c ≡ Gap link → Ahead format content q l link (chain_link q here c))
          → Ahead format content q l link
          (by_order o (link_of_key q p) here (chain_link q here c))
      go Less ends later =
          let below : link_of p ≡ link = cc in
          record {
            placed = p;
            lies = record {
              at = below;
              rows = all-front _ (rows_of format p) (chain_rows format c) rows.1;
            };
            under = mst.0;
            mst = mst.1;
            is = refl;
          }
      go Equal ends later = let no : Found at ≡ Gap link = ends in cc
      go Greater ends later = later ends

-- ---- the head of the tree at the link was read

module _ {format : Format} {content : Content} {q : List ℕ} {link : ℕ} {top : Option HeadLinks}
    {answer : ℕ} (r : Reached format content q link top answer) where
  pub inside : {links : HeadLinks} → top ≡ Some links
      → Inside format content q link links answer
  inside {links} some =
      let h = with_head r.placed r.lies.rows (sym r.head_is ∙ some) in
      let search : IsMst format (tree_of format (head h.row links.layer h.chain)) =
      subst (λ (p : Placed). IsMst format (tree_of format p)) h.is r.mst in
      record {
        chain = h.chain;
        lies = h.lies;
        mst = search.2;
        is = ap (λ (n : ℕ). chain_link q n h.chain) (sym r.lies.at ∙ ap link_of h.is)
            ∙ sym (ap (link_of_key q) h.is) ∙ r.is;
      }

  -- the empty tree has no key
  pub at_nothing : top ≡ None → 0 ≡ answer
  at_nothing nothing = go r.placed (sym r.head_is ∙ nothing) r.is
    where
      go : (p : Placed) → head_of p ≡ None → link_of_key q p ≡ answer → 0 ≡ answer
      go none read is = is
      go (head row l c) read is =
          let no : ◌≡◌ {A = Option HeadLinks} (Some (chain_links l c)) None = read in cc

-- ---- the search in a node ended, while the rows are the same

module _ {format : Format} {content : Content} {q : List ℕ} {link : ℕ} {links : HeadLinks}
    {answer : ℕ} (d : Inside format content q link links answer) where
  pub node_there : {after : Content} → after ≡ content → ChainLies after links
  node_there same = (format, d.chain, behind_still same d.lies)

  module _ {after : Content} {found : RowPlace} (same : after ≡ content)
      (read : (f : Format) (c : Chain) → LiesBehind f after links c → found ≡ place q c) where
    place_is : place q d.chain ≡ found
    place_is = sym (read format d.chain (behind_still same d.lies))

    pub found_here : {row : ℕ} → found ≡ Found row → link ≡ answer
    found_here {row} is = sym (at_key q link row d.chain (place_is ∙ is)) ∙ d.is

    pub in_gap : {below : ℕ} → found ≡ Gap below
        → Ahead format content q links.layer below answer
    in_gap {below} is =
        subst (Ahead format content q links.layer below) d.is
        (gap q format content links.layer below link d.chain d.lies.rows d.mst (place_is ∙ is))

module _ {format : Format} {content : Content} {q : List ℕ} {layer link answer : ℕ}
    (a : Ahead format content q layer link answer) {after : Content} (same : after ≡ content) where
  pub ahead_there : TreeLies after link
  ahead_there = (format, a.placed, lies_still same a.lies)

  module _ {top : Option HeadLinks}
      (read : (f : Format) (p : Placed) → Lies f after link p → top ≡ head_of p) where
    top_is : top ≡ head_of a.placed
    top_is = read format a.placed (lies_still same a.lies)

    pub reach : Reached format content q link top answer
    reach = record { placed = a.placed; lies = a.lies; head_is = top_is; mst = a.mst; is = a.is }

    pub lower : depth top < layer + 1
    lower = falls format layer a.placed top a.under top_is

-- ---- the search begins at a root

pub from_root : {format : Format} {content : Content} {root : Root} {m : List Pair} (q : List ℕ)
    (s : Stands format content root m) {top : Option HeadLinks}
    → ((f : Format) (p : Placed) → Lies f content root.link p → top ≡ head_of p)
    → Reached format content q root.link top (link_of_key q s.tree.placed)
from_root {format} {content} {root} {m} q s read = record {
  placed = s.tree.placed;
  lies = lies_at s;
  head_is = read format s.tree.placed (lies_at s);
  mst = mst_of format s.tree.placed m s.tree.is;
  is = refl;
}
