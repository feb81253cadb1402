-- A node that stands, made into items by a walk along its entries.
use Rattle.mst_batch.proofs.Names.{◌≡◌, ℕ, ◌+◌, ◌-◌, ◌<◌, List, [], ◌∷◌, ◌++◌, Some, sym, ◌∙◌, ap, subst, arith, append_assoc, option_and_then, if◌then◌else◌, nat_tests, Format, Content, part_at, head_links, HeadLinks, KeyedLinks, Placed, none, head, Chain, link_of, head_row, rows_of, HasRows, Lies, head_of, Onward, AtCell, further, node_at, IsItem, IsStanding, tree_items, chain_items, node_items, opened, Item}
use Rattle.std.specs.Prelude.{◌==◌, true, Bool}
use Rattle.mst_batch.specs.declared.items.Item.TheVariants as item
use Rattle.mst_batch.proofs.Besides.{node_rows}
use Rattle.mst_batch.proofs.Heads.{with_head}
use Rattle.mst_batch.proofs.Tops.{node_is}

-- so many items, and then those of the rest of a chain, are all
abbrev pub Makes : ℕ → List Item → List Item → Chain → Type 0
Makes l items all rest = items ++ chain_items l rest ≡ all

-- the walk begins at the head that was read
pub begins : (format : Format) (content : Content) (link : ℕ) (p : Placed)
    → Lies format content link p → 0 < link → (h : HeadLinks)
    → part_at head_links content (link - 1) ≡ Some h → (items : List Item)
    → Onward format content h.tail h.first 0 h.count (Makes h.layer items (items ++ node_items p))
begins format content link p lies some h read items =
    let top = with_head p lies.rows (go p lies.at lies.rows) in
    record {
      rest = top.chain;
      first_is = top.lies.first;
      tail_is = top.lies.tail;
      left = omega (arith, top.lies.count);
      rows = top.lies.rows;
      holds = ap (λ (q : Placed). items ++ node_items q) (sym top.is);
    }
  where
    go : (p : Placed) → link_of p ≡ link → HasRows content (rows_of format p)
        → head_of p ≡ Some h
    go none at has = absurd (omega (arith, at, some))
    go (head i l chain) at has =
        let same : link - 1 ≡ i = omega (arith, at) in
        let there : content (link - 1) ≡ Some (head_row format l chain) =
        ap content same ∙ has.0 in
        sym (ap (option_and_then head_links) there) ∙ read

-- the tree before an entry is added, and then its pair
pub goes_on : {format : Format} {content : Content} {tail row done all : ℕ} {e : KeyedLinks}
    (l : ℕ) (items whole : List Item)
    (a : AtCell format content tail row done all e (Makes l items whole))
    (between after : List Item) → between ≡ items ++ tree_items a.child
    → after ≡ between ++ item.Kept row l ∷ []
    → Onward format content tail e.next (done + 1) all (Makes l after whole)
goes_on {row = row} {e = e} l items whole a between after first then_is =
    let pair = item.Kept row l in
    let more = chain_items l a.rest in
    let is : after ≡ items ++ (tree_items a.child ++ item.Kept row l ∷ []) =
    then_is
    ∙ ap (λ (xs : List Item). xs ++ item.Kept row l ∷ []) first
    ∙ append_assoc items (tree_items a.child) (pair ∷ []) in
    further a (Makes l after whole)
    (ap (λ (xs : List Item). xs ++ chain_items l a.rest) is
    ∙ append_assoc items (tree_items a.child ++ pair ∷ []) more
    ∙ ap (λ (xs : List Item). items ++ xs) (append_assoc (tree_items a.child) (pair ∷ []) more)
    ∙ a.holds)

-- ---- a tree among the items

module _ (format : Format) (content : Content) (whole : Placed)
    (s : IsStanding format content whole) where
  pub item_lies : (link layer : ℕ) → IsItem format whole (item.Subtree link layer)
      → Lies format content link (node_at whole link)
  item_lies link layer i =
      subst (Lies format content link) (sym (node_is format content whole s link layer i))
      (record {
        at = sym i.2;
        rows = node_rows format content whole (head i.0 layer i.1) i.3 s.rows;
      })

pub opened_tree : (whole : Placed) (l link layer : ℕ) → layer ≡ l
    → opened whole l (item.Subtree link layer) ≡ node_items (node_at whole link)
opened_tree whole l link layer same =
    let e : (layer == l) ≡ true = grind (arith, nat_tests, same) in
    ap (λ (b : Bool). if b then node_items (node_at whole link)
    else item.Subtree link layer ∷ []) e
