-- A node that is opened: its entries one after another, each with the tree before it, and the tree
-- in its last gap.
use Rattle.mst_batch.proofs.Names.{◌≡◌, ℕ, ◌+◌, ◌-◌, ◌<◌, ◌⊎◌, inl, inr, List, [], ◌∷◌, ◌++◌, Option, Some, IsSome, append_assoc, refl, sym, ◌∙◌, ap, subst, arith, option_and_then, Contains, Result, Ok, Err, AllByRecursion, Contains-append_left, Contains-append_right, Format, Edit, AreAbove, AreRising, batched, layer_in, Pair, IsAscending, contains-first, contains-later, pairs, entries_pairs, IsMstEntries, Content, part_at, head_links, keyed_links, entry_pair, entry_value, Row, Entry, HeadLinks, KeyedLinks, Placed, none, head, Chain, end, cell, tree_of, entries_of, link_of, first_of, tail_of, count_of, rows_of, chain_rows, HasRows, all-front, all-back, rest_rises, placed_nodes, chain_nodes, height_at, items_pairs, IsItem, IsEntryOf, PartOf, Adds, AreBelow, AreOf, Item, lower, rising-back}
use Rattle.std.specs.Prelude.{OnOk}
use Rattle.mst_batch.proofs.BatchParts.{batched_at}
use Rattle.mst_batch.proofs.Besides.{node_rows}
use Rattle.mst_batch.proofs.Homes.{node_below}
use Rattle.mst_batch.proofs.Openings.{adds_none, adds_then, adds_as, node_rises, IsNode, node, links, layer_is}
use Rattle.mst_batch.proofs.Tops.{node_mst}

-- What is left of a node after so many entries: the rest of the chain and of the edits. Its pairs
-- after these edits, behind the pairs that were added so far, are all that the node adds.
pub record Opening (format : Format) (content : Content) (whole : Placed) (layer : ℕ)
    (old new : List Item) (all : List Pair) (left : List Edit) (tail next done count : ℕ)
    : Type 0 where
  pub rest : Chain
  pub first_is : first_of rest ≡ next
  pub tail_is : tail_of rest ≡ tail
  pub counted : count_of rest + done ≡ count
  pub rows : HasRows content (chain_rows format rest)
  pub search : IsMstEntries format layer (entries_of format rest)
  pub rise : IsAscending (entries_pairs (entries_of format rest))
  pub within : (p : Placed) → Contains (chain_nodes rest) p → Contains (placed_nodes whole) p
  pub held : (x : Content) → HasRows x (rows_of format whole) → HasRows x (chain_rows format rest)
  pub rising : AreRising left
  pub added : List Pair
  pub adds : Adds format whole old new added
  pub is : added ++ batched (entries_pairs (entries_of format rest)) left ≡ all

-- what the items of a part of the tree after edits add
abbrev pub Opens : Format → Content → ℕ → List Item → List Item → List Edit → Type 0
Opens format content link old new edits = (whole : Placed)
    (part : PartOf format content whole link)
    → Adds format whole old new (batched (pairs (tree_of format part.placed)) edits)

pub opens : (format : Format) (content : Content) (link : ℕ) (old new : List Item)
    (edits : List Edit)
    → ((whole : Placed) (part : PartOf format content whole link)
    → items_pairs format whole new ≡ items_pairs format whole old
    ++ batched (pairs (tree_of format part.placed)) edits)
    → ((whole : Placed) → PartOf format content whole link
    → AllByRecursion (IsItem format whole) old → AllByRecursion (IsItem format whole) new)
    → Opens format content link old new edits
opens format content link old new edits follow each = λ whole part.
    record { follow = follow whole part; each = each whole part }

-- of the outcome of a call
pub both_ok : {T E P Q R : Type 0} (r : Result T E) → (P → Q → R) → OnOk r P → OnOk r Q → OnOk r R
both_ok (Ok x) join p q = join p q
both_ok (Err e) join p q = tt

-- a tree in a gap is a part of the whole tree
pub in_whole : (whole child : Placed)
    → ((p : Placed) → Contains (placed_nodes child) p → Contains (placed_nodes whole) p)
    → (child ≡ none) ⊎ Contains (placed_nodes whole) child
in_whole whole none within = inl refl
in_whole whole (head row layer chain) within =
    inr (within (head row layer chain)
    (contains-first (head row layer chain) (chain_nodes chain) (head row layer chain) refl))

abbrev pub part_of_gap : (format : Format) (content : Content) (whole : Placed) (link : ℕ)
    → PartOf format content whole link → (child : Placed) (at : ℕ) → link_of child ≡ at
    → ((p : Placed) → Contains (placed_nodes child) p → Contains (placed_nodes whole) p)
    → PartOf format content whole at
part_of_gap format content whole link part child at is within = record {
  rows = part.rows;
  search = part.search;
  rise = part.rise;
  placed = child;
  at = is;
  part = in_whole whole child within;
}

-- the node before its first entry
module _ (format : Format) (content : Content) (whole : Placed) (link : ℕ)
    (part : PartOf format content whole link) (some : 0 < link) (h : HeadLinks)
    (read : part_at head_links content (link - 1) ≡ Some h) where
  pub begun : (old : List Item) (edits : List Edit) → AreRising edits
      → Opening format content whole h.layer old old
      (batched (pairs (tree_of format part.placed)) edits) edits h.tail h.first 0 h.count
  begun old edits rising =
      let n : IsNode format content whole link part = node format content whole link part some in
      let top : Placed = head n.row n.layer n.chain in
      let same = links format content whole link part some h read in
      let mst = node_mst format whole top n.within part.search in
      record {
        rest = n.chain;
        first_is = ap (λ (x : HeadLinks). x.first) same;
        tail_is = ap (λ (x : HeadLinks). x.tail) same;
        counted = omega (arith, ap (λ (x : HeadLinks). x.count) same);
        rows = (node_rows format content whole top n.within part.rows).1;
        search = subst (λ (l : ℕ). IsMstEntries format l (entries_of format n.chain))
            (layer_is format content whole link part some h read) mst.2;
        rise = node_rises format whole top n.within part.rise;
        within = λ p k. node_below whole top p n.within
            (contains-later top (chain_nodes n.chain) p k);
        held = λ x rows. (node_rows format x whole top n.within rows).1;
        rising = rising;
        added = [];
        adds = adds_none format whole old;
        is = ap (λ (p : Placed). batched (pairs (tree_of format p)) edits) (sym n.is);
      }

-- the entry that was read, with the tree before it, and what is left after it
pub record AtEntry (format : Format) (content : Content) (whole : Placed) (layer : ℕ)
    (old new : List Item) (all : List Pair) (left : List Edit) (tail row done count : ℕ)
    (e : KeyedLinks) : Type 0 where
  pub child : PartOf format content whole e.child
  pub falls : height_at content e.child < layer + 1
  pub key_is : layer_in format e.key ≡ layer
  pub value : List ℕ
  pub value_is : part_at entry_value content row ≡ Some value
  pub told : IsEntryOf format whole row (e.key, value)
  pub after : (mid more : List Item) (lo own hi : List Edit) → left ≡ lo ++ (own ++ hi)
      → AreBelow lo e.key → AreOf own e.key → AreAbove hi e.key
      → Adds format whole new mid (batched (pairs (tree_of format child.placed)) lo)
      → Adds format whole mid more (batched ((e.key, value) ∷ []) own)
      → Opening format content whole layer old more all hi tail e.next (done + 1) count

module _ (format : Format) (content : Content) (whole : Placed) (layer : ℕ)
    (old new : List Item) (all : List Pair) (left : List Edit) (tail next done count : ℕ)
    (o : Opening format content whole layer old new all left tail next done count) where
  -- an entry stands at the next link
  pub entry_there : done < count
      → IsSome (part_at keyed_links content (next - 1)) × IsSome (part_at entry_value content
      (next - 1)) × (0 < next)
  entry_there some = go o.rest o.first_is o.counted o.rows
    where
      go : (c : Chain) → first_of c ≡ next → count_of c + done ≡ count
          → HasRows content (chain_rows format c)
          → IsSome (part_at keyed_links content (next - 1))
          × IsSome (part_at entry_value content (next - 1)) × (0 < next)
      go (end p) first counted has = absurd (omega (arith, some, counted))
      go (cell at p key value c) first counted has =
          let same : next - 1 ≡ at = omega (arith, first) in
          let there : content (next - 1) ≡ Some (Entry (link_of p) (first_of c) key value) =
          ap content same ∙ has.0 in (
            subst (λ (r : Option Row). IsSome (option_and_then keyed_links r)) (sym there) refl,
            subst (λ (r : Option Row). IsSome (option_and_then entry_value r)) (sym there) refl,
            omega (arith, first),
          )

  module _ (link : ℕ) (part : PartOf format content whole link) where
    -- the entry with the tree before it, in the terms of the chain
    at_cell : (at : ℕ) (p : Placed) (key value : List ℕ) (c : Chain) → at + 1 ≡ next
        → tail_of c ≡ tail → count_of c + 1 + done ≡ count
        → HasRows content (chain_rows format (cell at p key value c))
        → IsMstEntries format layer (entries_of format (cell at p key value c))
        → IsAscending (entries_pairs (entries_of format (cell at p key value c)))
        → ((q : Placed) → Contains (chain_nodes (cell at p key value c)) q
        → Contains (placed_nodes whole) q)
        → ((x : Content) → HasRows x (rows_of format whole)
        → HasRows x (chain_rows format (cell at p key value c)))
        → o.added ++ batched (entries_pairs (entries_of format (cell at p key value c))) left
        ≡ all
        → AtEntry format content whole layer old new all left tail (next - 1) done count
        (record { child = link_of p; next = first_of c; key = key })
    at_cell at p key value c first tail_is counted has search rise within held is =
        let same : next - 1 ≡ at = omega (arith, first) in
        let front : List Pair = pairs (tree_of format p) in
        let back : List Pair = entries_pairs (entries_of format c) in
        let child_rows = all-front _ (rows_of format p) (chain_rows format c) has.1 in
        record {
          child = part_of_gap format content whole link part p (link_of p) refl
              (λ q k. within q
              (Contains-append_left (placed_nodes p) (chain_nodes c) q k));
          falls = lower format content layer p child_rows search.0;
          key_is = search.2;
          value = value;
          value_is =
              ap (option_and_then entry_value) (ap content same ∙ has.0);
          told = λ x rows. ap (option_and_then entry_pair) (ap x same ∙ (held x rows).0);
          after = λ mid more lo own hi parts low same_key high before here.
              let now : List Pair = batched front lo ++ batched ((key, value) ∷ []) own in
              record {
                rest = c;
                first_is = refl;
                tail_is = tail_is;
                counted = omega (arith, counted);
                rows = all-back _ (rows_of format p) (chain_rows format c) has.1;
                search = search.3;
                rise = rest_rises (tree_of format p) key value (entries_of format c) rise;
                within = λ q k. within q
                    (Contains-append_right (placed_nodes p) (chain_nodes c) q k);
                held = λ x rows.
                    all-back _ (rows_of format p) (chain_rows format c) (held x rows).1;
                rising = rising-back own hi
                    (rising-back lo (own ++ hi) (subst AreRising parts o.rising));
                added = o.added ++ now;
                adds = adds_then format whole old new more o.added now o.adds
                    (adds_then format whole new mid more (batched front lo)
                    (batched ((key, value) ∷ []) own) before here);
                is = append_assoc o.added now (batched back hi)
                    ∙ ap (λ (m : List Pair). o.added ++ m)
                    (append_assoc (batched front lo) (batched ((key, value) ∷ []) own)
                    (batched back hi)
                    ∙ sym (batched_at front key value back rise lo own hi low same_key high)
                    ∙ ap (batched (front ++ (key, value) ∷ back)) (sym parts))
                    ∙ is;
              };
        }

    pub at_entry : done < count → (e : KeyedLinks)
        → part_at keyed_links content (next - 1) ≡ Some e
        → AtEntry format content whole layer old new all left tail (next - 1) done count e
    at_entry some e read =
        go o.rest o.first_is o.tail_is o.counted o.rows o.search o.rise o.within o.held o.is
      where
        go : (c : Chain) → first_of c ≡ next → tail_of c ≡ tail → count_of c + done ≡ count
            → HasRows content (chain_rows format c)
            → IsMstEntries format layer (entries_of format c)
            → IsAscending (entries_pairs (entries_of format c))
            → ((q : Placed) → Contains (chain_nodes c) q → Contains (placed_nodes whole) q)
            → ((x : Content) → HasRows x (rows_of format whole) → HasRows x (chain_rows format c))
            → o.added ++ batched (entries_pairs (entries_of format c)) left ≡ all
            → AtEntry format content whole layer old new all left tail (next - 1) done count e
        go (end p) first tail_is counted has search rise within held is =
            absurd (omega (arith, some, counted))
        go (cell at p key value c) first tail_is counted has search rise within held is =
            let same : next - 1 ≡ at = omega (arith, first) in
            let there : content (next - 1) ≡ Some (Entry (link_of p) (first_of c) key value) =
            ap content same ∙ has.0 in
            let both : Some (record { child = link_of p; next = first_of c; key = key })
            ≡ Some e = sym (ap (option_and_then keyed_links) there) ∙ read in
            let same_links : record { child = link_of p; next = first_of c; key = key } ≡ e = cc
            in
            subst (AtEntry format content whole layer old new all left tail (next - 1) done count)
            same_links
            (at_cell at p key value c first tail_is counted has search rise within held is)

    -- the tree in the last gap, and what is added with what it adds
    pub at_last : count ≡ done → (p : PartOf format content whole tail)
        × (height_at content tail < layer + 1)
        × ((more : List Item)
        → Adds format whole new more (batched (pairs (tree_of format p.placed)) left)
        → Adds format whole old more all)
    at_last is_all = go o.rest o.tail_is o.counted o.rows o.search o.within o.is
      where
        go : (c : Chain) → tail_of c ≡ tail → count_of c + done ≡ count
            → HasRows content (chain_rows format c)
            → IsMstEntries format layer (entries_of format c)
            → ((q : Placed) → Contains (chain_nodes c) q → Contains (placed_nodes whole) q)
            → o.added ++ batched (entries_pairs (entries_of format c)) left ≡ all
            → (p : PartOf format content whole tail) × (height_at content tail < layer + 1)
            × ((more : List Item)
            → Adds format whole new more (batched (pairs (tree_of format p.placed)) left)
            → Adds format whole old more all)
        go (end p) tail_is counted has search within is = (
          part_of_gap format content whole link part p tail tail_is within,
          subst (λ (n : ℕ). height_at content n < layer + 1) tail_is
              (lower format content layer p has search.0),
          λ more adds. adds_as format whole old more
              (o.added ++ batched (pairs (tree_of format p)) left) all is
              (adds_then format whole old new more o.added
              (batched (pairs (tree_of format p)) left) o.adds adds),
        )
        go (cell at p key value c) tail_is counted has search within is =
            absurd (omega (arith, counted, is_all))
