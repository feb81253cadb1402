-- Items added to a list, of an edit, of an entry and of a tree that stands; and the node at a link,
-- which is to be opened.
use Rattle.mst_batch.proofs.Names.{◌≡◌, ℕ, ◌+◌, ◌-◌, ◌<◌, ◌≤◌, ◌⊎◌, inl, inr, List, [], ◌∷◌, ◌++◌, length, get_or, Bor, Option, Some, IsSome, append_assoc, refl, sym, ◌∙◌, ap, subst, arith, option_and_then, Contains, AllByRecursion, append-nil, Contains-append_cases, Format, Edit, AreRising, batched, key_of, layer_in, Pair, IsAscending, alls-append, contains-cases, contains-nothing, pairs, entries_pairs, Content, part_at, head_links, Row, HeadLinks, Placed, none, head, Chain, end, cell, tree_of, entries_of, link_of, first_of, tail_of, count_of, head_row, rows_of, HasRows, rest_rises, child_rises, placed_nodes, chain_nodes, Lies, item_pairs, items_pairs, pair_among, IsItem, IsTold, IsEntryOf, listed, put_of, PartOf, Adds, AreOf, IsStanding, tree_items, Item, Origin, rest_of, first_and_rest, none_left}
use Rattle.mst_key.specs.declared.history.Edit.TheVariants as edit
use Rattle.mst_batch.specs.declared.items.Item.TheVariants as item
use Rattle.mst_batch.proofs.BatchParts.{edited_own, one_of_key}
use Rattle.mst_batch.proofs.Besides.{node_rows}
use Rattle.mst_batch.proofs.Homes.{node_below}
use Rattle.mst_batch.proofs.Tops.{items_pairs-append, tree_pairs, tree_each}

-- ---- lists of items

module _ (format : Format) (whole : Placed) where
  pub adds_none : (xs : List Item) → Adds format whole xs xs []
  adds_none xs = record {
    follow = sym (append-nil (items_pairs format whole xs));
    each = λ all. all;
  }

  pub adds_all : (xs ys added : List Item) → ys ≡ xs ++ added
      → AllByRecursion (IsItem format whole) added
      → Adds format whole xs ys (items_pairs format whole added)
  adds_all xs ys added pushed is = record {
    follow = ap (items_pairs format whole) pushed ∙ items_pairs-append format whole xs added;
    each = λ all. subst (AllByRecursion (IsItem format whole)) (sym pushed)
        (alls-append (IsItem format whole) xs added all is);
  }

  pub adds_then : (xs ys zs : List Item) (m n : List Pair) → Adds format whole xs ys m
      → Adds format whole ys zs n → Adds format whole xs zs (m ++ n)
  adds_then xs ys zs m n one more = record {
    follow = more.follow ∙ ap (λ (l : List Pair). l ++ n) one.follow
        ∙ append_assoc (items_pairs format whole xs) m n;
    each = λ all. more.each (one.each all);
  }

  pub adds_as : (xs ys : List Item) (m n : List Pair) → m ≡ n → Adds format whole xs ys m
      → Adds format whole xs ys n
  adds_as xs ys m n same adds = subst (Adds format whole xs ys) same adds

  pub adds_one : (xs ys : List Item) (x : Item) → ys ≡ xs ++ x ∷ [] → IsItem format whole x
      → Adds format whole xs ys (item_pairs format whole x)
  adds_one xs ys x pushed is =
      adds_as xs ys (items_pairs format whole (x ∷ [])) (item_pairs format whole x)
      (append-nil (item_pairs format whole x)) (adds_all xs ys (x ∷ []) pushed (is, tt))

  -- what an edit puts, where the layer is that of its key
  pub adds_put : (xs ys : List Item) (e : Edit) (key value : List ℕ) (k v : Bor (List ℕ))
      (layer : ℕ) (o : Origin) → e ≡ edit.Put key value → k.now ≡ key → v.now ≡ value
      → ys ≡ xs ++ item.Put k v layer o ∷ [] → IsTold format whole (k.now, v.now) o
      → layer_in format (key_of e) ≡ layer → Adds format whole xs ys (put_of e)
  adds_put xs ys e key value k v layer o e_is k_is v_is pushed told own =
      let is : e ≡ edit.Put k.now v.now = e_is ∙ (λ i. edit.Put (sym k_is i) (sym v_is i)) in
      subst (λ (f : Edit). Adds format whole xs ys (put_of f)) (sym is)
      (adds_one xs ys (item.Put k v layer o) pushed
      (subst (λ (f : Edit). layer_in format (key_of f) ≡ layer) is own, told))

  -- ---- an entry of a key of this layer, with the edit of its key

  module _ (xs ys : List Item) (key value : List ℕ) (layer : ℕ) (own : List (Bor Edit))
      (rising : AreRising (listed own)) (of_key : AreOf (listed own) key)
      (key_layer : layer_in format key ≡ layer) where
    pub adds_own : (e : Bor Edit) → 1 ≤ length own → e ≡ get_or own 0 e
        → (layer_in format (key_of e.now) ≡ layer → Adds format whole xs ys (put_of e.now))
        → Adds format whole xs ys (batched ((key, value) ∷ []) (listed own))
    adds_own e some e_is put =
        let own_is : listed own ≡ e.now ∷ listed (rest_of own) =
        ap listed (first_and_rest own e some e_is) in
        let keys : AreOf (e.now ∷ listed (rest_of own)) key =
        subst (λ (es : List Edit). AreOf es key) own_is of_key in
        let alone : listed (rest_of own) ≡ [] =
        one_of_key key e.now (listed (rest_of own)) (subst AreRising own_is rising) keys in
        adds_as xs ys (put_of e.now) (batched ((key, value) ∷ []) (listed own))
        (sym (ap (batched ((key, value) ∷ [])) (own_is
        ∙ ap (λ (es : List Edit). e.now ∷ es) alone)
        ∙ edited_own key value e.now keys.0))
        (put (ap (layer_in format) keys.0 ∙ key_layer))

    pub adds_entry : (row : ℕ) → length own < 1 → ys ≡ xs ++ item.Kept row layer ∷ []
        → IsEntryOf format whole row (key, value)
        → pair_among (rows_of format whole) row ≡ (key, value) ∷ []
        → Adds format whole xs ys (batched ((key, value) ∷ []) (listed own))
    adds_entry row empty pushed told found =
        adds_as xs ys (pair_among (rows_of format whole) row)
        (batched ((key, value) ∷ []) (listed own))
        (found ∙ ap (λ (es : List (Bor Edit)). batched ((key, value) ∷ []) (listed es))
        (sym (none_left own empty)))
        (adds_one xs ys (item.Kept row layer) pushed ((key, value), told, found, key_layer))

-- ---- the keys of a node rise if those of the whole tree do

module _ (format : Format) where
  mutual
    pub node_rises : (w p : Placed) → Contains (placed_nodes w) p
        → IsAscending (pairs (tree_of format w)) → IsAscending (pairs (tree_of format p))
    node_rises none p has rise = absurd (contains-nothing p has)
    node_rises (head at layer chain) p has rise =
        elim (contains-cases (head at layer chain) (chain_nodes chain) p has) [
          | inl same ↦ subst (λ (r : Placed). IsAscending (pairs (tree_of format r))) same rise
          | inr later ↦ chain_rises chain p later rise
        ]

    chain_rises : (c : Chain) (p : Placed) → Contains (chain_nodes c) p
        → IsAscending (entries_pairs (entries_of format c))
        → IsAscending (pairs (tree_of format p))
    chain_rises (end child) p has rise = node_rises child p has rise
    chain_rises (cell at child key value rest) p has rise =
        elim (Contains-append_cases (placed_nodes child) (chain_nodes rest) p has) [
          | inl k ↦ node_rises child p k
              (child_rises (tree_of format child) key value (entries_of format rest) rise)
          | inr k ↦ chain_rises rest p k
              (rest_rises (tree_of format child) key value (entries_of format rest) rise)
        ]

-- ---- a part of the tree

module _ (format : Format) (content : Content) (whole : Placed) (link : ℕ)
    (part : PartOf format content whole link) where
  -- its rows stand there
  pub part_lies : Lies format content link part.placed
  part_lies = record { at = part.at; rows = go part.placed part.part }
    where
      go : (p : Placed) → (p ≡ none) ⊎ Contains (placed_nodes whole) p
          → HasRows content (rows_of format p)
      go none which = tt
      go (head i l chain) (inl nothing) = absurd cc
      go (head i l chain) (inr within) =
          node_rows format content whole (head i l chain) within part.rows

  -- without an edit it stays as it stands: it is one item, or none if it is empty
  pub tree_stays : (xs ys : List Item) (edits : List (Bor Edit)) → length edits < 1
      → (Lies format content link part.placed → ys ≡ xs ++ tree_items part.placed)
      → Adds format whole xs ys (batched (pairs (tree_of format part.placed)) (listed edits))
  tree_stays xs ys edits empty pushed =
      adds_as format whole xs ys (items_pairs format whole (tree_items part.placed))
      (batched (pairs (tree_of format part.placed)) (listed edits))
      (tree_pairs format content whole s part.placed inside
      ∙ ap (λ (es : List (Bor Edit)). batched (pairs (tree_of format part.placed)) (listed es))
      (sym (none_left edits empty)))
      (adds_all format whole xs ys (tree_items part.placed) (pushed part_lies)
      (tree_each format content whole s part.placed inside))
    where
      s : IsStanding format content whole
      s = record { rows = part.rows; search = part.search }

      go : (p : Placed) → (p ≡ none) ⊎ Contains (placed_nodes whole) p → (r : Placed)
          → Contains (placed_nodes p) r → Contains (placed_nodes whole) r
      go none which r has = absurd (contains-nothing r has)
      go (head i l chain) (inl nothing) r has = absurd cc
      go (head i l chain) (inr within) r has =
          node_below whole (head i l chain) r within has

      inside : (r : Placed) → Contains (placed_nodes part.placed) r
          → Contains (placed_nodes whole) r
      inside = go part.placed part.part

  -- at another link stands a node
  pub record IsNode : Type 0 where
    pub row : ℕ
    pub layer : ℕ
    pub chain : Chain
    pub is : part.placed ≡ head row layer chain
    pub at : row + 1 ≡ link
    pub within : Contains (placed_nodes whole) (head row layer chain)
    pub there : content (link - 1) ≡ Some (head_row format layer chain)

  pub node_there : 0 < link → IsNode
  node_there some = go part.placed refl part.at part.part
    where
      go : (p : Placed) → part.placed ≡ p → link_of p ≡ link
          → (p ≡ none) ⊎ Contains (placed_nodes whole) p → IsNode
      go none is at which = absurd (omega (arith, at, some))
      go (head i l chain) is at (inl nothing) = absurd cc
      go (head i l chain) is at (inr within) =
          let has = node_rows format content whole (head i l chain) within part.rows in
          let same : link - 1 ≡ i = omega (arith, at) in
          record {
            row = i;
            layer = l;
            chain = chain;
            is = is;
            at = at;
            within = within;
            there = ap content same ∙ has.0;
          }

  module _ (some : 0 < link) where
    pub node : IsNode
    node = node_there some

    pub head_there : IsSome (part_at head_links content (link - 1))
    head_there =
        subst (λ (o : Option Row). IsSome (option_and_then head_links o)) (sym node.there) refl

    module _ (h : HeadLinks) (read : part_at head_links content (link - 1) ≡ Some h) where
      pub links : record {
        layer = node.layer;
        count = count_of node.chain;
        first = first_of node.chain;
        tail = tail_of node.chain;
      } ≡ h
      links =
          let both : Some
          (record {
            layer = node.layer;
            count = count_of node.chain;
            first = first_of node.chain;
            tail = tail_of node.chain;
          }) ≡ Some h = sym (ap (option_and_then head_links) node.there) ∙ read in
          cc

      pub layer_is : node.layer ≡ h.layer
      layer_is = ap (λ (x : HeadLinks). x.layer) links
