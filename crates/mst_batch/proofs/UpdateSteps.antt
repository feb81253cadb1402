-- A node into which edits fall that keep its keys: its entries one after another, each planned with
-- the tree before it, and the tree in its last gap.
use Rattle.mst_batch.proofs.Names.{◌≡◌, ℕ, ◌+◌, ◌-◌, ◌<◌, ◌≤◌, ◌⊎◌, inl, inr, List, [], ◌∷◌, ◌++◌, Bor, length, map, Option, Some, IsSome, append_assoc, refl, sym, ◌∙◌, ap, subst, arith, true≢false, option_and_then, Contains, AllByRecursion, append-nil, map-append, Contains-append_left, Contains-append_right, same_Some, Format, Edit, AreAbove, AreRising, batched, layer_in, Pair, IsAscending, alls-append, alls-weaker, contains-later, Entries, tree, pairs, entries_pairs, IsMst, IsMstEntries, Has, entries_at_layer, gap-lower, keys_under, tree_unique, Content, part_at, head_links, keyed_links, bare_links, entry_pair, Row, Entry, BareLinks, HeadLinks, Root, Placed, none, head, Chain, end, cell, tree_of, entries_of, link_of, first_of, tail_of, count_of, rows_of, chain_rows, HasRows, all-front, all-back, rest_rises, placed_nodes, chain_nodes, height_at, lower, listed, none_left, rising-back, plan_beside, entries_beside, IsEntryOf, Known, AreKnown, all_known, known_of_entry, PartOf, AreBelow, AreOf, PlanTree, PlanEntries, kept, made, last, entry, PlannedEntry, with_planned, IsUpdate, AreUpdates, Updates, PlanEntry}
use Rattle.mst_key.specs.declared.history.Edit.TheVariants as edit
use Rattle.mst_node.specs.Tree as tree
use Rattle.mst_batch.proofs.BatchParts.{batched_at}
use Rattle.mst_batch.proofs.Besides.{node_rows}
use Rattle.mst_batch.proofs.Homes.{node_below, kept_plan}
use Rattle.mst_batch.proofs.KnownShapes.{all_known-append, known_both}
use Rattle.mst_batch.proofs.NodePlans.{with_planned-push, entries_end, has_after}
use Rattle.mst_batch.proofs.Openings.{node_rises, IsNode, node, links, layer_is}
use Rattle.mst_batch.proofs.OpeningSteps.{part_of_gap}
use Rattle.mst_batch.proofs.Tops.{node_mst}
use Rattle.mst_batch.proofs.Updates.{entries_made, updates_below, updates_here, updates_above, updated_keys}

-- What is left of a node after so many entries: the rest of the chain and of the edits. Its pairs
-- after these edits, behind the pairs that were added so far, are all that the node has then, and
-- their plan, behind the entries that are planned, is that of its entries.
pub record Updating (format : Format) (content : Content) (whole : Placed) (layer : ℕ)
    (ps : List PlannedEntry) (all : List Pair) (left : List Edit) (tail next done count : ℕ)
    : Type 0 where
  pub rest : Chain
  pub first_is : first_of rest ≡ next
  pub tail_is : tail_of rest ≡ tail
  pub counted : count_of rest + done ≡ count
  pub rows : HasRows content (chain_rows format rest)
  pub search : IsMstEntries format layer (entries_of format rest)
  pub rise : IsAscending (entries_pairs (entries_of format rest))
  pub within : (p : Placed) → Contains (chain_nodes rest) p → Contains (placed_nodes whole) p
  pub held : (x : Content) → HasRows x (rows_of format whole) → HasRows x (chain_rows format rest)
  pub rising : AreRising left
  pub updates : AreUpdates (entries_pairs (entries_of format rest)) left
  pub added : List Pair
  pub low : AllByRecursion (λ p. layer_in format p.0 ≤ layer) added
  pub has : 0 < done → Has (layer_in format) layer added
  pub is : added ++ batched (entries_pairs (entries_of format rest)) left ≡ all
  pub planned : with_planned ps (entries_beside format whole
      (entries_made format layer (batched (entries_pairs (entries_of format rest)) left)))
      ≡ entries_beside format whole (entries_made format layer all)

has_before : (layer : List ℕ → ℕ) (l : ℕ) (xs ys : List Pair) → Has layer l xs
    → Has layer l (xs ++ ys)
has_before layer l [] ys has = absurd has
has_before layer l (x ∷ xs) ys (inl is) = inl is
has_before layer l (x ∷ xs) ys (inr has) = inr (has_before layer l xs ys has)

-- the plan is that of the part after the edits; what it names is known
abbrev pub PlansUpdated : Format → Content → Root → ℕ → List Edit → PlanTree → Type 0
PlansUpdated format content root link edits plan = (m : List Pair)
    (u : Updates format content root m link edits)
    → plan ≡ plan_beside format u.stands.tree.placed
    (tree format (batched (pairs (tree_of format u.part.placed)) edits))

abbrev pub KnowsUpdated : Format → Content → Root → ℕ → List Edit → List Known → Type 0
KnowsUpdated format content root link edits known = (m : List Pair)
    (u : Updates format content root m link edits) → AreKnown format u.stands.tree.placed known

-- the plan of a node of planned entries
pub update_node : (plan : PlanTree) (l : ℕ) (ps : List PlannedEntry) (tail : PlanTree)
    (es : PlanEntries) → plan ≡ made l (with_planned ps (last tail))
    → with_planned ps (last tail) ≡ es → plan ≡ made l es
update_node plan l ps tail es is same = is ∙ ap (made l) same

pub known_push : (format : Format) (whole : Placed) {A : Type 0} (xs : List (PlanEntry A))
    (e : PlanEntry A) → AreKnown format whole (all_known (map known_of_entry xs))
    → AreKnown format whole (known_of_entry e)
    → AreKnown format whole (all_known (map known_of_entry (xs ++ e ∷ [])))
known_push format whole xs e before own =
    subst (AreKnown format whole)
    (sym (ap all_known (map-append known_of_entry xs (e ∷ []))
    ∙ all_known-append (map known_of_entry xs) (known_of_entry e ∷ [])
    ∙ ap (λ (ks : List Known). all_known (map known_of_entry xs) ++ ks)
    (append-nil (known_of_entry e))))
    (known_both format whole (all_known (map known_of_entry xs)) (known_of_entry e) before own)

-- ---- a part without an edit stays

module _ (format : Format) (content : Content) (root : Root) (m : List Pair) (link : ℕ)
    (edits : List (Bor Edit)) (u : Updates format content root m link (listed edits)) where
  part_inside : (p : Placed) → (p ≡ none) ⊎ Contains (placed_nodes u.stands.tree.placed) p
      → (row layer : ℕ) (chain : Chain) → p ≡ head row layer chain
      → Contains (placed_nodes u.stands.tree.placed) p
  part_inside p (inl nothing) row layer chain is = absurd cc
  part_inside p (inr within) row layer chain is = within

  part_mst : (p : Placed) → (p ≡ none) ⊎ Contains (placed_nodes u.stands.tree.placed) p
      → IsMst format (tree_of format p)
  part_mst p (inl nothing) =
      subst (λ (q : Placed). IsMst format (tree_of format q)) (sym nothing) tt
  part_mst p (inr within) = node_mst format u.stands.tree.placed p within u.part.search

  pub part_stays : length edits < 1 → kept link ≡ plan_beside format u.stands.tree.placed
      (tree format (batched (pairs (tree_of format u.part.placed)) (listed edits)))
  part_stays empty =
      ap kept (sym u.part.at)
      ∙ sym (kept_plan format content u.stands.tree.placed u.part.rows u.part.rise u.part.placed
      (part_mst u.part.placed u.part.part) (part_inside u.part.placed u.part.part))
      ∙ ap (plan_beside format u.stands.tree.placed)
      (sym (tree_unique (tree_of format u.part.placed) format
      (part_mst u.part.placed u.part.part)))
      ∙ ap (λ (es : List (Bor Edit)). plan_beside format u.stands.tree.placed
      (tree format (batched (pairs (tree_of format u.part.placed)) (listed es))))
      (sym (none_left edits empty))

  -- an edit falls into a node
  pub some_link : 0 < length edits → 0 < link
  some_link some = go u.part.placed edits u.part.at u.each some
    where
      go : (p : Placed) (es : List (Bor Edit)) → link_of p ≡ link
          → AreUpdates (pairs (tree_of format p)) (listed es) → 0 < length es → 0 < link
      go none [] at are n = absurd (omega (arith, n))
      go none (e ∷ es) at are n = absurd (nothing e.now are.0)
        where
          nothing : (x : Edit) → IsUpdate [] x → ⊥
          nothing (edit.Put k v) is = true≢false (sym is)
          nothing (edit.Remove k) is = is
      go (head row layer chain) es at are n = omega (arith, at)

-- ---- the node before its first entry

module _ (format : Format) (content : Content) (root : Root) (m : List Pair) (link : ℕ)
    (edits : List Edit) (u : Updates format content root m link edits) (rising : AreRising edits)
    (some : 0 < link) (h : HeadLinks)
    (read : part_at head_links content (link - 1) ≡ Some h) where
  abbrev whole : Placed
  whole = u.stands.tree.placed

  pub begun : Updating format content u.stands.tree.placed h.layer []
      (batched (pairs (tree_of format u.part.placed)) edits) edits h.tail h.first 0 h.count
  begun =
      let n : IsNode format content whole link u.part =
      node format content whole link u.part some in
      let top : Placed = head n.row n.layer n.chain in
      let same = links format content whole link u.part some h read in
      let mst = node_mst format whole top n.within u.part.search in
      let own : pairs (tree_of format u.part.placed) ≡ entries_pairs (entries_of format n.chain) =
      ap (λ (p : Placed). pairs (tree_of format p)) n.is in
      let start : batched (entries_pairs (entries_of format n.chain)) edits
      ≡ batched (pairs (tree_of format u.part.placed)) edits =
      ap (λ (k : List Pair). batched k edits) (sym own) in
      record {
        rest = n.chain;
        first_is = ap (λ (x : HeadLinks). x.first) same;
        tail_is = ap (λ (x : HeadLinks). x.tail) same;
        counted = omega (arith, ap (λ (x : HeadLinks). x.count) same);
        rows = (node_rows format content whole top n.within u.part.rows).1;
        search = subst (λ (l : ℕ). IsMstEntries format l (entries_of format n.chain))
            (layer_is format content whole link u.part some h read) mst.2;
        rise = node_rises format whole top n.within u.part.rise;
        within = λ p k. node_below whole top p n.within
            (contains-later top (chain_nodes n.chain) p k);
        held = λ x rows. (node_rows format x whole top n.within rows).1;
        rising = rising;
        updates = subst (λ (k : List Pair). AreUpdates k edits) own u.each;
        added = [];
        low = tt;
        has = λ none. absurd (omega (arith, none));
        is = start;
        planned = ap (λ (k : List Pair). entries_beside format whole
            (entries_made format h.layer k)) start;
      }

-- ---- the entry that was read, with the tree before it, and what is left after it

pub record AtUpdate (format : Format) (content : Content) (whole : Placed) (layer : ℕ)
    (ps : List PlannedEntry) (all : List Pair) (left : List Edit) (tail row done count : ℕ)
    (b : BareLinks) (kv : Pair) : Type 0 where
  pub child : PartOf format content whole b.child
  pub falls : height_at content b.child < layer + 1
  pub told : IsEntryOf format whole row kv
  pub below : (lo own hi : List Edit) → left ≡ lo ++ (own ++ hi) → AreBelow lo kv.0
      → AreUpdates (pairs (tree_of format child.placed)) lo
  pub some_map : List Pair
  pub here : (lo own hi : List Edit) → left ≡ lo ++ (own ++ hi) → AreUpdates some_map own
  pub after : (lo own hi : List Edit) → left ≡ lo ++ (own ++ hi) → AreBelow lo kv.0
      → AreOf own kv.0 → AreAbove hi kv.0 → (y : PlannedEntry)
      → y.child ≡ plan_beside format whole
      (tree format (batched (pairs (tree_of format child.placed)) lo)) → y.key ≡ kv.0
      → batched (kv ∷ []) own ≡ (y.key, y.value) ∷ []
      → Updating format content whole layer (ps ++ y ∷ []) all hi tail b.next (done + 1) count

module _ (format : Format) (content : Content) (whole : Placed) (layer : ℕ)
    (ps : List PlannedEntry) (all : List Pair) (left : List Edit) (tail next done count : ℕ)
    (o : Updating format content whole layer ps all left tail next done count) where
  abbrev entries_now : List Pair → PlanEntries
  entries_now m = entries_beside format whole (entries_made format layer m)

  -- an entry stands at the next link
  pub entry_there : done < count
      → IsSome (part_at keyed_links content (next - 1)) × (0 < next)
  entry_there some = go o.rest o.first_is o.counted o.rows
    where
      go : (c : Chain) → first_of c ≡ next → count_of c + done ≡ count
          → HasRows content (chain_rows format c)
          → IsSome (part_at keyed_links content (next - 1)) × (0 < next)
      go (end p) first counted has = absurd (omega (arith, some, counted))
      go (cell at p key value c) first counted has =
          let same : next - 1 ≡ at = omega (arith, first) in
          let there : content (next - 1) ≡ Some (Entry (link_of p) (first_of c) key value) =
          ap content same ∙ has.0 in (
            subst (λ (r : Option Row). IsSome (option_and_then keyed_links r)) (sym there) refl,
            omega (arith, first),
          )

  module _ (link : ℕ) (part : PartOf format content whole link) where
    -- the entry with the tree before it, in the terms of the chain
    at_cell : (at : ℕ) (p : Placed) (key value : List ℕ) (c : Chain) → at + 1 ≡ next
        → tail_of c ≡ tail → count_of c + 1 + done ≡ count
        → HasRows content (chain_rows format (cell at p key value c))
        → IsMstEntries format layer (entries_of format (cell at p key value c))
        → IsAscending (entries_pairs (entries_of format (cell at p key value c)))
        → ((q : Placed) → Contains (chain_nodes (cell at p key value c)) q
        → Contains (placed_nodes whole) q)
        → ((x : Content) → HasRows x (rows_of format whole)
        → HasRows x (chain_rows format (cell at p key value c)))
        → AreUpdates (entries_pairs (entries_of format (cell at p key value c))) left
        → o.added ++ batched (entries_pairs (entries_of format (cell at p key value c))) left
        ≡ all
        → with_planned ps
        (entries_now (batched (entries_pairs (entries_of format (cell at p key value c))) left))
        ≡ entries_now all
        → AtUpdate format content whole layer ps all left tail (next - 1) done count
        (record { child = link_of p; next = first_of c }) (key, value)
    at_cell at p key value c first tail_is counted has search rise within held are is planned =
        let same : next - 1 ≡ at = omega (arith, first) in
        let front : List Pair = pairs (tree_of format p) in
        let back : List Pair = entries_pairs (entries_of format c) in
        let child_rows = all-front _ (rows_of format p) (chain_rows format c) has.1 in
        let split : (lo own hi : List Edit) → left ≡ lo ++ (own ++ hi)
        → AreUpdates
        (pairs (tree_of format p) ++ (key, value) ∷ entries_pairs (entries_of format c))
        (lo ++ (own ++ hi)) =
        λ lo own hi parts. subst (λ (es : List Edit). AreUpdates (pairs (tree_of format p)
        ++ (key, value) ∷ entries_pairs (entries_of format c)) es) parts are in
        record {
          child = part_of_gap format content whole link part p (link_of p) refl
              (λ q k. within q
              (Contains-append_left (placed_nodes p) (chain_nodes c) q k));
          falls = lower format content layer p child_rows search.0;
          told = λ x rows. ap (option_and_then entry_pair) (ap x same ∙ (held x rows).0);
          below = λ lo own hi parts low.
              updates_below front key value back rise lo own hi (split lo own hi parts) low;
          some_map = front ++ (key, value) ∷ back;
          here = λ lo own hi parts.
              updates_here front key value back rise lo own hi (split lo own hi parts);
          after = λ lo own hi parts low same_key high y child_is key_is own_is.
              let F : List Pair = batched front lo in
              let B : List Pair = batched back hi in
              let one : Pair = (y.key, y.value) in
              let layer_y : layer_in format y.key ≡ layer =
              ap (layer_in format) key_is ∙ search.2 in
              let lower_keys : AllByRecursion (λ q. layer_in format q.0 < layer)
              (batched (pairs (tree_of format p)) lo) =
              updated_keys (λ (q : List ℕ). layer_in format q < layer) front lo
              (keys_under (tree_of format p) format layer search.1 search.0)
              (updates_below front key value back rise lo own hi (split lo own hi parts) low) in
              let cut : batched (pairs (tree_of format p) ++ (key, value)
              ∷ entries_pairs (entries_of format c)) left
              ≡ batched (pairs (tree_of format p)) lo ++ (y.key, y.value)
              ∷ batched (entries_pairs (entries_of format c)) hi =
              ap (batched (front ++ (key, value) ∷ back)) parts
              ∙ batched_at front key value back rise lo own hi low same_key high
              ∙ ap (λ (n : List Pair). F ++ (n ++ B)) own_is in
              let made : entries_made format layer
              (batched (pairs (tree_of format p)) lo ++ (y.key, y.value)
              ∷ batched (entries_pairs (entries_of format c)) hi)
              ≡ tree.entry (tree format (batched (pairs (tree_of format p)) lo)) y.key y.value
              (entries_made format layer (batched (entries_pairs (entries_of format c)) hi)) =
              gap-lower format layer [] F (one ∷ B) lower_keys
              ∙ entries_at_layer (layer_in format) (tree format) layer F one B layer_y in
              record {
                rest = c;
                first_is = refl;
                tail_is = tail_is;
                counted = omega (arith, counted);
                rows = all-back _ (rows_of format p) (chain_rows format c) has.1;
                search = search.3;
                rise = rest_rises (tree_of format p) key value (entries_of format c) rise;
                within = λ q k. within q
                    (Contains-append_right (placed_nodes p) (chain_nodes c) q k);
                held = λ x rows.
                    all-back _ (rows_of format p) (chain_rows format c) (held x rows).1;
                rising = rising-back own hi
                    (rising-back lo (own ++ hi) (subst AreRising parts o.rising));
                updates = updates_above front key value back rise lo own hi
                    (split lo own hi parts) high;
                added = o.added ++ (F ++ one ∷ []);
                low = alls-append (λ (q : Pair). layer_in format q.0 ≤ layer) o.added
                    (F ++ one ∷ []) o.low
                    (alls-append (λ (q : Pair). layer_in format q.0 ≤ layer) F (one ∷ [])
                    (alls-weaker (λ (q : Pair). layer_in format q.0 < layer)
                    (λ (q : Pair). layer_in format q.0 ≤ layer)
                    (λ q (n : layer_in format q.0 < layer). omega (arith, n)) F lower_keys)
                    (omega (arith, layer_y), tt));
                has = λ n. has_after (layer_in format) layer o.added (F ++ one ∷ [])
                    (has_after (layer_in format) layer F (one ∷ []) (inl layer_y));
                is = append_assoc o.added (F ++ one ∷ []) B
                    ∙ ap (λ (k : List Pair). o.added ++ k)
                    (append_assoc F (one ∷ []) B ∙ sym cut) ∙ is;
                planned = with_planned-push ps y (entries_now B)
                    ∙ ap (λ (t : PlanTree). with_planned ps (entry t y.key y.value (entries_now B)))
                    child_is
                    ∙ ap (λ (es : Entries). with_planned ps (entries_beside format whole es))
                    (sym (ap (entries_made format layer) cut ∙ made))
                    ∙ planned;
              };
        }

    pub at_entry : done < count → (b : BareLinks)
        → part_at bare_links content (next - 1) ≡ Some b → (kv : Pair)
        → part_at entry_pair content (next - 1) ≡ Some kv
        → AtUpdate format content whole layer ps all left tail (next - 1) done count b kv
    at_entry some b read kv pair_read =
        go o.rest o.first_is o.tail_is o.counted o.rows o.search o.rise o.within o.held o.updates
        o.is o.planned
      where
        go : (c : Chain) → first_of c ≡ next → tail_of c ≡ tail → count_of c + done ≡ count
            → HasRows content (chain_rows format c)
            → IsMstEntries format layer (entries_of format c)
            → IsAscending (entries_pairs (entries_of format c))
            → ((q : Placed) → Contains (chain_nodes c) q → Contains (placed_nodes whole) q)
            → ((x : Content) → HasRows x (rows_of format whole) → HasRows x (chain_rows format c))
            → AreUpdates (entries_pairs (entries_of format c)) left
            → o.added ++ batched (entries_pairs (entries_of format c)) left ≡ all
            → with_planned ps (entries_now (batched (entries_pairs (entries_of format c)) left))
            ≡ entries_now all
            → AtUpdate format content whole layer ps all left tail (next - 1) done count b kv
        go (end p) first tail_is counted has search rise within held are is planned =
            absurd (omega (arith, some, counted))
        go (cell at p key value c) first tail_is counted has search rise within held are is
            planned =
            let same : next - 1 ≡ at = omega (arith, first) in
            let there : content (next - 1) ≡ Some (Entry (link_of p) (first_of c) key value) =
            ap content same ∙ has.0 in
            let same_links : record { child = link_of p; next = first_of c } ≡ b =
            same_Some (record { child = link_of p; next = first_of c }) b
            (sym (ap (option_and_then bare_links) there) ∙ read) in
            let same_pair : (key, value) ≡ kv =
            same_Some (key, value) kv
            (sym (ap (option_and_then entry_pair) there) ∙ pair_read) in
            subst (λ (x : BareLinks). AtUpdate format content whole layer ps all left tail
            (next - 1) done count x kv) same_links
            (subst (AtUpdate format content whole layer ps all left tail (next - 1) done count
            (record { child = link_of p; next = first_of c })) same_pair
            (at_cell at p key value c first tail_is counted has search rise within held are is
            planned))

    -- the tree in the last gap, and the entries with its plan behind them
    pub record AtLast : Type 0 where
      pub child : PartOf format content whole tail
      pub falls : height_at content tail < layer + 1
      pub updates : AreUpdates (pairs (tree_of format child.placed)) left
      pub low : AllByRecursion (λ p. layer_in format p.0 ≤ layer) all
      pub has : 0 < count → Has (layer_in format) layer all
      pub entries : (t : PlanTree) → t ≡ plan_beside format whole
          (tree format (batched (pairs (tree_of format child.placed)) left))
          → with_planned ps (last t) ≡ entries_now all

    pub at_last : count ≡ done → AtLast
    at_last is_all =
        go o.rest o.tail_is o.counted o.rows o.search o.within o.updates o.is o.planned
      where
        go : (c : Chain) → tail_of c ≡ tail → count_of c + done ≡ count
            → HasRows content (chain_rows format c)
            → IsMstEntries format layer (entries_of format c)
            → ((q : Placed) → Contains (chain_nodes c) q → Contains (placed_nodes whole) q)
            → AreUpdates (entries_pairs (entries_of format c)) left
            → o.added ++ batched (entries_pairs (entries_of format c)) left ≡ all
            → with_planned ps (entries_now (batched (entries_pairs (entries_of format c)) left))
            ≡ entries_now all → AtLast
        go (end p) tail_is counted has search within are is planned =
            let L : List Pair = batched (pairs (tree_of format p)) left in
            let lower_keys : AllByRecursion (λ q. layer_in format q.0 < layer)
            (batched (pairs (tree_of format p)) left) =
            updated_keys (λ (q : List ℕ). layer_in format q < layer) (pairs (tree_of format p))
            left (keys_under (tree_of format p) format layer search.1 search.0) are in
            let made : entries_made format layer (batched (pairs (tree_of format p)) left)
            ≡ tree.last (tree format (batched (pairs (tree_of format p)) left)) =
            ap (entries_made format layer) (sym (append-nil L))
            ∙ gap-lower format layer [] L [] lower_keys ∙ entries_end format layer L in
            record {
              child = part_of_gap format content whole link part p tail tail_is within;
              falls = subst (λ (n : ℕ). height_at content n < layer + 1) tail_is
                  (lower format content layer p has search.0);
              updates = are;
              low = subst (AllByRecursion (λ (q : Pair). layer_in format q.0 ≤ layer)) is
                  (alls-append (λ (q : Pair). layer_in format q.0 ≤ layer) o.added L o.low
                  (alls-weaker (λ (q : Pair). layer_in format q.0 < layer)
                  (λ (q : Pair). layer_in format q.0 ≤ layer)
                  (λ q (n : layer_in format q.0 < layer). omega (arith, n)) L lower_keys));
              has = λ n. subst (Has (layer_in format) layer) is
                  (has_before (layer_in format) layer o.added L (o.has (omega (arith, n, is_all))));
              entries = λ t t_is. ap (λ (x : PlanTree). with_planned ps (last x)) t_is
                  ∙ ap (λ (es : Entries). with_planned ps (entries_beside format whole es))
                  (sym made) ∙ planned;
            }
        go (cell at p key value c) tail_is counted has search within are is planned =
            absurd (omega (arith, counted, is_all))
