-- Where two trees meet that are to be joined, by the layers of their nodes.
use Rattle.mst_path.proofs.Names.{Format, ◌≡◌, ℕ, zero, suc, ◌+◌, ◌-◌, ◌<◌, ◌≤◌, List, [], ◌∷◌, length, Option, Some, IsSome, refl, sym, ◌∙◌, ap, subst, arith, option_and_then, option_map_or, length-map, node, Entries, last, entry, entry_count, IsUnder, IsMst, IsMstEntries, TreeEntry, with_entries, Content, part_at, State, times, head_links, keyed_links, Row, Entry, HeadLinks, KeyedLinks, Placed, tree_of, link_of, rows_of, used, HasRows, times-append, highest_layer, cells, last_child, first_child, with_first, join, join_rows, IsOld, OldPiece, RunStands, gaps_used, BackRun, cell_of, cells_of, entries_to, others, TwoTrees, height, height_at, Met, PlacedEntry, link_from, with_first_count, with_entries_count}
use Rattle.mst_arena.specs.Standing.{none as no_tree, head as tree_head}
use Rattle.mst_path.specs.Joining.{above_right, below_right, beside_right}
use Rattle.mst_path.proofs.lemmas.rows.CopyRows.{links_there, links_are}
use Rattle.mst_path.proofs.lemmas.trees.Nodes.{layer_of_entries}
use Rattle.mst_change.proofs.Parts.{first_mst, last_mst}
use Rattle.mst_change.proofs.Join.Steps.{join_higher, join_lower, join_level, join_rows_higher, join_rows_lower, join_rows_level}
use Rattle.mst_path.proofs.lemmas.trees.Opening.{Opened, opened, cells_to, last_to, count_to, First, first_of_some}
use Rattle.mst_path.proofs.lemmas.trees.NodeRuns.{each_in, node_of_some, side_some, height_under, back_of_run, no_back, no_front, both_alive}

-- ---- a search tree's node that is opened

module _ (format : Format) (c : Content) (s : State) (p : Placed) (row : ℕ) (h : HeadLinks)
    (o : Opened format c s p row h) (search : IsMst format (tree_of format p)) where
  abbrev pub entries : Entries
  entries = entries_to format o.entries o.tail

  pub node_search : (format ≡ format) × (0 < entry_count entries) × IsMstEntries format h.layer
      entries
  node_search = subst (IsMst format) o.tree search

  pub some_entries : 0 < length o.entries
  some_entries = omega (arith, node_search.1, count_to format o.entries o.tail)

  pub low_layer : h.layer ≤ highest_layer
  low_layer = layer_of_entries format h.layer entries node_search.1 node_search.2

  pub tall : height (tree_of format p) ≡ h.layer + 1
  tall = ap height o.tree

  pub tail_search : IsMst format (tree_of format o.tail)
  tail_search = subst (IsMst format) (last_to format o.entries o.tail)
      (last_mst entries format h.layer node_search.2).1

  pub tail_low : height (tree_of format o.tail) ≤ h.layer
  tail_low = height_under h.layer (tree_of format o.tail)
      (subst (IsUnder h.layer) (last_to format o.entries o.tail)
      (last_mst entries format h.layer node_search.2).0)

  pub first : First o.entries
  first = first_of_some o.entries some_entries

  pub first_is : first_child entries ≡ tree_of format first.entry.child
  first_is = ap (λ (l : List PlacedEntry). first_child (entries_to format l o.tail)) first.is

  pub first_search : IsMst format (tree_of format first.entry.child)
  first_search = subst (IsMst format) first_is (first_mst entries format h.layer node_search.2).1

  pub first_low : height (tree_of format first.entry.child) ≤ h.layer
  first_low = height_under h.layer (tree_of format first.entry.child)
      (subst (IsUnder h.layer) first_is (first_mst entries format h.layer node_search.2).0)

  first_run : RunStands format c s h.first h.count 0 (first.entry ∷ first.more)
  first_run = subst (RunStands format c s h.first h.count 0) first.is o.run

  pub first_piece : OldPiece format c s first.entry.child
  first_piece = first_run.gaps.0

  pub first_gap : (x : ℕ) → times x (gaps_used o.entries) ≡ times x (used first.entry.child) + times
      x (gaps_used (others o.entries))
  first_gap x = ap (λ (l : List PlacedEntry). times x (gaps_used l)) first.is ∙ times-append x
      (used first.entry.child) (gaps_used first.more)
      ∙ ap (λ (l : List PlacedEntry). times x (used first.entry.child) + times x
      (gaps_used (others l))) (sym first.is)

  first_row : c (h.first - 1) ≡ Some
      (Entry (link_of first.entry.child) (link_from 0 first.more) first.entry.key first.entry.value)
  first_row = let same : h.first - 1 ≡ first.entry.at = omega (arith, first_run.begins) in ap c same
      ∙ first_run.rows.0

  pub first_some : 0 < h.first
  first_some = omega (arith, first_run.begins)

  pub first_there : IsSome (part_at keyed_links c (h.first - 1))
  first_there = links_there (c (h.first - 1)) _ _ _ _ first_row

  pub first_link : (l : KeyedLinks) → part_at keyed_links c (h.first - 1) ≡ Some l
      → l.child ≡ link_of first.entry.child
  first_link l read = (links_are (c (h.first - 1)) l _ _ _ _ first_row read).0

-- ---- the two nodes

module _ (format : Format) (c : Content) (s : State) (left right : ℕ)
    (t : TwoTrees format c s left right) (left_head right_head : HeadLinks) (some_left : 0 < left)
    (some_right : 0 < right) (read_left : part_at head_links c (left - 1) ≡ Some left_head)
    (read_right : part_at head_links c (right - 1) ≡ Some right_head) where
  abbrev pub a_node : Opened format c s t.a (left - 1) left_head
  a_node = opened format c s t.a left left_head t.a_at some_left t.a_piece read_left

  abbrev pub b_node : Opened format c s t.b (right - 1) right_head
  b_node = opened format c s t.b right right_head t.b_at some_right t.b_piece read_right

  abbrev a_entries : Entries
  a_entries = entries_to format a_node.entries a_node.tail

  abbrev b_entries : Entries
  b_entries = entries_to format b_node.entries b_node.tail

  abbrev a_some : 0 < length a_node.entries
  a_some = some_entries format c s t.a (left - 1) left_head a_node t.a_search

  abbrev b_some : 0 < length b_node.entries
  b_some = some_entries format c s t.b (right - 1) right_head b_node t.b_search

  pub met_above : right_head.layer < left_head.layer → Met format c s left right t
      (above_right left right left_head)
  met_above less = record {
    inner = record {
      a = a_node.tail;
      b = t.b;
      a_at = a_node.tail_at;
      b_at = t.b_at;
      a_piece = a_node.tail_piece;
      b_piece = t.b_piece;
      a_search = tail_search format c s t.a (left - 1) left_head a_node t.a_search;
      b_search = t.b_search;
      once = λ x. omega (arith, t.once x, a_node.used_is x);
    };
    framed = record {
      front = a_node.entries;
      behind = 0;
      front_run = a_node.run;
      back = [];
      tail = no_tree;
      back_run = no_back format c s;
      goes = each_in (IsOld s) ((left - 1) ∷ []) (a_node.head_old, tt);
      alive = both_alive format c s a_node.tail t.b a_node.tail_piece t.b_piece;
      once = λ x. omega (arith, t.once x, a_node.used_is x);
    };
    is =
        ap (λ u. join u (tree_of format t.b)) a_node.tree
        ∙ ap (λ u. join (node format left_head.layer a_entries) u) b_node.tree
        ∙ join_higher format format left_head.layer right_head.layer a_entries b_entries less
        ∙ ap (λ u. node format left_head.layer
        (with_entries (cells a_entries) (last (join (last_child a_entries) u))))
        (sym b_node.tree)
        ∙ ap (λ l. node format left_head.layer
        (with_entries l (last (join (last_child a_entries) (tree_of format t.b)))))
        (cells_to format a_node.entries a_node.tail)
        ∙ ap (λ u. node format left_head.layer
        (with_entries (cells_of format a_node.entries) (last (join u (tree_of format t.b)))))
        (last_to format a_node.entries a_node.tail)
        ∙ sym (node_of_some format left_head.layer
        (with_entries (cells_of format a_node.entries)
        (last (join (tree_of format a_node.tail) (tree_of format t.b))))
        (omega (
          arith,
          with_entries_count (cells_of format a_node.entries)
              (last (join (tree_of format a_node.tail) (tree_of format t.b))),
          length-map
              {B = TreeEntry} a_node.entries (cell_of format),
          a_some,
        )));
    rows =
        let all = ap (λ u. join_rows u (tree_of format t.b)) a_node.tree
        ∙ ap (λ u. join_rows (node format left_head.layer a_entries) u) b_node.tree
        ∙ join_rows_higher format format left_head.layer right_head.layer a_entries b_entries less
        ∙ ap (λ u. entry_count a_entries + 1 + join_rows (last_child a_entries) u) (sym b_node.tree)
        ∙ ap (λ u. entry_count a_entries + 1 + join_rows u (tree_of format t.b))
        (last_to format a_node.entries a_node.tail) in
        omega (
          arith,
          all,
          count_to format a_node.entries a_node.tail,
          a_node.run.counted,
          side_some
              (left_head.count + 0) (omega (arith, a_some, a_node.run.counted)),
        );
    given = λ x. omega (arith, a_node.used_is x);
    falls =
        omega (
          arith,
          tall format c s t.a (left - 1) left_head a_node t.a_search,
          tail_low format c s t.a
              (left - 1) left_head a_node t.a_search,
        );
    low = low_layer format c s t.a (left - 1) left_head a_node t.a_search;
  }

  module _ (links : KeyedLinks) (read : part_at keyed_links c (right_head.first - 1) ≡ Some links)
    where
      abbrev b_first : First b_node.entries
      b_first = first format c s t.b (right - 1) right_head b_node t.b_search

      abbrev child_at : link_of b_first.entry.child ≡ links.child
      child_at = sym (first_link format c s t.b (right - 1) right_head b_node t.b_search links read)

      abbrev child_piece : OldPiece format c s b_first.entry.child
      child_piece = first_piece format c s t.b (right - 1) right_head b_node t.b_search

      abbrev child_gap : (x : ℕ) → times x (gaps_used b_node.entries) ≡ times x
          (used b_first.entry.child) + times x (gaps_used (others b_node.entries))
      child_gap = first_gap format c s t.b (right - 1) right_head b_node t.b_search

      abbrev child_is : first_child b_entries ≡ tree_of format b_first.entry.child
      child_is = first_is format c s t.b (right - 1) right_head b_node t.b_search

      abbrev b_back : BackRun format c s right_head.first right_head.count right_head.tail
          b_node.entries b_node.tail
      b_back = back_of_run format c s right_head.first right_head.count b_node.entries b_node.run
          b_some right_head.tail
          b_node.tail b_node.tail_at b_node.tail_piece

      pub met_below : left_head.layer < right_head.layer → Met format c s left right t
          (below_right left right right_head links.child)
      met_below less = record {
        inner = record {
          a = t.a;
          b = b_first.entry.child;
          a_at = t.a_at;
          b_at = child_at;
          a_piece = t.a_piece;
          b_piece = child_piece;
          a_search = t.a_search;
          b_search = first_search format c s t.b (right - 1) right_head b_node t.b_search;
          once = λ x. omega (arith, t.once x, b_node.used_is x, child_gap x);
        };
        framed = record {
          front = [];
          behind = 0;
          front_run = no_front format c s;
          back = b_node.entries;
          tail = b_node.tail;
          back_run = b_back;
          goes = each_in (IsOld s) ((right - 1) ∷ []) (b_node.head_old, tt);
          alive = both_alive format c s t.a b_first.entry.child t.a_piece child_piece;
          once = λ x. omega (arith, t.once x, b_node.used_is x, child_gap x);
        };
        is =
            ap (λ u. join u (tree_of format t.b)) a_node.tree
            ∙ ap (λ u. join (node format left_head.layer a_entries) u) b_node.tree
            ∙ join_lower format format left_head.layer right_head.layer a_entries b_entries less
            ∙ ap (λ u. node format right_head.layer
            (with_first (join u (first_child b_entries)) b_entries))
            (sym a_node.tree)
            ∙ ap (λ u. node format right_head.layer
            (with_first (join (tree_of format t.a) u) b_entries))
            child_is
            ∙ sym (node_of_some format right_head.layer
            (with_first (join (tree_of format t.a) (tree_of format b_first.entry.child))
            b_entries) (omega (
              arith,
              with_first_count b_entries
                  (join (tree_of format t.a) (tree_of format b_first.entry.child)),
              count_to format
                  b_node.entries b_node.tail,
              b_some,
            )));
        rows =
            let all = ap (λ u. join_rows u (tree_of format t.b)) a_node.tree
            ∙ ap (λ u. join_rows (node format left_head.layer a_entries) u) b_node.tree
            ∙ join_rows_lower format format left_head.layer right_head.layer a_entries b_entries
            less
            ∙ ap (λ u. entry_count b_entries + 1 + join_rows u (first_child b_entries))
            (sym a_node.tree)
            ∙ ap (λ u. entry_count b_entries + 1 + join_rows (tree_of format t.a) u) child_is in
            omega (
              arith,
              all,
              count_to format b_node.entries b_node.tail,
              b_node.run.counted,
              side_some (0 + right_head.count) (omega (arith, b_some, b_node.run.counted)),
            );
        given = λ x. omega (arith, b_node.used_is x, child_gap x);
        falls =
            omega (
              arith,
              tall format c s t.b (right - 1) right_head b_node t.b_search,
              first_low format c s
                  t.b (right - 1) right_head b_node t.b_search,
            );
        low = low_layer format c s t.b (right - 1) right_head b_node t.b_search;
      }

      pub met_beside : left_head.layer ≡ right_head.layer → Met format c s left right t
          (beside_right left right left_head right_head links.child)
      met_beside same = record {
        inner = record {
          a = a_node.tail;
          b = b_first.entry.child;
          a_at = a_node.tail_at;
          b_at = child_at;
          a_piece = a_node.tail_piece;
          b_piece = child_piece;
          a_search = tail_search format c s t.a (left - 1) left_head a_node t.a_search;
          b_search = first_search format c s t.b (right - 1) right_head b_node t.b_search;
          once = λ x. omega (arith, t.once x, a_node.used_is x, b_node.used_is x, child_gap x);
        };
        framed = record {
          front = a_node.entries;
          behind = 0;
          front_run = a_node.run;
          back = b_node.entries;
          tail = b_node.tail;
          back_run = b_back;
          goes = each_in (IsOld s) ((left - 1) ∷ (right - 1) ∷ [])
              (a_node.head_old, (b_node.head_old, tt));
          alive = both_alive format c s a_node.tail b_first.entry.child a_node.tail_piece
              child_piece;
          once = λ x. omega (arith, t.once x, a_node.used_is x, b_node.used_is x, child_gap x);
        };
        is =
            ap (λ u. join u (tree_of format t.b)) a_node.tree
            ∙ ap (λ u. join (node format left_head.layer a_entries) u) b_tree
            ∙ join_level format format left_head.layer a_entries b_entries
            ∙ ap (λ l. node format left_head.layer
            (with_entries l
            (with_first (join (last_child a_entries) (first_child b_entries)) b_entries)))
            (cells_to format a_node.entries a_node.tail)
            ∙ ap (λ u. node format left_head.layer
            (with_entries (cells_of format a_node.entries)
            (with_first (join u (first_child b_entries)) b_entries)))
            (last_to format a_node.entries a_node.tail)
            ∙ ap (λ u. node format left_head.layer
            (with_entries (cells_of format a_node.entries)
            (with_first (join (tree_of format a_node.tail) u) b_entries))) child_is
            ∙ sym (node_of_some format left_head.layer
            (with_entries (cells_of format a_node.entries)
            (with_first (join (tree_of format a_node.tail) (tree_of format b_first.entry.child))
            b_entries)) (omega (
              arith,
              with_entries_count (cells_of format a_node.entries)
                  (with_first
                  (join (tree_of format a_node.tail) (tree_of format b_first.entry.child))
                  b_entries),
              length-map {B = TreeEntry} a_node.entries (cell_of format),
              a_some,
            )));
        rows =
            let all = ap (λ u. join_rows u (tree_of format t.b)) a_node.tree
            ∙ ap (λ u. join_rows (node format left_head.layer a_entries) u) b_tree
            ∙ join_rows_level format format left_head.layer a_entries b_entries
            ∙ ap (λ u. entry_count a_entries + entry_count b_entries + 1 + join_rows u
            (first_child b_entries)) (last_to format a_node.entries a_node.tail)
            ∙ ap (λ u. entry_count a_entries + entry_count b_entries + 1 + join_rows
            (tree_of format a_node.tail) u) child_is in
            omega (
              arith,
              all,
              count_to format a_node.entries a_node.tail,
              a_node.run.counted,
              count_to format b_node.entries b_node.tail,
              b_node.run.counted,
              side_some
                  (left_head.count + right_head.count) (omega (arith, a_some, a_node.run.counted)),
            );
        given = λ x. omega (arith, a_node.used_is x, b_node.used_is x, child_gap x);
        falls =
            omega (
              arith,
              tall format c s t.a (left - 1) left_head a_node t.a_search,
              tail_low format c s
                  t.a (left - 1) left_head a_node t.a_search,
              tall format c s t.b (right - 1) right_head b_node
                  t.b_search,
              first_low format c s t.b (right - 1) right_head b_node t.b_search,
            );
        low = low_layer format c s t.a (left - 1) left_head a_node t.a_search;
      }
        where
          b_tree : tree_of format t.b ≡ node format left_head.layer b_entries
          b_tree = b_node.tree ∙ ap (λ (l : ℕ). node format l b_entries) (sym same)

-- ---- how high the trees are

pub height_there : (format : Format) (c : Content) (p : Placed) (link : ℕ) → link_of p ≡ link
    → HasRows c (rows_of format p) → height_at c link ≡ height (tree_of format p)
height_there format c no_tree zero at has = refl
height_there format c no_tree (suc row) at has = absurd (omega (arith, at))
height_there format c (tree_head i l chain) zero at has = absurd (omega (arith, at))
height_there format c (tree_head i l chain) (suc row) at has =
    let same : row ≡ i = omega (arith, at) in
    ap (λ (o : Option Row). option_map_or (λ h. h.layer + 1) (option_and_then head_links o) 0)
    (ap c same ∙ has.0)
