-- What becomes of a node whose tree loses a key, by where the key stands among its entries.
use Rattle.mst_path.proofs.Names.{Format, ◌≡◌, ℕ, ◌+◌, ◌-◌, ◌<◌, eqb, false, List, [], ◌∷◌, ◌++◌, length, Option, Some, None, refl, sym, ◌∙◌, ap, subst, arith, length-append, length-map, Tree, Entries, entry, entry_count, IsMstEntries, TreeEntry, with_entries, Content, part_at, State, times, bit, head_links, HeadLinks, tree_of, link_of, used, times-append, EntryRun, first_child, with_first, node_of, join, tree_remove, side_rows, join_rows, remove_rows, IsOld, OldPiece, RunStands, own, gaps_used, EachGap, BackRun, cell_of, cells_of, entries_to, others, tail_behind, gap_before, CutGap, CutFound, SearchTree, in_tree, without, without_rows, Framed, tree_round, frame_rows, Frame, Meeting, TwoTrees, in_both, both_joined, both_rows, OpensGap, OpensEntry, PlacedEntry, link_from, with_entries_count}
use Rattle.mst_path.proofs.lemmas.rows.CopyRows.{at_self, old_alive}
use Rattle.mst_change.proofs.Remove.Steps.{remove_step, remove_rows_step, remove_here, remove_rows_here}
use Rattle.mst_path.proofs.lemmas.trees.Opening.{Opened, opened, count_to}
use Rattle.mst_path.proofs.lemmas.trees.NodeRuns.{each_in, both_alive}
use Rattle.mst_path.proofs.lemmas.trees.Meetings.{node_search, tall, low_layer}
use Rattle.mst_path.proofs.lemmas.trees.Parting.{back_rows, back_gaps, own_both, gaps_both, front_run, back_old, Behind, behind, back_search}

module _ (format : Format) (c : Content) (s : State) (link : ℕ) (t : SearchTree format c s link)
    (k : List ℕ) (h : HeadLinks) (some : 0 < link) (read : part_at head_links c (link - 1) ≡ Some h)
  where
    abbrev pub top : Opened format c s t.placed (link - 1) h
    top = opened format c s t.placed link h t.at some t.piece read

    abbrev pub all : Entries
    all = entries_to format top.entries top.tail

    -- what is left of the node round these runs
    abbrev frame_of : EntryRun → EntryRun → ℕ → Option ℕ → Frame
    frame_of front back tail_link other = record {
      layer = h.layer;
      front = front;
      back = back;
      tail = tail_link;
      head = link - 1;
      other = other;
    }

    module _ (front back : EntryRun) (child tail_link : ℕ)
        (cut : CutGap format k top.entries top.tail front child back)
        (tail_is : tail_link ≡ tail_behind back.count h.tail) where
      gap_run : RunStands format c s h.first h.count 0 (cut.before ++ cut.behind)
      gap_run = subst (RunStands format c s h.first h.count 0) cut.whole top.run

      pub gap_behind : Behind format c s h.layer back.first back.count h.tail cut.behind top.tail
      gap_behind = behind format c s h.layer back.first back.count h.tail cut.behind top.tail
          cut.back_is.counted cut.back_is.begins
          (back_rows c cut.before cut.behind gap_run.rows)
          (back_old format c s h.first h.count cut.before cut.behind gap_run)
          (back_gaps (OldPiece format c s) cut.before cut.behind gap_run.gaps)
          top.tail_at top.tail_piece
          (back_search format h.layer cut.before (entries_to format cut.behind top.tail)
          (subst (IsMstEntries format h.layer) cut.gap.whole
          (node_search format c s t.placed (link - 1) h top t.search).2))

      pub gap_used : (x : ℕ) → times x (used t.placed) ≡ bit (eqb x (link - 1)) + times x
          (own cut.before) + times x (own cut.behind) + times x (gaps_used cut.before) + times x
          (used (gap_before cut.behind top.tail)) + times x (gaps_used (others cut.behind)) + times
          x
          (used gap_behind.kept)
      gap_used x =
          omega (
            arith,
            top.used_is x,
            ap (λ (l : List PlacedEntry). times x (own l)) cut.whole,
            own_both x cut.before cut.behind,
            ap (λ (l : List PlacedEntry). times x (gaps_used l))
                cut.whole,
            gaps_both x cut.before cut.behind,
            gap_behind.counts x,
          )

      gap_counts : entry_count all ≡ front.count + back.count
      gap_counts =
          omega (
            arith,
            count_to format top.entries top.tail,
            ap (λ (l : List PlacedEntry). length l)
                cut.whole,
            length-append cut.before cut.behind,
            cut.front_is.counted,
            cut.back_is.counted,
          )

      abbrev gap_inner : SearchTree format c s child
      gap_inner = record {
        placed = gap_before cut.behind top.tail;
        at = cut.child_at;
        piece = gap_behind.gap_piece;
        search = gap_behind.gap_search;
        once = λ x. omega (arith, t.once x, gap_used x);
      }

      abbrev gap_framed : Framed format c s (frame_of front back tail_link None)
          (in_tree format gap_inner)
      gap_framed = record {
        front = cut.before;
        behind = link_from 0 cut.behind;
        front_run = front_run format c s h.first h.count cut.before cut.behind gap_run front.first
            front.count (link_from 0 cut.behind) cut.front_is.counted cut.front_is.begins refl;
        back = cut.behind;
        tail = gap_behind.kept;
        back_run =
            subst (λ (n : ℕ). BackRun format c s back.first back.count n cut.behind gap_behind.kept)
            (sym tail_is) gap_behind.back_run;
        goes = each_in (IsOld s) ((link - 1) ∷ []) (top.head_old, tt);
        alive = λ x i. old_alive s x (gap_behind.gap_piece.old x i);
        once = λ x. omega (arith, t.once x, gap_used x);
      }

      pub opens_gap : OpensGap format c s link t k child
          (frame_of front back tail_link None)
      opens_gap = record {
        inner = gap_inner;
        framed = gap_framed;
        entries = all;
        behind = entries_to format cut.behind top.tail;
        top = top.tree;
        gap = cut.gap;
        first = gap_behind.first;
        same = gap_behind.same;
        counted = gap_counts;
        some = (node_search format c s t.placed (link - 1) h top t.search).1;
        given = λ x. omega (arith, gap_used x);
        falls =
            omega (arith, gap_behind.gap_low, tall format c s t.placed (link - 1) h top t.search);
        low = low_layer format c s t.placed (link - 1) h top t.search;
      }

    module _ (front back : EntryRun) (row child right tail_link : ℕ)
        (cut : CutFound format k top.entries top.tail front row child back)
        (right_is : link_of (gap_before cut.behind top.tail) ≡ right)
        (tail_is : tail_link ≡ tail_behind back.count h.tail) where
      held_run : RunStands format c s h.first h.count 0 (cut.before ++ cut.here ∷ cut.behind)
      held_run = subst (RunStands format c s h.first h.count 0) cut.whole top.run

      held_search : IsMstEntries format h.layer
          (entry (tree_of format cut.here.child) k cut.here.value
          (entries_to format cut.behind top.tail))
      held_search =
          back_search format h.layer cut.before
          (entry (tree_of format cut.here.child) k cut.here.value
          (entries_to format cut.behind top.tail))
          (subst (IsMstEntries format h.layer) cut.at.whole
          (node_search format c s t.placed (link - 1) h top t.search).2)

      held_gaps : EachGap (OldPiece format c s) (cut.here ∷ cut.behind)
      held_gaps = back_gaps (OldPiece format c s) cut.before (cut.here ∷ cut.behind) held_run.gaps

      held_behind : Behind format c s h.layer back.first back.count h.tail cut.behind top.tail
      held_behind = behind format c s h.layer back.first back.count h.tail cut.behind top.tail
          cut.back_is.counted cut.back_is.begins
          (back_rows c cut.before (cut.here ∷ cut.behind) held_run.rows).1
          (λ r i. back_old format c s h.first h.count cut.before (cut.here ∷ cut.behind) held_run
          r (omega (arith, i))) held_gaps.1
          top.tail_at top.tail_piece held_search.3

      held_used : (x : ℕ) → times x (used t.placed) ≡ bit (eqb x (link - 1)) + times x
          (own cut.before) + bit (eqb x row) + times x (own cut.behind) + times x
          (gaps_used cut.before) + times x (used cut.here.child) + times x
          (used (gap_before cut.behind top.tail)) + times x (gaps_used (others cut.behind)) + times
          x
          (used held_behind.kept)
      held_used x =
          omega (
            arith,
            top.used_is x,
            ap (λ (l : List PlacedEntry). times x (own l)) cut.whole,
            own_both x cut.before (cut.here ∷ cut.behind),
            ap (λ (l : List PlacedEntry). times x (gaps_used l)) cut.whole,
            gaps_both x cut.before
                (cut.here ∷ cut.behind),
            times-append x (used cut.here.child) (gaps_used cut.behind),
            held_behind.counts x,
            ap (λ (n : ℕ). bit (eqb x n)) cut.row_is,
          )

      held_counts : length (cells_of format cut.before) + entry_count
          (entries_to format cut.behind top.tail) ≡ front.count + back.count
      held_counts =
          omega (
            arith,
            length-map {B = TreeEntry} cut.before (cell_of format),
            cut.front_is.counted,
            held_behind.count_is,
          )

      held_old : IsOld s row
      held_old =
          subst (IsOld s) cut.row_is
          (held_run.old cut.here.at
          (omega (
            arith,
            own_both cut.here.at cut.before (cut.here ∷ cut.behind),
            at_self cut.here.at,
          )))

      abbrev held_inner : TwoTrees format c s child right
      held_inner = record {
        a = cut.here.child;
        b = gap_before cut.behind top.tail;
        a_at = cut.child_at;
        b_at = right_is;
        a_piece = held_gaps.0;
        b_piece = held_behind.gap_piece;
        a_search = held_search.1;
        b_search = held_behind.gap_search;
        once = λ x. omega (arith, t.once x, held_used x);
      }

      abbrev held_framed : Framed format c s (frame_of front back tail_link (Some row))
          (in_both format held_inner)
      held_framed = record {
        front = cut.before;
        behind = row + 1;
        front_run = front_run format c s h.first h.count cut.before (cut.here ∷ cut.behind) held_run
            front.first front.count (row + 1) cut.front_is.counted cut.front_is.begins
            (ap (λ (n : ℕ). n + 1) (sym cut.row_is));
        back = cut.behind;
        tail = held_behind.kept;
        back_run =
            subst (λ (n : ℕ). BackRun format c s back.first back.count n cut.behind
            held_behind.kept)
            (sym tail_is) held_behind.back_run;
        goes = each_in (IsOld s) ((link - 1) ∷ row ∷ []) (top.head_old, (held_old, tt));
        alive = both_alive format c s cut.here.child (gap_before cut.behind top.tail) held_gaps.0
            held_behind.gap_piece;
        once = λ x. omega (arith, t.once x, held_used x);
      }

      pub opens_entry : OpensEntry format c s link t k
          (record { left = child; right = right; frame = frame_of front back tail_link (Some row) })
      opens_entry = record {
        inner = held_inner;
        framed = held_framed;
        value = cut.here.value;
        entries = all;
        behind = entries_to format cut.behind top.tail;
        top = top.tree;
        at = cut.at;
        first = held_behind.first;
        same = held_behind.same;
        counted = ap entry_count cut.at.whole
            ∙ omega (
              arith,
              with_entries_count (cells_of format cut.before)
                  (entry (tree_of format cut.here.child) k cut.here.value
                  (entries_to format cut.behind top.tail)),
              held_counts,
            );
        given = λ x. omega (arith, held_used x);
        low = low_layer format c s t.placed (link - 1) h top t.search;
      }

-- ---- the tree without the key

module _ {format : Format} {c : Content} {s : State} {link : ℕ} {t : SearchTree format c s link}
    {k : List ℕ} where
  -- the tree in the gap loses it
  module _ {child : ℕ} {frame : Frame} (o : OpensGap format c s link t k child frame) where
    abbrev gap_front : List TreeEntry
    gap_front = cells_of format o.framed.front

    pub without_below : without format t k ≡ tree_round format o.framed (without format o.inner k)
    without_below =
        ap (λ u. tree_remove u k) o.top
        ∙ remove_step k o.entries gap_front o.behind o.gap format frame.layer
        ∙ ap (λ u. node_of format frame.layer
        (with_entries gap_front (with_first (tree_remove u k) o.behind))) o.first
        ∙ ap (λ v. node_of format frame.layer (with_entries gap_front v))
        (o.same (without format o.inner k))

    pub rows_below : without_rows format t k ≡ without_rows format o.inner k + frame_rows frame
    rows_below =
        let all = ap (λ u. remove_rows u k) o.top
        ∙ remove_rows_step k o.entries gap_front o.behind o.gap format frame.layer
        ∙ ap (λ n. side_rows n false + remove_rows (first_child o.behind) k) o.counted
        ∙ ap (λ u. frame_rows frame + remove_rows u k) o.first in
        omega (arith, all)

  -- its entry goes, and the trees beside it are joined
  module _ {m : Meeting} (o : OpensEntry format c s link t k m) where
    abbrev entry_front : List TreeEntry
    entry_front = cells_of format o.framed.front

    abbrev lower : Tree
    lower = tree_of format o.inner.a

    pub without_here : without format t k ≡ tree_round format o.framed (both_joined format o.inner)
    without_here =
        ap (λ u. tree_remove u k) o.top
        ∙ remove_here k o.entries entry_front lower o.value o.behind o.at format m.frame.layer
        ∙ ap (λ u. node_of format m.frame.layer
        (with_entries entry_front (with_first (join lower u) o.behind))) o.first
        ∙ ap (λ v. node_of format m.frame.layer (with_entries entry_front v))
        (o.same (both_joined format o.inner))

    pub rows_here : without_rows format t k ≡ both_rows format o.inner + frame_rows m.frame
    rows_here =
        let left : length entry_front + entry_count o.behind ≡ m.frame.front.count
        + m.frame.back.count =
        omega (
          arith,
          o.counted,
          ap entry_count o.at.whole,
          with_entries_count entry_front (entry lower k o.value o.behind),
        ) in
        let all = ap (λ u. remove_rows u k) o.top
        ∙ remove_rows_here k o.entries entry_front lower o.value o.behind o.at format m.frame.layer
        ∙ ap (λ n. side_rows n false + join_rows lower (first_child o.behind)) left
        ∙ ap (λ u. frame_rows m.frame + join_rows lower u) o.first in
        omega (arith, all)
