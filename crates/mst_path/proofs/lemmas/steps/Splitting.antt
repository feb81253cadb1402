-- One node of a split: what is split in its gap, and what that takes.
use Rattle.mst_path.proofs.Names.{Format, ◌≡◌, ℕ, zero, suc, ◌+◌, ◌<◌, ◌≤◌, ◌==◌, ◌&&◌, ◌||◌, Bool, true, false, List, [], ◌∷◌, length, refl, sym, ◌∙◌, ap, subst, arith, nat_tests, length-map, layer_in, IsAscending, if◌then◌else◌, Tree, empty, node, Entries, last, entry_count, pairs, entries_pairs, IsMst, IsMstEntries, TreeEntry, with_entries, Content, State, times, Root, Placed, none, head, tree_of, link_of, used, Frame, Meeting, first_child, with_first, node_of, is_empty, below, above, side_rows, split_rows, IsRootOf, cell_of, cells_of, entries_to, Split, height, height_at, OpensGap, OpensEntry, ToSplit, gap_count}
use Rattle.mst_change.proofs.Split.Steps.{below_step, above_step, none_below, none_above, split_rows_step}
use Rattle.mst_path.proofs.lemmas.rows.Moving.{moves_none}
use Rattle.mst_path.proofs.lemmas.trees.Heights.{gap_rises, entry_layer}
use Rattle.mst_path.proofs.lemmas.trees.NodeRuns.{height_under}
use Rattle.mst_path.proofs.lemmas.trees.Meetings.{height_there}
use Rattle.mst_path.proofs.lemmas.trees.Joined.{placed_none}
use Rattle.mst_path.proofs.lemmas.steps.PutGaps.{under_height}

pub empty_link : (format : Format) (p : Placed) (at : Root) → IsRootOf format p at
    → is_empty (tree_of format p) ≡ (at.link == 0)
empty_link format none at root = let is : (at.link == 0) ≡ true = let l =
    root.link in grind (arith, nat_tests) in sym is
empty_link format (head i l chain) at root = let is : (at.link == 0) ≡ false = let l =
    root.link in grind (arith, nat_tests) in sym is

pub positive : (n : ℕ) → (n ≡ 0 → ⊥) → 0 < n
positive zero never = absurd (never refl)
positive (suc n) never = omega arith

pub no_front : (cs : List TreeEntry) (t : Tree)
    → ((length cs == 0) && is_empty (first_child (with_entries cs (last t))))
    ≡ ((length cs == 0) && is_empty t)
no_front [] t = refl
no_front (x ∷ cs) t =
    let more : (length (x ∷ cs) == 0) ≡ false = grind (arith, nat_tests) in
    ap (λ (b : Bool). b && is_empty (first_child (with_entries (x ∷ cs) (last t)))) more
    ∙ sym (ap (λ (b : Bool). b && is_empty t) more)

pub empty_is : (t : Tree) → is_empty t ≡ true → t ≡ empty
empty_is empty e = refl
empty_is (node g l es) e = absurd cc

pub side_whole : (n : ℕ) → side_rows n true ≡ 0
side_whole n = go (n == 0)
  where
    go : (b : Bool) → (if b || true then 0 else n + 1) ≡ 0
    go true = refl
    go false = refl

pub side_nothing : (n : ℕ) (b : Bool) → (n == 0) ≡ true → side_rows n b ≡ 0
side_nothing n b e = ap (λ (z : Bool). if z || b then 0 else n + 1) e

-- the empty tree
pub split_none : (format : Format) (c : Content) (s : State) (link : ℕ) (k : List ℕ)
    (left right : Root) → link ≡ 0 → IsRootOf format none left → IsRootOf format none right
    → (t : ToSplit format c s link k) → Split format c c s s
    (below k (tree_of format t.tree.placed)) (above k (tree_of format t.tree.placed)) left right
    (λ x. times x (used t.tree.placed)) (split_rows k (tree_of format t.tree.placed))
split_none format c s link k left right zero_is l r t = go t.tree.placed (t.tree.at ∙ zero_is)
  where
    go : (p : Placed) → link_of p ≡ 0 → Split format c c s s (below k (tree_of format p))
        (above k (tree_of format p)) left right (λ x. times x (used p))
        (split_rows k (tree_of format p))
    go none is = record {
      lower = none;
      upper = none;
      lower_is = refl;
      upper_is = refl;
      lower_root = l;
      upper_root = r;
      lower_piece = record { rows = tt; made = tt };
      upper_piece = record { rows = tt; made = tt };
      taken = [];
      killed = [];
      moves = moves_none s;
      keeps = λ x out. refl;
      rows = λ x. omega arith;
      counted = refl;
    }
    go (head at l chain) is = absurd (omega (arith, is))

-- ---- the top node is opened

module _ (format : Format) (c : Content) (s : State) (link : ℕ) (k : List ℕ)
    (t : ToSplit format c s link k) where
  -- there is no tree
  pub none_rows : link ≡ 0 → split_rows k (tree_of format t.tree.placed) ≡ 0
  none_rows no_link = ap (λ (p : Placed). split_rows k (tree_of format p))
      (placed_none t.tree.placed link t.tree.at no_link)

  pub no_below : link ≡ 0 → is_empty (below k (tree_of format t.tree.placed)) ≡ true
  no_below no_link = ap (λ (p : Placed). is_empty (below k (tree_of format p)))
      (placed_none t.tree.placed link t.tree.at no_link)

  pub no_above : link ≡ 0 → is_empty (above k (tree_of format t.tree.placed)) ≡ true
  no_above no_link = ap (λ (p : Placed). is_empty (above k (tree_of format p)))
      (placed_none t.tree.placed link t.tree.at no_link)

  low : height (tree_of format t.tree.placed) ≤ layer_in format k
  low = height_under (layer_in format k) (tree_of format t.tree.placed) t.under

  -- the key has no entry
  pub no_entry : (m : Meeting) → OpensEntry format c s link t.tree k m → ⊥
  no_entry m o =
      let search : IsMst format (node format m.frame.layer o.entries) =
      subst (IsMst format) o.top t.tree.search in
      let layer = entry_layer format m.frame.layer (tree_of format o.inner.a) k o.value o.behind
      (cells_of format o.framed.front)
      (subst (IsMstEntries format m.frame.layer) o.at.whole search.2) in
      let tall = ap height o.top in
      absurd (omega (arith, layer, tall, low))

  module _ (child : ℕ) (frame : Frame) (o : OpensGap format c s link t.tree k child frame) where
    abbrev inside : Tree
    inside = tree_of format o.inner.placed

    abbrev cells : List TreeEntry
    cells = cells_of format o.framed.front

    pub split_rises : IsAscending (pairs (tree_of format o.inner.placed))
    split_rises = subst (λ (u : Tree). IsAscending (pairs u)) o.first
        (gap_rises format frame.layer o.behind (cells_of format o.framed.front)
        (subst (λ (e : Entries). IsAscending (entries_pairs e)) o.gap.whole
        (subst (λ (u : Tree). IsAscending (pairs u)) o.top t.rises)))

    pub split_low : height (tree_of format o.inner.placed) ≤ layer_in format k
    split_low = omega (arith, o.falls, low)

    abbrev pub split_inner : ToSplit format c s child k
    split_inner = record {
      tree = o.inner;
      rises = split_rises;
      under = under_height (layer_in format k) (tree_of format o.inner.placed) split_low;
    }

    pub split_falls : height_at c child < height_at c link
    split_falls =
        omega (
          arith,
          o.falls,
          height_there format c o.inner.placed child o.inner.at
              o.inner.piece.rows,
          height_there format c t.tree.placed link t.tree.at t.tree.piece.rows,
        )

    front_is : length cells ≡ frame.front.count
    front_is =
        omega (
          arith,
          length-map {B = TreeEntry} o.framed.front (cell_of format),
          o.framed.front_run.counted,
        )

    back_is : entry_count o.behind ≡ frame.back.count
    back_is = omega (arith, o.counted, gap_count k o.entries cells o.behind o.gap, front_is)

    pub below_is : is_empty (below k (tree_of format t.tree.placed))
        ≡ ((frame.front.count == 0) && is_empty (below k inside))
    below_is = ap (λ (u : Tree). is_empty (below k u)) o.top ∙ none_below k o.entries cells o.behind
        o.gap format frame.layer
        ∙ no_front cells (below k (first_child o.behind))
        ∙ ap (λ (n : ℕ). (n == 0) && is_empty (below k (first_child o.behind))) front_is
        ∙ ap (λ (u : Tree). (frame.front.count == 0) && is_empty (below k u)) o.first

    pub above_is : is_empty (above k (tree_of format t.tree.placed))
        ≡ ((frame.back.count == 0) && is_empty (above k inside))
    above_is = ap (λ (u : Tree). is_empty (above k u)) o.top ∙ none_above k o.entries cells o.behind
        o.gap format frame.layer
        ∙ ap (λ (n : ℕ). (n == 0) && is_empty (above k (first_child o.behind))) back_is
        ∙ ap (λ (u : Tree). (frame.back.count == 0) && is_empty (above k u)) o.first

    pub rows_are : split_rows k (tree_of format t.tree.placed) ≡ side_rows frame.front.count
        (is_empty (above k (tree_of format t.tree.placed))) + side_rows frame.back.count
        (is_empty (below k (tree_of format t.tree.placed))) + split_rows k inside
    rows_are =
        let n = node format frame.layer o.entries in
        let step = split_rows_step k o.entries cells o.behind o.gap format frame.layer in
        let a : side_rows (length cells) (is_empty (above k n)) ≡ side_rows frame.front.count
        (is_empty (above k (tree_of format t.tree.placed))) =
        ap (λ (m : ℕ). side_rows m (is_empty (above k n))) front_is
        ∙ ap (λ (u : Tree). side_rows frame.front.count (is_empty (above k u))) (sym o.top) in
        let b : side_rows (entry_count o.behind) (is_empty (below k n)) ≡ side_rows frame.back.count
        (is_empty (below k (tree_of format t.tree.placed))) =
        ap (λ (m : ℕ). side_rows m (is_empty (below k n))) back_is
        ∙ ap (λ (u : Tree). side_rows frame.back.count (is_empty (below k u))) (sym o.top) in
        omega (arith, step, a, b, ap (split_rows k) o.first, ap (split_rows k) o.top)

    pub split_room : split_rows k inside ≤ split_rows k (tree_of format t.tree.placed)
    split_room = omega (arith, rows_are)

    -- the sides
    pub below_tree : below k (tree_of format t.tree.placed) ≡ node_of format frame.layer
        (with_entries cells (last (below k inside)))
    below_tree = ap (below k) o.top ∙ below_step k o.entries cells o.behind o.gap format frame.layer
        ∙ ap (λ (u : Tree). node_of format frame.layer (with_entries cells (last (below k u))))
        o.first

    pub above_tree : above k (tree_of format t.tree.placed) ≡ node_of format frame.layer
        (with_first (above k inside) (entries_to format o.framed.back o.framed.tail))
    above_tree = ap (above k) o.top ∙ above_step k o.entries cells o.behind o.gap format frame.layer
        ∙ ap (λ (u : Tree). node_of format frame.layer (with_first (above k u) o.behind)) o.first
        ∙ ap (node_of format frame.layer) (o.same (above k inside))

    -- what is counted of both sides
    module _ (none_b none_a : Bool)
        (b_is : none_b ≡ is_empty (below k (tree_of format t.tree.placed)))
        (a_is : none_a ≡ is_empty (above k (tree_of format t.tree.placed))) where
      pub rows_counted : side_rows frame.front.count none_a + side_rows frame.back.count none_b
          + split_rows k inside ≡ split_rows k (tree_of format t.tree.placed)
      rows_counted =
          omega (
            arith,
            rows_are,
            ap (side_rows frame.front.count) a_is,
            ap (side_rows frame.back.count) b_is,
          )
