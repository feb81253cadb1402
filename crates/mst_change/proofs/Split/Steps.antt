-- One node of a split: the key falls into the gap between some cells and the entries after them.
use Rattle.mst_change.proofs.Names.{◌≡◌, ℕ, ◌+◌, ◌==◌, ◌&&◌, List, length, ap, ◌∙◌, arith, Format, Tree, node, Entries, last, entry_count, TreeEntry, with_entries, first_child, with_first, node_of, is_empty, below, entries_below, above, entries_above, side_rows, split_rows, gap_rows, IsGap}
use Rattle.mst_change.proofs.Parts.{with_first_count, with_entries_count, node_of_empty, first_child-with}
use Rattle.mst_change.proofs.Gaps.{cut_below, cut_above, cut_gap_rows, gap_below, gap_above, gap_gap_rows}

module _ (k : List ℕ) (es : Entries) (front : List TreeEntry) (back : Entries)
    (gap : IsGap k es front back) where
  pub gap_entries_below : entries_below k es ≡ with_entries front
      (last (below k (first_child back)))
  gap_entries_below = ap (entries_below k) gap.whole ∙ cut_below k back front gap.low
      ∙ ap (with_entries front) (gap_below back k gap.high)

  pub gap_entries_above : entries_above k es ≡ with_first (above k (first_child back)) back
  gap_entries_above = ap (entries_above k) gap.whole ∙ cut_above k back front gap.low
      ∙ gap_above back k gap.high

  pub gap_split_rows : gap_rows k es ≡ split_rows k (first_child back)
  gap_split_rows = ap (gap_rows k) gap.whole ∙ cut_gap_rows k back front gap.low
      ∙ gap_gap_rows back k gap.high

  pub gap_count_below : entry_count (entries_below k es) ≡ length front
  gap_count_below =
      let c = with_entries_count front (last (below k (first_child back))) in
      ap entry_count gap_entries_below ∙ omega (arith, c)

  pub gap_count_above : entry_count (entries_above k es) ≡ entry_count back
  gap_count_above = ap entry_count gap_entries_above ∙ with_first_count back
      (above k (first_child back))

  pub gap_count : entry_count es ≡ length front + entry_count back
  gap_count = ap entry_count gap.whole ∙ with_entries_count front back

  -- ---- the two sides of the node

  pub below_step : (g : Format) (l : ℕ) → below k (node g l es) ≡ node_of g l
      (with_entries front (last (below k (first_child back))))
  below_step g l = ap (node_of g l) gap_entries_below

  pub above_step : (g : Format) (l : ℕ) → above k (node g l es) ≡ node_of g l
      (with_first (above k (first_child back)) back)
  above_step g l = ap (node_of g l) gap_entries_above

  pub none_below : (g : Format) (l : ℕ) → is_empty (below k (node g l es))
      ≡ ((length front == 0) && is_empty
      (first_child (with_entries front (last (below k (first_child back))))))
  none_below g l =
      node_of_empty (entries_below k es) g l
      ∙ ap (λ n. (n == 0) && is_empty (first_child (entries_below k es))) gap_count_below
      ∙ ap (λ (fs : Entries). (length front == 0) && is_empty (first_child fs)) gap_entries_below

  pub none_above : (g : Format) (l : ℕ) → is_empty (above k (node g l es))
      ≡ ((entry_count back == 0) && is_empty (above k (first_child back)))
  none_above g l =
      node_of_empty (entries_above k es) g l
      ∙ ap (λ n. (n == 0) && is_empty (first_child (entries_above k es))) gap_count_above
      ∙ ap (λ (t : Tree). (entry_count back == 0) && is_empty t)
      (ap first_child gap_entries_above ∙ first_child-with back (above k (first_child back)))

  pub split_rows_step : (g : Format) (l : ℕ) → split_rows k (node g l es) ≡ side_rows (length front)
      (is_empty (above k (node g l es))) + side_rows (entry_count back)
      (is_empty (below k (node g l es))) + split_rows k (first_child back)
  split_rows_step g l =
      ap (λ n. side_rows n (is_empty (above k (node g l es))) + side_rows
      (entry_count (entries_above k es)) (is_empty (below k (node g l es))) + gap_rows k es)
      gap_count_below
      ∙ ap (λ n. side_rows (length front) (is_empty (above k (node g l es))) + side_rows n
      (is_empty (below k (node g l es))) + gap_rows k es) gap_count_above
      ∙ ap (λ n. side_rows (length front) (is_empty (above k (node g l es))) + side_rows
      (entry_count back) (is_empty (below k (node g l es))) + n) gap_split_rows
