-- One node of a remove, by where the key stands among its entries.
use Rattle.mst_change.proofs.Names.{◌≡◌, ℕ, ◌+◌, List, length, false, ap, ◌∙◌, arith, Format, key_cmp-itself, Tree, node, Entries, entry, entry_count, TreeEntry, with_entries, first_child, with_first, node_of, join, tree_remove, entries_remove, side_rows, join_rows, remove_rows, entries_remove_rows, IsGap, IsAt}
use Rattle.mst_change.proofs.Parts.{with_first_count, with_entries_count}
use Rattle.mst_change.proofs.Gaps.{cut_remove, cut_remove_rows, gap_remove, gap_remove_rows, found_remove, found_remove_rows}
use Rattle.mst_change.proofs.Split.Steps.{gap_count}

module _ (k : List ℕ) (es : Entries) (front : List TreeEntry) (back : Entries)
    (gap : IsGap k es front back) where
  removed : entries_remove es k ≡ with_entries front
      (with_first (tree_remove (first_child back) k) back)
  removed = ap (λ (fs : Entries). entries_remove fs k) gap.whole ∙ cut_remove k back front gap.low
      ∙ ap (with_entries front) (gap_remove back k gap.high)

  -- the child of the gap is changed
  pub remove_step : (g : Format) (l : ℕ) → tree_remove (node g l es) k ≡ node_of g l
      (with_entries front (with_first (tree_remove (first_child back) k) back))
  remove_step g l = ap (node_of g l) removed

  pub remove_rows_step : (g : Format) (l : ℕ) → remove_rows (node g l es) k ≡ side_rows
      (entry_count es) false + remove_rows (first_child back) k
  remove_rows_step g l =
      let new = with_entries_count front (with_first (tree_remove (first_child back) k) back) in
      let more = with_first_count back (tree_remove (first_child back) k) in
      let old = gap_count k es front back gap in
      let count : entry_count (entries_remove es k) ≡ entry_count es =
      ap entry_count removed ∙ omega (arith, new, more, old) in
      ap (λ n. side_rows n false + entries_remove_rows es k) count
      ∙ ap (λ n. side_rows (entry_count es) false + n)
      (ap (λ (fs : Entries). entries_remove_rows fs k) gap.whole ∙ cut_remove_rows k back front
      gap.low ∙ gap_remove_rows back k gap.high)

module _ (k : List ℕ) (es : Entries) (front : List TreeEntry) (child : Tree) (value : List ℕ)
    (back : Entries) (at : IsAt k es front child value back) where
  removed_at : entries_remove es k ≡ with_entries front
      (with_first (join child (first_child back)) back)
  removed_at =
      ap (λ (fs : Entries). entries_remove fs k) at.whole ∙ cut_remove k (entry child k value back)
      front at.low ∙ ap (with_entries front)
      (found_remove child k value back k (key_cmp-itself k))

  -- the entry goes, and the children beside it are joined
  pub remove_here : (g : Format) (l : ℕ) → tree_remove (node g l es) k ≡ node_of g l
      (with_entries front (with_first (join child (first_child back)) back))
  remove_here g l = ap (node_of g l) removed_at

  pub remove_rows_here : (g : Format) (l : ℕ) → remove_rows (node g l es) k ≡ side_rows
      (length front + entry_count back) false + join_rows child (first_child back)
  remove_rows_here g l =
      let new = with_entries_count front (with_first (join child (first_child back)) back) in
      let more = with_first_count back (join child (first_child back)) in
      let count : entry_count (entries_remove es k) ≡ length front + entry_count back =
      ap entry_count removed_at ∙ omega (arith, new, more) in
      ap (λ n. side_rows n false + entries_remove_rows es k) count
      ∙ ap (λ n. side_rows (length front + entry_count back) false + n)
      (ap (λ (fs : Entries). entries_remove_rows fs k) at.whole ∙ cut_remove_rows k
      (entry child k value back) front at.low ∙ found_remove_rows child k value back k
      (key_cmp-itself k))
