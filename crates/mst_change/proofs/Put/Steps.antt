-- One node of a put, by its layer and by where the key stands among its entries.
use Rattle.mst_change.proofs.Names.{◌≡◌, ℕ, ◌+◌, ◌<◌, List, ap, ◌∙◌, arith, Format, key_cmp-itself, Tree, node, Entries, last, entry, entry_count, TreeEntry, with_entries, first_child, with_first, below, above, put_among, put_at, put_in_gap, split_rows, gap_rows, put_among_rows, put_rows, put_gap_rows, IsGap, IsAt}
use Rattle.mst_change.proofs.Parts.{with_first_count, with_entries_count}
use Rattle.mst_change.proofs.Gaps.{cut_put_among, cut_put_gap, cut_put_gap_rows, cut_gap_rows, gap_put_among, gap_put, gap_put_rows, found_put_among, found_gap_rows}
use Rattle.mst_change.proofs.Split.Steps.{gap_split_rows, gap_count}
use Rattle.mst_change.proofs.Choices.{chosen_higher, chosen_lower, chosen_level}

-- ---- a node below the key's layer: it is split

module _ (format g : Format) (l j : ℕ) (k v : List ℕ) (es : Entries) where
  pub put_lower : j < l → put_at format l k v (node g j es) ≡ node format l
      (entry (below k (node g j es)) k v (last (above k (node g j es))))
  put_lower h = chosen_higher j l (node format l (put_among k v (last (node g j es))))
      (node g j (put_among k v es)) (node g j (put_in_gap format l k v es)) h

  pub put_rows_lower : j < l → put_rows l k v (node g j es) ≡ 2 + split_rows k (node g j es)
  put_rows_lower h =
      chosen_higher j l (put_among_rows k v (last (node g j es))) (put_among_rows k v es)
      (entry_count es + 1 + put_gap_rows l k v es) h ∙ omega arith

-- ---- a node of the key's layer: the entry goes into its gap, or its value is changed

module _ (k : List ℕ) (es : Entries) (front : List TreeEntry) (back : Entries)
    (gap : IsGap k es front back) where
  among : (v : List ℕ) → put_among k v es ≡ with_entries front
      (entry (below k (first_child back)) k v (with_first (above k (first_child back)) back))
  among v = ap (put_among k v) gap.whole ∙ cut_put_among k v back front gap.low
      ∙ ap (with_entries front) (gap_put_among back k v gap.high)

  pub put_level : (format g : Format) (l : ℕ) (v : List ℕ) → put_at format l k v (node g l es)
      ≡ node g l (with_entries front
      (entry (below k (first_child back)) k v (with_first (above k (first_child back)) back)))
  put_level format g l v =
      chosen_level l (node format l (put_among k v (last (node g l es))))
      (node g l (put_among k v es)) (node g l (put_in_gap format l k v es)) ∙ ap (node g l)
      (among v)

  pub put_rows_level : (g : Format) (l : ℕ) (v : List ℕ) → put_rows l k v (node g l es)
      ≡ entry_count es + 2 + split_rows k (first_child back)
  put_rows_level g l v =
      let count = ap entry_count (among v) in
      let new =
      with_entries_count front
      (entry (below k (first_child back)) k v (with_first (above k (first_child back)) back)) in
      let more = with_first_count back (above k (first_child back)) in
      let old = gap_count k es front back gap in
      let path = gap_split_rows k es front back gap in
      chosen_level l (put_among_rows k v (last (node g l es))) (put_among_rows k v es)
      (entry_count es + 1 + put_gap_rows l k v es) ∙ omega (arith, count, new, more, old, path)

  -- ---- a node above the key's layer: the child of the gap is changed

  pub put_higher : (format g : Format) (l j : ℕ) (v : List ℕ) → l < j → put_at format l k v
      (node g j es) ≡ node g j
      (with_entries front (with_first (put_at format l k v (first_child back)) back))
  put_higher format g l j v h =
      chosen_lower j l (node format l (put_among k v (last (node g j es))))
      (node g j (put_among k v es)) (node g j (put_in_gap format l k v es)) h
      ∙ ap (node g j) (ap (put_in_gap format l k v) gap.whole ∙ cut_put_gap k back format l v front
      gap.low ∙ ap (with_entries front) (gap_put back format l k v gap.high))

  pub put_rows_higher : (g : Format) (l j : ℕ) (v : List ℕ) → l < j → put_rows l k v (node g j es)
      ≡ entry_count es + 1 + put_rows l k v (first_child back)
  put_rows_higher g l j v h =
      chosen_lower j l (put_among_rows k v (last (node g j es))) (put_among_rows k v es)
      (entry_count es + 1 + put_gap_rows l k v es) h
      ∙ ap (λ n. entry_count es + 1 + n)
      (ap (put_gap_rows l k v) gap.whole ∙ cut_put_gap_rows k back l v front gap.low
      ∙ gap_put_rows back l k v gap.high)

module _ (k : List ℕ) (es : Entries) (front : List TreeEntry) (child : Tree) (value : List ℕ)
    (back : Entries) (at : IsAt k es front child value back) where
  among_at : (v : List ℕ) → put_among k v es ≡ with_entries front (entry child k v back)
  among_at v = ap (put_among k v) at.whole ∙ cut_put_among k v (entry child k value back) front
      at.low ∙ ap (with_entries front) (found_put_among child k value back k v (key_cmp-itself k))

  pub put_value : (format g : Format) (l : ℕ) (v : List ℕ) → put_at format l k v (node g l es)
      ≡ node g l (with_entries front (entry child k v back))
  put_value format g l v =
      chosen_level l (node format l (put_among k v (last (node g l es))))
      (node g l (put_among k v es)) (node g l (put_in_gap format l k v es)) ∙ ap (node g l)
      (among_at v)

  pub put_rows_value : (g : Format) (l : ℕ) (v : List ℕ) → put_rows l k v (node g l es)
      ≡ entry_count es + 1
  put_rows_value g l v =
      let count = ap entry_count (among_at v) in
      let new = with_entries_count front (entry child k v back) in
      let old = ap entry_count at.whole in
      let was = with_entries_count front (entry child k value back) in
      let none = ap (gap_rows k) at.whole ∙ cut_gap_rows k (entry child k value back) front at.low
      ∙ found_gap_rows child k value back k (key_cmp-itself k) in
      chosen_level l (put_among_rows k v (last (node g l es))) (put_among_rows k v es)
      (entry_count es + 1 + put_gap_rows l k v es) ∙ omega (arith, count, new, old, was, none)
