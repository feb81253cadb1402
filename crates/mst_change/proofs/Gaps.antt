-- Entries cut at a key: the cells below it, and what follows them. What is made of them keeps these
-- cells, and is made of what follows.
use Rattle.mst_change.proofs.Names.{◌≡◌, ℕ, List, [], ◌∷◌, refl, ap, ◌∙◌, Less, Equal, Greater, Format, key_cmp, greater_from_less, Tree, Entries, last, entry, TreeEntry, with_entries, cells, last_child, first_child, with_first, below, entries_below, above, entries_above, put_among, put_at, put_in_gap, join, tree_remove, entries_remove, split_rows, gap_rows, put_rows, put_gap_rows, join_rows, remove_rows, entries_remove_rows}
use Rattle.mst_change.specs.Gap.{CellsBelow, FallsFirst}
use Rattle.mst_change.proofs.Choices.{chosen}

-- ---- the cells below the key

module _ (k : List ℕ) (back : Entries) where
  pub cut_below : (front : List TreeEntry) → CellsBelow k front → entries_below k
      (with_entries front back) ≡ with_entries front (entries_below k back)
  cut_below [] low = refl
  cut_below (c ∷ front) low =
      chosen (key_cmp k c.key) Greater (last (below k c.child)) (last c.child)
      (entry c.child c.key c.value (entries_below k (with_entries front back)))
      (greater_from_less c.key k low.0)
      ∙ ap (entry c.child c.key c.value) (cut_below front low.1)

  pub cut_above : (front : List TreeEntry) → CellsBelow k front → entries_above k
      (with_entries front back) ≡ entries_above k back
  cut_above [] low = refl
  cut_above (c ∷ front) low =
      chosen (key_cmp k c.key) Greater
      (entry (above k c.child) c.key c.value (with_entries front back))
      (with_entries front back) (entries_above k (with_entries front back))
      (greater_from_less c.key k low.0)
      ∙ cut_above front low.1

  pub cut_gap_rows : (front : List TreeEntry) → CellsBelow k front
      → gap_rows k (with_entries front back) ≡ gap_rows k back
  cut_gap_rows [] low = refl
  cut_gap_rows (c ∷ front) low = chosen (key_cmp k c.key) Greater (split_rows k c.child) 0
      (gap_rows k (with_entries front back)) (greater_from_less c.key k low.0) ∙ cut_gap_rows front
      low.1

  pub cut_put_gap : (format : Format) (l : ℕ) (v : List ℕ) (front : List TreeEntry)
      → CellsBelow k front → put_in_gap format l k v (with_entries front back) ≡ with_entries front
      (put_in_gap format l k v back)
  cut_put_gap format l v [] low = refl
  cut_put_gap format l v (c ∷ front) low =
      let es = with_entries front back in
      chosen (key_cmp k c.key) Greater (entry (put_at format l k v c.child) c.key c.value es)
      (entry c.child k v es) (entry c.child c.key c.value (put_in_gap format l k v es))
      (greater_from_less c.key k low.0)
      ∙ ap (entry c.child c.key c.value) (cut_put_gap format l v front low.1)

  pub cut_put_gap_rows : (l : ℕ) (v : List ℕ) (front : List TreeEntry) → CellsBelow k front
      → put_gap_rows l k v (with_entries front back) ≡ put_gap_rows l k v back
  cut_put_gap_rows l v [] low = refl
  cut_put_gap_rows l v (c ∷ front) low = chosen (key_cmp k c.key) Greater (put_rows l k v c.child) 0
      (put_gap_rows l k v (with_entries front back)) (greater_from_less c.key k low.0)
      ∙ cut_put_gap_rows l v front low.1

  pub cut_remove : (front : List TreeEntry) → CellsBelow k front
      → entries_remove (with_entries front back) k ≡ with_entries front (entries_remove back k)
  cut_remove [] low = refl
  cut_remove (c ∷ front) low =
      let es = with_entries front back in
      chosen (key_cmp k c.key) Greater (entry (tree_remove c.child k) c.key c.value es)
      (with_first (join c.child (first_child es)) es)
      (entry c.child c.key c.value (entries_remove es k)) (greater_from_less c.key k low.0)
      ∙ ap (entry c.child c.key c.value) (cut_remove front low.1)

  pub cut_remove_rows : (front : List TreeEntry) → CellsBelow k front → entries_remove_rows
      (with_entries front back) k ≡ entries_remove_rows back k
  cut_remove_rows [] low = refl
  cut_remove_rows (c ∷ front) low =
      let es = with_entries front back in
      chosen (key_cmp k c.key) Greater (remove_rows c.child k) (join_rows c.child (first_child es))
      (entries_remove_rows es k) (greater_from_less c.key k low.0) ∙ cut_remove_rows front low.1

-- ---- where the key falls into the first gap

pub gap_below : (es : Entries) (k : List ℕ) → FallsFirst k es → entries_below k es ≡ last
    (below k (first_child es))
gap_below (last child) k falls = refl
gap_below (entry child key value rest) k falls = chosen (key_cmp k key) Less (last (below k child))
    (last child) (entry child key value (entries_below k rest)) falls

pub gap_above : (es : Entries) (k : List ℕ) → FallsFirst k es → entries_above k es ≡ with_first
    (above k (first_child es)) es
gap_above (last child) k falls = refl
gap_above (entry child key value rest) k falls =
    chosen (key_cmp k key) Less (entry (above k child) key value rest) rest (entries_above k rest)
    falls

pub gap_gap_rows : (es : Entries) (k : List ℕ) → FallsFirst k es → gap_rows k es ≡ split_rows k
    (first_child es)
gap_gap_rows (last child) k falls = refl
gap_gap_rows (entry child key value rest) k falls = chosen (key_cmp k key) Less (split_rows k child)
    0 (gap_rows k rest) falls

pub gap_put : (es : Entries) (format : Format) (l : ℕ) (k v : List ℕ) → FallsFirst k es
    → put_in_gap format l k v es ≡ with_first (put_at format l k v (first_child es)) es
gap_put (last child) format l k v falls = refl
gap_put (entry child key value rest) format l k v falls =
    chosen (key_cmp k key) Less (entry (put_at format l k v child) key value rest)
    (entry child k v rest) (entry child key value (put_in_gap format l k v rest)) falls

pub gap_put_rows : (es : Entries) (l : ℕ) (k v : List ℕ) → FallsFirst k es → put_gap_rows l k v es
    ≡ put_rows l k v (first_child es)
gap_put_rows (last child) l k v falls = refl
gap_put_rows (entry child key value rest) l k v falls =
    chosen (key_cmp k key) Less (put_rows l k v child) 0 (put_gap_rows l k v rest) falls

pub gap_remove : (es : Entries) (k : List ℕ) → FallsFirst k es → entries_remove es k ≡ with_first
    (tree_remove (first_child es) k) es
gap_remove (last child) k falls = refl
gap_remove (entry child key value rest) k falls =
    chosen (key_cmp k key) Less (entry (tree_remove child k) key value rest)
    (with_first (join child (first_child rest)) rest)
    (entry child key value (entries_remove rest k)) falls

pub gap_remove_rows : (es : Entries) (k : List ℕ) → FallsFirst k es → entries_remove_rows es k
    ≡ remove_rows (first_child es) k
gap_remove_rows (last child) k falls = refl
gap_remove_rows (entry child key value rest) k falls =
    chosen (key_cmp k key) Less (remove_rows child k) (join_rows child (first_child rest))
    (entries_remove_rows rest k) falls

-- ---- where the first entry has the key

module _ (child : Tree) (key value : List ℕ) (rest : Entries) (k : List ℕ)
    (equal : key_cmp k key ≡ Equal) where
  pub found_below : entries_below k (entry child key value rest) ≡ last child
  found_below = chosen (key_cmp k key) Equal (last (below k child)) (last child)
      (entry child key value (entries_below k rest)) equal

  pub found_above : entries_above k (entry child key value rest) ≡ rest
  found_above = chosen (key_cmp k key) Equal (entry (above k child) key value rest) rest
      (entries_above k rest) equal

  pub found_gap_rows : gap_rows k (entry child key value rest) ≡ 0
  found_gap_rows = chosen (key_cmp k key) Equal (split_rows k child) 0 (gap_rows k rest) equal

  pub found_remove : entries_remove (entry child key value rest) k ≡ with_first
      (join child (first_child rest)) rest
  found_remove = chosen (key_cmp k key) Equal (entry (tree_remove child k) key value rest)
      (with_first (join child (first_child rest)) rest)
      (entry child key value (entries_remove rest k)) equal

  pub found_remove_rows : entries_remove_rows (entry child key value rest) k ≡ join_rows child
      (first_child rest)
  found_remove_rows = chosen (key_cmp k key) Equal (remove_rows child k)
      (join_rows child (first_child rest)) (entries_remove_rows rest k) equal

-- ---- a put among the entries: the cells below the key, its own, and what follows

around_cells : (front : List TreeEntry) (low high : Entries) (k v : List ℕ)
    → with_entries (cells (with_entries front low))
    (entry (last_child (with_entries front low)) k v high) ≡ with_entries front
    (with_entries (cells low) (entry (last_child low) k v high))
around_cells [] low high k v = refl
around_cells (c ∷ front) low high k v =
    ap (entry c.child c.key c.value) (around_cells front low high k v)

pub cut_put_among : (k v : List ℕ) (back : Entries) (front : List TreeEntry) → CellsBelow k front
    → put_among k v (with_entries front back) ≡ with_entries front (put_among k v back)
cut_put_among k v back front low =
    ap (λ (es : Entries). with_entries (cells es)
    (entry (last_child es) k v (entries_above k (with_entries front back))))
    (cut_below k back front low)
    ∙ ap (λ (es : Entries). with_entries (cells (with_entries front (entries_below k back)))
    (entry (last_child (with_entries front (entries_below k back))) k v es))
    (cut_above k back front low)
    ∙ around_cells front (entries_below k back) (entries_above k back) k v

pub gap_put_among : (es : Entries) (k v : List ℕ) → FallsFirst k es → put_among k v es ≡ entry
    (below k (first_child es)) k v (with_first (above k (first_child es)) es)
gap_put_among es k v falls =
    ap (λ (low : Entries). with_entries (cells low)
    (entry (last_child low) k v (entries_above k es))) (gap_below es k falls)
    ∙ ap (entry (below k (first_child es)) k v) (gap_above es k falls)

pub found_put_among : (child : Tree) (key value : List ℕ) (rest : Entries) (k v : List ℕ)
    → key_cmp k key ≡ Equal → put_among k v (entry child key value rest) ≡ entry child k v rest
found_put_among child key value rest k v equal =
    ap (λ (low : Entries). with_entries (cells low)
    (entry (last_child low) k v (entries_above k (entry child key value rest))))
    (found_below child key value rest k equal) ∙ ap (entry child k v)
    (found_above child key value rest k equal)
