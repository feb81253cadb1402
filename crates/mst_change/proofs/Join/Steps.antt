-- One step of a join, by the layers of the two nodes.
use Rattle.mst_change.proofs.Names.{◌≡◌, ℕ, ◌+◌, ◌<◌, refl, ap, ◌∙◌, Format, Tree, empty, node, Entries, last, entry, entry_count, with_entries, cells, first_child, last_child, with_first, join_node, join_first, join, join_last, join_node_rows, join_first_rows, join_rows, join_last_rows}
use Rattle.mst_change.proofs.Choices.{chosen_higher, chosen_lower, chosen_level}

pub join_last_is : (es : Entries) (b : Tree) → join_last es b ≡ join (last_child es) b
join_last_is (last child) b = refl
join_last_is (entry child key value rest) b = join_last_is rest b

pub join_last_rows_is : (es : Entries) (b : Tree) → join_last_rows es b ≡ join_rows (last_child es)
    b
join_last_rows_is (last child) b = refl
join_last_rows_is (entry child key value rest) b = join_last_rows_is rest b

pub join_empty : (a : Tree) → join a empty ≡ a
join_empty empty = refl
join_empty (node g l es) = refl

first_step : (fs : Entries) (g : Format) (l : ℕ) (es : Entries) (inner : Tree → Tree)
    → join_first g l es inner fs ≡ with_first (join_node g l es inner (first_child fs)) fs
first_step (last child) g l es inner = refl
first_step (entry child key value rest) g l es inner = refl

first_rows_step : (fs : Entries) (n l : ℕ) (inner : Tree → ℕ) → join_first_rows n l inner fs
    ≡ join_node_rows n l inner (first_child fs)
first_rows_step (last child) n l inner = refl
first_rows_step (entry child key value rest) n l inner = refl

module _ (g h : Format) (l j : ℕ) (es fs : Entries) where
  abbrev tall : Entries
  tall = with_entries (cells es) (last (join_last es (node h j fs)))

  abbrev wide : Entries
  wide = with_entries (cells es) (with_first (join_last es (first_child fs)) fs)

  abbrev deep : Entries
  deep = join_first g l es (join_last es) fs

  pub join_higher : j < l → join (node g l es) (node h j fs) ≡ node g l
      (with_entries (cells es) (last (join (last_child es) (node h j fs))))
  join_higher less =
      chosen_higher j l (node g l tall) (node g l wide) (node h j deep) less
      ∙ ap (λ (t : Tree). node g l (with_entries (cells es) (last t)))
      (join_last_is es (node h j fs))

  pub join_lower : l < j → join (node g l es) (node h j fs) ≡ node h j
      (with_first (join (node g l es) (first_child fs)) fs)
  join_lower less =
      chosen_lower j l (node g l tall) (node g l wide) (node h j deep) less
      ∙ ap (node h j) (first_step fs g l es (join_last es))

  pub join_rows_higher : j < l → join_rows (node g l es) (node h j fs) ≡ entry_count es + 1
      + join_rows (last_child es) (node h j fs)
  join_rows_higher less =
      chosen_higher j l (entry_count es + 1 + join_last_rows es (node h j fs))
      (entry_count es + entry_count fs + 1 + join_last_rows es (first_child fs))
      (entry_count fs + 1 + join_first_rows (entry_count es) l (join_last_rows es) fs) less
      ∙ ap (λ n. entry_count es + 1 + n) (join_last_rows_is es (node h j fs))

  pub join_rows_lower : l < j → join_rows (node g l es) (node h j fs) ≡ entry_count fs + 1
      + join_rows (node g l es) (first_child fs)
  join_rows_lower less =
      chosen_lower j l (entry_count es + 1 + join_last_rows es (node h j fs))
      (entry_count es + entry_count fs + 1 + join_last_rows es (first_child fs))
      (entry_count fs + 1 + join_first_rows (entry_count es) l (join_last_rows es) fs) less
      ∙ ap (λ n. entry_count fs + 1 + n) (first_rows_step fs (entry_count es) l (join_last_rows es))

module _ (g h : Format) (l : ℕ) (es fs : Entries) where
  pub join_level : join (node g l es) (node h l fs) ≡ node g l
      (with_entries (cells es) (with_first (join (last_child es) (first_child fs)) fs))
  join_level =
      chosen_level l (node g l (tall g h l l es fs)) (node g l (wide g h l l es fs))
      (node h l (deep g h l l es fs))
      ∙ ap (λ (t : Tree). node g l (with_entries (cells es) (with_first t fs)))
      (join_last_is es (first_child fs))

  pub join_rows_level : join_rows (node g l es) (node h l fs) ≡ entry_count es + entry_count fs + 1
      + join_rows (last_child es) (first_child fs)
  join_rows_level =
      chosen_level l (entry_count es + 1 + join_last_rows es (node h l fs))
      (entry_count es + entry_count fs + 1 + join_last_rows es (first_child fs))
      (entry_count fs + 1 + join_first_rows (entry_count es) l (join_last_rows es) fs)
      ∙ ap (λ n. entry_count es + entry_count fs + 1 + n) (join_last_rows_is es (first_child fs))
