-- Two trees joined: a search tree, with the pairs of the one and then those of the other.
use Rattle.mst_change.proofs.Names.{◌≡◌, ℕ, ◌<◌, ◌++◌, refl, sym, subst, arith, append-nil, Format, Tree, empty, node, Entries, last, entry, entry_count, pairs, entries_pairs, IsUnder, IsMst, IsMstEntries, with_entries, cells, first_child, last_child, with_first, join_node, join_first, join, join_last}
use Rattle.mst_change.proofs.Choices.{at_layer}
use Rattle.mst_change.proofs.Parts.{seam_pairs, seam_mst, seam_count, with_first_pairs, with_first_mst, first_mst}

-- ---- pairs

mutual
  pub join_node_pairs : (b : Tree) (format : Format) (l : ℕ) (es : Entries) (inner : Tree → Tree)
      → ((u : Tree) → pairs (inner u) ≡ pairs (last_child es) ++ pairs u)
      → pairs (join_node format l es inner b) ≡ entries_pairs es ++ pairs b
  join_node_pairs empty format l es inner all = sym (append-nil (entries_pairs es))
  join_node_pairs (node g j fs) format l es inner all =
      at_layer (λ t. pairs t ≡ entries_pairs es ++ entries_pairs fs) j l
      (node format l (with_entries (cells es) (last (inner (node g j fs)))))
      (node format l (with_entries (cells es) (with_first (inner (first_child fs)) fs)))
      (node g j (join_first format l es inner fs))
      (λ less. seam_pairs es (last (inner (node g j fs))) (entries_pairs fs) (all (node g j fs)))
      (λ same. seam_pairs es (with_first (inner (first_child fs)) fs) (entries_pairs fs)
      (with_first_pairs fs (inner (first_child fs)) (pairs (last_child es))
      (all (first_child fs))))
      (λ more. join_first_pairs fs format l es inner all)

  pub join_first_pairs : (fs : Entries) (format : Format) (l : ℕ) (es : Entries)
      (inner : Tree → Tree) → ((u : Tree) → pairs (inner u) ≡ pairs (last_child es) ++ pairs u)
      → entries_pairs (join_first format l es inner fs) ≡ entries_pairs es ++ entries_pairs fs
  join_first_pairs (last child) format l es inner all = join_node_pairs child format l es inner all
  join_first_pairs (entry child key value rest) format l es inner all =
      with_first_pairs (entry child key value rest) (join_node format l es inner child)
      (entries_pairs es) (join_node_pairs child format l es inner all)

mutual
  pub join_pairs : (a b : Tree) → pairs (join a b) ≡ pairs a ++ pairs b
  join_pairs empty b = refl
  join_pairs (node format l es) b = join_node_pairs b format l es (join_last es)
      (join_last_pairs es)

  pub join_last_pairs : (es : Entries) (b : Tree) → pairs (join_last es b) ≡ pairs (last_child es)
      ++ pairs b
  join_last_pairs (last child) b = join_pairs child b
  join_last_pairs (entry child key value rest) b = join_last_pairs rest b

-- ---- search trees

-- a search tree below a layer
pub record IsLow (format : Format) (l : ℕ) (t : Tree) : Type 0 where
  pub mst : IsMst format t
  pub under : IsUnder l t

-- what a join of the last child has to give
abbrev JoinsLow : Format → ℕ → (Tree → Tree) → Type 0
JoinsLow format l inner = (u : Tree) → IsLow format l u → IsLow format l (inner u)

some_more : (es fs : Entries) → 0 < entry_count es → 0 < entry_count (with_entries (cells es) fs)
some_more es fs some = omega (arith, seam_count es fs)

join_first_some : (fs : Entries) (format : Format) (l : ℕ) (es : Entries) (inner : Tree → Tree)
    → 0 < entry_count fs → 0 < entry_count (join_first format l es inner fs)
join_first_some (last child) format l es inner some = some
join_first_some (entry child key value rest) format l es inner some = some

mutual
  join_node_mst : (b : Tree) (format g : Format) (l : ℕ) (es : Entries) (inner : Tree → Tree)
      → IsMst format (node g l es) → JoinsLow format l inner → IsMst format b
      → IsMst format (join_node g l es inner b)
  join_node_mst empty format g l es inner mst low is = mst
  join_node_mst (node h j fs) format g l es inner mst low is =
      at_layer (IsMst format) j l
      (node g l (with_entries (cells es) (last (inner (node h j fs)))))
      (node g l (with_entries (cells es) (with_first (inner (first_child fs)) fs)))
      (node h j (join_first g l es inner fs))
      (λ less. let whole = low (node h j fs) (record { mst = is; under = less }) in (
        mst.0,
        some_more es (last (inner (node h j fs))) mst.1,
        seam_mst es
            (last (inner (node h j fs))) format l mst.2 (whole.under, whole.mst),
      ))
      (λ same. let mst_fs : IsMstEntries format l fs =
      subst (λ (i : ℕ). IsMstEntries format i fs) same is.2 in
      let first = first_mst fs format l mst_fs in
      let new = low (first_child fs) (record { mst = first.1; under = first.0 }) in (
        mst.0,
        some_more es (with_first (inner (first_child fs)) fs) mst.1,
        seam_mst es
            (with_first (inner (first_child fs)) fs) format l mst.2
            (with_first_mst fs (inner (first_child fs)) format l new.under new.mst mst_fs),
      ))
      (λ more. (
        is.0,
        join_first_some fs g l es inner is.1,
        join_first_mst fs format g l j es inner
            mst low more is.2,
      ))

  join_node_under : (b : Tree) (g : Format) (l i : ℕ) (es : Entries) (inner : Tree → Tree) → l < i
      → IsUnder i b → IsUnder i (join_node g l es inner b)
  join_node_under empty g l i es inner h under = h
  join_node_under (node f j fs) g l i es inner h under =
      at_layer (IsUnder i) j l
      (node g l (with_entries (cells es) (last (inner (node f j fs)))))
      (node g l (with_entries (cells es) (with_first (inner (first_child fs)) fs)))
      (node f j (join_first g l es inner fs))
      (λ less. h) (λ same. h) (λ more. under)

  join_first_mst : (fs : Entries) (format g : Format) (l j : ℕ) (es : Entries) (inner : Tree → Tree)
      → IsMst format (node g l es) → JoinsLow format l inner → l < j → IsMstEntries format j fs
      → IsMstEntries format j (join_first g l es inner fs)
  join_first_mst (last child) format g l j es inner mst low h is = (
    join_node_under child g l j es inner h is.0,
    join_node_mst child format g l es inner mst low
        is.1,
  )
  join_first_mst (entry child key value rest) format g l j es inner mst low h is = (
    join_node_under child g l j es inner h is.0,
    join_node_mst child format g l es inner mst low
        is.1,
    is.2,
    is.3,
  )

mutual
  pub join_mst : (a b : Tree) (format : Format) → IsMst format a → IsMst format b
      → IsMst format (join a b)
  join_mst empty b format is also = also
  join_mst (node g l es) b format is also = join_node_mst b format g l es (join_last es) is
      (λ u low. record {
        mst = join_last_mst es u format l is.2 low.mst;
        under =
            join_last_under es u format l is.2 low.under;
      }) also

  pub join_under : (a b : Tree) (i : ℕ) → IsUnder i a → IsUnder i b → IsUnder i (join a b)
  join_under empty b i under also = also
  join_under (node g l es) b i under also = join_node_under b g l i es (join_last es) under also

  join_last_mst : (es : Entries) (b : Tree) (format : Format) (l : ℕ) → IsMstEntries format l es
      → IsMst format b → IsMst format (join_last es b)
  join_last_mst (last child) b format l is also = join_mst child b format is.1 also
  join_last_mst (entry child key value rest) b format l is also =
      join_last_mst rest b format l is.3 also

  join_last_under : (es : Entries) (b : Tree) (format : Format) (l : ℕ) → IsMstEntries format l es
      → IsUnder l b → IsUnder l (join_last es b)
  join_last_under (last child) b format l is under = join_under child b l is.0 under
  join_last_under (entry child key value rest) b format l is under =
      join_last_under rest b format l is.3 under
