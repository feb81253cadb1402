-- The parts of a node, and a node of other parts: its pairs, its layers, its counts.
use Rattle.mst_change.proofs.Names.{◌≡◌, ℕ, ◌+◌, ◌<◌, ◌≤◌, ◌==◌, ◌&&◌, false, List, [], ◌∷◌, ◌++◌, length, refl, sym, ap, ◌∙◌, arith, append_assoc, nat_tests, Format, Pair, Tree, empty, node, Entries, last, entry, entry_count, pairs, entries_pairs, IsUnder, IsMst, IsMstEntries, TreeEntry, with_entries, cells, last_child, first_child, with_first, node_of, is_empty}

-- ---- entries after cells

pub with_entries-append : (front more : List TreeEntry) (es : Entries)
    → with_entries (front ++ more) es ≡ with_entries front (with_entries more es)
with_entries-append [] more es = refl
with_entries-append (c ∷ front) more es =
    ap (entry c.child c.key c.value) (with_entries-append front more es)

pub with_entries_count : (front : List TreeEntry) (es : Entries)
    → entry_count (with_entries front es) ≡ length front + entry_count es
with_entries_count [] es = omega arith
with_entries_count (c ∷ front) es = omega (arith, with_entries_count front es)

pub node_of_empty : (es : Entries) (g : Format) (l : ℕ) → is_empty (node_of g l es)
    ≡ ((entry_count es == 0) && is_empty (first_child es))
node_of_empty (last child) g l = refl
node_of_empty (entry child key value rest) g l = let more : (entry_count rest + 1 == 0) ≡ false =
    grind (arith, nat_tests) in rw more

pub first_child-with : (es : Entries) (new : Tree) → first_child (with_first new es) ≡ new
first_child-with (last child) new = refl
first_child-with (entry child key value rest) new = refl

-- ---- pairs

pub node_of_pairs : (es : Entries) (g : Format) (l : ℕ) → pairs (node_of g l es) ≡ entries_pairs es
node_of_pairs (last child) g l = refl
node_of_pairs (entry child key value rest) g l = refl

-- entries in the place of a last child whose pairs they continue
pub seam_pairs : (es fs : Entries) (more : List Pair) → entries_pairs fs ≡ pairs (last_child es)
    ++ more → entries_pairs (with_entries (cells es) fs) ≡ entries_pairs es ++ more
seam_pairs (last child) fs more is = is
seam_pairs (entry child key value rest) fs more is =
    ap (λ (l : List Pair). pairs child ++ (key, value) ∷ l) (seam_pairs rest fs more is)
    ∙ sym (append_assoc (pairs child) ((key, value) ∷ entries_pairs rest) more)

-- a first child that has more pairs in front
pub with_first_pairs : (fs : Entries) (new : Tree) (front : List Pair) → pairs new ≡ front ++ pairs
    (first_child fs) → entries_pairs (with_first new fs) ≡ front ++ entries_pairs fs
with_first_pairs (last child) new front is = is
with_first_pairs (entry child key value rest) new front is =
    ap (λ (l : List Pair). l ++ (key, value) ∷ entries_pairs rest) is ∙ append_assoc front
    (pairs child) ((key, value) ∷ entries_pairs rest)

-- ---- layers

pub under_weaker : (l j : ℕ) (t : Tree) → l ≤ j → IsUnder l t → IsUnder j t
under_weaker l j empty h is = tt
under_weaker l j (node g i es) h is = omega arith

pub node_of_mst : (es : Entries) (format g : Format) (l : ℕ) → g ≡ format → IsMstEntries format l es
    → IsMst format (node_of g l es)
node_of_mst (last child) format g l is mst = mst.1
node_of_mst (entry child key value rest) format g l is mst = (is, omega arith, mst)

pub node_of_under : (es : Entries) (format g : Format) (l j : ℕ) → l < j → IsMstEntries format l es
    → IsUnder j (node_of g l es)
node_of_under (last child) format g l j h mst = under_weaker l j child (omega arith) mst.0
node_of_under (entry child key value rest) format g l j h mst = h

pub seam_mst : (es fs : Entries) (format : Format) (l : ℕ) → IsMstEntries format l es
    → IsMstEntries format l fs → IsMstEntries format l (with_entries (cells es) fs)
seam_mst (last child) fs format l mst more = more
seam_mst (entry child key value rest) fs format l mst more =
    (mst.0, mst.1, mst.2, seam_mst rest fs format l mst.3 more)

pub with_first_mst : (fs : Entries) (new : Tree) (format : Format) (l : ℕ) → IsUnder l new
    → IsMst format new → IsMstEntries format l fs → IsMstEntries format l (with_first new fs)
with_first_mst (last child) new format l under is mst = (under, is)
with_first_mst (entry child key value rest) new format l under is mst = (under, is, mst.2, mst.3)

-- the first and the last child of a search tree's entries
pub first_mst : (es : Entries) (format : Format) (l : ℕ) → IsMstEntries format l es
    → IsUnder l (first_child es) × IsMst format (first_child es)
first_mst (last child) format l mst = mst
first_mst (entry child key value rest) format l mst = (mst.0, mst.1)

pub last_mst : (es : Entries) (format : Format) (l : ℕ) → IsMstEntries format l es
    → IsUnder l (last_child es) × IsMst format (last_child es)
last_mst (last child) format l mst = mst
last_mst (entry child key value rest) format l mst = last_mst rest format l mst.3

-- ---- counts

pub seam_count : (es fs : Entries) → entry_count (with_entries (cells es) fs) ≡ entry_count es
    + entry_count fs
seam_count (last child) fs = omega arith
seam_count (entry child key value rest) fs = omega (arith, seam_count rest fs)

pub with_first_count : (fs : Entries) (new : Tree) → entry_count (with_first new fs) ≡ entry_count
    fs
with_first_count (last child) new = refl
with_first_count (entry child key value rest) new = refl
