-- The entries of a node that is opened, separated at a gap: those in front of it, the tree in it,
-- and those after it.
use Rattle.mst_path.proofs.Names.{Format, ◌≡◌, ℕ, zero, suc, ◌+◌, ◌<◌, ◌≤◌, List, [], ◌∷◌, ◌++◌, length, Some, refl, sym, ◌∙◌, ap, subst, arith, Tree, Entries, entry_count, IsMst, IsMstEntries, with_entries, Content, State, In, times, Placed, tree_of, link_of, used, HasRows, Entry, times-append, first_child, with_first, IsOld, OldPiece, RunStands, own_rows, own, gaps_used, EachGap, BackRun, cells_of, entries_to, others, tail_behind, gap_before, height, PlacedEntry, link_from}
use Rattle.mst_arena.specs.Standing.{none as no_tree}
use Rattle.mst_path.proofs.lemmas.rows.CopyRows.{own-append}
use Rattle.mst_path.proofs.lemmas.trees.Cutting.{link_from-append}
use Rattle.mst_path.proofs.lemmas.trees.NodeRuns.{height_under}
use Rattle.mst_path.proofs.lemmas.trees.Opening.{count_to}

-- ---- two runs of one

pub front_rows : (c : Content) (xs ys : List PlacedEntry) → HasRows c (own_rows 0 (xs ++ ys))
    → HasRows c (own_rows (link_from 0 ys) xs)
front_rows c [] ys has = tt
front_rows c (e ∷ xs) ys has = (
  has.0 ∙ ap (λ (n : ℕ). Some (Entry (link_of e.child) n e.key e.value))
      (link_from-append xs ys),
  front_rows c xs ys has.1,
)

pub back_rows : (c : Content) (xs ys : List PlacedEntry) → HasRows c (own_rows 0 (xs ++ ys))
    → HasRows c (own_rows 0 ys)
back_rows c [] ys has = has
back_rows c (e ∷ xs) ys has = back_rows c xs ys has.1

pub front_gaps : (P : Placed → Type 0) (xs ys : List PlacedEntry) → EachGap P (xs ++ ys)
    → EachGap P xs
front_gaps P [] ys each = tt
front_gaps P (e ∷ xs) ys each = (each.0, front_gaps P xs ys each.1)

pub back_gaps : (P : Placed → Type 0) (xs ys : List PlacedEntry) → EachGap P (xs ++ ys)
    → EachGap P ys
back_gaps P [] ys each = each
back_gaps P (e ∷ xs) ys each = back_gaps P xs ys each.1

pub own_both : (x : ℕ) (xs ys : List PlacedEntry) → times x (own (xs ++ ys)) ≡ times x (own xs)
    + times x (own ys)
own_both x xs ys = ap (times x) (own-append xs ys) ∙ times-append x (own xs) (own ys)

pub gaps_both : (x : ℕ) (xs ys : List PlacedEntry) → times x (gaps_used (xs ++ ys)) ≡ times x
    (gaps_used xs) + times x (gaps_used ys)
gaps_both x [] ys = omega arith
gaps_both x (e ∷ xs) ys =
    omega (
      arith,
      gaps_both x xs ys,
      times-append x (used e.child) (gaps_used (xs ++ ys)),
      times-append x (used e.child) (gaps_used xs),
    )

module _ (format : Format) (c : Content) (s : State) (link count : ℕ) (xs ys : List PlacedEntry)
    (run : RunStands format c s link count 0 (xs ++ ys)) where
  pub front_run : (first n behind : ℕ) → length xs ≡ n → link_from behind xs ≡ first
      → behind ≡ link_from 0 ys → RunStands format c s first n behind xs
  front_run first n behind counted begins is = record {
    counted = counted;
    begins = begins;
    rows = subst (λ (b : ℕ). HasRows c (own_rows b xs)) (sym is) (front_rows c xs ys run.rows);
    old = λ r i. run.old r (omega (arith, i, own_both r xs ys));
    gaps = front_gaps (OldPiece format c s) xs ys run.gaps;
  }

  pub back_old : (r : ℕ) → In r (own ys) → IsOld s r
  back_old r i = run.old r (omega (arith, i, own_both r xs ys))

-- ---- the tree in a gap, and what is after it

-- The tree in the gap before these entries or in the last gap, and these entries with what they
-- keep of the last tree.
pub record Behind (format : Format) (c : Content) (s : State) (layer link count tail_link : ℕ)
    (ys : List PlacedEntry) (tail : Placed) : Type 0 where
  pub kept : Placed
  pub back_run : BackRun format c s link count (tail_behind count tail_link) ys kept
  pub gap_piece : OldPiece format c s (gap_before ys tail)
  pub gap_search : IsMst format (tree_of format (gap_before ys tail))
  pub gap_low : height (tree_of format (gap_before ys tail)) ≤ layer
  pub counts : (x : ℕ) → times x (gaps_used ys) + times x (used tail) ≡ times x
      (used (gap_before ys tail)) + times x (gaps_used (others ys)) + times x (used kept)
  pub same : (u : Tree) → with_first u (entries_to format ys tail) ≡ with_first u
      (entries_to format ys kept)
  pub first : first_child (entries_to format ys tail) ≡ tree_of format (gap_before ys tail)
  pub count_is : entry_count (entries_to format ys tail) ≡ count

pub behind : (format : Format) (c : Content) (s : State) (layer link count tail_link : ℕ)
    (ys : List PlacedEntry) (tail : Placed) → length ys ≡ count → link_from 0 ys ≡ link
    → HasRows c (own_rows 0 ys) → ((r : ℕ) → In r (own ys) → IsOld s r)
    → EachGap (OldPiece format c s) ys → link_of tail ≡ tail_link → OldPiece format c s tail
    → IsMstEntries format layer (entries_to format ys tail) → Behind format c s layer link count
    tail_link ys tail
behind format c s layer link count tail_link [] tail counted begins rows old gaps tail_at tail_piece
    search = record {
      kept = no_tree;
      back_run = record {
        counted = counted;
        begins = begins;
        rows = tt;
        old = old;
        gaps = tt;
        tail_at = ap (λ (n : ℕ). tail_behind n tail_link) counted;
        tail_piece = record { rows = tt; old = λ r i. absurd (omega (arith, i)) };
        tail_none = refl;
      };
      gap_piece = tail_piece;
      gap_search = search.1;
      gap_low = height_under layer (tree_of format tail) search.0;
      counts = λ x. omega arith;
      same = λ u. refl;
      first = refl;
      count_is = counted;
    }
behind format c s layer link count tail_link (e ∷ ys) tail counted begins rows old gaps tail_at
    tail_piece search = record {
      kept = tail;
      back_run = record {
        counted = counted;
        begins = begins;
        rows = rows;
        old = old;
        gaps = gaps.1;
        tail_at = tail_at ∙ some_behind count (omega (arith, counted));
        tail_piece = tail_piece;
        tail_none = tt;
      };
      gap_piece = gaps.0;
      gap_search = search.1;
      gap_low = height_under layer (tree_of format e.child) search.0;
      counts = λ x. omega (arith, times-append x (used e.child) (gaps_used ys));
      same = λ u. refl;
      first = refl;
      count_is = omega (arith, counted, count_to format ys tail);
    }
  where
    some_behind : (n : ℕ) → 0 < n → tail_link ≡ tail_behind n tail_link
    some_behind zero h = absurd (omega (arith, h))
    some_behind (suc n) h = refl

-- the entries after some of a search tree's node
pub back_search : (format : Format) (layer : ℕ) (xs : List PlacedEntry) (es : Entries)
    → IsMstEntries format layer (with_entries (cells_of format xs) es) → IsMstEntries format layer
    es
back_search format layer [] es search = search
back_search format layer (e ∷ xs) es search = back_search format layer xs es search.3
