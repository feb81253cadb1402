-- The value of a key in a tree that stands, by where the key stands among the entries of the top
-- node.
use Rattle.mst_path.proofs.Names.{Format, ◌≡◌, ℕ, ◌-◌, ◌<◌, List, [], ◌∷◌, Option, Some, IsSome, refl, sym, ◌∙◌, ap, subst, arith, map_get, IsAscending, Tree, Entries, last, entry, pairs, entries_pairs, TreeEntry, with_entries, Content, part_at, State, head_links, entry_value, Row, Entry, HeadLinks, Placed, tree_of, link_of, EntryRun, first_child, CellsBelow, cells_of, entries_to, tail_behind, EntriesLie, CutGap, CutFound, height_at, SearchTree, PlacedEntry, link_from, rest_rises}
use Rattle.std.proofs.Common.{option_and_then}
use Rattle.mst_key.proofs.MapLaws.{map_get-here}
use Rattle.mst_key.proofs.Splits.{map_get-left, map_get-right}
use Rattle.mst_path.specs.declared.cut.Cut.{Cut}
use Rattle.mst_change.specs.Gap.{FallsFirst, IsGap, IsAt}
use Rattle.mst_path.specs.Cutting.{IsCut}
use Rattle.mst_change.proofs.Split.Pairs.{behind_above, before_below, before_same}
use Rattle.mst_path.proofs.lemmas.trees.Heights.{gap_rises}
use Rattle.mst_path.proofs.lemmas.trees.Meetings.{height_there}
use Rattle.mst_path.proofs.lemmas.trees.Parting.{back_rows}
use Rattle.mst_path.proofs.lemmas.steps.Removals.{top, opens_gap}

-- ---- in a tree

module _ (k : List ℕ) where
  cut_look : (front : List TreeEntry) (back : Entries) → CellsBelow k front
      → IsAscending (entries_pairs (with_entries front back))
      → map_get (entries_pairs (with_entries front back)) k ≡ map_get (entries_pairs back) k
  cut_look [] back low rise = refl
  cut_look (f ∷ front) back low rise =
      let rest = with_entries front back in
      map_get-right (pairs f.child) ((f.key, f.value) ∷ entries_pairs rest) k
      (before_below (pairs f.child) (f.key, f.value) (entries_pairs rest) k rise low.0)
      ∙ map_get-right ((f.key, f.value) ∷ []) (entries_pairs rest) k (low.0, tt)
      ∙ cut_look front back low.1 (rest_rises f.child f.key f.value rest rise)

  back_rises : (front : List TreeEntry) (back : Entries)
      → IsAscending (entries_pairs (with_entries front back)) → IsAscending (entries_pairs back)
  back_rises [] back rise = rise
  back_rises (f ∷ front) back rise =
      back_rises front back (rest_rises f.child f.key f.value (with_entries front back) rise)

  first_look : (back : Entries) → FallsFirst k back → IsAscending (entries_pairs back)
      → map_get (entries_pairs back) k ≡ map_get (pairs (first_child back)) k
  first_look (last child) high rise = refl
  first_look (entry child key value rest) high rise =
      map_get-left (pairs child) ((key, value) ∷ entries_pairs rest) k
      (behind_above (pairs child) (key, value) (entries_pairs rest) k rise high)

  pub gap_look : (es : Entries) (front : List TreeEntry) (back : Entries) → IsGap k es front back
      → IsAscending (entries_pairs es) → map_get (entries_pairs es) k ≡ map_get
      (pairs (first_child back)) k
  gap_look es front back gap rise =
      let all = subst (λ (fs : Entries). IsAscending (entries_pairs fs)) gap.whole rise in
      ap (λ (fs : Entries). map_get (entries_pairs fs) k) gap.whole ∙ cut_look front back gap.low
      all ∙ first_look back gap.high (back_rises front back all)

  pub held_look : (es : Entries) (front : List TreeEntry) (child : Tree) (value : List ℕ)
      (back : Entries) → IsAt k es front child value back → IsAscending (entries_pairs es)
      → map_get (entries_pairs es) k ≡ Some value
  held_look es front child value back at rise =
      let all = subst (λ (fs : Entries). IsAscending (entries_pairs fs)) at.whole rise in
      let behind = back_rises front (entry child k value back) all in
      ap (λ (fs : Entries). map_get (entries_pairs fs) k) at.whole
      ∙ cut_look front (entry child k value back) at.low all
      ∙ map_get-right (pairs child) ((k, value) ∷ entries_pairs back) k
      (before_same (pairs child) (k, value) (entries_pairs back) k behind refl)
      ∙ map_get-here (k, value) (entries_pairs back) k refl

-- ---- in rows

-- the key's value is that in a lower tree
pub record FindsBelow (format : Format) (c : Content) (s : State) (link : ℕ)
    (t : SearchTree format c s link) (k : List ℕ) (child : ℕ) : Type 0 where
  pub inner : SearchTree format c s child
  pub rise : IsAscending (pairs (tree_of format inner.placed))
  pub same : map_get (pairs (tree_of format t.placed)) k ≡ map_get
      (pairs (tree_of format inner.placed)) k
  pub falls : height_at c child < height_at c link

-- the key's value is in a row
pub record FindsHere (format : Format) (c : Content) (s : State) (link : ℕ)
    (t : SearchTree format c s link) (k : List ℕ) (row : ℕ) : Type 0 where
  pub value : List ℕ
  pub there : part_at entry_value c row ≡ Some value
  pub same : map_get (pairs (tree_of format t.placed)) k ≡ Some value

pub some_value : (c : Content) (row : ℕ) (v : List ℕ) → part_at entry_value c row ≡ Some v
    → IsSome (part_at entry_value c row)
some_value c row v is = let There : Option (List ℕ) → Type 0 =
    λ o. IsSome o in subst There (sym is) refl

module _ (format : Format) (c : Content) (s : State) (link : ℕ) (t : SearchTree format c s link)
    (k : List ℕ) (h : HeadLinks) (some : 0 < link) (read : part_at head_links c (link - 1) ≡ Some h)
  where
    pub lies : EntriesLie c h (top format c s link t k h some read).entries
    lies = let o = top format c s link t k h some read in
        record { first = o.run.begins; count = o.run.counted; rows = o.run.rows }

    -- the entries are cut, in rows that are the same
    pub cut_top : {d : Content} {cut seen : Cut} → d ≡ c
        → ((es : List PlacedEntry) (tail : Placed) → EntriesLie d h es → link_of tail ≡ h.tail
        → IsCut format k es tail cut) → cut ≡ seen
        → IsCut format k (top format c s link t k h some read).entries
        (top format c s link t k h some read).tail seen
    cut_top {cut = cut} same cuts is =
        let o = top format c s link t k h some read in
        subst (IsCut format k o.entries o.tail) is
        (subst (λ (x : Content). (es : List PlacedEntry) (tail : Placed) → EntriesLie x h es
        → link_of tail ≡ h.tail → IsCut format k es tail cut) same cuts o.entries o.tail lies
        o.tail_at)

    module _ (rise : IsAscending (pairs (tree_of format t.placed))) where
      all_rise : IsAscending
          (entries_pairs
          (entries_to format (top format c s link t k h some read).entries
          (top format c s link t k h some read).tail))
      all_rise = subst IsAscending (ap pairs (top format c s link t k h some read).tree) rise

      pub finds_below : (front back : EntryRun) (child : ℕ) → CutGap format k
          (top format c s link t k h some read).entries (top format c s link t k h some read).tail
          front child back → FindsBelow format c s link t k child
      finds_below front back child cut =
          let o = opens_gap format c s link t k h some read front back child
          (tail_behind back.count h.tail) cut refl in
          let all = subst IsAscending (ap pairs o.top) rise in
          let inside = gap_rises format h.layer o.behind (cells_of format o.framed.front)
          (subst (λ (fs : Entries). IsAscending (entries_pairs fs)) o.gap.whole all) in
          record {
            inner = o.inner;
            rise = subst (λ (u : Tree). IsAscending (pairs u)) o.first inside;
            same =
                ap (λ (u : Tree). map_get (pairs u) k) o.top
                ∙ gap_look k o.entries (cells_of format o.framed.front) o.behind o.gap all
                ∙ ap (λ (u : Tree). map_get (pairs u) k) o.first;
            falls =
                omega (
                  arith,
                  o.falls,
                  height_there format c o.inner.placed child o.inner.at o.inner.piece.rows,
                  height_there format c t.placed link t.at t.piece.rows,
                );
          }

      pub finds_here : (front back : EntryRun) (row child : ℕ) → CutFound format k
          (top format c s link t k h some read).entries (top format c s link t k h some read).tail
          front row child back → FindsHere format c s link t k row
      finds_here front back row child cut =
          let o = top format c s link t k h some read in
          let run =
          subst (λ (es : List PlacedEntry). Rattle.mst_path.specs.Runs.RunStands format c s h.first
          h.count 0 es) cut.whole o.run in
          let rows = back_rows c cut.before (cut.here ∷ cut.behind) run.rows in
          let there : c row ≡ Some
          (Entry (link_of cut.here.child) (link_from 0 cut.behind) cut.here.key cut.here.value) =
          ap c (sym cut.row_is) ∙ rows.0 in
          record {
            value = cut.here.value;
            there = ap (λ (r : Option Row). option_and_then entry_value r) there;
            same =
                ap (λ (u : Tree). map_get (pairs u) k) o.tree
                ∙ held_look k (entries_to format o.entries o.tail) (cells_of format cut.before)
                (tree_of format cut.here.child) cut.here.value
                (entries_to format cut.behind o.tail) cut.at all_rise;
          }
