-- The maps of versions, from one write to the next.
use Rattle.mst_path.proofs.Names.{Format, ◌≡◌, ℕ, zero, suc, ◌+◌, ◌<◌, ◌≤◌, Bool, true, false, eqb, List, [], ◌∷◌, ◌++◌, length, Some, refl, sym, ◌∙◌, ap, subst, arith, inl, inr, ◌↔◌, slice_get, AllByRecursion, nat_tests, Pair, empty, Content, State, version, next, reached_at, reaches, free_count, In, times, bit, Life, Free, Root, Placed, none, head, tree_of, used, IsDistinct, Stands, numbers, placed_frame, all-append, all-front, all-back, times-append, Takes, KeepsBut, OnlyFreeWritten, Moves, Changes, advanced, swept_by, IsPast, IsSettled, in_either, node_count, rows_needed, pairs_tree}
use Rattle.std.specs.Prelude.{slice_index, replicate}
use Rattle.mst_node.specs.Tree as nodes
use Rattle.mst_path.specs.Reached.{IsReached}
use Rattle.mst_path.specs.Versions.{HasMap, Kept, numbers_kept, AreNumbers, HaveMaps, rows_kept, Keeps}
use Rattle.mst_path.proofs.lemmas.rows.CopyRows.{all_in}
use Rattle.mst_path.proofs.lemmas.rows.Moving.{not_in}
use Rattle.mst_path.proofs.lemmas.versions.Reached.{older, newest, version_after, settled_after, same_swept, settled_swept, free_swept, planted, planted_written}
use Rattle.mst_path.proofs.lemmas.versions.Migrated.{changes, moved}
use Rattle.mst_path.proofs.lemmas.rows.FreeCounts.{count_swept, alone}
use Rattle.mst_path.proofs.lemmas.trees.Nodes.{used_count}

-- ---- one version

-- the version reaches the same rows, and these have the same content
abbrev pub same_map : (format : Format) (c c' : Content) (lives lives' : List Life) (v : ℕ)
    (at : Root) (m : List Pair) → HasMap format c lives v at m
    → ((r : ℕ) → reaches lives' v r ≡ reaches lives v r)
    → ((r : ℕ) → reaches lives v r ≡ true → c' r ≡ c r) → HasMap format c' lives' v at m
same_map format c c' lives lives' v at m has same kept = record {
  stands = record {
    map = has.stands.map;
    digest = has.stands.digest;
    tree = record {
      placed = has.stands.tree.placed;
      at = has.stands.tree.at;
      is = has.stands.tree.is;
      rows = placed_frame format c c' has.stands.tree.placed
          (all_in (used has.stands.tree.placed) (λ r i. kept r ((has.rows r).1 i)))
          has.stands.tree.rows;
      once = has.stands.tree.once;
    };
  };
  rows = λ r. (λ is. (has.rows r).0 (sym (same r) ∙ is), λ i. same r ∙ (has.rows r).1 i);
}

reached_not_free : (lives : List Life) (v r : ℕ) → reaches lives v r ≡ true → slice_get lives r
    ≡ Some Free → ⊥
reached_not_free lives v r is free = let not : reaches lives v r ≡ false =
    ap (λ o. reached_at o v) free in cc

same_eqb : (a b : ℕ) → a ≡ b → eqb a b ≡ true
same_eqb a b same = grind (arith, nat_tests)

-- ---- a write

module _ (old new : State) (before after : List ℕ) (change : Changes old new before after)
    (c c' : Content) (written : OnlyFreeWritten old c c')
  where
    map_stays : (format : Format) (v : ℕ) (at : Root) (m : List Pair) → v ≤ version old
        → HasMap format c old.lives
        v at m → HasMap format c' new.lives v at m
    map_stays format v at m le has = same_map format c c' old.lives new.lives v at m has
        (λ r. older old new before after change v r le)
        (λ r is. written r (reached_not_free old.lives v r is))

    maps_stay : (kept : List Kept) → AllByRecursion (λ k. k.number ≤ version old) kept
        → HaveMaps c old.lives kept → HaveMaps c' new.lives kept
    maps_stay [] le have = tt
    maps_stay (k ∷ ks) le have =
        (map_stays k.format k.number k.root k.pairs le.0 have.0, maps_stay ks le.1 have.1)

    all_earlier : (w : ℕ) (kept : List Kept) → version old ≤ w
        → AllByRecursion (λ k. k.number ≤ version old) kept → AllByRecursion (λ k. k.number ≤ w)
        kept
    all_earlier w [] le all = tt
    all_earlier w (k ∷ ks) le all = (omega (arith, le, all.0), all_earlier w ks le all.1)

module _ (f g : Format) (old new : State) (c c' : Content) (root at : Root) (m n : List Pair)
    (has : HasMap f c old.lives (version old) root m) (stands : Stands g c' at n)
    (change : Changes old new (numbers has.stands) (numbers stands)) where
  pub map_new : IsSettled old → HasMap g c' new.lives (next old) at n
  map_new settled =
      record {
        stands = stands;
        rows = newest old new (numbers has.stands) (numbers stands) change
            settled has.rows;
      }

  pub keeps_write : (kept : List Kept) (into : ℕ) → into < length old.versions
      → OnlyFreeWritten old c c' → Keeps c old kept → Keeps c' (advanced into new)
      (record { number = next old; format = g; root = at; pairs = n } ∷ kept)
  keeps_write kept into there written keeps =
      let now = version_after old new (numbers has.stands) (numbers stands) change into there in
      record {
        settled = settled_after old new (numbers has.stands) (numbers stands) change into there
            keeps.settled;
        current = omega (arith, ap bit (same_eqb (version (advanced into new)) (next old) now));
        earlier = (
          omega (arith, now),
          all_earlier old new (numbers has.stands) (numbers stands)
              change c c' written (version (advanced into new)) kept (omega (arith, now))
              keeps.earlier,
        );
        maps = (
          map_new keeps.settled,
          maps_stay old new (numbers has.stands) (numbers stands)
              change c c' written kept keeps.earlier keeps.maps,
        );
      }

-- ---- a version is forgotten

pub keeps_fewer : (c : Content) (s : State) (xs ys : List Kept) (k : Kept)
    → In (version s) (numbers_kept (xs ++ ys)) → Keeps c s (xs ++ k ∷ ys) → Keeps c s (xs ++ ys)
keeps_fewer c s xs ys k current keeps = record {
  settled = keeps.settled;
  current = current;
  earlier = all-append _ xs ys (all-front _ xs (k ∷ ys) keeps.earlier)
      (all-back _ xs (k ∷ ys) keeps.earlier).1;
  maps = all-append _ xs ys (all-front _ xs (k ∷ ys) keeps.maps)
      (all-back _ xs (k ∷ ys) keeps.maps).1;
}

-- ---- a sweep

pub map_swept : (format : Format) (c : Content) (s : State) (live : List ℕ) (v : ℕ) (at : Root)
    (m : List Pair) → In v live → HasMap format c s.lives v at m → HasMap format c
    (swept_by live s).lives v at m
map_swept format c s live v at m i has = same_map format c c s.lives (swept_by live s).lives v at m
    has (λ r. same_swept s live v r i) (λ r is. refl)

maps_swept : (c : Content) (s : State) (live : List ℕ) (kept : List Kept)
    → ((v : ℕ) → In v (numbers_kept kept) → In v live) → HaveMaps c s.lives kept
    → HaveMaps c (swept_by live s).lives kept
maps_swept c s live [] all have = tt
maps_swept c s live (k ∷ ks) all have = (
  map_swept k.format c s live k.number k.root k.pairs
      (all k.number (omega (arith, ap bit (same_eqb k.number k.number refl)))) have.0,
  maps_swept c s live ks (λ v i. all v (omega (arith, i))) have.1,
)

pub keeps_sweep : (c : Content) (s : State) (live : List ℕ) (kept : List Kept)
    → AreNumbers live kept → Keeps c s kept → Keeps c (swept_by live s) kept
keeps_sweep c s live kept are keeps = record {
  settled = settled_swept s live keeps.settled;
  current = keeps.current;
  earlier = keeps.earlier;
  maps = maps_swept c s live kept (λ v. (are v).1) keeps.maps;
}

-- one version more
reached_more : (c : Content) (lives : List Life) (k : Kept) (ks : List Kept)
    (have : HaveMaps c lives (k ∷ ks)) (r : ℕ) → IsReached lives (numbers_kept ks) r
    ↔ In r (rows_kept c lives ks have.1) → IsReached lives (numbers_kept (k ∷ ks)) r
    ↔ In r (rows_kept c lives (k ∷ ks) have)
reached_more c lives k ks have r rest = (
  λ some. go (eqb some.0 k.number) some.0 refl some.1 some.2,
  λ i. elim (in_either r (numbers have.0.stands) (rows_kept c lives ks have.1) i) [
    | inl x ↦ (
      k.number,
      omega (arith, ap bit (same_eqb k.number k.number refl)),
      (have.0.rows r).1
          x,
    )
    | inr y ↦ let more = rest.1 y in (more.0, omega (arith, more.1), more.2)
  ],
)
  where
    go : (t : Bool) (v : ℕ) → eqb v k.number ≡ t → 0 < bit t + times v (numbers_kept ks)
        → reaches lives v r ≡ true → In r (rows_kept c lives (k ∷ ks) have)
    go true v e i is =
        let same : v ≡ k.number = grind (arith, nat_tests) in
        let here : In r (numbers have.0.stands) =
        (have.0.rows r).0 (ap (λ (w : ℕ). reaches lives w r) (sym same) ∙ is) in
        omega (
          arith,
          here,
          times-append r (numbers have.0.stands)
              (rows_kept c lives ks have.1),
        )
    go false v e i is =
        let more : In r (rows_kept c lives ks have.1) = rest.0 (v, omega (arith, i), is) in
        omega (
          arith,
          more,
          times-append r (numbers have.0.stands)
              (rows_kept c lives ks have.1),
        )

reached_kept : (c : Content) (lives : List Life) (kept : List Kept)
    (have : HaveMaps c lives kept) (r : ℕ) → IsReached lives (numbers_kept kept) r
    ↔ In r (rows_kept c lives kept have)
reached_kept c lives [] have r =
    (λ some. absurd (omega (arith, some.1)), λ i. absurd (omega (arith, i)))
reached_kept c lives (k ∷ ks) have r =
    reached_more c lives k ks have r (reached_kept c lives ks have.1 r)

by_bool : (t : Bool) → (t ≡ true → ⊥) → t ≡ false
by_bool true not = absurd (not refl)
by_bool false not = refl

module _ (c : Content) (s : State) (live : List ℕ) (kept : List Kept)
    (are : AreNumbers live kept) (keeps : Keeps c s kept) where
  reached_live : (r : ℕ) → IsReached s.lives live r
      ↔ In r (rows_kept c s.lives kept keeps.maps)
  reached_live r =
      let both = reached_kept c s.lives kept keeps.maps r in (
        λ some. both.0 (some.0, (are some.0).0 some.1, some.2),
        λ i. let some =
            both.1 i in (some.0, (are some.0).1 some.1, some.2),
      )

  current_live : In (version s) live
  current_live = (are (version s)).1 keeps.current

  pub free_kept : (r : ℕ) → r < length s.lives → slice_get (swept_by live s).lives r ≡ Some Free
      ↔ (times r (rows_kept c s.lives kept keeps.maps) ≡ 0)
  free_kept r lt =
      let free = free_swept s live r keeps.settled current_live lt in
      let both = reached_live r in (
        λ is. not_in r (rows_kept c s.lives kept keeps.maps)
            (λ i. let some = both.1 i in let not = free.0 is some.0 some.1 in let is =
            some.2 in cc),
        λ none. free.1
            (λ v i. by_bool (reaches s.lives v r) (λ is. omega (arith, none, both.0 (v, i, is)))),
      )

  pub count_kept : (rows : List ℕ) → IsDistinct rows
      → ((r : ℕ) → In r rows ↔ In r (rows_kept c s.lives kept keeps.maps))
      → free_count (swept_by live s).lives + length rows ≡ length s.lives
  count_kept rows once same = count_swept s live rows keeps.settled current_live once
      (λ r. (λ some. (same r).1 ((reached_live r).0 some), λ i. (reached_live r).1 ((same r).0 i)))

-- a row for each pair and each node
pub rows_of_map : (format : Format) (c : Content) (at : Root) (m : List Pair)
    (stands : Stands format c at m) → length (numbers stands) ≡ length m + node_count
    (nodes.tree format m)
rows_of_map format c at m stands =
    used_count format stands.tree.placed
    ∙ ap rows_needed stands.tree.is
    ∙ ap (λ (ps : List Pair). length ps + node_count (nodes.tree format m)) (pairs_tree format m)

pub room_alone : (format : Format) (c : Content) (s : State) (at : Root) (m : List Pair)
    → IsSettled s → HasMap format c s.lives (version s) at m
    → free_count (swept_by (version s ∷ []) s).lives + (length m + node_count (nodes.tree format m))
    ≡ length s.lives
room_alone format c s at m settled has =
    let now : In (version s) (version s ∷ []) =
    omega (arith, ap bit (same_eqb (version s) (version s) refl)) in
    omega (
      arith,
      count_swept s (version s ∷ []) (numbers has.stands) settled now has.stands.tree.once
          (alone s.lives (version s) (numbers has.stands) has.rows),
      rows_of_map format c at m has.stands,
    )

-- ---- a new desk, and the empty map

past_free : (v n r : ℕ) → IsPast v (slice_get (replicate n Free) r)
past_free v zero r = tt
past_free v (suc n) zero = tt
past_free v (suc n) (suc r) = past_free v n r

unreached : (v n r : ℕ) → reaches (replicate n Free) v r ≡ false
unreached v zero r = refl
unreached v (suc n) zero = refl
unreached v (suc n) (suc r) = unreached v n r

no_tree : (format : Format) → nodes.tree format [] ≡ empty
unfolding nodes.tree nodes.tree_within
no_tree format = refl

no_rows : (format : Format) (p : Placed) → tree_of format p ≡ empty → used p ≡ []
no_rows format none is = refl
no_rows format (head at layer chain) is = cc

first_is : (n v : ℕ) → 0 < n → slice_index (replicate n v) 0 ≡ v
first_is zero v lt = absurd (omega (arith, lt))
first_is (suc n) v lt = refl

pub keeps_empty : (format : Format) (c : Content) (at : Root) (rows records v : ℕ) → 0 < records
    → Stands format c at []
    → Keeps c
    (record { current = 0; versions = replicate records v; lives = replicate rows Free })
    (record { number = v; format = format; root = at; pairs = [] } ∷ [])
keeps_empty format c at rows records v some stands =
    let now = first_is records v some in
    record {
      settled = past_free (slice_index (replicate records v) 0) rows;
      current = omega (arith, ap bit (same_eqb (slice_index (replicate records v) 0) v now));
      earlier = (omega (arith, now), tt);
      maps = (
        record {
          stands = stands;
          rows =
              λ r. (
                λ is. let not = unreached v rows r in
                    cc,
                λ i. absurd
                    (omega (
                      arith,
                      i,
                      ap (times r)
                          (no_rows format stands.tree.placed (stands.tree.is ∙ no_tree format)),
                    )),
              );
        },
        tt,
      );
    }

pub keeps_plant : (f g : Format) (old new : State) (c c' : Content) (root at : Root)
    (n : List Pair) (kept : List Kept) (into : ℕ) (stands : Stands g c' at n)
    → HasMap f c old.lives (version old) root [] → Takes old new (numbers stands)
    → KeepsBut (numbers stands) c c' → into < length old.versions → Keeps c old kept
    → Keeps c' (advanced into new)
    (record { number = next old; format = g; root = at; pairs = n } ∷ kept)
keeps_plant f g old new c c' root at n kept into stands has takes but there keeps =
    let none_before : numbers has.stands ≡ [] =
    no_rows f has.stands.tree.placed (has.stands.tree.is ∙ no_tree f) in
    let change : Changes old new (numbers has.stands) (numbers stands) =
    subst (λ (rows : List ℕ). Changes old new rows (numbers stands)) (sym none_before)
    (planted old new (numbers stands) takes) in
    keeps_write f g old new c c' root at [] n has stands change kept into there
    (planted_written old new (numbers stands) takes c c' but) keeps

-- the tree of the map in another format is planted, and the one that stood is felled
pub keeps_migrate : (f g : Format) (old mid new : State) (c c' : Content) (root at : Root)
    (m : List Pair) (kept : List Kept) (into : ℕ)
    (has : HasMap f c old.lives (version old) root m) (stands : Stands g c' at m)
    → Takes old mid (numbers stands) → Moves mid new [] (numbers has.stands)
    → KeepsBut (numbers stands) c c' → into < length old.versions → Keeps c old kept
    → Keeps c' (advanced into new)
    (record { number = next old; format = g; root = at; pairs = m } ∷ kept)
keeps_migrate f g old mid new c c' root at m kept into has stands takes fells but there keeps =
    keeps_write f g old new c c' root at m m has stands
    (changes old new (numbers stands) (numbers has.stands)
    (moved old mid new (numbers stands) (numbers has.stands) takes fells)) kept into there
    (planted_written old mid (numbers stands) takes c c' but) keeps
