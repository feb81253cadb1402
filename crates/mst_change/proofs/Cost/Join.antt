-- What a join makes new.
use Rattle.mst_change.proofs.Names.{◌≡◌, ℕ, ◌+◌, ◌<◌, cond, List, ◌++◌, length, refl, sym, ap, ◌∙◌, arith, length-append, Format, Pair, IsAscending, Tree, empty, node, Entries, last, entry, entry_count, pairs, entries_pairs, IsMst, IsMstEntries, with_entries, cells, first_child, last_child, with_first, join_node, join_first, join, join_last, join_node_rows, join_first_rows, join_rows, join_last_rows}
use Rattle.mst_change.proofs.Choices.{at_layers}
use Rattle.mst_change.proofs.Parts.{seam_pairs, with_first_pairs, seam_count, with_first_count, first_mst}
use Rattle.mst_change.proofs.Join.Trees.{join_last_pairs, join_first_pairs}
use Rattle.mst_change.proofs.Cost.Home.{HasKey, new_by_key, some_key, seam_key, count_le_pairs}
use Rattle.mst_change.proofs.Cost.Fresh.{fresh, fresh_in, Stands, StandIn, entries_stand, node_stands, child_stands, rest_stands, first_stands, fresh_none, fresh_in_none, fresh_node, fresh_seam, fresh_first}

-- more pairs on either side are not the same pairs
longer_behind : (xs ys : List Pair) → 0 < length ys → xs ++ ys ≡ xs → ⊥
longer_behind xs ys some e = let same = ap length e in omega (arith, same, length-append xs ys)

longer_before : (xs ys : List Pair) → 0 < length xs → xs ++ ys ≡ ys → ⊥
longer_before xs ys some e = let same = ap length e in omega (arith, same, length-append xs ys)

some_pairs : (es : Entries) → 0 < entry_count es → 0 < length (entries_pairs es)
some_pairs es some = omega (arith, count_le_pairs es)

pub join_first_count : (fs : Entries) (g : Format) (l : ℕ) (es : Entries) (inner : Tree → Tree)
    → entry_count (join_first g l es inner fs) ≡ entry_count fs
join_first_count (last child) g l es inner = refl
join_first_count (entry child key value rest) g l es inner = refl

join_first_key : (fs : Entries) (g : Format) (l : ℕ) (es : Entries) (inner : Tree → Tree)
    (q : List ℕ) → HasKey q fs → HasKey q (join_first g l es inner fs)
join_first_key (last child) g l es inner q has = has
join_first_key (entry child key value rest) g l es inner q has = has

-- `inner` joins the last child with a tree, and makes so many rows
record Joins (old : Tree) (format : Format) (es : Entries) (inner : Tree → Tree) (rows : Tree → ℕ) :
    Type 0 where
  held : (u : Tree) → pairs (inner u) ≡ pairs (last_child es) ++ pairs u
  made : (u : Tree) → IsMst format u → Stands old u → fresh old (inner u) ≡ rows u

module _ (old : Tree) (old_rises : IsAscending (pairs old)) (format : Format) where
  mutual
    join_node_fresh : (b : Tree) (g : Format) (l : ℕ) (es : Entries) (inner : Tree → Tree)
        (rows : Tree → ℕ) → IsMst format (node g l es) → Stands old (node g l es)
        → Joins old format es inner rows → IsMst format b → Stands old b
        → fresh old (join_node g l es inner b) ≡ join_node_rows (entry_count es) l rows b
    join_node_fresh empty g l es inner rows mst stands joins is also =
        fresh_none (node g l es) old stands
    join_node_fresh (node h j fs) g l es inner rows mst stands joins is also =
        let b = node h j fs in
        let stand_es = entries_stand old g l es stands in
        let stand_fs = entries_stand old h j fs also in
        let key = some_key es mst.1 in
        let tall = with_entries (cells es) (last (inner b)) in
        let wide = with_entries (cells es) (with_first (inner (first_child fs)) fs) in
        let low = join_first g l es inner fs in
        at_layers (λ s t. fresh old (cond s (node g l tall) (cond t (node g l wide) (node h j low)))
        ≡ cond s (entry_count es + 1 + rows b)
        (cond t (entry_count es + entry_count fs + 1 + rows (first_child fs))
        (entry_count fs + 1 + join_first_rows (entry_count es) l rows fs))) j l
        (λ less t.
        let both : entries_pairs tall ≡ entries_pairs es ++ entries_pairs fs =
        seam_pairs es (last (inner b)) (entries_pairs fs) (joins.held b) in
        let new =
        fresh_node old g l tall
        (new_by_key old (node g l es) (node g l tall) key.0 old_rises
        (node_stands old g l es stands) key.1 (seam_key es (last (inner b)) key.0 key.1)
        (λ same. longer_behind (entries_pairs es) (entries_pairs fs) (some_pairs fs is.1)
        (sym both ∙ same))) in
        let count = seam_count es (last (inner b)) in
        let made = joins.made b is also in
        let path = fresh_seam es (last (inner b)) old stand_es in
        omega (arith, new, count, made, path))
        (λ same.
        let both : entries_pairs wide ≡ entries_pairs es ++ entries_pairs fs =
        seam_pairs es (with_first (inner (first_child fs)) fs) (entries_pairs fs)
        (with_first_pairs fs (inner (first_child fs)) (pairs (last_child es))
        (joins.held (first_child fs))) in
        let new =
        fresh_node old g l wide
        (new_by_key old (node g l es) (node g l wide) key.0 old_rises
        (node_stands old g l es stands) key.1
        (seam_key es (with_first (inner (first_child fs)) fs) key.0 key.1)
        (λ e. longer_behind (entries_pairs es) (entries_pairs fs) (some_pairs fs is.1)
        (sym both ∙ e))) in
        let count = seam_count es (with_first (inner (first_child fs)) fs) in
        let more = with_first_count fs (inner (first_child fs)) in
        let made = joins.made (first_child fs) (first_mst fs format j is.2).1
        (first_stands fs old stand_fs) in
        let path = fresh_seam es (with_first (inner (first_child fs)) fs) old stand_es in
        let first = fresh_first fs (inner (first_child fs)) old stand_fs in
        omega (arith, new, count, more, made, path, first))
        (λ more.
        let both : entries_pairs low ≡ entries_pairs es ++ entries_pairs fs =
        join_first_pairs fs g l es inner joins.held in
        let shared = some_key fs is.1 in
        let new =
        fresh_node old h j low
        (new_by_key old b (node h j low) shared.0 old_rises (node_stands old h j fs also)
        shared.1 (join_first_key fs g l es inner shared.0 shared.1)
        (λ e. longer_before (entries_pairs es) (entries_pairs fs) (some_pairs es mst.1)
        (sym both ∙ e))) in
        let count = join_first_count fs g l es inner in
        let made = join_first_fresh fs g l j es inner rows mst stands joins is.2 stand_fs in
        omega (arith, new, count, made))

    join_first_fresh : (fs : Entries) (g : Format) (l j : ℕ) (es : Entries) (inner : Tree → Tree)
        (rows : Tree → ℕ) → IsMst format (node g l es) → Stands old (node g l es)
        → Joins old format es inner rows → IsMstEntries format j fs → StandIn old fs
        → fresh_in old (join_first g l es inner fs) ≡ join_first_rows (entry_count es) l rows fs
    join_first_fresh (last child) g l j es inner rows mst stands joins is also =
        join_node_fresh child g l es inner rows mst stands joins is.1 also
    join_first_fresh (entry child key value rest) g l j es inner rows mst stands joins is also =
        let made = join_node_fresh child g l es inner rows mst stands joins is.1
        (child_stands old child key value rest also) in
        let none = fresh_in_none rest old (rest_stands old child key value rest also) in
        omega (arith, made, none)

  mutual
    pub join_fresh : (a b : Tree) → IsMst format a → Stands old a → IsMst format b → Stands old b
        → fresh old (join a b) ≡ join_rows a b
    join_fresh empty b is stands also stand = fresh_none b old stand
    join_fresh (node g l es) b is stands also stand =
        join_node_fresh b g l es (join_last es) (join_last_rows es) is stands
        (record {
          held = join_last_pairs es;
          made = λ u mst there. join_last_fresh es l u is.2
              (entries_stand old g l es stands) mst there;
        })
        also stand

    join_last_fresh : (es : Entries) (l : ℕ) (b : Tree) → IsMstEntries format l es → StandIn old es
        → IsMst format b → Stands old b → fresh old (join_last es b) ≡ join_last_rows es b
    join_last_fresh (last child) l b is stands also stand =
        join_fresh child b is.1 stands also stand
    join_last_fresh (entry child key value rest) l b is stands also stand =
        join_last_fresh rest l b is.3 (rest_stands old child key value rest stands) also stand
