-- From the rows that a change of the tree took and killed to what its caller learns: by the rows
-- that stood before it and those that stand after it.
use Rattle.mst_path.proofs.Names.{Format, ◌≡◌, ◌≢◌, ℕ, zero, suc, ◌+◌, ◌<◌, ◌≤◌, eqb, Bool, true, false, List, [], ◌∷◌, Option, Some, refl, sym, ◌∙◌, ap, subst, arith, slice_get, AllByRecursion, nat_tests, Pair, IsAscending, map_get, Tree, IsMst, pairs, tree, cost, pairs_tree, tree_mst, Content, State, free_count, In, times, bit, Free, Root, Placed, tree_of, used, IsDistinct, Stands, numbers, one_placed, IsOld, IsKilled, IsMade, Grown, SearchTree, AreOld, MapStands, IsTaken, OnlyFreeWritten, Changes, AfterChange}
use Rattle.mst_key.specs.Map.{IsMap}
use Rattle.mst_node.specs.Text.{digest}
use Rattle.mst_path.specs.Changing.{AreTaken, AreKilled, OthersLive, SameVersions}
use Rattle.mst_path.proofs.lemmas.rows.CopyRows.{kept_at}
use Rattle.mst_path.proofs.lemmas.trees.Joined.{unchanged}

-- ---- lists without a number twice

apart_times : (x : ℕ) (xs : List ℕ) → AllByRecursion (λ y. x ≢ y) xs → times x xs ≡ 0
apart_times x [] apart = refl
apart_times x (y ∷ ys) apart = go (eqb x y) refl (apart_times x ys apart.1)
  where
    go : (t : Bool) → eqb x y ≡ t → times x ys ≡ 0 → bit t + times x ys ≡ 0
    go true e rest = let same : x ≡ y = grind (arith, nat_tests) in absurd (apart.0 same)
    go false e rest = omega (arith, rest)

pub distinct_times : (xs : List ℕ) → IsDistinct xs → (r : ℕ) → times r xs ≤ 1
distinct_times [] once r = omega arith
distinct_times (x ∷ xs) once r = go (eqb r x) refl (distinct_times xs once.1 r)
  where
    go : (t : Bool) → eqb r x ≡ t → times r xs ≤ 1 → bit t + times r xs ≤ 1
    go true e rest = let same : r ≡ x = grind (arith, nat_tests) in
        omega (arith, ap (λ (n : ℕ). times n xs) same, apart_times x xs once.0)
    go false e rest = omega (arith, rest)

times_apart : (x : ℕ) (xs : List ℕ) → times x xs ≡ 0 → AllByRecursion (λ y. x ≢ y) xs
times_apart x [] none = tt
times_apart x (y ∷ ys) none = (
  λ same. let e : eqb x y ≡ true = grind (arith, nat_tests) in omega (arith, none, ap bit e),
  times_apart x ys (omega (arith, none)),
)

pub times_distinct : (xs : List ℕ) → ((r : ℕ) → times r xs ≤ 1) → IsDistinct xs
times_distinct [] once = tt
times_distinct (x ∷ xs) once = (
  times_apart x xs (let e : eqb x x ≡ true = grind (arith, nat_tests) in
      omega (arith, once x, ap bit e)),
  times_distinct xs (λ r. omega (arith, once r)),
)

-- ---- what stands at a root

pub mst_of : (format : Format) (p : Placed) (m : List Pair) → tree_of format p ≡ tree format m
    → IsMst format (tree_of format p)
mst_of format p m is = let Mst : Tree → Type 0 =
    IsMst format in subst Mst (sym is) (tree_mst format m)

pub one_standing : (format : Format) (c : Content) (at : Root) (m n : List Pair)
    (s : Stands format c at m) (r : Stands format c at n) → s.tree.placed ≡ r.tree.placed
one_standing format c at m n s r = one_placed format c s.tree.placed r.tree.placed
    (s.tree.at ∙ sym r.tree.at) s.tree.rows r.tree.rows

pub any_old : (format : Format) (c : Content) (s : State) (at : Root) → MapStands format c s at
    → (m : List Pair) (stands : Stands format c at m) → AreOld s (numbers stands)
any_old format c s at one m stands = subst (λ (p : Placed). AreOld s (used p))
    (one_standing format c at one.0 m one.1 stands) one.2

abbrev pub search_at : (format : Format) (c : Content) (s : State) (at : Root) (m : List Pair)
    (stands : Stands format c at m) → AreOld s (numbers stands) → SearchTree format c s at.link
search_at format c s at m stands old = record {
  placed = stands.tree.placed;
  at = stands.tree.at;
  piece = record { rows = stands.tree.rows; old = old };
  search = mst_of format stands.tree.placed m stands.tree.is;
  once = distinct_times (used stands.tree.placed) stands.tree.once;
}

-- ---- a change

-- none, or some
by_zero : (n : ℕ) (A : Type 0) → (n ≡ 0 → A) → (0 < n → A) → A
by_zero zero A is_zero is_more = is_zero refl
by_zero (suc n) A is_zero is_more = is_more (omega arith)

not_old : (s : State) (r : ℕ) → slice_get s.lives r ≡ Some Free → IsOld s r → ⊥
not_old s r free old = let born = old.1 in cc

module _ (format : Format) (c c1 : Content) (s s1 : State) (root at : Root) (m n : List Pair)
    (stands : Stands format c root m) (old : AreOld s (numbers stands)) (count : ℕ)
    (g : Grown format c c1 s s1 (tree format n) at (λ x. times x (used stands.tree.placed)) count)
  where
    before_once : (r : ℕ) → times r (used stands.tree.placed) ≤ 1
    before_once r = distinct_times (used stands.tree.placed) stands.tree.once r

    -- what was taken was no row before, and is not killed
    taken_before : (r : ℕ) → In r g.taken → times r (used stands.tree.placed) ≡ 0
    taken_before r i = by_zero (times r (used stands.tree.placed)) _ (λ z. z)
        (λ lt. absurd (not_old s r (g.moves.free r i) (old r lt)))

    taken_lives : (r : ℕ) → In r g.taken → times r g.killed ≡ 0
    taken_lives r i =
        by_zero (times r g.killed) _ (λ z. z)
        (λ lt. absurd
        (let dies = g.moves.dies r lt in not_old s r (g.moves.free r i) (dies.0, dies.1, dies.2)))

    after_once : (r : ℕ) → times r (used g.placed) ≤ 1
    after_once r = by_zero (times r g.taken) _
        (λ z. omega (arith, z, g.rows r, before_once r))
        (λ lt. omega (arith, taken_before r lt, g.rows r, g.moves.once r))

    killed_before : (r : ℕ) → In r g.killed → (times r (used stands.tree.placed) ≡ 1)
        × (times r (used g.placed) ≡ 0)
    killed_before r i =
        let not : times r g.taken ≡ 0 =
        by_zero (times r g.taken) _ (λ z. z) (λ lt. absurd (omega (arith, i, taken_lives r lt)))
        in (
          omega (arith, i, not, g.rows r, before_once r),
          omega (arith, i, not, g.rows r, before_once r),
        )

    was_taken : (r : ℕ) → IsTaken s s1 r → In r g.taken
    was_taken r is = by_zero (times r g.taken) _
        (λ z. by_zero (times r g.killed) _
        (λ y. absurd (let same = g.moves.others r z y in let free = is.0 in let born = is.1 in cc))
        (λ lt. absurd (let dies = g.moves.dies r lt in not_old s r is.0 (dies.0, dies.1, dies.2))))
        (λ lt. lt)

    was_killed : (r : ℕ) → IsKilled s s1 r → In r g.killed
    was_killed r is = by_zero (times r g.killed) _
        (λ z. by_zero (times r g.taken) _
        (λ y. absurd (let same = g.moves.others r y z in let born = is.1 in let dead = is.3 in cc))
        (λ lt. absurd (not_old s r (g.moves.free r lt) (is.0, is.1, is.2))))
        (λ lt. lt)

    are_taken : AreTaken s s1 (used stands.tree.placed) (used g.placed)
    are_taken r = (
      λ is. let i = was_taken r is in
          (omega (arith, i, taken_before r i, taken_lives r i, g.rows r), taken_before r i),
      λ only. let i : In r g.taken = omega (arith, only.0, only.1, g.rows r) in
          (g.moves.free r i, g.moves.born r i),
    )

    are_killed : AreKilled s s1 (used stands.tree.placed) (used g.placed)
    are_killed r = (
      λ is. let gone = killed_before r (was_killed r is) in (omega (arith, gone.0), gone.1),
      λ only. g.moves.dies r (omega (arith, only.0, only.1, g.rows r)),
    )

    others_live : OthersLive s s1 (used stands.tree.placed) (used g.placed)
    others_live r both = by_zero (times r g.taken) _
        (λ z. by_zero (times r g.killed) _
        (λ y. g.moves.others r z y)
        (λ lt. absurd (let gone = killed_before r lt in let there =
        both.0 (omega (arith, gone.0)) in
        omega (arith, there, gone.1))))
        (λ lt. absurd
        (let was = both.1 (omega (arith, lt, taken_before r lt, taken_lives r lt, g.rows r)) in
        omega (arith, was, taken_before r lt)))

    -- ---- the clauses

    pub stands_after : IsMap n → Stands format c1 at n
    stands_after map = record {
      map = map;
      digest = g.root.sum ∙ ap digest g.is;
      tree = record {
        placed = g.placed;
        at = sym g.root.link;
        is = g.is;
        rows = g.piece.rows;
        once =
            times_distinct (used g.placed) after_once;
      };
    }

    same_after : (n1 : List Pair) (w : Stands format c1 at n1) → g.placed ≡ w.tree.placed
    same_after n1 w = one_placed format c1 g.placed w.tree.placed (sym g.root.link ∙ sym w.tree.at)
        g.piece.rows w.tree.rows

    -- a fact of the rows before and after, of whatever stands there
    whatever : (P : List ℕ → List ℕ → Type 0) → P (used stands.tree.placed) (used g.placed)
        → (m1 n1 : List Pair) (o : Stands format c root m1) (w : Stands format c1 at n1)
        → P (numbers o) (numbers w)
    whatever P is m1 n1 o w =
        subst (λ (p : Placed). P (used p) (numbers w)) (one_standing format c root m m1 stands o)
        (subst (λ (p : Placed). P (used stands.tree.placed) (used p)) (same_after n1 w) is)

    pub taken_after : (m1 n1 : List Pair) (o : Stands format c root m1) (w : Stands format c1 at n1)
        → AreTaken s s1 (numbers o) (numbers w)
    taken_after m1 n1 o w = whatever (AreTaken s s1) are_taken m1 n1 o w

    pub killed_after : (m1 n1 : List Pair) (o : Stands format c root m1)
        (w : Stands format c1 at n1)
        → AreKilled s s1 (numbers o) (numbers w)
    killed_after m1 n1 o w = whatever (AreKilled s s1) are_killed m1 n1 o w

    pub others_after : (m1 n1 : List Pair) (o : Stands format c root m1)
        (w : Stands format c1 at n1)
        → OthersLive s s1 (numbers o) (numbers w)
    others_after m1 n1 o w = whatever (OthersLive s s1) others_live m1 n1 o w

    pub written_after : OnlyFreeWritten s c c1
    written_after r other =
        kept_at c c1 g.taken r g.keeps
        (by_zero (times r g.taken) _ (λ z. z) (λ lt. absurd (other (g.moves.free r lt))))

    pub cost_after : free_count s1.lives + count ≡ free_count s.lives
    cost_after = omega (arith, g.moves.room, g.counted)

    pub made_after : (n1 : List Pair) (w : Stands format c1 at n1) → IsMade s1 w.tree.placed
    made_after n1 w = subst (IsMade s1) (same_after n1 w) g.piece.made

    pub versions_after : SameVersions s s1
    versions_after = (g.moves.current, g.moves.versions)

-- ---- what the caller learns of a change, which is the same one of each map that stood

-- what stands afterwards, of a map that stood before
abbrev pub Changed : (format : Format) (c c1 : Content) (s s1 : State) (root at : Root)
    → (List Pair → List Pair) → (m : List Pair) → Stands format c root m → Type 0
Changed format c c1 s s1 root at change m stands =
    Grown format c c1 s s1 (tree format (change m)) at (λ x. times x (used stands.tree.placed))
    (cost format m (change m))

pub after_change : (format : Format) (c c1 : Content) (s s1 : State) (root at : Root)
    (change : List Pair → List Pair) → MapStands format c s root
    → ((m : List Pair) → IsMap m → IsMap (change m))
    → ((m : List Pair) (stands : Stands format c root m) → AreOld s (numbers stands)
    → Changed format c c1 s s1 root at change m stands) → AfterChange format c c1 s s1 root at
    change
after_change format c c1 s s1 root at change one fits grows =
    let m = one.0 in
    let st = one.1 in
    let n = change m in
    let count = cost format m n in
    let g = grows m st one.2 in
    record {
      stands = λ m1 st1.
          let old1 = any_old format c s root one m1 st1 in
          stands_after format c c1 s s1 root at m1 (change m1) st1 old1 (cost format m1 (change m1))
          (grows m1 st1 old1) (fits m1 st1.map);
      written = written_after format c c1 s s1 root at m n st one.2 count g;
      counted = λ m1 st1.
          let old1 = any_old format c s root one m1 st1 in
          cost_after format c c1 s s1 root at m1 (change m1) st1 old1 (cost format m1 (change m1))
          (grows m1 st1 old1);
      changes = λ a b o w. record {
        taken = taken_after format c c1 s s1 root at m n st one.2 count g a b o w;
        killed = killed_after format c c1 s s1 root at m n st one.2 count g a b o w;
        others = others_after format c c1 s s1 root at m n st one.2 count g a b o w;
        versions = versions_after format c c1 s s1 root at m n st one.2 count g;
      };
      versions = versions_after format c c1 s s1 root at m n st one.2 count g;
      made = made_after format c c1 s s1 root at m n st one.2 count g;
    }

-- a change that changes nothing, at no cost
pub unchanged_map : (format : Format) (c : Content) (s : State) (root : Root)
    (change : List Pair → List Pair) (m : List Pair) (stands : Stands format c root m)
    → AreOld s (numbers stands) → change m ≡ m → cost format m (change m) ≡ 0 → Changed format c c s
    s root root change m stands
unchanged_map format c s root change m stands old same free =
    unchanged format c s stands.tree.placed root (record { rows = stands.tree.rows; old = old })
    (record { link = sym stands.tree.at; sum = stands.digest ∙ sym (ap digest stands.tree.is) })
    (tree format (change m)) (stands.tree.is ∙ sym (ap (tree format) same))
    (λ x. times x (used stands.tree.placed)) (λ x. refl) (cost format m (change m)) free

-- ---- what a look-up of a key says

pub rises : (format : Format) (c : Content) (root : Root) (m : List Pair)
    (stands : Stands format c root m) → IsAscending (pairs (tree_of format stands.tree.placed))
rises format c root m stands =
    subst IsAscending (sym (ap pairs stands.tree.is ∙ pairs_tree format m)) stands.map.ascending

looks : (format : Format) (c : Content) (root : Root) (m : List Pair)
    (stands : Stands format c root m) (k : List ℕ)
    → map_get (pairs (tree_of format stands.tree.placed)) k ≡ map_get m k
looks format c root m stands k =
    ap (λ (l : List Pair). map_get l k) (ap pairs stands.tree.is ∙ pairs_tree format m)

-- of each map
pub says : (format : Format) (c : Content) (s : State) (root : Root) (k : List ℕ)
    (one : MapStands format c s root) (o : Option (List ℕ))
    → ((q : State) (t : SearchTree format c q root.link)
    → IsAscending (pairs (tree_of format t.placed)) → o ≡ map_get (pairs (tree_of format t.placed))
    k) → (m : List Pair) → Stands format c root m → map_get m k ≡ o
says format c s root k one o found m st =
    let old = any_old format c s root one m st in
    sym (found s (search_at format c s root m st old) (rises format c root m st)
    ∙ looks format c root m st k)
