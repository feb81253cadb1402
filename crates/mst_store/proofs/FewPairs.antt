-- A map that stands on rows of a store has at most as many pairs as the store has rows.
use Rattle.mst_store.proofs.Names.{◌≡◌, ◌≢◌, ℕ, ◌<◌, ◌≤◌, Bool, true, false, if◌then◌else◌, List, [], ◌∷◌, ◌++◌, length, Option, Some, None, refl, ap, subst, arith, Format, Edit, after, batched, Pair, after-push, View, Seated, PassParameters, PinnedVersion, Preparation, batch_of, IsPrepared, SeatState, IsPinning}
use Rattle.std.proofs.Common.{◌^◌, ◌||◌, eqb}
use Rattle.std.specs.List.{list_any, AllByRecursion, IsDistinct}
use Rattle.std.proofs.lemmas.Bool.Decides.{nat_tests}
use Rattle.std.proofs.lemmas.Map.Steps.{length-le_from_distinct_below}
use Rattle.atomic_table.specs.Table.{Me}
use Rattle.mst_key.specs.Map.{IsMap}
use Rattle.mst_arena.specs.Content.{Content}
use Rattle.mst_arena.specs.Lives as lives
use Rattle.mst_arena.specs.declared.row.Root.{Root}
use Rattle.mst_arena.specs.declared.row.Row.{Row}
use Rattle.mst_arena.specs.declared.row.Row.TheVariants.{Entry}
use Rattle.mst_arena.specs.Standing.{Placed, none, head, Chain, end, cell, link_of, first_of, head_row, rows_of, chain_rows, used, chain_used, HasRows, Stands, numbers, IsDistinct as HasNoneTwice}
use Rattle.mst_arena.proofs.Stands.{all-append, all-front, all-back}
use Rattle.mst_path.proofs.lemmas.versions.Versions.{rows_of_map}
use Rattle.mst_words.specs.Access.{may_read, content_of}
use Rattle.mst_words.specs.Records.{known_row}
use Rattle.mst_words.specs.Stored.{rows_in}
use Rattle.mst_words.proofs.Accesses.{inside}
use Rattle.mst_versions.specs.Pinned.{PinsVersion}

-- ---- numbers below n, of which none stands twice

-- as the library says it
tests : (x : ℕ) (xs : List ℕ) → AllByRecursion (λ y. x ≢ y) xs
    → AllByRecursion (λ y. eqb x y ≡ false) xs
tests x [] apart = tt
tests x (y ∷ ys) apart = let other : x ≢ y = apart.0 in
    (grind (arith, nat_tests, other), tests x ys apart.1)

none_twice : (xs : List ℕ) → HasNoneTwice xs → IsDistinct eqb xs
unfolding IsDistinct
none_twice [] once = tt
none_twice (x ∷ xs) once = (tests x xs once.0, none_twice xs once.1)

any_below : (n q : ℕ) (xs : List ℕ) → AllByRecursion (λ x. x < n) xs → list_any (eqb q) xs ≡ true
    → q < n
any_below n q [] all has = cc
any_below n q (x ∷ xs) all has = go (eqb q x) refl has (any_below n q xs all.1)
  where
    go : (b : Bool) → eqb q x ≡ b → (b || list_any (eqb q) xs) ≡ true
        → (list_any (eqb q) xs ≡ true → q < n) → q < n
    go true e h more = let same : q ≡ x = grind (arith, nat_tests, e) in
        omega (arith, same, all.0)
    go false e h more = more h

-- ---- the rows of a tree, where the content has none from n on

module _ (format : Format) (content : Content) (n : ℕ)
    (below : (x : ℕ) (r : Row) → content x ≡ Some r → x < n) where
  mutual
    used_below : (p : Placed) → HasRows content (rows_of format p)
        → AllByRecursion (λ x. x < n) (used p)
    used_below none has = tt
    used_below (head at layer chain) has =
        (below at (head_row format layer chain) has.0, chain_below chain has.1)

    chain_below : (c : Chain) → HasRows content (chain_rows format c)
        → AllByRecursion (λ x. x < n) (chain_used c)
    chain_below (end child) has = used_below child has
    chain_below (cell at child key value rest) has = (
      below at (Entry (link_of child) (first_of rest) key value) has.0,
      all-append _ (used child) (chain_used rest)
          (used_below child (all-front _ (rows_of format child) (chain_rows format rest) has.1))
          (chain_below rest (all-back _ (rows_of format child) (chain_rows format rest) has.1)),
    )

  few_pairs : (at : Root) (m : List Pair) → Stands format content at m → length m ≤ n
  few_pairs at m stands =
      let all = used_below stands.tree.placed stands.tree.rows in
      let few = length-le_from_distinct_below (numbers stands) n
      (none_twice (numbers stands) stands.tree.once) (λ q. any_below n q (numbers stands) all) in
      omega (arith, few, rows_of_map format content at m stands)

-- ---- what a pass pins

-- a pass reads no row from that number on
readable : (v : View) (x : ℕ) (r : Row) → content_of v x ≡ Some r → x < v.rows
readable v x r is = go (may_read v x) refl is
  where
    go : (b : Bool) → may_read v x ≡ b
        → (if b then rows_in (known_row v) x else None) ≡ Some r → x < v.rows
    go true may has = inside v x may
    go false may has = absurd (let no : None ≡ Some r = has in cc)

abbrev Slot : Type 0
Slot = Option lives.State

pub few_pinned : (m m' : Me Slot View) (at : PinnedVersion) → PinsVersion m at m' → m.0.rows ≤ 65535
    → length (after m'.0.pinned_history) ≤ 65535
few_pinned m m' at p few =
    let pairs = few_pairs _ (content_of m'.0) m'.0.rows (readable m'.0) _
    (after m'.0.pinned_history) p.has.stands in
    let same : m'.0.rows ≡ m.0.rows = ap (λ (z : Me Slot View). z.0.rows) p.rest in
    omega (arith, pairs, same, few)

-- as many as one word counts
pub counted_pinned : (m m' : Me Slot View) (at : PinnedVersion) → PinsVersion m at m'
    → m.0.rows ≤ 65535 → length (after m'.0.pinned_history) < 2 ^ 64
counted_pinned m m' at p few = let pairs = few_pinned m m' at p few in omega (arith, pairs)

-- also where the pin was made before
pub counted_at_pin : (n : PassParameters) (at : PinnedVersion) (s : Seated) → IsPinning n at s
    → length (after s.me.0.pinned_history) < 2 ^ 64
counted_at_pin n at s p =
    let pairs = few_pairs _ (content_of s.me.0) s.me.0.rows (readable s.me.0) _
    (after s.me.0.pinned_history) p.pinned.stands in
    let rows : s.me.0.rows ≡ n.rows = p.rows_is in
    let few : n.rows ≤ 65535 = p.few_rows in
    omega (arith, pairs, rows, few)

-- ---- what a pass prepares

-- the map after the edits of a batch that is prepared
pub prepared_map : {A : Type 0} (number : ℕ) (edits : List Edit) (p : Preparation A)
    (m : SeatState) → IsPrepared number edits p m → IsMap (batched (after m.0.seen) edits)
prepared_map number edits p m h =
    subst IsMap (after-push m.0.seen (batch_of number edits)) h.made.stands.map

pub prepared_few : {A : Type 0} (number : ℕ) (edits : List Edit) (p : Preparation A)
    (m : SeatState) → IsPrepared number edits p m → m.0.rows ≤ 65535
    → length (batched (after m.0.seen) edits) ≤ 65535
prepared_few number edits p m h few =
    let e = batch_of number edits in
    let pairs = few_pairs p.turn.format (content_of m.0) m.0.rows (readable m.0) p.root
    (after (m.0.seen ++ e ∷ [])) h.made.stands in
    let same : length (after (m.0.seen ++ e ∷ [])) ≡ length (batched (after m.0.seen) edits) =
    ap (λ (l : List Pair). length l) (after-push m.0.seen e) in
    omega (arith, pairs, same, few)
