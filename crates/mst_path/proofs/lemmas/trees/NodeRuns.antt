-- Nodes with entries, and their runs at the front and at the back.
use Rattle.mst_path.proofs.Names.{Format, ◌≡◌, ℕ, zero, suc, ◌+◌, ◌<◌, ◌≤◌, ◌==◌, ◌||◌, Bool, true, false, eqb, List, [], ◌∷◌, length, refl, ap, subst, arith, inl, inr, ◌⊎◌, if◌then◌else◌, AllByRecursion, nat_tests, Tree, empty, node, Entries, last, entry, entry_count, IsUnder, Content, State, In, times, bit, Placed, link_of, used, node_of, side_rows, IsAlive, OldPiece, RunStands, EachGap, BackRun, HasTail, others, height, PlacedEntry}
use Rattle.mst_arena.specs.Standing.{none as no_tree}
use Rattle.mst_path.proofs.lemmas.rows.CopyRows.{old_alive}

-- ---- rows of a list, each with a fact

pub each_in : (P : ℕ → Type 0) (xs : List ℕ) → AllByRecursion P xs → (r : ℕ) → In r xs → P r
each_in P [] all r i = absurd (omega (arith, i))
each_in P (x ∷ xs) all r i = go (eqb r x) refl (λ more. each_in P xs all.1 r more)
  where
    go : (t : Bool) → eqb r x ≡ t → (In r xs → P r) → P r
    go true e rest = let same : x ≡ r = grind (arith, nat_tests) in subst P same all.0
    go false e rest = rest (omega (arith, i, ap bit e))

-- ---- nodes with entries

pub node_of_some : (format : Format) (l : ℕ) (es : Entries) → 0 < entry_count es
    → node_of format l es ≡ node format l es
node_of_some format l (last child) h = absurd (omega (arith, h))
node_of_some format l (entry child key value rest) h = refl

pub side_some : (k : ℕ) → 0 < k → side_rows k false ≡ k + 1
side_some zero h = absurd (omega (arith, h))
side_some (suc k) h = let e : (suc k == 0) ≡ false = grind (arith, nat_tests) in
    ap (λ (b : Bool). if b || false then 0 else suc k + 1) e

pub height_under : (l : ℕ) (t : Tree) → IsUnder l t → height t ≤ l
height_under l empty under = omega arith
height_under l (node g k es) under = omega (arith, under)

pub gaps_others : (P : Placed → Type 0) (es : List PlacedEntry) → EachGap P es
    → EachGap P (others es)
gaps_others P [] each = tt
gaps_others P (e ∷ es) each = each.1

pub has_tail : (es : List PlacedEntry) (tail : Placed) → 0 < length es → HasTail es tail
has_tail [] tail some = absurd (omega (arith, some))
has_tail (e ∷ es) tail some = tt

pub back_of_run : (format : Format) (c : Content) (s : State) (link count : ℕ)
    (es : List PlacedEntry) → RunStands format c s link count 0 es → 0 < length es → (tail_link : ℕ)
    (tail : Placed) → link_of tail ≡ tail_link → OldPiece format c s tail → BackRun format c s link
    count tail_link es tail
back_of_run format c s link count es run some tail_link tail at piece = record {
  counted = run.counted;
  begins = run.begins;
  rows = run.rows;
  old = run.old;
  gaps = gaps_others (OldPiece format c s) es run.gaps;
  tail_at = at;
  tail_piece = piece;
  tail_none = has_tail es tail some;
}

pub no_back : (format : Format) (c : Content) (s : State) → BackRun format c s 0 0 0 [] no_tree
no_back format c s = record {
  counted = refl;
  begins = refl;
  rows = tt;
  old = λ r i. absurd (omega (arith, i));
  gaps = tt;
  tail_at = refl;
  tail_piece = record { rows = tt; old = λ r i. absurd (omega (arith, i)) };
  tail_none = refl;
}

pub no_front : (format : Format) (c : Content) (s : State) → RunStands format c s 0 0 0 []
no_front format c s =
    record {
      counted = refl;
      begins = refl;
      rows = tt;
      old = λ r i. absurd (omega (arith, i));
      gaps = tt;
    }

pub some_of : (a b : ℕ) → 0 < a + b → (0 < a) ⊎ (0 < b)
some_of zero b h = inr (omega (arith, h))
some_of (suc a) b h = inl (omega arith)

-- what is in two old trees is alive
pub both_alive : (format : Format) (c : Content) (s : State) (p q : Placed) → OldPiece format c s p
    → OldPiece format c s q → (r : ℕ) → 0 < times r (used p) + times r (used q) → IsAlive s r
both_alive format c s p q a b r i = elim (some_of (times r (used p)) (times r (used q)) i) [
  | inl k ↦ old_alive s r (a.old r k)
  | inr k ↦ old_alive s r (b.old r k)
]
