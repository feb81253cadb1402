-- The lots that a sharded map deals to its readers, by their places.
use Rattle.mst_c_blocks.proofs.Names.{◌≡◌, ℕ, ◌+◌, ◌-◌, ◌<◌, List, [], ◌∷◌, ◌++◌, length, get_or, ap, subst, ◌∙◌, arith, Shards, Dealt, IsLot, lot, reader_of, new_reader}
use Rattle.std.proofs.Common.{◌≢◌, zero, suc}
use Rattle.std.specs.List.{AllByRecursion}
use Rattle.std.proofs.lemmas.List.{get_or-append-add}
use Rattle.std.proofs.Math.ListN.{get_or-append}
use mathlib.Core.Logic.{dite}
use native.Mathlib.Decide.{ℕ_discrete}
use Rattle.mst_store.specs.Passes.{StoreId}
use Rattle.mst_shards.specs.Opening.{first_lots}
use Rattle.mst_shards.proofs.Dealing.{length-first_lots}

first_at : (stores : List StoreId) (s : StoreId) (n k : ℕ) (d : Dealt) → k < n
    → get_or (first_lots stores s n) k d ≡ lot stores s (k + 1)
first_at stores s zero k d below = absurd (omega (arith, below))
first_at stores s (suc n) k d below =
    let ls : List Dealt = first_lots stores s n in let l : Dealt = lot stores s (suc n) in
    let e : length ls ≡ n = length-first_lots stores s n in dite (ℕ_discrete k n)
    (λ (is : k ≡ n). let at : k ≡ length ls + 0 = omega (arith, is, e) in let next : suc n ≡ k + 1 =
    omega (arith, is) in
    ap (λ (j : ℕ). get_or (ls ++ l ∷ []) j d) at ∙ get_or-append-add ls (l ∷ []) 0 d
    ∙ ap (lot stores s) next)
    (λ (other : k ≢ n). let low : k < n = omega (arith, below, other) in
    let inside : k < length ls = omega (arith, low, e) in get_or-append ls (l ∷ []) d k inside
    ∙ first_at stores s n k d low)

all_at : {X : Type 0} (P : X → Type 0) (xs : List X) (k : ℕ) (x : X) → AllByRecursion P xs
    → k < length xs → P (get_or xs k x)
all_at P [] k x all below = absurd (omega (arith, below))
all_at P (y ∷ xs) zero x all below = all.0
all_at P (y ∷ xs) (suc k) x all below = all_at P xs k x all.1 (omega (arith, below))

-- The lots that a map dealt to its readers, where the map has two names. There is one for each pass
-- of the directory but that of the writer
pub lots_count : (s m : Shards) (ls : List Dealt) → s ≡ m
    → ls ≡ first_lots s.stores s.directory (s.directory.passes - 1)
    → length ls ≡ m.directory.passes - 1
lots_count s m ls here dealt =
    ap (λ (xs : List Dealt). length xs) dealt
    ∙ length-first_lots s.stores s.directory (s.directory.passes - 1)
    ∙ ap (λ (x : Shards). x.directory.passes - 1) here

-- each is of the map
pub lot_of_map : (s m : Shards) (ls : List Dealt) (k : ℕ) (d : Dealt) → s ≡ m
    → AllByRecursion (IsLot s) ls → k < length ls → IsLot m (get_or ls k d)
lot_of_map s m ls k d here are below =
    subst (λ (x : Shards). IsLot x (get_or ls k d)) here (all_at (IsLot s) ls k d are below)

-- and its reader has its number
pub reader_at : (s m : Shards) (ls : List Dealt) (k : ℕ) (d : Dealt) → s ≡ m
    → ls ≡ first_lots s.stores s.directory (s.directory.passes - 1)
    → k < m.directory.passes - 1 → reader_of m (get_or ls k d) ≡ new_reader m (k + 1)
reader_at s m ls k d here dealt below =
    let n : ℕ = m.directory.passes - 1 in
    let is : ls ≡ first_lots m.stores m.directory n =
    subst (λ (x : Shards). ls ≡ first_lots x.stores x.directory (x.directory.passes - 1)) here dealt
    in
    ap (λ (l : Dealt). reader_of m l)
    (ap (λ (xs : List Dealt). get_or xs k d) is ∙ first_at m.stores m.directory n k d below)

-- what holds of the places behind the first one, by their numbers
pub by_number : (P : ℕ → Type 0) (n : ℕ) → ((j : ℕ) → j < n → P (j + 1)) → (k : ℕ) → 0 < k
    → k < n + 1 → P k
by_number P n each zero some below = absurd (omega (arith, some))
by_number P n each (suc j) some below =
    let next : j + 1 ≡ suc j = omega arith in subst P next (each j (omega (arith, below)))
