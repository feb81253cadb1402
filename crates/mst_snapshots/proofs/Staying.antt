-- A pin that was lifted at its place, and laid down again.
use Rattle.mst_snapshots.proofs.Names.{◌≡◌, ℕ, ◌+◌, ◌<◌, ◌≤◌, List, [], ◌∷◌, ◌++◌, length, get_or, sym, ap, subst, ◌∙◌, arith, swap_remove, SwappedAt, Known, StoreId, AreOf, sharding, IsSharding, read_any, no_pass, pass_at}
use Rattle.mst_shards.proofs.Owned.{stayed}

-- the list is as it was
pub pin_back : (ps ys zs : List Known) (i m n k : ℕ) (p q : Known) → i < m → m ≡ length ps
    → p ≡ get_or ps i p → ys ≡ swap_remove ps i p → n + 1 ≡ m → k ≡ n + 1 → k ≡ length zs
    → SwappedAt (ys ++ q ∷ []) zs i n → q ≡ p → zs ≡ ps
pin_back ps ys zs i m n k p q low long here left taken laid now back same =
    stayed ps ys zs i n p q (omega (arith, low, long)) here left (taken ∙ long) (sym now ∙ laid)
    back same

-- what was lifted is the pass at the place
pub lifted_at : (ps : List Known) (i m : ℕ) (p : Known) → i < m → m ≡ length ps
    → p ≡ get_or ps i p → p ≡ pass_at ps i
lifted_at ps i m p low long here =
    here ∙ read_any ps i p no_pass (omega (arith, low, long))

-- which is read there, whatever stands for those that are not
pub read_at : (ps : List Known) (i : ℕ) → i < length ps → pass_at ps i
    ≡ get_or ps i (pass_at ps i)
read_at ps i low = read_any ps i no_pass (pass_at ps i) low

-- there is a pass for each shard
pub low_at_place : (splits : List (List ℕ)) (ps : List Known) (i : ℕ)
    → IsSharding (sharding splits ps) → i ≤ length splits → i < length ps
low_at_place splits ps i is within =
    let count : length ps ≡ length splits + 1 = is.count in omega (arith, count, within)

-- also in a list that is the same
pub there_is : (splits : List (List ℕ)) (ps qs : List Known) (i n : ℕ)
    → IsSharding (sharding splits ps) → qs ≡ ps → n ≡ length qs → i ≤ length splits → i < n
there_is splits ps qs i n is same long within =
    let low = low_at_place splits ps i is within in
    let alike : length qs ≡ length ps = ap (λ (l : List Known). length l) same in
    omega (arith, low, alike, long)

pub own_still : (stores : List StoreId) (ps qs : List Known) → qs ≡ ps → AreOf stores ps
    → AreOf stores qs
own_still stores ps qs same own = subst (AreOf stores) (sym same) own

-- as many as before
pub as_long : (n m : ℕ) (ps qs : List Known) → n ≡ length ps → m ≡ length qs → qs ≡ ps → m ≡ n
as_long n m ps qs long now same =
    now ∙ ap (λ (l : List Known). length l) same ∙ sym long
