-- Passes of the stores of a map stay those of its stores.
use Rattle.mst_shards.proofs.Names.{◌≡◌, ℕ, zero, suc, ◌+◌, ◌<◌, ◌≤◌, List, [], ◌∷◌, ◌++◌, Some, None, slice_get, length, map, set, get_or, refl, sym, ap, ◌∙◌, arith, length-append, swap_remove, SwappedAt, length-map, get_or-map, StoreId, Known, new_pass, AreOf, AllStep, PinsNow}
use Rattle.std.proofs.lemmas.List.{map-set, set-get_or}
use Rattle.mst_shards.proofs.Moved.{put_back}
use Rattle.mst_shards.proofs.HandingOut.{next_at}

abbrev pub store : Known → StoreId
store p = p.store

pub as_many : (stores : List StoreId) (ps : List Known) → AreOf stores ps
    → length stores ≡ length ps
as_many stores ps own = sym (ap (λ (l : List StoreId). length l) own) ∙ length-map ps store

pub own_at : (stores : List StoreId) (ps : List Known) (i : ℕ) (p : Known) (s : StoreId)
    → AreOf stores ps → i < length ps → p ≡ get_or ps i p → s ≡ get_or stores i s → p.store ≡ s
own_at stores ps i p s own low is there =
    ap store is ∙ sym (get_or-map store ps i p s low)
    ∙ ap (λ (l : List StoreId). get_or l i s) own ∙ sym there

pub own_set : (stores : List StoreId) (ps : List Known) (i : ℕ) (p q : Known) → AreOf stores ps
    → i < length ps → p ≡ get_or ps i p → q.store ≡ p.store → AreOf stores (set ps i q)
own_set stores ps i p q own low is same =
    map-set store ps i q
    ∙ ap (λ (s : StoreId). set (map store ps) i s)
    (same ∙ ap store is ∙ sym (get_or-map store ps i p p.store low))
    ∙ set-get_or (map store ps) i p.store ∙ own

-- a pinned pass that was put back as it was
pub stayed : (ps ys zs : List Known) (i n : ℕ) (p q : Known) → i < length ps
    → p ≡ get_or ps i p → ys ≡ swap_remove ps i p → n + 1 ≡ length ps → length zs ≡ n + 1
    → SwappedAt (ys ++ q ∷ []) zs i n → q ≡ p → zs ≡ ps
stayed ps ys zs i n p q low here left count again back same =
    put_back ps ys zs i n p q (sym count) again (omega (arith, low, count)) left back
    ∙ ap (λ (x : Known). set ps i x) (same ∙ here) ∙ set-get_or ps i p

pub pins_own : (stores : List StoreId) (ps qs : List Known) → AllStep PinsNow ps qs
    → AreOf stores ps → AreOf stores qs
pins_own stores ps qs pins own = stays ps qs pins ∙ own
  where
    stays : (ps qs : List Known) → AllStep PinsNow ps qs → map store qs ≡ map store ps
    stays [] [] pins = refl
    stays [] (q ∷ qs) pins = absurd pins
    stays (p ∷ ps) [] pins = absurd pins
    stays (p ∷ ps) (q ∷ qs) pins =
        ap (λ (s : StoreId). s ∷ map store qs) pins.0.0.same.0
        ∙ ap (λ (l : List StoreId). p.store ∷ l) (stays ps qs pins.1)

-- there is a store for the one that comes next
pub next_low : (stores : List StoreId) (all done left rest : List Known) (p : Known) (i : ℕ)
    → AreOf stores all → all ≡ done ++ left → left ≡ p ∷ rest → i ≡ length done
    → i < length stores
next_low stores all done left rest p i own is next at =
    let long = length-append done (p ∷ rest) in
    let same : length all ≡ length (done ++ p ∷ rest) = ap (λ (l : List Known). length l)
    (is ∙ ap (λ (l : List Known). done ++ l) next) in
    let many = as_many stores all own in
    omega (arith, long, same, many, at)

-- and it is of that store
pub next_own : (stores : List StoreId) (all done left rest : List Known) (p : Known) (i : ℕ)
    (s : StoreId) → AreOf stores all → all ≡ done ++ left → left ≡ p ∷ rest → i ≡ length done
    → s ≡ get_or stores i s → p.store ≡ s
next_own stores all done left rest p i s own is next at there =
    let many = as_many stores all own in
    let low = next_low stores all done left rest p i own is next at in
    own_at stores all i p s own (omega (arith, low, many))
    (sym (next_at all done rest p i p (is ∙ ap (λ (l : List Known). done ++ l) next) (sym at)))
    there

pub new_own : (stores : List StoreId) (n : ℕ) → AreOf stores (map (λ s. new_pass s n) stores)
new_own [] n = refl
new_own (s ∷ stores) n = ap (λ (l : List StoreId). s ∷ l) (new_own stores n)

pub there_at : (ps : List Known) (i : ℕ) (p : Known) → i < length ps → p ≡ get_or ps i p
    → slice_get ps i ≡ Some p
there_at [] i p low is = absurd (omega (arith, low))
there_at (x ∷ ps) zero p low is = ap Some (sym is)
there_at (x ∷ ps) (suc i) p low is = there_at ps i p (omega (arith, low)) is

pub none_at : (ps : List Known) (i : ℕ) → length ps ≤ i → slice_get ps i ≡ None
none_at [] i past = refl
none_at (x ∷ ps) zero past = absurd (omega (arith, past))
none_at (x ∷ ps) (suc i) past = none_at ps i (omega (arith, past))
