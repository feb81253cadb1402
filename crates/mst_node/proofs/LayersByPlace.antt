-- The layers of a list's keys, place by place.
use Rattle.mst_node.proofs.Names.{◌≡◌, ℕ, ◌-◌, ◌<◌, List, length, get_or, take, drop, sym, ◌∙◌, ap, slice_range, length-map, Pair, layers}
use Rattle.std.proofs.lemmas.List.{take-map, drop-map, get_or-map}

-- the layers of a part are the part of the layers
pub layers-part : (layer : List ℕ → ℕ) (m : List Pair) (ls : List ℕ) (a b : ℕ) → ls ≡ layers layer m
    → slice_range ls a b ≡ layers layer (slice_range m a b)
layers-part layer m ls a b e =
    ap (λ (x : List ℕ). slice_range x a b) e
    ∙ ap (take (b - a)) (drop-map (λ (p : Pair). layer p.0) a m)
    ∙ take-map (λ (p : Pair). layer p.0) (b - a) (drop a m)

-- there are as many layers as pairs
pub layers-length : (layer : List ℕ → ℕ) (m : List Pair) (ls : List ℕ) → ls ≡ layers layer m
    → length ls ≡ length m
layers-length layer m ls e = ap length e ∙ length-map m (λ (p : Pair). layer p.0)

-- the layer at a place is that of the pair there
pub layer-at : (layer : List ℕ → ℕ) (m : List Pair) (ls : List ℕ) (i : ℕ) (x : Pair)
    → ls ≡ layers layer m → i < length m → x ≡ get_or m i x → get_or ls i 0 ≡ layer x.0
layer-at layer m ls i x e h is =
    ap (λ (k : List ℕ). get_or k i 0) e ∙ get_or-map (λ (p : Pair). layer p.0) m i x 0 h
    ∙ ap (λ (p : Pair). layer p.0) (sym is)
