-- Pairs in a room, one after the other.
use Rattle.mst_c.proofs.Names.{◌≡◌, ℕ, ◌+◌, ◌<◌, ◌≤◌, List, [], ◌∷◌, ◌++◌, length, take, drop, get_or, sym, refl, ap, ◌∙◌, append_assoc, append-nil, arith, take_at, drop_at, take-append-drop, length-append, length-take-le, w16, to_be_bytes, Option, Pair, pair_bytes, pairs_bytes, written}
use Rattle.std.proofs.Common.{◌-◌}
use Rattle.std.proofs.lemmas.List.{take_more, drop-drop, length-take, length-drop}
use Rattle.std.proofs.lemmas.List.Concat.{flat_map-append}
use Rattle.std.specs.Prelude.{filter, min, ◌&&◌}
use Rattle.mst_key.specs.Map.{from_on, below, map_range}

-- two pieces written one after the other are one piece
pub written_more : (at : ℕ) (a b room : List ℕ) → at + length a ≤ length room
    → written (at + length a) b (written at a room) ≡ written at (a ++ b) room
written_more at a b room fits =
    let n : ℕ = at + length a in let front : List ℕ = take at room ++ a in
    let low : at ≤ length room = omega (arith, fits) in
    let taken : length (take at room) ≡ at = length-take-le at room low in
    let both : length (take at room ++ a) ≡ length (take at room) + length a =
    length-append (take at room) a in
    let size : length front ≡ n = omega (arith, taken, both) in
    let joined : length (a ++ b) ≡ length a + length b = length-append a b in
    let end : n + length b ≡ at + length (a ++ b) = omega (arith, joined) in
    let kept : take n (front ++ drop n room) ≡ front = take_at front (drop n room) n size in
    let behind : drop (n + length b) (front ++ drop n room) ≡ drop (at + length (a ++ b)) room =
    sym (drop-drop (length b) n (front ++ drop n room)) ∙ ap (drop (length b))
    (drop_at front (drop n room) n size) ∙ drop-drop (length b) n room
    ∙ ap (λ (m : ℕ). drop m room) end in
    ap (λ (l : List ℕ). l ++ b ++ drop (n + length b) (front ++ drop n room)) kept
    ∙ ap (λ (l : List ℕ). front ++ b ++ l) behind
    ∙ ap (λ (l : List ℕ). l ++ drop (at + length (a ++ b)) room) (append_assoc (take at room) a b)

-- what is written changes no length
pub written_length : (at : ℕ) (a room : List ℕ) → at + length a ≤ length room
    → length (written at a room) ≡ length room
written_length at a room fits =
    let low : at ≤ length room = omega (arith, fits) in
    let taken : length (take at room) ≡ at = length-take-le at room low in
    let both : length (take at room ++ a) ≡ length (take at room) + length a =
    length-append (take at room) a in
    let all : length (written at a room) ≡ length (take at room ++ a) + length
    (drop (at + length a) room) = length-append (take at room ++ a) (drop (at + length a) room)
    in
    let rest : length (drop (at + length a) room) ≡ length room - (at + length a) =
    length-drop (at + length a) room in
    omega (arith, taken, both, all, rest, fits)

-- one pair more
pub one_more : (ps : List Pair) (i : ℕ) (d : Pair) → i < length ps → pairs_bytes (take (i + 1) ps)
    ≡ pairs_bytes (take i ps) ++ pair_bytes (get_or ps i d)
one_more ps i d l = ap pairs_bytes (take_more ps i d l) ∙ flat_map-append pair_bytes (take i ps)
    (get_or ps i d ∷ []) ∙ ap (λ (x : List ℕ). pairs_bytes (take i ps) ++ x)
    (append-nil (pair_bytes (get_or ps i d)))

-- the first pairs are no longer than all
pub first_shorter : (ps : List Pair) (i : ℕ) → length (pairs_bytes (take i ps)) ≤ length
    (pairs_bytes ps)
first_shorter ps i =
    let parted : pairs_bytes (take i ps ++ drop i ps) ≡ pairs_bytes (take i ps) ++ pairs_bytes
    (drop i ps) = flat_map-append pair_bytes (take i ps) (drop i ps) in
    let whole : length (pairs_bytes ps) ≡ length
    (pairs_bytes (take i ps) ++ pairs_bytes (drop i ps)) =
    ap (λ (l : List Pair). length (pairs_bytes l)) (sym (take-append-drop i ps))
    ∙ ap length parted in
    let both : length (pairs_bytes (take i ps) ++ pairs_bytes (drop i ps)) ≡ length
    (pairs_bytes (take i ps)) + length (pairs_bytes (drop i ps)) =
    length-append (pairs_bytes (take i ps)) (pairs_bytes (drop i ps)) in
    omega (arith, whole, both)

-- how long a pair is
pub pair_length : (p : Pair) → length (pair_bytes p) ≡ 4 + length p.0 + length p.1
pair_length p =
    let ks : List ℕ = to_be_bytes w16 (length p.0) in let vs : List ℕ =
    to_be_bytes w16 (length p.1) in
    let two : length ks ≡ 2 = refl in
    let more : length vs ≡ 2 = refl in
    let one : length (ks ++ vs) ≡ length ks + length vs = length-append ks vs in
    let key : length (ks ++ vs ++ p.0) ≡ length (ks ++ vs) + length p.0 =
    length-append (ks ++ vs) p.0 in
    let value : length (ks ++ vs ++ p.0 ++ p.1) ≡ length (ks ++ vs ++ p.0) + length p.1 =
    length-append (ks ++ vs ++ p.0) p.1 in
    omega (arith, two, more, one, key, value)

-- a range has at most as many pairs as its limit
pub range_few : (m : List Pair) (from to : Option (List ℕ)) (limit : ℕ)
    → length (map_range m from to limit) ≤ limit
range_few m from to limit =
    let is : length (map_range m from to limit) ≡ min limit
    (length (filter (λ p. from_on from p.0 && below to p.0) m)) =
    length-take limit (filter (λ p. from_on from p.0 && below to p.0) m) in
    omega (arith, is)
