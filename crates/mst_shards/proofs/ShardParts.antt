-- The part of the map of all shards that lies in one of them is that shard's own, and the map of
-- all shards is a map.
use Rattle.mst_shards.proofs.Names.{◌≡◌, ℕ, ◌&&◌, Bool, true, false, not, List, [], ◌∷◌, ◌++◌, Some, None, refl, sym, ap, ◌∙◌, subst, Less, is_lt, true≢false, append_assoc, append-nil, AllByRecursion, filter-append, Pair, key_cmp, below, IsAscending, IsMap, IsKey, IsValue, alls-append, alls-weaker, alls-passes, filter-nothing, filter-whole, less_chain, less_from_test, by_order, Shard, AreSplits, shards_from, is_in, part_of, union}
use Rattle.mst_key.specs.Map.{AllBelow}
use Rattle.mst_key.proofs.MapLaws.{AllBelow-less, IsMap-nil}
use Rattle.mst_sharded_proof.proofs.Shards.{part_map}
use Rattle.mst_shards.proofs.Unions.{and_right}

-- ---- a part of a list

part-append : (xs ys : List Pair) (s : Shard) → part_of (xs ++ ys) s ≡ part_of xs s ++ part_of ys s
part-append xs ys s = filter-append (λ (p : Pair). is_in s p.0) xs ys

part-again : (m : List Pair) (s : Shard) → part_of (part_of m s) s ≡ part_of m s
part-again m s =
    filter-whole (λ (p : Pair). is_in s p.0) (part_of m s)
    (alls-passes (λ (p : Pair). is_in s p.0) m)

not_in : (a b : Bool) → a ≡ true → (not a && b) ≡ false
not_in true b e = refl
not_in false b e = absurd (true≢false (sym e))

never : (a b : Bool) → b ≡ false → (a && b) ≡ false
never true b e = e
never false b e = refl

-- nothing of what is below a shard is in it
below_gone : (s : Shard) (m : List Pair) → AllBelow m s.low → part_of m s ≡ []
below_gone s m all =
    filter-nothing (λ (p : Pair). is_in s p.0) m
    (alls-weaker (λ (p : Pair). key_cmp p.0 s.low ≡ Less) (λ (p : Pair). is_in s p.0 ≡ false)
    (λ p less. not_in (is_lt (key_cmp p.0 s.low)) (below s.high p.0) (ap is_lt less)) m all)

-- each key is at least a bound
abbrev pub AllFrom : List Pair → List ℕ → Type 0
AllFrom m k = AllByRecursion (λ p. is_lt (key_cmp p.0 k) ≡ false) m

-- nothing of what is at least a shard's upper bound is in it
above_gone : (low t : List ℕ) (m : List Pair) → AllFrom m t
    → part_of m (record { low = low; high = Some t }) ≡ []
above_gone low t m all =
    let s : Shard = record { low = low; high = Some t } in
    filter-nothing (λ (p : Pair). is_in s p.0) m
    (alls-weaker (λ (p : Pair). is_lt (key_cmp p.0 t) ≡ false) (λ (p : Pair). is_in s p.0 ≡ false)
    (λ p from. never (not (is_lt (key_cmp p.0 low))) (is_lt (key_cmp p.0 t)) from) m all)

-- what is in a shard is from its lower bound on, and below its upper one
from_part : (a b : Bool) → (not a && b) ≡ true → a ≡ false
from_part true b e = absurd (true≢false (sym e))
from_part false b e = refl

part_from : (m : List Pair) (s : Shard) → AllFrom (part_of m s) s.low
part_from m s =
    alls-weaker (λ (p : Pair). is_in s p.0 ≡ true)
    (λ (p : Pair). is_lt (key_cmp p.0 s.low) ≡ false)
    (λ p is. from_part (is_lt (key_cmp p.0 s.low)) (below s.high p.0) is) (part_of m s)
    (alls-passes (λ (p : Pair). is_in s p.0) m)

part_below : (m : List Pair) (low t : List ℕ)
    → AllBelow (part_of m (record { low = low; high = Some t })) t
part_below m low t =
    let s : Shard = record { low = low; high = Some t } in
    alls-weaker (λ (p : Pair). is_in s p.0 ≡ true) (λ (p : Pair). key_cmp p.0 t ≡ Less)
    (λ p is. less_from_test p.0 t
    (and_right (not (is_lt (key_cmp p.0 low))) (is_lt (key_cmp p.0 t)) is)) (part_of m s)
    (alls-passes (λ (p : Pair). is_in s p.0) m)

-- ---- the shards from a bound on

lower : (s t k : List ℕ) → key_cmp s t ≡ Less → is_lt (key_cmp k t) ≡ false
    → is_lt (key_cmp k s) ≡ false
lower s t k less from = go (is_lt (key_cmp k s)) refl
  where
    go : (b : Bool) → is_lt (key_cmp k s) ≡ b → b ≡ false
    go true is = sym (ap is_lt (less_chain k s t (less_from_test k s is) less)) ∙ from
    go false is = refl

pub union_from : (low : List ℕ) (splits : List (List ℕ)) (ms : List (List Pair))
    → AreSplits low splits → AllFrom (union (shards_from low splits) ms) low
union_from low [] [] rising = tt
union_from low (t ∷ splits) [] rising = tt
union_from low [] (m ∷ ms) rising =
    let s : Shard = record { low = low; high = None } in
    alls-append (λ (p : Pair). is_lt (key_cmp p.0 low) ≡ false) (part_of m s) [] (part_from m s) tt
union_from low (t ∷ splits) (m ∷ ms) rising =
    let s : Shard = record { low = low; high = Some t } in
    let later = union (shards_from t splits) ms in
    alls-append (λ (p : Pair). is_lt (key_cmp p.0 low) ≡ false) (part_of m s) later (part_from m s)
    (alls-weaker (λ (p : Pair). is_lt (key_cmp p.0 t) ≡ false)
    (λ (p : Pair). is_lt (key_cmp p.0 low) ≡ false) (λ p from. lower low t p.0 rising.0 from)
    later (union_from t splits ms rising.2))

-- of each shard, the part of a map that lies in it is its own
abbrev pub HasParts : List Pair → List Shard → List (List Pair) → Type 0
HasParts whole [] ms = Unit {0}
HasParts whole (s ∷ shards) [] = Unit {0}
HasParts whole (s ∷ shards) (m ∷ ms) =
    (part_of whole s ≡ part_of m s) × HasParts whole shards ms

parts_after : (low : List ℕ) (splits : List (List ℕ)) (ms : List (List Pair)) (front : List Pair)
    → AllBelow front low → AreSplits low splits
    → HasParts (front ++ union (shards_from low splits) ms) (shards_from low splits) ms
parts_after low [] [] front all rising = tt
parts_after low (t ∷ splits) [] front all rising = tt
parts_after low [] (m ∷ ms) front all rising =
    let s : Shard = record { low = low; high = None } in
    let part : List Pair = part_of m s in (
      ap (λ (l : List Pair). part_of (front ++ l) s) (append-nil part)
          ∙ part-append front part s
          ∙ ap (λ (l : List Pair). l ++ part_of part s) (below_gone s front all)
          ∙ part-again m s,
      tt,
    )
parts_after low (t ∷ splits) (m ∷ ms) front all rising =
    let s : Shard = record { low = low; high = Some t } in
    let part : List Pair = part_of m s in
    let later : List Pair = union (shards_from t splits) ms in
    let both : front ++ (part ++ later) ≡ (front ++ part) ++ later =
    sym (append_assoc front part later) in
    let more : AllBelow (front ++ part) t =
    alls-append (λ (p : Pair). key_cmp p.0 t ≡ Less) front part
    (AllBelow-less front low t all rising.0) (part_below m low t) in (
      part-append front (part ++ later) s
          ∙ ap (λ (l : List Pair). l ++ part_of (part ++ later) s) (below_gone s front all)
          ∙ part-append part later s
          ∙ ap (λ (l : List Pair). part_of part s ++ l)
          (above_gone low t later (union_from t splits ms rising.2))
          ∙ append-nil (part_of part s) ∙ part-again m s,
      subst (λ (l : List Pair). HasParts l (shards_from t splits) ms) (sym both)
          (parts_after t splits ms (front ++ part) more rising.2),
    )

pub parts : (low : List ℕ) (splits : List (List ℕ)) (ms : List (List Pair)) → AreSplits low splits
    → HasParts (union (shards_from low splits) ms) (shards_from low splits) ms
parts low splits ms rising = parts_after low splits ms [] tt rising

-- ---- the map of all shards is a map

less_to_from : (a t b : List ℕ) → key_cmp a t ≡ Less → is_lt (key_cmp b t) ≡ false
    → key_cmp a b ≡ Less
less_to_from a t b less from =
    by_order {G = key_cmp a b ≡ Less} a b (λ is. is)
    (λ same. absurd (true≢false
    (sym (ap is_lt less) ∙ ap (λ (k : List ℕ). is_lt (key_cmp k t)) same ∙ from)))
    (λ more. absurd (true≢false (sym (ap is_lt (less_chain b a t more less)) ∙ from)))

rises_joined : (front back : List Pair) (t : List ℕ) → IsAscending front → IsAscending back
    → AllBelow front t → AllFrom back t → IsAscending (front ++ back)
rises_joined [] back t low high below from = high
rises_joined (p ∷ front) back t low high below from = (
  alls-append (λ (q : Pair). key_cmp p.0 q.0 ≡ Less) front back low.0
      (alls-weaker (λ (q : Pair). is_lt (key_cmp q.0 t) ≡ false)
      (λ (q : Pair). key_cmp p.0 q.0 ≡ Less)
      (λ q at. less_to_from p.0 t q.0 below.0 at) back from),
  rises_joined front back t low.1 high below.1 from,
)

pub union_map : (low : List ℕ) (splits : List (List ℕ)) (ms : List (List Pair))
    → AreSplits low splits → AllByRecursion IsMap ms → IsMap (union (shards_from low splits) ms)
union_map low [] [] rising maps = IsMap-nil
union_map low (t ∷ splits) [] rising maps = IsMap-nil
union_map low [] (m ∷ ms) rising maps =
    let s : Shard = record { low = low; high = None } in
    subst IsMap (sym (append-nil (part_of m s))) (part_map m s maps.0)
union_map low (t ∷ splits) (m ∷ ms) rising maps =
    let s : Shard = record { low = low; high = Some t } in
    let here = part_map m s maps.0 in
    let later = union_map t splits ms rising.2 maps.1 in
    let rest : List Pair = union (shards_from t splits) ms in
    record {
      ascending = rises_joined (part_of m s) rest t here.ascending later.ascending
          (part_below m low t) (union_from t splits ms rising.2);
      limits = alls-append (λ (p : Pair). IsKey p.0 × IsValue p.1) (part_of m s) rest here.limits
          later.limits;
    }
