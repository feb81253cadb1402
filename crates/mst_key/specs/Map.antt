-- An ordered map: the list of its pairs, whose keys rise strictly. `order_laws` and `map_laws`
-- state what follows from these definitions.
use Rattle.std.specs.Prelude.{◌≡◌, ℕ, Bool, true, not, ◌&&◌, if◌then◌else◌, List, [], ◌∷◌, ◌++◌, Option, Some, None, filter, find, take}
use Rattle.std.specs.Option.{option_map_or}
use Rattle.std.specs.List.{AllByRecursion}
use Rattle.std.specs.declared.cmp.Ordering.{Ordering}
use Rattle.std.specs.declared.cmp.Ordering.TheVariants.{Less}
use Rattle.std.specs.Ordering.{nat_cmp, is_lt, is_eq, is_gt}
use Rattle.std.specs.Cmp.Lexicographic.{slice_cmp}
use Rattle.mst_key.specs.Bytes.{IsKey, IsValue}

-- a key and its value
abbrev pub Pair : Type 0
Pair = List ℕ × List ℕ

-- the order of keys: bytewise, a proper prefix of a key before the key
abbrev pub key_cmp : List ℕ → List ℕ → Ordering
key_cmp = slice_cmp nat_cmp

-- each key of the list is less than the key
abbrev pub AllBelow : List Pair → List ℕ → Type 0
AllBelow m k = AllByRecursion (λ p. key_cmp p.0 k ≡ Less) m

-- each key of the list is greater than the key
abbrev pub AllAbove : List Pair → List ℕ → Type 0
AllAbove m k = AllByRecursion (λ p. key_cmp k p.0 ≡ Less) m

-- the keys rise strictly: each is less than all that follow it
abbrev pub IsAscending : List Pair → Type 0
IsAscending [] = Unit {0}
IsAscending (p ∷ m) = AllAbove m p.0 × IsAscending m

-- the list of pairs is a map: its keys rise strictly, and keys and values are within their limits
pub record IsMap (m : List Pair) : Type 0 where
  pub ascending : IsAscending m
  pub limits : AllByRecursion (λ p. IsKey p.0 × IsValue p.1) m

-- the value of the key, or `None` if no pair has the key
abbrev pub map_get : List Pair → List ℕ → Option (List ℕ)
map_get [] k = None
map_get (p ∷ m) k = if is_eq (key_cmp p.0 k) then Some p.1 else map_get m k

-- the map in which the key has the value: the pairs below the key, the new pair, the pairs above
abbrev pub put : List Pair → List ℕ → List ℕ → List Pair
put m k v = filter (λ p. is_lt (key_cmp p.0 k)) m ++ (k, v) ∷ filter (λ p. is_gt (key_cmp p.0 k)) m

-- the map without the key
abbrev pub remove : List Pair → List ℕ → List Pair
remove m k = filter (λ p. not (is_eq (key_cmp p.0 k))) m

-- whether the key is above the bound; at least the bound; below it. `None` as a bound does not bind
abbrev pub above : Option (List ℕ) → List ℕ → Bool
above bound k = option_map_or (λ b. is_gt (key_cmp k b)) bound true

abbrev pub from_on : Option (List ℕ) → List ℕ → Bool
from_on bound k = option_map_or (λ b. not (is_lt (key_cmp k b))) bound true

abbrev pub below : Option (List ℕ) → List ℕ → Bool
below bound k = option_map_or (λ b. is_lt (key_cmp k b)) bound true

-- the pair of the least key above the bound
abbrev pub map_next : List Pair → Option (List ℕ) → Option Pair
map_next m bound = find (λ p. above bound p.0) m

-- the first pairs, as many as the limit, of the keys at least `from` and below `to`
abbrev pub map_range : List Pair → Option (List ℕ) → Option (List ℕ) → ℕ → List Pair
map_range m from to limit = take limit (filter (λ p. from_on from p.0 && below to p.0) m)
