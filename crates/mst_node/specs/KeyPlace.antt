-- Where a key lies in a flat node.
use Rattle.std.specs.Prelude.{ℕ, List, [], ◌∷◌, Option, Some}
use Rattle.std.specs.List.{AllByRecursion}
use Rattle.mst_key.specs.Map.{key_cmp}
use Rattle.mst_node.specs.Text.{FlatEntry, FlatNode}
use Rattle.mst_node.specs.Gaps.{IsBetween}
use Rattle.mst_node.specs.Trail.{by_order}
use Rattle.mst_node.specs.declared.key_place.KeyPlace.{KeyPlace}
use Rattle.mst_node.specs.declared.key_place.KeyPlace.TheVariants.{Found, Gap}
use Rattle.mst_node.specs.declared.key_place.Span.{Span}

-- the place of a key among entries with rising keys, between two bounds: at the entry that has the
-- key, or in the gap between the nearest keys on each side, with the child there
abbrev pub place_among : List ℕ → Option (List ℕ) → Option (List ℕ) → List FlatEntry
    → Option (List ℕ) → KeyPlace
place_among k low high [] tail = Gap tail (record { low = low; high = high })
place_among k low high (e ∷ es) tail =
    by_order (key_cmp k e.key) (Gap e.child (record { low = low; high = Some e.key }))
    (Found e.held)
    (place_among k (Some e.key) high es tail)

-- the place of a key in a flat node of a span
abbrev pub place_of : List ℕ → Span → FlatNode → KeyPlace
place_of k span n = place_among k span.low span.high n.entries n.tail

-- all keys of a flat node lie in the span
abbrev pub LiesWithin : Span → FlatNode → Type 0
LiesWithin span n = AllByRecursion (λ e. IsBetween span.low span.high e.key) n.entries
