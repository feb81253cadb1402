-- The place of a key among entries, one entry after another.
use Rattle.mst_node.proofs.Names.{◌≡◌, ℕ, List, ◌∷◌, Option, Some, sym, ◌∙◌, ap, Ordering, key_cmp, FlatEntry, KeyPlace, Found, Gap, by_order, place_among}

-- what the order of the key to the next entry's key chooses
abbrev pub chosen : List ℕ → Option (List ℕ) → Option (List ℕ) → FlatEntry → List FlatEntry
    → Option (List ℕ) → List ℕ → Ordering → KeyPlace
chosen k low high e es tail at r = by_order r (Gap e.child (record { low = low; high = Some at }))
    (Found e.held) (place_among k (Some at) high es tail)

pub place_step : (k : List ℕ) (low high : Option (List ℕ)) (all es : List FlatEntry) (e : FlatEntry)
    (tail : Option (List ℕ)) (at : List ℕ) (r : Ordering) (p : KeyPlace)
    → all ≡ e ∷ es → at ≡ e.key → r ≡ key_cmp k at → place_among k low high all tail ≡ p
    → chosen k low high e es tail at r ≡ p
place_step k low high all es e tail at r p is at_is order whole =
    ap (chosen k low high e es tail at) order
    ∙ ap (λ (j : List ℕ). chosen k low high e es tail j (key_cmp k j)) at_is
    ∙ ap (λ (xs : List FlatEntry). place_among k low high xs tail) (sym is)
    ∙ whole
