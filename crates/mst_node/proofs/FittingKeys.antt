-- Keys that fit a node, tested from left to right.
use Rattle.mst_node.proofs.Names.{◌≡◌, ℕ, zero, suc, ◌<◌, List, [], ◌∷◌, Option, Some, None, sym, ◌∙◌, ap, arith, ◌↔◌, IfSome, AllByRecursion, Less, nat_list_cmp_total, Format, layer_in, Pair, key_cmp, IsAscending, FlatEntry, KeysFit, flat_pairs, entry_at, node_of}
use Rattle.mst_node.specs.Reading.{entries_at}
use Rattle.mst_node.proofs.ReadIsSpelled.{bind_ok, some_same}

-- the keys of the entries have the layer, and rise from the low one on
abbrev pub FitsFrom : Format → Option (List ℕ) → ℕ → List FlatEntry → Type 0
FitsFrom format low l [] = Unit {0}
FitsFrom format low l (e ∷ es) = (layer_in format e.key ≡ l)
    × IfSome low (λ k. key_cmp k e.key ≡ Less) × FitsFrom format (Some e.key) l es

abbrev AllAbove : List ℕ → List FlatEntry → Type 0
AllAbove k es = AllByRecursion (λ (q : Pair). key_cmp k q.0 ≡ Less) (flat_pairs es)

fits-from : (format : Format) (low : Option (List ℕ)) (l : ℕ) (es : List FlatEntry)
    → IfSome low (λ k. AllAbove k es) → AllByRecursion (λ e. layer_in format e.key ≡ l) es
    → IsAscending (flat_pairs es) → FitsFrom format low l es
fits-from format low l [] above at rise = tt
fits-from format None l (e ∷ es) above at rise =
    (at.0, tt, fits-from format (Some e.key) l es rise.0 at.1 rise.1)
fits-from format (Some k) l (e ∷ es) above at rise =
    (at.0, above.0, fits-from format (Some e.key) l es rise.0 at.1 rise.1)

above-trans : (k j : List ℕ) (es : List FlatEntry) → key_cmp k j ≡ Less → AllAbove j es
    → AllAbove k es
above-trans k j [] less above = tt
above-trans k j (e ∷ es) less above =
    ((nat_list_cmp_total).trans k j e.key less above.0, above-trans k j es less above.1)

fits-back : (format : Format) (low : Option (List ℕ)) (l : ℕ) (es : List FlatEntry)
    → FitsFrom format low l es → IfSome low (λ k. AllAbove k es) × AllByRecursion
    (λ e. layer_in format e.key ≡ l) es × IsAscending (flat_pairs es)
fits-back format None l [] fits = (tt, tt, tt)
fits-back format (Some k) l [] fits = (tt, tt, tt)
fits-back format None l (e ∷ es) fits = let rest = fits-back format (Some e.key) l es fits.2 in
    (tt, (fits.0, rest.1), (rest.0, rest.2))
fits-back format (Some k) l (e ∷ es) fits = let rest = fits-back format (Some e.key) l es fits.2 in
    ((fits.1, above-trans k e.key es fits.1 rest.0), (fits.0, rest.1), (rest.0, rest.2))

-- the keys fit if the test passes from the first on
pub fits-all : (format : Format) (l : ℕ) (b : List FlatEntry × Option (List ℕ))
    → KeysFit (node_of format l b) ↔ FitsFrom format None l b.0
fits-all format l b = (
  λ fit. fits-from format None l b.0 tt fit.at_layer fit.rising,
  λ fits. let back = fits-back format None l b.0 fits in
      record { at_layer = back.1; rising = back.2 },
)

-- the first entry, and the entries after it
pub entries-step : (format : Format) (n k : ℕ) (bytes : List ℕ) (p : List FlatEntry × List ℕ)
    (q : FlatEntry × List ℕ) → entries_at format n bytes ≡ Some p → n ≡ suc k
    → entry_at format bytes ≡ Some q → (es : List FlatEntry) × (p.0 ≡ q.0 ∷ es)
    × (entries_at format k q.1 ≡ Some (es, p.1))
unfolding entries_at
entries-step format zero k bytes p q h e r = absurd (omega (arith, e))
entries-step format (suc n) k bytes p q h e r =
    let first = bind_ok (entry_at format bytes) _ p h in
    let rest = bind_ok (entries_at format n first.0.1) _ p first.2 in
    let one : first.0 ≡ q = some_same first.0 q (sym first.1 ∙ r) in
    let all : (first.0.0 ∷ rest.0.0, rest.0.1) ≡ p = some_same _ p rest.2 in
    let same : n ≡ k = omega (arith, e) in
    let read : entries_at format k q.1 ≡ Some rest.0 =
    ap (λ (j : ℕ). entries_at format j q.1) (sym same)
    ∙ ap (λ (x : FlatEntry × List ℕ). entries_at format n x.1) (sym one) ∙ rest.1 in (
      rest.0.0,
      ap (λ (x : List FlatEntry × List ℕ). x.0) (sym all)
          ∙ ap (λ (x : FlatEntry × List ℕ). x.0 ∷ rest.0.0) one,
      read
          ∙ ap (λ (x : List FlatEntry × List ℕ). Some (rest.0.0, x.1)) all,
    )

pub entries-none : (format : Format) (n : ℕ) (bytes : List ℕ) (p : List FlatEntry × List ℕ)
    → entries_at format n bytes ≡ Some p → n ≡ 0 → p.0 ≡ []
unfolding entries_at
entries-none format zero bytes p h e = ap (λ (x : List FlatEntry × List ℕ). x.0)
    (sym (some_same ([], bytes) p h))
entries-none format (suc n) bytes p h e = absurd (omega (arith, e))

-- there is a first entry
pub entries-first : (format : Format) (n : ℕ) (bytes : List ℕ) (p : List FlatEntry × List ℕ)
    → entries_at format n bytes ≡ Some p → 0 < n → entry_at format bytes ≡ None → ⊥
unfolding entries_at
entries-first format zero bytes p h l none = absurd (omega arith)
entries-first format (suc n) bytes p h l none = let first = bind_ok (entry_at format bytes) _ p h in
    absurd (cc (first.1, none))
