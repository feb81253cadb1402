-- What lies after entries, and the body that is read through it.
use Rattle.mst_node.proofs.Names.{◌≡◌, ℕ, zero, suc, ◌≤◌, ◌-◌, List, [], ◌∷◌, length, take, drop, get_or, Option, Some, None, true, false, cond, ◌==◌, refl, sym, ◌∙◌, ap, arith, option_map, is_some, w16, from_be_bytes, nat_tests, take-length, Format, One, FlatEntry, ◌>>=◌, child_at, entry_at, whole, node_of, node_at}
use Rattle.mst_node.specs.Reading.{entries_at, behind_at, body_at}
use Rattle.mst_node.proofs.ReadIsSpelled.{some_same}

pub behind_more : (format : Format) (n k : ℕ) (bytes : List ℕ) (p : FlatEntry × List ℕ) → n ≡ suc k
    → entry_at format bytes ≡ Some p → behind_at format k p.1 ≡ behind_at format n bytes
unfolding behind_at
behind_more format zero k bytes p e h = absurd (omega (arith, e))
behind_more format (suc n) k bytes p e h =
    let same : k ≡ n = omega (arith, e) in
    ap (λ (j : ℕ). behind_at format j p.1) same
    ∙ sym (ap (λ (r : Option (FlatEntry × List ℕ)). r >>= λ x. behind_at format n x.1) h)

-- the bytes after entries are those that reading the entries leaves
pub behind-entries : (format : Format) (n : ℕ) (bytes : List ℕ) → behind_at format n bytes
    ≡ option_map (λ (p : List FlatEntry × List ℕ). p.1) (entries_at format n bytes)
unfolding behind_at entries_at
behind-entries format zero bytes = refl
behind-entries format (suc n) bytes = go (behind-entries format n) (entry_at format bytes)
  where
    on : (e : FlatEntry) (r : Option (List FlatEntry × List ℕ))
        → option_map (λ (p : List FlatEntry × List ℕ). p.1) r ≡ option_map
        (λ (p : List FlatEntry × List ℕ). p.1) (r >>= λ es. Some (e ∷ es.0, es.1))
    on e None = refl
    on e (Some es) = refl

    go : ((rest : List ℕ) → behind_at format n rest ≡ option_map
        (λ (p : List FlatEntry × List ℕ). p.1) (entries_at format n rest))
        → (r : Option (FlatEntry × List ℕ)) → (r >>= λ e. behind_at format n e.1) ≡ option_map
        (λ (p : List FlatEntry × List ℕ). p.1)
        (r >>= λ e. entries_at format n e.1 >>= λ es. Some (e.0 ∷ es.0, es.1))
    go next None = refl
    go next (Some e) = next e.1 ∙ on e.0 (entries_at format n e.1)

-- ---- the body of a text, by what lies after its entries

-- no entries, no body
pub body-none : (format : Format) (n : ℕ) (bytes : List ℕ) → behind_at format n bytes ≡ None
    → is_some (body_at format n bytes) ≡ false
unfolding body_at
body-none format n bytes h =
    go (entries_at format n bytes) (sym (behind-entries format n bytes) ∙ h)
  where
    go : (r : Option (List FlatEntry × List ℕ)) → option_map (λ (p : List FlatEntry × List ℕ). p.1)
        r ≡ None → is_some {T = List FlatEntry × Option (List ℕ)}
        (r >>= λ es. child_at es.1 >>= λ tail. whole ((es.0, tail.0), tail.1)) ≡ false
    go None e = refl
    go (Some es) e = absurd (cc)

-- after the entries stands the last child, if there is a body
pub body-child : (format : Format) (n : ℕ) (bytes rest : List ℕ) → behind_at format n bytes ≡ Some
    rest → is_some (body_at format n bytes) ≡ is_some (child_at rest >>= whole)
unfolding body_at
body-child format n bytes rest h =
    go (entries_at format n bytes) (sym (behind-entries format n bytes) ∙ h)
  where
    on : (es : List FlatEntry) (r : Option (Option (List ℕ) × List ℕ))
        → is_some {T = List FlatEntry × Option (List ℕ)}
        (r >>= λ tail. whole ((es, tail.0), tail.1)) ≡ is_some (r >>= whole)
    on es None = refl
    on es (Some (tail, [])) = refl
    on es (Some (tail, b ∷ bs)) = refl

    go : (r : Option (List FlatEntry × List ℕ)) → option_map (λ (p : List FlatEntry × List ℕ). p.1)
        r ≡ Some rest → is_some {T = List FlatEntry × Option (List ℕ)}
        (r >>= λ es. child_at es.1 >>= λ tail. whole ((es.0, tail.0), tail.1)) ≡ is_some
        (child_at rest >>= whole)
    go None e = absurd (cc)
    go (Some es) e = on es.0 (child_at es.1) ∙ ap (λ (xs : List ℕ). is_some (child_at xs >>= whole))
        (some_same es.1 rest e)

pub whole-empty : (x : Option (List ℕ)) (left : List ℕ) → is_some (whole (x, left))
    ≡ (length left == 0)
whole-empty x [] = refl
whole-empty x (b ∷ left) = grind (arith, nat_tests)

-- ---- the heading of a text
