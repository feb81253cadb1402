-- Two sharded maps with one root digest are one, or there is a collision.
use Rattle.mst_sharded_proof.proofs.Names.{◌≡◌, ◌≢◌, ℕ, List, [], ◌∷◌, map, Some, ◌⊎◌, inl, inr, refl, sym, ◌∙◌, ap, AllByRecursion, Format, IsKey, IsValue, Pair, IsMap, map_get, by_same, some_same, proof_text, proof_accepted, least, directory_from, directory, sharded_proof, HasShardedRoot}
use Rattle.std.proofs.lemmas.List.Elements.{All-contains, All-from_recursion}
use Rattle.mst_key.proofs.MapLaws.{map_get-each, Contains-look, map_determined}
use Rattle.mst_sharded_proof.specs.Theorem.{HasBytes, CollideForKey}
use Rattle.mst_sharded_proof.proofs.Shards.{directory_map}
use Rattle.mst_sharded_proof.proofs.Sound.{by_option, some-none, other_collides, directory_root, sharded_sound}
use Rattle.mst_sharded_proof.proofs.Complete.{sharded_complete}

-- ---- two maps are one, or differ at a key

-- each of these pairs of the one map is a pair of the other, or some key has another answer there
all_held : {C : Type 0} (m n ps : List Pair) → AllByRecursion (λ p. map_get m p.0 ≡ Some p.1) ps
    → AllByRecursion (λ p. IsKey p.0 × IsValue p.1) ps
    → ((k : List ℕ) → IsKey k → map_get m k ≢ map_get n k → C)
    → AllByRecursion (λ p. map_get n p.0 ≡ Some p.1) ps ⊎ C
all_held m n [] each fits differ = inl tt
all_held {C} m n (p ∷ ps) each fits differ =
    by_option (map_get n p.0)
    (λ none. inr (differ p.0 fits.0.0
    (λ e. some-none p.1 (map_get n p.0) (sym each.0 ∙ e) none)))
    (λ w is. by_same w p.1
    (λ same. elim (all_held {C = C} m n ps each.1 fits.1 differ) [
      | inl rest ↦ inl (is ∙ ap Some same, rest)
      | inr c ↦ inr c
    ])
    (λ other. inr (differ p.0 fits.0.0
    (λ e. other (sym (some_same p.1 w (sym each.0 ∙ e ∙ is)))))))

-- what the one map holds, the other one does
held_too : (m n : List Pair) (k v : List ℕ) → AllByRecursion (λ p. map_get n p.0 ≡ Some p.1) m
    → map_get m k ≡ Some v → map_get n k ≡ Some v
held_too m n k v all is =
    let P : Pair → Type 0 = λ p. map_get n p.0 ≡ Some p.1 in
    All-contains P m (k, v) (All-from_recursion P m all) (Contains-look m k v is)

alike : (m n : List Pair) → AllByRecursion (λ p. map_get n p.0 ≡ Some p.1) m
    → AllByRecursion (λ p. map_get m p.0 ≡ Some p.1) n → (k : List ℕ)
    → map_get m k ≡ map_get n k
alike m n all back k =
    by_option (map_get m k)
    (λ none. by_option (map_get n k) (λ nothing. none ∙ sym nothing)
    (λ w is. absurd (some-none w (map_get m k) (sym (held_too n m k w back is)) none)))
    (λ v is. is ∙ sym (held_too m n k v all is))

same_or : {C : Type 0} (m n : List Pair) → IsMap m → IsMap n
    → ((k : List ℕ) → IsKey k → map_get m k ≢ map_get n k → C) → (m ≡ n) ⊎ C
same_or {C} m n one other differ =
    elim (all_held {C = C} m n m (map_get-each m one.ascending) one.limits differ) [
      | inr c ↦ inr c
      | inl all ↦ elim (all_held {C = C} n m n (map_get-each n other.ascending) other.limits
          (λ k is e. differ k is (λ same. e (sym same)))) [
            | inr c ↦ inr c
            | inl back ↦ inl (map_determined m n one.ascending other.ascending
                (alike m n all back))
          ]
    ]

-- ---- the splits of a directory

bounds_listed : (format : Format) (m : List Pair) (low : List ℕ) (splits : List (List ℕ))
    → map (λ (p : Pair). p.0) (directory_from format m low splits) ≡ low ∷ splits
bounds_listed format m low [] = refl
bounds_listed format m low (s ∷ splits) =
    ap (λ (ss : List (List ℕ)). low ∷ ss) (bounds_listed format m s splits)

same_rest : (low : List ℕ) (ss ts : List (List ℕ)) → low ∷ ss ≡ low ∷ ts → ss ≡ ts
same_rest low ss ts e = cc

one_list : (format : Format) (m n : List Pair) (splits others : List (List ℕ))
    → directory format m splits ≡ directory format n others → splits ≡ others
one_list format m n splits others same =
    same_rest least splits others (sym (bounds_listed format m least splits)
    ∙ ap (λ (d : List Pair). map (λ (p : Pair). p.0) d) same
    ∙ bounds_listed format n least others)

-- ---- the law

pub one_root : (format : Format) (m n : List Pair) (splits others : List (List ℕ)) (root : List ℕ)
    → HasShardedRoot format m splits root → HasShardedRoot format n others root
    → HasBytes format m splits
    → ((m ≡ n) × (splits ≡ others)) ⊎ CollideForKey format m splits n others
one_root format m n splits others root one other bytes =
    let C : Type 0 = CollideForKey format m splits n others in
    let dir = directory format m splits in
    let away = directory format n others in
    let listed : (k : List ℕ) → IsKey k → map_get dir k ≢ map_get away k → C = λ k is differ. (
      k,
      inl (other_collides format away root k (proof_text format dir k) (map_get dir k)
          (bytes.listed k) (directory_root format n others root other)
          (proof_accepted format dir root k (proof_text format dir k) (bytes.listed k)
          (directory_root format m splits root one) refl) differ),
    ) in
    let answered : (k : List ℕ) → IsKey k → map_get m k ≢ map_get n k → C = λ k is differ.
    let proof = sharded_proof format m splits k in (
      k,
      inr (sharded_sound format n others root k proof (map_get m k) (bytes.whole k) other
          (sharded_complete format m splits root k proof (bytes.whole k) one is refl) differ),
    ) in
    elim (same_or {C = C} dir away (directory_map format m splits one.sharded.rising)
    (directory_map format n others other.sharded.rising) listed) [
      | inr c ↦ inr c
      | inl same ↦
          elim (same_or {C = C} m n one.sharded.map other.sharded.map answered) [
            | inr c ↦ inr c
            | inl maps ↦ inl (maps, one_list format m n splits others same)
          ]
    ]
