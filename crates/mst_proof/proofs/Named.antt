-- The texts and values of which two are a collision behind a false answer.
use Rattle.mst_proof.proofs.Names.{◌≡◌, ℕ, Bool, true, false, cond, List, [], ◌∷◌, ◌++◌, map, Some, ◌⊎◌, inl, inr, refl, sym, ◌∙◌, ap, subst, arith, Contains, is_eq, Ordering, Less, Equal, Greater, map-append, Contains-append_left, Contains-append_right, Format, One, Two, Pair, key_cmp, map_get, Tree, empty, node, Entries, last, entry, tree, pairs, subtrees, entries_subtrees, text, by_order, nodes_met, met_in_gap, trail, some_same, pairs_tree, Claim, Given, ProofFault, Result, Ok, Err, frame_at, or_nothing, claim_in, or_empty, texts_of, TextsCollide, ValuesCollide, CollidesWith}
use Rattle.std.proofs.lemmas.List.Elements.{Contains-append_cases, Contains-push_cases}
use Rattle.mst_proof.specs.Beside.{claimed, values_named, texts_named, CollidesAmong}
use Rattle.mst_proof.proofs.Framed.{nothing_claimed}
use Rattle.mst_proof.proofs.Sound.{has_first, has_later}

-- ---- elements of lists

-- an element is the first, or one of the others
has_cases : {X : Type 0} (x y : X) (xs : List X) → Contains (x ∷ xs) y → (x ≡ y) ⊎ Contains xs y
has_cases x y xs has = elim (Contains-append_cases (x ∷ []) xs y has) [
  | inl first ↦ elim (Contains-push_cases [] x y first) [
    | inl none ↦ absurd (omega (arith, none.1))
    | inr same ↦ inl same
  ]
  | inr later ↦ inr later
]

-- a text among these or the empty text is one of these, or empty
empty_or : (ts : List (List ℕ)) (u : List ℕ) → Contains (or_empty ts) u → Contains ts u ⊎ (u ≡ [])
empty_or [] u has = elim (has_cases [] u [] has) [
  | inl same ↦ inr (sym same)
  | inr none ↦ inl none
]
empty_or (t ∷ ts) u has = inl has

-- ---- the texts on the way to a key

-- what the order of the key to an entry's key leads to is below
by_way : (k w : List ℕ) (child : Tree) (rest : Entries) (o : Ordering)
    → (Contains (map text (nodes_met k child)) w → Contains (map text (subtrees child)) w)
    → (Contains (map text (met_in_gap k rest)) w → Contains (map text (entries_subtrees rest)) w)
    → Contains (map text (by_order o (nodes_met k child) [] (met_in_gap k rest))) w
    → Contains (map text (subtrees child) ++ map text (entries_subtrees rest)) w
by_way k w child rest Less left right has =
    Contains-append_left (map text (subtrees child)) (map text (entries_subtrees rest)) w (left has)
by_way k w child rest Equal left right has = absurd (omega (arith, has.1))
by_way k w child rest Greater left right has =
    Contains-append_right (map text (subtrees child)) (map text (entries_subtrees rest)) w
    (right has)

mutual
  met_texts : (k w : List ℕ) (t : Tree) → Contains (map text (nodes_met k t)) w
      → Contains (map text (subtrees t)) w
  met_texts k w empty has = has
  met_texts k w (node f l es) has =
      let top = text (node f l es) in
      elim (has_cases top w (map text (met_in_gap k es)) has) [
        | inl same ↦ subst (Contains (top ∷ map text (entries_subtrees es))) same
            (has_first top (map text (entries_subtrees es)))
        | inr later ↦ has_later top (map text (entries_subtrees es)) w (gap_texts k w es later)
      ]

  gap_texts : (k w : List ℕ) (es : Entries) → Contains (map text (met_in_gap k es)) w
      → Contains (map text (entries_subtrees es)) w
  gap_texts k w (last child) has = met_texts k w child has
  gap_texts k w (entry child key value rest) has =
      subst (λ (us : List (List ℕ)). Contains us w)
      (sym (map-append text (subtrees child) (entries_subtrees rest)))
      (by_way k w child rest (key_cmp k key) (met_texts k w child) (gap_texts k w rest) has)

-- ---- what is named

-- the texts that are named, of a proof of these texts, with these values
abbrev named : List (List ℕ) → List (List ℕ) → Tree → List (List ℕ)
named vs ts t = ts ++ (map text (subtrees t) ++ [] ∷ vs)

named_text : (vs ts : List (List ℕ)) (t : Tree) (u : List ℕ) → Contains ts u
    → Contains (named vs ts t) u
named_text vs ts t u has = Contains-append_left ts (map text (subtrees t) ++ [] ∷ vs) u has

named_node : (vs ts : List (List ℕ)) (t : Tree) (w : List ℕ) → Contains (map text (subtrees t)) w
    → Contains (named vs ts t) w
named_node vs ts t w has = Contains-append_right ts (map text (subtrees t) ++ [] ∷ vs) w
    (Contains-append_left (map text (subtrees t)) ([] ∷ vs) w has)

named_empty : (vs ts : List (List ℕ)) (t : Tree) (u : List ℕ) → u ≡ [] → Contains (named vs ts t) u
named_empty vs ts t u is =
    subst (Contains (named vs ts t)) (sym is)
    (Contains-append_right ts (map text (subtrees t) ++ [] ∷ vs) []
    (Contains-append_right (map text (subtrees t)) ([] ∷ vs) [] (has_first [] vs)))

named_value : (vs ts : List (List ℕ)) (t : Tree) (v : List ℕ) → Contains vs v
    → Contains (named vs ts t) v
named_value vs ts t v has = Contains-append_right ts (map text (subtrees t) ++ [] ∷ vs) v
    (Contains-append_right (map text (subtrees t)) ([] ∷ vs) v (has_later [] vs v has))

-- a value of the map
value_in : (m : List Pair) (k v : List ℕ) → map_get m k ≡ Some v → Contains (map (λ p. p.1) m) v
value_in [] k v e = absurd (cc)
value_in (p ∷ m) k v e = go (is_eq (key_cmp p.0 k)) e (value_in m k v)
  where
    go : (t : Bool) → cond t (Some p.1) (map_get m k) ≡ Some v
        → (map_get m k ≡ Some v → Contains (map (λ p. p.1) m) v) → Contains (p.1 ∷ map (λ p. p.1) m)
        v
    go true e later = subst (Contains (p.1 ∷ map (λ p. p.1) m)) (some_same p.1 v e)
        (has_first p.1 (map (λ p. p.1) m))
    go false e later = has_later p.1 (map (λ p. p.1) m) v (later e)

-- in format 1 no value is claimed
pub no_value : (proof v : List ℕ) → claim_in One proof ≡ Given v → ⊥
no_value proof v claims = go (frame_at One proof) refl claims
  where
    go : (r : Result (List (List ℕ) × Claim) ProofFault) → frame_at One proof ≡ r
        → or_nothing r ≡ Given v → ⊥
    go (Ok f) is e = absurd (cc (nothing_claimed proof f is ∙ e))
    go (Err fault) is e = absurd (cc)

-- ---- the collision behind a false answer

module _ (format : Format) (m : List Pair) (k proof one other : List ℕ) where
  abbrev all : List (List ℕ)
  all = texts_named format proof (tree format m)

  texts_among : TextsCollide (or_empty (texts_of format proof))
      (or_empty (map text (trail format m k))) one other → CollidesAmong all one other
  texts_among c =
      let t = tree format m in
      let vs = values_named format proof t in
      let ts = texts_of format proof in
      let us = map text (nodes_met k t) in
      let one_has : Contains (or_empty ts) one =
      subst (λ (xs : List (List ℕ)). Contains xs one) (sym c.one_at)
      (Contains-append_right c.before (one ∷ c.after_one) one (has_first one c.after_one)) in
      let other_has : Contains (or_empty us) other =
      subst (λ (xs : List (List ℕ)). Contains xs other) (sym c.other_at)
      (Contains-append_right c.before (other ∷ c.after_other) other
      (has_first other c.after_other)) in
      record {
        one_in = elim (empty_or ts one one_has) [
          | inl has ↦ named_text vs ts t one has
          | inr is ↦ named_empty vs ts t one is
        ];
        other_in = elim (empty_or us other other_has) [
          | inl has ↦ named_node vs ts t other (met_texts k other t has)
          | inr is ↦ named_empty vs ts t other is
        ];
        collision = c.collision;
      }

values_among : (format : Format) (m : List Pair) (k proof one other : List ℕ)
    → ValuesCollide (claim_in format proof) (map_get m k) one other
    → CollidesAmong (texts_named format proof (tree format m)) one other
values_among One m k proof one other v = absurd (no_value proof one v.claims)
values_among Two m k proof one other v =
    let t = tree Two m in
    let vs = values_named Two proof t in
    let ts = texts_of Two proof in
    let claims : claimed (claim_in Two proof) ≡ one ∷ [] = ap claimed v.claims in
    let here : Contains (claimed (claim_in Two proof)) one =
    subst (λ (us : List (List ℕ)). Contains us one) (sym claims) (has_first one []) in
    let has : Contains (map (λ p. p.1) (pairs t)) other =
    subst (λ (p : List Pair). Contains (map (λ q. q.1) p) other) (sym (pairs_tree Two m))
    (value_in m k other v.other_is) in
    record {
      one_in =
          named_value vs ts t one
          (Contains-append_left (claimed (claim_in Two proof)) (map (λ p. p.1) (pairs t)) one here);
      other_in =
          named_value vs ts t other
          (Contains-append_right (claimed (claim_in Two proof)) (map (λ p. p.1) (pairs t)) other
          has);
      collision = v.collision;
    }

-- the pair is of the texts that are named
pub among_named : (format : Format) (m : List Pair) (k proof one other : List ℕ)
    → CollidesWith format m k proof one other
    → CollidesAmong (texts_named format proof (tree format m)) one other
among_named format m k proof one other (inl c) = texts_among format m k proof one other c
among_named format m k proof one other (inr v) = values_among format m k proof one other v
