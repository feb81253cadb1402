-- What a whole proof beside the tree of a map finds: no pair, or one that collides.
use Rattle.mst_proof.proofs.Names.{◌≡◌, ◌≢◌, ℕ, ◌≤◌, Bool, true, false, List, [], ◌∷◌, length, map, Option, Some, None, inl, inr, refl, sym, ◌∙◌, ap, subst, arith, IfOk, IfSome, IfNone, bytes_eq, Result, Ok, Err, bytes_eq-Decides, Format, IsBytes, IsMap, map_get, Tree, empty, node, pairs, tree, IsMst, nodes_met, digest_of, text, digest, Collision, pairs_tree, tree_mst, ProofFault, OtherDigest, Claim, held_answer, ◌>>◌, frame_at, first_expected, judgement, settled, unless, or_none, or_nothing, or_empty, texts_of, TextsCollide, ValuesCollide, CollidesWith, gap_tree, IsSmall, NoOther, CollidesBeside}
use Rattle.mst_key.specs.Map.{Pair as KeyValue}
use Rattle.mst_proof.specs.declared.collision.Pair.{Pair}
use Rattle.mst_proof.specs.Beside.{ShowsNoOther}
use Rattle.mst_proof.proofs.Agreed.{settled_done}
use Rattle.mst_proof.proofs.Framed.{ok_same, bind_done}
use Rattle.mst_proof.proofs.Sound.{texts_first}
use Rattle.mst_proof.proofs.NoOther.{no_other_digest, no_other_empty}
use Rattle.mst_proof.proofs.Walks.{other_digest, met_first, same_pair}

-- ---- the whole proof beside the tree of a map

pub small_of_map : (format : Format) (t : Tree) → (m : List KeyValue) × IsMap m × (length m ≤ 65535)
    × (t ≡ tree format m) → IsSmall format t
small_of_map format t has =
    let m = has.0 in
    let same : m ≡ pairs t = sym (ap pairs has.3 ∙ pairs_tree format m) in
    record {
      mst = subst (IsMst format) (sym has.3) (tree_mst format m);
      map =
          subst IsMap same has.1;
      few = subst (λ (n : ℕ). n ≤ 65535) (ap length same) has.2;
    }

abbrev ok_texts : List (List ℕ) → Claim → Result (List (List ℕ) × Claim) ProofFault
ok_texts ts claim = Ok (ts, claim)

-- a proof of these texts with this claim shows what they show
shows_judged : (format : Format) (t : Tree) (k proof : List ℕ) (all : List (List ℕ)) (claim : Claim)
    → ok_texts all claim ≡ frame_at format proof
    → ((a : Option (List ℕ)) → (judgement format (digest t) k all >> settled format claim) ≡ Ok a
    → a ≡ map_get (pairs t) k) → ShowsNoOther format t k proof
shows_judged format t k proof all claim frame h a e =
    h a (ap (λ (r : Result (List (List ℕ) × Claim) ProofFault). r >> λ f. judgement format
    (digest t) k f.0 >> λ held. settled format f.1 held) frame ∙ e)

shows_some : (format : Format) (t : Tree) (k proof : List ℕ) (all : List (List ℕ)) (claim : Claim)
    → ok_texts all claim ≡ frame_at format proof → (length all ≡ 0 → ⊥) → NoOther format claim t k
    all → ShowsNoOther format t k proof
shows_some format t k proof [] claim frame some next = absurd (some refl)
shows_some format t k proof (u ∷ ts) claim frame some next =
    shows_judged format t k proof (u ∷ ts) claim frame
    (λ a e. next (first_expected (digest t)) a refl e)

-- no text shows absence in the empty map
unless_none : (b : Bool) (a : Option (List ℕ)) → unless b OtherDigest (Ok None) ≡ Ok a → (b ≡ true)
    × (a ≡ None)
unless_none true a e = (refl, sym (ok_same None a e))
unless_none false a e = absurd (cc)

-- if the empty map's answer is held, it is absence
none_held : (format : Format) (a : Option (List ℕ)) → held_answer format a ≡ None → a ≡ None
none_held format None e = refl
none_held format (Some v) e = absurd (cc)

shows_none : (format : Format) (t : Tree) (k proof : List ℕ) (claim : Claim) → ok_texts [] claim
    ≡ frame_at format proof → (Collision [] (text t) → ⊥) → ShowsNoOther format t k proof
shows_none format t k proof claim frame none = shows_judged format t k proof [] claim frame (λ a e.
    let d = bind_done (judgement format (digest t) k []) _ a e in
    let absent = unless_none (bytes_eq (digest t) (digest_of [])) d.0 d.1 in
    let held = (settled_done format claim d.0 a d.2).1 in
    at t none ((bytes_eq-Decides (digest t) (digest_of [])).0 absent.0)
    (none_held format a (sym held ∙ absent.1)))
  where
    at : {a : Option (List ℕ)} (t : Tree) → (Collision [] (text t) → ⊥) → digest t ≡ digest_of []
        → a ≡ None → a ≡ map_get (pairs t) k
    at empty none same e = e
    at (node f l es) none same e = absurd (none (record { differ = λ z. cc (z); same = sym same }))

-- a text in the empty map's place
empty_none : (format : Format) (claim : Claim) (k u : List ℕ) (ts : List (List ℕ)) → IsBytes u
    → (Collision u [] → ⊥) → NoOther format claim empty k (u ∷ ts)
empty_none format claim k [] ts b none = no_other_empty format claim k ts empty
empty_none format claim k (x ∷ u) ts b none = no_other_digest format claim k (x ∷ u) ts empty b
    (other_digest (x ∷ u) [] (λ z. cc (z)) none)

-- ---- the collision beside the map

-- texts of which there is one
pub whole_texts : (ts : List (List ℕ)) → (length ts ≡ 0 → ⊥) → or_empty ts ≡ ts
whole_texts [] some = absurd (some refl)
whole_texts (t ∷ ts) some = refl

module _ (format : Format) (m : List KeyValue) (k proof : List ℕ) (all : List (List ℕ)) (t : Tree)
    {claim : Claim} (frame : ok_texts all claim ≡ frame_at format proof) (is : t ≡ tree format m)
  where
    -- a pair of the proof's texts and those on the tree's way to the key
    texts_beside : (one other : List ℕ)
        → TextsCollide (or_empty all) (or_empty (map text (nodes_met k t))) one other
        → CollidesWith format m k proof one other
    texts_beside one other c =
        inl (same_pair (or_empty all) (or_empty (texts_of format proof))
        (or_empty (map text (nodes_met k t))) (or_empty (map text (nodes_met k (tree format m))))
        one one other other (ap or_empty (sym (ap or_none frame)))
        (ap (λ (x : Tree). or_empty (map text (nodes_met k x))) (sym is)) refl refl c)

    -- the pair of the claimed value and the tree's
    values_beside : (one other : List ℕ) → ValuesCollide claim (map_get (pairs t) k) one other
        → CollidesWith format m k proof one other
    values_beside one other v =
        let same : pairs t ≡ m = ap pairs is ∙ pairs_tree format m in
        inr (record {
          claims = sym (ap or_nothing frame) ∙ v.claims;
          other_is = sym (ap (λ (p : List KeyValue). map_get p k) same) ∙ v.other_is;
          collision = v.collision;
        })

-- ---- what is found

module _ (format : Format) {A E : Type 0} (r : Result (Option (Pair A)) E) (k proof u w : List ℕ)
    (all : List (List ℕ)) (t : Tree) {claim : Claim}
    (frame : ok_texts all claim ≡ frame_at format proof) where
  abbrev Compared : Result (Option (Pair A)) E → Type 0
  Compared q = IfOk q (λ pair. IfNone pair (Collision u w → ⊥))

  abbrev Found : Result (Option (Pair A)) E → Type 0
  Found q =
      IfOk q (λ pair. IfSome pair (λ p. (p.one.items ≡ u) × (p.other.items ≡ w) × Collision u w))

  abbrev Shows : Result (Option (Pair A)) E → Type 0
  Shows q = IfOk q (λ pair. IfNone pair (ShowsNoOther format t k proof))

  abbrev Finds : List KeyValue → Result (Option (Pair A)) E → Type 0
  Finds m q =
      IfOk q (λ pair. IfSome pair
      (λ p. CollidesWith format m k proof p.one.items p.other.items))

  -- the map is empty, and there is a text
  pub none_of_empty : (ts : List (List ℕ)) → t ≡ empty → all ≡ u ∷ ts → IsBytes u → w ≡ []
      → Compared r → Shows r
  none_of_empty ts is first b none h = go r h
    where
      go : (q : Result (Option (Pair A)) E) → Compared q → Shows q
      go (Ok None) h =
          let apart : Collision u [] → ⊥ = λ c. h (subst (Collision u) (sym none) c) in
          let other : NoOther format claim t k all =
          subst (λ (x : Tree). NoOther format claim x k all) (sym is)
          (subst (NoOther format claim empty k) (sym first)
          (empty_none format claim k u ts b apart)) in
          shows_some format t k proof all claim frame
          (λ z. omega (arith, z, ap (λ (us : List (List ℕ)). length us) first)) other
      go (Ok (Some p)) h = tt
      go (Err e) h = tt

  pub some_of_empty : (ts : List (List ℕ)) → t ≡ empty → all ≡ u ∷ ts → w ≡ [] → Found r
      → (m : List KeyValue) → t ≡ tree format m → Finds m r
  some_of_empty ts is first none h m of = go r h
    where
      go : (q : Result (Option (Pair A)) E) → Found q → Finds m q
      go (Ok None) h = tt
      go (Ok (Some p)) h =
          texts_beside format m k proof all t frame of p.one.items p.other.items
          (same_pair (u ∷ ts) (or_empty all) ([] ∷ []) (or_empty (map text (nodes_met k t))) u
          p.one.items [] p.other.items (ap or_empty first)
          (ap (λ (x : Tree). or_empty (map text (nodes_met k x))) is) h.0 (h.1 ∙ none)
          (texts_first u [] ts [] (subst (Collision u) none h.2)))
      go (Err e) h = tt

  -- the map is not empty, and there is no text
  pub none_of_no_text : length all ≡ 0 → u ≡ [] → w ≡ text t → Compared r → Shows r
  none_of_no_text zero_is nothing expected h = go r h
    where
      is_nil : (us : List (List ℕ)) → length us ≡ 0 → us ≡ []
      is_nil [] e = refl
      is_nil (x ∷ us) e = absurd (omega (arith, e))

      go : (q : Result (Option (Pair A)) E) → Compared q → Shows q
      go (Ok None) h =
          shows_none format t k proof claim
          (subst (λ (us : List (List ℕ)). ok_texts us claim ≡ frame_at format proof)
          (is_nil all zero_is) frame)
          (λ c. h (subst (λ (x : List ℕ). Collision x w) (sym nothing)
          (subst (Collision []) (sym expected) c)))
      go (Ok (Some p)) h = tt
      go (Err e) h = tt

  pub some_of_no_text : length all ≡ 0 → u ≡ [] → w ≡ text t → t ≢ empty → Found r
      → (m : List KeyValue) → t ≡ tree format m → Finds m r
  some_of_no_text zero_is nothing expected some h m of = go r h
    where
      no_texts : (us : List (List ℕ)) → length us ≡ 0 → or_empty us ≡ [] ∷ []
      no_texts [] e = refl
      no_texts (x ∷ us) e = absurd (omega (arith, e))

      go : (q : Result (Option (Pair A)) E) → Found q → Finds m q
      go (Ok None) h = tt
      go (Ok (Some p)) h =
          let rest = map text (nodes_met k (gap_tree k t)) in
          texts_beside format m k proof all t frame of p.one.items p.other.items
          (same_pair ([] ∷ []) (or_empty all) (text t ∷ rest) (or_empty (map text (nodes_met k t)))
          [] p.one.items (text t) p.other.items (no_texts all zero_is)
          (ap or_empty (met_first k t some)) (h.0 ∙ nothing) (h.1 ∙ expected)
          (texts_first [] (text t) [] rest
          (subst (λ (x : List ℕ). Collision x (text t)) nothing
          (subst (Collision u) expected h.2))))
      go (Err e) h = tt

module _ (format : Format) (k proof : List ℕ) (all : List (List ℕ)) (t : Tree) {claim : Claim}
    (frame : ok_texts all claim ≡ frame_at format proof) where
  -- the map is empty, and there is no text
  pub none_of_nothing : t ≡ empty → all ≡ [] → ShowsNoOther format t k proof
  none_of_nothing is nil =
      shows_none format t k proof claim
      (subst (λ (us : List (List ℕ)). ok_texts us claim ≡ frame_at format proof) nil frame)
      (λ c. c.differ (ap text (sym is)))

module _ (format : Format) {A E : Type 0} (r : Result (Option (Pair A)) E) (k proof : List ℕ)
    (all : List (List ℕ)) (t n : Tree) {claim : Claim}
    (frame : ok_texts all claim ≡ frame_at format proof) (is : t ≡ n) where
  -- the texts were walked along
  pub none_of_walk : (length all ≡ 0 → ⊥)
      → IfOk r (λ pair. IfNone pair (NoOther format claim n k all))
      → IfOk r (λ pair. IfNone pair (ShowsNoOther format t k proof))
  none_of_walk some h = go r h
    where
      go : (q : Result (Option (Pair A)) E)
          → IfOk q (λ pair. IfNone pair (NoOther format claim n k all))
          → IfOk q (λ pair. IfNone pair (ShowsNoOther format t k proof))
      go (Ok None) h = shows_some format t k proof all claim frame some
          (subst (λ (x : Tree). NoOther format claim x k all) (sym is) h)
      go (Ok (Some p)) h = tt
      go (Err e) h = tt

  pub some_of_walk : (length all ≡ 0 → ⊥) → n ≢ empty → IfOk r
      (λ pair. IfSome pair (λ p. CollidesBeside claim k all n p.one.items p.other.items))
      → (m : List KeyValue) → t ≡ tree format m → IfOk r
      (λ pair. IfSome pair (λ p. CollidesWith format m k proof p.one.items p.other.items))
  some_of_walk some whole h m of = go r h
    where
      below : n ≡ tree format m
      below = sym is ∙ of

      beside : (p : Pair A) → CollidesBeside claim k all n p.one.items p.other.items
          → CollidesWith format m k proof p.one.items p.other.items
      beside p (inl c) =
          let rest = map text (nodes_met k (gap_tree k n)) in
          let met = met_first k n whole in
          texts_beside format m k proof all n frame below p.one.items p.other.items
          (same_pair all (or_empty all) (map text (nodes_met k n))
          (or_empty (map text (nodes_met k n))) p.one.items p.one.items p.other.items p.other.items
          (whole_texts all some) (ap or_empty met ∙ sym met) refl refl c)
      beside p (inr v) =
          values_beside format m k proof all n frame below p.one.items p.other.items v

      go : (q : Result (Option (Pair A)) E)
          → IfOk q (λ pair. IfSome pair
          (λ p. CollidesBeside claim k all n p.one.items p.other.items))
          → IfOk q (λ pair. IfSome pair
          (λ p. CollidesWith format m k proof p.one.items p.other.items))
      go (Ok None) h = tt
      go (Ok (Some p)) h = beside p h
      go (Err e) h = tt
