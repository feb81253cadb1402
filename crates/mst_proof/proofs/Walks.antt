-- What one step of a walk along the texts and the nodes of a tree finds.
use Rattle.mst_proof.proofs.Names.{◌≡◌, ◌≢◌, ℕ, Bool, true, false, List, [], ◌∷◌, ◌++◌, map, Option, Some, None, inl, inr, refl, sym, ◌∙◌, ap, subst, arith, not, IfOk, IfSome, IfNone, bytes_eq, Result, Ok, Err, not_from_Decides, bytes_eq-Decides, Format, IsBytes, Ordering, Less, Equal, Greater, key_cmp, map_get, Node, Tree, empty, node, Entries, last, entry, pairs, by_order, nodes_met, met_in_gap, tree_of, digest_of, text, Collision, tree_of_out, Claim, TextsCollide, ValuesCollide, gap_in, gap_tree, held_value, IsSmall, NoOther, CollidesBeside}
use Rattle.mst_key.proofs.MapLaws.{IsMap-nil}
use Rattle.mst_proof.specs.declared.collision.Pair.{Pair}
use Rattle.mst_proof.proofs.Falls.{falls}
use Rattle.mst_proof.proofs.Sound.{small_child, texts_first, texts_later}
use Rattle.mst_proof.proofs.NoOther.{IsFree, no_other_digest, no_other_same}

-- ---- two texts compared

pub texts_differ : (u s w : List ℕ) → true ≡ not (bytes_eq u s) → s ≡ w → u ≢ w
texts_differ u s w e is = λ same. not_from_Decides (bytes_eq u s) (bytes_eq-Decides u s)
    (no (bytes_eq u s) e) (same ∙ sym is)
  where
    no : (b : Bool) → true ≡ not b → b ≡ false
    no true e = e
    no false e = refl

pub texts_same : (u s w : List ℕ) → false ≡ not (bytes_eq u s) → s ≡ w → u ≡ w
texts_same u s w e is = (bytes_eq-Decides u s).0 (yes (bytes_eq u s) e) ∙ is
  where
    yes : (b : Bool) → false ≡ not b → b ≡ true
    yes true e = refl
    yes false e = e

-- two texts that do not collide and are different have different digests
pub other_digest : (u w : List ℕ) → u ≢ w → (Collision u w → ⊥) → digest_of u ≢ digest_of w
other_digest u w differ none = λ same. none (record { differ = differ; same = same })

-- ---- the gap of the key

empty_small : (format : Format) → IsSmall format empty
empty_small format = record { mst = tt; map = IsMap-nil; few = omega arith }

pub small_gap : (format : Format) (k : List ℕ) (t : Tree) → IsSmall format t
    → IsSmall format (gap_tree k t)
small_gap format k empty small = empty_small format
small_gap format k (node f l es) small =
    let P : Format → Type 0 = λ g. IsSmall format (node g l es)
    → IsSmall format (gap_tree k (node g l es)) in
    subst P (sym small.mst.0) at small
  where
    at : IsSmall format (node format l es) → IsSmall format (gap_in k es)
    at small = elim (falls format k None None l es small.mst.2 small.map) [
      | inl h ↦ subst (IsSmall format) (sym h.gap) (empty_small format)
      | inr g ↦ subst (IsSmall format) (sym g.gap) (small_child format k None None l es small g)
    ]

-- what a search meets below a node is what it meets from the gap's child
met_gap : (k : List ℕ) (es : Entries) → met_in_gap k es ≡ nodes_met k (gap_in k es)
met_gap k (last child) = refl
met_gap k (entry child key value rest) = go (key_cmp k key) (met_gap k rest)
  where
    go : (o : Ordering) → met_in_gap k rest ≡ nodes_met k (gap_in k rest)
        → by_order o (nodes_met k child) [] (met_in_gap k rest) ≡ nodes_met k
        (by_order o child empty (gap_in k rest))
    go Less e = refl
    go Equal e = refl
    go Greater e = e

-- the texts on the way from a node are its own and those from the gap's child
pub met_first : (k : List ℕ) (t : Tree) → t ≢ empty → map text (nodes_met k t) ≡ text t ∷ map text
    (nodes_met k (gap_tree k t))
met_first k empty some = absurd (some refl)
met_first k (node f l es) some =
    ap (λ (ns : List Tree). text (node f l es) ∷ map text ns) (met_gap k es)

-- the same pair of the same texts
pub same_pair : (ts vs us ws : List (List ℕ)) (one first other second : List ℕ) → vs ≡ ts → ws ≡ us
    → first ≡ one → second ≡ other → TextsCollide ts us one other
    → TextsCollide vs ws first second
same_pair ts vs us ws one first other second a b e f c =
    record {
      before = c.before;
      after_one = c.after_one;
      after_other = c.after_other;
      one_at = a ∙ c.one_at ∙ ap (λ (x : List ℕ). c.before ++ x ∷ c.after_one) (sym e);
      other_at = b ∙ c.other_at ∙ ap (λ (x : List ℕ). c.before ++ x ∷ c.after_other) (sym f);
      collision = subst (λ (x : List ℕ). Collision x second) (sym e)
          (subst (Collision one) (sym f) c.collision);
    }

-- the map below the gap's child says of the key what the tree's map says
gap_looks : (format : Format) (k : List ℕ) (t : Tree) → IsSmall format t → gap_tree k t ≢ empty
    → map_get (pairs t) k ≡ map_get (pairs (gap_tree k t)) k
gap_looks format k empty small some = refl
gap_looks format k (node f l es) small some =
    elim (falls format k None None l es small.mst.2 small.map) [
      | inl h ↦ absurd (some h.gap)
      | inr g ↦ g.looks ∙ ap (λ (c : Tree). map_get (pairs c) k) (sym g.gap)
    ]

-- if the gap has no child, the entry decides the key
gap_decides : (format : Format) (k : List ℕ) (t : Tree) → IsSmall format t → gap_tree k t ≡ empty
    → held_value k t ≡ map_get (pairs t) k
gap_decides format k empty small none = refl
gap_decides format k (node f l es) small none =
    elim (falls format k None None l es small.mst.2 small.map) [
      | inl h ↦ h.entry ∙ sym h.looks
      | inr g ↦ g.entry ∙ ap (λ (c : Tree). map_get (pairs c) k) (sym none ∙ g.gap) ∙ sym g.looks
    ]

-- a node of the program is no empty tree
pub is_node : (format : Format) (A : Type 0) (n : Node A) → tree_of format n ≢ empty
is_node format A n e = absurd (cc (sym (tree_of_out A format n) ∙ e))

-- ---- one step of the walk

module _ (format : Format) (claim : Claim) {A E : Type 0} (r : Result (Option (Pair A)) E)
    (k u : List ℕ) (ts all : List (List ℕ)) (t : Tree) (is : all ≡ u ∷ ts) where
  abbrev ShowsNone : Result (Option (Pair A)) E → Type 0
  ShowsNone q = IfOk q (λ pair. IfNone pair (NoOther format claim t k all))

  abbrev FindsOne : Result (Option (Pair A)) E → Type 0
  FindsOne q =
      IfOk q (λ pair. IfSome pair (λ p. CollidesBeside claim k all t p.one.items p.other.items))

  -- the text is not the node's, and no pair was found
  pub none_here : (w : List ℕ) → IsBytes u → u ≢ w → w ≡ text t
      → IfOk r (λ pair. IfNone pair (Collision u w → ⊥)) → ShowsNone r
  none_here w b differ expected h = go r h
    where
      go : (q : Result (Option (Pair A)) E) → IfOk q (λ pair. IfNone pair (Collision u w → ⊥))
          → ShowsNone q
      go (Ok None) h = subst (NoOther format claim t k) (sym is)
          (no_other_digest format claim k u ts t b
          (λ e. other_digest u w differ h (e ∙ ap digest_of (sym expected))))
      go (Ok (Some p)) h = tt
      go (Err e) h = tt

  -- the text is not the node's, and the pair of both was found
  pub some_here : (w : List ℕ) → w ≡ text t → t ≢ empty
      → IfOk r (λ pair. IfSome pair (λ p. (p.one.items ≡ u) × (p.other.items ≡ w) × Collision u w))
      → FindsOne r
  some_here w expected some h = go r h
    where
      go : (q : Result (Option (Pair A)) E)
          → IfOk q (λ pair. IfSome pair
          (λ p. (p.one.items ≡ u) × (p.other.items ≡ w) × Collision u w)) → FindsOne q
      go (Ok None) h = tt
      go (Ok (Some p)) h =
          let rest = map text (nodes_met k (gap_tree k t)) in
          inl (same_pair (u ∷ ts) all (text t ∷ rest) (map text (nodes_met k t)) u p.one.items
          (text t) p.other.items is (met_first k t some) h.0 (h.1 ∙ expected)
          (texts_first u (text t) ts rest (subst (Collision u) expected h.2)))
      go (Err e) h = tt

  -- the text is the node's, and no pair was found below
  pub none_below : (c : Tree) → c ≢ empty → IsBytes u → IsSmall format t → u ≡ text t
      → c ≡ gap_tree k t → IfOk r (λ pair. IfNone pair (NoOther format claim c k ts)) → ShowsNone r
  none_below c some b small same gap h = go r h
    where
      go : (q : Result (Option (Pair A)) E)
          → IfOk q (λ pair. IfNone pair (NoOther format claim c k ts)) → ShowsNone q
      go (Ok None) h =
          let below = subst (λ (x : Tree). (x ≢ empty) × NoOther format claim x k ts) gap (some, h)
          in
          subst (NoOther format claim t k) (sym is)
          (no_other_same format claim k u ts t b small same (inr below))
      go (Ok (Some p)) h = tt
      go (Err e) h = tt

  -- the text is the node's, and a pair was found below
  pub some_below : (c : Tree) → c ≢ empty → t ≢ empty → IsSmall format t → u ≡ text t
      → c ≡ gap_tree k t
      → IfOk r (λ pair. IfSome pair (λ p. CollidesBeside claim k ts c p.one.items p.other.items))
      → FindsOne r
  some_below c some whole small same gap h = go r h
    where
      looks : map_get (pairs c) k ≡ map_get (pairs t) k
      looks = ap (λ (x : Tree). map_get (pairs x) k) gap
          ∙ sym (gap_looks format k t small (subst (λ (x : Tree). x ≢ empty) gap some))

      above : (p : Pair A) → CollidesBeside claim k ts c p.one.items p.other.items
          → CollidesBeside claim k all t p.one.items p.other.items
      above p (inl h) =
          let rest = map text (nodes_met k c) in
          let met : map text (nodes_met k t) ≡ text t ∷ rest =
          met_first k t whole
          ∙ ap (λ (x : Tree). text t ∷ map text (nodes_met k x)) (sym gap) in
          inl (same_pair (u ∷ ts) all (text t ∷ rest) (map text (nodes_met k t)) p.one.items
          p.one.items p.other.items p.other.items is met refl refl
          (texts_later u (text t) ts rest p.one.items p.other.items same h))
      above p (inr v) =
          inr (record {
            claims = v.claims;
            other_is = sym looks ∙ v.other_is;
            collision =
                v.collision;
          })

      go : (q : Result (Option (Pair A)) E)
          → IfOk q (λ pair. IfSome pair
          (λ p. CollidesBeside claim k ts c p.one.items p.other.items)) → FindsOne q
      go (Ok None) h = tt
      go (Ok (Some p)) h = above p h
      go (Err e) h = tt

  -- the text is the node's and decides the key, or has no child for it, and the values are no pair
  pub none_further : (value : Option (List ℕ)) → IsBytes u → IsSmall format t → u ≡ text t
      → empty ≡ gap_tree k t → value ≡ held_value k t
      → IfOk r (λ pair. IfNone pair (IsFree claim value)) → ShowsNone r
  none_further value b small same gap held h = go r h
    where
      go : (q : Result (Option (Pair A)) E) → IfOk q (λ pair. IfNone pair (IsFree claim value))
          → ShowsNone q
      go (Ok None) h =
          let free = subst (IsFree claim) (held ∙ gap_decides format k t small (sym gap)) h in
          subst (NoOther format claim t k) (sym is)
          (no_other_same format claim k u ts t b small same (inl (sym gap, free)))
      go (Ok (Some p)) h = tt
      go (Err e) h = tt

  -- the values are a pair
  pub some_further : (value : Option (List ℕ)) → IsSmall format t → empty ≡ gap_tree k t
      → value ≡ held_value k t
      → IfOk r (λ pair. IfSome pair (λ p. ValuesCollide claim value p.one.items p.other.items))
      → FindsOne r
  some_further value small gap held h = go r h
    where
      go : (q : Result (Option (Pair A)) E)
          → IfOk q (λ pair. IfSome pair (λ p. ValuesCollide claim value p.one.items p.other.items))
          → FindsOne q
      go (Ok None) h = tt
      go (Ok (Some p)) h =
          inr (subst (λ (v : Option (List ℕ)). ValuesCollide claim v p.one.items p.other.items)
          (held ∙ gap_decides format k t small (sym gap)) h)
      go (Err e) h = tt
