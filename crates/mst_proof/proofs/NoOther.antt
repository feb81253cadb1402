-- Texts beside the nodes of a tree: if no text differs from its node's text with one digest, nor
-- the claimed value from the map's, no other answer is shown.
use Rattle.mst_proof.proofs.Names.{◌≡◌, ◌≢◌, ℕ, List, [], ◌∷◌, Option, Some, None, ◌⊎◌, inl, inr, refl, sym, ◌∙◌, ap, subst, Result, Ok, Format, One, Two, IsBytes, map_get, Tree, empty, node, pairs, entries_pairs, FlatNode, digest_of, child_digest, held_of, text, digest, place_of, KeyPlace, Gap, Span, Claim, Step, ProofFault, held_answer, ◌>>◌, step_of, step_at, answer_at_end, by_step, followed, settled, ValuesCollide, gap_tree, IsSmall, NoOther}
use Rattle.mst_proof.proofs.Framed.{ok_same, bind_done, claim_of}
use Rattle.mst_proof.proofs.Agreed.{held_one, passes, settled_done}
use Rattle.mst_proof.proofs.Falls.{place, falls}
use Rattle.mst_proof.proofs.Sound.{same_node}
use Rattle.mst_proof.proofs.Truth.{one_answer}

-- ---- the claim

-- the claimed value and this one, if there is one, are no collision
abbrev pub IsFree : Claim → Option (List ℕ) → Type 0
IsFree claim value = (one other : List ℕ) → ValuesCollide claim value one other → ⊥

-- if the map's answer is held, the claim gives no other
pub settled_same : (format : Format) (claim : Claim) (held a b : Option (List ℕ))
    → held ≡ held_answer format b → settled format claim held ≡ Ok a → IsFree claim b → a ≡ b
settled_same One claim held a b is e free = sym (ok_same held a e) ∙ is ∙ sym (held_one b)
settled_same Two claim held a b is e free =
    let d = settled_done Two claim held a e in
    elim (one_answer a b (sym d.1 ∙ is)) [
      | inl same ↦ same
      | inr c ↦ absurd
          (free c.one c.other
          (record {
            claims = d.0 refl ∙ ap (claim_of Two) c.one_is;
            other_is =
                c.other_is;
            collision = c.collision;
          }))
    ]

-- ---- the texts

-- a text of another digest shows nothing
pub no_other_digest : (format : Format) (claim : Claim) (k u : List ℕ) (ts : List (List ℕ))
    (t : Tree) → IsBytes u → digest_of u ≢ digest t → NoOther format claim t k (u ∷ ts)
no_other_digest format claim k u ts t b differ x a e h =
    let f = bind_done (followed format k x (u ∷ ts)) _ a h in
    let r = bind_done (step_at format k x u) _ f.0 f.1 in
    let p = passes format k x u r.0 b r.1 in
    absurd (differ (ap digest_of p.text_is ∙ p.expected.digest ∙ e))

-- the empty text is not that of a node
pub no_other_empty : (format : Format) (claim : Claim) (k : List ℕ) (ts : List (List ℕ)) (t : Tree)
    → NoOther format claim t k ([] ∷ ts)
no_other_empty format claim k ts t x a e h =
    let f = bind_done (followed format k x ([] ∷ ts)) _ a h in
    let r = bind_done (step_at format k x []) _ f.0 f.1 in
    let p = passes format k x [] r.0 tt r.1 in
    absurd (cc (p.text_is))

-- what a step of an answer ends with
ended_done : (ts : List (List ℕ)) (answer a : Option (List ℕ)) → answer_at_end ts answer ≡ Ok a
    → a ≡ answer
ended_done [] answer a e = sym (ok_same answer a e)
ended_done (t ∷ ts) answer a e = absurd (cc)

-- the key's gap has no child and the claimed value is free, or its child shows no other answer
abbrev pub ShowsBelow : Format → Claim → List ℕ → List (List ℕ) → Option (List ℕ) → Tree → Type 0
ShowsBelow format claim k ts shown c = ((c ≡ empty) × IsFree claim shown)
    ⊎ ((c ≢ empty) × NoOther format claim c k ts)

-- the node's own text shows what the map says, or leads on to the child in the key's gap
pub no_other_same : (format : Format) (claim : Claim) (k u : List ℕ) (ts : List (List ℕ)) (t : Tree)
    → IsBytes u → IsSmall format t → u ≡ text t → ShowsBelow format claim k ts (map_get (pairs t) k)
    (gap_tree k t) → NoOther format claim t k (u ∷ ts)
no_other_same format claim k u ts empty b small is rest =
    subst (λ (v : List ℕ). NoOther format claim empty k (v ∷ ts)) (sym is)
    (no_other_empty format claim k ts empty)
no_other_same format claim k u ts (node f l es) b small is rest =
    let P : Format → Type 0 = λ g. IsSmall format (node g l es) → u ≡ text (node g l es)
    → NoOther format claim (node g l es) k (u ∷ ts) in
    subst P (sym small.mst.0) at small is
  where
    on : (held a : Option (List ℕ)) (c : Tree) (span : Span) → ShowsBelow format claim k ts
        (map_get (entries_pairs es) k) c → map_get (entries_pairs es) k ≡ map_get (pairs c) k
        → by_step (step_of l (Gap (child_digest c) span)) (answer_at_end ts)
        (λ y. followed format k y ts) ≡ Ok held → settled format claim held ≡ Ok a
        → a ≡ map_get (entries_pairs es) k
    on held a empty span (inl r) looks e s =
        settled_same format claim held a (map_get (entries_pairs es) k)
        (ended_done ts None held e ∙ ap (held_answer format) (sym looks)) s r.1
    on held a empty span (inr r) looks e s = absurd (r.0 refl)
    on held a (node g m fs) span (inl r) looks e s = absurd (cc (r.0))
    on held a (node g m fs) span (inr r) looks e s =
        r.1 _ a refl (ap (λ (q : Result (Option (List ℕ)) ProofFault). q >> settled format claim) e
        ∙ s) ∙ sym looks

    here : (held a : Option (List ℕ)) (value : List ℕ) → ShowsBelow format claim k ts
        (map_get (entries_pairs es) k) empty → map_get (entries_pairs es) k ≡ Some value
        → held ≡ Some (held_of format value) → settled format claim held ≡ Ok a
        → a ≡ map_get (entries_pairs es) k
    here held a value (inl r) looks e s =
        settled_same format claim held a (map_get (entries_pairs es) k)
        (e ∙ ap (held_answer format) (sym looks)) s r.1
    here held a value (inr r) looks e s = absurd (r.0 refl)

    at : IsSmall format (node format l es) → u ≡ text (node format l es) → NoOther format claim
        (node format l es) k (u ∷ ts)
    at small is x a e h =
        let f = bind_done (followed format k x (u ∷ ts)) _ a h in
        let r = bind_done (step_at format k x u) _ f.0 f.1 in
        let p = passes format k x u r.0 b r.1 in
        let same = same_node format l es p.node small (subst IsBytes p.text_is b) p.flat
        (sym p.text_is ∙ is) in
        let says : step_of l (place format k x.span.low x.span.high es) ≡ r.0 =
        ap (λ (m : FlatNode). step_of m.layer (place_of k x.span m)) (sym same) ∙ p.says in
        let Q : Step → Type 0 = λ s. by_step s (answer_at_end ts) (λ y. followed format k y ts)
        ≡ Ok f.0 in
        let R : KeyPlace → Type 0 = λ q. by_step (step_of l q) (answer_at_end ts)
        (λ y. followed format k y ts) ≡ Ok f.0 in
        let S : Tree → Type 0 = λ c. ShowsBelow format claim k ts (map_get (entries_pairs es) k) c
        in
        let given = subst Q (sym says) r.2 in
        elim (falls format k x.span.low x.span.high l es small.mst.2 small.map) [
          | inl q ↦ here f.0 a q.value (subst S q.gap rest) q.looks
              (ended_done ts (Some (held_of format q.value)) f.0 (subst R q.placed given)) f.2
          | inr q ↦ on f.0 a q.child q.span (subst S q.gap rest) q.looks (subst R q.placed given)
              f.2
        ]
