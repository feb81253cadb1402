-- The verifier's theorem: the proof that a map gives is accepted with the map's answer, and if
-- another answer is accepted for the map's root there is a collision.
use Rattle.mst_proof.proofs.Names.{Format, One, Two, held_answer, IsAnswer, some_same, is_eq, bytes_eq, not_from_Decides, bytes_eq-Decides, ◌≡◌, ◌≢◌, ℕ, suc, Bool, true, false, cond, ◌<◌, List, [], ◌∷◌, length, map, Option, Some, None, ◌⊎◌, inl, inr, refl, sym, ◌∙◌, ap, subst, arith, AllByRecursion, IsBytes, IsKey, IsValue, Pair, IsMap, IsAscending, map_get, key_cmp, Tree, empty, node, tree, pairs, entries_pairs, FlatNode, spelling, text, digest, digest_of, LiesBetween, Collision, framed, framing, nodes_met, met_in_gap, lies_between, between_none, pairs_tree, tree_mst, first_expected, Claim, or_none, or_nothing, claim_in, or_empty, TextsCollide, ValuesCollide, CollidesWith, looked, IsSmall}
use Rattle.mst_node.proofs.ReadIsSpelled.{bytes-split}
use Rattle.std.proofs.lemmas.List.{length-map}
use Rattle.mst_node.specs.Trail.{proof_text}
use Rattle.mst_proof.proofs.Stepwise.{LeadsFrom, Leads, Accepted}
use Rattle.mst_proof.specs.Theorem.{HasRoot}
use Rattle.mst_proof.proofs.Framed.{AllBytes, claim_of}
use Rattle.mst_proof.proofs.Agreed.{AllFlat, Spells, frame_accepted, held_one}
use Rattle.mst_proof.proofs.Sound.{texts_first, sound}
use Rattle.mst_proof.proofs.Complete.{complete}

-- the tree of a map that has a root is a small one
small_tree : (format : Format) (m : List Pair) (d : List ℕ) → HasRoot format m d
    → IsSmall format (tree format m)
small_tree format m d has =
    let same = sym (pairs_tree format m) in
    record {
      mst = tree_mst format m;
      map = subst IsMap same has.map;
      few =
          omega (arith, ap length same, has.few);
    }

-- ---- the map's proof

-- the bytes of texts are those of what frames them
texts_bytes : (ts : List (List ℕ)) → IsBytes (framed ts) → AllBytes ts
texts_bytes [] b = tt
texts_bytes (t ∷ ts) b = let parts = bytes-split t (framed ts) b.1.1.1.1 in
    (parts.0, texts_bytes ts parts.1)

-- texts that lead from a map's root to its answer
map_leads : (format : Format) (d k : List ℕ) (t : Tree) → d ≡ digest t → IsSmall format t
    → LiesBetween None None t → AllBytes (map text (nodes_met k t))
    → Spells format (map text (nodes_met k t)) (λ ns. LeadsFrom d k ns (looked format (pairs t) k))
map_leads format d k empty root small lies b =
    record { nodes = []; flat = tt; texts = refl; leads = (root, refl) }
map_leads format d k (node f l es) root small lies b =
    let s = complete format (suc l) k (first_expected d) (node f l es) (omega arith) small
    (record { digest = ap Some root; under = tt; lies = lies }) b in
    record { nodes = s.nodes; flat = s.flat; texts = s.texts; leads = some s.nodes s.leads }
  where
    some : (ns : List FlatNode) → Leads k (first_expected d) ns (looked format (entries_pairs es) k)
        → LeadsFrom d k ns (looked format (entries_pairs es) k)
    some [] l = absurd l
    some (n ∷ ns) l = l

-- the values of a map are within their limits
value_fits : (m : List Pair) (k v : List ℕ) → AllByRecursion (λ p. IsKey p.0 × IsValue p.1) m
    → map_get m k ≡ Some v → IsValue v
value_fits [] k v limits e = absurd (cc)
value_fits (p ∷ m) k v limits e = go (is_eq (key_cmp p.0 k)) e (value_fits m k v limits.1)
  where
    go : (t : Bool) → cond t (Some p.1) (map_get m k) ≡ Some v → (map_get m k ≡ Some v → IsValue v)
        → IsValue v
    go true e later = subst IsValue (some_same p.1 v e) limits.0.1
    go false e later = later e

is_answer : (format : Format) (m : List Pair) (k : List ℕ) → IsMap m → IsAnswer format (map_get m k)
is_answer One m k map = tt
is_answer Two m k map = go (map_get m k) refl
  where
    go : (a : Option (List ℕ)) → map_get m k ≡ a → IsAnswer Two a
    go None e = tt
    go (Some v) e = value_fits m k v map.limits e

pub proof_accepted : (format : Format) (m : List Pair) (d k proof : List ℕ) → IsBytes proof
    → HasRoot format m d → proof ≡ proof_text format m k → Accepted format d k proof (map_get m k)
proof_accepted format m d k proof b has is =
    let t = tree format m in
    let ts = map text (nodes_met k t) in
    let bytes : IsBytes (proof_text format m k) = subst IsBytes is b in
    let all : AllBytes ts = texts_bytes ts (bytes-split (framed ts) _ bytes.1.1).0 in
    let rise : IsAscending (pairs t) = subst IsAscending (sym (pairs_tree format m))
    has.map.ascending in
    let s = map_leads format d k t has.root (small_tree format m d has)
    (lies_between t None None rise (between_none (pairs t))) all in
    let few : length ts < 256 = bytes.1.0 in
    record {
      nodes = s.nodes;
      flat = s.flat;
      few = subst (λ (n : ℕ). n < 256) (ap length s.texts ∙ length-map s.nodes spelling) few;
      frames = is ∙ ap (λ (us : List (List ℕ)). framing format us (map_get m k)) s.texts;
      leads = subst (λ (p : List Pair). LeadsFrom d k s.nodes (looked format p k))
          (pairs_tree format m) s.leads;
      fit = is_answer format m k has.map;
    }

-- ---- another answer

-- at one place of two lists are texts that are a collision
abbrev CollideSomewhere : List (List ℕ) → List (List ℕ) → Type 0
CollideSomewhere ts us = (one : List ℕ) × (other : List ℕ) × TextsCollide ts us one other

-- the answer is that of the tree, or a text and that of the tree at its place are a collision
tree_answer : (format : Format) (t : Tree) (d k : List ℕ) (ns : List FlatNode)
    (a : Option (List ℕ)) → AllFlat format ns → AllBytes (map spelling ns) → LeadsFrom d k ns a
    → IsSmall format t → d ≡ digest t → (a ≡ looked format (pairs t) k)
    ⊎ CollideSomewhere (or_empty (map spelling ns)) (or_empty (map text (nodes_met k t)))
tree_answer format empty d k [] a flats b l small root = inl l.1
tree_answer format (node f m es) d k [] a flats b l small root =
    let w = text (node f m es) in
    let c : Collision [] w = record { differ = λ e. cc (e); same = sym l.0 ∙ root } in
    inr ([], w, texts_first [] w [] (map text (met_in_gap k es)) c)
tree_answer format empty d k (n ∷ ns) a flats b l small root =
    let c : Collision (spelling n) [] = record { differ = λ e. cc (e); same = l.0.digest ∙ root } in
    inr (spelling n, [], texts_first (spelling n) [] (map spelling ns) [] c)
tree_answer format (node f m es) d k (n ∷ ns) a flats b l small root =
    elim (sound format (n ∷ ns) k (first_expected d) a (node f m es) flats b l small
    (ap Some root)) [
      | inl e ↦ inl e
      | inr c ↦ inr (c.one, c.other, c.texts)
    ]

-- the values of two answers are a collision
pub record AnswersCollide (a b : Option (List ℕ)) : Type 0 where
  pub one : List ℕ
  pub other : List ℕ
  pub one_is : a ≡ Some one
  pub other_is : b ≡ Some other
  pub collision : Collision one other

-- two answers of which the same is held in format 2 are one, or their values collide
pub one_answer : (a b : Option (List ℕ)) → held_answer Two a ≡ held_answer Two b → (a ≡ b)
    ⊎ AnswersCollide a b
one_answer None None e = inl refl
one_answer None (Some w) e = absurd (cc)
one_answer (Some v) None e = absurd (cc)
one_answer (Some v) (Some w) e = at (bytes_eq v w) refl
  where
    at : (b : Bool) → bytes_eq v w ≡ b → (Some v ≡ Some w) ⊎ AnswersCollide (Some v) (Some w)
    at true same = inl (ap Some ((bytes_eq-Decides v w).0 same))
    at false apart =
        let c : Collision v w =
        record {
          differ = not_from_Decides (bytes_eq v w) (bytes_eq-Decides v w) apart;
          same =
              some_same (digest_of v) (digest_of w) e;
        } in
        inr (record { one = v; other = w; one_is = refl; other_is = refl; collision = c })

-- an answer of which the map's is held is the map's, or the value that is claimed collides with it
held_same : (format : Format) (claim : Claim) (a b : Option (List ℕ)) → claim ≡ claim_of format a
    → held_answer format a ≡ held_answer format b → (a ≡ b)
    ⊎ ((one : List ℕ) × (other : List ℕ) × ValuesCollide claim b one other)
held_same One claim a b claims e = inl (held_one a ∙ e ∙ sym (held_one b))
held_same Two claim a b claims e = elim (one_answer a b e) [
  | inl same ↦ inl same
  | inr c ↦ inr (
    c.one,
    c.other,
    record {
      claims = claims ∙ ap (claim_of Two) c.one_is;
      other_is = c.other_is;
      collision = c.collision;
    },
  )
]

pub other_answer : (format : Format) (m : List Pair) (d k proof : List ℕ) (a : Option (List ℕ))
    → IsBytes proof → HasRoot format m d → Accepted format d k proof a → a ≢ map_get m k
    → (one : List ℕ) × (other : List ℕ) × CollidesWith format m k proof one other
other_answer format m d k proof a b has acc other =
    let t = tree format m in
    let ts = map spelling acc.nodes in
    let bytes : IsBytes (framing format ts a) = subst IsBytes acc.frames b in
    let all : AllBytes ts = texts_bytes ts (bytes-split (framed ts) _ bytes.1.1).0 in
    let frame = frame_accepted format d k proof a acc in
    let same : held_answer format (map_get (pairs t) k) ≡ held_answer format (map_get m k) =
    ap (λ (p : List Pair). held_answer format (map_get p k)) (pairs_tree format m) in
    elim (tree_answer format t d k acc.nodes (held_answer format a) acc.flat all acc.leads
    (small_tree format m d has) has.root) [
      | inl e ↦ elim (held_same format (claim_in format proof) a (map_get m k) (ap or_nothing frame)
          (e ∙ same)) [
            | inl is ↦ absurd (other is)
            | inr c ↦ (c.0, c.1, inr c.2)
          ]
      | inr c ↦ (
        c.0,
        c.1,
        inl (subst (λ (us : List (List ℕ)). TextsCollide (or_empty us)
            (or_empty (map text (nodes_met k t))) c.0 c.1) (sym (ap or_none frame)) c.2),
      )
    ]
