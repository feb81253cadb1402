-- A proof that is accepted for a map's root digest with an answer that the map does not give has a
-- collision.
use Rattle.mst_proof.proofs.Names.{◌≡◌, ℕ, Bool, true, false, List, [], ◌∷◌, map, Option, Some, ◌⊎◌, inl, inr, refl, sym, ◌∙◌, ap, subst, arith, Contains, bytes_eq, not_from_Decides, Contains-append_right, bytes_eq-Decides, Format, IsBytes, Tree, empty, node, Entries, pairs, FlatNode, spelling, digest_of, child_digest, flat, text, digest, IsFlatNode, Collision, nodes_met, met_in_gap, place_of, KeyPlace, Gap, Span, some_same, flat_is, Expected, step_of, held_answer, IsSmall, looked, TextsCollide}
use Rattle.mst_node.proofs.SpelledIsRead.{one_node}
use Rattle.mst_proof.proofs.Stepwise.{Says, Leads}
use Rattle.mst_proof.proofs.Framed.{AllBytes}
use Rattle.mst_proof.proofs.Agreed.{AllFlat}
use Rattle.mst_proof.proofs.Falls.{place, Gapped, falls}

-- ---- elements of lists

pub has_first : {X : Type 0} (x : X) (xs : List X) → Contains (x ∷ xs) x
has_first x xs = (0, omega arith, refl)

pub has_later : {X : Type 0} (y : X) (xs : List X) (x : X) → Contains xs x → Contains (y ∷ xs) x
has_later y xs x has = Contains-append_right (y ∷ []) xs x has

-- ---- one text beside its node

-- at one place a text and the text on the tree's way to the key are a collision
pub record Collides (k : List ℕ) (ts : List (List ℕ)) (t : Tree) : Type 0 where
  pub one : List ℕ
  pub other : List ℕ
  pub texts : TextsCollide ts (map text (nodes_met k t)) one other

-- the answer is the map's, or there is a collision
abbrev pub Answers : Format → List ℕ → Option (List ℕ) → List (List ℕ) → Tree → Type 0
Answers format k a ts t = (a ≡ looked format (pairs t) k) ⊎ Collides k ts t

-- the first texts are a collision
pub texts_first : (t w : List ℕ) (ts us : List (List ℕ)) → Collision t w
    → TextsCollide (t ∷ ts) (w ∷ us) t w
texts_first t w ts us c =
    record {
      before = [];
      after_one = ts;
      after_other = us;
      one_at = refl;
      other_at = refl;
      collision = c;
    }

-- a collision after a text that is the same on both sides
pub texts_later : (t w : List ℕ) (ts us : List (List ℕ)) (one other : List ℕ) → t ≡ w
    → TextsCollide ts us one other → TextsCollide (t ∷ ts) (w ∷ us) one other
texts_later t w ts us one other same c =
    record {
      before = t ∷ c.before;
      after_one = c.after_one;
      after_other = c.after_other;
      one_at = ap (λ (xs : List (List ℕ)). t ∷ xs) c.one_at;
      other_at = ap (λ (x : List ℕ). x ∷ us) (sym same)
          ∙ ap (λ (xs : List (List ℕ)). t ∷ xs) c.other_at;
      collision = c.collision;
    }

pub small_child : (format : Format) (k : List ℕ) (low high : Option (List ℕ)) (l : ℕ) (es : Entries)
    → IsSmall format (node format l es) → (g : Gapped format k low high l es)
    → IsSmall format g.child
small_child format k low high l es small g =
    record { mst = g.mst; map = g.map; few = omega (arith, g.few, small.few) }

-- a collision below is one here, if the text is the node's
below : (format : Format) (k : List ℕ) (low high : Option (List ℕ)) (l : ℕ) (es : Entries)
    (t : List ℕ) (ts : List (List ℕ)) → t ≡ text (node format l es)
    → (g : Gapped format k low high l es) → Collides k ts g.child
    → Collides k (t ∷ ts) (node format l es)
below format k low high l es t ts is g c =
    record {
      one = c.one;
      other = c.other;
      texts = texts_later t (text (node format l es)) ts (map text (met_in_gap k es)) c.one c.other
          is
          (subst (λ (us : List Tree). TextsCollide ts (map text us) c.one c.other) (sym g.meets)
          c.texts);
    }

-- the flat node of a text that is the node's text
pub same_node : (format : Format) (l : ℕ) (es : Entries) (n : FlatNode)
    → IsSmall format (node format l es) → IsBytes (spelling n) → IsFlatNode n → spelling n ≡ text
    (node format l es) → n ≡ flat format l es
same_node format l es n small b is e =
    one_node n (flat format l es) is
    (flat_is format l es small.mst small.map small.few (subst IsBytes e b)) e

-- the answer of a child beside that of the node
answer_above : (format : Format) (k : List ℕ) (low high : Option (List ℕ)) (l : ℕ) (es : Entries)
    (a : Option (List ℕ)) (t : List ℕ) (ts : List (List ℕ)) → t ≡ text (node format l es)
    → (g : Gapped format k low high l es) → Answers format k a ts g.child
    → Answers format k a (t ∷ ts) (node format l es)
answer_above format k low high l es a t ts is g (inl e) =
    inl (e ∙ sym (ap (held_answer format) g.looks))
answer_above format k low high l es a t ts is g (inr c) =
    inr (below format k low high l es t ts is g c)

-- a text that is not the node's collides with it
text_collides : (format : Format) (k : List ℕ) (l : ℕ) (es : Entries) (d t : List ℕ)
    (ts : List (List ℕ)) → bytes_eq t (text (node format l es)) ≡ false → digest_of t ≡ d → Some d
    ≡ child_digest (node format l es) → Collides k (t ∷ ts) (node format l es)
text_collides format k l es d t ts other is named =
    record {
      one = t;
      other = text (node format l es);
      texts = texts_first t (text (node format l es)) ts (map text (met_in_gap k es))
          (record {
            differ = not_from_Decides _ (bytes_eq-Decides t (text (node format l es))) other;
            same = is ∙ some_same d (digest (node format l es)) named;
          });
    }

pub sound : (format : Format) (ns : List FlatNode) (k : List ℕ) (x : Expected) (a : Option (List ℕ))
    (t : Tree) → AllFlat format ns → AllBytes (map spelling ns) → Leads k x ns a → IsSmall format t
    → Some x.digest ≡ child_digest t → Answers format k a (map spelling ns) t
sound format [] k x a t flats b l small d = absurd l
sound format (n ∷ ns) k x a empty flats b l small d = absurd (cc)
sound format (n ∷ ns) k x a (node f layer es) flats b l small d =
    let P : Format → Type 0 =
    λ g. (IsSmall format (node g layer es) → Some x.digest ≡ child_digest (node g layer es)
    → Answers format k a (map spelling (n ∷ ns)) (node g layer es)) in
    subst P (sym small.mst.0) (at (λ y c. sound format ns k y a c flats.1 b.1)) small d
  where
    on : ((y : Expected) (c : Tree) → Leads k y ns a → IsSmall format c → Some y.digest
        ≡ child_digest c → Answers format k a (map spelling ns) c) → (c : Tree) (span : Span)
        → Says (step_of layer (Gap (child_digest c) span)) ns a (λ y. Leads k y ns a)
        → IsSmall format c → Answers format k a (map spelling ns) c
    on next empty span says small = inl says.1
    on next (node g m fs) span says small = next _ (node g m fs) says small refl

    same : ((y : Expected) (c : Tree) → Leads k y ns a → IsSmall format c → Some y.digest
        ≡ child_digest c → Answers format k a (map spelling ns) c)
        → IsSmall format (node format layer es)
        → Says (step_of layer (place format k x.span.low x.span.high es)) ns a (λ y. Leads k y ns a)
        → spelling n ≡ text (node format layer es)
        → Answers format k a (map spelling (n ∷ ns)) (node format layer es)
    same next small says is =
        let Q : KeyPlace → Type 0 = λ p. Says (step_of layer p) ns a (λ y. Leads k y ns a) in
        elim (falls format k x.span.low x.span.high layer es small.mst.2 small.map) [
          | inl h ↦ inl ((subst Q h.placed says).1 ∙ sym (ap (held_answer format) h.looks))
          | inr g ↦ answer_above format k x.span.low x.span.high layer es a (spelling n)
              (map spelling ns) is g
              (on next g.child g.span (subst Q g.placed says)
              (small_child format k x.span.low x.span.high layer es small g))
        ]

    by_text : (t : Bool) → bytes_eq (spelling n) (text (node format layer es)) ≡ t
        → ((y : Expected) (c : Tree) → Leads k y ns a → IsSmall format c → Some y.digest
        ≡ child_digest c → Answers format k a (map spelling ns) c)
        → IsSmall format (node format layer es) → Some x.digest ≡ child_digest
        (node format layer es) → Answers format k a (map spelling (n ∷ ns)) (node format layer es)
    by_text false e next small d =
        inr (text_collides format k layer es x.digest (spelling n) (map spelling ns) e l.0.digest d)
    by_text true e next small d =
        let spells = (bytes_eq-Decides (spelling n) (text (node format layer es))).0 e in
        let is = same_node format layer es n small b.0 flats.0.1 spells in
        let R : FlatNode → Type 0 = λ m. Says (step_of m.layer (place_of k x.span m)) ns a
        (λ y. Leads k y ns a) in
        same next small (subst R is l.1) spells

    at : ((y : Expected) (c : Tree) → Leads k y ns a → IsSmall format c → Some y.digest
        ≡ child_digest c → Answers format k a (map spelling ns) c)
        → IsSmall format (node format layer es) → Some x.digest ≡ child_digest
        (node format layer es) → Answers format k a (map spelling (n ∷ ns)) (node format layer es)
    at next small d = by_text (bytes_eq (spelling n) (text (node format layer es))) refl next small
        d
