-- Which tests a proof has passed when its verdict is a fault.
use Rattle.mst_proof.proofs.Names.{Format, One, Two, ◌≡◌, ◌≢◌, ℕ, Bool, true, false, List, [], ◌∷◌, Option, Some, None, ◌⊎◌, inl, inr, refl, sym, ◌∙◌, ap, subst, list_all, bytes_eq, Result, Ok, Err, not_from_Decides, bytes_eq-Decides, IsBytes, FlatNode, FlatEntry, digest_of, place_of, answer_text, KeyPlace, Gap, none-some, ProofFault, NoNode, OtherDigest, LayerNotBelow, KeyOutside, Unfinished, TextBehind, OtherValue, Claim, Nothing, Absence, Given, Unfit, Expected, Step, ◌>>◌, claim_at, frame_at, unless, node_in, is_under, is_inside, step_of, step_in_node, first_expected, answer_at_end, by_step, followed, judgement, settled, verdict, IsInGap, gap_child, gap_low, gap_high, LeadsOn, held_answer, IsAnswer, FrameFails, FailsBy, Decides, FailAt, TextsFail, SettleFails, ProofFails}
use Rattle.mst_proof.specs.Verdict.{step_at}
use Rattle.mst_proof.proofs.Agreed.{passes, judged, settles}
use Rattle.mst_proof.proofs.Decisions.{node_in-spelt, node_in-read, under-Decides, within-Decides}
use Rattle.mst_proof.proofs.Framed.{AllBytes, ok_same, frame_takes, claim_of, claim_again}
use Rattle.mst_proof.proofs.Nodewise.{HeldIn, GapIn, located, held_place, gap_place, from_nodewise}
use Rattle.mst_proof.proofs.FrameFaults.{err_same, is_tail, frame_fault, frame_whole}

-- a test that is passed or not
unless_fault : {A : Type 0} (passed : Bool) (f : ProofFault) (rest : Result A ProofFault)
    (g : ProofFault) → unless passed f rest ≡ Err g → ((passed ≡ false) × (f ≡ g))
    ⊎ ((passed ≡ true) × (rest ≡ Err g))
unless_fault {A} false f rest g e = inl (refl, err_same {A = A} f g e)
unless_fault true f rest g e = inr (refl, e)

-- ---- one text

module _ (format : Format) (k : List ℕ) (x : Expected) (text : List ℕ) (fault : ProofFault)
    (b : IsBytes text) where
  abbrev Fails : ProofFault → Type 0
  Fails f = FailsBy format x.digest x.upper x.span.low x.span.high text f

  pub fails_by : step_at format k x text ≡ Err fault → Fails fault
  unfolding step_at
  fails_by e = go (node_in format text) refl e
    where
      go : (r : Option FlatNode) → node_in format text ≡ r → step_in_node k x text r ≡ Err fault
          → Fails fault
      go None is e = subst Fails (err_same {A = Step} NoNode fault e)
          (λ g. none-some (node_in format text) g.0 is (node_in-read format text g))
      go (Some n) is e =
          let digests = bytes_eq (digest_of text) x.digest in
          let layers = is_under x.upper n.layer in
          let keys = list_all (λ e. is_inside x.span e.key) n.entries in
          let place : Result Step ProofFault = Ok (step_of n.layer (place_of k x.span n)) in
          let spelt = node_in-spelt format text n is b in
          elim (unless_fault digests OtherDigest
          (unless layers LayerNotBelow (unless keys KeyOutside place)) fault e) [
            | inl d ↦ subst Fails d.1 (
              (n, spelt.0, spelt.1, spelt.2),
              not_from_Decides digests
                  (bytes_eq-Decides (digest_of text) x.digest) d.0,
            )
            | inr d ↦ elim (unless_fault layers LayerNotBelow (unless keys KeyOutside place) fault
                d.1) [
                  | inl l ↦ subst Fails l.1 (
                    n,
                    spelt,
                    (bytes_eq-Decides (digest_of text) x.digest).0 d.0,
                    not_from_Decides
                        layers (under-Decides x.upper n.layer) l.0,
                  )
                  | inr l ↦ elim (unless_fault keys KeyOutside place fault l.1) [
                    | inl i ↦ subst Fails i.1 (
                      n,
                      spelt,
                      (bytes_eq-Decides (digest_of text) x.digest).0 d.0,
                      (under-Decides x.upper n.layer).0 l.0,
                      not_from_Decides keys
                          (within-Decides x.span n) i.0,
                    )
                    | inr i ↦ absurd (cc (i.1))
                  ]
                ]
          ]

-- ---- the texts

ended_fault : (ts : List (List ℕ)) (a : Option (List ℕ)) (fault : ProofFault) → answer_at_end ts a
    ≡ Err fault → (ts ≢ []) × (fault ≡ TextBehind)
ended_fault [] a fault e = absurd (cc)
ended_fault (t ∷ ts) a fault e = (
  (λ n. let f : t ∷ ts ≡ [] = n in absurd (cc)),
  sym (err_same {A = Option (List ℕ)} TextBehind fault e),
)

abbrev pub Follows : (format : Format) → List ℕ → Expected → List (List ℕ) → ProofFault → Type 0
Follows format k x ts fault = FailAt format k x.digest x.upper x.span.low x.span.high ts fault

pub fail_at : (format : Format) (k : List ℕ) (x : Expected) (ts : List (List ℕ))
    (fault : ProofFault) → AllBytes ts → followed format k x ts ≡ Err fault → Follows format k x ts
    fault
fail_at format k x [] fault b e = sym (err_same {A = Option (List ℕ)} Unfinished fault e)
fail_at format k x (t ∷ ts) fault b e =
    at (step_at format k x t) refl e (λ y. fail_at format k y ts fault b.1)
  where
    Left : Step → Type 0
    Left s = by_step s (answer_at_end ts) (λ y. followed format k y ts) ≡ Err fault

    Next : FlatNode → Type 0
    Next n = (Decides k n × (ts ≢ []) × (fault ≡ TextBehind)) ⊎ LeadsOn k x.span.low x.span.high n
        (λ d u l h. FailAt format k d u l h ts fault)

    in_gap : (n : FlatNode) (before behind : List FlatEntry) → IsInGap n k before behind
        → (c : Option (List ℕ)) → gap_child behind n.tail ≡ c
        → Left (step_of n.layer
        (Gap c (record { low = gap_low x.span.low before; high = gap_high behind x.span.high }))) →
        ((y : Expected) → followed format k y ts ≡ Err fault → Follows format k y ts fault) → Next n
    in_gap n before behind g None is left next = let f = ended_fault ts None fault left in
        inl (inr (before, behind, g, is), f.0, f.1)
    in_gap n before behind g (Some d) is left next =
        inr (
          before,
          behind,
          d,
          g,
          is,
          next (record {
            digest = d;
            upper = Some n.layer;
            span =
                record { low = gap_low x.span.low before; high = gap_high behind x.span.high };
          }) left,
        )

    placed : (p : FlatNode) → HeldIn k p.entries ⊎ GapIn k p.entries
        → Rattle.mst_node.specs.Grammar.IsFlatNode p → Left (step_of p.layer (place_of k x.span p))
        →
        ((y : Expected) → followed format k y ts ≡ Err fault → Follows format k y ts fault) → Next p
    placed n (inl h) flat left next =
        let f = ended_fault ts (Some h.entry.held) fault
        (subst (λ (q : KeyPlace). Left (step_of n.layer q))
        (held_place k x.span n h.before h.entry h.behind flat h.entries h.key) left) in
        inl (
          inl (
            h.entry.held,
            record {
              before = h.before;
              entry = h.entry;
              behind =
                  h.behind;
              entries = h.entries;
              key = h.key;
              value = refl;
            },
          ),
          f.0,
          f.1,
        )
    placed n (inr g) flat left next =
        let is : IsInGap n k g.before g.behind =
        record { entries = g.entries; lesser = g.lesser; greater = g.greater } in
        in_gap n g.before g.behind is (gap_child g.behind n.tail) refl
        (subst (λ (q : KeyPlace). Left (step_of n.layer q))
        (gap_place k x.span n g.before g.behind is) left) next

    at : (r : Result Step ProofFault) → step_at format k x t ≡ r
        → (r >> λ s. by_step s (answer_at_end ts) (λ y. followed format k y ts)) ≡ Err fault →
        ((y : Expected) → followed format k y ts ≡ Err fault → Follows format k y ts fault)
        → Follows format k x (t ∷ ts) fault
    at (Err g) is f next =
        inl (subst (FailsBy format x.digest x.upper x.span.low x.span.high t)
        (err_same {A = Option (List ℕ)} g fault f) (fails_by format k x t g b.0 is))
    at (Ok s) is f next =
        let p = passes format k x t s b.0 is in
        inr (
          p.node,
          (p.in_format, p.flat, p.text_is),
          record { digest = p.expected.digest; layer = p.expected.layer; keys = p.expected.keys },
          placed p.node (located k p.node.entries p.flat.keys.rising) p.flat
              (subst Left (sym p.says) f) next,
        )

-- ---- the whole proof

-- the only fault of a claim
pub settled_fault : (format : Format) (claim : Claim) (held : Option (List ℕ)) (fault : ProofFault)
    → settled format claim held ≡ Err fault → fault ≡ OtherValue
settled_fault One claim held fault e = absurd (cc (e))
settled_fault Two Absence None fault e = absurd (cc (e))
settled_fault Two Absence (Some held) fault e =
    sym (err_same {A = Option (List ℕ)} OtherValue fault e)
settled_fault Two (Given value) None fault e =
    sym (err_same {A = Option (List ℕ)} OtherValue fault e)
settled_fault Two (Given value) (Some held) fault e =
    elim (unless_fault (bytes_eq (digest_of value) held) OtherValue (Ok (Some value)) fault e) [
      | inl d ↦ sym d.1
      | inr d ↦ absurd (cc (d.1))
    ]
settled_fault Two Nothing held fault e = sym (err_same {A = Option (List ℕ)} OtherValue fault e)
settled_fault Two Unfit held fault e = sym (err_same {A = Option (List ℕ)} OtherValue fault e)

-- a claim that fails is not that of an answer of which this is held
no_answer : (format : Format) (claim : Claim) (held : Option (List ℕ)) (tail : List ℕ)
    (fault : ProofFault) → claim_at format tail ≡ Ok claim → settled format claim held ≡ Err fault
    → (answer : Option (List ℕ)) → IsAnswer format answer → tail ≡ answer_text format answer
    → held ≡ held_answer format answer → ⊥
no_answer format claim held tail fault claims e answer fits is same =
    let said =
    ok_same claim (claim_of format answer)
    (sym claims ∙ ap (claim_at format) is ∙ claim_again format answer fits) in
    let done : settled format claim held ≡ Ok answer =
    ap (λ (c : Claim). settled format c held) said
    ∙ ap (settled format (claim_of format answer)) same ∙ settles format answer in
    absurd (cc (sym e ∙ done))

pub proof_fails : (format : Format) (root k proof : List ℕ) (fault : ProofFault) → IsBytes proof
    → verdict format root k proof ≡ Err fault → ProofFails format root k proof fault
proof_fails format root k proof fault b e = go (frame_at format proof) refl e
  where
    texts : (ts : List (List ℕ)) → AllBytes ts → judgement format root k ts ≡ Err fault
        → TextsFail format root k ts fault
    texts [] b e =
        elim (unless_fault (bytes_eq root (digest_of [])) OtherDigest (Ok None) fault e) [
          | inl d ↦ (
            not_from_Decides (bytes_eq root (digest_of []))
                (bytes_eq-Decides root (digest_of [])) d.0,
            sym d.1,
          )
          | inr d ↦ absurd (cc (d.1))
        ]
    texts (t ∷ ts) b e = fail_at format k (first_expected root) (t ∷ ts) fault b e

    behind : (ts : List (List ℕ)) (tail : List ℕ) (claim : Claim) → AllBytes ts
        → claim_at format tail ≡ Ok claim → (r : Result (Option (List ℕ)) ProofFault)
        → judgement format root k ts ≡ r → (r >> λ held. settled format claim held) ≡ Err fault
        → TextsFail format root k ts fault ⊎ SettleFails format root k ts tail fault
    behind ts tail claim b claims (Err g) is e =
        inl (texts ts b (is ∙ ap Err (err_same {A = Option (List ℕ)} g fault e)))
    behind ts tail claim b claims (Ok held) is e =
        let s = judged format root k ts held b is in
        inr (
          settled_fault format claim held fault e,
          (
            held,
            (
              s.nodes,
              s.flat,
              s.texts,
              from_nodewise format root k s.nodes held s.flat
                  s.leads,
            ),
            no_answer format claim held tail fault claims e,
          ),
        )

    go : (r : Result (List (List ℕ) × Claim) ProofFault) → frame_at format proof ≡ r
        → (r >> λ f. judgement format root k f.0 >> λ held. settled format f.1 held) ≡ Err fault
        → ProofFails format root k proof fault
    go (Err g) is e =
        inl (subst (FrameFails format proof) (err_same {A = Option (List ℕ)} g fault e)
        (frame_fault format proof g b is))
    go (Ok (ts, claim)) is e =
        let frame = frame_takes format proof (ts, claim) is b in
        inr (
          ts,
          frame.rest,
          is_tail format frame.rest claim frame.claims,
          frame_whole format proof ts claim frame,
          behind ts frame.rest claim frame.texts frame.claims (judgement format root k ts) refl e,
        )
