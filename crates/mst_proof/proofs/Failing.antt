-- A proof that has passed the tests before a fault's, and fails that one, has this fault for its
-- verdict.
use Rattle.mst_proof.proofs.Names.{Format, One, Two, ◌≡◌, ◌≢◌, ℕ, Bool, true, false, ◌==◌, cond, List, [], ◌∷◌, ◌++◌, length, map, Option, Some, None, ◌⊎◌, inl, inr, refl, sym, ◌∙◌, ap, subst, arith, length-append, take, drop, nat_lt, list_all, bytes_eq, Result, Ok, Err, nat_tests, append-nil, bytes_eq-Decides, IsBytes, FlatNode, FlatEntry, spelling, digest_of, format_byte, IsFlatNode, place_of, answer_text, KeyPlace, Gap, ProofFault, FormatByte, CutShort, LeftOver, NoNode, OtherDigest, LayerNotBelow, KeyOutside, Unfinished, TextBehind, OtherValue, Claim, Nothing, Absence, Unfit, Expected, Step, ◌>>◌, alone, given, value_at, claim_at, claimed_at, frame_at, unless, is_under, is_inside, step_of, step_at, first_expected, answer_at_end, by_step, followed, judgement, settled, verdict, IsInGap, gap_child, gap_low, gap_high, LeadsOn, LeadsFrom, held_answer, IsAnswer, IsTail, Frames, FrameFails, FailsBy, Decides, FailAt, TextsFail, SettleFails, ProofFails}
use Rattle.std.proofs.Math.Seq.{take-append_seam, drop-append_seam}
use Rattle.std.proofs.lemmas.Bool.{false_from_ne_true}
use Rattle.mst_proof.specs.Accepted.{IsExpected}
use Rattle.mst_proof.proofs.Agreed.{AllFlat, step_expected, follows, settled_done, claim_is}
use Rattle.mst_proof.proofs.Decisions.{node_in-read, node_in-none, under-Decides, within-Decides}
use Rattle.mst_proof.proofs.Faults.{Follows, settled_fault}
use Rattle.mst_proof.proofs.FrameFaults.{err, is_tail, with_texts, frame_fault, frame_whole}
use Rattle.mst_proof.proofs.Framed.{AllBytes, texts_again, frame_takes, claim_takes}
use Rattle.mst_proof.proofs.Nodewise.{held_place, gap_place, stepwise}
use Rattle.mst_proof.proofs.Steps.{step-no_node, step-other_digest, step-not_below, step-outside}

-- ---- the frame

value_behind : (value rest : List ℕ) → value_at (length value ∷ (value ++ rest)) ≡ alone
    (given value) rest
value_behind value rest =
    let whole : nat_lt (length (value ++ rest)) (length value) ≡ false =
    grind (arith, nat_tests, length-append value rest) in
    let front : take (length value) (value ++ rest) ≡ value = take-append_seam value rest in
    let behind : drop (length value) (value ++ rest) ≡ rest = drop-append_seam value rest in
    rw (whole, front, behind)

-- a tail claims something, whatever stands after it
pub claim_behind : (format : Format) (tail : List ℕ) → IsTail format tail → (claim : Claim)
    × ((rest : List ℕ) → claim_at format (tail ++ rest) ≡ alone claim rest)
claim_behind One tail is =
    (Nothing, λ rest. ap (λ (xs : List ℕ). alone Nothing (xs ++ rest)) is)
claim_behind Two tail (inl t) =
    let other : (t.0 == 1) ≡ false =
    false_from_ne_true (t.0 == 1) (λ e. t.1 (grind (arith, nat_tests, e))) in (
      cond (t.0 == 0) Absence Unfit,
      λ rest. ap (λ (xs : List ℕ). claim_at Two (xs ++ rest)) t.2
          ∙ ap (λ (u : Bool). cond u (value_at rest) (alone (cond (t.0 == 0) Absence Unfit) rest))
          other,
    )
claim_behind Two tail (inr t) = (
  given t.0,
  λ rest. ap (λ (xs : List ℕ). claim_at Two (xs ++ rest)) t.1 ∙ value_behind t.0 rest,
)

-- of bytes that frame texts and a tail these texts are read, and then what stands after them
pub framed_read : (format : Format) (bytes : List ℕ) (texts : List (List ℕ)) (tail rest : List ℕ)
    → Frames format bytes texts tail rest → frame_at format bytes ≡ claimed_at format
    (Some (texts, tail ++ rest))
framed_read format bytes texts tail rest frames =
    let same : (format_byte format == format_byte format) ≡ true = grind (arith, nat_tests) in
    ap (frame_at format) frames.whole
    ∙ rw same (ap (claimed_at format) (texts_again texts (tail ++ rest) frames.short))

pub frame_fails : (format : Format) (bytes : List ℕ) (fault : ProofFault) → IsBytes bytes
    → FrameFails format bytes fault → frame_at format bytes ≡ Err fault
frame_fails format bytes FormatByte b is =
    let other : (is.0 == format_byte format) ≡ false =
    false_from_ne_true (is.0 == format_byte format) (λ e. is.3 (grind (arith, nat_tests, e))) in
    ap (frame_at format) is.2 ∙ rw other
frame_fails format bytes CutShort b is = go (frame_at format bytes) refl
  where
    faulty : (g : ProofFault) → FrameFails format bytes g → err {A = List (List ℕ) × Claim} g ≡ Err
        CutShort
    faulty FormatByte f = absurd (f.3 (is.0 f.0 f.1 f.2))
    faulty CutShort f = refl
    faulty LeftOver f = absurd (is.1 f.0 f.1 (f.2 ∷ f.3) f.4 f.5)
    faulty NoNode f = absurd f
    faulty OtherDigest f = absurd f
    faulty LayerNotBelow f = absurd f
    faulty KeyOutside f = absurd f
    faulty Unfinished f = absurd f
    faulty TextBehind f = absurd f
    faulty OtherValue f = absurd f

    go : (r : Result (List (List ℕ) × Claim) ProofFault) → frame_at format bytes ≡ r → frame_at
        format bytes ≡ Err CutShort
    go (Ok (ts, claim)) e =
        let frame = frame_takes format bytes (ts, claim) e b in
        absurd (is.1 ts frame.rest [] (is_tail format frame.rest claim frame.claims)
        (frame_whole format bytes ts claim frame))
    go (Err g) e = e ∙ faulty g (frame_fault format bytes g b e)
frame_fails format bytes LeftOver b is =
    framed_read format bytes is.0 is.1 (is.2 ∷ is.3) is.5
    ∙ ap (λ (r : Result Claim ProofFault). r >> with_texts is.0)
    ((claim_behind format is.1 is.4).1 (is.2 ∷ is.3))
frame_fails format bytes NoNode b is = absurd is
frame_fails format bytes OtherDigest b is = absurd is
frame_fails format bytes LayerNotBelow b is = absurd is
frame_fails format bytes KeyOutside b is = absurd is
frame_fails format bytes Unfinished b is = absurd is
frame_fails format bytes TextBehind b is = absurd is
frame_fails format bytes OtherValue b is = absurd is

-- ---- one text

pub fault_by : (format : Format) (k : List ℕ) (x : Expected) (text : List ℕ) → IsBytes text
    → (fault : ProofFault) → FailsBy format x.digest x.upper x.span.low x.span.high text fault
    → step_at format k x text ≡ Err fault
fault_by format k x text b NoNode out =
    step-no_node format k text x (node_in-none format text b out)
fault_by format k x text b OtherDigest is =
    step-other_digest format k text x is.0.0 (node_in-read format text is.0)
    (false_from_ne_true (bytes_eq (digest_of text) x.digest)
    (λ e. is.1 ((bytes_eq-Decides (digest_of text) x.digest).0 e)))
fault_by format k x text b LayerNotBelow is =
    step-not_below format k text x is.0 (node_in-read format text (is.0, is.1.0, is.1.1, is.1.2))
    ((bytes_eq-Decides (digest_of text) x.digest).1 is.2)
    (false_from_ne_true (is_under x.upper is.0.layer)
    (λ e. is.3 ((under-Decides x.upper is.0.layer).0 e)))
fault_by format k x text b KeyOutside is =
    step-outside format k text x is.0 (node_in-read format text (is.0, is.1.0, is.1.1, is.1.2))
    ((bytes_eq-Decides (digest_of text) x.digest).1 is.2)
    ((under-Decides x.upper is.0.layer).1 is.3)
    (false_from_ne_true (list_all (λ e. is_inside x.span e.key) is.0.entries)
    (λ e. is.4 ((within-Decides x.span is.0).0 e)))
fault_by format k x text b FormatByte is = absurd is
fault_by format k x text b CutShort is = absurd is
fault_by format k x text b LeftOver is = absurd is
fault_by format k x text b Unfinished is = absurd is
fault_by format k x text b TextBehind is = absurd is
fault_by format k x text b OtherValue is = absurd is

-- ---- the texts

ended : (ts : List (List ℕ)) (a : Option (List ℕ)) (fault : ProofFault) → ts ≢ []
    → fault ≡ TextBehind → answer_at_end ts a ≡ Err fault
ended [] a fault some is = absurd (some refl)
ended (t ∷ ts) a fault some is = ap Err (sym is)

pub texts_fault : (format : Format) (k : List ℕ) (x : Expected) (ts : List (List ℕ))
    (fault : ProofFault) → AllBytes ts → Follows format k x ts fault → followed format k x ts
    ≡ Err fault
texts_fault format k x [] fault b is = ap Err (sym is)
texts_fault format k x (t ∷ ts) fault b (inl fails) =
    ap (λ (r : Result Step ProofFault). r >> λ s. by_step s (answer_at_end ts)
    (λ y. followed format k y ts)) (fault_by format k x t b.0 fault fails)
texts_fault format k x (t ∷ ts) fault b (inr is) =
    ap (λ (r : Result Step ProofFault). r >> λ s. by_step s (answer_at_end ts)
    (λ y. followed format k y ts)) (passed is.0 is.1.0 is.1.1 is.1.2 is.2)
    ∙ placed is.0 is.1.1 is.3 (λ y. texts_fault format k y ts fault b.1)
  where
    Left : FlatNode → KeyPlace → Type 0
    Left n p = by_step (step_of n.layer p) (answer_at_end ts) (λ y. followed format k y ts) ≡ Err
        fault

    passed : (n : FlatNode) → n.format ≡ format → IsFlatNode n → t ≡ spelling n
        → IsExpected x.digest x.upper x.span.low x.span.high n → step_at format k x t ≡ Ok
        (step_of n.layer (place_of k x.span n))
    passed n same flat spelt is =
        ap (step_at format k x) spelt
        ∙ step_expected format k x n same flat
        (record { digest = is.digest; layer = is.layer; keys = is.keys })

    in_gap : (n : FlatNode) (before behind : List FlatEntry) → IsInGap n k before behind
        → (c : Option (List ℕ)) → gap_child behind n.tail ≡ c
        → Left n
        (Gap c (record { low = gap_low x.span.low before; high = gap_high behind x.span.high }))
        → Left n (place_of k x.span n)
    in_gap n before behind g c is left =
        subst (Left n) (sym
        (gap_place k x.span n before behind g
        ∙ ap (λ (d : Option (List ℕ)). Gap d
        (record { low = gap_low x.span.low before; high = gap_high behind x.span.high })) is))
        left

    placed : (n : FlatNode) → IsFlatNode n
        → (Decides k n × (ts ≢ []) × (fault ≡ TextBehind)) ⊎ LeadsOn k x.span.low x.span.high n
        (λ d u l h. FailAt format k d u l h ts fault) →
        ((y : Expected) → Follows format k y ts fault → followed format k y ts ≡ Err fault)
        → Left n (place_of k x.span n)
    placed n flat (inl (inl h, some, fault_is)) next =
        subst (Left n) (sym
        (held_place k x.span n h.1.before h.1.entry h.1.behind flat h.1.entries h.1.key))
        (ended ts (Some h.1.entry.held) fault some fault_is)
    placed n flat (inl (inr g, some, fault_is)) next =
        in_gap n g.0 g.1 g.2 None g.3 (ended ts None fault some fault_is)
    placed n flat (inr g) next =
        in_gap n g.0 g.1 g.3 (Some g.2) g.4
        (next (record {
          digest = g.2;
          upper = Some n.layer;
          span =
              record { low = gap_low x.span.low g.0; high = gap_high g.1 x.span.high };
        }) g.5)

judgement_fault : (format : Format) (root k : List ℕ) (ts : List (List ℕ)) (fault : ProofFault)
    → AllBytes ts → TextsFail format root k ts fault → judgement format root k ts ≡ Err fault
judgement_fault format root k [] fault b is =
    let other : bytes_eq root (digest_of []) ≡ false =
    false_from_ne_true (bytes_eq root (digest_of []))
    (λ e. is.0 ((bytes_eq-Decides root (digest_of [])).0 e)) in
    ap (λ (t : Bool). unless t OtherDigest (Ok None)) other ∙ ap Err (sym is.1)
judgement_fault format root k (t ∷ ts) fault b is =
    texts_fault format k (first_expected root) (t ∷ ts) fault b is

-- ---- the answer

shown : (format : Format) (root k : List ℕ) (ns : List FlatNode) (held : Option (List ℕ))
    → AllFlat format ns → LeadsFrom root k ns held → judgement format root k (map spelling ns) ≡ Ok
    held
shown format root k [] held flat leads = ap (λ (t : Bool). unless t OtherDigest (Ok None))
    ((bytes_eq-Decides root (digest_of [])).1 leads.0) ∙ ap Ok (sym leads.1)
shown format root k (n ∷ ns) held flat leads =
    follows format k (first_expected root) (n ∷ ns) held flat
    (stepwise format k (first_expected root) (n ∷ ns) held flat leads)

-- a tail that claims no answer of which this is held
settle_fault : (format : Format) (claim : Claim) (held : Option (List ℕ)) (tail : List ℕ)
    → claim_at format tail ≡ Ok claim
    → ((answer : Option (List ℕ)) → IsAnswer format answer → tail ≡ answer_text format answer
    → held ≡ held_answer format answer → ⊥) → settled format claim held ≡ Err OtherValue
settle_fault format claim held tail claims none = go (settled format claim held) refl
  where
    go : (r : Result (Option (List ℕ)) ProofFault) → settled format claim held ≡ r → settled format
        claim held ≡ Err OtherValue
    go (Ok a) e =
        let done = settled_done format claim held a e in
        let tail_is = claim_takes format tail a (claim_is format tail claim a claims done.0) in
        absurd (none a tail_is.1 tail_is.0 done.1)
    go (Err g) e = e ∙ ap Err (settled_fault format claim held g e)

-- ---- the whole proof

pub proof_faulty : (format : Format) (root k proof : List ℕ) (fault : ProofFault) → IsBytes proof
    → ProofFails format root k proof fault → verdict format root k proof ≡ Err fault
proof_faulty format root k proof fault b (inl fails) =
    ap (λ (r : Result (List (List ℕ) × Claim) ProofFault). r >> λ f. judgement format root k f.0 >>
    λ held. settled format f.1 held) (frame_fails format proof fault b fails)
proof_faulty format root k proof fault b (inr (texts, tail, is, frames, fails)) =
    ap (λ (r : Result (List (List ℕ) × Claim) ProofFault). r >> λ f. judgement format root k f.0 >>
    λ held. settled format f.1 held) read ∙ go fails
  where
    claim : Claim
    claim = (claim_behind format tail is).0

    claims : (rest : List ℕ) → claim_at format (tail ++ rest) ≡ alone claim rest
    claims = (claim_behind format tail is).1

    read : frame_at format proof ≡ Ok (texts, claim)
    read = framed_read format proof texts tail [] frames
        ∙ ap (λ (r : Result Claim ProofFault). r >> with_texts texts) (claims [])

    go : TextsFail format root k texts fault ⊎ SettleFails format root k texts tail fault
        → (judgement format root k texts >> λ held. settled format claim held) ≡ Err fault
    go (inl t) =
        ap (λ (r : Result (Option (List ℕ)) ProofFault). r >> λ held. settled format claim held)
        (judgement_fault format root k texts fault
        (frame_takes format proof (texts, claim) read b).texts t)
    go (inr (fault_is, (held, show, none))) =
        ap (λ (r : Result (Option (List ℕ)) ProofFault). r >> λ h. settled format claim h)
        (ap (judgement format root k) show.2
        ∙ shown format root k show.0 held show.1 show.3)
        ∙ settle_fault format claim held tail
        (ap (claim_at format) (sym (append-nil tail)) ∙ claims []) none
        ∙ ap Err (sym fault_is)
