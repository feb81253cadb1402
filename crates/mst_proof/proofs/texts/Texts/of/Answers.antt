use Rattle.mst_proof.proofs.Names.{◌∙◌, sym, ap, List, ℕ, Result, Ok, Format, ProofFault, Claim, texts_at, texts_or_none, claimed_at, ◌>>◌}
use Rattle.mst_proof.proofs.Frames.{texts-short, texts-whole}
use Rattle.mst_proof.proofs.texts.Texts.of.Goals as goal

-- the frame, once its heading is read
abbrev behind_heading : Format → Result (ℕ × List ℕ) ProofFault → Result (List (List ℕ) × Claim)
    ProofFault
behind_heading format r = r >> λ h. claimed_at format (texts_at h.0 h.1)

pub returns-in_default : goal.returns-in_default
returns-in_default c =
    record {
      frame =
          sym (ap (behind_heading c.args.format) c.in_ok-count.ensures.ok
          ∙ texts-short c.args.format
          c.in_ok-count.count c.in_ok-count.bytes.now c.in_default.ensures.reading);
    }

pub returns-in-Err : goal.returns-in-Err
returns-in-Err c =
    let n = c.in_ok-count.count in
    let bytes = c.in_ok-count.bytes.now in
    let whole = texts-whole n bytes c.in-Some.rest.now c.in-Some.ensures.reading in
    record {
      frame =
          sym (ap (behind_heading c.args.format) c.in_ok-count.ensures.ok
          ∙ ap (claimed_at c.args.format) whole
          ∙ ap (λ (r : Result Claim ProofFault). r >> λ claim. Ok (texts_or_none n bytes, claim))
          (sym c.in-Err.ensures.claim));
    }

pub invariant_of-result : goal.invariant_of-result
invariant_of-result c = (
  c.in-Some.rest.now,
  texts-whole c.in_ok-count.count c.in_ok-count.bytes.now c.in-Some.rest.now
      c.in-Some.ensures.reading,
)

pub returns-in-Ok : goal.returns-in-Ok
returns-in-Ok c =
    let n = c.in_ok-count.count in
    let bytes = c.in_ok-count.bytes.now in
    let whole = texts-whole n bytes c.in-Some.rest.now c.in-Some.ensures.reading in
    record {
      frame =
          sym (ap (behind_heading c.args.format) c.in_ok-count.ensures.ok
          ∙ ap (claimed_at c.args.format) whole
          ∙ ap (λ (r : Result Claim ProofFault). r >> λ claim. Ok (texts_or_none n bytes, claim))
          (sym c.in-Ok.ensures.claim));
    }
