-- The numbers of proofs that were worked by hand.
use Rattle.std.proofs.Common.{◌≡◌, ◌≢◌, ℕ, Bool, true, false, ◌==◌, ◌&&◌, if◌then◌else◌, List, [], ◌∷◌, ◌++◌, length, Option, Some, None, Result, Ok, Err, refl, ap, ◌∙◌}
use Rattle.std.specs.Prelude.{negsuc, ℤ}
use Rattle.std.specs.Str.{bytes_eq}
use Rattle.std.proofs.lemmas.Slice.Eq.{bytes_eq-Decides}
use Rattle.mst_key.specs.declared.format.Format.{Format as TreeFormat}
use Rattle.mst_key.specs.declared.format.Format.TheVariants.{One, Two}
use Rattle.mst_key.proofs.Layers.{one_of_8, two_of_8}
use Rattle.mst_node.specs.Reading.{part_at, child_at, counted_at, entry_at, entries_at, body_at, node_at}
use Rattle.mst_node.specs.Text.{FlatNode, digest_of}
use Rattle.mst_node.proofs.MapTextsInGrammar.{sha256_digest}
use Rattle.mst_proof.specs.declared.fault.ProofFault.{ProofFault}
use Rattle.mst_proof.specs.declared.fault.ProofFault.TheVariants.{OtherDigest}
use Rattle.mst_node.specs.KeyPlace.{place_of}
use Rattle.mst_proof.specs.Frame.{◌>>◌, text_at, texts_at, claim_at}
use Rattle.mst_proof.specs.Verdict.{step_at, step_of, step_in_node, node_in, first_expected, unless, by_step, answer_at_end, followed, settled}
use Rattle.mst_verifier.specs.declared.question.Refusal.TheVariants.{Root}
use Rattle.mst_verifier.specs.Codes.{code_of}
use Rattle.mst_verifier.specs.Question.{with_refusal}
use Rattle.mst_verifier.specs.Worked.{told, told_of, zeros, leaf, parent, leaf_in_format_2}

pub left_over : told 1 zeros (1 ∷ 0 ∷ 0 ∷ []) ≡ negsuc 12
unfolding texts_at
left_over = refl

pub no_node : told 1 zeros (1 ∷ 1 ∷ 0 ∷ 0 ∷ 0 ∷ 0 ∷ []) ≡ negsuc 13
unfolding texts_at text_at part_at step_at node_at
no_node = refl

differ : (a b : List ℕ) → a ≢ b → bytes_eq a b ≡ false
differ a b not = by (bytes_eq a b) refl
  where
    by : (t : Bool) → bytes_eq a b ≡ t → bytes_eq a b ≡ false
    by true is = absurd (not ((bytes_eq-Decides a b).0 is))
    by false is = is

same : (d : List ℕ) → bytes_eq d d ≡ true
same d = (bytes_eq-Decides d d).1 refl

pub other_digest : (root : List ℕ) → length root ≡ 32 → root ≢ digest_of []
    → told 1 root (1 ∷ 0 ∷ []) ≡ negsuc 14
unfolding texts_at
other_digest root size other =
    ap (λ (n : ℕ). code_of 0
    (if n == 32 then with_refusal
    (unless (bytes_eq root (digest_of [])) OtherDigest (Ok None) >> λ held. Ok held) else Err Root))
    size
    ∙ ap (λ (b : Bool). code_of 0
    (with_refusal (unless b OtherDigest (Ok None) >> λ held. Ok held)))
    (differ root (digest_of []) other)

-- ---- texts whose digest is the root

-- what is returned if a first text is passed, by the step that it makes
abbrev told_by : {S : Type 0} → (S → Result (Option (List ℕ)) ProofFault)
    → (Option (List ℕ) → Result (Option (List ℕ)) ProofFault) → ℕ → Result S ProofFault → ℤ
told_by next settle size step =
    code_of 0 (if size == 32 then with_refusal (step >> next >> settle) else Err Root)

abbrev node_of_8 : TreeFormat → ℕ → List ℕ → Option (List ℕ) → FlatNode
node_of_8 format layer held tail =
    record {
      format = format;
      layer = layer;
      entries =
          record { child = None; key = 0x38 ∷ []; held = held } ∷ [];
      tail = tail;
    }

leaf_is : node_in One leaf ≡ Some (node_of_8 One 0 (0x78 ∷ []) None)
unfolding node_at body_at entries_at entry_at counted_at child_at part_at
leaf_is =
    ap (λ (l : ℕ). if (l == 0 && true) && true then Some (node_of_8 One 0 (0x78 ∷ []) None)
    else None) one_of_8

parent_is : node_in One parent ≡ Some (node_of_8 One 0 (0x78 ∷ []) (Some zeros))
unfolding node_at body_at entries_at entry_at counted_at child_at part_at
parent_is =
    ap (λ (l : ℕ). if (l == 0 && true) && true then Some (node_of_8 One 0 (0x78 ∷ []) (Some zeros))
    else None) one_of_8

leaf_in_2_is : node_in Two leaf_in_format_2 ≡ Some (node_of_8 Two 1 zeros None)
unfolding node_at body_at entries_at entry_at counted_at child_at part_at
leaf_in_2_is =
    ap (λ (l : ℕ). if (l == 1 && true) && true then Some (node_of_8 Two 1 zeros None) else None)
    two_of_8

module _ (format : TreeFormat) (key text : List ℕ) (layer : ℕ) (held : List ℕ)
    (tail : Option (List ℕ)) (is : node_in format text ≡ Some (node_of_8 format layer held tail))
  where
    -- the first text is passed, since the root is its digest
    step_is : step_at format key (first_expected (digest_of text)) text ≡ Ok
        (step_of layer
        (place_of key (first_expected (digest_of text)).span (node_of_8 format layer held tail)))
    unfolding step_at
    step_is =
        ap (λ (o : Option FlatNode). step_in_node key (first_expected (digest_of text)) text o)
        is
        ∙ ap (λ (b : Bool). unless b OtherDigest
        (Ok (step_of layer
        (place_of key (first_expected (digest_of text)).span
        (node_of_8 format layer held tail))))) (same (digest_of text))

    told_of_first : (behind : List (List ℕ))
        (settle : Option (List ℕ) → Result (Option (List ℕ)) ProofFault)
        → told_by (λ s. by_step s (answer_at_end behind) (λ x. followed format key x behind)) settle
        (length (digest_of text)) (step_at format key (first_expected (digest_of text)) text)
        ≡ told_by (λ s. by_step s (answer_at_end behind) (λ x. followed format key x behind)) settle
        32
        (Ok (step_of layer
        (place_of key (first_expected (digest_of text)).span (node_of_8 format layer held tail))))
    told_of_first behind settle =
        ap (λ (n : ℕ). told_by
        (λ s. by_step s (answer_at_end behind) (λ x. followed format key x behind)) settle n
        (step_at format key (first_expected (digest_of text)) text)) (sha256_digest text).size
        ∙ ap (λ r. told_by
        (λ s. by_step s (answer_at_end behind) (λ x. followed format key x behind))
        settle 32 r) step_is

-- the gap of a key after `8` has a child, and no text follows
pub unfinished : told_of (0x39 ∷ []) 1 (digest_of parent) (1 ∷ 1 ∷ 0 ∷ 0 ∷ 0 ∷ 42 ∷ parent) ≡ negsuc
    17
unfolding texts_at text_at part_at
unfinished = told_of_first One (0x39 ∷ []) parent 0 (0x78 ∷ []) (Some zeros) parent_is []
    (λ held. Ok held)

-- a text follows one that decides
pub text_behind : told 1 (digest_of leaf) (1 ∷ 2 ∷ 0 ∷ 0 ∷ 0 ∷ 10 ∷ leaf ++ (0 ∷ 0 ∷ 0 ∷ 0 ∷ []))
    ≡ negsuc 18
unfolding texts_at text_at part_at
text_behind = told_of_first One (0x38 ∷ []) leaf 0 (0x78 ∷ []) None leaf_is ([] ∷ [])
    (λ held. Ok held)

-- the tail claims that a key which is held is absent
pub other_value : told 2 (digest_of leaf_in_format_2)
    (2 ∷ 1 ∷ 0 ∷ 0 ∷ 0 ∷ 40 ∷ leaf_in_format_2 ++ (0 ∷ [])) ≡ negsuc 19
unfolding texts_at text_at part_at
other_value = told_of_first Two (0x38 ∷ []) leaf_in_format_2 1 zeros None leaf_in_2_is []
    (λ held. claim_at Two (0 ∷ []) >> λ claim. settled Two claim held)
