-- What a text says of a key, test by test.
use Rattle.mst_proof.proofs.Names.{Format, ◌≡◌, ℕ, Bool, true, false, List, Some, None, ap, ◌∙◌, list_all, bytes_eq, Result, Ok, Err, FlatNode, digest_of, place_of, ProofFault, NoNode, OtherDigest, LayerNotBelow, KeyOutside, Expected, Step, node_in, is_under, is_inside, step_of, step_in_node, unless}
use Rattle.mst_proof.specs.Verdict.{step_at}

module _ (format : Format) (k text : List ℕ) (x : Expected) where
  pub step-no_node : node_in format text ≡ None → step_at format k x text ≡ Err NoNode
  unfolding step_at
  step-no_node none = ap (step_in_node k x text) none

  module _ (n : FlatNode) (is : node_in format text ≡ Some n) where
    abbrev digests : Bool
    digests = bytes_eq (digest_of text) x.digest

    abbrev layers : Bool
    layers = is_under x.upper n.layer

    abbrev keys : Bool
    keys = list_all (λ e. is_inside x.span e.key) n.entries

    abbrev place : Result Step ProofFault
    place = Ok (step_of n.layer (place_of k x.span n))

    pub step-other_digest : digests ≡ false → step_at format k x text ≡ Err OtherDigest
    unfolding step_at
    step-other_digest d = ap (step_in_node k x text) is
        ∙ ap (λ (t : Bool). unless t OtherDigest
        (unless layers LayerNotBelow (unless keys KeyOutside place))) d

    pub step-not_below : digests ≡ true → layers ≡ false → step_at format k x text
        ≡ Err LayerNotBelow
    unfolding step_at
    step-not_below d l =
        ap (step_in_node k x text) is
        ∙ ap (λ (t : Bool). unless t OtherDigest
        (unless layers LayerNotBelow (unless keys KeyOutside place))) d
        ∙ ap (λ (t : Bool). unless t LayerNotBelow (unless keys KeyOutside place)) l

    pub step-outside : digests ≡ true → layers ≡ true → keys ≡ false → step_at format k x text
        ≡ Err KeyOutside
    unfolding step_at
    step-outside d l s =
        ap (step_in_node k x text) is
        ∙ ap (λ (t : Bool). unless t OtherDigest
        (unless layers LayerNotBelow (unless keys KeyOutside place))) d
        ∙ ap (λ (t : Bool). unless t LayerNotBelow (unless keys KeyOutside place)) l
        ∙ ap (λ (t : Bool). unless t KeyOutside place) s

    pub step-passed : digests ≡ true → layers ≡ true → keys ≡ true → step_at format k x text ≡ Ok
        (step_of n.layer (place_of k x.span n))
    unfolding step_at
    step-passed d l s =
        ap (step_in_node k x text) is
        ∙ ap (λ (t : Bool). unless t OtherDigest
        (unless layers LayerNotBelow (unless keys KeyOutside place))) d
        ∙ ap (λ (t : Bool). unless t LayerNotBelow (unless keys KeyOutside place)) l
        ∙ ap (λ (t : Bool). unless t KeyOutside place) s
