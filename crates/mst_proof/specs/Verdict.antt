-- The verdict on a proof, by the tests in their order.
use Rattle.mst_key.specs.declared.format.Format.{Format}
use Rattle.std.specs.Prelude.{ℕ, ◌==◌, nat_lt, ◌&&◌, Bool, true, if◌then◌else◌, List, [], ◌∷◌, Option, Some, None, map}
use Rattle.std.specs.Option.{option_map_or}
use Rattle.std.specs.List.{list_all}
use Rattle.std.specs.Str.{bytes_eq}
use Rattle.std.specs.Ordering.{is_lt}
use Rattle.std.specs.declared.result.Result.{Result}
use Rattle.std.specs.declared.result.Result.TheVariants.{Ok, Err}
use Rattle.mst_key.specs.Layer.{layer_in}
use Rattle.mst_key.specs.Map.{key_cmp, above, below}
use Rattle.mst_node.specs.Text.{FlatNode, digest_of}
use Rattle.mst_node.specs.Reading.{◌>>=◌, node_at}
use Rattle.mst_node.specs.KeyPlace.{place_of}
use Rattle.mst_node.specs.declared.key_place.KeyPlace.{KeyPlace}
use Rattle.mst_node.specs.declared.key_place.KeyPlace.TheVariants.{Found, Gap}
use Rattle.mst_node.specs.declared.key_place.Span.{Span}
use Rattle.mst_proof.specs.declared.fault.ProofFault.{ProofFault}
use Rattle.mst_proof.specs.declared.fault.ProofFault.TheVariants.{NoNode, OtherDigest, LayerNotBelow, KeyOutside, Unfinished, TextBehind, OtherValue}
use Rattle.mst_proof.specs.declared.expected.Expected.{Expected}
use Rattle.mst_proof.specs.declared.expected.Step.{Step}
use Rattle.mst_proof.specs.declared.expected.Step.TheVariants.{Decided, Onward}
use Rattle.mst_key.specs.declared.format.Format.TheVariants.{One, Two}
use Rattle.mst_proof.specs.declared.claim.Claim.{Claim}
use Rattle.mst_proof.specs.declared.claim.Claim.TheVariants.{Nothing, Absence, Given, Unfit}
use Rattle.mst_proof.specs.Frame.{◌>>◌, frame_at}

-- whether a test that has this fault is passed
abbrev pub unless : {A : Type 0} → Bool → ProofFault → Result A ProofFault → Result A ProofFault
unless passed fault rest = if passed then rest else Err fault

-- ---- the tests of a text

-- keys that rise strictly
abbrev pub are_rising : List (List ℕ) → Bool
are_rising [] = true
are_rising (k ∷ ks) = list_all (λ j. is_lt (key_cmp k j)) ks && are_rising ks

-- keys that have the layer of their node, and rise strictly
abbrev pub do_fit : FlatNode → Bool
do_fit n = list_all (λ e. layer_in n.format e.key == n.layer) n.entries
    && are_rising (map (λ e. e.key) n.entries)

-- the flat node of a text in the grammar
abbrev pub node_in : (format : Format) → List ℕ → Option FlatNode
node_in format text = node_at format text >>= λ n. if do_fit n then Some n else None

-- a layer below another, which need not be there
abbrev pub is_under : Option ℕ → ℕ → Bool
is_under upper l = option_map_or (λ u. nat_lt l u) upper true

-- a key in a span
abbrev pub is_inside : Span → List ℕ → Bool
is_inside span k = above span.low k && below span.high k

-- the answer that a key's place gives, or what it expects of the next text
abbrev pub step_of : ℕ → KeyPlace → Step
step_of l (Found v) = Decided (Some v)
step_of l (Gap None span) = Decided None
step_of l (Gap (Some d) span) = Onward (record { digest = d; upper = Some l; span = span })

-- the tests of a text that spells this node, if it spells one
abbrev pub step_in_node : List ℕ → Expected → List ℕ → Option FlatNode → Result Step ProofFault
step_in_node k x text None = Err NoNode
step_in_node k x text (Some n) =
    unless (bytes_eq (digest_of text) x.digest) OtherDigest (
    unless (is_under x.upper n.layer) LayerNotBelow (
    unless (list_all (λ e. is_inside x.span e.key) n.entries) KeyOutside (
    Ok (step_of n.layer (place_of k x.span n)))))

-- what a text says of the key, or the first test that it fails
unfoldable pub step_at : (format : Format) → List ℕ → Expected → List ℕ → Result Step ProofFault
step_at format k x text = step_in_node k x text (node_in format text)

-- ---- the texts of a proof

-- of the first text only the digest is known
abbrev pub first_expected : List ℕ → Expected
first_expected root =
    record { digest = root; upper = None; span = record { low = None; high = None } }

-- an answer that ends the proof
abbrev pub answer_at_end : List (List ℕ) → Option (List ℕ) → Result (Option (List ℕ)) ProofFault
answer_at_end [] answer = Ok answer
answer_at_end (t ∷ ts) answer = Err TextBehind

abbrev pub by_step : {A : Type 0} → Step → (Option (List ℕ) → A) → (Expected → A) → A
by_step (Decided answer) decided onward = decided answer
by_step (Onward x) decided onward = onward x

-- the texts, followed from one to the next
abbrev pub followed : (format : Format) → List ℕ → Expected → List (List ℕ)
    → Result (Option (List ℕ)) ProofFault
followed format k x [] = Err Unfinished
followed format k x (t ∷ ts) =
    step_at format k x t >> λ s. by_step s (answer_at_end ts) (λ next. followed format k next ts)

-- no texts are the proof of the empty map
abbrev pub judgement : (format : Format) → List ℕ → List ℕ → List (List ℕ)
    → Result (Option (List ℕ)) ProofFault
judgement format root k [] = unless (bytes_eq root (digest_of [])) OtherDigest (Ok None)
judgement format root k (t ∷ ts) = followed format k (first_expected root) (t ∷ ts)

-- ---- the answer

-- the value that is claimed, if its SHA-256 is what is held
abbrev pub opened : List ℕ → List ℕ → Result (Option (List ℕ)) ProofFault
opened value held = unless (bytes_eq (digest_of value) held) OtherValue (Ok (Some value))

-- What the claim and what is held of the key give together. In format 1 a node holds the value
abbrev pub settled : Format → Claim → Option (List ℕ) → Result (Option (List ℕ)) ProofFault
settled One claim held = Ok held
settled Two Absence None = Ok None
settled Two Absence (Some held) = Err OtherValue
settled Two (Given value) None = Err OtherValue
settled Two (Given value) (Some held) = opened value held
settled Two Nothing held = Err OtherValue
settled Two Unfit held = Err OtherValue

-- the answer of a proof for a root digest and a key, or the first test that it fails
abbrev pub verdict : (format : Format) → List ℕ → List ℕ → List ℕ
    → Result (Option (List ℕ)) ProofFault
verdict format root k proof =
    frame_at format proof >> λ f. judgement format root k f.0 >> λ held. settled format f.1 held
