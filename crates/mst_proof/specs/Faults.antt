-- Which tests a proof has passed when a fault is returned: those of its frame, then those of each
-- text in turn, and last that of its claim.
use Rattle.mst_key.specs.declared.format.Format.{Format}
use Rattle.std.specs.Prelude.{◌≡◌, ◌≢◌, ◌⊎◌, ◌<◌, ◌^◌, ℕ, List, [], ◌∷◌, ◌++◌, Option, None, length, map, IfSome}
use Rattle.std.specs.List.{AllByRecursion}
use Rattle.mst_key.specs.declared.format.Format.TheVariants.{One, Two}
use Rattle.mst_node.specs.Text.{FlatEntry, FlatNode, spelling, digest_of, format_byte}
use Rattle.mst_node.specs.Gaps.{IsBetween}
use Rattle.mst_node.specs.Grammar.{IsFlatNode, InGrammar}
use Rattle.mst_node.specs.Trail.{framed, answer_text}
use Rattle.mst_proof.specs.declared.fault.ProofFault.{ProofFault}
use Rattle.mst_proof.specs.declared.fault.ProofFault.TheVariants.{FormatByte, CutShort, LeftOver, NoNode, OtherDigest, LayerNotBelow, KeyOutside, Unfinished, TextBehind, OtherValue}
use Rattle.mst_proof.specs.Accepted.{IsExpected, Holds, IsInGap, gap_child, LeadsOn, LeadsFrom, held_answer, IsAnswer}

-- ---- the frame

-- A tail, which claims an answer. In format 1 it has no byte. In format 2 it is one byte that is
-- not 1, or a byte 1 and a value after its length
abbrev pub IsTail : Format → List ℕ → Type 0
IsTail One tail = tail ≡ []
IsTail Two tail = ((b : ℕ) × (b ≢ 1) × (tail ≡ b ∷ []))
    ⊎ ((value : List ℕ) × (tail ≡ 1 ∷ length value ∷ value))

-- a text whose length four bytes hold
abbrev pub IsShort : List ℕ → Type 0
IsShort text = length text < 2 ^ 32

-- the bytes are the format's byte, the number of these texts, the texts, each after its length in
-- four bytes, the tail, and the rest
pub record Frames (format : Format) (bytes : List ℕ) (texts : List (List ℕ)) (tail rest : List ℕ)
    : Type 0 where
  pub short : AllByRecursion IsShort texts
  pub whole : bytes ≡ format_byte format ∷ length texts ∷ framed texts ++ (tail ++ rest)

-- The first byte is not the format's; or no front of the bytes frames texts and a tail; or bytes
-- are left over.
abbrev pub FrameFails : Format → List ℕ → ProofFault → Type 0
FrameFails format bytes FormatByte =
    (v : ℕ) × (rest : List ℕ) × (bytes ≡ v ∷ rest) × (v ≢ format_byte format)
FrameFails format bytes CutShort =
    ((v : ℕ) (rest : List ℕ) → bytes ≡ v ∷ rest → v ≡ format_byte format)
    × ((texts : List (List ℕ)) (tail rest : List ℕ) → IsTail format tail
    → Frames format bytes texts tail rest → ⊥)
FrameFails format bytes LeftOver =
    (texts : List (List ℕ)) × (tail : List ℕ) × (b : ℕ) × (rest : List ℕ) × IsTail format tail
    × Frames format bytes texts tail (b ∷ rest)
FrameFails format bytes NoNode = ⊥
FrameFails format bytes OtherDigest = ⊥
FrameFails format bytes LayerNotBelow = ⊥
FrameFails format bytes KeyOutside = ⊥
FrameFails format bytes Unfinished = ⊥
FrameFails format bytes TextBehind = ⊥
FrameFails format bytes OtherValue = ⊥

-- ---- one text

-- the text is in the grammar and spells the flat node
abbrev pub Spells : (format : Format) → List ℕ → FlatNode → Type 0
Spells format text n = (n.format ≡ format) × IsFlatNode n × (text ≡ spelling n)

-- the text has passed the tests before the one of the fault, and fails that one
abbrev pub FailsBy : (format : Format) → List ℕ → Option ℕ → Option (List ℕ) → Option (List ℕ)
    → List ℕ → ProofFault → Type 0
FailsBy format d upper low high text NoNode = InGrammar format text → ⊥
FailsBy format d upper low high text OtherDigest = InGrammar format text × (digest_of text ≢ d)
FailsBy format d upper low high text LayerNotBelow =
    (n : FlatNode) × Spells format text n × (digest_of text ≡ d)
    × (IfSome upper (λ u. n.layer < u) → ⊥)
FailsBy format d upper low high text KeyOutside =
    (n : FlatNode) × Spells format text n × (digest_of text ≡ d) × IfSome upper (λ u. n.layer < u)
    × (AllByRecursion (λ e. IsBetween low high e.key) n.entries → ⊥)
FailsBy format d upper low high text FormatByte = ⊥
FailsBy format d upper low high text CutShort = ⊥
FailsBy format d upper low high text LeftOver = ⊥
FailsBy format d upper low high text Unfinished = ⊥
FailsBy format d upper low high text TextBehind = ⊥
FailsBy format d upper low high text OtherValue = ⊥

-- ---- the texts

-- the flat node holds the key, or the key's gap has no child
abbrev pub Decides : List ℕ → FlatNode → Type 0
Decides k n = ((v : List ℕ) × Holds n k v)
    ⊎ ((before : List FlatEntry) × (behind : List FlatEntry) × IsInGap n k before behind
    × (gap_child behind n.tail ≡ None))

-- No text is left although one is expected; or the first text fails a test; or it decides the key
-- and another text follows; or it leads on, and what is left fails.
abbrev pub FailAt : (format : Format) → List ℕ → List ℕ → Option ℕ → Option (List ℕ)
    → Option (List ℕ)
    → List (List ℕ) → ProofFault → Type 0
FailAt format k d upper low high [] fault = fault ≡ Unfinished
FailAt format k d upper low high (t ∷ ts) fault =
    FailsBy format d upper low high t fault
    ⊎ ((n : FlatNode) × Spells format t n × IsExpected d upper low high n
    × ((Decides k n × (ts ≢ []) × (fault ≡ TextBehind)) ⊎ LeadsOn k low high n
    (λ d u l h. FailAt format k d u l h ts fault)))

-- there are no texts, and the root is not that of the empty map
abbrev pub TextsFail : (format : Format) → List ℕ → List ℕ → List (List ℕ) → ProofFault → Type 0
TextsFail format root k [] fault = (root ≢ digest_of []) × (fault ≡ OtherDigest)
TextsFail format root k (t ∷ ts) fault = FailAt format k root None None None (t ∷ ts) fault

-- ---- the answer

-- the texts are those of flat nodes, the last of which holds this of the key
abbrev pub Show : Format → List ℕ → List ℕ → List (List ℕ) → Option (List ℕ) → Type 0
Show format root k texts held = (nodes : List FlatNode)
    × AllByRecursion (λ n. (n.format ≡ format) × IsFlatNode n) nodes
    × (texts ≡ map spelling nodes) × LeadsFrom root k nodes held

-- the texts show what is held of the key, and the tail claims no answer of which that is held
abbrev pub SettleFails : Format → List ℕ → List ℕ → List (List ℕ) → List ℕ → ProofFault → Type 0
SettleFails format root k texts tail fault = (fault ≡ OtherValue)
    × ((held : Option (List ℕ)) × Show format root k texts held
    × ((answer : Option (List ℕ)) → IsAnswer format answer → tail ≡ answer_text format answer
    → held ≡ held_answer format answer → ⊥))

-- the frame fails, or all of it is well and the texts fail, or these are well and the claim fails
abbrev pub ProofFails : Format → List ℕ → List ℕ → List ℕ → ProofFault → Type 0
ProofFails format root k proof fault = FrameFails format proof fault
    ⊎ ((texts : List (List ℕ)) × (tail : List ℕ) × IsTail format tail
    × Frames format proof texts tail []
    × (TextsFail format root k texts fault ⊎ SettleFails format root k texts tail fault))
