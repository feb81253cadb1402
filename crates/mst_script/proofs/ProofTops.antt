-- The first text of a proof is that of the tree's top node.
use Rattle.mst_script.proofs.Names.{◌≡◌, ℕ, ◌<◌, ◌^◌, List, ◌∷◌, ◌++◌, length, get_or, map, refl, sym, ap, ◌∙◌, arith, length-append, encode_lower, Format, top_words}
use Rattle.std.proofs.lemmas.List.{append_assoc}
use Rattle.std.specs.Int.{w32, to_be_bytes}
use Rattle.mst_node.specs.Frame.{FramesFirst}
use Rattle.mst_node.specs.Text.{text, format_byte}
use Rattle.mst_node.specs.Trail.{nodes_met, met_in_gap, framed}
use Rattle.mst_node.specs.Tree.{Tree, Entries, empty, node}
use Rattle.mst_node.proofs.ReadIsSpelled.{some_same}
use Rattle.mst_node.proofs.Frames.{first_again}

-- the texts of the nodes of a tree that a search for the key meets, as a proof of a format has them
-- before its tail
abbrev pub proves : Format → List ℕ → List ℕ → Tree → List ℕ
proves f tail k t = format_byte f ∷ length (map text (nodes_met k t)) ∷ framed
    (map text (nodes_met k t)) ++ tail

-- a proof frames the top node's text first
frames_top : (f : Format) (tail k : List ℕ) (format : Format) (l : ℕ) (es : Entries)
    (proof : List ℕ) → proof ≡ proves f tail k (node format l es) → length proof < 2 ^ 32
    → FramesFirst proof (text (node format l es))
frames_top f tail k format l es proof is small =
    let top = text (node format l es) in
    let rest = framed (map text (met_in_gap k es)) in
    let size = to_be_bytes w32 (length top) in
    let whole : ((size ++ top) ++ rest) ++ tail ≡ (size ++ top) ++ (rest ++ tail) =
    append_assoc (size ++ top) rest tail in
    record {
      format_byte = format_byte f;
      count = length (map text (nodes_met k (node format l es)));
      rest = rest ++ tail;
      some = omega arith;
      size =
          omega (
            arith,
            small,
            ap length is,
            ap length whole,
            length-append (size ++ top)
                (rest ++ tail),
            length-append size top,
          );
      whole =
          is ∙ ap (λ (xs : List ℕ). format_byte f ∷ length
          (map text (nodes_met k (node format l es)))
          ∷ xs) whole;
    }

-- where a proof frames no text the tree is empty
pub no_top : (f : Format) (tail k : List ℕ) (t : Tree) (proof : List ℕ) → proof ≡ proves f tail k t
    → length proof < 2 ^ 32 → ((x : List ℕ) → FramesFirst proof x → ⊥) → top_words t ≡ top_words
    empty
no_top f tail k empty proof is small none = refl
no_top f tail k (node format l es) proof is small none =
    absurd (none (text (node format l es)) (frames_top f tail k format l es proof is small))

-- and where it frames one, that is the top node's
pub some_top : (f : Format) (tail k : List ℕ) (t : Tree) (proof x : List ℕ) → proof ≡ proves f tail
    k t → length proof < 2 ^ 32 → FramesFirst proof x → top_words t ≡ encode_lower x
some_top f tail k empty proof x is small first =
    let none : first.count ≡ 0 = ap (λ (xs : List ℕ). get_or xs 1 0) (sym first.whole ∙ is) in
    absurd (omega (arith, none, first.some))
some_top f tail k (node format l es) proof x is small first =
    let g = frames_top f tail k format l es proof is small in
    let same = some_same (text (node format l es), g.rest) (x, first.rest)
    (sym (first_again proof (text (node format l es)) g) ∙ first_again proof x first) in
    ap (λ (p : List ℕ × List ℕ). encode_lower p.0) same
