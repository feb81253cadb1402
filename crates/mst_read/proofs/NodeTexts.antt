-- The text of a node that is written from its rows.
use Rattle.mst_read.proofs.Names.{Format, ◌≡◌, ◌≤◌, ◌+◌, ℕ, List, ◌++◌, length, length-append, Option, Some, None, refl, sym, ◌∙◌, ap, arith, append_assoc, IfSome, node, text, heading, child_text, counted, held_text, held_of, child_digest, Content, KeyedLinks, Placed, Chain, end, cell, tree_of, entries_of, count_of}
use Rattle.mst_key.specs.declared.format.Format.TheVariants.{One, Two}
use Rattle.sha2.proofs.Facts256.{length-sha256}
use Rattle.std.specs.List.{flat_map}
use Rattle.mst_node.specs.Text.{entry_text, flat_entries, tail_digest}
use Rattle.mst_read.proofs.Walk.{Onward, AtCell, AtEnd, further}

-- the entries of the rest of a node and its last child, as they stand in its text
abbrev pub rest_text : (format : Format) → Chain → List ℕ
rest_text format rest = flat_map (entry_text format) (flat_entries format (entries_of format rest))
    ++ child_text (tail_digest (entries_of format rest))

-- what is written, with the text of the rest, is the whole text
abbrev pub Completes : (format : Format) → List ℕ → List ℕ → Chain → Type 0
Completes format out whole rest = out ++ rest_text format rest ≡ whole

entries_count : (format : Format) (c : Chain) → length (flat_entries format (entries_of format c))
    ≡ count_of c
entries_count format (end p) = refl
entries_count format (cell at p k v c) = omega (arith, entries_count format c)

pub text_starts : (format : Format) (layer count : ℕ) (c : Chain) (out : List ℕ)
    → count_of c ≡ count → out ≡ heading format layer count → Completes format out
    (text (node format layer (entries_of format c))) c
text_starts format layer count c out counted is =
    ap (λ (o : List ℕ). o ++ rest_text format c) is
    ∙ ap (λ (n : ℕ). heading format layer n ++ rest_text format c)
    (sym (entries_count format c ∙ counted))

goes_on : (format : Format) (at : ℕ) (p : Placed) (key value : List ℕ) (rest : Chain)
    (out next whole : List ℕ) → Completes format out whole (cell at p key value rest)
    → next ≡ ((out ++ child_text (child_digest (tree_of format p))) ++ counted key) ++ held_text
    format (held_of format value) → Completes format next whole rest
goes_on format at p key value rest out next whole before is =
    let a = child_text (child_digest (tree_of format p)) in
    let b = counted key in
    let v = held_text format (held_of format value) in
    let f = flat_map (entry_text format) (flat_entries format (entries_of format rest)) in
    let t = child_text (tail_digest (entries_of format rest)) in
    let apart : (((out ++ a) ++ b) ++ v) ++ (f ++ t) ≡ out ++ ((((a ++ b) ++ v) ++ f) ++ t) =
    joined out a b v f t in
    ap (λ (o : List ℕ). o ++ rest_text format rest) is ∙ apart ∙ before
  where
    joined : (o a b v f t : List ℕ) → (((o ++ a) ++ b) ++ v) ++ (f ++ t) ≡ o
        ++ ((((a ++ b) ++ v) ++ f) ++ t)
    joined o a b v f t = simp append_assoc refl

pub text_goes_on : (format : Format) (out : List ℕ) {content : Content} {tail row done all : ℕ}
    {e : KeyedLinks} {whole : List ℕ}
    (a : AtCell format content tail row done all e (Completes format out whole)) {next : List ℕ}
    → next ≡ ((out ++ child_text (child_digest (tree_of format a.child))) ++ counted e.key)
    ++ held_text format (held_of format a.value) → Onward format content tail e.next (done + 1) all
    (Completes format next whole)
text_goes_on format out {row = row} {e = e} {whole = whole} a {next} is =
    further a (Completes format next whole)
    (goes_on format row a.child e.key a.value a.rest out next whole a.holds is)

-- what stands for a value is at most 65 bytes
held_short : (format : Format) (v : List ℕ) → length v ≤ 64
    → length (held_text format (held_of format v)) ≤ 65
held_short One v few = omega (arith, few)
held_short Two v few = omega (arith, length-sha256 v)

-- an entry: a child, the key after its length, and what stands for the value
pub entry_length : (format : Format) (out d x y : List ℕ) → length y ≤ 64
    → length (((out ++ d) ++ counted x) ++ held_text format (held_of format y)) ≤ length out
    + length d + (1 + length x) + 65
entry_length format out d x y few =
    let held = held_text format (held_of format y) in
    omega (
      arith,
      held_short format y few,
      length-append out d,
      length-append (out ++ d)
          (counted x),
      length-append ((out ++ d) ++ counted x) held,
    )

pub text_ends : (format : Format) (out : List ℕ) {content : Content} {tail : ℕ} {whole : List ℕ}
    (a : AtEnd format content tail (Completes format out whole)) {last : List ℕ}
    → last ≡ out ++ child_text (child_digest (tree_of format a.child)) → last ≡ whole
text_ends format out a is = is ∙ a.holds

-- a text that was taken has at most so many bytes
pub short_text : (text : Option (List ℕ)) (m : List ℕ) (n : ℕ) → IfSome text (λ bytes. bytes ≡ m)
    → length m ≤ n → IfSome text (λ bytes. length bytes ≤ n)
short_text None m n taken few = tt
short_text (Some bytes) m n taken few = omega (arith, ap (λ (l : List ℕ). length l) taken, few)
