-- The pair of an entry in its words, and its text, laid piece by piece: of each piece as many
-- bytes as count.
use Rattle.mst_arena.proofs.Names.{◌≡◌, ◌≤◌, ◌+◌, ◌*◌, ◌/◌, ◌%◌, ◌++◌, ◌∷◌, ◌∙◌, [], ℕ, List, Option, Some, length, take, ap, refl, subst, sym, arith, slice_index, slice_range, option_and_then, length-take-le, IsKey, IsValue, Pair, counted, Row, Entry, HasBytes, keyed_links, entry_pair, bytes_in, part_in}
use Rattle.std.specs.Prelude.{IsSome}
use Rattle.std.proofs.Math.Seq.{take-append-add}
use Rattle.std.proofs.lemmas.List.{append_assoc, take-append-le}
use Rattle.std.proofs.lemmas.Option.{same_Some}
use Rattle.mst_arena.specs.Words.{lengths_word, first_key_word, first_value_word}
use Rattle.mst_arena.proofs.Readers.{EntryIn, entry_with, entry_pair_of, four_bytes, eight_bytes, front_of}
use borrow.Rule.Slice.PartMut.{put_mid, post_of}

-- a piece is laid behind what stands before its place
pub laid : (at k n : ℕ) (text bytes : List ℕ) → at ≤ length text → n ≤ length bytes
    → take (at + n) (put_mid at k text bytes) ≡ take at text ++ take n bytes
laid at k n text bytes within few =
    let front : length (take at text) ≡ at = omega (arith, length-take-le at text, within) in
    ap (λ (x : ℕ). take (x + n) (put_mid at k text bytes)) (sym front)
    ∙ take-append-add (take at text) (bytes ++ post_of at k text) n
    ∙ ap (λ (x : List ℕ). take at text ++ x) (take-append-le n bytes (post_of at k text) few)

-- the pieces behind a child are the key and the value, each after its length
pub entry_laid : (child key value : List ℕ) (len size : ℕ)
    → len ≤ length key → size ≤ length value
    → (((child ++ take 1 (len ∷ [])) ++ take len key) ++ take 1 (size ∷ [])) ++ take size value
    ≡ (child ++ counted (take len key)) ++ counted (take size value)
entry_laid child key value len size few little =
    let front : length (take len key) ≡ len = omega (arith, length-take-le len key, few) in
    let back : length (take size value) ≡ size = omega (arith, length-take-le size value, little) in
    let first : (child ++ len ∷ []) ++ take len key ≡ child ++ counted (take len key) =
    append_assoc child (len ∷ []) (take len key)
    ∙ ap (λ (x : ℕ). child ++ (x ∷ take len key)) (sym front) in
    append_assoc ((child ++ len ∷ []) ++ take len key) (size ∷ []) (take size value)
    ∙ ap (λ (x : ℕ). ((child ++ len ∷ []) ++ take len key) ++ (x ∷ take size value)) (sym back)
    ∙ ap (λ (x : List ℕ). x ++ counted (take size value)) first

-- a text of three parts, behind another
pub behind_all : (before first second third : List ℕ) {all : List ℕ}
    → all ≡ (first ++ second) ++ third
    → before ++ all ≡ ((before ++ first) ++ second) ++ third
behind_all before first second third is =
    ap (λ (x : List ℕ). before ++ x) is
    ∙ sym (append_assoc before (first ++ second) third)
    ∙ ap (λ (x : List ℕ). x ++ third) (sym (append_assoc before first second))

-- the pair of the entry that sixteen words spell
pub record PairIn (words : List ℕ) (pair : Pair) : Type 0 where
  pub few : slice_index words lengths_word % 256 ≤ 32
  pub little : slice_index words lengths_word / 256 ≤ 64
  pub key : take (slice_index words lengths_word % 256)
      (bytes_in (slice_range words first_key_word first_value_word)) ≡ pair.0
  pub value : take (slice_index words lengths_word / 256)
      (bytes_in (slice_range words first_value_word 16)) ≡ pair.1
  pub limits : IsKey pair.0 × IsValue pair.1

pub pair_in_words : (words : List ℕ) (pair : Pair) → part_in entry_pair words ≡ Some pair
    → PairIn words pair
pair_in_words words pair is =
    let some : IsSome (part_in entry_pair words) = subst IsSome (sym is) refl in
    let e : EntryIn words = entry_with entry_pair words (λ layer count first tail digest. refl)
    some in
    let bytes : HasBytes (Entry e.child e.next e.key e.value) = e.bytes in
    let same : (e.key, e.value) ≡ pair =
    same_Some (e.key, e.value) pair (sym (ap (option_and_then entry_pair) e.row) ∙ is) in
    let lengths : ℕ = slice_index words lengths_word in
    let third : lengths ≡ length e.key + 256 * length e.value =
    ap (λ (l : List ℕ). slice_index l 3) (sym e.same) in
    let four : length (slice_range words 4 8) ≡ 4 =
    subst (λ (l : List ℕ). length (slice_range l 4 8) ≡ 4) e.same refl in
    let eight : length (slice_range words 8 16) ≡ 8 =
    subst (λ (l : List ℕ). length (slice_range l 8 16) ≡ 8) e.same refl in
    let found : part_in entry_pair words ≡ Some (
      front_of (lengths % 256) 32 (slice_range words 4 8),
      front_of (lengths / 256) 64 (slice_range words 8 16),
    ) = entry_pair_of lengths (slice_range words 4 8) (slice_range words 8 16) words _
    (λ key value a b len size front back.
    (λ i. Some (
      (sym front ∙ ap (λ (n : ℕ). front_of n 32 (slice_range words 4 8)) (sym len)) i,
      (sym back ∙ ap (λ (n : ℕ). front_of n 64 (slice_range words 8 16)) (sym size)) i,
    ))) refl refl refl (subst (λ (o : Option Row). IsSome (option_and_then keyed_links o))
    (sym e.row) refl) in
    let both : (
      front_of (lengths % 256) 32 (slice_range words 4 8),
      front_of (lengths / 256) 64 (slice_range words 8 16),
    ) ≡ pair = same_Some _ pair (sym found ∙ is) in
    record {
      few = omega (arith, third, bytes.0);
      little = omega (arith, third, bytes.0, bytes.2);
      key = ap (take (lengths % 256)) (sym (four_bytes (slice_range words 4 8) four))
          ∙ ap (λ (p : Pair). p.0) both;
      value = ap (take (lengths / 256)) (sym (eight_bytes (slice_range words 8 16) eight))
          ∙ ap (λ (p : Pair). p.1) both;
      limits = subst (λ (p : Pair). IsKey p.0 × IsValue p.1) same (bytes.0, bytes.2);
    }
