-- The words of an entry behind a key of 16 bytes, and behind a value of 32, are 0.
use Rattle.mst_words.proofs.Names.{◌≡◌, ℕ, zero, suc, ◌+◌, ◌*◌, ◌<◌, ◌≤◌, ◌/◌, ◌%◌, List, [], ◌∷◌, length, Bool, true, false, Some, None, refl, sym, ◌∙◌, ap, arith, if◌then◌else◌, slice_index, slice_index_or, option_and_then, IsSome, part_at, HasBytes, keyed_links, word_from, Entry, EntryIn, entry_with, View, known_row, rows_in, may_read, content_of, IsPadded}
use Rattle.mst_arena.specs.Row.{bare_links, entry_value}
use Rattle.mst_arena.specs.Words.{words_of}
use Rattle.mst_arena.proofs.Packing.{past_word}
use Rattle.mst_arena.proofs.EntryParts.{links_in_words}

key_ends : (words : List ℕ) → EntryIn words → slice_index words 3 % 256 ≡ 16
    → (0 ≡ slice_index words 6) × (0 ≡ slice_index words 7)
key_ends words e short =
    let bytes : HasBytes (Entry e.child e.next e.key e.value) = e.bytes in
    let at : (i : ℕ) → slice_index words i
    ≡ slice_index (words_of (Entry e.child e.next e.key e.value)) i =
    λ i. ap (λ (l : List ℕ). slice_index l i) (sym e.same) in
    let three : slice_index words 3 ≡ length e.key + 256 * length e.value = at 3 in
    let six : slice_index words 6 ≡ word_from e.key 16 = at 6 in
    let seven : slice_index words 7 ≡ word_from e.key 24 = at 7 in
    let size : length e.key ≡ 16 = omega (arith, three, bytes.0, short) in (
      past_word e.key 16 (omega (arith, size)) ∙ sym six,
      past_word e.key 24 (omega (arith, size)) ∙ sym seven,
    )

value_ends : (words : List ℕ) → EntryIn words → slice_index words 3 / 256 ≡ 32
    → (0 ≡ slice_index words 12) × (0 ≡ slice_index words 13) × (0 ≡ slice_index words 14)
    × (0 ≡ slice_index words 15)
value_ends words e short =
    let bytes : HasBytes (Entry e.child e.next e.key e.value) = e.bytes in
    let at : (i : ℕ) → slice_index words i
    ≡ slice_index (words_of (Entry e.child e.next e.key e.value)) i =
    λ i. ap (λ (l : List ℕ). slice_index l i) (sym e.same) in
    let three : slice_index words 3 ≡ length e.key + 256 * length e.value = at 3 in
    let a : slice_index words 12 ≡ word_from e.value 32 = at 12 in
    let b : slice_index words 13 ≡ word_from e.value 40 = at 13 in
    let c : slice_index words 14 ≡ word_from e.value 48 = at 14 in
    let d : slice_index words 15 ≡ word_from e.value 56 = at 15 in
    let size : length e.value ≡ 32 = omega (arith, three, bytes.0, short) in (
      past_word e.value 32 (omega (arith, size)) ∙ sym a,
      past_word e.value 40 (omega (arith, size)) ∙ sym b,
      past_word e.value 48 (omega (arith, size)) ∙ sym c,
      past_word e.value 56 (omega (arith, size)) ∙ sym d,
    )

-- the words that were loaded, and the others
pub key_words : (f : ℕ → ℕ) (a b : List ℕ) → a ≡ f 1 ∷ f 2 ∷ f 3 ∷ [] → b ≡ f 4 ∷ f 5 ∷ []
    → (0 ≡ f 6) × (0 ≡ f 7)
    → slice_index_or a 0 0 ∷ slice_index_or a 1 0 ∷ slice_index_or a 2 0 ∷ slice_index_or b 0 0
    ∷ slice_index_or b 1 0 ∷ 0 ∷ 0 ∷ [] ≡ f 1 ∷ f 2 ∷ f 3 ∷ f 4 ∷ f 5 ∷ f 6 ∷ f 7 ∷ []
key_words f a b is_a is_b ends =
    ap (λ (x : List ℕ). slice_index_or x 0 0 ∷ slice_index_or x 1 0 ∷ slice_index_or x 2 0
    ∷ slice_index_or b 0 0 ∷ slice_index_or b 1 0 ∷ 0 ∷ 0 ∷ []) is_a
    ∙ ap (λ (y : List ℕ). f 1 ∷ f 2 ∷ f 3 ∷ slice_index_or y 0 0 ∷ slice_index_or y 1 0
    ∷ 0 ∷ 0 ∷ []) is_b
    ∙ (λ i. f 1 ∷ f 2 ∷ f 3 ∷ f 4 ∷ f 5 ∷ ends.0 i ∷ ends.1 i ∷ [])

-- the words of a key alone
pub key_four : (f : ℕ → ℕ) (a : List ℕ) → a ≡ f 4 ∷ f 5 ∷ [] → (0 ≡ f 6) × (0 ≡ f 7)
    → slice_index_or a 0 0 ∷ slice_index_or a 1 0 ∷ 0 ∷ 0 ∷ [] ≡ f 4 ∷ f 5 ∷ f 6 ∷ f 7 ∷ []
key_four f a is_a ends =
    ap (λ (x : List ℕ). slice_index_or x 0 0 ∷ slice_index_or x 1 0 ∷ 0 ∷ 0 ∷ []) is_a
    ∙ (λ i. f 4 ∷ f 5 ∷ ends.0 i ∷ ends.1 i ∷ [])

pub value_words : (f : ℕ → ℕ) (a : List ℕ) → a ≡ f 8 ∷ f 9 ∷ f 10 ∷ f 11 ∷ []
    → (0 ≡ f 12) × (0 ≡ f 13) × (0 ≡ f 14) × (0 ≡ f 15)
    → slice_index_or a 0 0 ∷ slice_index_or a 1 0 ∷ slice_index_or a 2 0 ∷ slice_index_or a 3 0
    ∷ 0 ∷ 0 ∷ 0 ∷ 0 ∷ [] ≡ f 8 ∷ f 9 ∷ f 10 ∷ f 11 ∷ f 12 ∷ f 13 ∷ f 14 ∷ f 15 ∷ []
value_words f a is_a ends =
    ap (λ (x : List ℕ). slice_index_or x 0 0 ∷ slice_index_or x 1 0 ∷ slice_index_or x 2 0
    ∷ slice_index_or x 3 0 ∷ 0 ∷ 0 ∷ 0 ∷ 0 ∷ []) is_a
    ∙ (λ i. f 8 ∷ f 9 ∷ f 10 ∷ f 11 ∷ ends.0 i ∷ ends.1 i ∷ ends.2 i ∷ ends.3 i ∷ [])

-- an entry that a pass may read
pub record KeyOf (v : View) (x : ℕ) : Type 0 where
  pub readable : may_read v x ≡ true
  pub ends : known_row v x 3 % 256 ≡ 16
      → (0 ≡ known_row v x 6) × (0 ≡ known_row v x 7)

pub record ValueOf (v : View) (x : ℕ) : Type 0 where
  pub readable : may_read v x ≡ true
  pub ends : known_row v x 3 / 256 ≡ 32
      → (0 ≡ known_row v x 12) × (0 ≡ known_row v x 13)
      × (0 ≡ known_row v x 14) × (0 ≡ known_row v x 15)

pub key_of : (v : View) (x : ℕ) → IsSome (part_at keyed_links (content_of v) x) → KeyOf v x
key_of v x some = go (may_read v x) refl some
  where
    go : (b : Bool) → may_read v x ≡ b
        → IsSome (option_and_then keyed_links (if b then rows_in (known_row v) x else None))
        → KeyOf v x
    go true e some = record {
      readable = e;
      ends = key_ends _
          (entry_with keyed_links _ (λ layer count first tail digest. refl) some);
    }
    go false e some = cc

pub value_of : (v : View) (x : ℕ) → IsSome (part_at entry_value (content_of v) x) → ValueOf v x
value_of v x some = go (may_read v x) refl some
  where
    go : (b : Bool) → may_read v x ≡ b
        → IsSome (option_and_then entry_value (if b then rows_in (known_row v) x else None))
        → ValueOf v x
    go true e some = record {
      readable = e;
      ends = value_ends _
          (entry_with entry_value _ (λ layer count first tail digest. refl) some);
    }
    go false e some = cc

-- an entry that is copied
pub record Source (v : View) (x : ℕ) : Type 0 where
  pub readable : may_read v x ≡ true
  pub kind : known_row v x 0 ≡ 1
  pub ends : IsPadded (known_row v x 3) (known_row v x)

by_two : (f : ℕ → ℕ) → (0 ≡ f 6) × (0 ≡ f 7) → (k : ℕ) → k < 2 → f (6 + k) ≡ 0
by_two f ends zero lt = sym ends.0
by_two f ends (suc zero) lt = sym ends.1
by_two f ends (suc (suc k)) lt = absurd (omega arith)

by_four : (f : ℕ → ℕ) → (0 ≡ f 12) × (0 ≡ f 13) × (0 ≡ f 14) × (0 ≡ f 15) → (k : ℕ) → k < 4
    → f (12 + k) ≡ 0
by_four f ends zero lt = sym ends.0
by_four f ends (suc zero) lt = sym ends.1
by_four f ends (suc (suc zero)) lt = sym ends.2
by_four f ends (suc (suc (suc zero))) lt = sym ends.3
by_four f ends (suc (suc (suc (suc k)))) lt = absurd (omega arith)

pub source_of : (v : View) (x : ℕ) → IsSome (part_at keyed_links (content_of v) x) → Source v x
source_of v x some = go (may_read v x) refl some
  where
    go : (b : Bool) → may_read v x ≡ b
        → IsSome (option_and_then keyed_links (if b then rows_in (known_row v) x else None))
        → Source v x
    go true e some =
        let i = entry_with keyed_links _ (λ layer count first tail digest. refl) some in
        record {
          readable = e;
          kind = sym (ap (λ (l : List ℕ). slice_index l 0) i.same);
          ends = record {
            key = λ is k lt. let size : known_row v x 3 % 256 ≡ 16 = omega (arith, is) in
                by_two (known_row v x) (key_ends _ i size) k lt;
            value = λ is k lt. let size : known_row v x 3 / 256 ≡ 32 = omega (arith, is) in
                by_four (known_row v x) (value_ends _ i size) k lt;
          };
        }
    go false e some = cc

-- its links are small, and stand in words 1 and 2
pub record LinksAt (v : View) (x : ℕ) : Type 0 where
  pub child : known_row v x 1 ≤ 65535
  pub next : known_row v x 2 ≤ 65535
  pub ends : part_at bare_links (content_of v) x ≡ Some
      (record { child = known_row v x 1; next = known_row v x 2 })

pub links_of : (v : View) (x : ℕ) → IsSome (part_at keyed_links (content_of v) x) → LinksAt v x
links_of v x some = go (may_read v x) refl some
  where
    go : (b : Bool) → may_read v x ≡ b
        → IsSome (option_and_then keyed_links (if b then rows_in (known_row v) x else None))
        → LinksAt v x
    go true e some = let w = links_in_words _ some in
        record { child = w.child; next = w.next; ends = rw e w.ends }
    go false e some = cc
