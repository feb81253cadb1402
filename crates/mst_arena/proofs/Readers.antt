-- The parts of the row that sixteen words spell, each from some of the words.
use Rattle.mst_arena.proofs.Names.{◌≡◌, ℕ, ◌+◌, ◌*◌, ◌/◌, ◌%◌, ◌<◌, ◌≤◌, List, [], ◌∷◌, length, take, drop, set, map, refl, sym, ◌∙◌, ap, subst, arith, Some, None, Option, slice_index, slice_range, option_and_then, range_with_len, ext_get_or, get_or-take, length-take-le, take_all, length-map-range_with_len, get_or-map-range_with_len, IsKey, IsValue, Pair, Row, Entry, Head, KeyedLinks, IsRow, HasBytes, keyed_links, entry_pair, entry_value, words_of, byte_of_words, bytes_in, row_in, part_in}
use Rattle.std.specs.Prelude.{IsSome}
use Rattle.std.proofs.lemmas.List.{get_or-drop, length-drop}
use Rattle.mst_arena.specs.declared.row.HeadLinks.{HeadLinks}
use Rattle.mst_arena.specs.Row.{head_links, head_digest}
use Rattle.mst_arena.specs.Content.{relinked}
use Rattle.mst_arena.proofs.Packing.{packed, bytes_back, front_back}
use Rattle.mst_arena.proofs.Spelling.{words_of_row, row_of_words}

-- words that are loaded one by one
pub words_at : (words : List ℕ) (a n : ℕ) → a + n ≤ length words → map (slice_index words)
    (range_with_len a n) ≡ take n (drop a words)
words_at words a n le = ext_get_or 0 _ (take n (drop a words))
    (omega (
      arith,
      length-map-range_with_len (slice_index words) a n,
      length-take-le n
          (drop a words),
      length-drop a words,
    ))
    (λ i lt.
    let within : i < n = omega (arith, length-map-range_with_len (slice_index words) a n) in
    get_or-map-range_with_len (slice_index words) a n i (a + i) 0 within refl
    ∙ sym (get_or-take n (drop a words) i 0 within ∙ get_or-drop a words i 0))

-- ---- all bytes of words, read one by one

all_words : (words : List ℕ) (n : ℕ) → length words ≡ n → map (slice_index words)
    (range_with_len 0 n) ≡ words
all_words words n len = words_at words 0 n (omega (arith, len)) ∙ take_all n words
    (omega (arith, len))

pub four_bytes : (words : List ℕ) → length words ≡ 4 → map (byte_of_words words)
    (range_with_len 0 32) ≡ bytes_in words
four_bytes words len =
    subst (λ (l : List ℕ). map (byte_of_words l) (range_with_len 0 32) ≡ bytes_in l)
    (all_words words 4 len) refl

pub eight_bytes : (words : List ℕ) → length words ≡ 8 → map (byte_of_words words)
    (range_with_len 0 64) ≡ bytes_in words
eight_bytes words len =
    subst (λ (l : List ℕ). map (byte_of_words l) (range_with_len 0 64) ≡ bytes_in l)
    (all_words words 8 len) refl

-- those of a key
pub key_bytes : (words : List ℕ) → length words ≡ 7
    → map (byte_of_words (slice_index words 3 ∷ slice_index words 4 ∷ slice_index words 5
    ∷ slice_index words 6 ∷ [])) (range_with_len 0 32) ≡ bytes_in (slice_range words 3 7)
key_bytes words len = ap bytes_in (words_at words 3 4 (omega (arith, len)))

-- ---- which part it is

-- what words that spell an entry, or a head, have
pub record EntryIn (words : List ℕ) : Type 0 where
  pub child : ℕ
  pub next : ℕ
  pub key : List ℕ
  pub value : List ℕ
  pub row : row_in words ≡ Some (Entry child next key value)
  pub limits : IsRow (Entry child next key value)
  pub bytes : HasBytes (Entry child next key value)
  pub same : words_of (Entry child next key value) ≡ words

pub record HeadIn (words : List ℕ) : Type 0 where
  pub layer : ℕ
  pub count : ℕ
  pub first : ℕ
  pub tail : ℕ
  pub digest : List ℕ
  pub row : row_in words ≡ Some (Head layer count first tail digest)
  pub limits : IsRow (Head layer count first tail digest)
  pub bytes : HasBytes (Head layer count first tail digest)
  pub same : words_of (Head layer count first tail digest) ≡ words

-- which of the two it is, by a part that the other does not have
pub entry_with : {A : Type 0} (part : Row → Option A) (words : List ℕ)
    → ((layer count first tail : ℕ) (digest : List ℕ) → part (Head layer count first tail digest)
    ≡ None) → IsSome (part_in part words) → EntryIn words
entry_with {A} part words not some = go (row_in words) refl some
  where
    go : (o : Option Row) → row_in words ≡ o → IsSome (option_and_then part o) → EntryIn words
    go None e some = cc
    go (Some (Entry child next key value)) e some =
        let is : IsRow (Entry child next key value) × HasBytes (Entry child next key value)
        × (words_of (Entry child next key value) ≡ words) =
        words_of_row words (Entry child next key value) e in
        record {
          child = child;
          next = next;
          key = key;
          value = value;
          row = e;
          limits =
              is.0;
          bytes = is.1;
          same = is.2;
        }
    go (Some (Head layer count first tail digest)) e some =
        let none : part (Head layer count first tail digest) ≡ None =
        not layer count first tail digest in
        cc

pub head_with : {A : Type 0} (part : Row → Option A) (words : List ℕ)
    → ((child next : ℕ) (key value : List ℕ) → part (Entry child next key value) ≡ None)
    → IsSome (part_in part words) → HeadIn words
head_with {A} part words not some = go (row_in words) refl some
  where
    go : (o : Option Row) → row_in words ≡ o → IsSome (option_and_then part o) → HeadIn words
    go None e some = cc
    go (Some (Head layer count first tail digest)) e some =
        let is : IsRow (Head layer count first tail digest)
        × HasBytes (Head layer count first tail digest)
        × (words_of (Head layer count first tail digest) ≡ words) =
        words_of_row words (Head layer count first tail digest) e in
        record {
          layer = layer;
          count = count;
          first = first;
          tail = tail;
          digest = digest;
          row =
              e;
          limits = is.0;
          bytes = is.1;
          same = is.2;
        }
    go (Some (Entry child next key value)) e some =
        let none : part (Entry child next key value) ≡ None = not child next key value in
        cc

-- ---- a head

pub head_links_of : (words all : List ℕ) (o : Option HeadLinks)
    → ((layer count first tail : ℕ) → layer ≤ 128 → count ≤ 65534 → first ≤ 65535 → tail ≤ 65535
    → words ≡ layer ∷ count ∷ first ∷ tail ∷ []
    → Some (record { layer = layer; count = count; first = first; tail = tail }) ≡ o)
    → words ≡ slice_range all 1 5 → IsSome (part_in head_links all) → part_in head_links all ≡ o
head_links_of words all o exact at some =
    let h : HeadIn all = head_with head_links all (λ child next key value. refl) some in
    let limits : IsRow (Head h.layer h.count h.first h.tail h.digest) = h.limits in
    let is : words ≡ h.layer ∷ h.count ∷ h.first ∷ h.tail ∷ [] =
    at ∙ ap (λ (l : List ℕ). slice_range l 1 5) (sym h.same) in
    ap (option_and_then head_links) h.row ∙ exact h.layer h.count h.first h.tail limits.0 limits.2
    limits.4 limits.5 is

pub head_digest_of : (words all : List ℕ) (digest : List ℕ) → digest ≡ map (byte_of_words words)
    (range_with_len 0 32) → words ≡ slice_range all 5 9 → IsSome (part_in head_digest all)
    → part_in head_digest all ≡ Some digest
head_digest_of words all digest read at some =
    let h : HeadIn all = head_with head_digest all (λ child next key value. refl) some in
    let bytes : HasBytes (Head h.layer h.count h.first h.tail h.digest) = h.bytes in
    let is : words ≡ packed 4 h.digest = at ∙ ap (λ (l : List ℕ). slice_range l 5 9) (sym h.same) in
    let same : digest ≡ h.digest =
    read
    ∙ ap (λ (l : List ℕ). map (byte_of_words l) (range_with_len 0 32)) is
    ∙ ap (λ (n : ℕ). map (byte_of_words (packed 4 h.digest)) (range_with_len 0 n)) (sym bytes.0)
    ∙ bytes_back 4 h.digest bytes.1 (omega (arith, bytes.0)) in
    ap (option_and_then head_digest) h.row ∙ ap Some (sym same)

-- ---- an entry

-- the first n of the bytes of words
abbrev pub front_of : ℕ → ℕ → List ℕ → List ℕ
front_of n size words = take n (map (byte_of_words words) (range_with_len 0 size))

pub keyed_links_of : (words all : List ℕ) (o : Option KeyedLinks)
    → ((child next : ℕ) (key : List ℕ) → child ≤ 65535 → next ≤ 65535 → IsKey key
    → slice_index words 0 ≡ child → slice_index words 1 ≡ next → slice_index words 2 % 256 ≡ length
    key → front_of (length key) 32 (slice_range words 3 7) ≡ key
    → Some (record { child = child; next = next; key = key }) ≡ o) → words ≡ slice_range all 1 8
    → IsSome (part_in keyed_links all) → part_in keyed_links all ≡ o
keyed_links_of words all o exact at some =
    let e : EntryIn all = entry_with keyed_links all (λ layer count first tail digest. refl) some in
    let limits : IsRow (Entry e.child e.next e.key e.value) = e.limits in
    let bytes : HasBytes (Entry e.child e.next e.key e.value) = e.bytes in
    let is : words ≡ e.child ∷ e.next ∷ (length e.key + 256 * length e.value) ∷ packed 4 e.key =
    at ∙ ap (λ (l : List ℕ). slice_range l 1 8) (sym e.same) in
    let size : slice_index words 2 % 256 ≡ length e.key = ap (λ (l : List ℕ). slice_index l 2 % 256)
    is ∙ omega (arith, bytes.0) in
    let front : front_of (length e.key) 32 (slice_range words 3 7) ≡ e.key =
    ap (λ (l : List ℕ). front_of (length e.key) 32 (slice_range l 3 7)) is
    ∙ front_back 4 32 e.key bytes.1 bytes.0.1 (omega arith) in
    ap (option_and_then keyed_links) e.row ∙ exact e.child e.next e.key limits.0 limits.1 bytes.0
    (ap (λ (l : List ℕ). slice_index l 0) is) (ap (λ (l : List ℕ). slice_index l 1) is) size
    front

pub entry_value_of : (lengths : ℕ) (words all : List ℕ) (o : Option (List ℕ))
    → ((value : List ℕ) → length value ≤ 64 → lengths / 256 ≡ length value → front_of (length value)
    64 words ≡ value → Some value ≡ o) → lengths ≡ slice_index all 3 → words ≡ slice_range all 8 16
    → IsSome (part_in entry_value all) → part_in entry_value all ≡ o
entry_value_of lengths words all o exact three at some =
    let e : EntryIn all = entry_with entry_value all (λ layer count first tail digest. refl) some in
    let bytes : HasBytes (Entry e.child e.next e.key e.value) = e.bytes in
    let is : words ≡ packed 8 e.value = at ∙ ap (λ (l : List ℕ). slice_range l 8 16) (sym e.same) in
    let third : lengths ≡ length e.key + 256 * length e.value =
    three ∙ ap (λ (l : List ℕ). slice_index l 3) (sym e.same) in
    let size : lengths / 256 ≡ length e.value = omega (arith, third, bytes.0) in
    let front : front_of (length e.value) 64 words ≡ e.value =
    ap (λ (l : List ℕ). front_of (length e.value) 64 l) is ∙ front_back 8 64 e.value bytes.3
    bytes.2 (omega arith) in
    ap (option_and_then entry_value) e.row ∙ exact e.value bytes.2 size front

pub entry_pair_of : (lengths : ℕ) (first words all : List ℕ) (o : Option Pair)
    → ((key value : List ℕ) → IsKey key → IsValue value → lengths % 256 ≡ length key
    → lengths / 256 ≡ length value → front_of (length key) 32 first ≡ key
    → front_of (length value) 64 words ≡ value → Some (key, value) ≡ o)
    → lengths ≡ slice_index all 3 → first ≡ slice_range all 4 8 → words ≡ slice_range all 8 16
    → IsSome (part_in keyed_links all) → part_in entry_pair all ≡ o
entry_pair_of lengths first words all o exact three four eight some =
    let e : EntryIn all = entry_with keyed_links all (λ layer count first tail digest. refl) some in
    let bytes : HasBytes (Entry e.child e.next e.key e.value) = e.bytes in
    let third : lengths ≡ length e.key + 256 * length e.value =
    three ∙ ap (λ (l : List ℕ). slice_index l 3) (sym e.same) in
    let key_is : first ≡ packed 4 e.key =
    four ∙ ap (λ (l : List ℕ). slice_range l 4 8) (sym e.same) in
    let value_is : words ≡ packed 8 e.value =
    eight ∙ ap (λ (l : List ℕ). slice_range l 8 16) (sym e.same) in
    let len : lengths % 256 ≡ length e.key = omega (arith, third, bytes.0) in
    let size : lengths / 256 ≡ length e.value = omega (arith, third, bytes.0) in
    let key_front : front_of (length e.key) 32 first ≡ e.key =
    ap (λ (l : List ℕ). front_of (length e.key) 32 l) key_is
    ∙ front_back 4 32 e.key bytes.1 bytes.0.1 (omega arith) in
    let value_front : front_of (length e.value) 64 words ≡ e.value =
    ap (λ (l : List ℕ). front_of (length e.value) 64 l) value_is
    ∙ front_back 8 64 e.value bytes.3 bytes.2 (omega arith) in
    ap (option_and_then entry_pair) e.row
    ∙ exact e.key e.value bytes.0 bytes.2 len size key_front value_front

-- ---- from its parts to the row

first_of_entry : (row : Row) → slice_index (words_of row) 0 ≡ 1 → IsSome (keyed_links row)
first_of_entry (Entry child next key value) one = refl
first_of_entry (Head layer count first tail digest) one = absurd (omega (arith, one))

first_of_head : (row : Row) → slice_index (words_of row) 0 ≡ 2 → IsSome (head_links row)
first_of_head (Head layer count first tail digest) two = refl
first_of_head (Entry child next key value) two = absurd (omega (arith, two))

part_there : {A : Type 0} (part : Row → Option A) (n : ℕ)
    → ((row : Row) → slice_index (words_of row) 0 ≡ n → IsSome (part row)) → (words : List ℕ)
    → IsSome (row_in words) → slice_index words 0 ≡ n → IsSome (part_in part words)
part_there part n has words some first = go (row_in words) refl some
  where
    go : (o : Option Row) → row_in words ≡ o → IsSome o → IsSome (option_and_then part o)
    go None e some = cc
    go (Some row) e some =
        let is : IsRow row × HasBytes row × (words_of row ≡ words) = words_of_row words row e in
        has row (ap (λ (l : List ℕ). slice_index l 0) is.2 ∙ first)

abbrev its_links : {words : List ℕ} → HeadIn words → HeadLinks
its_links h = record { layer = h.layer; count = h.count; first = h.first; tail = h.tail }

abbrev its_entry : {words : List ℕ} → EntryIn words → KeyedLinks
its_entry e = record { child = e.child; next = e.next; key = e.key }

entry_of_first : (words : List ℕ) → IsSome (row_in words) → slice_index words 0 ≡ 1 → EntryIn words
entry_of_first words some one = entry_with keyed_links words (λ layer count first tail digest. refl)
    (part_there keyed_links 1 first_of_entry words some one)

head_of_first : (words : List ℕ) → IsSome (row_in words) → slice_index words 0 ≡ 2 → HeadIn words
head_of_first words some two = head_with head_links words (λ child next key value. refl)
    (part_there head_links 2 first_of_head words some two)

has_part : {A : Type 0} (part : Row → Option A) (words : List ℕ) (row : Row) (x : A)
    → row_in words ≡ Some row → part row ≡ Some x → part_in part words ≡ Some x
has_part part words row x e is = ap (option_and_then part) e ∙ is

-- the same of a value, which is read from word 3 too
abbrev pub ReadsValue : List ℕ → Option (List ℕ) → Type 0
ReadsValue words v = (all : List ℕ) → slice_index words 3 ≡ slice_index all 3
    → map (slice_index words) (range_with_len 8 8) ≡ slice_range all 8 16
    → IsSome (part_in entry_value all) → part_in entry_value all ≡ v

is_some_of : {A : Type 0} (o : Option A) (x : A) → o ≡ Some x → IsSome o
is_some_of o x e = cc

-- what a result says of each list of sixteen words that has the words which were read
abbrev pub Reads : {A : Type 0} → (Row → Option A) → ℕ → ℕ → List ℕ → Option A → Type 0
Reads part a b words o = (all : List ℕ) → words ≡ slice_range all a b → IsSome (part_in part all)
    → part_in part all ≡ o

read_there : {A : Type 0} (part : Row → Option A) (words : List ℕ) (o : Option A)
    → (IsSome (part_in part words) → part_in part words ≡ o) → (x : A) → part_in part words ≡ Some x
    → o ≡ Some x
read_there part words o reads x is = sym (reads (is_some_of _ x is)) ∙ is

pub head_of_links : (words : List ℕ) → length words ≡ 16 → IsSome (row_in words)
    → slice_index words 0 ≡ 2 → (o : Option HeadLinks) → Reads head_links 1 5
    (map (slice_index words) (range_with_len 1 4)) o → (digest : List ℕ) → Reads head_digest 5 9
    (map (slice_index words) (range_with_len 5 4)) (Some digest) → (links : HeadLinks)
    → o ≡ Some links → row_in words ≡ Some
    (Head links.layer links.count links.first links.tail digest)
head_of_links words len some two o of_links digest of_digest links is =
    let h : HeadIn words = head_of_first words some two in
    let l : o ≡ Some (its_links h) =
    read_there head_links words o (of_links words (words_at words 1 4 (omega (arith, len))))
    (its_links h) (has_part head_links words _ _ h.row refl) in
    let d : Some digest ≡ Some h.digest = read_there head_digest words (Some digest)
    (of_digest words (words_at words 5 4 (omega (arith, len)))) h.digest
    (has_part head_digest words _ _ h.row refl) in
    let same : its_links h ≡ links = cc (l, is) in
    let same_digest : h.digest ≡ digest = cc (d) in
    h.row ∙ ap (λ (x : HeadLinks). Some (Head x.layer x.count x.first x.tail h.digest)) same
    ∙ ap (λ (x : List ℕ). Some (Head links.layer links.count links.first links.tail x))
    same_digest

pub no_head : (words : List ℕ) → length words ≡ 16 → IsSome (row_in words) → slice_index words 0 ≡ 2
    → (o : Option HeadLinks) → Reads head_links 1 5 (map (slice_index words) (range_with_len 1 4)) o
    → o ≡ None → ⊥
no_head words len some two o of_links is =
    let h : HeadIn words = head_of_first words some two in
    let l : o ≡ Some (its_links h) =
    read_there head_links words o (of_links words (words_at words 1 4 (omega (arith, len))))
    (its_links h) (has_part head_links words _ _ h.row refl) in
    cc (l, is)

pub entry_of_links : (words : List ℕ) → length words ≡ 16 → IsSome (row_in words)
    → slice_index words 0 ≡ 1 → (o : Option KeyedLinks) → Reads keyed_links 1 8
    (map (slice_index words) (range_with_len 1 7)) o → (v : Option (List ℕ)) → ReadsValue words v
    → (links : KeyedLinks) → o ≡ Some links → (value : List ℕ) → v ≡ Some value
    → row_in words ≡ Some (Entry links.child links.next links.key value)
entry_of_links words len some one o of_links v of_value links is value is_value =
    let e : EntryIn words = entry_of_first words some one in
    let l : o ≡ Some (its_entry e) =
    read_there keyed_links words o (of_links words (words_at words 1 7 (omega (arith, len))))
    (its_entry e) (has_part keyed_links words _ _ e.row refl) in
    let w : v ≡ Some e.value =
    read_there entry_value words v
    (of_value words refl (words_at words 8 8 (omega (arith, len)))) e.value
    (has_part entry_value words _ _ e.row refl) in
    let same : its_entry e ≡ links = cc (l, is) in
    let same_value : e.value ≡ value = cc (w, is_value) in
    e.row ∙ ap (λ (x : KeyedLinks). Some (Entry x.child x.next x.key e.value)) same
    ∙ ap (λ (x : List ℕ). Some (Entry links.child links.next links.key x)) same_value

pub no_entry : (words : List ℕ) → length words ≡ 16 → IsSome (row_in words) → slice_index words 0
    ≡ 1 → (o : Option KeyedLinks) → Reads keyed_links 1 8
    (map (slice_index words) (range_with_len 1 7)) o → o ≡ None → ⊥
no_entry words len some one o of_links is =
    let e : EntryIn words = entry_of_first words some one in
    let l : o ≡ Some (its_entry e) =
    read_there keyed_links words o (of_links words (words_at words 1 7 (omega (arith, len))))
    (its_entry e) (has_part keyed_links words _ _ e.row refl) in
    cc (l, is)

pub no_value : (words : List ℕ) → length words ≡ 16 → IsSome (row_in words) → slice_index words 0
    ≡ 1 → (v : Option (List ℕ)) → ReadsValue words v → v ≡ None → ⊥
no_value words len some one v of_value is =
    let e : EntryIn words = entry_of_first words some one in
    let w : v ≡ Some e.value =
    read_there entry_value words v
    (of_value words refl (words_at words 8 8 (omega (arith, len)))) e.value
    (has_part entry_value words _ _ e.row refl) in
    cc (w, is)

-- ---- the same entry with other links

pub relinked_words : (words : List ℕ) (row : Row) (child next : ℕ) → row_in words ≡ Some row
    → IsSome (keyed_links row) → child ≤ 65535 → next ≤ 65535
    → row_in (set (set words 1 child) 2 next) ≡ Some (relinked child next row)
relinked_words words (Entry c n key value) child next e some low small =
    let is : IsRow (Entry c n key value) × HasBytes (Entry c n key value)
    × (words_of (Entry c n key value) ≡ words) = words_of_row words (Entry c n key value) e in
    ap (λ (l : List ℕ). row_in (set (set l 1 child) 2 next)) (sym is.2)
    ∙ row_of_words (Entry child next key value) (low, small) is.1
relinked_words words (Head layer count first tail digest) child next e some low small = cc
