-- The lengths and the pair of an entry in the words of its row.
use Rattle.mst_words.proofs.Names.{◌≡◌, ℕ, ◌+◌, ◌*◌, ◌≤◌, ◌/◌, ◌%◌, List, length, take, Bool, true, false, Some, None, map, refl, sym, ap, arith, if◌then◌else◌, slice_index, option_and_then, IsSome, range_with_len, IsKey, IsValue, Pair, part_at, HasBytes, keyed_links, entry_pair, bytes_in, Entry, EntryIn, entry_with, View, known_row, rows_in, may_read, content_of}
use Rattle.mst_arena.specs.Words.{lengths_word, first_key_word, first_value_word}
use Rattle.mst_arena.proofs.EntryWords.{PairIn, pair_in_words}

-- the lengths of a key and a value
pub record LengthsAt (v : View) (x : ℕ) : Type 0 where
  pub key : known_row v x lengths_word % 256 ≤ 32
  pub value : known_row v x lengths_word / 256 ≤ 64

pub lengths_at : (v : View) (x : ℕ) → IsSome (part_at keyed_links (content_of v) x) → LengthsAt v x
lengths_at v x some = go (may_read v x) some
  where
    go : (b : Bool)
        → IsSome (option_and_then keyed_links (if b then rows_in (known_row v) x else None))
        → LengthsAt v x
    go true some =
        let i : EntryIn _ = entry_with keyed_links _ (λ layer count first tail digest. refl) some in
        let bytes : HasBytes (Entry i.child i.next i.key i.value) = i.bytes in
        let three : known_row v x 3 ≡ length i.key + 256 * length i.value =
        sym (ap (λ (l : List ℕ). slice_index l 3) i.same) in
        record {
          key = omega (arith, three, bytes.0);
          value = omega (arith, three, bytes.0, bytes.2);
        }
    go false some = cc

-- the key and the value are the first bytes of their words
pub record PairAt (v : View) (x : ℕ) (pair : Pair) : Type 0 where
  pub key : take (known_row v x lengths_word % 256)
      (bytes_in (map (known_row v x) (range_with_len first_key_word 4))) ≡ pair.0
  pub value : take (known_row v x lengths_word / 256)
      (bytes_in (map (known_row v x) (range_with_len first_value_word 8))) ≡ pair.1
  pub limits : IsKey pair.0 × IsValue pair.1

pub pair_at : (v : View) (x : ℕ) (pair : Pair)
    → part_at entry_pair (content_of v) x ≡ Some pair → PairAt v x pair
pair_at v x pair is = go (may_read v x) is
  where
    go : (b : Bool)
        → option_and_then entry_pair (if b then rows_in (known_row v) x else None)
        ≡ Some pair → PairAt v x pair
    go true is =
        let p : PairIn _ pair = pair_in_words _ pair is in
        record { key = p.key; value = p.value; limits = p.limits }
    go false is = absurd (let no : None ≡ Some pair = is in cc)
