-- What the word for the splits of a sharded map spells.
use Rattle.std.specs.Prelude.{ℕ, ◌==◌, Bool, nat_lt, if◌then◌else◌, length, List, [], ◌∷◌, ◌++◌, Option, Some, None}
use Rattle.std.specs.List.{slice_split, before_first, after_first, position_or_len}
use denote.Ref.{Bor}
use Rattle.mst_report.specs.Words.{key_of}

-- a key before others
abbrev pub with_key : Option (List ℕ) → Option (List (List ℕ)) → Option (List (List ℕ))
with_key None ks = None
with_key (Some k) None = None
with_key (Some k) (Some ks) = Some (k ∷ ks)

-- the keys that words spell, if each of them spells one
abbrev pub keys_of : List (List ℕ) → Option (List (List ℕ))
keys_of [] = Some []
keys_of (word ∷ words) = with_key (key_of word) (keys_of words)

abbrev pub is_comma : ℕ → Bool
is_comma b = b == 44

-- a word cut at its first comma, where it has one
abbrev pub cut : List ℕ → Option (List ℕ × List ℕ)
cut word = if nat_lt (position_or_len is_comma word) (length word)
    then Some (before_first is_comma word, after_first is_comma word) else None

-- the parts between single commas
abbrev pub parts_of : List ℕ → List (List ℕ)
parts_of word = slice_split is_comma word

-- the parts of what stands after a comma, if one does
abbrev pub parts_behind : Option (Bor (List ℕ)) → List (List ℕ)
parts_behind None = []
parts_behind (Some rest) = parts_of rest.now

-- the keys between single commas
abbrev pub splits_of : List ℕ → Option (List (List ℕ))
splits_of word = keys_of (parts_of word)

-- keys in front of those that are still to be read
abbrev pub after_keys : List (List ℕ) → Option (List (List ℕ)) → Option (List (List ℕ))
after_keys ks None = None
after_keys ks (Some others) = Some (ks ++ others)
