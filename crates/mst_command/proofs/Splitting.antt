-- The splits that one word spells, part by part.
use Rattle.std.proofs.Common.{◌≡◌, ℕ, suc, Bool, true, false, List, [], ◌∷◌, ◌++◌, length, append_assoc, append-nil, Option, Some, None, refl, sym, ap, ◌∙◌, arith}
use Rattle.std.specs.Prelude.{nat_lt, if◌then◌else◌}
use Rattle.std.specs.List.{before_first, after_first, position_or_len}
use Rattle.std.proofs.lemmas.Bool.{ltb-false}
use Rattle.std.proofs.lemmas.Bool.Decides.{Decides-ltb}
use Rattle.std.proofs.lemmas.Option.{none-some, same_Some}
use Rattle.std.proofs.lemmas.List.Splits.{slice_split_first, slice_split_none}
use Rattle.std.proofs.lemmas.List.Sums.{fails_before_first}
use denote.Ref.{Bor}
use Rattle.mst_report.specs.Words.{key_of}
use Rattle.mst_command.specs.Splits.{is_comma, cut, with_key, keys_of, parts_of, parts_behind, after_keys}

-- ---- a word cut at its first comma

abbrev parts : List ℕ → List ℕ → List ℕ × List ℕ
parts first rest = (first, rest)

abbrev cut_at : Bool → List ℕ → Option (List ℕ × List ℕ)
cut_at b word =
    if b then Some (before_first is_comma word, after_first is_comma word) else None

cut_by : (word first rest : List ℕ) (b : Bool)
    → nat_lt (position_or_len is_comma word) (length word) ≡ b
    → Some (parts first rest) ≡ cut_at b word
    → parts_of word ≡ first ∷ parts_of rest
cut_by word first rest true less is =
    let both = same_Some (parts first rest)
    (parts (before_first is_comma word) (after_first is_comma word)) is in
    slice_split_first is_comma word 0
    ((Decides-ltb (position_or_len is_comma word) (length word)).0 less)
    ∙ ap (λ (two : List ℕ × List ℕ). two.0 ∷ parts_of two.1) (sym both)
cut_by word first rest false less is = absurd (none-some (parts first rest) (sym is))

pub parts_cut : (word first rest : List ℕ) → Some (parts first rest) ≡ cut word
    → parts_of word ≡ first ∷ parts_of rest
parts_cut word first rest is =
    cut_by word first rest (nat_lt (position_or_len is_comma word) (length word)) refl is

one_by : (word : List ℕ) (b : Bool)
    → nat_lt (position_or_len is_comma word) (length word) ≡ b
    → None ≡ cut_at b word
    → parts_of word ≡ word ∷ []
one_by word true less is =
    absurd (none-some (parts (before_first is_comma word) (after_first is_comma word)) is)
one_by word false less is =
    let high = ltb-false (position_or_len is_comma word) (length word) less in
    slice_split_none is_comma word
    (λ k d low. fails_before_first is_comma word k d (omega (arith, low, high)))

pub part_alone : (word : List ℕ) → None ≡ cut word → parts_of word ≡ word ∷ []
part_alone word is = one_by word (nat_lt (position_or_len is_comma word) (length word)) refl is

-- ---- part by part

-- how much is still to be read
abbrev pub left_size : Option (Bor (List ℕ)) → ℕ
left_size None = 0
left_size (Some rest) = suc (length rest.now)

-- at first all of it is
pub all_left : (o : Option (List (List ℕ))) → o ≡ after_keys [] o
all_left None = refl
all_left (Some ks) = refl

-- a key more is read
pub key_read : (ks : List (List ℕ)) (k : List ℕ) (o : Option (List (List ℕ)))
    → after_keys ks (with_key (Some k) o) ≡ after_keys (ks ++ k ∷ []) o
key_read ks k None = refl
key_read ks k (Some others) = ap Some (sym (append_assoc ks (k ∷ []) others))

pub goes_on : (all : Option (List (List ℕ))) (ks : List (List ℕ)) (word first k : List ℕ)
    (rest : Option (Bor (List ℕ))) → all ≡ after_keys ks (keys_of (parts_of word))
    → parts_of word ≡ first ∷ parts_behind rest → key_of first ≡ Some k →
    all ≡ after_keys (ks ++ k ∷ []) (keys_of (parts_behind rest))
goes_on all ks word first k rest was cut is =
    was ∙ ap (λ (ps : List (List ℕ)). after_keys ks (keys_of ps)) cut
    ∙ ap (λ (o : Option (List ℕ)). after_keys ks (with_key o (keys_of (parts_behind rest)))) is
    ∙ key_read ks k (keys_of (parts_behind rest))

pub ends_here : (all : Option (List (List ℕ))) (ks : List (List ℕ)) (word first : List ℕ)
    (rest : Option (Bor (List ℕ))) → all ≡ after_keys ks (keys_of (parts_of word))
    → parts_of word ≡ first ∷ parts_behind rest → key_of first ≡ None → all ≡ None
ends_here all ks word first rest was cut is =
    was ∙ ap (λ (ps : List (List ℕ)). after_keys ks (keys_of ps)) cut
    ∙ ap (λ (o : Option (List ℕ)). after_keys ks (with_key o (keys_of (parts_behind rest)))) is

-- all was read
pub all_read : (all : Option (List (List ℕ))) (ks : List (List ℕ)) → all ≡ after_keys ks (Some [])
    → all ≡ Some ks
all_read all ks was = was ∙ ap Some (append-nil ks)
