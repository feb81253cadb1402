-- A new table: its words and its desk stand for the empty map, on no rows.
use Rattle.mst_words.proofs.Names.{◌≡◌, ℕ, ◌+◌, ◌<◌, ◌≤◌, true, false, List, [], ◌∷◌, length, map, set, get_or, replicate, Option, Some, None, refl, sym, ap, ◌∙◌, subst, arith, length-set, get_or-set_same, get_or-set_other, slice_index, range_with_len, length-replicate, dec_le, IsBytes, Format, IsPrefix-nil, digest_of, Life, Free, reaches, word_from, bytes_in, first_record, field, row, Standing, DeskState, AgedOn, stored, fresh_desk, desk_state}
use Rattle.std.specs.Prelude.{slice_get}
use Rattle.std.proofs.lemmas.List.{get_or-replicate}
use Rattle.std.proofs.lemmas.Option.{slice_get-get_or, slice_get_past}
use Rattle.mst_node.specs.Tree.{tree, tree_within}
use Rattle.mst_arena.specs.Lives.{reached_at, version, IsPast}
use Rattle.mst_arena.specs.Standing.{none}
use Rattle.mst_arena.specs.Words.{byte_of_words}
use Rattle.mst_arena.proofs.Packing.{packed, bytes_back}
use Rattle.mst_words.specs.Stored.{IsDesk, format_number}
use Rattle.mst_words.proofs.Members.{in_nothing}

-- ---- a digest in four words

four_words : (a b c d : ℕ) → bytes_in (a ∷ b ∷ c ∷ d ∷ []) ≡ map
    (byte_of_words (a ∷ b ∷ c ∷ d ∷ [])) (range_with_len 0 32)
four_words a b c d = refl

pub digest_back : (d : List ℕ) → length d ≡ 32 → IsBytes d
    → bytes_in (word_from d 0 ∷ word_from d 8 ∷ word_from d 16 ∷ word_from d 24 ∷ []) ≡ d
digest_back d long all = four_words (word_from d 0) (word_from d 8) (word_from d 16)
    (word_from d 24)
    ∙ ap (λ (n : ℕ). map (byte_of_words (packed 4 d)) (range_with_len 0 n)) (sym long)
    ∙ bytes_back 4 d all (omega (arith, long))

-- four words that were set one after another stand there
pub four_set : (ws : List ℕ) (a b c d : ℕ) → 41 < length ws → let all : List ℕ =
    set (set (set (set ws 38 a) 39 b) 40 c) 41 d in
    bytes_in (get_or all 38 0 ∷ get_or all 39 0 ∷ get_or all 40 0 ∷ get_or all 41 0 ∷ []) ≡ bytes_in
    (a ∷ b ∷ c ∷ d ∷ [])
four_set ws a b c d long =
    let one : List ℕ = set ws 38 a in let two : List ℕ = set one 39 b in let three : List ℕ =
    set two 40 c in
    let l1 : length one ≡ length ws = length-set ws 38 a in let l2 : length two ≡ length one =
    length-set one 39 b in let l3 : length three ≡ length two = length-set two 40 c in
    let at_a : get_or (set three 41 d) 38 0 ≡ a = get_or-set_other three 41 38 d 0 (omega arith)
    ∙ get_or-set_other two 40 38 c 0 (omega arith) ∙ get_or-set_other one 39 38 b 0
    (omega arith) ∙ get_or-set_same ws 38 a 0 (omega arith) in
    let at_b : get_or (set three 41 d) 39 0 ≡ b = get_or-set_other three 41 39 d 0 (omega arith)
    ∙ get_or-set_other two 40 39 c 0 (omega arith) ∙ get_or-set_same one 39 b 0 (omega arith) in
    let at_c : get_or (set three 41 d) 40 0 ≡ c = get_or-set_other three 41 40 d 0 (omega arith)
    ∙ get_or-set_same two 40 c 0 (omega arith) in
    let at_d : get_or (set three 41 d) 41 0 ≡ d = get_or-set_same three 41 d 0 (omega arith) in
    λ i. bytes_in (at_a i ∷ at_b i ∷ at_c i ∷ at_d i ∷ [])

-- and a word after them is as it was
pub behind_four : (ws : List ℕ) (a b c d : ℕ)
    → get_or (set (set (set (set ws 38 a) 39 b) 40 c) 41 d) 42 0 ≡ get_or ws 42 0
behind_four ws a b c d =
    let one : List ℕ = set ws 38 a in let two : List ℕ = set one 39 b in let three : List ℕ =
    set two 40 c in
    get_or-set_other three 41 42 d 0 (omega arith) ∙ get_or-set_other two 40 42 c 0 (omega arith)
    ∙ get_or-set_other one 39 42 b 0 (omega arith) ∙ get_or-set_other ws 38 42 a 0 (omega arith)

-- a list of four is its elements
pub four_of : (l : List ℕ) → length l ≡ 4 → get_or l 0 0 ∷ get_or l 1 0 ∷ get_or l 2 0 ∷ get_or l 3
    0 ∷ [] ≡ l
four_of (a ∷ b ∷ c ∷ d ∷ []) long = refl
four_of [] long = absurd (omega arith)
four_of (a ∷ []) long = absurd (omega arith)
four_of (a ∷ b ∷ []) long = absurd (omega arith)
four_of (a ∷ b ∷ c ∷ []) long = absurd (omega arith)
four_of (a ∷ b ∷ c ∷ d ∷ e ∷ l) long = absurd (omega arith)

-- ---- what stands at the start

-- a row of a fresh desk is free, and so no version reaches it, and none is born with the version to
-- come
at_free : (P : Option Life → Type 0) → P None → P (Some Free) → (n x : ℕ)
    → P (slice_get (replicate n Free) x)
at_free P none_there free n x = by (dec_le n x)
  where
    by : Dec (n ≤ x) → P (slice_get (replicate n Free) x)
    by (yes past) =
        subst P (sym
        (slice_get_past (replicate n Free) x (let l = length-replicate n Free in omega arith)))
        none_there
    by (no within) =
        subst P (sym
        (slice_get-get_or (replicate n Free) x Free (let l = length-replicate n Free in omega arith)
        ∙ ap (λ (l : Life). Some l) (get_or-replicate n x Free Free (omega arith)))) free

pub unreached : (n v x : ℕ) → reaches (replicate n Free) v x ≡ true → ⊥
unreached n v x = at_free (λ l. reached_at l v ≡ true → ⊥) (λ e. let c : false ≡ true = e in cc)
    (λ e. let c : false ≡ true = e in cc) n x

-- words that spell the empty root stand for the empty map, on no row
empty_stands : (first : Format) (word : ℕ → ℕ → ℕ) (fields : ℕ → ℕ) (d : DeskState) → fields 1 ≡ 0
    → bytes_in (fields 2 ∷ fields 3 ∷ fields 4 ∷ fields 5 ∷ []) ≡ digest_of []
    → fields 6 ≡ format_number first → AgedOn first word fields d [] []
unfolding tree tree_within
empty_stands first word fields d link digest number = (
  (
    record {
      map = record { ascending = tt; limits = tt };
      digest = digest;
      tree = record { placed = none; at = sym link; is = refl; rows = tt; once = tt };
    },
    refl,
    number,
  ),
  tt,
)

pub fresh_standing : (first : Format) (R N : ℕ) (ws : List ℕ)
    → ((i : ℕ) → i < 38 → slice_index ws i ≡ 0)
    → bytes_in (slice_index ws 38 ∷ slice_index ws 39 ∷ slice_index ws 40 ∷ slice_index ws 41 ∷ [])
    ≡ digest_of [] → slice_index ws 42 ≡ format_number first
    → Standing (stored first) R N ws [] (desk_state (fresh_desk R N)) 0 [] []
fresh_standing first R N ws front digest number = record {
  numbered = omega arith;
  begins = IsPrefix-nil [];
  version = front first_record (omega arith);
  filed = get_or-replicate (N + 2) 0 0 0 (omega arith);
  stands =
      (empty_stands first (row R ws) (field ws 0) (desk_state (fresh_desk R N))
      (front 37 (omega arith)) digest number).0;
  aged = empty_stands first (row R ws) (field ws 0) (desk_state (fresh_desk R N))
      (front 37 (omega arith)) digest number;
  inside = λ x within. absurd (in_nothing x within);
  reached = λ x within. absurd (in_nothing x within);
  exactly = λ x l e. absurd (unreached R 0 x e);
}

none_below : (a b : ℕ) → a ≡ 0 → a ≤ b
none_below a b is = omega (arith, is)

pub fresh_is_desk : (R N : ℕ) → IsDesk (Some (fresh_desk R N)) R N (desk_state (fresh_desk R N))
fresh_is_desk R N = record {
  there = refl;
  rows_is = length-replicate R Free;
  records = length-replicate (N + 2) 0;
  settled = at_free (IsPast (version (fresh_desk R N))) tt tt R;
  earlier = λ r l. none_below _ _ (get_or-replicate (N + 2) r 0 0 l);
}
