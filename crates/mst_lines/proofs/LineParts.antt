-- The lines of bytes that come one after another.
use Rattle.std.proofs.Common.{◌≡◌, ℕ, ◌==◌, List, [], ◌∷◌, ◌++◌, length, sym, refl, ap, ◌∙◌, Bool, true, false, cond, arith, append_assoc, append-nil}
use Rattle.std.specs.List.{onto_first}
use Rattle.std.proofs.lemmas.Bool.{eqb-true, ne_eqb}
use Rattle.std.proofs.lemmas.List.Elements.{All-head, All-tail}
use Rattle.mst_lines.specs.Lines.{IsWithout, complete, remainder, parts_of, all_but_last, last_of, lines_of}

-- put at the end of the last part
abbrev onto_last : ℕ → List (List ℕ) → List (List ℕ)
onto_last b [] = (b ∷ []) ∷ []
onto_last b (l ∷ []) = (l ++ b ∷ []) ∷ []
onto_last b (l ∷ m ∷ ls) = l ∷ onto_last b (m ∷ ls)

-- what another byte does to the parts
abbrev more_parts : Bool → ℕ → List (List ℕ) → List (List ℕ)
more_parts t b ls = cond t (ls ++ [] ∷ []) (onto_last b ls)

abbrev parts_from : Bool → ℕ → List (List ℕ) → List (List ℕ)
parts_from s c ls = cond s ([] ∷ ls) (onto_first c ls)

some_from : (s : Bool) (c : ℕ) (ls : List (List ℕ)) → (m : List ℕ) × (ms : List (List ℕ))
    × (parts_from s c ls ≡ m ∷ ms)
some_from true c ls = ([], ls, refl)
some_from false c [] = (c ∷ [], [], refl)
some_from false c (l ∷ ls) = (c ∷ l, ls, refl)

parts_some : (bytes : List ℕ) → (l : List ℕ) × (ls : List (List ℕ)) × (parts_of bytes ≡ l ∷ ls)
parts_some [] = ([], [], refl)
parts_some (b ∷ bs) = some_from (b == 10) b (parts_of bs)

swap : (s t : Bool) (c b : ℕ) (l : List ℕ) (ls : List (List ℕ))
    → parts_from s c (more_parts t b (l ∷ ls)) ≡ more_parts t b (parts_from s c (l ∷ ls))
swap true true c b l ls = refl
swap true false c b l ls = refl
swap false true c b l ls = refl
swap false false c b l [] = refl
swap false false c b l (m ∷ ls) = refl

parts_more : (bytes : List ℕ) (b : ℕ) → parts_of (bytes ++ b ∷ []) ≡ more_parts (b == 10) b
    (parts_of bytes)
parts_more [] b = first (b == 10)
  where
    first : (t : Bool) → cond t ([] ∷ [] ∷ []) ((b ∷ []) ∷ []) ≡ more_parts t b ([] ∷ [])
    first true = refl
    first false = refl
parts_more (c ∷ cs) b = let p = parts_some cs in
    ap (parts_from (c == 10) c) (parts_more cs b ∙ ap (more_parts (b == 10) b) p.2)
    ∙ swap (c == 10) (b == 10) c b p.0 p.1
    ∙ ap (λ (q : List (List ℕ)). more_parts (b == 10) b (parts_from (c == 10) c q)) (sym p.2)

front_ended : (l : List ℕ) (ls : List (List ℕ)) → all_but_last ((l ∷ ls) ++ [] ∷ []) ≡ all_but_last
    (l ∷ ls) ++ last_of (l ∷ ls) ∷ []
front_ended l [] = refl
front_ended l (m ∷ ls) = ap (λ (x : List (List ℕ)). l ∷ x) (front_ended m ls)

last_ended : (l : List ℕ) (ls : List (List ℕ)) → last_of ((l ∷ ls) ++ [] ∷ []) ≡ []
last_ended l [] = refl
last_ended l (m ∷ ls) = last_ended m ls

front_on : (b : ℕ) (l : List ℕ) (ls : List (List ℕ)) → all_but_last (onto_last b (l ∷ ls))
    ≡ all_but_last (l ∷ ls)
front_on b l [] = refl
front_on b l (m ∷ []) = refl
front_on b l (m ∷ k ∷ ls) = ap (λ (x : List (List ℕ)). l ∷ x) (front_on b m (k ∷ ls))

last_on : (b : ℕ) (l : List ℕ) (ls : List (List ℕ)) → last_of (onto_last b (l ∷ ls)) ≡ last_of
    (l ∷ ls) ++ b ∷ []
last_on b l [] = refl
last_on b l (m ∷ []) = refl
last_on b l (m ∷ k ∷ ls) = last_on b m (k ∷ ls)

-- a newline ends a line
ends : (bytes : List ℕ) → (complete (bytes ++ 10 ∷ []) ≡ complete bytes ++ remainder bytes ∷ [])
    × (remainder (bytes ++ 10 ∷ []) ≡ [])
unfolding complete remainder
ends bytes = let p = parts_some bytes in
    let e : parts_of (bytes ++ 10 ∷ []) ≡ parts_of bytes ++ [] ∷ [] = parts_more bytes 10 in (
      ap all_but_last (e ∙ ap (λ (q : List (List ℕ)). q ++ [] ∷ []) p.2) ∙ front_ended p.0 p.1
          ∙ ap (λ (q : List (List ℕ)). all_but_last q ++ last_of q ∷ []) (sym p.2),
      ap last_of (e ∙ ap (λ (q : List (List ℕ)). q ++ [] ∷ []) p.2) ∙ last_ended p.0 p.1,
    )

-- another byte goes on with the line
goes_on : (bytes : List ℕ) (b : ℕ) → (b == 10) ≡ false
    → (complete (bytes ++ b ∷ []) ≡ complete bytes)
    × (remainder (bytes ++ b ∷ []) ≡ remainder bytes ++ b ∷ [])
unfolding complete remainder
goes_on bytes b is = let p = parts_some bytes in
    let e : parts_of (bytes ++ b ∷ []) ≡ onto_last b (parts_of bytes) =
    parts_more bytes b ∙ ap (λ (t : Bool). more_parts t b (parts_of bytes)) is in (
      ap all_but_last (e ∙ ap (onto_last b) p.2) ∙ front_on b p.0 p.1 ∙ ap all_but_last (sym p.2),
      ap last_of (e ∙ ap (onto_last b) p.2) ∙ last_on b p.0 p.1
          ∙ ap (λ (q : List (List ℕ)). last_of q ++ b ∷ []) (sym p.2),
    )

-- more bytes with no newline go on with the line
pub all_go_on : (bytes more : List ℕ) → IsWithout 10 more
    → (complete (bytes ++ more) ≡ complete bytes)
    × (remainder (bytes ++ more) ≡ remainder bytes ++ more)
all_go_on bytes [] none = (
  ap complete (append-nil bytes),
  ap remainder (append-nil bytes)
      ∙ sym (append-nil (remainder bytes)),
)
all_go_on bytes (b ∷ bs) none =
    let one = goes_on bytes b (All-head (λ (x : ℕ). (x == 10) ≡ false) b bs none) in
    let all = all_go_on (bytes ++ b ∷ []) bs (All-tail (λ (x : ℕ). (x == 10) ≡ false) b bs none) in
    let is = sym (append_assoc bytes (b ∷ []) bs) in (
      ap complete is ∙ all.0 ∙ one.0,
      ap remainder is ∙ all.1 ∙ ap (λ (l : List ℕ). l ++ bs) one.1 ∙ append_assoc (remainder bytes)
          (b ∷ []) bs,
    )

-- more bytes up to a newline end the line
pub line_ends : (bytes front : List ℕ) → IsWithout 10 front
    → (complete (bytes ++ front ++ 10 ∷ []) ≡ complete bytes ++ (remainder bytes ++ front) ∷ [])
    × (remainder (bytes ++ front ++ 10 ∷ []) ≡ [])
line_ends bytes front none =
    let on = all_go_on bytes front none in
    let end = ends (bytes ++ front) in (
      end.0 ∙ ap (λ (l : List (List ℕ)). l ++ remainder (bytes ++ front) ∷ []) on.0
          ∙ ap (λ (l : List ℕ). complete bytes ++ l ∷ []) on.1,
      end.1,
    )

pub none_yet : (complete [] ≡ []) × (remainder [] ≡ [])
unfolding complete remainder
none_yet = (refl, refl)

-- more bytes only add lines
one_more : (xs : List ℕ) (b : ℕ) (t : Bool) → (b == 10) ≡ t → (others : List (List ℕ))
    × (complete (xs ++ b ∷ []) ≡ complete xs ++ others)
one_more xs b true is =
    (remainder xs ∷ [], ap (λ (c : ℕ). complete (xs ++ c ∷ [])) (eqb-true b 10 is) ∙ (ends xs).0)
one_more xs b false is = ([], (goes_on xs b is).0 ∙ sym (append-nil (complete xs)))

pub only_adds : (xs ys : List ℕ) → (others : List (List ℕ))
    × (complete (xs ++ ys) ≡ complete xs ++ others)
only_adds xs [] = ([], ap complete (append-nil xs) ∙ sym (append-nil (complete xs)))
only_adds xs (y ∷ ys) =
    let o = one_more xs y (y == 10) refl in
    let p = only_adds (xs ++ y ∷ []) ys in (
      o.0 ++ p.0,
      ap complete (sym (append_assoc xs (y ∷ []) ys)) ∙ p.1
          ∙ ap (λ (l : List (List ℕ)). l ++ p.0) o.1 ∙ append_assoc (complete xs) o.0 p.0,
    )

-- all lines where nothing stands after the last newline, and where something does
pub lines_none : (input : List ℕ) → remainder input ≡ [] → lines_of input ≡ complete input
lines_none input is = ap (λ (l : List ℕ). complete input ++ cond (length l == 0) [] (l ∷ [])) is
    ∙ append-nil (complete input)

pub lines_one : (input : List ℕ) (b : ℕ) (bs : List ℕ) → remainder input ≡ b ∷ bs → lines_of input
    ≡ complete input ++ (b ∷ bs) ∷ []
lines_one input b bs is = ap (λ (l : List ℕ). complete input ++ cond (length l == 0) [] (l ∷ [])) is
    ∙ ap (λ (t : Bool). complete input ++ cond t [] ((b ∷ bs) ∷ []))
    (ne_eqb (length (b ∷ bs)) 0 (λ e. omega (arith, e)))
