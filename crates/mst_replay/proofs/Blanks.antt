-- Fields separated by the first blank.
use Rattle.mst_replay.proofs.Names.{◌≡◌, ◌≢◌, ℕ, zero, suc, ◌+◌, ◌%◌, ◌<◌, ◌≤◌, ◌^◌, List, [], ◌∷◌, ◌++◌, length, get_or, take, drop, sym, refl, ap, ◌∙◌, arith, ◌-◌, codes, decimal, dite, dec_le}
use Rattle.std.proofs.Common.{add-one, length-append, append_assoc, take_all}
use Rattle.std.proofs.Math.Seq.{take-nil}
use Rattle.std.proofs.lemmas.Fmt.{decimal_by_steps}

abbrev pub HasNoBlank : List ℕ → Type 0
HasNoBlank [] = Unit {0}
HasNoBlank (x ∷ xs) = (x ≢ 32) × HasNoBlank xs

no_blank_push : (xs : List ℕ) (d : ℕ) → HasNoBlank xs → d ≢ 32 → HasNoBlank (xs ++ d ∷ [])
no_blank_push [] d h e = (e, tt)
no_blank_push (x ∷ xs) d h e = (h.0, no_blank_push xs d h.1 e)

pub decimal_no_blank : (n : ℕ) → n < 2 ^ 64 → HasNoBlank (decimal n)
decimal_no_blank n l = decimal_by_steps (λ m ds. HasNoBlank ds) (λ m small. (λ e. omega arith, tt))
    (λ m ds big h. no_blank_push ds (48 + m % 10) h (λ e. omega arith)) n l

-- the blank that is found first stands after the front
pub first_at : (front rest : List ℕ) (b : ℕ) → HasNoBlank front
    → ((k : ℕ) → k < b → get_or (front ++ 32 ∷ rest) k 0 ≢ 32) → get_or (front ++ 32 ∷ rest) b 0
    ≡ 32 → b ≡ length front
first_at [] rest zero h before found = refl
first_at [] rest (suc b) h before found = absurd (before 0 (omega arith) refl)
first_at (x ∷ front) rest zero h before found = absurd (h.0 found)
first_at (x ∷ front) rest (suc b) h before found =
    ap (λ (z : ℕ). suc z) (first_at front rest b h.1 (λ k l. before (suc k) (omega arith)) found)

pub front_taken : (front rest : List ℕ) → take (length front) (front ++ rest) ≡ front
front_taken [] rest = refl
front_taken (x ∷ front) rest = ap (λ (z : List ℕ). x ∷ z) (front_taken front rest)

pub rest_dropped : (front rest : List ℕ) → drop (suc (length front)) (front ++ 32 ∷ rest) ≡ rest
rest_dropped [] rest = refl
rest_dropped (x ∷ front) rest = rest_dropped front rest

-- at a blank the list is its front, the blank and the rest
pub parted : (xs : List ℕ) (b : ℕ) → b < length xs → get_or xs b 0 ≡ 32 → xs ≡ take b xs ++ 32
    ∷ drop (suc b) xs
parted [] b l e = absurd (omega arith)
parted (x ∷ xs) zero l e = ap (λ (z : ℕ). z ∷ xs) e
parted (x ∷ xs) (suc b) l e = ap (λ (z : List ℕ). x ∷ z) (parted xs b (omega arith) e)

drop_all : (xs : List ℕ) (k : ℕ) → take (length xs - k) (drop k xs) ≡ drop k xs
drop_all [] zero = refl
drop_all [] (suc k) = take-nil _
drop_all (x ∷ xs) zero = take_all (suc (length xs) - 0) (x ∷ xs) (omega arith)
drop_all (x ∷ xs) (suc k) =
    ap (λ (z : ℕ). take z (drop k xs)) (let e : suc (length xs) - suc k ≡ length xs - k =
    omega arith in e) ∙ drop_all xs k

get_behind : (front rest : List ℕ) → get_or (front ++ 32 ∷ rest) (length front) 0 ≡ 32
get_behind [] rest = refl
get_behind (x ∷ front) rest = get_behind front rest

-- the fields of a text `R S`, from the first blank
pub front_of : (fields : List ℕ) (r : ℕ) (rest : List ℕ) (b : ℕ) → r < 256 → fields ≡ decimal r
    ++ 32 ∷ rest → ((k : ℕ) → k < b → get_or fields k 0 ≢ 32)
    → (b < length fields → get_or fields b 0 ≡ 32)
    → (b < length fields) × (take b fields ≡ decimal r)
    × (take (length fields - (b + 1)) (drop (b + 1) fields) ≡ rest)
front_of fields r rest b small is before found =
    let front : List ℕ = decimal r in
    let whole : length fields ≡ length front + suc (length rest) =
    ap length is ∙ length-append front (32 ∷ rest) in
    let near : b ≤ length front =
    dite (dec_le b (length front)) (λ l. l)
    (λ far. absurd
    (before (length front) (omega arith)
    (ap (λ (z : List ℕ). get_or z (length front) 0) is ∙ get_behind front rest))) in
    let inside : b < length fields = omega arith in
    let at : b ≡ length front = first_at front rest b (decimal_no_blank r (omega arith))
    (λ k l e. before k l (ap (λ (z : List ℕ). get_or z k 0) is ∙ e))
    (ap (λ (z : List ℕ). get_or z b 0) (sym is) ∙ found inside) in (
      inside,
      ap (λ (z : ℕ). take z fields) at ∙ ap (take (length front)) is ∙ front_taken front
          (32 ∷ rest),
      drop_all fields (b + 1) ∙ ap (λ (z : ℕ). drop z fields) (add-one b ∙ ap (λ (z : ℕ). suc z) at)
          ∙ ap (drop (suc (length front))) is ∙ rest_dropped front rest,
    )

pub fields_join : (fields : List ℕ) (b r : ℕ) (rest : List ℕ) → b < length fields
    → get_or fields b 0 ≡ 32 → take b fields ≡ decimal r → take (length fields - (b + 1))
    (drop (b + 1) fields) ≡ rest → fields ≡ decimal r ++ 32 ∷ rest
fields_join fields b r rest inside found front behind = parted fields b inside found
    ∙ ap (λ (z : List ℕ). z ++ 32 ∷ drop (suc b) fields) front
    ∙ ap (λ (z : List ℕ). decimal r ++ 32 ∷ z)
    (ap (λ (z : ℕ). drop z fields) (sym (add-one b)) ∙ sym (drop_all fields (b + 1)) ∙ behind)

-- the text of a publish
pub publish_fields : (r : ℕ) (rest : List ℕ) → codes "publish " ++ decimal r ++ codes " " ++ rest
    ≡ codes "publish " ++ (decimal r ++ 32 ∷ rest)
publish_fields r rest = append_assoc (codes "publish " ++ decimal r) (codes " ") rest
    ∙ append_assoc (codes "publish ") (decimal r) (32 ∷ rest)
