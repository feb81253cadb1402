-- Edits that were packed are read back, each from the front of what is left.
use Rattle.mst_c.proofs.Names.{◌≡◌, ℕ, ◌+◌, ◌<◌, ◌≤◌, List, [], ◌∷◌, ◌++◌, length, take, drop, Bool, false, nat_lt, refl, ap, ◌∙◌, sym, arith, if◌then◌else◌, append_assoc, append-nil, Result, Ok, Err, w16, from_be_bytes, nat_tests, length-append, take_at, drop_at, IsKey, Edit, Put, Remove, EditFault, KeySize, ValueSize, Form, edit_of, ◌>>=◌, edits_from, size_bytes, edit_bytes, edits_bytes}
use Rattle.std.specs.List.{AllByRecursion}
use Rattle.std.proofs.lemmas.Nat.{from_be_bytes-to_be_bytes_2}
use Rattle.mst_key.specs.Bytes.{IsValue}
use Rattle.mst_key.specs.History.{IsSmall}
use Rattle.mst_c.specs.Batches.{parts_by, parts_at, edit_at, edits_in}
use Rattle.mst_c.proofs.Readings.{step, none_from}

-- an edit's kind, key and value, and the bytes after it
abbrev pub Part : Type 0
Part = ℕ × List ℕ × List ℕ × List ℕ

abbrev pub ReadPart : Type 0
ReadPart = Result Part EditFault

abbrev parts : ℕ → List ℕ → List ℕ → List ℕ → ReadPart
parts kind key value rest = Ok (kind, key, value, rest)

abbrev pub read : Edit → List ℕ → Result (Edit × List ℕ) EditFault
read e rest = Ok (e, rest)

not_less : (a b : ℕ) → b ≤ a → nat_lt a b ≡ false
not_less a b l = grind (arith, nat_tests, l)

-- lengths that are within the limits are let through
within : (kind k v : ℕ) (bytes : List ℕ) → 0 < k → k ≤ 32 → v ≤ 64 → k + v ≤ length bytes
    → parts_by kind k v bytes
    ≡ Ok (kind, take k bytes, take v (drop k bytes), drop v (drop k bytes))
within kind k v bytes some few small fits =
    let r : ReadPart = Ok (kind, take k bytes, take v (drop k bytes), drop v (drop k bytes)) in
    let full : ReadPart = if nat_lt (length bytes) (k + v) then Err Form else r in
    let sized : ReadPart = if nat_lt 64 v then Err ValueSize else full in
    ap (λ (t : Bool). if t then Err KeySize else if nat_lt 32 k then Err KeySize else sized)
    (not_less k 1 some)
    ∙ ap (λ (t : Bool). if t then Err KeySize else sized) (not_less 32 k few)
    ∙ ap (λ (t : Bool). if t then Err ValueSize else full) (not_less 64 v small)
    ∙ ap (λ (t : Bool). if t then Err Form else r) (not_less (length bytes) (k + v) fits)

-- a key and a value at the front are taken off
taken : (kind : ℕ) (k v rest : List ℕ) → IsKey k → IsValue v
    → parts_by kind (length k) (length v) (k ++ (v ++ rest)) ≡ Ok (kind, k, v, rest)
taken kind k v rest key value =
    let n : ℕ = length k in let m : ℕ = length v in let bytes : List ℕ = k ++ (v ++ rest) in
    let front : length bytes ≡ n + length (v ++ rest) = length-append k (v ++ rest) in
    let behind : length (v ++ rest) ≡ m + length rest = length-append v rest in
    within kind n m bytes key.0 key.1 value (omega (arith, front, behind))
    ∙ ap (λ (x : List ℕ). parts kind x (take m (drop n bytes)) (drop m (drop n bytes)))
    (take_at k (v ++ rest) n refl)
    ∙ ap (λ (y : List ℕ). parts kind k (take m y) (drop m y))
    (drop_at k (v ++ rest) n refl)
    ∙ ap (λ (x : List ℕ). parts kind k x (drop m (v ++ rest))) (take_at v rest m refl)
    ∙ ap (λ (x : List ℕ). parts kind k v x) (drop_at v rest m refl)

-- their lengths are read back
sized_back : (xs : List ℕ) → length xs ≤ 64 → from_be_bytes w16 (size_bytes xs) ≡ length xs
sized_back xs few = from_be_bytes-to_be_bytes_2 (length xs) (omega (arith, few))

parts_are : (kind : ℕ) (k v rest : List ℕ) → IsKey k → IsValue v
    → parts_at (kind ∷ (size_bytes k ++ (size_bytes v ++ (k ++ (v ++ rest)))))
    ≡ Ok (kind, k, v, rest)
unfolding parts_at
parts_are kind k v rest key value =
    ap (λ (n : ℕ). parts_by kind n (from_be_bytes w16 (size_bytes v)) (k ++ (v ++ rest)))
    (sized_back k (omega (arith, key.1)))
    ∙ ap (λ (n : ℕ). parts_by kind (length k) n (k ++ (v ++ rest))) (sized_back v value)
    ∙ taken kind k v rest key value

edit_by : (kind : ℕ) (k v rest : List ℕ) → IsKey k → IsValue v
    → edit_at (kind ∷ (size_bytes k ++ (size_bytes v ++ (k ++ (v ++ rest)))))
    ≡ (edit_of kind k v >>= λ e. Ok (e, rest))
unfolding edit_at
edit_by kind k v rest key value = ap
    (λ (r : ReadPart). r >>= λ x. edit_of x.0 x.1 x.2 >>= λ e. read e x.3)
    (parts_are kind k v rest key value)

-- an edit at the front is read back
edit_is : (e : Edit) (rest : List ℕ) → IsSmall e → edit_at (edit_bytes e ++ rest) ≡ Ok (e, rest)
edit_is (Put k v) rest small =
    ap (λ (x : List ℕ). edit_at (1 ∷ (size_bytes k ++ (size_bytes v ++ x))))
    (append_assoc k v rest) ∙ edit_by 1 k v rest small.0 small.1
edit_is (Remove k) rest small = edit_by 2 k [] rest small (omega arith)

-- an edit takes a byte at least
pub some_bytes : (e : Edit) → 0 < length (edit_bytes e)
some_bytes (Put k v) = omega arith
some_bytes (Remove k) = omega arith

all_from : (n : ℕ) (before es : List Edit) → AllByRecursion IsSmall es
    → length (edits_bytes es) ≤ n → edits_from n before (edits_bytes es) ≡ Ok (before ++ es)
all_from n before [] small enough = none_from n before ∙ ap Ok (sym (append-nil before))
all_from n before (e ∷ es) small enough =
    let bytes : List ℕ = edits_bytes es in
    let both : length (edit_bytes e ++ bytes) ≡ length (edit_bytes e) + length bytes =
    length-append (edit_bytes e) bytes in
    let s = step n before (edit_bytes e ++ bytes) enough e bytes (edit_is e bytes small.0)
    (omega (arith, both, some_bytes e)) in
    s.2 ∙ all_from s.0 (before ++ e ∷ []) es small.1 s.1 ∙ ap Ok (append_assoc before (e ∷ []) es)

pub packed : (es : List Edit) → AllByRecursion IsSmall es → edits_in (edits_bytes es) ≡ Ok es
unfolding edits_in
packed es small = all_from (length (edits_bytes es)) [] es small (omega arith)
