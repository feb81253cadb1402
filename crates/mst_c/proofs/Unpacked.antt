-- A buffer that spells edits is these edits packed.
use Rattle.mst_c.proofs.Names.{◌≡◌, ℕ, zero, suc, ◌+◌, ◌<◌, ◌≤◌, List, [], ◌∷◌, ◌++◌, length, take, drop, get_or, Bool, false, nat_lt, refl, ap, ◌∙◌, sym, subst, arith, if◌then◌else◌, append_assoc, append-nil, Result, Ok, Err, is_ok, w16, from_be_bytes, false≢true, nat_tests, take-append-drop, length-take-le, length-append, Edit, Put, Remove, EditFault, KeySize, ValueSize, Form, edit_of, ◌>>=◌, placed, size_bytes, edit_bytes, edits_bytes}
use Rattle.std.proofs.Common.{◌==◌, true}
use Rattle.std.proofs.lemmas.List.{nil_from_length}
use Rattle.std.proofs.lemmas.Nat.{be_bytes_2}
use Rattle.mst_key.specs.Bytes.{IsBytes}
use Rattle.mst_key.proofs.Alls.{alls-back}
use Rattle.mst_c.specs.declared.packing.BadEdit.{BadEdit}
use Rattle.mst_c.specs.Batches.{parts_at, edit_at, edits_from, edits_in}
use Rattle.mst_c.proofs.Packed.{Part, ReadPart, read, some_bytes}

-- what stands in a result, or this
abbrev or_else : {A B : Type 0} → A → Result A B → A
or_else x (Ok y) = y
or_else x (Err fault) = x

no_fault : {A B : Type 0} (fault : B) (x : A) → Err fault ≡ Ok x → ⊥
no_fault fault x is = false≢true (ap is_ok is)

abbrev ok : {A : Type 0} (B : Type 0) → A → Result A B
ok B x = Ok x

same_ok : {A B : Type 0} (x y : A) → ok B x ≡ ok B y → x ≡ y
same_ok x y is = ap (or_else x) is

all_passed : (a b c d : Bool) (r x : Part) → (if a then Err KeySize else if b then Err KeySize
    else if c then Err ValueSize else if d then Err Form else Ok r) ≡ Ok x
    → (d ≡ false) × (r ≡ x)
all_passed true b c d r x is = absurd (no_fault KeySize x is)
all_passed false true c d r x is = absurd (no_fault KeySize x is)
all_passed false false true d r x is = absurd (no_fault ValueSize x is)
all_passed false false false true r x is = absurd (no_fault Form x is)
all_passed false false false false r x is = (refl, same_ok r x is)

at_most : (a b : ℕ) → nat_lt a b ≡ false → b ≤ a
at_most a b l = grind (arith, nat_tests, l)

drop_bytes : (n : ℕ) (xs : List ℕ) → IsBytes xs → IsBytes (drop n xs)
drop_bytes n xs all = alls-back (λ b. b < 256) (take n xs) (drop n xs)
    (subst IsBytes (sym (take-append-drop n xs)) all)

-- two bytes are the length that they spell
two_back : (a b : ℕ) (xs : List ℕ) → a < 256 → b < 256
    → length xs ≡ from_be_bytes w16 (a ∷ b ∷ []) → size_bytes xs ≡ a ∷ b ∷ []
two_back a b xs low high is = be_bytes_2 (a ∷ b ∷ []) (length xs) refl small is
  where
    small : (i : ℕ) → get_or (a ∷ b ∷ []) i 0 < 256
    small zero = low
    small (suc zero) = high
    small (suc (suc i)) = omega arith

-- an edit's parts, one after the other
abbrev joined : Part → List ℕ
joined (kind, key, value, rest) =
    kind ∷ (size_bytes key ++ (size_bytes value ++ (key ++ (value ++ rest))))

parts_back : (bytes : List ℕ) → IsBytes bytes → (x : Part) → parts_at bytes ≡ Ok x
    → (bytes ≡ joined x) × IsBytes x.3
unfolding parts_at
parts_back [] all x is = absurd (no_fault Form x is)
parts_back (kind ∷ []) all x is = absurd (no_fault Form x is)
parts_back (kind ∷ a ∷ []) all x is = absurd (no_fault Form x is)
parts_back (kind ∷ a ∷ b ∷ []) all x is = absurd (no_fault Form x is)
parts_back (kind ∷ a ∷ b ∷ c ∷ []) all x is = absurd (no_fault Form x is)
parts_back (kind ∷ a ∷ b ∷ c ∷ d ∷ bytes) all x is =
    let k : ℕ = from_be_bytes w16 (a ∷ b ∷ []) in
    let v : ℕ = from_be_bytes w16 (c ∷ d ∷ []) in
    let behind : List ℕ = drop k bytes in
    let r : Part = (kind, take k bytes, take v behind, drop v behind) in
    let passed = all_passed (nat_lt k 1) (nat_lt 32 k) (nat_lt 64 v) (nat_lt (length bytes) (k + v))
    r x is in
    let fits : k + v ≤ length bytes = at_most (length bytes) (k + v) passed.0 in
    let one : length (take k bytes) ≡ k = length-take-le k bytes (omega (arith, fits)) in
    let whole : length (take k bytes ++ behind) ≡ length (take k bytes) + length behind =
    length-append (take k bytes) behind in
    let same : length (take k bytes ++ behind) ≡ length bytes =
    ap length (take-append-drop k bytes) in
    let two : length (take v behind) ≡ v =
    length-take-le v behind (omega (arith, fits, one, whole, same)) in
    let keys : size_bytes (take k bytes) ≡ a ∷ b ∷ [] =
    two_back a b (take k bytes) all.1.0 all.1.1.0 one in
    let values : size_bytes (take v behind) ≡ c ∷ d ∷ [] =
    two_back c d (take v behind) all.1.1.1.0 all.1.1.1.1.0 two in
    let back : take k bytes ++ (take v behind ++ drop v behind) ≡ bytes =
    ap (λ (l : List ℕ). take k bytes ++ l) (take-append-drop v behind) ∙ take-append-drop k bytes
    in
    let all_is : joined r ≡ kind ∷ a ∷ b ∷ c ∷ d ∷ bytes =
    ap (λ (l : List ℕ). kind ∷ (l ++ (size_bytes (take v behind) ++ (take k bytes
    ++ (take v behind ++ drop v behind))))) keys
    ∙ ap (λ (l : List ℕ). kind ∷ a ∷ b ∷ (l ++ (take k bytes ++ (take v behind ++ drop v behind))))
    values
    ∙ ap (λ (l : List ℕ). kind ∷ a ∷ b ∷ c ∷ d ∷ l) back in
    let rest : IsBytes (drop v behind) = drop_bytes v behind (drop_bytes k bytes all.1.1.1.1.1) in
    subst (λ (y : Part). (kind ∷ a ∷ b ∷ c ∷ d ∷ bytes ≡ joined y) × IsBytes y.3) passed.1
    (sym all_is, rest)

edit_by : (put remove none : Bool) (kind : ℕ) (key value rest : List ℕ) (e : Edit)
    → (kind == 1) ≡ put → (kind == 2) ≡ remove → (length value == 0) ≡ none
    → (if put then Ok (Put key value) else if remove
    then (if none then Ok (Remove key) else Err Form) else Err Form) ≡ Ok e
    → joined (kind, key, value, rest) ≡ edit_bytes e ++ rest
edit_by true remove none kind key value rest e is_put is_remove is_none is =
    let one : kind ≡ 1 = grind (arith, nat_tests, is_put) in
    let same : Put key value ≡ e = same_ok (Put key value) e is in
    ap (λ (n : ℕ). joined (n, key, value, rest)) one
    ∙ ap (λ (x : List ℕ). 1 ∷ (size_bytes key ++ (size_bytes value ++ x)))
    (sym (append_assoc key value rest)) ∙ ap (λ (x : Edit). edit_bytes x ++ rest) same
edit_by false true true kind key value rest e is_put is_remove is_none is =
    let two : kind ≡ 2 = grind (arith, nat_tests, is_remove) in
    let empty : length value ≡ 0 = grind (arith, nat_tests, is_none) in
    let same : Remove key ≡ e = same_ok (Remove key) e is in
    ap (λ (n : ℕ). joined (n, key, value, rest)) two
    ∙ ap (λ (x : List ℕ). joined (2, key, x, rest)) (nil_from_length value empty)
    ∙ ap (λ (x : Edit). edit_bytes x ++ rest) same
edit_by false true false kind key value rest e is_put is_remove is_none is =
    absurd (no_fault Form e is)
edit_by false false none kind key value rest e is_put is_remove is_none is =
    absurd (no_fault Form e is)

made : (kind : ℕ) (key value rest behind : List ℕ) (e : Edit) (r : Result Edit EditFault)
    → edit_of kind key value ≡ r → (r >>= λ x. read x rest) ≡ read e behind
    → (edit_of kind key value ≡ Ok e) × (rest ≡ behind)
made kind key value rest behind e (Ok x) first is =
    let here : Edit × List ℕ = (x, rest) in
    let there : Edit × List ℕ = (e, behind) in
    let same : here ≡ there = same_ok here there is in
    (first ∙ ap Ok (ap (λ (y : Edit × List ℕ). y.0) same), ap (λ (y : Edit × List ℕ). y.1) same)
made kind key value rest behind e (Err fault) first is =
    let there : Edit × List ℕ = (e, behind) in absurd (no_fault fault there is)

edit_back_by : (bytes : List ℕ) → IsBytes bytes → (e : Edit) (behind : List ℕ) (r : ReadPart)
    → parts_at bytes ≡ r
    → (r >>= λ x. edit_of x.0 x.1 x.2 >>= λ e. read e x.3) ≡ read e behind
    → (bytes ≡ edit_bytes e ++ behind) × IsBytes behind
edit_back_by bytes all e behind (Err fault) first is =
    let there : Edit × List ℕ = (e, behind) in absurd (no_fault fault there is)
edit_back_by bytes all e behind (Ok (kind, key, value, rest)) first is =
    let parts = parts_back bytes all (kind, key, value, rest) first in
    let edit = made kind key value rest behind e (edit_of kind key value) refl is in
    let packed : joined (kind, key, value, rest) ≡ edit_bytes e ++ rest =
    edit_by (kind == 1) (kind == 2) (length value == 0) kind key value rest e refl refl refl edit.0
    in (
      parts.0 ∙ packed ∙ ap (λ (l : List ℕ). edit_bytes e ++ l) edit.1,
      subst IsBytes edit.1 parts.1,
    )

edit_back : (bytes : List ℕ) → IsBytes bytes → (e : Edit) (behind : List ℕ)
    → edit_at bytes ≡ Ok (e, behind) → (bytes ≡ edit_bytes e ++ behind) × IsBytes behind
unfolding edit_at
edit_back bytes all e behind is = edit_back_by bytes all e behind (parts_at bytes) refl is

-- the edits that were read behind others are those that stand there
abbrev AreBehind : List Edit → List ℕ → List Edit → Type 0
AreBehind before bytes es = (fs : List Edit) × (es ≡ before ++ fs) × (bytes ≡ edits_bytes fs)

behind_by : (n : ℕ) (before : List Edit) (bytes : List ℕ) (es : List Edit) → IsBytes bytes
    → length bytes ≤ suc n → ((before : List Edit) (bytes : List ℕ) → IsBytes bytes
    → length bytes ≤ n → edits_from n before bytes ≡ Ok es → AreBehind before bytes es)
    → (r : Result (Edit × List ℕ) EditFault) → edit_at bytes ≡ r
    → placed (length before) r (λ x. edits_from n (before ++ x.0 ∷ []) x.1) ≡ Ok es
    → AreBehind before bytes es
behind_by n before bytes es all enough more (Err fault) first is =
    absurd (no_fault (the_fault before fault) es is)
  where
    the_fault : List Edit → EditFault → BadEdit
    the_fault before fault = record { place = length before; fault = fault }
behind_by n before bytes es all enough more (Ok (e, rest)) first is =
    let back = edit_back bytes all e rest first in
    let both : length (edit_bytes e ++ rest) ≡ length (edit_bytes e) + length rest =
    length-append (edit_bytes e) rest in
    let size : length bytes ≡ length (edit_bytes e ++ rest) = ap length back.0 in
    let less : length rest ≤ n = omega (arith, enough, both, size, some_bytes e) in
    let fs = more (before ++ e ∷ []) rest back.1 less is in (
      e ∷ fs.0,
      fs.1 ∙ append_assoc before (e ∷ []) fs.0,
      back.0 ∙ ap (λ (l : List ℕ). edit_bytes e ++ l) fs.2,
    )

behind_are : (n : ℕ) (before : List Edit) (bytes : List ℕ) (es : List Edit) → IsBytes bytes
    → length bytes ≤ n → edits_from n before bytes ≡ Ok es → AreBehind before bytes es
unfolding edits_from
behind_are zero before [] es all enough is =
    ([], sym (same_ok before es is) ∙ sym (append-nil before), refl)
behind_are zero before (b ∷ bytes) es all enough is = absurd (omega (arith, enough))
behind_are (suc n) before [] es all enough is =
    ([], sym (same_ok before es is) ∙ sym (append-nil before), refl)
behind_are (suc n) before (b ∷ bytes) es all enough is =
    behind_by n before (b ∷ bytes) es all enough
    (λ before bytes all few is. behind_are n before bytes es all few is) (edit_at (b ∷ bytes)) refl
    is

pub only : (bytes : List ℕ) (es : List Edit) → IsBytes bytes → edits_in bytes ≡ Ok es
    → bytes ≡ edits_bytes es
unfolding edits_in
only bytes es all is =
    let behind = behind_are (length bytes) [] bytes es all (omega arith) is in
    behind.2 ∙ ap edits_bytes (sym behind.1)
