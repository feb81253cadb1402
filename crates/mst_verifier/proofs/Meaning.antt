-- What the library returns is what the proof comes to.
use Rattle.std.proofs.Common.{◌≡◌, ◌≤◌, ◌+◌, ℕ, zero, suc, Bool, true, false, List, ◌++◌, length, take, drop, Option, Some, None, refl, sym, ◌∙◌, ap, subst, arith, rules, tests}
use Rattle.std.proofs.lemmas.List.{take_at}
use Rattle.std.specs.Prelude.{ℤ, pos, negsuc, ◌==◌, ◌&&◌, nat_le, nat_lt, if◌then◌else◌, Result, Ok, Err, IfSome}
use Rattle.mst_key.specs.Bytes.{IsKey}
use Rattle.mst_key.specs.declared.format.Format.{Format as TreeFormat}
use Rattle.mst_proof.specs.declared.fault.ProofFault.{ProofFault}
use Rattle.mst_sharded_proof.specs.declared.fault.ShardedFault.{ShardedFault}
use Rattle.mst_verifier.proofs.CodeLaws.{apart}
use Rattle.mst_verifier.specs.declared.question.Kind.{Kind}
use Rattle.mst_verifier.specs.declared.question.Refusal.{Refusal}
use Rattle.mst_verifier.specs.declared.question.Refusal.TheVariants.{Root, Key}
use Rattle.mst_verifier.specs.Question.{with_refusal, with_sharded_refusal, judged, format_named, answer_in, answer_to}
use Rattle.mst_verifier.specs.Codes.{refusal_code, code_of, room_after}
use Rattle.mst_verifier.specs.Told.{Tells}

-- ---- a refusal says nothing of the key

-- the codes of answers: those from 0 on, and that of absence
abbrev is_answer : ℤ → Bool
is_answer (pos n) = true
is_answer (negsuc zero) = true
is_answer (negsuc (suc n)) = false

beyond : (m n : ℕ) → m ≡ 2 + n → is_answer (negsuc m) ≡ false
beyond zero n e = absurd (omega (arith, e))
beyond (suc m) n e = refl

no_answer : (r : Refusal) → is_answer (refusal_code r) ≡ false
no_answer r = let p = apart r in ap is_answer p.1 ∙ beyond (2 + p.0) p.0 refl

refused : (r : Refusal) (z : ℤ) → is_answer z ≡ true → refusal_code r ≡ z → ⊥
refused r z is e =
    let both : false ≡ true = sym (no_answer r) ∙ ap is_answer e ∙ is in
    cc both

-- ---- a result says no other answer

value_in : (b : Bool) (room v w : List ℕ) → (if b then negsuc 1 else pos (length v)) ≡ pos
    (length w) → take (length w) (if b then room else v ++ drop (length v) room) ≡ w → v ≡ w
value_in true room v w e s = absurd (cc)
value_in false room v w e s =
    let same : length v ≡ length w = cc in
    sym (take_at v (drop (length v) room) (length w) same) ∙ s

abbrev is_absence : ℤ → Bool
is_absence (pos n) = false
is_absence (negsuc zero) = true
is_absence (negsuc (suc n)) = false

no_absence : (b : Bool) (n : ℕ) → is_absence (if b then negsuc 1 else pos n) ≡ false
no_absence true n = refl
no_absence false n = refl

told : (room : List ℕ) (x : Result (Option (List ℕ)) Refusal) (a : Option (List ℕ))
    → Tells (code_of (length room) x) (room_after room x) a → x ≡ Ok a
told room (Ok (Some v)) None t =
    let both : false ≡ true = sym (no_absence (nat_lt (length room) (length v)) (length v))
    ∙ ap is_absence t in
    absurd (cc both)
told room (Ok (Some v)) (Some w) t =
    ap (λ (u : List ℕ). Ok (Some u)) (value_in (nat_lt (length room) (length v)) room v w t.0 t.1)
told room (Ok None) None t = refl
told room (Ok None) (Some w) t = absurd (cc t.0)
told room (Err r) None t = absurd (refused r (negsuc 0) refl t)
told room (Err r) (Some w) t = absurd (refused r (pos (length w)) refl t.0)

-- ---- from the question to the verdict

-- what a proof of one map comes to is the verdict's
pub plain_told : (v : Result (Option (List ℕ)) ProofFault) (a : Option (List ℕ))
    → with_refusal v ≡ Ok a → v ≡ Ok a
plain_told (Ok x) a e = let same : x ≡ a = cc in ap (λ (y : Option (List ℕ)). Ok y) same
plain_told (Err f) a e = absurd (cc)

-- and so of a sharded one
pub sharded_told : (v : Result (Option (List ℕ)) ShardedFault) (a : Option (List ℕ))
    → with_sharded_refusal v ≡ Ok a → v ≡ Ok a
sharded_told (Ok x) a e = let same : x ≡ a = cc in ap (λ (y : Option (List ℕ)). Ok y) same
sharded_told (Err f) a e = absurd (cc)

of_tests : (c d : Bool) (v : Result (Option (List ℕ)) Refusal) (a : Option (List ℕ))
    → (if c then (if d then v else Err Key) else Err Root) ≡ Ok a → v ≡ Ok a
of_tests true true v a e = e
of_tests true false v a e = absurd (cc)
of_tests false d v a e = absurd (cc)

of_format : (kind : Kind) (format : TreeFormat) (root key proof : List ℕ) (a : Option (List ℕ))
    → answer_in kind (Some format) root key proof ≡ Ok a → judged kind format root key proof ≡ Ok a
of_format kind format root key proof a e =
    of_tests (length root == 32) (nat_le 1 (length key) && nat_le (length key) 32)
    (judged kind format root key proof) a e

of_named : (kind : Kind) (named : Option TreeFormat) (root key proof : List ℕ)
    (a : Option (List ℕ)) → answer_in kind named root key proof ≡ Ok a → (f : TreeFormat)
    × (named ≡ Some f) × (judged kind f root key proof ≡ Ok a)
of_named kind None root key proof a e = absurd (cc)
of_named kind (Some f) root key proof a e = (f, refl, of_format kind f root key proof a e)

-- what is returned is an answer to the question
answer_told : (kind : Kind) (number : ℕ) (root key proof room after : List ℕ) (code : ℤ)
    (a : Option (List ℕ)) → code ≡ code_of (length room) (answer_to kind number root key proof)
    → after ≡ room_after room (answer_to kind number root key proof) → Tells code after a
    → answer_to kind number root key proof ≡ Ok a
answer_told kind number root key proof room after code a is left t =
    let x = answer_to kind number root key proof in
    let at_code = subst (λ (z : ℤ). Tells z after a) is t in
    let at_room = subst (λ (r : List ℕ). Tells (code_of (length room) x) r a) left at_code in
    told room x a at_room

-- what is returned is the verdict's answer, in the format that has the number
pub format_told : (kind : Kind) (number : ℕ) (root key proof room after : List ℕ) (code : ℤ)
    (a : Option (List ℕ)) → code ≡ code_of (length room) (answer_to kind number root key proof)
    → after ≡ room_after room (answer_to kind number root key proof) → Tells code after a
    → (f : TreeFormat) × (format_named number ≡ Some f) × (judged kind f root key proof ≡ Ok a)
format_told kind number root key proof room after code a is left t =
    of_named kind (format_named number) root key proof a
    (answer_told kind number root key proof room after code a is left t)

-- the same for a format that is known to have the number
pub verdict_told : (kind : Kind) (number : ℕ) (format : TreeFormat)
    (root key proof room after : List ℕ) (code : ℤ) (a : Option (List ℕ))
    → format_named number ≡ Some format
    → code ≡ code_of (length room) (answer_to kind number root key proof)
    → after ≡ room_after room (answer_to kind number root key proof) → Tells code after a
    → judged kind format root key proof ≡ Ok a
verdict_told kind number format root key proof room after code a named is left t =
    let at_number : answer_to kind number root key proof ≡ Ok a =
    answer_told kind number root key proof room after code a is left t in
    of_format kind format root key proof a
    (ap (λ (n : Option TreeFormat). answer_in kind n root key proof) (sym named) ∙ at_number)

-- ---- and back

answered : (kind : Kind) (format : TreeFormat) (root key proof : List ℕ) → length root ≡ 32
    → IsKey key → answer_in kind (Some format) root key proof ≡ judged kind format root key proof
answered kind format root key proof digest fits = search (tests, rules)

value_told : (b : Bool) (room v : List ℕ) → b ≡ false
    → Tells (if b then negsuc 1 else pos (length v)) (if b then room else v ++ drop (length v) room)
    (Some v)
value_told true room v e = absurd (cc)
value_told false room v e = (refl, take_at v (drop (length v) room) (length v) refl)

tells : (room : List ℕ) (a : Option (List ℕ)) → IfSome a (λ v. length v ≤ length room)
    → Tells (code_of (length room) (Ok a)) (room_after room (Ok a)) a
tells room None fits = refl
tells room (Some v) fits = value_told (nat_lt (length room) (length v)) room v
    (search (tests, rules))

-- the verdict's answer is returned if it fits
pub tells_verdict : (kind : Kind) (number : ℕ) (format : TreeFormat)
    (root key proof room after : List ℕ) (code : ℤ) (a : Option (List ℕ))
    → format_named number ≡ Some format → length root ≡ 32 → IsKey key
    → IfSome a (λ v. length v ≤ length room)
    → code ≡ code_of (length room) (answer_to kind number root key proof)
    → after ≡ room_after room (answer_to kind number root key proof)
    → judged kind format root key proof ≡ Ok a → Tells code after a
tells_verdict kind number format root key proof room after code a named digest key_fits fits is left
    v =
    let at_format : answer_to kind number root key proof
    ≡ answer_in kind (Some format) root key proof =
    ap (λ (n : Option TreeFormat). answer_in kind n root key proof) named in
    let x : answer_to kind number root key proof ≡ Ok a =
    at_format ∙ answered kind format root key proof digest key_fits ∙ v in
    let at_code = subst (λ (z : ℤ). Tells z (room_after room (Ok a)) a)
    (sym (is ∙ ap (code_of (length room)) x)) (tells room a fits) in
    subst (λ (r : List ℕ). Tells code r a) (sym (left ∙ ap (room_after room) x)) at_code
