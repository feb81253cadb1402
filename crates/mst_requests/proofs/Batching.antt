-- The edits of a batch, one after another.
use Rattle.mst_requests.proofs.Names.{◌≡◌, ℕ, ◌+◌, ◌<◌, Bool, true, false, cond, List, [], ◌∷◌, ◌++◌, length, Option, Some, None, refl, sym, ap, subst, ◌∙◌, append_assoc, append-nil, arith, Result, Ok, Err, result_err, Fault, FieldCount, before, told}
use Rattle.std.specs.Prelude.{IfErr}
use denote.Ref.{Bor}
use Rattle.mst_key.specs.declared.history.Edit.{Edit}
use Rattle.mst_requests.specs.Batches.{if_edits, all_edits, joined, is_bad_field, first_told, edits_or_none}

-- what is left of the fields, as a number that falls
abbrev pub left : Option (Bor (List ℕ)) → ℕ
left None = 0
left (Some rest) = length rest.now + 1

-- ---- the fault of a batch, edit by edit

-- where the edits so far have this fault, or none, what the batch has with those that are left
abbrev pub comes_to : Option Fault → Option (List (Result Edit Fault)) → Option Fault
comes_to fault None = Some FieldCount
comes_to fault (Some es) = told fault (result_err (all_edits es))

pub at_first : (es : Option (List (Result Edit Fault))) → result_err (if_edits es)
    ≡ comes_to None es
at_first None = refl
at_first (Some es) = refl

pub at_last : (fault : Option Fault) → comes_to fault (Some []) ≡ fault
at_last None = refl
at_last (Some fault) = refl

later_told : (bad worse : Bool) (f g h : Fault) → is_bad_field g ≡ bad → is_bad_field h ≡ worse
    → first_told (first_told f g) h ≡ first_told f (first_told g h)
later_told true true f g h bad worse =
    ap (λ b. cond b h (first_told f g)) worse
    ∙ sym (ap (λ b. cond b h f) worse) ∙ ap (λ x. first_told f x) (sym (ap (λ b. cond b h g) worse))
later_told true false f g h bad worse =
    ap (λ b. cond b h (first_told f g)) worse
    ∙ ap (λ x. first_told f x) (sym (ap (λ b. cond b h g) worse))
later_told false true f g h bad worse =
    ap (λ b. cond b h (first_told f g)) worse
    ∙ sym (ap (λ b. cond b h f) worse) ∙ ap (λ x. first_told f x) (sym (ap (λ b. cond b h g) worse))
later_told false false f g h bad worse =
    ap (λ b. cond b h (first_told f g)) worse
    ∙ ap (λ x. first_told f x) (sym (ap (λ b. cond b h g) worse))

told_in_turn : (a b c : Option Fault) → told (told a b) c ≡ told a (told b c)
told_in_turn None b c = refl
told_in_turn (Some f) None c = refl
told_in_turn (Some f) (Some g) None = refl
told_in_turn (Some f) (Some g) (Some h) =
    ap Some (later_told (is_bad_field g) (is_bad_field h) f g h refl refl)

of_joined : (e : Result Edit Fault) (es : Result (List Edit) Fault) → result_err (joined e es)
    ≡ told (result_err e) (result_err es)
of_joined (Ok e) (Ok es) = refl
of_joined (Ok e) (Err later) = refl
of_joined (Err first) (Ok es) = refl
of_joined (Err first) (Err later) = refl

pub one_more : (fault : Option Fault) (e : Result Edit Fault)
    (es : Option (List (Result Edit Fault)))
    → comes_to fault (before e es) ≡ comes_to (told fault (result_err e)) es
one_more fault e None = refl
one_more fault e (Some es) = ap (told fault) (of_joined e (all_edits es))
    ∙ sym (told_in_turn fault (result_err e) (result_err (all_edits es)))

pub on_err : {T E : Type 0} {holds : Type 0} (r : Result T E) → holds → IfErr r (λ e. holds)
on_err (Ok x) is = tt
on_err (Err e) is = is

pub has_fault : (r : Result (List Edit) Fault) (fault : Fault) → Some fault ≡ result_err r
    → Err fault ≡ r
has_fault (Ok es) fault is = cc
has_fault (Err one) fault is = cc

pub has_none : (r : Result (List Edit) Fault) → None ≡ result_err r → r ≡ Ok (edits_or_none r)
has_none (Ok es) is = refl
has_none (Err fault) is = cc

-- ---- the edits of a batch, edit by edit

-- these edits are those of the list, and those that are left
abbrev pub IsRead : List Edit → List Edit → Option (List (Result Edit Fault)) → Type 0
IsRead all read es = (rest : List Edit) × (if_edits es ≡ Ok rest) × (all ≡ read ++ rest)

none_more : (rest : List Edit) → if_edits (Some []) ≡ Ok rest → rest ≡ []
none_more [] is = refl
none_more (e ∷ es) is = cc

pub all_read : (all read : List Edit) → IsRead all read (Some []) → read ≡ all
all_read all read (rest, is, so) =
    sym (so ∙ ap (λ (es : List Edit). read ++ es) (none_more rest is) ∙ append-nil read)

pub nothing_left : (all read : List Edit) → IsRead all read None → ⊥
nothing_left all read (rest, is, so) = cc

no_list : (fault : Fault) (others : Result (List Edit) Fault) (rest : List Edit)
    → joined (Err fault) others ≡ Ok rest → ⊥
no_list fault (Ok es) rest is = cc
no_list fault (Err later) rest is = cc

pub fault_left : (all read : List Edit) (fault : Fault) (es : Option (List (Result Edit Fault)))
    → IsRead all read (before (Err fault) es) → ⊥
fault_left all read fault None (rest, is, so) = cc
fault_left all read fault (Some es) (rest, is, so) = no_list fault (all_edits es) rest is

others_of : (e : Edit) (others : Result (List Edit) Fault) (rest : List Edit)
    → joined (Ok e) others ≡ Ok rest → (es : List Edit) × (others ≡ Ok es) × (rest ≡ e ∷ es)
others_of e (Ok es) rest is = (es, refl, cc)
others_of e (Err later) rest is = absurd (let no : ⊥ = cc in no)

one_longer : (all read rest es : List Edit) (e : Edit) → all ≡ read ++ rest → rest ≡ e ∷ es
    → all ≡ (read ++ e ∷ []) ++ es
one_longer all read rest es e so is = so ∙ ap (λ (es : List Edit). read ++ es) is
    ∙ sym (append_assoc read (e ∷ []) es)

read_more : (all read : List Edit) (e : Edit) (es : Option (List (Result Edit Fault)))
    → IsRead all read (before (Ok e) es) → IsRead all (read ++ e ∷ []) es
read_more all read e None (rest, is, so) = absurd (let no : ⊥ = cc in no)
read_more all read e (Some es) (rest, is, so) =
    let found = others_of e (all_edits es) rest is in
    (found.0, found.1, one_longer all read rest found.0 e so found.2)

-- an edit more is read
pub one_read : (all read now : List Edit) (e : Edit) (es : Option (List (Result Edit Fault)))
    → now ≡ read ++ e ∷ [] → IsRead all read (before (Ok e) es) → IsRead all now es
one_read all read now e es longer is =
    subst (λ (list : List Edit). IsRead all list es) (sym longer) (read_more all read e es is)

-- a list of which an edit is left has one
some_edit : (read es : List Edit) (e : Edit) → 0 < length ((read ++ e ∷ []) ++ es)
some_edit [] es e = omega arith
some_edit (one ∷ read) es e = omega arith

pub some_left : (all read : List Edit) (e : Edit) (es : Option (List (Result Edit Fault)))
    → IsRead all read (before (Ok e) es) → 0 < length all
some_left all read e es is = let found = read_more all read e es is in
    subst (λ (list : List Edit). 0 < length list) (sym found.2) (some_edit read found.0 e)
