-- The edits of a batch, as the fields of a line spell them.
use Rattle.std.specs.Prelude.{ℕ, Bool, true, false, if◌then◌else◌, List, [], ◌∷◌, codes, Option, Some, None, Result, Ok, Err}
use Rattle.std.specs.Str.{bytes_eq}
use Rattle.mst_key.specs.declared.history.Edit.{Edit}
use Rattle.mst_key.specs.declared.history.Edit.TheVariants.{Put, Remove}
use Rattle.mst_requests.specs.declared.request.Fault.{Fault}
use Rattle.mst_requests.specs.declared.request.Fault.TheVariants.{FieldCount, BadField, KeySize, ValueSize}
use Rattle.mst_requests.specs.Fields.{bytes_of, has_key_size, has_value_size}

-- ---- one edit, or its fault: first whether each field spells something is tested, then the size
-- of the key, then that of the value

abbrev pub put_edit : Option (List ℕ) → Option (List ℕ) → Result Edit Fault
put_edit (Some k) (Some v) =
    if has_key_size k then (if has_value_size v then Ok (Put k v) else Err ValueSize)
    else Err KeySize
put_edit _ _ = Err BadField

abbrev pub remove_edit : Option (List ℕ) → Result Edit Fault
remove_edit (Some k) = if has_key_size k then Ok (Remove k) else Err KeySize
remove_edit None = Err BadField

-- ---- all edits, one after another

-- what stands before others, if these stand there
abbrev pub before : {E : Type 0} → E → Option (List E) → Option (List E)
before e (Some es) = Some (e ∷ es)
before e None = None

-- the edits that the fields are, each `put` with a key and a value or `del` with a key; none if the
-- fields are anything else
abbrev pub edits_in : List (List ℕ) → Option (List (Result Edit Fault))
edits_in [] = Some []
edits_in (word ∷ []) = None
edits_in (word ∷ k ∷ []) =
    if bytes_eq word (codes "del") then Some (remove_edit (bytes_of k) ∷ []) else None
edits_in (word ∷ k ∷ v ∷ fields) =
    if bytes_eq word (codes "del") then before (remove_edit (bytes_of k)) (edits_in (v ∷ fields))
    else if bytes_eq word (codes "put")
    then before (put_edit (bytes_of k) (bytes_of v)) (edits_in fields) else None

-- a field spells nothing
abbrev pub is_bad_field : Fault → Bool
is_bad_field BadField = true
is_bad_field _ = false

-- Of the faults of two edits: that a field spells nothing is told before each size, and otherwise
-- the first edit's is told.
abbrev pub first_told : Fault → Fault → Fault
first_told first later = if is_bad_field later then later else first

-- an edit before others
abbrev pub joined : Result Edit Fault → Result (List Edit) Fault → Result (List Edit) Fault
joined (Ok e) (Ok es) = Ok (e ∷ es)
joined (Ok e) (Err later) = Err later
joined (Err first) (Ok es) = Err first
joined (Err first) (Err later) = Err (first_told first later)

abbrev pub all_edits : List (Result Edit Fault) → Result (List Edit) Fault
all_edits [] = Ok []
all_edits (e ∷ es) = joined e (all_edits es)

abbrev pub if_edits : Option (List (Result Edit Fault)) → Result (List Edit) Fault
if_edits (Some es) = all_edits es
if_edits None = Err FieldCount

-- the edits that the fields spell, or the fault of the batch
abbrev pub edits_read : List (List ℕ) → Result (List Edit) Fault
edits_read fields = if_edits (edits_in fields)

-- ---- what a reader of the fields keeps

-- the edits, and none where there is a fault
abbrev pub edits_or_none : Result (List Edit) Fault → List Edit
edits_or_none (Ok es) = es
edits_or_none (Err fault) = []

-- which of the faults of two edits is told, where each has one or none
abbrev pub told : Option Fault → Option Fault → Option Fault
told None later = later
told (Some first) None = Some first
told (Some first) (Some later) = Some (first_told first later)
