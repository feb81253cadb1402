-- What a line asks for.
use Rattle.std.specs.Prelude.{ℕ, ◌≤◌, if◌then◌else◌, List, [], ◌∷◌, codes, Option, Some, None, Result, Ok, Err}
use Rattle.std.specs.Str.{bytes_eq}
use Rattle.mst_key.specs.declared.format.Format.{Format as FormatOf}
use Rattle.mst_key.specs.declared.history.Edit.{Edit}
use Rattle.mst_requests.specs.declared.request.Fault.{Fault}
use Rattle.mst_requests.specs.declared.request.Fault.TheVariants.{LongLine, NoPass, NoCommand, FieldCount, BadField, KeySize, ValueSize}
use Rattle.mst_requests.specs.declared.request.Command.{Command}
use Rattle.mst_requests.specs.declared.request.Command.TheVariants.{Put, Remove, Batch, Get, Next, Range, Root, Node, Prove, Pin, Unpin, Rows, Format, Migrate}
use Rattle.mst_requests.specs.declared.request.Request.{Request}
use Rattle.mst_requests.specs.Fields.{fields_of, pass_in, count_in, format_in, bytes_of, has_key_size, has_value_size, has_bound_size, bound_of}
use Rattle.mst_requests.specs.Batches.{edits_read}

-- ---- the commands, by the fields after the name: first their number is tested, then whether each
-- spells something, then the sizes of keys, then that of the value

abbrev pub put_of : Option (List ℕ) → Option (List ℕ) → Result Command Fault
put_of (Some k) (Some v) =
    if has_key_size k then (if has_value_size v then Ok (Put k v) else Err ValueSize)
    else Err KeySize
put_of _ _ = Err BadField

abbrev pub put_fields : List (List ℕ) → Result Command Fault
put_fields (k ∷ v ∷ []) = put_of (bytes_of k) (bytes_of v)
put_fields _ = Err FieldCount

-- a key alone
abbrev pub key_of : Option (List ℕ) → Result (List ℕ) Fault
key_of (Some k) = if has_key_size k then Ok k else Err KeySize
key_of None = Err BadField

abbrev pub key_fields : List (List ℕ) → Result (List ℕ) Fault
key_fields (k ∷ []) = key_of (bytes_of k)
key_fields _ = Err FieldCount

-- a command about a key alone
abbrev pub about_key : (List ℕ → Command) → Result (List ℕ) Fault → Result Command Fault
about_key command (Ok k) = Ok (command k)
about_key command (Err fault) = Err fault

abbrev pub next_of : Option (List ℕ) → Result Command Fault
next_of (Some k) = if has_bound_size k then Ok (Next (bound_of k)) else Err KeySize
next_of None = Err BadField

abbrev pub next_fields : List (List ℕ) → Result Command Fault
next_fields (k ∷ []) = next_of (bytes_of k)
next_fields _ = Err FieldCount

abbrev pub range_of : Option (List ℕ) → Option (List ℕ) → Option ℕ → Result Command Fault
range_of (Some from) (Some to) (Some limit) = if has_bound_size from
    then (if has_bound_size to then Ok (Range (bound_of from) (bound_of to) limit) else Err KeySize)
    else Err KeySize
range_of _ _ _ = Err BadField

abbrev pub range_fields : List (List ℕ) → Result Command Fault
range_fields (from ∷ to ∷ limit ∷ []) = range_of (bytes_of from) (bytes_of to) (count_in limit)
range_fields _ = Err FieldCount

abbrev pub migrate_of : Option FormatOf → Result Command Fault
migrate_of (Some to) = Ok (Migrate to)
migrate_of None = Err BadField

abbrev pub migrate_fields : List (List ℕ) → Result Command Fault
migrate_fields (to ∷ []) = migrate_of (format_in to)
migrate_fields _ = Err FieldCount

-- the edits of a batch
abbrev pub about_edits : Result (List Edit) Fault → Result Command Fault
about_edits (Ok es) = Ok (Batch es)
about_edits (Err fault) = Err fault

-- a command without fields
abbrev pub no_fields : Command → List (List ℕ) → Result Command Fault
no_fields command [] = Ok command
no_fields command _ = Err FieldCount

-- ---- lines

-- the command without fields that has this name
abbrev pub plain_command : List ℕ → Option Command
plain_command name =
    if bytes_eq name (codes "root") then Some Root
    else if bytes_eq name (codes "node") then Some Node
    else if bytes_eq name (codes "pin") then Some Pin
    else if bytes_eq name (codes "unpin") then Some Unpin
    else if bytes_eq name (codes "rows") then Some Rows
    else if bytes_eq name (codes "format") then Some Format
    else None

-- a command with fields, by its name
abbrev pub full_command : List ℕ → List (List ℕ) → Result Command Fault
full_command name fields =
    if bytes_eq name (codes "put") then put_fields fields
    else if bytes_eq name (codes "del") then about_key Remove (key_fields fields)
    else if bytes_eq name (codes "get") then about_key Get (key_fields fields)
    else if bytes_eq name (codes "next") then next_fields fields
    else if bytes_eq name (codes "range") then range_fields fields
    else if bytes_eq name (codes "prove") then about_key Prove (key_fields fields)
    else if bytes_eq name (codes "migrate") then migrate_fields fields
    else if bytes_eq name (codes "batch") then about_edits (edits_read fields)
    else Err NoCommand

abbrev pub plain_or_full : Option Command → List ℕ → List (List ℕ) → Result Command Fault
plain_or_full (Some command) name fields = no_fields command fields
plain_or_full None name fields = full_command name fields

abbrev pub named_command : List ℕ → List (List ℕ) → Result Command Fault
named_command name fields = plain_or_full (plain_command name) name fields

abbrev pub command_of : List (List ℕ) → Result Command Fault
command_of [] = Err NoCommand
command_of (name ∷ fields) = named_command name fields

abbrev pub asked_of : ℕ → Result Command Fault → Result Request Fault
asked_of p (Ok command) = Ok record { pass = p; command = command }
asked_of p (Err fault) = Err fault

abbrev pub by_pass : Option ℕ → List (List ℕ) → Result Request Fault
by_pass None fields = Err NoPass
by_pass (Some p) fields = asked_of p (command_of fields)

abbrev pub by_fields : ℕ → List (List ℕ) → Result Request Fault
by_fields n [] = Err NoPass
by_fields n (first ∷ fields) = by_pass (pass_in n first) fields

-- what is asked for by what is kept of a line, where the passes 1 to n are dealt
abbrev pub asked : ℕ → Option (List ℕ) → Result Request Fault
asked n None = Err LongLine
asked n (Some line) = by_fields n (fields_of line)

-- the request is of a pass 1 to n
abbrev pub IsDealt : ℕ → Request → Type 0
IsDealt n request = (1 ≤ request.pass) × (request.pass ≤ n)
