-- A history: the list of the events so far, the oldest first, and the map that they leave. Each
-- event is a change by a pass (Herlihy and Wing 1990: a sequential history of one object, the
-- ordered map). `history_laws` and `reply_laws` state what follows from these definitions.
use Rattle.std.specs.Prelude.{◌≡◌, ◌⊎◌, ℕ, ◌==◌, List, [], ◌∷◌, ◌++◌, Option, Some, None, if◌then◌else◌, filter}
use Rattle.std.specs.List.{AllByRecursion}
use Rattle.std.specs.Ordering.{is_eq}
use Rattle.mst_key.specs.declared.history.Change.{Change}
use Rattle.mst_key.specs.declared.format.Format.{Format}
use Rattle.mst_key.specs.declared.history.Change.TheVariants.{Put, Remove, Migrate, Batch}
use Rattle.mst_key.specs.declared.history.Edit.{Edit}
use Rattle.mst_key.specs.declared.history.Edit.TheVariants as edit
use Rattle.mst_key.specs.declared.history.Event.{Event}
use Rattle.mst_key.specs.Bytes.{IsKey, IsValue}
use Rattle.mst_key.specs.Map.{Pair, key_cmp, map_get, put, remove}

abbrev pub History : Type 0
History = List Event

-- the map that an edit leaves
abbrev pub edited : List Pair → Edit → List Pair
edited m (edit.Put k v) = put m k v
edited m (edit.Remove k) = remove m k

-- the map that the edits of a batch leave, one after another
abbrev pub batched : List Pair → List Edit → List Pair
batched m [] = m
batched m (e ∷ es) = batched (edited m e) es

-- the map that a change leaves
abbrev pub changed : List Pair → Change → List Pair
changed m (Put k v) = put m k v
changed m (Remove k) = remove m k
changed m (Migrate to) = m
changed m (Batch es) = batched m es

-- the format that a change leaves
abbrev pub changed_format : Format → Change → Format
changed_format format (Put k v) = format
changed_format format (Remove k) = format
changed_format format (Migrate to) = to
changed_format format (Batch es) = format

-- the map that the events leave, one after another, from a map on
abbrev pub after_from : List Pair → History → List Pair
after_from m [] = m
after_from m (e ∷ es) = after_from (changed m e.change) es

-- the map that a history leaves, from the empty map on
abbrev pub after : History → List Pair
after h = after_from [] h

-- the format after the events: that of the last migration, or the one before them if there is none
abbrev pub format_after : Format → History → Format
format_after first [] = first
format_after first (e ∷ es) = format_after (changed_format first e.change) es

-- What a write returns: the value that its key had, or none if it had none; a migration returns the
-- format before it; a batch nothing.
pub data Reply : Type 0 where
  had : (old : Option (List ℕ)) → Reply
  was : (format : Format) → Reply
  done : Reply

-- what a change of a map in a format returns
abbrev pub reply_of : Format → List Pair → Change → Reply
reply_of format m (Put k v) = had (map_get m k)
reply_of format m (Remove k) = had (map_get m k)
reply_of format m (Migrate to) = was format
reply_of format m (Batch es) = done

-- what the write that adds this event to the history returns
abbrev pub reply : Format → History → Event → Reply
reply first h e = reply_of (format_after first h) (after h) e.change

-- an edit as a change of its own
abbrev pub change_of : Edit → Change
change_of (edit.Put k v) = Put k v
change_of (edit.Remove k) = Remove k

-- the edits as changes of a pass, one after another
abbrev pub singles : ℕ → List Edit → History
singles pass [] = []
singles pass (e ∷ es) = record { pass = pass; change = change_of e } ∷ singles pass es

-- the events of one pass, in their order
abbrev pub events_of : ℕ → History → History
events_of pass h = filter (λ e. e.pass == pass) h

-- the second history begins with the first
abbrev pub IsPrefix : History → History → Type 0
IsPrefix g h = (rest : History) × (h ≡ g ++ rest)

-- the key of an edit
abbrev pub key_of : Edit → List ℕ
key_of (edit.Put k v) = k
key_of (edit.Remove k) = k

-- the value that an edit leaves its key
abbrev pub value_of : Edit → Option (List ℕ)
value_of (edit.Put k v) = Some v
value_of (edit.Remove k) = None

-- the value that the edits leave a key which had this one: that of its last edit, if there is one
abbrev pub value_after : List Edit → List ℕ → Option (List ℕ) → Option (List ℕ)
value_after [] q old = old
value_after (e ∷ es) q old =
    value_after es q (if is_eq (key_cmp (key_of e) q) then value_of e else old)

-- one of the edits is of the key
abbrev pub IsEdited : List ℕ → List Edit → Type 0
IsEdited q [] = ⊥
IsEdited q (e ∷ es) = (q ≡ key_of e) ⊎ IsEdited q es

-- a change is about a key
abbrev pub IsAbout : List ℕ → Change → Type 0
IsAbout q (Put k v) = q ≡ k
IsAbout q (Remove k) = q ≡ k
IsAbout q (Migrate to) = ⊥
IsAbout q (Batch es) = IsEdited q es

abbrev pub IsMigration : Change → Type 0
IsMigration (Put k v) = ⊥
IsMigration (Remove k) = ⊥
IsMigration (Migrate to) = Unit {0}
IsMigration (Batch es) = ⊥

abbrev pub IsBatch : Change → Type 0
IsBatch (Put k v) = ⊥
IsBatch (Remove k) = ⊥
IsBatch (Migrate to) = ⊥
IsBatch (Batch es) = Unit {0}

-- no event of the history is about the key
abbrev pub LeavesAlone : History → List ℕ → Type 0
LeavesAlone h k = AllByRecursion (λ e. IsAbout k e.change → ⊥) h

-- no event of the history is a migration
abbrev pub KeepsFormat : History → Type 0
KeepsFormat h = AllByRecursion (λ e. IsMigration e.change → ⊥) h

-- the key of an edit is within the limits, and so is its value
abbrev pub IsSmall : Edit → Type 0
IsSmall (edit.Put k v) = IsKey k × IsValue v
IsSmall (edit.Remove k) = IsKey k

-- the key of a change is within the limits, and so is its value
abbrev pub IsWithinLimits : Change → Type 0
IsWithinLimits (Put k v) = IsKey k × IsValue v
IsWithinLimits (Remove k) = IsKey k
IsWithinLimits (Migrate to) = Unit {0}
IsWithinLimits (Batch es) = AllByRecursion IsSmall es

-- a history of changes whose keys and values are all within the limits, as those of the program are
abbrev pub IsPossible : History → Type 0
IsPossible h = AllByRecursion (λ e. IsWithinLimits e.change) h
