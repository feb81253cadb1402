-- How a flat node is read off its text, from left to right. A reading gives what was read and the
-- bytes after it, or none.
use Rattle.std.specs.Prelude.{◌≡◌, ℕ, zero, suc, ◌==◌, nat_lt, if◌then◌else◌, List, [], ◌∷◌, length, take, drop, Option, Some, None, unwrap_or}
use Rattle.std.specs.Int.{w16, w32, from_be_bytes}
use Rattle.mst_key.specs.declared.format.Format.{Format}
use Rattle.mst_key.specs.declared.format.Format.TheVariants.{One, Two}
use Rattle.mst_node.specs.Text.{FlatEntry, FlatNode, format_byte}

infixl 10 ◌>>=◌
abbrev pub ◌>>=◌ : {A B : Type 0} → Option A → (A → Option B) → Option B
None >>= f = None
(Some x) >>= f = f x

-- a call returned what the reading gives, seen by `view`
abbrev pub Gives : {X Y : Type 0} → (X → Y) → Option X → Option Y → Type 0
Gives view None reading = reading ≡ None
Gives view (Some x) reading = reading ≡ Some (view x)

-- this many bytes
unfoldable pub part_at : ℕ → List ℕ → Option (List ℕ × List ℕ)
part_at n bytes = if nat_lt (length bytes) n then None else Some (take n bytes, drop n bytes)

-- a byte 0 for no child, or a byte 1 and a digest
unfoldable pub child_at : List ℕ → Option (Option (List ℕ) × List ℕ)
child_at [] = None
child_at (b ∷ bytes) =
    if b == 0 then Some (None, bytes)
    else if b == 1 then (part_at 32 bytes >>= λ d. Some (Some d.0, d.1))
    else None

-- bytes after their number, which lies between two limits
unfoldable pub counted_at : ℕ → ℕ → List ℕ → Option (List ℕ × List ℕ)
counted_at low high [] = None
counted_at low high (n ∷ bytes) =
    if nat_lt n low then None else if nat_lt high n then None else part_at n bytes

-- what stands for a value
abbrev pub held_at : Format → List ℕ → Option (List ℕ × List ℕ)
held_at One bytes = counted_at 0 64 bytes
held_at Two bytes = part_at 32 bytes

unfoldable pub entry_at : Format → List ℕ → Option (FlatEntry × List ℕ)
entry_at format bytes =
    child_at bytes >>= λ child.
    counted_at 1 32 child.1 >>= λ key.
    held_at format key.1 >>= λ held.
    Some (record { child = child.0; key = key.0; held = held.0 }, held.1)

-- this many entries
unfoldable pub entries_at : Format → ℕ → List ℕ → Option (List FlatEntry × List ℕ)
entries_at format zero bytes = Some ([], bytes)
entries_at format (suc n) bytes =
    entry_at format bytes >>= λ e.
    entries_at format n e.1 >>= λ es.
    Some (e.0 ∷ es.0, es.1)

-- the bytes after this many entries
unfoldable pub behind_at : Format → ℕ → List ℕ → Option (List ℕ)
behind_at format zero bytes = Some bytes
behind_at format (suc n) bytes = entry_at format bytes >>= λ e. behind_at format n e.1

-- what is read at the end: nothing may be left over
abbrev pub whole : {A : Type 0} → A × List ℕ → Option A
whole (x, []) = Some x
whole (x, b ∷ bytes) = None

-- this many entries and the last child, with nothing after them
unfoldable pub body_at : Format → ℕ → List ℕ → Option (List FlatEntry × Option (List ℕ))
body_at format n bytes =
    entries_at format n bytes >>= λ es.
    child_at es.1 >>= λ tail.
    whole ((es.0, tail.0), tail.1)

-- the flat node of this layer with this body
abbrev pub node_of : Format → ℕ → List FlatEntry × Option (List ℕ) → FlatNode
node_of format layer body =
    record { format = format; layer = layer; entries = body.0; tail = body.1 }

-- the flat node of a whole text: the format's byte, its layer, the number of its entries, which is
-- not 0, and its body
unfoldable pub node_at : Format → List ℕ → Option FlatNode
node_at format [] = None
node_at format (v ∷ []) = None
node_at format (v ∷ l ∷ []) = None
node_at format (v ∷ l ∷ h ∷ []) = None
node_at format (v ∷ l ∷ h ∷ k ∷ bytes) =
    let n = from_be_bytes w16 (h ∷ k ∷ []) in
    if v == format_byte format
    then (if n == 0 then None else (body_at format n bytes >>= λ b. Some (node_of format l b)))
    else None

-- the body that is read, or an empty one if none is
abbrev pub body_or_empty : Format → ℕ → List ℕ → List FlatEntry × Option (List ℕ)
body_or_empty format n bytes = unwrap_or (body_at format n bytes) ([], None)

-- the first text of a proof: after a byte for the format, the number of texts, which is not 0, and
-- the length of the text in four bytes
unfoldable pub first_text_at : List ℕ → Option (List ℕ × List ℕ)
first_text_at [] = None
first_text_at (v ∷ []) = None
first_text_at (v ∷ n ∷ []) = None
first_text_at (v ∷ n ∷ a ∷ []) = None
first_text_at (v ∷ n ∷ a ∷ b ∷ []) = None
first_text_at (v ∷ n ∷ a ∷ b ∷ c ∷ []) = None
first_text_at (v ∷ n ∷ a ∷ b ∷ c ∷ d ∷ bytes) =
    if n == 0 then None else part_at (from_be_bytes w32 (a ∷ b ∷ c ∷ d ∷ [])) bytes
