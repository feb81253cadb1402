-- The limits of a row, and its parts.
use Rattle.std.specs.Prelude.{◌≡◌, ◌<◌, ◌≤◌, ℕ, List, length, Option, Some, None}
use Rattle.mst_key.specs.Bytes.{IsKey, IsValue, IsBytes}
use Rattle.mst_key.specs.Map.{Pair}
use Rattle.mst_arena.specs.Limits.{highest_layer, highest_link, most_entries}
use Rattle.mst_arena.specs.declared.row.Row.{Row}
use Rattle.mst_arena.specs.declared.row.Row.TheVariants.{Entry, Head}
use Rattle.mst_arena.specs.declared.row.HeadLinks.{HeadLinks}
use Rattle.mst_arena.specs.declared.row.KeyedLinks.{KeyedLinks}
use Rattle.mst_arena.specs.declared.row.BareLinks.{BareLinks}

-- links, layer and count are within their limits, and a head has a first entry
abbrev pub IsRow : Row → Type 0
IsRow (Entry child next key value) = (child ≤ highest_link) × (next ≤ highest_link)
IsRow (Head layer count first tail digest) =
    (layer ≤ highest_layer) × (0 < count) × (count ≤ most_entries) × (0 < first)
    × (first ≤ highest_link)
    × (tail ≤ highest_link)

-- layer, count and links of a head are within their limits, and it has a first entry
abbrev pub IsHead : HeadLinks → Type 0
IsHead head = (head.layer ≤ highest_layer) × (0 < head.count) × (head.count ≤ most_entries)
    × (0 < head.first)
    × (head.first ≤ highest_link) × (head.tail ≤ highest_link)

-- the bytes are those of a key and a value, or of a digest, as they are in each row of the program
abbrev pub HasBytes : Row → Type 0
HasBytes (Entry child next key value) = IsKey key × IsBytes key × IsValue value × IsBytes value
HasBytes (Head layer count first tail digest) = (length digest ≡ 32) × IsBytes digest

-- layer, count and links of a head
abbrev pub head_links : Row → Option HeadLinks
head_links (Entry child next key value) = None
head_links (Head layer count first tail digest) =
    Some (record { layer = layer; count = count; first = first; tail = tail })

abbrev pub head_digest : Row → Option (List ℕ)
head_digest (Entry child next key value) = None
head_digest (Head layer count first tail digest) = Some digest

-- links and key of an entry
abbrev pub keyed_links : Row → Option KeyedLinks
keyed_links (Entry child next key value) = Some (record { child = child; next = next; key = key })
keyed_links (Head layer count first tail digest) = None

-- its links without its key
abbrev pub bare_links : Row → Option BareLinks
bare_links (Entry child next key value) = Some (record { child = child; next = next })
bare_links (Head layer count first tail digest) = None

-- its key and its value
abbrev pub entry_pair : Row → Option Pair
entry_pair (Entry child next key value) = Some (key, value)
entry_pair (Head layer count first tail digest) = None

abbrev pub entry_value : Row → Option (List ℕ)
entry_value (Entry child next key value) = Some value
entry_value (Head layer count first tail digest) = None
