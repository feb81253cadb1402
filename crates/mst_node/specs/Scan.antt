-- One reading of a node text, from left to right, and what a search for a key sees on the way. Only
-- the private steps of `find_in_text` cite it; what that call promises is `IsFound` of Found.
use Rattle.std.specs.Prelude.{◌≡◌, ◌≢◌, ℕ, zero, suc, ◌==◌, ◌&&◌, true, false, Bool, if◌then◌else◌, List, [], ◌∷◌, Option, Some, None, option_copied, option_map, IfSome}
use Rattle.std.specs.Option.{option_map_or, option_or}
use Rattle.std.specs.Int.{w16, from_be_bytes}
use Rattle.std.specs.Ordering.{is_lt}
use Rattle.std.specs.declared.cmp.Ordering.{Ordering}
use Rattle.std.specs.declared.cmp.Ordering.TheVariants.{Less, Equal, Greater}
use Rattle.mst_key.specs.declared.format.Format.{Format}
use Rattle.mst_key.specs.Bytes.{IsKey, IsValue}
use Rattle.mst_key.specs.Layer.{layer_in}
use Rattle.mst_key.specs.Map.{key_cmp}
use Rattle.mst_node.specs.Text.{FlatEntry, format_byte}
use Rattle.mst_node.specs.Reading.{◌>>=◌, child_at, entry_at, whole}
use Rattle.mst_node.specs.Seen.{seen}
use Rattle.mst_node.specs.declared.finding.Coming.{Coming}
use Rattle.mst_node.specs.declared.finding.Passed.{Passed}
use Rattle.mst_node.specs.declared.finding.Stop.{Stop}
use Rattle.mst_node.specs.declared.key_place.KeyPlace.{KeyPlace}
use Rattle.mst_node.specs.declared.key_place.KeyPlace.TheVariants.{Found, Gap}
use Rattle.mst_node.specs.declared.key_place.Span.{Span}

-- the entry at which a search stops, the key before it, and whether the entry has the sought key
pub record Stopped : Type 0 where
  pub low : Option (List ℕ)
  pub entry : FlatEntry
  pub here : Bool

-- what was passed: the last key, and the entry at which the search stopped
pub record Passing : Type 0 where
  pub last : Option (List ℕ)
  pub stop : Option Stopped

-- the same as they lie in a text, without where their bytes lie
abbrev pub seen_stop : Stop → Stopped
seen_stop s = record { low = option_copied s.low; entry = seen s.entry; here = s.here }

abbrev pub seen_passed : Passed → Passing
seen_passed p = record { last = option_copied p.last; stop = option_map seen_stop p.stop }

abbrev pub start : Passing
start = record { last = None; stop = None }

-- the key before, which is empty if there is none
abbrev pub key_before : List ℕ → Option (List ℕ)
key_before [] = None
key_before (b ∷ bytes) = Some (b ∷ bytes)

-- what was passed if this key stands before
abbrev pub passing_from : List ℕ → Option Stop → Passing
passing_from last stop = record { last = key_before last; stop = option_map seen_stop stop }

-- a search stops at the first entry whose key is not below the sought one
abbrev pub stop_at : Option Stopped → Option (List ℕ) → FlatEntry → Ordering → Option Stopped
stop_at (Some s) last e r = Some s
stop_at None last e Less = Some (record { low = last; entry = e; here = false })
stop_at None last e Equal = Some (record { low = last; entry = e; here = true })
stop_at None last e Greater = None

abbrev pub pass_at : List ℕ → Passing → FlatEntry → Passing
pass_at k p e =
    record { last = Some e.key; stop = stop_at p.stop p.last e (key_cmp k e.key) }

-- whether a key has the layer of its node, and is greater than the one before
abbrev pub fits_behind : Format → ℕ → Option (List ℕ) → List ℕ → Bool
fits_behind format l last k =
    layer_in format k == l && option_map_or (λ b. is_lt (key_cmp b k)) last true

-- this many entries whose keys fit, with the bytes after them
unfoldable pub scan_at : Format → ℕ → List ℕ → Passing → ℕ → List ℕ → Option (Passing × List ℕ)
scan_at format l k p zero bytes = Some (p, bytes)
scan_at format l k p (suc n) bytes =
    entry_at format bytes >>= λ e.
    if fits_behind format l p.last e.0.key then scan_at format l k (pass_at k p e.0) n e.1 else None

-- what scanning the entries to come gives, if the search has this stop
abbrev pub scan_from : Format → ℕ → List ℕ → Option Stop → Coming → Option (Passing × List ℕ)
scan_from format l k stop c =
    scan_at format l k (passing_from c.last.now stop) c.left c.rest.now

-- why a search leaves entries, from these bytes on: it has reached a key not below the sought one
abbrev pub Halts : Format → List ℕ → Option Stop → List ℕ → Type 0
Halts format k (Some s) bytes = ⊥
Halts format k None bytes =
    (e : FlatEntry) × (rest : List ℕ) × (entry_at format bytes ≡ Some (e, rest))
    × (key_cmp e.key k ≢ Less)

-- the key of the first entry
abbrev pub first_at : Format → List ℕ → Option (List ℕ)
first_at format bytes = option_map (λ e. e.0.key) (entry_at format bytes)

-- this many entries and the last child, with nothing after them
unfoldable pub body_scan_at : Format → ℕ → List ℕ → ℕ → List ℕ → Option (Passing × Option (List ℕ))
body_scan_at format l k n bytes =
    scan_at format l k start n bytes >>= λ p.
    child_at p.1 >>= λ tail.
    whole ((p.0, tail.0), tail.1)

-- the layer of a whole text, the first key, what was passed, and the last child
unfoldable pub text_scan_at : Format → List ℕ → List ℕ
    → Option (ℕ × Option (List ℕ) × Passing × Option (List ℕ))
text_scan_at format k [] = None
text_scan_at format k (v ∷ []) = None
text_scan_at format k (v ∷ l ∷ []) = None
text_scan_at format k (v ∷ l ∷ h ∷ []) = None
text_scan_at format k (v ∷ l ∷ h ∷ c ∷ bytes) =
    let n = from_be_bytes w16 (h ∷ c ∷ []) in
    if v == format_byte format
    then (if n == 0 then None else
    (body_scan_at format l k n bytes >>= λ b. Some (l, first_at format bytes, b.0, b.1)))
    else None

-- the first key lies above the low bound of the span, and the last one below the high one
pub record EndsLieIn (span : Span) (first : Option (List ℕ)) (p : Passing) : Type 0 where
  pub above : IfSome first (λ k. IfSome span.low (λ b. key_cmp b k ≡ Less))
  pub below : IfSome p.last (λ k. IfSome span.high (λ b. key_cmp k b ≡ Less))

-- where the search stopped, above this bound
abbrev pub stop_place : Stopped → Option (List ℕ) → KeyPlace
stop_place s low =
    if s.here then Found s.entry.held
    else Gap s.entry.child (record { low = option_or s.low low; high = Some s.entry.key })

-- where the search ended, in a span and before this last child
abbrev pub place_by : Option Stopped → Option (List ℕ) → Span → Option (List ℕ) → KeyPlace
place_by None last span tail =
    Gap tail (record { low = option_or last span.low; high = span.high })
place_by (Some s) last span tail = stop_place s span.low

-- what was passed is within the limits of keys and values
pub record StopFits (s : Stopped) : Type 0 where
  pub low : IfSome s.low IsKey
  pub key : IsKey s.entry.key
  pub value : IsValue s.entry.held

pub record PassedFits (p : Passing) : Type 0 where
  pub last : IfSome p.last IsKey
  pub stop : IfSome p.stop StopFits
