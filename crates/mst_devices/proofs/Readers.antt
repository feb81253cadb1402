-- Reads of a reader of std.
use Rattle.std.proofs.Common.{◌≡◌, ℕ, ◌-◌, ◌<◌, ◌≤◌, Bool, true, false, List, ◌++◌, length, take, min, Option, Some, None, refl, sym, ap, subst, ◌∙◌, arith, append-nil, length-append, length-take-le}
use Rattle.std.specs.Prelude.{if◌then◌else◌}
use Rattle.std.proofs.lemmas.List.{take-append-le}
use Rattle.std.specs.Io.KnownBytes.{Consumes, IsAtEnd}
use Rattle.mst_devices.specs.Laws.{gave_within}
use Rattle.mst_devices.specs.Device.{Counted, Gave, GaveKnown, left_of}

going : (s : Counted) (b : Bool) (room most : ℕ) → s.has_ended ≡ b
    → most ≡ min (if b then 0 else s.left) room → 0 < most → (s.has_ended ≡ false) × (most ≤ s.left)
going s true room most is m some = absurd (omega (arith, m, some))
going s false room most is m some = (is, omega (arith, m))

-- some bytes were read into the front of a buffer
pub read_some : (s t : Counted) (got rest : List ℕ) (room most n : ℕ) → most ≡ min (left_of s) room
    → 0 < most → 0 < n → n ≤ length got → n ≤ most → t.left ≡ s.left - n → t.has_ended ≡ s.has_ended
    → Consumes s.known t.known (take n got) → Gave GaveKnown left_of s (got ++ rest) n t
read_some s t got rest room most n m some more within few counted same known =
    let before = going s s.has_ended room most refl m some in
    let front : take n (got ++ rest) ≡ take n got = take-append-le n got rest within in
    let size : length (take n (got ++ rest)) ≡ n = ap length front ∙ length-take-le n got within in
    let given : GaveKnown s (take n (got ++ rest)) t = record {
      counted = omega (arith, counted, size, few, before.1);
      known = subst (λ (l : List ℕ). Consumes s.known t.known l) (sym front) known;
      ends = λ first ended. absurd (cc (same, first, ended));
      stays = λ ended. absurd (cc (before.0, ended));
    } in
    record {
      within = omega (arith, within, length-append got rest);
      given = given;
      fewer = omega (arith, gave_within s t (take n (got ++ rest)) given, size);
      end = λ none. absurd (omega (arith, none, more));
    }

consumed : (xs given : List ℕ) (l : Option (List ℕ)) → Consumes (Some xs) l given → IsAtEnd l
    → given ≡ xs
consumed xs given None a end = absurd a
consumed xs given (Some left) a end =
    sym (a ∙ ap (λ (l : List ℕ). given ++ l) end ∙ append-nil given)

fewer_known : (xs given : List ℕ) (l : Option (List ℕ)) → Consumes (Some xs) l given
    → length given ≤ length xs
fewer_known xs given None a = absurd a
fewer_known xs given (Some left) a = omega (arith, ap length a, length-append given left)

all_when : (xs given : List ℕ) (s t : Counted) (b : Bool) → s.has_ended ≡ false
    → Consumes (Some xs) t.known given → length xs < s.left → GaveKnown s given t → t.has_ended ≡ b
    → (if b then 0 else t.left) ≡ 0 → given ≡ xs
all_when xs given s t true before known few g is none =
    consumed xs given t.known known (g.ends before is)
all_when xs given s t false before known few g is none =
    absurd (omega (arith, g.counted, none, few, fewer_known xs given t.known known))

-- fewer bytes than are read at most: up to the end all of them are given
pub all_given : (xs given : List ℕ) (s t : Counted) → s.has_ended ≡ false → s.known ≡ Some xs
    → length xs < s.left → GaveKnown s given t → left_of t ≡ 0 → given ≡ xs
all_given xs given s t before is few g none = all_when xs given s t t.has_ended before
    (subst (λ (k : Option (List ℕ)). Consumes k t.known given) is g.known) few g refl none
