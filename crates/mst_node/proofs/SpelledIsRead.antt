-- What is spelled so is read: each reading gives back what a text was spelled from, whatever
-- follows it.
use Rattle.mst_node.proofs.Names.{◌≡◌, ℕ, ◌≤◌, true, false, ◌==◌, List, [], ◌∷◌, ◌++◌, length, take, drop, Option, Some, None, refl, sym, ◌∙◌, ap, arith, append_assoc, length-append, IfSome, w16, to_be_bytes, from_be_bytes, flat_map, AllByRecursion, nat_tests, append-nil, Format, One, Two, FlatEntry, FlatNode, child_text, counted, held_text, entry_text, spelling, format_byte, IsDigest, IsHeld, IsFlatEntry, IsFlatNode, held_at}
use Rattle.std.specs.Prelude.{nat_lt}
use Rattle.std.proofs.Math.Seq.{take-append_seam, drop-append_seam}
use Rattle.std.proofs.lemmas.Nat.{from_be_bytes-to_be_bytes_2}
use Rattle.mst_node.proofs.ReadIsSpelled.{some_same}
use Rattle.mst_node.specs.Reading.{part_at, child_at, counted_at, entry_at, entries_at, body_at, node_at}

pub part_again : (n : ℕ) (xs rest : List ℕ) → length xs ≡ n → part_at n (xs ++ rest) ≡ Some
    (xs, rest)
unfolding part_at
part_again n xs rest e =
    let long : nat_lt (length (xs ++ rest)) n ≡ false =
    grind (arith, nat_tests, length-append xs rest, e) in
    let front : take n (xs ++ rest) ≡ xs = ap (λ (k : ℕ). take k (xs ++ rest)) (sym e)
    ∙ take-append_seam xs rest in
    let back : drop n (xs ++ rest) ≡ rest = ap (λ (k : ℕ). drop k (xs ++ rest)) (sym e)
    ∙ drop-append_seam xs rest in
    rw (long, front, back)

child_again : (child : Option (List ℕ)) (rest : List ℕ) → IfSome child IsDigest
    → child_at (child_text child ++ rest) ≡ Some (child, rest)
unfolding child_at
child_again None rest is = refl
child_again (Some d) rest is = rw (part_again 32 d rest is.size)

counted_again : (low high : ℕ) (xs rest : List ℕ) → low ≤ length xs → length xs ≤ high
    → counted_at low high (counted xs ++ rest) ≡ Some (xs, rest)
unfolding counted_at
counted_again low high xs rest a b =
    let at_least : nat_lt (length xs) low ≡ false = grind (arith, nat_tests) in
    let at_most : nat_lt high (length xs) ≡ false = grind (arith, nat_tests) in
    rw (at_least, at_most) (part_again (length xs) xs rest refl)

held_again : (format : Format) (held rest : List ℕ) → IsHeld format held
    → held_at format (held_text format held ++ rest) ≡ Some (held, rest)
held_again One held rest is = counted_again 0 64 held rest (omega arith) is.0
held_again Two held rest is = part_again 32 held rest is.size

entry_again : (format : Format) (e : FlatEntry) (rest : List ℕ) → IsFlatEntry format e
    → entry_at format (entry_text format e ++ rest) ≡ Some (e, rest)
unfolding entry_at
entry_again format e rest is =
    let after_key = held_text format e.held ++ rest in
    let after_child = counted e.key ++ after_key in
    let parts : entry_text format e ++ rest ≡ child_text e.child ++ after_child =
    simp append_assoc in
    let child : child_at (entry_text format e ++ rest) ≡ Some (e.child, after_child) =
    ap child_at parts ∙ child_again e.child after_child is.child in
    let key : counted_at 1 32 after_child ≡ Some (e.key, after_key) =
    counted_again 1 32 e.key after_key is.key.0 is.key.1 in
    let held : held_at format after_key ≡ Some (e.held, rest) =
    held_again format e.held rest is.held in
    rw (child, key, held)

entries_again : (format : Format) (es : List FlatEntry) (rest : List ℕ)
    → AllByRecursion (IsFlatEntry format) es → entries_at format (length es)
    (flat_map (entry_text format) es ++ rest) ≡ Some (es, rest)
unfolding entries_at
entries_again format [] rest is = refl
entries_again format (e ∷ es) rest is =
    let after = flat_map (entry_text format) es ++ rest in
    let parts : flat_map (entry_text format) (e ∷ es) ++ rest ≡ entry_text format e ++ after =
    append_assoc (entry_text format e) (flat_map (entry_text format) es) rest in
    let first : entry_at format (flat_map (entry_text format) (e ∷ es) ++ rest) ≡ Some (e, after) =
    ap (entry_at format) parts ∙ entry_again format e after is.0 in
    let others : entries_at format (length es) after ≡ Some (es, rest) =
    entries_again format es rest is.1 in
    rw (first, others)

body_again : (format : Format) (es : List FlatEntry) (tail : Option (List ℕ))
    → AllByRecursion (IsFlatEntry format) es → IfSome tail IsDigest → body_at format (length es)
    (flat_map (entry_text format) es ++ child_text tail) ≡ Some (es, tail)
unfolding body_at
body_again format es tail is digest =
    let entries = entries_again format es (child_text tail) is in
    let child : child_at (child_text tail) ≡ Some (tail, []) =
    ap child_at (sym (append-nil (child_text tail))) ∙ child_again tail [] digest in
    rw (entries, child)

-- the whole text
pub node_again : (n : FlatNode) → IsFlatNode n → node_at n.format (spelling n) ≡ Some n
unfolding node_at
node_again n is =
    let count : from_be_bytes w16 (to_be_bytes w16 (length n.entries)) ≡ length n.entries =
    from_be_bytes-to_be_bytes_2 (length n.entries) (omega (arith, is.few)) in
    let some : (length n.entries == 0) ≡ false = grind (arith, nat_tests, is.some) in
    let same : (format_byte n.format == format_byte n.format) ≡ true = grind (arith, nat_tests) in
    rw (same, count, some, body_again n.format n.entries n.tail is.entries is.tail)

format_byte_same : (f g : Format) → format_byte f ≡ format_byte g → f ≡ g
format_byte_same One One e = refl
format_byte_same One Two e = absurd (omega (arith, e))
format_byte_same Two One e = absurd (omega (arith, e))
format_byte_same Two Two e = refl

-- each text spells one flat node
pub one_node : (m n : FlatNode) → IsFlatNode m → IsFlatNode n → spelling m ≡ spelling n → m ≡ n
one_node m n is js e =
    let first : format_byte m.format ≡ format_byte n.format = cc in
    let formats = format_byte_same m.format n.format first in
    some_same m n
    (sym (node_again m is) ∙ ap (node_at m.format) e
    ∙ ap (λ (f : Format). node_at f (spelling n)) formats ∙ node_again n js)
