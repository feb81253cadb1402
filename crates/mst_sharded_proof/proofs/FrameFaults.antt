-- If no parts are read from a proof, its frame fails the test whose fault is returned.
use Rattle.mst_sharded_proof.proofs.Names.{◌≡◌, ℕ, Bool, true, false, cond, List, [], ◌∷◌, ◌++◌, length, take, drop, Option, Some, None, ◌⊎◌, inl, inr, refl, sym, ◌∙◌, ap, subst, arith, true≢false, length-append, nat_lt, nat_le, ◌==◌, ◌<◌, ◌≤◌, Result, Ok, Err, take-append_seam, nat_tests, Format, IsBytes, IsKey, counted, part_takes, and_parts, text_at, ShardedFault, FormatByte, CutShort, NoKey, Directory, NotListed, NoListing, KeyBelow, KeyNotBelow, ◌>>◌, Parts, is_key, key_at, parts_with, parts_at, sharded_format_byte, Frames}
use Rattle.mst_proof.proofs.FrameFaults.{same_head}
use Rattle.mst_sharded_proof.specs.declared.fault.ShardedFault.TheVariants.{Shard}
use Rattle.mst_sharded_proof.specs.Faults.{FrameFails}
use Rattle.mst_sharded_proof.proofs.Parts.{cut_part, key_takes, parts_takes}
use Rattle.mst_sharded_proof.proofs.Complete.{parts_again}

abbrev pub err : {A : Type 0} → ShardedFault → Result A ShardedFault
err f = Err f

pub err_same : {A : Type 0} (a b : ShardedFault) → err {A = A} a ≡ err b → a ≡ b
err_same a b e = cc

pub err-ok : {A : Type 0} (f : ShardedFault) (x : A) (r : Result A ShardedFault) → r ≡ Err f
    → r ≡ Ok x → ⊥
err-ok f x r e o = cc

-- a step that fails, or what follows it fails
pub bind_fault : {A B : Type 0} (r : Result A ShardedFault) (g : A → Result B ShardedFault)
    (f : ShardedFault) → (r >> g) ≡ Err f
    → (r ≡ Err f) ⊎ ((x : A) × (r ≡ Ok x) × (g x ≡ Err f))
bind_fault {A} {B} (Err h) g f e = inl (ap (λ z. err {A = A} z) (err_same {A = B} h f e))
bind_fault (Ok x) g f e = inr (x, refl, e)

-- ---- the key

-- no bytes stand after their length, or bytes that are no key do
abbrev KeyFails : List ℕ → ShardedFault → Type 0
KeyFails bytes fault =
    ((fault ≡ CutShort) × ((low rest : List ℕ) → bytes ≡ counted low ++ rest → ⊥))
    ⊎ ((fault ≡ NoKey) × (low : List ℕ) × (rest : List ℕ) × (bytes ≡ counted low ++ rest)
    × (IsKey low → ⊥))

is_key_true : (k : List ℕ) → IsKey k → is_key k ≡ true
is_key_true k is =
    let some : nat_lt 0 (length k) ≡ true = grind (arith, nat_tests, is.0) in
    let few : nat_le (length k) 32 ≡ true = grind (arith, nat_tests, is.1) in
    rw (some, few)

abbrev cut : List ℕ → List ℕ → Result (List ℕ × List ℕ) ShardedFault
cut key rest = Ok (key, rest)

key_fault : (bytes : List ℕ) (fault : ShardedFault) → IsBytes bytes → key_at bytes ≡ Err fault
    → KeyFails bytes fault
key_fault [] fault b e =
    inl (
      sym (err_same {A = List ℕ × List ℕ} CutShort fault e),
      λ low rest f. absurd (cc (f)),
    )
key_fault (n ∷ bytes) fault b e = go (nat_lt (length bytes) n) refl (is_key (take n bytes)) refl e
  where
    go : (s : Bool) → nat_lt (length bytes) n ≡ s → (t : Bool) → is_key (take n bytes) ≡ t
        → cond s (Err CutShort) (cond t (cut (take n bytes) (drop n bytes)) (Err NoKey)) ≡ Err fault
        → KeyFails (n ∷ bytes) fault
    go true long t is e =
        let short : length bytes < n = grind (arith, nat_tests, long) in
        inl (
          sym (err_same {A = List ℕ × List ℕ} CutShort fault e),
          λ low rest f.
              let h = same_head n (length low) bytes (low ++ rest) f in
              omega (arith, short, h.0, ap length h.1, length-append low rest),
        )
    go false long true is e = absurd (cc (e))
    go false long false is e =
        let part = part_takes n bytes (take n bytes, drop n bytes) (cut_part n bytes long) b.1 in
        inr (
          sym (err_same {A = List ℕ × List ℕ} NoKey fault e),
          take n bytes,
          drop n bytes,
          ap (λ (m : ℕ). m ∷ bytes) (sym part.1)
              ∙ ap (λ (xs : List ℕ). length (take n bytes) ∷ xs) part.0,
          λ key. true≢false (sym (is_key_true (take n bytes) key) ∙ is),
        )

-- the bytes after their length are known by the bytes
one_key : (low rest key behind : List ℕ) → counted low ++ rest ≡ counted key ++ behind → low ≡ key
one_key low rest key behind e =
    let h = same_head (length low) (length key) (low ++ rest) (key ++ behind) e in
    sym (take-append_seam low rest) ∙ ap (λ (n : ℕ). take n (low ++ rest)) h.0
    ∙ ap (λ (xs : List ℕ). take (length key) xs) h.1 ∙ take-append_seam key behind

-- ---- the frame

no_parts : (format : Format) (bytes : List ℕ) (fault : ShardedFault) → parts_at format bytes
    ≡ Err fault → (p : Parts) → Frames format bytes p → ⊥
no_parts format bytes fault e p is =
    err-ok fault p (parts_at format bytes) e
    (ap (parts_at format) is.whole ∙ parts_again format p is.key is.short)

cut_short : (format : Format) (v : ℕ) (bytes : List ℕ) → v ≡ sharded_format_byte format
    → ((low rest : List ℕ) → bytes ≡ counted low ++ rest → IsKey low)
    → ((p : Parts) → Frames format (v ∷ bytes) p → ⊥) → FrameFails format (v ∷ bytes) CutShort
cut_short format v bytes first key none = (
  λ w rest e. sym (same_head v w bytes rest e).0 ∙ first,
  λ low begins. key low begins.0 (same_head v (sharded_format_byte format) bytes _ begins.1).1,
  none,
)

with_fault : (low : List ℕ) (o : Option (List ℕ × List ℕ)) (fault : ShardedFault)
    → parts_with low o ≡ Err fault → CutShort ≡ fault
with_fault low None fault e = err_same {A = Parts} CutShort fault e
with_fault low (Some t) fault e = absurd (cc (e))

pub frame_fault : (format : Format) (proof : List ℕ) (fault : ShardedFault) → IsBytes proof
    → parts_at format proof ≡ Err fault → FrameFails format proof fault
frame_fault format [] fault b e =
    subst (FrameFails format []) (err_same {A = Parts} CutShort fault e) (
      λ v rest f. absurd (cc (f)),
      λ low begins. absurd (cc (begins.1)),
      no_parts format [] fault e,
    )
frame_fault format (v ∷ bytes) fault b e = go (v == sharded_format_byte format) refl e
  where
    key : v ≡ sharded_format_byte format → KeyFails bytes fault → FrameFails format (v ∷ bytes)
        fault
    key first (inl c) =
        subst (FrameFails format (v ∷ bytes)) (sym c.0)
        (cut_short format v bytes first (λ low rest f. absurd (c.1 low rest f))
        (no_parts format (v ∷ bytes) fault e))
    key first (inr n) =
        subst (FrameFails format (v ∷ bytes)) (sym n.0) (
          n.1,
          (
            n.2,
            ap (λ (x : ℕ). x ∷ bytes) first ∙ ap (λ (xs : List ℕ). sharded_format_byte format ∷ xs)
                n.3,
          ),
          n.4,
        )

    go : (t : Bool) → (v == sharded_format_byte format) ≡ t
        → cond t (key_at bytes >> λ low. parts_with low.0 (text_at low.1)) (Err FormatByte)
        ≡ Err fault
        → FrameFails format (v ∷ bytes) fault
    go false is e =
        subst (FrameFails format (v ∷ bytes)) (err_same {A = Parts} FormatByte fault e)
        (v, bytes, refl, λ one. let c : ⊥ = grind (arith, nat_tests, is, one) in c)
    go true is f =
        let first : v ≡ sharded_format_byte format = grind (arith, nat_tests, is) in
        elim (bind_fault (key_at bytes) (λ low. parts_with low.0 (text_at low.1)) fault f) [
          | inl none ↦ key first (key_fault bytes fault b.1 none)
          | inr (x, read, cut) ↦
              let takes = key_takes bytes x b.1 read in
              subst (FrameFails format (v ∷ bytes)) (with_fault x.0 (text_at x.1) fault cut)
              (cut_short format v bytes first (λ low rest f.
              subst IsKey (sym (one_key low rest x.0 x.1 (sym f ∙ takes.0))) takes.1)
              (no_parts format (v ∷ bytes) fault e))
        ]

-- ---- and the other way

no_key_at : (low rest : List ℕ) → (IsKey low → ⊥) → key_at (counted low ++ rest) ≡ Err NoKey
no_key_at low rest none = go (is_key low) refl
  where
    whole : nat_lt (length (low ++ rest)) (length low) ≡ false
    whole = grind (arith, nat_tests, length-append low rest)

    front : take (length low) (low ++ rest) ≡ low
    front = take-append_seam low rest

    go : (t : Bool) → is_key low ≡ t → key_at (counted low ++ rest) ≡ Err NoKey
    go false is =
        ap (λ (s : Bool). cond s (err CutShort) (cond (is_key (take (length low) (low ++ rest)))
        (cut (take (length low) (low ++ rest)) (drop (length low) (low ++ rest))) (err NoKey)))
        whole
        ∙ ap (λ (t : Bool). cond t
        (cut (take (length low) (low ++ rest)) (drop (length low) (low ++ rest))) (err NoKey))
        (ap is_key front ∙ is)
    go true is =
        let tests = and_parts (nat_lt 0 (length low)) (nat_le (length low) 32) is in
        let some : 0 < length low = grind (arith, nat_tests, tests.0) in
        let few : length low ≤ 32 = grind (arith, nat_tests, tests.1) in
        absurd (none (some, few))

pub frame_fails : (format : Format) (bytes : List ℕ) (fault : ShardedFault) → IsBytes bytes
    → FrameFails format bytes fault → parts_at format bytes ≡ Err fault
frame_fails format bytes FormatByte b (v, rest, is, other) =
    let test : (v == sharded_format_byte format) ≡ false = grind (arith, nat_tests, other) in
    ap (parts_at format) is
    ∙ ap (λ (t : Bool). cond t (key_at rest >> λ low. parts_with low.0 (text_at low.1))
    (err FormatByte)) test
frame_fails format bytes NoKey b (low, (rest, is), none) =
    let same : (sharded_format_byte format == sharded_format_byte format) ≡ true =
    grind (arith, nat_tests) in
    let behind = counted low ++ rest in
    ap (parts_at format) is
    ∙ ap (λ (t : Bool). cond t (key_at behind >> λ low. parts_with low.0 (text_at low.1))
    (err FormatByte)) same
    ∙ ap (λ (r : Result (List ℕ × List ℕ) ShardedFault). r >> λ low.
    parts_with low.0 (text_at low.1)) (no_key_at low rest none)
frame_fails format bytes CutShort b (first, key, none) = go (parts_at format bytes) refl
  where
    other : (fault : ShardedFault) → FrameFails format bytes fault → err {A = Parts} fault
        ≡ Err CutShort
    other CutShort f = refl
    other FormatByte (v, rest, is, differs) = absurd (differs (first v rest is))
    other NoKey (low, begins, is_no) = absurd (is_no (key low begins))
    other (Directory f) is = absurd is
    other NotListed is = absurd is
    other NoListing is = absurd is
    other KeyBelow is = absurd is
    other KeyNotBelow is = absurd is
    other (Shard f) is = absurd is

    go : (r : Result Parts ShardedFault) → parts_at format bytes ≡ r → r ≡ Err CutShort
    go (Ok p) e = absurd (none p (parts_takes format bytes p b e).frames)
    go (Err g) e = other g (frame_fault format bytes g b e)
frame_fails format bytes (Directory f) b is = absurd is
frame_fails format bytes NotListed b is = absurd is
frame_fails format bytes NoListing b is = absurd is
frame_fails format bytes KeyBelow b is = absurd is
frame_fails format bytes KeyNotBelow b is = absurd is
frame_fails format bytes (Shard f) b is = absurd is
