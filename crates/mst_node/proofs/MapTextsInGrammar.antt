-- The text of a node of a map's tree is in the grammar.
use Rattle.mst_node.proofs.Names.{◌≡◌, ℕ, zero, suc, ◌<◌, ◌≤◌, List, [], ◌∷◌, ◌++◌, length, refl, sym, subst, arith, length-append, append_assoc, IfSome, w32, to_be_bytes, AllByRecursion, flat_map, Format, One, Two, IsBytes, IsKey, IsValue, layer_in, Pair, key_cmp, IsAscending, Less, IsAscending-back, Tree, empty, node, Entries, last, entry, pairs, entries_pairs, entry_count, IsMst, IsMstEntries, FlatEntry, FlatNode, child_text, counted, held_text, entry_text, child_digest, flat_entries, tail_digest, held_of, text, spelling, IsDigest, IsHeld, IsFlatEntry, IsFlatNode, InGrammar, flat_pairs}
use Rattle.std.specs.Prelude.{slice_index}
use Rattle.sha2.specs.Sha256.{sha256, digest_bytes, final_hash, initial_hash_256}
use Rattle.sha2.proofs.Facts256.{length-sha256}
use Rattle.mst_key.specs.Map.{IsMap}
use Rattle.mst_node.proofs.ReadIsSpelled.{bytes-split}
use Rattle.mst_node.specs.Text.{flat}

bytes-append : (xs ys : List ℕ) → IsBytes xs → IsBytes ys → IsBytes (xs ++ ys)
bytes-append [] ys a b = b
bytes-append (x ∷ xs) ys a b = (a.0, bytes-append xs ys a.1 b)

digest_bytes-fit : (h : List ℕ) (n : ℕ) → IsBytes (digest_bytes h n)
unfolding digest_bytes
digest_bytes-fit h zero = tt
digest_bytes-fit h (suc n) = bytes-append (digest_bytes h n) (to_be_bytes w32 (slice_index h n))
    (digest_bytes-fit h n) (omega arith, (omega arith, (omega arith, (omega arith, tt))))

-- SHA-256 gives a digest
pub sha256_digest : (m : List ℕ) → IsDigest (sha256 m)
unfolding sha256
sha256_digest m =
    record { size = length-sha256 m; bytes = digest_bytes-fit (final_hash initial_hash_256 m) 8 }

child_is_digest : (t : Tree) → IfSome (child_digest t) IsDigest
child_is_digest empty = tt
child_is_digest (node format l es) = sha256_digest (spelling (flat format l es))

tail_is_digest : (es : Entries) → IfSome (tail_digest es) IsDigest
tail_is_digest (last child) = child_is_digest child
tail_is_digest (entry child key value rest) = tail_is_digest rest

held_fits : (format : Format) (v : List ℕ) → IsValue v → IsBytes v
    → IsHeld format (held_of format v)
held_fits One v is bytes = (is, bytes)
held_fits Two v is bytes = sha256_digest v

-- a pair of a map, of bytes
abbrev Fits : Pair → Type 0
Fits p = (IsKey p.0 × IsValue p.1) × IsBytes p.0 × IsBytes p.1

all-back : (P : Pair → Type 0) (xs ys : List Pair) → AllByRecursion P (xs ++ ys)
    → AllByRecursion P ys
all-back P [] ys all = all
all-back P (x ∷ xs) ys all = all-back P xs ys all.1

entries_fit : (format : Format) (l : ℕ) (es : Entries) → AllByRecursion Fits (entries_pairs es)
    → AllByRecursion (IsFlatEntry format) (flat_entries format es)
entries_fit format l (last child) all = tt
entries_fit format l (entry child key value rest) all =
    let here = all-back Fits (pairs child) ((key, value) ∷ entries_pairs rest) all in (
      record {
        child = child_is_digest child;
        key = here.0.0.0;
        key_bytes = here.0.1;
        held =
            held_fits format value here.0.0.1 here.0.2;
      },
      entries_fit format l rest here.1,
    )

entries_at_layer : (format : Format) (l : ℕ) (es : Entries) → IsMstEntries format l es
    → AllByRecursion (λ e. layer_in format e.key ≡ l) (flat_entries format es)
entries_at_layer format l (last child) mst = tt
entries_at_layer format l (entry child key value rest) mst =
    (mst.2, entries_at_layer format l rest mst.3)

entries_few : (format : Format) (es : Entries) → length (flat_entries format es) ≤ length
    (entries_pairs es)
entries_few format (last child) = omega arith
entries_few format (entry child key value rest) =
    omega (
      arith,
      entries_few format rest,
      length-append (pairs child)
          ((key, value) ∷ entries_pairs rest),
    )

entries_some : (format : Format) (es : Entries) → length (flat_entries format es) ≡ entry_count es
entries_some format (last child) = refl
entries_some format (entry child key value rest) = omega (arith, entries_some format rest)

-- what is before all pairs is before all entries
entries_above : (format : Format) (k : List ℕ) (es : Entries)
    → AllByRecursion (λ (p : Pair). key_cmp k p.0 ≡ Less) (entries_pairs es)
    → AllByRecursion (λ (p : Pair). key_cmp k p.0 ≡ Less) (flat_pairs (flat_entries format es))
entries_above format k (last child) all = tt
entries_above format k (entry child key value rest) all =
    let here = all-back (λ (p : Pair). key_cmp k p.0 ≡ Less) (pairs child)
    ((key, value) ∷ entries_pairs rest) all in
    (here.0, entries_above format k rest here.1)

entries_rise : (format : Format) (es : Entries) → IsAscending (entries_pairs es)
    → IsAscending (flat_pairs (flat_entries format es))
entries_rise format (last child) rise = tt
entries_rise format (entry child key value rest) rise =
    let here = IsAscending-back (pairs child) ((key, value) ∷ entries_pairs rest) rise in
    (entries_above format key rest here.0, entries_rise format rest here.1)

all-both : (m : List Pair) → AllByRecursion (λ p. IsKey p.0 × IsValue p.1) m
    → AllByRecursion (λ p. IsBytes p.0 × IsBytes p.1) m → AllByRecursion Fits m
all-both [] a b = tt
all-both (p ∷ m) a b = ((a.0, b.0.0, b.0.1), all-both m a.1 b.1)

pub in_grammar : (format : Format) (t : Tree) → IsMst format t → IsMap (pairs t)
    → AllByRecursion (λ p. IsBytes p.0 × IsBytes p.1) (pairs t) → 0 < length (pairs t)
    → length (pairs t) ≤ 65535 → InGrammar format (text t)
in_grammar format empty mst is bytes some few = absurd (omega arith)
in_grammar format (node g l es) mst is bytes some few =
    let n : FlatNode = flat g l es in
    let P : Format → Type 0 = λ f. IsMstEntries f l es in
    let at : IsMstEntries g l es = subst P (sym mst.0) mst.2 in (
      n,
      mst.0,
      record {
        some = omega (arith, mst.1, entries_some g es);
        few = omega (arith, few, entries_few g es);
        entries = entries_fit g l es (all-both (entries_pairs es) is.limits bytes);
        tail = tail_is_digest es;
        keys =
            record {
              at_layer = entries_at_layer g l es at;
              rising =
                  entries_rise g es is.ascending;
            };
      },
      refl,
    )

-- ---- a node of a map whose text has bytes

held_is : (format : Format) (v : List ℕ) → IsValue v → IsBytes (held_text format (held_of format v))
    → IsHeld format (held_of format v)
held_is One v is b = (is, b.1)
held_is Two v is b = sha256_digest v

entries_are : (format : Format) (es : Entries) (rest : List ℕ)
    → AllByRecursion (λ p. IsKey p.0 × IsValue p.1) (entries_pairs es)
    → IsBytes (flat_map (entry_text format) (flat_entries format es) ++ rest)
    → AllByRecursion (IsFlatEntry format) (flat_entries format es)
entries_are format (last child) rest all b = tt
entries_are format (entry child key value more) rest all b =
    let here = all-back (λ (p : Pair). IsKey p.0 × IsValue p.1) (pairs child)
    ((key, value) ∷ entries_pairs more) all in
    let e : FlatEntry =
    record { child = child_digest child; key = key; held = held_of format value } in
    let others = flat_map (entry_text format) (flat_entries format more) in
    let parts : (entry_text format e ++ others) ++ rest ≡ child_text e.child
    ++ (counted key ++ (held_text format e.held ++ (others ++ rest))) = simp append_assoc in
    let behind_child =
    (bytes-split (child_text e.child)
    (counted key ++ (held_text format e.held ++ (others ++ rest))) (subst IsBytes parts b)).1 in
    let key_parts = bytes-split (counted key) (held_text format e.held ++ (others ++ rest))
    behind_child in
    let held_parts = bytes-split (held_text format e.held) (others ++ rest) key_parts.1 in (
      record {
        child = child_is_digest child;
        key = here.0.0;
        key_bytes = key_parts.0.1;
        held =
            held_is format value here.0.1 held_parts.0;
      },
      entries_are format more rest here.1
          held_parts.1,
    )

-- the flat node at the top of a map's tree, if its text has bytes
pub flat_is : (format : Format) (l : ℕ) (es : Entries) → IsMst format (node format l es)
    → IsMap (entries_pairs es) → length (entries_pairs es) ≤ 65535
    → IsBytes (spelling (flat format l es)) → IsFlatNode (flat format l es)
flat_is format l es mst is few b =
    record {
      some = omega (arith, mst.1, entries_some format es);
      few = omega (arith, few, entries_few format es);
      entries = entries_are format es (child_text (tail_digest es)) is.limits b.1.1.1.1;
      tail = tail_is_digest es;
      keys =
          record {
            at_layer = entries_at_layer format l es mst.2;
            rising =
                entries_rise format es is.ascending;
          };
    }
