-- Where a key falls in a node of a map's tree: at an entry, or in the gap of a child that holds
-- what the map says of the key.
use Rattle.mst_proof.proofs.Names.{Format, ◌≡◌, ℕ, ◌≤◌, List, [], ◌∷◌, ◌++◌, length, Option, Some, None, ◌⊎◌, inl, inr, refl, sym, ◌∙◌, ap, subst, arith, length-append, Contains, Ordering, Less, Equal, Greater, Contains-append_left, Contains-append_right, IsKey, IsValue, Pair, key_cmp, AllAbove, IsMap, map_get, less_from_greater, gap_in, held_in, Tree, empty, Entries, last, entry, pairs, entries_pairs, subtrees, entries_subtrees, IsUnder, IsMst, IsMstEntries, child_digest, flat_entries, held_of, LiesBetween, EntriesLieBetween, by_order, nodes_met, met_in_gap, place_among, KeyPlace, Found, Gap, Span}
use Rattle.mst_key.specs.Map.{AllBelow}
use Rattle.mst_key.proofs.KeyOrder.{same_from_equal, other_from_less}
use Rattle.mst_key.proofs.MapLaws.{AllBelow-less, AllAbove-less, map_get-here, map_get-past}
use Rattle.mst_key.proofs.Splits.{map_get-left, map_get-right}
use Rattle.mst_node.specs.Text.{tail_digest}
use Rattle.mst_node.proofs.TreeOrder.{all-front, split}

-- the place of the key among the entries
abbrev pub place : (format : Format) → List ℕ → Option (List ℕ) → Option (List ℕ) → Entries
    → KeyPlace
place format k low high es = place_among k low high (flat_entries format es) (tail_digest es)

-- an entry holds the key with the map's value
pub record Holding (format : Format) (k : List ℕ) (low high : Option (List ℕ)) (es : Entries) : Type
    0 where
  pub value : List ℕ
  pub placed : place format k low high es ≡ Found (held_of format value)
  pub looks : map_get (entries_pairs es) k ≡ Some value
  pub entry : held_in k es ≡ Some value
  pub meets : met_in_gap k es ≡ []
  pub gap : gap_in k es ≡ empty

-- the child in the key's gap has the pairs that decide
pub record Gapped (format : Format) (k : List ℕ) (low high : Option (List ℕ)) (l : ℕ)
    (es : Entries) : Type 0 where
  pub child : Tree
  pub span : Span
  pub placed : place format k low high es ≡ Gap (child_digest child) span
  pub looks : map_get (entries_pairs es) k ≡ map_get (pairs child) k
  pub entry : held_in k es ≡ None
  pub meets : met_in_gap k es ≡ nodes_met k child
  pub gap : gap_in k es ≡ child
  pub under : IsUnder l child
  pub mst : IsMst format child
  pub map : IsMap (pairs child)
  pub few : length (pairs child) ≤ length (entries_pairs es)
  pub lies : EntriesLieBetween low high es → LiesBetween span.low span.high child
  pub among : (u : Tree) → Contains (subtrees child) u → Contains (entries_subtrees es) u

-- the pairs round a pair of a map
record Round (xs : List Pair) (p : Pair) (ys : List Pair) : Type 0 where
  front : IsMap xs
  back : IsMap ys
  below : AllBelow xs p.0
  above : AllAbove ys p.0

round : (xs : List Pair) (p : Pair) (ys : List Pair) → IsMap (xs ++ p ∷ ys) → Round xs p ys
round xs p ys is =
    let s = split xs p ys is.ascending in
    let limits = all-front (λ q. IsKey q.0 × IsValue q.1) xs (p ∷ ys) is.limits in
    record {
      front = record { ascending = s.front; limits = limits.0 };
      back =
          record { ascending = s.back; limits = limits.1.1 };
      below = s.below;
      above = s.above;
    }

-- what the order of the key to the entry's key chooses
abbrev chosen : (format : Format) → List ℕ → Option (List ℕ) → Option (List ℕ) → Tree → List ℕ
    → List ℕ → Entries → Ordering → KeyPlace
chosen format k low high child key value rest r =
    by_order r (Gap (child_digest child) (record { low = low; high = Some key }))
    (Found (held_of format value)) (place format k (Some key) high rest)

falls_before : (format : Format) (k : List ℕ) (low high : Option (List ℕ)) (l : ℕ) (child : Tree)
    (key value : List ℕ) (rest : Entries) → IsMstEntries format l (entry child key value rest)
    → Round (pairs child) (key, value) (entries_pairs rest) → key_cmp k key ≡ Less
    → Gapped format k low high l (entry child key value rest)
falls_before format k low high l child key value rest mst r e =
    let above : AllAbove ((key, value) ∷ entries_pairs rest) k =
    (e, AllAbove-less (entries_pairs rest) k key e r.above) in
    record {
      child = child;
      span = record { low = low; high = Some key };
      placed = ap (chosen format k low high child key value rest) e;
      looks = map_get-left (pairs child) ((key, value) ∷ entries_pairs rest) k above;
      entry = ap (λ (o : Ordering). by_order o None (Some value) (held_in k rest)) e;
      meets = ap (λ (o : Ordering). by_order o (nodes_met k child) [] (met_in_gap k rest)) e;
      gap = ap (λ (o : Ordering). by_order o child empty (gap_in k rest)) e;
      under = mst.0;
      mst = mst.1;
      map = r.front;
      few = omega (arith, length-append (pairs child) ((key, value) ∷ entries_pairs rest));
      lies = λ lie. lie.1;
      among = λ u has. Contains-append_left (subtrees child) (entries_subtrees rest) u has;
    }

falls_at : (format : Format) (k : List ℕ) (low high : Option (List ℕ)) (child : Tree)
    (key value : List ℕ) (rest : Entries) → Round (pairs child) (key, value) (entries_pairs rest)
    → key_cmp k key ≡ Equal → Holding format k low high (entry child key value rest)
falls_at format k low high child key value rest r e =
    let same : k ≡ key = same_from_equal k key e in
    let below : AllBelow (pairs child) k = subst (AllBelow (pairs child)) (sym same) r.below in
    record {
      value = value;
      placed = ap (chosen format k low high child key value rest) e;
      looks = map_get-right (pairs child) ((key, value) ∷ entries_pairs rest) k below
          ∙ map_get-here (key, value) (entries_pairs rest) k (sym same);
      entry = ap (λ (o : Ordering). by_order o None (Some value) (held_in k rest)) e;
      meets = ap (λ (o : Ordering). by_order o (nodes_met k child) [] (met_in_gap k rest)) e;
      gap = ap (λ (o : Ordering). by_order o child empty (gap_in k rest)) e;
    }

-- after the entry the map says of the key what the rest says
looks_behind : (k : List ℕ) (child : Tree) (key value : List ℕ) (rest : Entries)
    → Round (pairs child) (key, value) (entries_pairs rest) → key_cmp k key ≡ Greater
    → map_get (entries_pairs (entry child key value rest)) k ≡ map_get (entries_pairs rest) k
looks_behind k child key value rest r e =
    let less = less_from_greater k key e in
    map_get-right (pairs child) ((key, value) ∷ entries_pairs rest) k
    (AllBelow-less (pairs child) key k r.below less) ∙ map_get-past (key, value)
    (entries_pairs rest) k (other_from_less key k less)

falls_behind : (format : Format) (k : List ℕ) (low high : Option (List ℕ)) (l : ℕ) (child : Tree)
    (key value : List ℕ) (rest : Entries) → Round (pairs child) (key, value) (entries_pairs rest)
    → key_cmp k key ≡ Greater → Holding format k (Some key) high rest ⊎ Gapped format k (Some key)
    high l rest → Holding format k low high (entry child key value rest) ⊎ Gapped format k low high
    l (entry child key value rest)
falls_behind format k low high l child key value rest r e (inl h) =
    inl (record {
      value = h.value;
      placed = ap (chosen format k low high child key value rest) e ∙ h.placed;
      looks = looks_behind k child key value rest r e ∙ h.looks;
      entry = ap (λ (o : Ordering). by_order o None (Some value) (held_in k rest)) e ∙ h.entry;
      meets = ap (λ (o : Ordering). by_order o (nodes_met k child) [] (met_in_gap k rest)) e
          ∙ h.meets;
      gap = ap (λ (o : Ordering). by_order o child empty (gap_in k rest)) e ∙ h.gap;
    })
falls_behind format k low high l child key value rest r e (inr g) =
    inr (record {
      child = g.child;
      span = g.span;
      placed = ap (chosen format k low high child key value rest) e ∙ g.placed;
      looks = looks_behind k child key value rest r e ∙ g.looks;
      entry = ap (λ (o : Ordering). by_order o None (Some value) (held_in k rest)) e ∙ g.entry;
      meets = ap (λ (o : Ordering). by_order o (nodes_met k child) [] (met_in_gap k rest)) e
          ∙ g.meets;
      gap = ap (λ (o : Ordering). by_order o child empty (gap_in k rest)) e ∙ g.gap;
      under = g.under;
      mst = g.mst;
      map = g.map;
      few = omega (arith, g.few, length-append (pairs child) ((key, value) ∷ entries_pairs rest));
      lies = λ lie. g.lies lie.2;
      among = λ u has. Contains-append_right (subtrees child) (entries_subtrees rest) u
          (g.among u has);
    })

pub falls : (format : Format) (k : List ℕ) (low high : Option (List ℕ)) (l : ℕ) (es : Entries)
    → IsMstEntries format l es → IsMap (entries_pairs es) → Holding format k low high es
    ⊎ Gapped format k low high l es
falls format k low high l (last child) mst is =
    inr (record {
      child = child;
      span = record { low = low; high = high };
      placed = refl;
      looks = refl;
      entry = refl;
      meets = refl;
      gap = refl;
      under = mst.0;
      mst = mst.1;
      map = is;
      few = omega arith;
      lies = λ lie. lie;
      among = λ u has. has;
    })
falls format k low high l (entry child key value rest) mst is =
    let r = round (pairs child) (key, value) (entries_pairs rest) is in
    go (key_cmp k key) refl r (falls format k (Some key) high l rest mst.3 r.back)
  where
    go : (o : Ordering) → key_cmp k key ≡ o → Round (pairs child) (key, value) (entries_pairs rest)
        → Holding format k (Some key) high rest ⊎ Gapped format k (Some key) high l rest
        → Holding format k low high (entry child key value rest) ⊎ Gapped format k low high l
        (entry child key value rest)
    go Less e r later = inr (falls_before format k low high l child key value rest mst r e)
    go Equal e r later = inl (falls_at format k low high child key value rest r e)
    go Greater e r later = falls_behind format k low high l child key value rest r e later
