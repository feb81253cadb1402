-- The directory after a block is the directory of the new map.
use Rattle.mst_blocks.proofs.Names.{◌≡◌, ◌≢◌, ℕ, List, [], ◌∷◌, ◌++◌, length, map, Option, Some, Less, is_eq, refl, sym, ap, ◌∙◌, subst, arith, cond-true, cond-false, AllByRecursion, Format, Edit, Pair, key_cmp, map_get, History, after, batched, format_after, value_of, value_after, IsAscending-batched, map_get-batched, by_same, less_chain, other_from_less, test_of_same, test_of_other, map_determined, map_get-here, map_get-past, Known, format_seen, Shard, least, part_of, bound_text, listing, directory, directory_map, AddsPart, AllAdd, listed_part, listed_parts, KeepWithin, IsSplits, sharding, maps_of, map_of, at_last, RiseFrom, all_rise}
use Rattle.mst_node.specs.Text.{root as root_of}
use Rattle.mst_sharded_proof.specs.Shards.{shards as shards_at}
use Rattle.mst_shards.specs.Entries.{entry_of}
use Rattle.mst_shards.proofs.ShardParts.{HasParts, parts as parts_are}

-- ---- the edits of the listing, key by key

past_one : (s : Shard) (part : List Edit) (q : Known) (rest : List Edit) (k : List ℕ)
    (old : Option (List ℕ)) → s.low ≢ k
    → value_after (listed_part s part q ++ rest) k old ≡ value_after rest k old
past_one s [] q rest k old other = refl
past_one s (e ∷ part) q rest k old other =
    ap (λ (o : Option (List ℕ)). value_after rest k o)
    (cond-false (is_eq (key_cmp s.low k)) (value_of (entry_of s q)) old
    (test_of_other s.low k other))

rise_lower : (a b : List ℕ) (shards : List Shard) → key_cmp a b ≡ Less → RiseFrom b shards
    → RiseFrom a shards
rise_lower a b [] less rise = tt
rise_lower a b (s ∷ shards) less rise = (less_chain a b s.low less rise.0, rise.1)

-- edits of shards above a key leave it what it has
untouched : (b : List ℕ) (shards : List Shard) (parts : List (List Edit)) (qs : List Known)
    (old : Option (List ℕ)) → RiseFrom b shards
    → value_after (listed_parts shards parts qs) b old ≡ old
untouched b [] parts qs old rise = refl
untouched b (s ∷ shards) [] qs old rise = refl
untouched b (s ∷ shards) (part ∷ parts) [] old rise = refl
untouched b (s ∷ shards) (part ∷ parts) (q ∷ qs) old rise =
    past_one s part q (listed_parts shards parts qs) b old
    (λ same. other_from_less b s.low rise.0 (sym same))
    ∙ untouched b shards parts qs old (rise_lower b s.low shards rise.0 rise.1)

-- What is held of a shard before and after: without edits the same, with edits what the pass has
-- now seen
abbrev RelistsOne : (Shard → List ℕ) → (Shard → List ℕ) → Shard → List Edit → Known → Type 0
RelistsOne f g s [] q = g s ≡ f s
RelistsOne f g s (e ∷ part) q =
    root_of (format_seen q) (after q.seen) ++ bound_text s.high ≡ g s

abbrev Relists : (Shard → List ℕ) → (Shard → List ℕ) → List Shard → List (List Edit)
    → List Known → Type 0
Relists f g [] parts qs = Unit {0}
Relists f g (s ∷ shards) [] qs = ⊥
Relists f g (s ∷ shards) (part ∷ parts) [] = ⊥
Relists f g (s ∷ shards) (part ∷ parts) (q ∷ qs) =
    RelistsOne f g s part q × Relists f g shards parts qs

here_relisted : (f g : Shard → List ℕ) (s : Shard) (part : List Edit) (q : Known)
    (rest : List Edit) → RelistsOne f g s part q
    → value_after (listed_part s part q ++ rest) s.low (Some (f s))
    ≡ value_after rest s.low (Some (g s))
here_relisted f g s [] q rest one =
    ap (λ (v : List ℕ). value_after rest s.low (Some v)) (sym one)
here_relisted f g s (e ∷ part) q rest one =
    ap (λ (o : Option (List ℕ)). value_after rest s.low o)
    (cond-true (is_eq (key_cmp s.low s.low)) (value_of (entry_of s q)) (Some (f s))
    (test_of_same s.low s.low refl) ∙ ap (λ (v : List ℕ). Some v) one)

abbrev held : (Shard → List ℕ) → List Shard → List Pair
held f shards = map (λ (s : Shard). (s.low, f s)) shards

relisted_get : (f g : Shard → List ℕ) (b : List ℕ) (shards : List Shard)
    (parts : List (List Edit)) (qs : List Known) (k : List ℕ) → RiseFrom b shards
    → Relists f g shards parts qs
    → value_after (listed_parts shards parts qs) k (map_get (held f shards) k)
    ≡ map_get (held g shards) k
relisted_get f g b [] parts qs k rise re = refl
relisted_get f g b (s ∷ shards) [] qs k rise re = absurd re
relisted_get f g b (s ∷ shards) (part ∷ parts) [] k rise re = absurd re
relisted_get f g b (s ∷ shards) (part ∷ parts) (q ∷ qs) k rise re =
    let rest = listed_parts shards parts qs in
    by_same {G = value_after (listed_part s part q ++ rest) k
    (map_get ((s.low, f s) ∷ held f shards) k) ≡ map_get ((s.low, g s) ∷ held g shards) k}
    s.low k
    (λ same. ap (λ (o : Option (List ℕ)). value_after (listed_part s part q ++ rest) k o)
    (map_get-here (s.low, f s) (held f shards) k same)
    ∙ subst (λ (x : List ℕ). value_after (listed_part s part q ++ rest) x (Some (f s))
    ≡ Some (g s)) same
    (here_relisted f g s part q rest re.0
    ∙ untouched s.low shards parts qs (Some (g s)) rise.1)
    ∙ sym (map_get-here (s.low, g s) (held g shards) k same))
    (λ other. ap (λ (o : Option (List ℕ)). value_after (listed_part s part q ++ rest) k o)
    (map_get-past (s.low, f s) (held f shards) k other)
    ∙ past_one s part q rest k (map_get (held f shards) k) other
    ∙ relisted_get f g s.low shards parts qs k rise.1 re.1
    ∙ sym (map_get-past (s.low, g s) (held g shards) k other))

-- ---- what is held of each shard

-- the version that a pass has just made is its last
abbrev pub IsJustMade : Known → Type 0
IsJustMade q = (at_last q).seen ≡ q.seen

abbrev pub MadeOne : List Edit → Known → Type 0
MadeOne [] q = Unit {0}
MadeOne (e ∷ part) q = IsJustMade q

relists_one : (format : Format) (old new : List Pair) (s : Shard) (part : List Edit)
    (p q : Known) → AddsPart part p q → MadeOne part q
    → part_of old s ≡ part_of (after (at_last p).seen) s
    → part_of new s ≡ part_of (after (at_last q).seen) s
    → part_of (after (at_last q).seen) s ≡ after (at_last q).seen
    → format_seen (at_last q) ≡ format
    → RelistsOne (listing format old) (listing format new) s part q
relists_one format old new s [] p q adds made before now keeps same =
    ap (λ (m : List Pair). root_of format m ++ bound_text s.high)
    (now ∙ ap (λ (x : Known). part_of (after (at_last x).seen) s) adds ∙ sym before)
relists_one format old new s (e ∷ part) p q adds made before now keeps same =
    ap (λ (h : History). root_of (format_after q.store.format h) (after h) ++ bound_text s.high)
    (sym made)
    ∙ ap (λ (f : Format). root_of f (after (at_last q).seen) ++ bound_text s.high) same
    ∙ ap (λ (m : List Pair). root_of format m ++ bound_text s.high) (sym (now ∙ keeps))

abbrev pub AllMade : List (List Edit) → List Known → Type 0
AllMade [] qs = Unit {0}
AllMade (part ∷ parts) [] = Unit {0}
AllMade (part ∷ parts) (q ∷ qs) = MadeOne part q × AllMade parts qs

relists : (format : Format) (old new : List Pair) (shards : List Shard)
    (parts : List (List Edit)) (ps qs : List Known) → length shards ≡ length ps
    → AllAdd parts ps qs → AllMade parts qs → HasParts old shards (maps_of (map at_last ps))
    → HasParts new shards (maps_of (map at_last qs))
    → KeepWithin shards (maps_of (map at_last qs))
    → AllByRecursion (λ (q : Known). format_seen q ≡ format) (map at_last qs)
    → Relists (listing format old) (listing format new) shards parts qs
relists format old new [] parts ps qs count adds made before now keeps same = tt
relists format old new (s ∷ shards) [] [] qs count adds made before now keeps same =
    absurd (omega (arith, count))
relists format old new (s ∷ shards) [] (p ∷ ps) qs count adds made before now keeps same =
    absurd adds
relists format old new (s ∷ shards) (part ∷ parts) [] qs count adds made before now keeps same =
    absurd adds
relists format old new (s ∷ shards) (part ∷ parts) (p ∷ ps) [] count adds made before now keeps
    same = absurd adds
relists format old new (s ∷ shards) (part ∷ parts) (p ∷ ps) (q ∷ qs) count adds made before now
    keeps same = (
      relists_one format old new s part p q adds.0 made.0 before.0 now.0 keeps.0 same.0,
      relists format old new shards parts ps qs (omega (arith, count)) adds.1 made.1 before.1 now.1
          keeps.1 same.1,
    )

-- ---- the whole directory

pub directory_after : (format : Format) (splits : List (List ℕ)) (parts : List (List Edit))
    (ps qs : List Known) (d : List Pair) → IsSplits splits
    → length (shards_at splits) ≡ length ps → AllAdd parts ps qs → AllMade parts qs
    → KeepWithin (shards_at splits) (maps_of (map at_last qs))
    → AllByRecursion (λ (q : Known). format_seen q ≡ format) (map at_last qs)
    → d ≡ directory format (map_of (sharding splits (map at_last ps))) splits
    → batched d (listed_parts (shards_at splits) parts qs)
    ≡ directory format (map_of (sharding splits (map at_last qs))) splits
directory_after format splits parts ps qs d is count adds made keeps same listed =
    let old = map_of (sharding splits (map at_last ps)) in
    let new = map_of (sharding splits (map at_last qs)) in
    let edits = listed_parts (shards_at splits) parts qs in
    let before = directory format old splits in
    let re = relists format old new (shards_at splits) parts ps qs count adds made
    (parts_are least splits (maps_of (map at_last ps)) is.rising)
    (parts_are least splits (maps_of (map at_last qs)) is.rising) keeps same in
    ap (λ (m : List Pair). batched m edits) listed
    ∙ map_determined (batched before edits) (directory format new splits)
    (IsAscending-batched before edits (directory_map format old splits is.rising).ascending)
    (directory_map format new splits is.rising).ascending
    (λ k. map_get-batched before edits k
    ∙ relisted_get (listing format old) (listing format new) [] (shards_at splits) parts qs k
    (all_rise splits is) re)
