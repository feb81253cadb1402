-- What is found in the directory, pair by pair, is all that it has.
use Rattle.mst_snapshots.proofs.Names.{◌≡◌, ℕ, zero, suc, ◌+◌, ◌<◌, ◌≤◌, cond, List, [], ◌∷◌, ◌++◌, find, length, get_or, slice_get, Option, Some, None, Less, refl, sym, ap, ◌∙◌, subst, arith, AllByRecursion, option_map, same_Some, none-some, slice_get-map, slice_get-get_or, Format, after, Pair, key_cmp, above, map_next, IsAscending, IsMap, IsAscending-after, Known, format_seen, Shard, least, part_of, directory, length-directory, whole, IsOneBlock, KeepWithin, low_at, shard_at, KeepsTo, sharding, IsSharding, HaveFewPairs, maps_of, map_of, length-shards, Agrees, AgreeTo, low_before, pass_at}
use Rattle.std.proofs.Common.{◌≢◌, Ordering, is_gt, below_more}
use Rattle.std.proofs.lemmas.Option.{slice_get_past}
use Rattle.mst_key.specs.Map.{AllAbove}
use Rattle.mst_key.proofs.KeyOrder.{equal_from_same, greater_from_less}
use Rattle.mst_node.specs.Text.{root as root_of}
use Rattle.mst_sharded_proof.specs.Shards.{shards_from, shards as shards_at, bound_text, listing, directory_from}
use Rattle.mst_shards.specs.Entries.{shard_from_at}
use Rattle.mst_shards.proofs.Formats.{format_at}
use Rattle.mst_shards.proofs.Intervals.{next_shard, shard_get, shard_keeps}
use Rattle.mst_shards.proofs.Rooted.{part_at}
use Rattle.mst_shards.proofs.ShardParts.{HasParts, parts}
use Rattle.mst_snapshots.specs.Agreeing.{listed_pair}
use Rattle.mst_snapshots.proofs.Staying.{read_at, low_at_place}

-- ---- the next pair of a map

above_at : (m : List Pair) (x : List ℕ) (j : ℕ) (k v : List ℕ) → AllAbove m x
    → slice_get m j ≡ Some (k, v) → key_cmp x k ≡ Less
above_at [] x j k v all is =
    absurd (let pair : Pair = (k, v) in let f : None ≡ Some pair = is in cc)
above_at (p ∷ m) x zero k v all is =
    subst (λ (y : List ℕ). key_cmp x y ≡ Less)
    (ap (λ (q : Pair). q.0) (same_Some p (k, v) is)) all.0
above_at (p ∷ m) x (suc j) k v all is = above_at m x j k v all.1 is

-- the first pair above the key of the first one
next_first : (m : List Pair) (x k : List ℕ) → x ≡ k → AllAbove m x
    → map_next m (Some k) ≡ slice_get m 0
next_first [] x k same all = refl
next_first (q ∷ m) x k same all =
    let more = greater_from_less k q.0
    (subst (λ (y : List ℕ). key_cmp y q.0 ≡ Less) same all.0) in
    ap (λ (o : Ordering). cond (is_gt o) (Some q) (find (λ (z : Pair). above (Some k) z.0) m)) more

-- the pair above the one at a place stands next to it
pub next_above : (m : List Pair) (j : ℕ) (k v : List ℕ) → IsAscending m
    → slice_get m j ≡ Some (k, v) → map_next m (Some k) ≡ slice_get m (suc j)
next_above [] j k v rise is =
    absurd (let pair : Pair = (k, v) in let f : None ≡ Some pair = is in cc)
next_above (p ∷ m) zero k v rise is =
    let key : p.0 ≡ k = ap (λ (q : Pair). q.0) (same_Some p (k, v) is) in
    ap (λ (o : Ordering). cond (is_gt o) (Some p) (find (λ (z : Pair). above (Some k) z.0) m))
    (equal_from_same p.0 k key)
    ∙ next_first m p.0 k key rise.0
next_above (p ∷ m) (suc j) k v rise is =
    let less = above_at m p.0 j k v rise.0 is in
    ap (λ (o : Ordering). cond (is_gt o) (Some p) (find (λ (z : Pair). above (Some k) z.0) m)) less
    ∙ next_above m j k v rise.1 is

-- ---- one place more

next_is : (format : Format) (splits : List (List ℕ)) (ps : List Known) (m : List Pair) (n : ℕ)
    → IsAscending m → AgreeTo format splits ps m n
    → map_next m (low_before splits n) ≡ slice_get m n
next_is format splits ps [] zero rise agree = refl
next_is format splits ps (p ∷ m) zero rise agree = refl
next_is format splits ps m (suc j) rise agree =
    let at = agree j (omega arith) in
    next_above m j (low_at splits j)
    (root_of (format_seen (pass_at ps j)) (after (pass_at ps j).seen)
    ++ bound_text (slice_get splits j)) rise at.entry

-- what is found above the bound before a place is the pair at the place
pub found_is : (format : Format) (splits : List (List ℕ)) (ps : List Known) (d : Known) (n : ℕ)
    (found : Option Pair) → AgreeTo format splits ps (after d.seen) n
    → found ≡ map_next (after d.seen) (low_before splits n) → found ≡ slice_get (after d.seen) n
found_is format splits ps d n found agree is =
    is ∙ next_is format splits ps (after d.seen) n (IsAscending-after d.seen) agree

agree_more : (format : Format) (splits : List (List ℕ)) (ps : List Known) (m : List Pair) (n : ℕ)
    → AgreeTo format splits ps m n
    → Agrees format (shard_at splits n) (pass_at ps n) (slice_get m n)
    → AgreeTo format splits ps m (n + 1)
agree_more format splits ps m n agree here k low =
    below_more (λ j. Agrees format (shard_at splits j) (pass_at ps j) (slice_get m j)) n agree here
    k low

pub agree_next : (format : Format) (splits : List (List ℕ)) (ps : List Known) (d : Known) (n : ℕ)
    (found : Option Pair) → AgreeTo format splits ps (after d.seen) n
    → found ≡ map_next (after d.seen) (low_before splits n)
    → Agrees format (shard_at splits n) (pass_at ps n) found
    → AgreeTo format splits ps (after d.seen) (n + 1)
agree_next format splits ps d n found agree is here =
    agree_more format splits ps (after d.seen) n agree
    (subst (λ (o : Option Pair). Agrees format (shard_at splits n) (pass_at ps n) o)
    (found_is format splits ps d n found agree is) here)

-- ---- all places

all_at : (P : Known → Type 0) (ps : List Known) → ((k : ℕ) → k < length ps → P (pass_at ps k))
    → AllByRecursion P ps
all_at P [] each = tt
all_at P (p ∷ ps) each =
    (each 0 (omega arith), all_at P ps (λ k low. each (suc k) (omega (arith, low))))

keep_all : (low : List ℕ) (splits : List (List ℕ)) (ps : List Known)
    → ((k : ℕ) → k < length ps → KeepsTo (shard_from_at low splits k) (pass_at ps k))
    → KeepWithin (shards_from low splits) (maps_of ps)
keep_all low [] [] each = tt
keep_all low (s ∷ splits) [] each = tt
keep_all low [] (p ∷ ps) each = (each 0 (omega arith), tt)
keep_all low (s ∷ splits) (p ∷ ps) each = (
  each 0 (omega arith),
  keep_all s splits ps (λ k less. subst (λ (t : Shard). KeepsTo t (pass_at ps k))
      (sym (next_shard low s splits k)) (each (suc k) (omega (arith, less)))),
)

one_entry : (format : Format) (m : List Pair) (s : Shard) (p : Known) (e : Pair)
    → Agrees format s p (Some e) → part_of m s ≡ part_of (after p.seen) s
    → e ≡ (s.low, listing format m s)
one_entry format m s p e agree part =
    same_Some e (listed_pair s p) agree.entry
    ∙ ap (λ (f : Format). let q : Pair = (s.low, root_of f (after p.seen) ++ bound_text s.high) in
    q)
    agree.same
    ∙ ap (λ (n : List Pair). let q : Pair = (s.low, root_of format n ++ bound_text s.high) in q)
    (sym (part ∙ agree.keeps))

nothing_left : (m : List Pair) → slice_get m 0 ≡ None → m ≡ []
nothing_left [] none = refl
nothing_left (e ∷ m) none = absurd (let f : Some e ≡ None = none in cc)

entries_are : (format : Format) (m : List Pair) (low : List ℕ) (splits : List (List ℕ))
    (ps : List Known) (es : List Pair) → length ps ≡ length splits + 1
    → HasParts m (shards_from low splits) (maps_of ps)
    → ((k : ℕ) → k < length ps
    → Agrees format (shard_from_at low splits k) (pass_at ps k) (slice_get es k))
    → slice_get es (length ps) ≡ None → es ≡ directory_from format m low splits
entries_are format m low splits [] es count have each none = absurd (omega (arith, count))
entries_are format m low splits (p ∷ ps) [] count have each none =
    absurd (none-some (listed_pair (shard_from_at low splits 0) p) (each 0 (omega arith)).entry)
entries_are format m low [] (p ∷ ps) (e ∷ es) count have each none =
    let s : Shard = record { low = low; high = None } in
    let empty : length ps ≡ 0 = omega (arith, count) in
    let rest = nothing_left es (subst (λ (n : ℕ). slice_get es n ≡ None) empty none) in
    ap (λ (x : Pair). x ∷ es) (one_entry format m s p e (each 0 (omega arith)) have.0)
    ∙ ap (λ (l : List Pair). let x : Pair = (low, listing format m s) in x ∷ l) rest
entries_are format m low (t ∷ splits) (p ∷ ps) (e ∷ es) count have each none =
    let s : Shard = record { low = low; high = Some t } in
    ap (λ (x : Pair). x ∷ es) (one_entry format m s p e (each 0 (omega arith)) have.0)
    ∙ ap (λ (l : List Pair). let x : Pair = (low, listing format m s) in x ∷ l)
    (entries_are format m t splits ps es (omega (arith, count)) have.1
    (λ k less. subst (λ (u : Shard). Agrees format u (pass_at ps k) (slice_get es k))
    (sym (next_shard low t splits k)) (each (suc k) (omega (arith, less)))) none)

-- shards that agree, each with its pair, and no pair more: all are of one block
pub all_agree : (format : Format) (splits : List (List ℕ)) (ps : List Known) (d : Known) (n : ℕ)
    (found : Option Pair) → IsSharding (sharding splits ps)
    → AllByRecursion (λ (p : Known). IsMap (after p.seen)) ps → HaveFewPairs ps
    → format ≡ format_seen d → AgreeTo format splits ps (after d.seen) n
    → n ≡ length splits + 1 → found ≡ map_next (after d.seen) (low_before splits n)
    → found ≡ None → IsOneBlock (whole splits ps d)
all_agree format splits ps d n found is maps few seen agree all next none =
    let count : length ps ≡ length splits + 1 = is.count in
    let each : (k : ℕ) → k < length ps
    → Agrees format (shard_at splits k) (pass_at ps k) (slice_get (after d.seen) k) =
    λ k low. agree k (omega (arith, low, count, all)) in
    let end : slice_get (after d.seen) (length ps) ≡ None =
    subst (λ (j : ℕ). slice_get (after d.seen) j ≡ None) (all ∙ sym count)
    (sym (found_is format splits ps d n found agree next) ∙ none) in
    record {
      format = format;
      sharding_is = is;
      maps = maps;
      few = few;
      same = all_at (λ (p : Known). format_seen p ≡ format) ps (λ k low. (each k low).same);
      clean = keep_all least splits ps (λ k low. (each k low).keeps);
      format_is = sym seen;
      listed = entries_are format (map_of (sharding splits ps)) least splits ps (after d.seen)
          count (parts least splits (maps_of ps) is.splits_are.rising) each end;
    }

-- ---- what is of one block agrees

-- the map of a shard is its part of the map of all shards
pub own_part : (splits : List (List ℕ)) (ps : List Known) (d : Known) (i : ℕ) (p : Known)
    → IsOneBlock (whole splits ps d) → i < length ps → p ≡ get_or ps i p
    → part_of (map_of (sharding splits ps)) (shard_at splits i) ≡ after p.seen
own_part splits ps d i p one low here =
    let count : length ps ≡ length splits + 1 = one.sharding_is.count in
    let shards = length-shards least splits in
    let s = shard_at splits i in
    let m = map_of (sharding splits ps) in
    let part = subst (λ (t : Shard). part_of m t ≡ part_of (after (get_or ps i p).seen) t)
    (shard_get least splits i s (omega (arith, count, low)))
    (part_at m (shards_at splits) ps i s p (omega (arith, low, count, shards)) low
    (parts least splits (maps_of ps) one.sharding_is.splits_are.rising)) in
    part ∙ ap (λ (x : Known). part_of (after x.seen) s) (sym here)
    ∙ shard_keeps splits ps i p count low here one.clean

pub own_format : (splits : List (List ℕ)) (ps : List Known) (d : Known) (i : ℕ) (p : Known)
    → IsOneBlock (whole splits ps d) → i < length ps → p ≡ get_or ps i p
    → format_seen p ≡ format_seen d
own_format splits ps d i p one low here =
    ap (λ (x : Known). format_seen x) here ∙ format_at one.format ps i p low one.same
    ∙ sym one.format_is

pub own_keeps : (splits : List (List ℕ)) (ps : List Known) (d : Known) (i : ℕ) (p : Known)
    → IsOneBlock (whole splits ps d) → i < length ps → p ≡ get_or ps i p
    → KeepsTo (shard_at splits i) p
own_keeps splits ps d i p one low here =
    shard_keeps splits ps i p one.sharding_is.count low here one.clean

listed_at : (format : Format) (m : List Pair) (splits : List (List ℕ)) (i : ℕ)
    → i ≤ length splits → slice_get (directory format m splits) i
    ≡ Some ((shard_at splits i).low, listing format m (shard_at splits i))
listed_at format m splits i low =
    let held : Shard → Pair = λ s. (s.low, listing format m s) in
    let shards = length-shards least splits in
    slice_get-map held (shards_at splits) i
    ∙ ap (λ (o : Option Shard). option_map held o)
    (slice_get-get_or (shards_at splits) i (shard_at splits i) (omega (arith, low, shards)))
    ∙ ap (λ (s : Shard). Some (held s)) (shard_get least splits i (shard_at splits i) low)

pub one_agrees : (splits : List (List ℕ)) (ps : List Known) (d : Known) (i : ℕ)
    → IsOneBlock (whole splits ps d) → i ≤ length splits
    → Agrees (format_seen d) (shard_at splits i) (pass_at ps i) (slice_get (after d.seen) i)
one_agrees splits ps d i one within =
    let low = low_at_place splits ps i one.sharding_is within in
    let p = pass_at ps i in
    let here = read_at ps i low in
    let s = shard_at splits i in
    let m = map_of (sharding splits ps) in
    record {
      same = own_format splits ps d i p one low here;
      entry = ap (λ (l : List Pair). slice_get l i) one.listed
          ∙ listed_at one.format m splits i within
          ∙ ap (λ (f : Format). let q : Pair = (s.low, listing f m s) in Some q)
          (sym one.format_is ∙ sym (own_format splits ps d i p one low here))
          ∙ ap (λ (n : List Pair). let q : Pair =
          (s.low, root_of (format_seen p) n ++ bound_text s.high) in Some q)
          (own_part splits ps d i p one low here);
      keeps = own_keeps splits ps d i p one low here;
    }

-- a shard that does not agree: not all is of one block
pub one_differs : (format : Format) (splits : List (List ℕ)) (ps : List Known) (d : Known) (n : ℕ)
    (found : Option Pair) → format ≡ format_seen d → AgreeTo format splits ps (after d.seen) n
    → n ≤ length splits → found ≡ map_next (after d.seen) (low_before splits n)
    → (Agrees format (shard_at splits n) (pass_at ps n) found → ⊥)
    → IsOneBlock (whole splits ps d) → ⊥
one_differs format splits ps d n found seen agree within next differs one =
    differs (subst (λ (o : Option Pair). Agrees format (shard_at splits n) (pass_at ps n) o)
    (sym (found_is format splits ps d n found agree next))
    (subst (λ (f : Format). Agrees f (shard_at splits n) (pass_at ps n)
    (slice_get (after d.seen) n)) (sym seen) (one_agrees splits ps d n one within)))

-- a pair more: not all is of one block
pub one_more : (format : Format) (splits : List (List ℕ)) (ps : List Known) (d : Known) (n : ℕ)
    (found : Option Pair) (pair : Pair) → AgreeTo format splits ps (after d.seen) n
    → n ≡ length splits + 1 → found ≡ map_next (after d.seen) (low_before splits n)
    → found ≡ Some pair → IsOneBlock (whole splits ps d) → ⊥
one_more format splits ps d n found pair agree all next some one =
    let size = length-directory one.format (map_of (sharding splits ps)) least splits in
    let none : slice_get (after d.seen) n ≡ None =
    ap (λ (l : List Pair). slice_get l n) one.listed
    ∙ slice_get_past (directory one.format (map_of (sharding splits ps)) splits) n
    (omega (arith, all, size)) in
    let f : Some pair ≡ None =
    sym some ∙ found_is format splits ps d n found agree next ∙ none in cc

-- ---- one entry

-- what is held of a shard, from what it is made of
pub held_is : (format : Format) (m : List Pair) (digest held : List ℕ) (o h : Option (List ℕ))
    → held ≡ digest ++ bound_text o → digest ≡ root_of format m → o ≡ h
    → held ≡ root_of format m ++ bound_text h
held_is format m digest held o h is root same =
    is ∙ ap (λ (d : List ℕ). d ++ bound_text o) root
    ∙ ap (λ (x : Option (List ℕ)). root_of format m ++ bound_text x) same

-- what was found is the entry of a shard
pub entry_yes : (found : Option Pair) (k v : List ℕ) (s : Shard) (p : Known) → found ≡ Some (k, v)
    → k ≡ s.low → v ≡ root_of (format_seen p) (after p.seen) ++ bound_text s.high
    → found ≡ Some (listed_pair s p)
entry_yes found k v s p is key value =
    is ∙ ap (λ (b : List ℕ). let q : Pair = (b, v) in Some q) key
    ∙ ap (λ (b : List ℕ). let q : Pair = (s.low, b) in Some q) value

-- or has another key
pub entry_other : (found : Option Pair) (k v : List ℕ) (s : Shard) (p : Known)
    → found ≡ Some (k, v) → k ≢ s.low → found ≢ Some (listed_pair s p)
entry_other found k v s p is other same =
    other (ap (λ (q : Pair). q.0) (same_Some (k, v) (listed_pair s p) (sym is ∙ same)))

-- or another value
pub entry_holds : (found : Option Pair) (k v : List ℕ) (s : Shard) (p : Known)
    → found ≡ Some (k, v) → v ≢ root_of (format_seen p) (after p.seen) ++ bound_text s.high
    → found ≢ Some (listed_pair s p)
entry_holds found k v s p is other same =
    other (ap (λ (q : Pair). q.1) (same_Some (k, v) (listed_pair s p) (sym is ∙ same)))
