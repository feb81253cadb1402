-- A sharded map: the splits between its shards, what a handle knows of each shard, and the map of
-- all shards together.
use Rattle.std.specs.Prelude.{◌≡◌, ◌≤◌, ℕ, suc, ◌+◌, if◌then◌else◌, List, [], ◌∷◌, ◌++◌, map, length, slice_index_or}
use Rattle.std.specs.List.{AllByRecursion, slice_set}
use Rattle.std.specs.Ordering.{is_lt}
use Rattle.mst_key.specs.Map.{Pair, key_cmp}
use Rattle.mst_key.specs.History.{after, IsPrefix}
use Rattle.mst_store.specs.Passes.{Known, Looks, most_rows}
use Rattle.mst_sharded_proof.specs.Shards.{Shard, least, AreSplits, shards as shards_at, part_of}

-- the splits that a sharded map may have: at most 1,023 keys that rise strictly, from above the
-- least key
pub record IsSplits (splits : List (List ℕ)) : Type 0 where
  pub few : length splits ≤ 1023
  pub rising : AreSplits least splits

-- the place of a key's shard: how many of the splits, which rise, are at most the key
abbrev pub place : List (List ℕ) → List ℕ → ℕ
place [] k = 0
place (s ∷ splits) k = if is_lt (key_cmp k s) then 0 else suc (place splits k)

-- what a handle knows: the splits, and of each shard what its pass of that shard knows
pub record Sharding : Type 0 where
  pub splits : List (List ℕ)
  pub shards : List Known

abbrev pub sharding : List (List ℕ) → List Known → Sharding
sharding splits shards = record { splits = splits; shards = shards }

-- there is a shard before, between and after the splits
pub record IsSharding (h : Sharding) : Type 0 where
  pub splits_are : IsSplits h.splits
  pub count : length h.shards ≡ length h.splits + 1

-- each pass has seen a map of no more pairs than a store has rows
abbrev pub HaveFewPairs : List Known → Type 0
HaveFewPairs ps = AllByRecursion (λ (p : Known). length (after p.seen) ≤ most_rows) ps

-- ---- steps

-- the pass of the key's shard made this step, and the passes of the others made none
pub record Routes (k : List ℕ) (Steps : Known → Known → Type 0) (h i : Sharding) : Type 0 where
  pub p : Known
  pub q : Known
  pub here : (d : Known) → slice_index_or h.shards (place h.splits k) d ≡ p
  pub steps : Steps p q
  pub now : i ≡ sharding h.splits (slice_set h.shards (place h.splits k) q)

-- each pass made this step, and they stand in the same order
abbrev pub AllStep : (Known → Known → Type 0) → List Known → List Known → Type 0
AllStep Steps [] [] = Unit {0}
AllStep Steps [] (q ∷ qs) = ⊥
AllStep Steps (p ∷ ps) [] = ⊥
AllStep Steps (p ∷ ps) (q ∷ qs) = Steps p q × AllStep Steps ps qs

-- the passes of the shards from a place on made the step of their shard
abbrev pub StepsFrom : (ℕ → Known → Known → Type 0) → ℕ → List Known → List Known → Type 0
StepsFrom Steps i [] [] = Unit {0}
StepsFrom Steps i [] (q ∷ qs) = ⊥
StepsFrom Steps i (p ∷ ps) [] = ⊥
StepsFrom Steps i (p ∷ ps) (q ∷ qs) = Steps i p q × StepsFrom Steps (suc i) ps qs

-- a pass has now seen a history that begins with all that it had seen
abbrev pub SeesMore : Known → Known → Type 0
SeesMore p q = IsPrefix p.seen q.seen

-- a pass pinned the current version of its shard
abbrev pub PinsNow : Known → Known → Type 0
PinsNow p q = Looks p q × (q.asked ≡ p.asked + 1)

-- each pass pinned the current version of its shard, one after the other
pub record PinsAll (h i : Sharding) : Type 0 where
  pub splits : i.splits ≡ h.splits
  pub pins : AllStep PinsNow h.shards i.shards

-- ---- the map of all shards

-- of each shard the pairs in its interval, one shard after the other
abbrev pub union : List Shard → List (List Pair) → List Pair
union [] ms = []
union (s ∷ shards) [] = []
union (s ∷ shards) (m ∷ ms) = part_of m s ++ union shards ms

-- the map of each shard, as its pass has seen it last
abbrev pub maps_of : List Known → List (List Pair)
maps_of shards = map (λ p. after p.seen) shards

-- the map of all shards together, as they were seen last
abbrev pub map_of : Sharding → List Pair
map_of h = union (shards_at h.splits) (maps_of h.shards)
