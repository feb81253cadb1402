-- A snapshot beside the blocks of the writer of its map.
use Rattle.mst_theorem.proofs.Names.{◌≡◌, ◌⊎◌, ℕ, ◌+◌, ◌≤◌, List, ◌++◌, length, sym, ap, ◌∙◌, subst, arith, History, IsPrefix, after, Pair, IsPrefix-chain}
use Rattle.std.proofs.Common.{take, drop}
use Rattle.std.proofs.lemmas.List.{take-append-drop}
use Rattle.mst_node.specs.Text.{root as root_of}
use Rattle.mst_sharded_proof.specs.Shards.{directory}
use Rattle.mst_sharded_proof.specs.Theorem.{IsSharded, HasShardedRoot, HasBytes, CollideForKey}
use Rattle.mst_shards.specs.BlockHistory.{Blocks, map_made, Records, Whole, IsNumber}
use Rattle.mst_shards.specs.Sharding.{map_of}
use Rattle.mst_blocks.specs.Blocks.{last_made}
use Rattle.mst_blocks.specs.Writing.{at_last, HasMade}
use Rattle.mst_blocks.proofs.Chained.{recorded}
use Rattle.mst_blocks.proofs.Ordered.{recorded_of, snapshot_map}
use Rattle.mst_snapshots.specs.Numbers.{HaveOneDirectory}
use Rattle.mst_snapshots.proofs.Numbered.{one_directory}
use Rattle.mst_theorem.specs.InBlocks.{HasWritten, IsSnapshotOf}
use Rattle.mst_theorem.proofs.Notes.{as_many}

last_begins : (w : Whole) → IsPrefix (at_last w.directory).seen w.directory.seen
last_begins w =
    let n = last_made w.directory in
    (drop n w.directory.seen, sym (take-append-drop n w.directory.seen))

module _ (blocks : Blocks) (w v : Whole) (log : History) (n : ℕ) (h : HasWritten blocks w log)
    (s : IsSnapshotOf n v w log) (made : n ≤ length blocks) where
  -- the snapshot's directory is one that the writer has left behind it
  early : IsPrefix v.directory.seen (at_last w.directory).seen
  early =
      let count = h.made.records.count in
      let number = s.number in
      as_many v.directory.seen (at_last w.directory).seen log s.later
      (IsPrefix-chain (at_last w.directory).seen w.directory.seen log (last_begins w) h.later)
      (omega (arith, count, number, made))

  pub root_in_blocks : HasShardedRoot s.one.format (map_made (take n blocks)) w.sharding.splits
      (root_of s.one.format (after v.directory.seen))
  root_in_blocks =
      let last = recorded s.one.format v.sharding.splits v.directory.seen (take n blocks)
      (recorded_of blocks w v s.one.format n h.made s.splits early s.number s.format) in
      subst (λ (x : List (List ℕ)). HasShardedRoot s.one.format (map_made (take n blocks)) x
      (root_of s.one.format (after v.directory.seen))) s.splits record {
        sharded = last.1;
        root = ap (λ (m : List Pair). root_of s.one.format m) last.0;
      }

  pub map_in_blocks : HasBytes s.one.format (map_of v.sharding) v.sharding.splits
      → (map_of v.sharding ≡ map_made (take n blocks))
      ⊎ CollideForKey s.one.format (map_of v.sharding) v.sharding.splits
      (map_made (take n blocks)) v.sharding.splits
  map_in_blocks bytes =
      snapshot_map blocks w v s.one n h.made s.splits early s.number s.format bytes

module _ (w v u : Whole) (log : History) (n m : ℕ) (s : IsSnapshotOf n v w log)
    (t : IsSnapshotOf m u w log) where
  pub in_order : n ≤ m → IsPrefix v.directory.seen u.directory.seen
  in_order less =
      let first = s.number in
      let second = t.number in
      as_many v.directory.seen u.directory.seen log s.later t.later
      (omega (arith, first, second, less))

pub one_number : (w v u : Whole) (log : History) (n : ℕ) → IsSnapshotOf n v w log
    → IsSnapshotOf n u w log → HaveOneDirectory v u
one_number w v u log n s t =
    one_directory v u n s.one t.one (t.store ∙ sym s.store)
    (in_order w v u log n n s t (omega arith)) s.number t.number
