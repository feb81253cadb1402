-- What a proof shows of the sharded map that has the root digest, and what is known if it shows
-- something else.
use Rattle.std.specs.Prelude.{◌≡◌, ◌<◌, ◌≤◌, ◌⊎◌, ℕ, List, [], ◌++◌, length, Option}
use Rattle.std.specs.List.{AllByRecursion}
use Rattle.std.specs.declared.result.Result.{Result}
use Rattle.std.specs.declared.result.Result.TheVariants.{Ok, Err}
use Rattle.mst_key.specs.declared.format.Format.{Format}
use Rattle.mst_key.specs.Map.{Pair, IsMap, map_get}
use Rattle.mst_node.specs.Text.{digest as digest_of_tree, highest_count}
use Rattle.mst_key.specs.Bytes.{IsBytes}
use Rattle.mst_node.specs.Collision.{HasCollision}
use Rattle.mst_node.specs.Trail.{proof_text}
use Rattle.mst_node.specs.Tree.{Tree, tree, pairs}
use Rattle.mst_proof.specs.Beside.{texts_named}
use Rattle.mst_sharded_proof.specs.Shards.{least, AreSplits, shards, shard_of, part_of, directory, sharded_root}
use Rattle.mst_sharded_proof.specs.Frame.{Parts, sharded_proof, parts_at}
use Rattle.mst_sharded_proof.specs.Verdict.{sharded_verdict}
use Rattle.mst_sharded_proof.specs.declared.fault.ShardedFault.{ShardedFault}

-- a map with these splits; each shard has at most 65,535 pairs
pub record IsSharded (m : List Pair) (splits : List (List ℕ)) : Type 0 where
  pub map : IsMap m
  pub rising : AreSplits least splits
  pub few_shards : length splits < highest_count
  pub few : AllByRecursion (λ s. length (part_of m s) ≤ highest_count) (shards splits)

-- a map with these splits that has this root digest
pub record HasShardedRoot (format : Format) (m : List Pair) (splits : List (List ℕ))
    (digest : List ℕ) : Type 0 where
  pub sharded : IsSharded m splits
  pub root : digest ≡ sharded_root format m splits

-- the trees of the directory, and of the shard of a key
abbrev pub directory_tree : Format → List Pair → List (List ℕ) → Tree
directory_tree format m splits = tree format (directory format m splits)

abbrev pub shard_tree : Format → List Pair → List (List ℕ) → List ℕ → Tree
shard_tree format m splits k = tree format (part_of m (shard_of splits k))

-- the texts of both parts, those of the nodes of both trees, the empty text, and in format 2 the
-- values
abbrev pub texts_with : Format → Tree → Tree → Parts → List (List ℕ)
texts_with format over under p =
    texts_named format p.directory over ++ texts_named format p.shard under

abbrev pub texts_among : Format → Tree → Tree → Result Parts ShardedFault → List (List ℕ)
texts_among format over under (Err fault) = []
texts_among format over under (Ok p) = texts_with format over under p

abbrev pub sharded_texts : Format → List ℕ → Tree → Tree → List (List ℕ)
sharded_texts format proof over under = texts_among format over under (parts_at format proof)

-- for the directory's digest the proof shows no answer but that of the shard's pairs
abbrev pub ShowsNoOtherSharded : Format → Tree → Tree → List ℕ → List ℕ → Type 0
ShowsNoOtherSharded format over under k proof = (answer : Option (List ℕ))
    → sharded_verdict format (digest_of_tree over) k proof ≡ Ok answer
    → answer ≡ map_get (pairs under) k

-- ---- two maps with one root digest

-- its proofs, of the directory and of the whole, are bytes
pub record HasBytes (format : Format) (m : List Pair) (splits : List (List ℕ)) : Type 0 where
  pub listed : (k : List ℕ) → IsBytes (proof_text format (directory format m splits) k)
  pub whole : (k : List ℕ) → IsBytes (sharded_proof format m splits k)

-- for some key there is a collision among the texts of the first map's proof, of the directory or
-- of the whole, and those of the second one's trees
abbrev pub CollideForKey : Format → List Pair → List (List ℕ) → List Pair → List (List ℕ) → Type 0
CollideForKey format m splits n others = (k : List ℕ)
    × (HasCollision (texts_named format (proof_text format (directory format m splits) k)
    (directory_tree format n others))
    ⊎ HasCollision (sharded_texts format (sharded_proof format m splits k)
    (directory_tree format n others) (shard_tree format n others k)))
