use Rattle.mst_sharded_proof.proofs.Names.{List, ℕ, [], arith, IsKey, Pair, Format, One, least, AreSplits, shard_of}
use Rattle.mst_sharded_proof.proofs.Shards.{part_get, directory_map}
use Rattle.mst_sharded_proof.proofs.Complete.{Listed, listed_of, least_first}
use Rattle.mst_sharded_proof.proofs.laws.shards_of_keys.Goals as goal

of_key : (format : Format) (m : List Pair) (splits : List (List ℕ)) (k : List ℕ)
    → AreSplits least splits → IsKey k → Listed format m least splits k (shard_of splits k)
of_key format m splits k rising is = listed_of format m least splits k (omega arith, omega arith)
    rising (least_first k is)

pub returns-clause-inside : goal.returns-clause-inside
returns-clause-inside c splits k rising is = (of_key One [] splits k rising is).inside

pub returns-clause-part : goal.returns-clause-part
returns-clause-part c m splits k rising is =
    part_get m (shard_of splits k) k (of_key One m splits k rising is).inside

pub returns-clause-map : goal.returns-clause-map
returns-clause-map c format m splits rising = directory_map format m splits rising

pub returns-clause-listed : goal.returns-clause-listed
returns-clause-listed c format m splits k rising is = (of_key format m splits k rising is).holds
