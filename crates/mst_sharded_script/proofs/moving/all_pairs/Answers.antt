use Rattle.mst_sharded_script.proofs.Names.{map_of}
use Rattle.mst_sharded_script.proofs.Loading.{if_all}
use Rattle.mst_sharded_script.proofs.moving.all_pairs.Goals as goal

pub returns-clause-all : goal.returns-clause-all
returns-clause-all g c =
    if_all (map_of c.args.snapshot.now.sharding) c.range.result c.range.ensures.found
