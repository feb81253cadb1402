use Rattle.mst_sharded_proof.proofs.Names.{subst, ShowsNoOther, CollidesWith, shard_of, part_of, directory}
use Rattle.std.proofs.Common.{IfSome, IfNone}
use Rattle.std.specs.Option.{option_copied}
use Rattle.mst_proof.specs.Beside.{top_of}
use Rattle.mst_sharded_proof.proofs.Collide.{of_directory, of_shard, none_of_both, some_over, some_under, if_none, if_some}
use Rattle.mst_sharded_proof.proofs.collision.collide_sharded.Goals as goal

pub collide_in-requires : goal.collide_in-requires
collide_in-requires g c =
    let map = c.requires.map in
    record { map = of_directory c.args.format map.0 map.1 _ map.2 map.3 }

pub collide_in-requires-2 : goal.collide_in-requires-2
collide_in-requires-2 g c =
    let map = c.requires.map in
    record { map = of_shard c.args.format map.0 map.1 c.args.key.now _ map.2 map.4 }

pub returns-in-Some-clause-some : goal.returns-in-Some-clause-some
returns-in-Some-clause-some g c =
    let map = c.requires.map in
    let format = c.args.format in
    let over = top_of format (option_copied c.args.directory) in
    let under = top_of format (option_copied c.args.shard) in
    let dir = directory format map.0 map.1 in
    some_over format map.0 map.1 c.args.proof.now _ over under _ _ map.3 c.in-Ok.ensures.ok
    (subst (λ o. IfSome o (λ p. CollidesWith format dir c.in-Ok.parts.low
    c.in-Ok.parts.directory.now p.one.items p.other.items)) c.in-Some.is
    (c.in_ok-pair.ensures.some dir map.3))

pub returns-clause-none : goal.returns-clause-none
returns-clause-none g c =
    let over = top_of c.args.format (option_copied c.args.directory) in
    let under = top_of c.args.format (option_copied c.args.shard) in
    let no_over = subst (λ o. IfNone o (ShowsNoOther c.args.format over c.in-Ok.parts.low
    c.in-Ok.parts.directory.now)) c.in_default-2.is c.in_ok-pair.ensures.none in
    if_none c.collide_in-2.result (λ no_under. none_of_both c.args.format c.args.key.now
    c.args.proof.now _ over under c.requires.map c.in-Ok.ensures.ok no_over no_under)
    c.collide_in-2.ensures.none

pub returns-clause-some : goal.returns-clause-some
returns-clause-some g c =
    let map = c.requires.map in
    let format = c.args.format in
    let over = top_of format (option_copied c.args.directory) in
    let under = top_of format (option_copied c.args.shard) in
    let part = part_of map.0 (shard_of map.1 c.args.key.now) in
    if_some c.collide_in-2.result (λ p. some_under format map.0 map.1 c.args.key.now
    c.args.proof.now _ over under p.one.items p.other.items map.4 c.in-Ok.ensures.ok)
    (c.collide_in-2.ensures.some part map.4)
