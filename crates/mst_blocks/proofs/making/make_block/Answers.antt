use Rattle.mst_blocks.proofs.Names.{List, vec_items, subst, arith, length-map, Edit, Known, whole, parts_of, MakesBlock, LeavesAll, RefusesParts, at_last, RefusesBlock, BlockFault}
use Rattle.mst_blocks.proofs.Blocked.{writes_again, adds_block, writes_still, refuses_block, refused_before}
use Rattle.mst_blocks.proofs.Kept.{made_keeps, left_keeps, either_way, on_ok, if_err}
use Rattle.mst_blocks.proofs.making.make_block.Given.{Over}
use Rattle.mst_blocks.proofs.making.make_block.Goals.{After-commit}
use Rattle.mst_blocks.proofs.making.make_block.Goals as goal

-- there is room for all shards
pub commit-requires-clause-fits : goal.commit-requires-clause-fits
commit-requires-clause-fits g c =
    let count = c.requires.writer.block.sharding_is.count in
    let same = length-map (vec_items c.args.passes) at_last in
    let now = c.args.passes.ok.0 in
    let room = c.in-Ok.ensures.room in
    omega (arith, count, same, now, room)

-- ---- a block that was asked for

module _ (g : Over) (c : After-commit g) where
  abbrev ps : List Known
  ps = vec_items c.args.passes

  abbrev qs : List Known
  qs = vec_items c.commit.result.0

  abbrev d : Known
  d = c.args.directory

  abbrev e : Known
  e = c.commit.result.1

  abbrev Made : Type 0
  Made = MakesBlock c.args.splits.now (vec_items c.in-Ok.parts) ps qs d e

  made : Made → MakesBlock c.args.splits.now (parts_of c.args.splits.now c.args.edits.now) ps qs d e
  made m = subst (λ (parts : List (List Edit)). MakesBlock c.args.splits.now parts ps qs d e)
      c.in-Ok.ensures.parts m

pub returns-in-Ok-clause-ok : goal.returns-in-Ok-clause-ok
returns-in-Ok-clause-ok g c =
    on_ok c.commit.result.2 c.commit.ensures.ok
    (λ (m : Made g c). adds_block c.args.splits.now c.args.edits.now (ps g c) (qs g c) (d g c)
    (e g c) c.requires.writer c.are_within_limits.ensures.small (made g c m))

pub returns-in-Ok-clause-err : goal.returns-in-Ok-clause-err
returns-in-Ok-clause-err g c =
    if_err
    (λ (fault : BlockFault). RefusesParts fault c.args.splits.now (vec_items c.in-Ok.parts) (ps g c)
    (qs g c) (d g c) (e g c))
    (λ (fault : BlockFault). RefusesBlock fault c.args.edits.now
    (whole c.args.splits.now (ps g c) (d g c)) (whole c.args.splits.now (qs g c) (e g c)))
    c.commit.result.2 c.commit.ensures.err c.commit.ensures.why
    (λ (left : LeavesAll (ps g c) (qs g c) (d g c) (e g c)) (fault : BlockFault) why.
    refuses_block c.args.splits.now (ps g c) (qs g c) (d g c) (e g c) c.requires.writer left fault
    c.args.edits.now
    (subst (λ (parts : List (List Edit)). RefusesParts fault c.args.splits.now parts (ps g c)
    (qs g c) (d g c) (e g c)) c.in-Ok.ensures.parts why))

pub returns-in-Ok-clause-writer : goal.returns-in-Ok-clause-writer
returns-in-Ok-clause-writer g c =
    either_way c.commit.result.2 c.commit.ensures.ok c.commit.ensures.err
    (λ (m : Made g c). writes_again c.args.splits.now c.args.edits.now (ps g c) (qs g c) (d g c)
    (e g c) c.requires.writer c.are_within_limits.ensures.small (made g c m))
    (λ (left : LeavesAll (ps g c) (qs g c) (d g c) (e g c)). writes_still c.args.splits.now (ps g c)
    (qs g c) (d g c) (e g c) c.requires.writer left)

pub returns-in-Ok-clause-own : goal.returns-in-Ok-clause-own
returns-in-Ok-clause-own g c =
    either_way c.commit.result.2 c.commit.ensures.ok c.commit.ensures.err
    (λ (m : Made g c). made_keeps c.args.splits.now (vec_items c.in-Ok.parts) (ps g c) (qs g c)
    (d g c) (e g c) m)
    (λ (left : LeavesAll (ps g c) (qs g c) (d g c) (e g c)). left_keeps (ps g c) (qs g c) (d g c)
    (e g c) left)

pub returns-in-Err-clause-err : goal.returns-in-Err-clause-err
returns-in-Err-clause-err g c =
    refused_before c.args.splits.now (vec_items c.args.passes) c.args.directory c.requires.writer
    c.in-Err.refused c.args.edits.now
