use Rattle.mst_batch.proofs.Names.{[], Some, sym, ap, subst, ◌∙◌, arith, rules, count_by-le-length, batched, is_free, Stands, LacksPairs}
use Rattle.mst_node.specs.Shape.{tree_of_child}
use Rattle.mst_path.specs.Planting.{IsTreeOf, tree_at}
use Rattle.mst_batch.proofs.Loads.{AfterBatch, is_map, after_nothing, after_planted, lacks_room, lacks_pairs}
use Rattle.mst_batch.proofs.loading.load.Given.{Over}
use Rattle.mst_batch.proofs.loading.load.Goals.{In_default, In-Ok-planted}
use Rattle.mst_batch.proofs.loading.load.Goals as goal

pub tree_after-requires : goal.tree_after-requires
tree_after-requires g c =
    let most = count_by-le-length is_free c.args.desk.now.lives in
    record { few = omega (arith, most, c.free-free.ensures.count, c.free-free.ensures.few) }

pub returns-in-Err-clause-lacks : goal.returns-in-Err-clause-lacks
returns-in-Err-clause-lacks g c =
    lacks_pairs c.args.format (g.R.Rows.content c.args.rows.now) c.args.root.now c.requires.empty
    c.args.edits.now c.args.desk.now c.requires.some c.in-Err.why
    (subst (λ most. LacksPairs c.in-Err.why most (batched [] c.args.edits.now))
    c.free-free.ensures.count c.in-Err.ensures.lacks)

-- ---- no pair is left

module _ (g : Over) (c : goal.In_default g) where
  stays : AfterBatch c.args.format (g.R.Rows.content c.args.rows.now)
      (g.R.Rows.content c.args.rows.now) c.args.desk.now c.args.desk.now c.args.root.now
      c.args.root.now c.args.edits.now
  stays = after_nothing c.args.format (g.R.Rows.content c.args.rows.now) c.args.desk.now
      c.args.root.now c.requires.empty c.requires.stands c.args.edits.now
      c.are_within_limits.ensures.small
      (ap (tree_of_child c.args.format) (sym c.in_default.is) ∙ c.in-Ok.ensures.tree.is)

pub returns-in_default-clause-changed : goal.returns-in_default-clause-changed
returns-in_default-clause-changed g c =
    stays g (goal.at.returns-in_default-clause-changed g c).In_default

-- ---- the tree is planted

module _ (g : Over) (c : goal.In-Ok-planted g) where
  its_tree : IsTreeOf c.args.format (tree_at c.args.format (Some c.deref.result.now))
      (batched [] c.args.edits.now)
  its_tree = search rules

  stands : Stands c.args.format (g.R.Rows.content c.plant-planted.new.rows) c.in-Ok-planted.done
      (batched [] c.args.edits.now)
  stands = c.in-Ok-planted.ensures.stands (batched [] c.args.edits.now)
      (is_map c.args.edits.now c.are_within_limits.ensures.small) its_tree

  loaded : AfterBatch c.args.format (g.R.Rows.content c.args.rows.now)
      (g.R.Rows.content c.plant-planted.new.rows) c.args.desk.now c.plant-planted.new.desk
      c.args.root.now c.in-Ok-planted.done c.args.edits.now
  loaded = after_planted c.args.format (g.R.Rows.content c.args.rows.now) c.args.desk.now
      c.args.root.now c.requires.empty c.requires.stands c.args.edits.now
      c.are_within_limits.ensures.small (g.R.Rows.content c.plant-planted.new.rows)
      c.plant-planted.new.desk c.in-Ok-planted.done stands
      (c.in-Ok-planted.ensures.takes (batched [] c.args.edits.now) stands)
      (c.in-Ok-planted.ensures.keeps (batched [] c.args.edits.now) stands)

pub returns-in-Ok-planted-clause-changed : goal.returns-in-Ok-planted-clause-changed
returns-in-Ok-planted-clause-changed g c = loaded g c

-- ---- there is no room for it

pub returns-in-Err-planted-clause-lacks : goal.returns-in-Err-planted-clause-lacks
returns-in-Err-planted-clause-lacks g c =
    lacks_room c.args.format (g.R.Rows.content c.args.rows.now) c.args.root.now c.requires.empty
    c.args.edits.now _
    (c.in-Err-planted.ensures.no_room (batched [] c.args.edits.now) (search rules))

-- ---- what a search finds

pub returns-in-Err-clause-beside : goal.returns-in-Err-clause-beside
returns-in-Err-clause-beside g c = search rules

pub returns-in-Err-clause-untouched : goal.returns-in-Err-clause-untouched
returns-in-Err-clause-untouched g c = search rules

pub returns-in_default-clause-beside : goal.returns-in_default-clause-beside
returns-in_default-clause-beside g c = search rules

pub plant-planted-requires-clause-tree : goal.plant-planted-requires-clause-tree
plant-planted-requires-clause-tree g c = search rules

pub plant-planted-requires-clause-free : goal.plant-planted-requires-clause-free
plant-planted-requires-clause-free g c = search rules

pub returns-in-Ok-planted-clause-beside : goal.returns-in-Ok-planted-clause-beside
returns-in-Ok-planted-clause-beside g c = search rules

pub returns-in-Err-planted-clause-beside : goal.returns-in-Err-planted-clause-beside
returns-in-Err-planted-clause-beside g c = search rules

pub returns-in-Err-planted-clause-untouched : goal.returns-in-Err-planted-clause-untouched
returns-in-Err-planted-clause-untouched g c = search rules
