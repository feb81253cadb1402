use Rattle.mst_batch.proofs.Names.{rules}
use Rattle.std.proofs.Common.{of_calls}
use Rattle.std.proofs.lemmas.List.Sorted.{IsPartitionPoint-from_clause}
use Rattle.mst_batch.proofs.Ranges.{Places, is_below, is_up_to, parted_below, parted_up_to, in_order, below_are, own_are, above_are}
use Rattle.mst_batch.proofs.opening.searched_range_of.Goals as goal
use Rattle.mst_batch.proofs.opening.searched_range_of.Goals.{After-partition_point-end}

places : (c : After-partition_point-end)
    → Places c.args.edits.now c.args.key.now c.partition_point-start.result
    c.partition_point-end.result
places c = record {
  low = c.partition_point-start.ensures.bound;
  high = c.partition_point-end.ensures.bound;
  below = IsPartitionPoint-from_clause (is_below c.args.key.now) c.args.edits.now
      c.partition_point-start.result c.partition_point-start.ensures.partitioned
      (parted_below c.args.key.now c.args.edits.now c.requires.rising)
      (λ a r f' k. search (rules, of_calls));
  up_to = IsPartitionPoint-from_clause (is_up_to c.args.key.now) c.args.edits.now
      c.partition_point-end.result c.partition_point-end.ensures.partitioned
      (parted_up_to c.args.key.now c.args.edits.now c.requires.rising)
      (λ a r f' k. search (rules, of_calls));
}

pub returns-clause-order : goal.returns-clause-order
returns-clause-order c =
    in_order c.args.edits.now c.args.key.now c.partition_point-start.result
    c.partition_point-end.result (places (goal.at.returns-clause-order c).After-partition_point-end)

pub returns-clause-before : goal.returns-clause-before
returns-clause-before c =
    below_are c.args.edits.now c.args.key.now c.partition_point-start.result
    c.partition_point-end.result
    (places (goal.at.returns-clause-before c).After-partition_point-end)

pub returns-clause-own : goal.returns-clause-own
returns-clause-own c =
    own_are c.args.edits.now c.args.key.now c.partition_point-start.result
    c.partition_point-end.result (places (goal.at.returns-clause-own c).After-partition_point-end)

pub returns-clause-after : goal.returns-clause-after
returns-clause-after c =
    above_are c.args.edits.now c.args.key.now c.partition_point-start.result
    c.partition_point-end.result (places (goal.at.returns-clause-after c).After-partition_point-end)
