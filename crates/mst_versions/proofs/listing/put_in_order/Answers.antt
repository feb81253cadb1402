use Rattle.mst_versions.proofs.Names.{rules}
use Rattle.std.proofs.lemmas.List.Sorted.{IsNonDecreasingBy-from_sort}
use Rattle.arrayvec.proofs.ArrayVecLemmas.{items-with_items}
use Rattle.mst_versions.proofs.listing.put_in_order.Goals as goal

pub returns-clause-sorted : goal.returns-clause-sorted
returns-clause-sorted c =
    rw (items-with_items c.args.versions.now c.sort_unstable.new.self (search rules))
    (IsNonDecreasingBy-from_sort (λ v. v) _ c.sort_unstable.ensures.sorted)
