use Rattle.mst_c.proofs.Names.{rules}
use Rattle.mst_c.proofs.Listing.{range_few}
use Rattle.mst_c.proofs.pass_box.PassBox.range.Goals as goal

pub returns-in-Free-clause-few : goal.returns-in-Free-clause-few
returns-in-Free-clause-few c = search (rules, range_few)

pub returns-in-Pinned-clause-few : goal.returns-in-Pinned-clause-few
returns-in-Pinned-clause-few c = search (rules, range_few)
