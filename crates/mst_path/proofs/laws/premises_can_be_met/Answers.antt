use Rattle.mst_path.proofs.Names.{refl, ap, arith, times, numbers, times-append}
use Rattle.mst_path.proofs.lemmas.versions.Reached.{reached_old}
use Rattle.mst_path.proofs.laws.premises_can_be_met.Goals as goal

pub returns-clause-tree : goal.returns-clause-tree
returns-clause-tree c f m few = record { few = few; is = refl }

pub returns-clause-stands : goal.returns-clause-stands
returns-clause-stands c f content s at m settled has =
    (m, has.stands, reached_old s (numbers has.stands) settled has.rows)

pub returns-clause-numbers : goal.returns-clause-numbers
returns-clause-numbers c kept xs ys is v =
    let same = ap (times v) is in
    let left = times-append v xs ys in
    let right = times-append v ys xs in
    (λ i. omega (arith, same, left, right, i), λ i. omega (arith, same, left, right, i))
