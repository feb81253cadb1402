use Rattle.mst_node.proofs.Names.{arith}
use Rattle.mst_node.proofs.ReadIsSpelled.{bytes-at}
use Rattle.mst_node.proofs.EntryPlaces.{none-some}
use Rattle.mst_node.proofs.Frames.{first_takes, first_again}
use Rattle.mst_node.proofs.framing.top_text.Goals as goal

pub returns-in-Some-clause-text : goal.returns-in-Some-clause-text
returns-in-Some-clause-text c =
    first_takes c.args.proof.now (c.in-Some.text.now, c.in-Some.field-0-1.now)
    c.in-Some.ensures.reading (bytes-at c.args.proof.now (λ i. omega (arith, c.type_inv.proof i)))

pub returns-in-None-clause-none : goal.returns-in-None-clause-none
returns-in-None-clause-none c = λ text f. none-some _ (text, f.rest) c.in-None.ensures.reading
    (first_again c.args.proof.now text f)
