use Rattle.mst_node.proofs.Names.{arith}
use Rattle.mst_node.proofs.FirstWords.{chunks-less, chunks-greater}
use Rattle.mst_node.proofs.ReadIsSpelled.{bytes-at}
use Rattle.mst_node.proofs.order.first_words.Goals as goal

pub returns-in-Some-first_chunk-clause-less : goal.returns-in-Some-first_chunk-clause-less
returns-in-Some-first_chunk-clause-less c =
    chunks-less c.args.one.now c.args.other.now c.in-Some.first.now
    c.in-Some-first_chunk.second.now c.from_be_bytes.result
    c.from_be_bytes-in-Some-first_chunk.result c.in-Some.ensures.cases
    c.in-Some-first_chunk.ensures.cases
    (bytes-at c.args.one.now (λ i. omega (arith, c.type_inv.one i)))
    (bytes-at c.args.other.now (λ i. omega (arith, c.type_inv.other i))) c.from_be_bytes.ensures
    c.from_be_bytes-in-Some-first_chunk.ensures

pub returns-in-Some-first_chunk-clause-greater : goal.returns-in-Some-first_chunk-clause-greater
returns-in-Some-first_chunk-clause-greater c =
    chunks-greater c.args.one.now c.args.other.now c.in-Some.first.now
    c.in-Some-first_chunk.second.now c.from_be_bytes.result
    c.from_be_bytes-in-Some-first_chunk.result c.in-Some.ensures.cases
    c.in-Some-first_chunk.ensures.cases
    (bytes-at c.args.one.now (λ i. omega (arith, c.type_inv.one i)))
    (bytes-at c.args.other.now (λ i. omega (arith, c.type_inv.other i))) c.from_be_bytes.ensures
    c.from_be_bytes-in-Some-first_chunk.ensures
