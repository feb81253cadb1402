use Rattle.mst_batch.proofs.Names.{◌<◌, arith, nat_tests}
use Rattle.mst_node.proofs.FirstWords.{chunks-less}
use Rattle.mst_node.proofs.ReadIsSpelled.{bytes-at}
use Rattle.mst_batch.proofs.opening.begins_before.Goals as goal

pub returns-in-Some-first_chunk : goal.returns-in-Some-first_chunk
returns-in-Some-first_chunk c = record {
  less = λ yes.
      let below : c.from_be_bytes.result < c.from_be_bytes-in-Some-first_chunk.result =
      grind (arith, nat_tests, yes) in
      chunks-less c.args.one.now c.args.other.now c.in-Some.first.now
      c.in-Some-first_chunk.second.now c.from_be_bytes.result
      c.from_be_bytes-in-Some-first_chunk.result c.in-Some.ensures.cases
      c.in-Some-first_chunk.ensures.cases
      (bytes-at c.args.one.now (λ i. omega (arith, c.type_inv.one i)))
      (bytes-at c.args.other.now (λ i. omega (arith, c.type_inv.other i)))
      c.from_be_bytes.ensures c.from_be_bytes-in-Some-first_chunk.ensures below;
}
