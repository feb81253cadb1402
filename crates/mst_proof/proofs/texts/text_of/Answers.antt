use Rattle.mst_proof.proofs.Names.{sym, subst, arith, IsBytes, bytes-at}
use Rattle.mst_proof.proofs.Frames.{bytes_take, bytes_drop}
use Rattle.mst_proof.proofs.texts.text_of.Goals as goal

pub returns-else-rest-size-clause-bytes : goal.returns-else-rest-size-clause-bytes
returns-else-rest-size-clause-bytes c =
    let b = bytes-at c.args.bytes.now (λ i. omega (arith, c.type_inv.bytes i)) in
    subst IsBytes (sym c.split_at.ensures.front)
    (bytes_take _ _ (bytes_take _ _ (bytes_drop 4 c.args.bytes.now b)))
