use Rattle.mst_key.proofs.Names.{ap, ◌∙◌, length, arith, length-sha256}
use Rattle.mst_key.proofs.Zeros.{zeros_few}
use Rattle.mst_key.proofs.layer.layer_of.Goals as goal

pub returns-clause-range : goal.returns-clause-range
returns-clause-range c =
    omega (
      arith,
      c.zeros_of_digest.ensures.zeros,
      zeros_few c.args.format c.digest-digest.result
          (ap length c.digest-digest.ensures ∙ length-sha256 c.args.key.now),
    )
