use Rattle.mst_sharded_proof.proofs.Names.{◌∙◌, sym}
use Rattle.mst_sharded_proof.proofs.Audited.{audited, directory_audited}
use Rattle.mst_sharded_proof.proofs.Auditing.{fails_audit, audit_faulty}
use Rattle.mst_sharded_proof.proofs.audit.audit_directory.Goals as goal

pub returns-clause-passed : goal.returns-clause-passed
returns-clause-passed c = (
  audited c.args.format c.args.root.now c.args.pairs.now _ c.keys_within_limits.ensures.keys
      c.judge.ensures.verdict,
  directory_audited c.args.format c.args.root.now c.args.pairs.now _ c.judge.ensures.verdict,
)

pub returns-clause-fails : goal.returns-clause-fails
returns-clause-fails c fault = (
  λ e. fails_audit c.args.format c.args.root.now c.args.pairs.now fault
      (sym c.judge.ensures.verdict ∙ e),
  λ is. c.judge.ensures.verdict
      ∙ audit_faulty c.args.format c.args.root.now c.args.pairs.now fault is,
)
