use Rattle.mst_store.proofs.Lawful.{enough_free, too_few_free}
use Rattle.mst_store.proofs.laws.free_rows_laws.Goals as goal

pub returns-clause-enough : goal.returns-clause-enough
returns-clause-enough c = enough_free

pub returns-clause-too_few : goal.returns-clause-too_few
returns-clause-too_few c = too_few_free
