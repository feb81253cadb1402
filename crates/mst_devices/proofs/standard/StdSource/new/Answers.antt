use Rattle.std.proofs.Common.{rules, refl}
use Rattle.mst_devices.proofs.Readers.{all_given}
use Rattle.mst_devices.proofs.standard.StdSource.new.Goals as goal

pub returns-clause-fresh : goal.returns-clause-fresh
returns-clause-fresh g c = search rules

pub returns-clause-whole : goal.returns-clause-whole
returns-clause-whole g c = λ xs given last known few gave none. all_given xs given _ last refl known
    few gave none
