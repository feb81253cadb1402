use Rattle.mst_sharded_script.proofs.Names.{refl}
use Rattle.mst_sharded_script.proofs.asking.get.Goals as goal

pub returns : goal.returns
returns g c = record {
  gets = (
    c.get-found.new.self,
    record {
      found = c.get-found.result;
      told = refl;
      answers = c.get-found.ensures.answers;
      once = c.get-found.ensures.once;
      directory = c.get-found.ensures.directory;
    },
    c.free.ensures,
  );
}
