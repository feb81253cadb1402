use Rattle.mst_script.proofs.Ends.{passes_freed}
use Rattle.mst_script.proofs.passes.Passes.release_all.Goals as goal

pub settle-requires : goal.settle-requires
settle-requires g c =
    record {
      whole = passes_freed c.args.self.now c.unpin_all.new.self c.unpin_all.ensures.freed
          c.requires.whole;
    }

pub returns : goal.returns
returns g c =
    record {
      released =
          record {
            s = c.unpin_all.new.self;
            freed = c.unpin_all.ensures.freed;
            settled =
                c.settle.ensures.settled;
          };
    }
