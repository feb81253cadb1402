use Rattle.mst_c_blocks.proofs.Names.{◌≡◌, List, rules, refl, Edit}
use Rattle.mst_c_blocks.proofs.BlocksMade.{made_ok, made_err}
use Rattle.mst_c_blocks.proofs.making.make_block.Goals as goal

-- the block is made
pub returns-in-Ok-made : goal.returns-in-Ok-made
returns-in-Ok-made c =
    let a = c.apply-writer in let given : List Edit = c.as_slice.result.now in
    let same : given ≡ c.args.packed.now = search rules in
    record {
      makes = (
        a.result.0,
        refl,
        made_ok c.args.packed.now given c.args.writer a.result.0 a.result.1 c.in-Ok-made.number same
            c.in-Ok-made.is a.ensures.ok a.ensures.number a.ensures.more,
      );
    }

-- or refused
pub returns : goal.returns
returns c =
    let a = c.apply-writer in let given : List Edit = c.as_slice.result.now in
    let same : given ≡ c.args.packed.now = search rules in
    let refused = made_err c.args.packed.now given c.args.writer a.result.0 a.result.1
    c.in-Err-made.fault same c.in-Err-made.is a.ensures.err a.ensures.same in
    record { makes = (a.result.0, refl, refused.0, refused.1) }
