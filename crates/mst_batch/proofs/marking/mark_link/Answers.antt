use Rattle.mst_batch.proofs.Names.{◌-◌, length, arith}
use Rattle.mst_batch.proofs.OneMark.{adds_one, grown_same, reaches}
use Rattle.mst_batch.proofs.marking.mark_link.Goals as goal

pub index_mut-requires : goal.index_mut-requires
index_mut-requires g c =
    omega (
      arith,
      c.lengthen.new.marks.ok.0,
      reaches c.args.marks.now.items c.lengthen.new.marks.items c.args.link
          (c.in_ok-lengthen.ensures.items),
    )

pub returns : goal.returns
returns g c =
    let old = c.args.marks.now.items in
    let grown = c.lengthen.new.marks.items in
    record {
      marks = adds_one old grown c.args.link (c.args.link - 1) (omega arith)
          (omega (arith, reaches old grown c.args.link c.in_ok-lengthen.ensures.items))
          (grown_same old grown (c.args.link - length old) c.in_ok-lengthen.ensures.items);
    }
