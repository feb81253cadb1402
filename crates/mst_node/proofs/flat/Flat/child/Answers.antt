use Rattle.mst_node.proofs.Names.{◌≤◌, length, sym, ap, ◌∙◌, arith, rules, option_copied, seen}
use Rattle.mst_node.proofs.EntryPlaces.{child_before-at, child_before-end}
use Rattle.mst_node.proofs.flat.Flat.child.Goals as goal
use Rattle.mst_node.proofs.flat.Flat.child.Goals.{then-i-len, else-i-len}

pub returns : goal.returns
returns c =
    let n = c.args.self.now in
    elim c.if-i-len.branch [
      | then-i-len w ↦ record {
        child = c.copied.ensures ∙ ap option_copied w.child-is
            ∙ sym (child_before-at n.entries n.tail c.args.i (seen w.entry.result)
            w.entry.ensures.entry);
      }
      | else-i-len w ↦
          let past : length n.entries ≤ c.args.i = omega (arith, c.len.ensures.len) in
          record {
            child = c.copied.ensures ∙ ap option_copied w.child-is
                ∙ w.tail-child.ensures.tail ∙ sym (child_before-end n.entries n.tail c.args.i past);
          }
    ]

pub entry-requires : goal.entry-requires
entry-requires c = search rules
