use Rattle.mst_path.proofs.Names.{refl, PartsStand, BothStand}
use Rattle.mst_path.proofs.lemmas.rows.CopyRows.{still_writable}
use Rattle.mst_path.proofs.lemmas.steps.Sides.{upper_stands, row_still_old, both_made}
use Rattle.mst_path.proofs.split.both_sides.Given.{Over}
use Rattle.mst_path.proofs.split.both_sides.Goals.{After-side-lower}
use Rattle.mst_path.proofs.split.both_sides.Goals as goal

-- ---- the lower side is made

module _ (g : Over) (c : goal.After-side-lower g)
    (b : BothStand c.args.format (g.R.Rows.content c.args.rows.now) c.args.desk.now c.args.row
    c.args.left.now c.args.right.now) where
  abbrev upper_parts : PartsStand c.args.format (g.R.Rows.content c.side-lower.new.rows)
      c.side-lower.new.desk c.args.right.now
  upper_parts = upper_stands c.args.format _ _ _ _ _ _ _ b _ _ (c.side-lower.ensures.made b.lower)

pub side-upper-requires-clause-parts : goal.side-upper-requires-clause-parts
side-upper-requires-clause-parts g c =
    upper_parts g (goal.at.side-upper-requires-clause-parts g c).After-side-lower c.requires.parts

pub side-upper-requires-clause-ready : goal.side-upper-requires-clause-ready
side-upper-requires-clause-ready g c =
    still_writable _ _ _ _ _ _ (c.side-lower.ensures.made c.requires.parts.lower).moves
    c.side-lower.ensures.beside.0 c.requires.ready

-- ---- both are made

pub kill-requires : goal.kill-requires
kill-requires g c =
    let b = c.requires.parts in
    record {
      born = row_still_old c.args.format _ _ _ _ _ _ _ b _ _
          (c.side-lower.ensures.made b.lower) _ _ _ _
          (c.side-upper.ensures.made
          (upper_parts g (goal.at.kill-requires g c).After-side-lower b));
    }

pub returns-clause-made : goal.returns-clause-made
returns-clause-made g c b =
    both_made c.args.format _ _ _ _ _ _ _ b _ _ (c.side-lower.ensures.made b.lower) _ _ _ _
    (c.side-upper.ensures.made
    (upper_parts g (goal.at.returns-clause-made g c).After-side-lower b)) _ c.kill.ensures.dead
    _ refl
