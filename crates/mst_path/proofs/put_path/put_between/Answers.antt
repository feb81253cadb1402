use Rattle.mst_path.proofs.Names.{◌≡◌, ◌+◌, refl, ap, arith, EntryRun, PartsStand, TwoStand}
use Rattle.mst_path.proofs.lemmas.steps.NewEntry.{bare_parts, grown_as}
use Rattle.mst_path.proofs.put_path.put_between.Given.{Over}
use Rattle.mst_path.proofs.put_path.put_between.Goals.{After-no_run-2}
use Rattle.mst_path.proofs.put_path.put_between.Goals as goal

-- ---- there are no other entries

module _ (g : Over) (c : goal.After-no_run-2 g)
    (t : TwoStand c.args.format (g.R.Rows.content c.args.rows.now) c.args.desk.now c.args.lower.now
    c.args.upper.now) where
  abbrev parts : PartsStand c.args.format (g.R.Rows.content c.args.rows.now) c.args.desk.now
      (record {
        layer = c.args.layer;
        front = c.no_run.result;
        seam = c.args.upper.now;
        back =
            c.no_run-2.result;
        tail = 0;
      })
  parts = bare_parts c.args.format _ _ _ _ t c.args.layer c.no_run.result c.no_run-2.result
      c.no_run.ensures.none c.no_run-2.ensures.none

  none : c.no_run.result.count + c.no_run-2.result.count ≡ 0
  none =
      omega (
        arith,
        ap (λ (e : EntryRun). e.count) c.no_run.ensures.none,
        ap (λ (e : EntryRun). e.count) c.no_run-2.ensures.none,
      )

pub make_node_with-requires-clause-parts : goal.make_node_with-requires-clause-parts
make_node_with-requires-clause-parts g c =
    let t = c.requires.trees in (
      parts g (goal.at.make_node_with-requires-clause-parts g c).After-no_run-2 t,
      t.lower,
      t.lower_root,
      t.lower_piece,
      λ x. omega (arith, t.once x),
    )

pub make_node_with-requires-clause-room : goal.make_node_with-requires-clause-room
make_node_with-requires-clause-room g c =
    omega (
      arith,
      c.requires.room,
      none g (goal.at.make_node_with-requires-clause-room g c).After-no_run-2 c.requires.trees,
    )

pub returns-clause-made : goal.returns-clause-made
returns-clause-made g c t =
    let at = (goal.at.returns-clause-made g c).After-no_run-2 in
    grown_as c.args.format _ _ _ _ _ _ _ _ _ _ _ refl (λ x. omega arith)
    (omega (arith, none g at t))
    (c.make_node_with.ensures.made (parts g at t) t.lower t.lower_root t.lower_piece
    (λ x. omega (arith, t.once x)))
