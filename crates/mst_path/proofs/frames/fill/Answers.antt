use Rattle.mst_path.proofs.Names.{◌≡◌, ◌<◌, ℕ, zero, suc, refl, arith}
use Rattle.mst_path.proofs.lemmas.steps.Framing.{alone, filled}
use Rattle.mst_path.proofs.frames.fill.Goals as goal

pub returns-then-frame-eq0-clause-made : goal.returns-then-frame-eq0-clause-made
returns-then-frame-eq0-clause-made g c =
    λ p root piece f. alone c.args.format (g.R.Rows.content c.args.rows.now) c.args.desk.now
    c.args.frame.now p f c.args.seam.now root piece c.if-frame-eq0.true

some : (n : ℕ) → (n ≡ 0 → ⊥) → 0 < n
some zero no_zero = absurd (no_zero refl)
some (suc n) no_zero = omega arith

pub returns-clause-made : goal.returns-clause-made
returns-clause-made g c = λ p root piece f.
    filled c.args.format (g.R.Rows.content c.args.rows.now) c.args.desk.now c.args.frame.now p f
    (g.R.Rows.content c.make_node.new.rows) c.make_node.new.desk c.make_node.result
    (some _ c.if-frame-eq0.false)
    (c.make_node.ensures.made (record {
      front = f.front;
      behind = f.behind;
      front_run = f.front_run;
      seam = p;
      seam_at = root;
      seam_piece = piece;
      back = f.back;
      tail = f.tail;
      back_run = f.back_run;
      once = λ x. omega (arith, f.once x);
    }))
