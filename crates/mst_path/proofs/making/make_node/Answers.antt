use Rattle.mst_path.proofs.Names.{◌≡◌, ◌∷◌, [], length, refl, ◌∙◌, arith, count_by-le-length, is_free, RowsAreWritable, ahead, Copied, PartsStand}
use Rattle.mst_path.proofs.lemmas.rows.CopyRows.{still_writable}
use Rattle.mst_path.proofs.lemmas.steps.Seams.{ahead_length, ahead_min}
use Rattle.mst_path.proofs.lemmas.steps.Whole.{Begun, begun_by, begins_copying, front_rest, made}
use Rattle.mst_path.proofs.making.make_node.Given.{Over}
use Rattle.mst_path.proofs.making.make_node.Goals.{After-begin-writer, After-move_run}
use Rattle.mst_path.proofs.making.make_node.Goals as goal

-- ---- the node is begun

module _ (g : Over) (c : goal.After-begin-writer g) where
  begun : Begun c.args.format c.begin-writer.result (g.R.Rows.content c.args.rows.now)
      c.args.desk.now c.begin-writer.new.desk
  begun = begun_by c.args.format c.begin-writer.ensures.takes c.begin-writer.ensures.written
      (g.R.Rows.content c.args.rows.now)

  one_ahead : length (ahead c.begin-writer.result.next) ≡ 1
  one_ahead =
      (ahead_length c.begin-writer.result.next c.begin-writer.result.left
      c.begin-writer.ensures.writer.reserved).1
      (omega (arith, c.begin-writer.ensures.node, c.requires.some))

  ready : RowsAreWritable c.begin-writer.new.desk.lives (g.R.Rows.blank c.args.rows.now)
  ready = still_writable c.args.desk.now c.begin-writer.new.desk
      (c.begin-writer.result.head ∷ ahead c.begin-writer.result.next) [] _ _ begun.moves refl
      c.requires.ready

pub move_run-requires-clause-copying : goal.move_run-requires-clause-copying
move_run-requires-clause-copying g c = (
  c.args.format,
  begins_copying c.args.format c.requires.parts
      (begun g (goal.at.move_run-requires-clause-copying g c).After-begin-writer),
)

pub move_run-requires-clause-room : goal.move_run-requires-clause-room
move_run-requires-clause-room g c =
    let at = (goal.at.move_run-requires-clause-room g c).After-begin-writer in
    omega (
      arith,
      (begun g at).moves.room,
      one_ahead g at,
      c.begin-writer.ensures.node,
      c.requires.room,
    )

pub move_run-requires-clause-ready : goal.move_run-requires-clause-ready
move_run-requires-clause-ready g c =
    ready g (goal.at.move_run-requires-clause-ready g c).After-begin-writer

-- ---- the front is copied

module _ (g : Over) (c : goal.After-move_run g)
    (p : PartsStand c.args.format (g.R.Rows.content c.args.rows.now) c.args.desk.now
    c.args.parts.now)
    (b : Begun c.args.format c.begin-writer.result (g.R.Rows.content c.args.rows.now)
    c.args.desk.now c.begin-writer.new.desk) where
  copied : Copied c.args.format c.begin-writer.result c.move_run.new.writer
      (g.R.Rows.content c.args.rows.now) (g.R.Rows.content c.move_run.new.rows)
      c.begin-writer.new.desk c.move_run.new.desk [] p.front
  unfolding begins_copying
  copied = (c.move_run.ensures.copied c.args.format (begins_copying c.args.format p b)).1

pub finish_node-requires-clause-rest : goal.finish_node-requires-clause-rest
finish_node-requires-clause-rest g c =
    let at = goal.at.finish_node-requires-clause-rest g c in
    let b = begun g at.After-begin-writer in (
      c.args.format,
      front_rest c.args.format c.requires.parts b
          (copied g at.After-move_run c.requires.parts b) c.move_run.ensures.node.3,
    )

pub finish_node-requires-clause-room : goal.finish_node-requires-clause-room
finish_node-requires-clause-room g c =
    let at = goal.at.finish_node-requires-clause-room g c in
    let b = begun g at.After-begin-writer in
    let k = copied g at.After-move_run c.requires.parts b in
    let few_ahead =
    (ahead_length c.move_run.new.writer.next c.move_run.new.writer.left
    c.move_run.ensures.writer.reserved).0 in
    omega (
      arith,
      b.moves.room,
      one_ahead g at.After-begin-writer,
      c.begin-writer.ensures.node,
      c.requires.room,
      k.moves.room,
      k.counted,
      c.requires.parts.front_run.counted,
      few_ahead,
      c.move_run.ensures.node.2,
    )

pub finish_node-requires-clause-ready : goal.finish_node-requires-clause-ready
finish_node-requires-clause-ready g c =
    let at = goal.at.finish_node-requires-clause-ready g c in
    let k = copied g at.After-move_run c.requires.parts (begun g at.After-begin-writer) in
    still_writable c.begin-writer.new.desk c.move_run.new.desk k.taken _ _ _ k.moves
    c.move_run.ensures.beside.0 (ready g at.After-begin-writer)

pub returns-clause-made : goal.returns-clause-made
returns-clause-made g c = λ p.
    let at = goal.at.returns-clause-made g c in
    let b = begun g at.After-begin-writer in
    let k = copied g at.After-move_run p b in
    made c.args.format p b k c.move_run.ensures.node.3
    (c.finish_node.ensures.finished c.args.format
    (front_rest c.args.format p b k c.move_run.ensures.node.3))
    (c.move_run.ensures.node.0 ∙ c.begin-writer.ensures.node.0)
    (omega (arith, c.move_run.ensures.node.2, c.begin-writer.ensures.node.2))
    (one_ahead g at.After-begin-writer)
    (ahead_min c.move_run.new.writer.next c.move_run.new.writer.left
    c.move_run.ensures.writer.reserved)

pub overflow_add-count : goal.overflow_add-count
overflow_add-count g c =
    omega (
      arith,
      c.requires.room,
      c.requires.ready.few,
      count_by-le-length is_free c.args.desk.now.lives,
    )

pub begin-writer-requires-clause-few : goal.begin-writer-requires-clause-few
begin-writer-requires-clause-few g c =
    omega (
      arith,
      c.requires.room,
      c.requires.ready.few,
      count_by-le-length is_free c.args.desk.now.lives,
    )
