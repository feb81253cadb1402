use Rattle.mst_path.proofs.Names.{◌≡◌, ◌<◌, ◌≤◌, ◌+◌, ℕ, Bool, Some, ◌∷◌, [], ◌++◌, length, IfSome, IsTrue, refl, sym, ◌∙◌, subst, arith, count_by-le-length, is_free, free_count, times, Placed, used, RowsAreWritable, Moves, Piece, ahead, IsRootOf, IsWritten, Copied, PartsStand, in_parts}
use Rattle.mst_path.proofs.lemmas.rows.Moving.{moves_takes}
use Rattle.mst_path.proofs.lemmas.rows.CopyRows.{still_writable, blank_taken, blank_ahead, next_some, small_link}
use Rattle.mst_path.proofs.lemmas.steps.Seams.{ahead_length, ahead_min}
use Rattle.mst_path.proofs.lemmas.steps.Whole.{Begun, begun_by, begins_copying, child_later, with_out}
use Rattle.mst_path.proofs.lemmas.steps.MadeWithEntry.{rest_three, made_with}
use Rattle.mst_path.proofs.lemmas.trees.Made.{piece_alive}
use Rattle.mst_path.proofs.making.make_node_with.Given.{Over}
use Rattle.mst_path.proofs.making.make_node_with.Goals.{After-begin-writer, After-move_run, After-entry}
use Rattle.mst_path.proofs.making.make_node_with.Goals as goal

-- ---- the node is begun

module _ (g : Over) (c : goal.After-begin-writer g) where
  begun : Begun c.args.format c.begin-writer.result (g.R.Rows.content c.args.rows.now)
      c.args.desk.now c.begin-writer.new.desk
  begun = begun_by c.args.format c.begin-writer.ensures.takes c.begin-writer.ensures.written
      (g.R.Rows.content c.args.rows.now)

  one_ahead : length (ahead c.begin-writer.result.next) ≡ 1
  one_ahead =
      (ahead_length c.begin-writer.result.next c.begin-writer.result.left
      c.begin-writer.ensures.writer.reserved).1 (omega (arith, c.begin-writer.ensures.node))

  ready : RowsAreWritable c.begin-writer.new.desk.lives (g.R.Rows.blank c.args.rows.now)
  ready = still_writable c.args.desk.now c.begin-writer.new.desk
      (c.begin-writer.result.head ∷ ahead c.begin-writer.result.next) [] _ _ begun.moves refl
      c.requires.ready

pub move_run-requires-clause-copying : goal.move_run-requires-clause-copying
move_run-requires-clause-copying g c = (
  c.args.format,
  begins_copying c.args.format c.requires.parts.0
      (begun g (goal.at.move_run-requires-clause-copying g c).After-begin-writer),
)

pub move_run-requires-clause-room : goal.move_run-requires-clause-room
move_run-requires-clause-room g c =
    let at = (goal.at.move_run-requires-clause-room g c).After-begin-writer in
    omega (
      arith,
      (begun g at).moves.room,
      one_ahead g at,
      c.begin-writer.ensures.node,
      c.requires.room,
    )

pub move_run-requires-clause-ready : goal.move_run-requires-clause-ready
move_run-requires-clause-ready g c =
    ready g (goal.at.move_run-requires-clause-ready g c).After-begin-writer

-- ---- the front is copied

module _ (g : Over) (c : goal.After-move_run g) where
  some_left : 0 < c.move_run.new.writer.left
  some_left = omega (arith, c.begin-writer.ensures.node, c.move_run.ensures.node.2)

  next_ahead : length (ahead c.move_run.new.writer.next) ≡ 1
  next_ahead =
      (ahead_length c.move_run.new.writer.next c.move_run.new.writer.left
      c.move_run.ensures.writer.reserved).1 some_left

module _ (g : Over) (c : goal.After-move_run g)
    (p : PartsStand c.args.format (g.R.Rows.content c.args.rows.now) c.args.desk.now
    c.args.parts.now)
    (b : Begun c.args.format c.begin-writer.result (g.R.Rows.content c.args.rows.now)
    c.args.desk.now c.begin-writer.new.desk) where
  copied : Copied c.args.format c.begin-writer.result c.move_run.new.writer
      (g.R.Rows.content c.args.rows.now) (g.R.Rows.content c.move_run.new.rows)
      c.begin-writer.new.desk c.move_run.new.desk [] p.front
  unfolding begins_copying
  copied = (c.move_run.ensures.copied c.args.format (begins_copying c.args.format p b)).1

  room_left : length (ahead c.begin-writer.result.next) ≡ 1 → c.args.parts.now.back.count
      ≤ free_count c.move_run.new.desk.lives
  room_left one =
      omega (
        arith,
        one,
        b.moves.room,
        c.begin-writer.ensures.node,
        c.requires.room,
        copied.moves.room,
        copied.counted,
        p.front_run.counted,
        next_ahead g c,
        c.move_run.ensures.node.2,
      )

  still_ready : RowsAreWritable c.begin-writer.new.desk.lives (g.R.Rows.blank c.args.rows.now)
      → RowsAreWritable c.move_run.new.desk.lives (g.R.Rows.blank c.move_run.new.rows)
  still_ready = still_writable c.begin-writer.new.desk c.move_run.new.desk copied.taken _ _ _
      copied.moves c.move_run.ensures.beside.0

pub entry-requires-clause-room : goal.entry-requires-clause-room
entry-requires-clause-room g c =
    let at = goal.at.entry-requires-clause-room g c in
    let room = room_left g at.After-move_run c.requires.parts.0 (begun g at.After-begin-writer)
    (one_ahead g at.After-begin-writer) in
    λ more. omega (arith, more, room, c.begin-writer.ensures.node, c.move_run.ensures.node.2)

pub entry-requires-clause-few : goal.entry-requires-clause-few
entry-requires-clause-few g c =
    let at = goal.at.entry-requires-clause-few g c in
    (still_ready g at.After-move_run c.requires.parts.0 (begun g at.After-begin-writer)
    (ready g at.After-begin-writer)).few

pub entry-requires-clause-child : goal.entry-requires-clause-child
entry-requires-clause-child g c =
    omega (
      arith,
      c.requires.parts.2.link,
      small_link c.args.desk.now c.requires.parts.1
          (piece_alive c.args.format c.requires.parts.3) c.requires.ready.few,
    )

-- ---- the new entry is written

module _ (g : Over) (c : goal.After-entry g) where
  moves_entry : Moves c.move_run.new.desk c.entry.new.desk (ahead c.entry.new.self.next) []
  moves_entry = moves_takes c.move_run.new.desk c.entry.new.desk (ahead c.entry.new.self.next)
      c.entry.ensures.takes

  next_row : (r : ℕ) × (c.move_run.new.writer.next ≡ Some r)
  next_row = next_some c.move_run.new.writer.next c.move_run.new.writer.left
      c.move_run.ensures.writer.reserved
      (omega (arith, c.begin-writer.ensures.node, c.move_run.ensures.node.2))

  module _ (p : PartsStand c.args.format (g.R.Rows.content c.args.rows.now) c.args.desk.now
      c.args.parts.now)
      (b : Begun c.args.format c.begin-writer.result (g.R.Rows.content c.args.rows.now)
      c.args.desk.now c.begin-writer.new.desk)
      (k : Copied c.args.format c.begin-writer.result c.move_run.new.writer
      (g.R.Rows.content c.args.rows.now) (g.R.Rows.content c.move_run.new.rows)
      c.begin-writer.new.desk c.move_run.new.desk [] p.front) (q : Placed)
      (root : IsRootOf c.args.format q c.args.child.now)
      (stands : Piece c.args.format (g.R.Rows.content c.args.rows.now) c.args.desk.now q)
      (apart : (x : ℕ) → in_parts c.args.format p x + times x (used q) ≤ 1) where
    entry_written : IsWritten c.args.format c.entry.new.self (g.R.Rows.content c.entry.new.rows)
        (k.copies ++ record {
          at = next_row.0;
          child = q;
          key = c.args.key.now;
          value =
              c.args.value.now;
        } ∷ [])
    entry_written = c.entry.ensures.written c.args.format k.copies q next_row.0 next_row.1
        k.going.written root
        (child_later c.args.format p b k c.move_run.ensures.node.3 stands apart).rows
        (with_out c.args.format p b k c.move_run.ensures.node.3 next_row.1 stands apart)

pub finish_node-requires-clause-rest : goal.finish_node-requires-clause-rest
finish_node-requires-clause-rest g c =
    let at = goal.at.finish_node-requires-clause-rest g c in
    let entry = at.After-entry in
    let parts = c.requires.parts in
    let b = begun g at.After-begin-writer in
    let k = copied g at.After-move_run parts.0 b in (
      c.args.format,
      rest_three c.args.format parts.0 b k c.move_run.ensures.node.3 c.args.key.now
          c.args.value.now (next_row g entry).1 parts.3 parts.4 (moves_entry g entry)
          c.entry.ensures.keeps (entry_written g entry parts.0 b k parts.1 parts.2 parts.3 parts.4)
          c.entry.ensures.node.3,
    )

pub finish_node-requires-clause-room : goal.finish_node-requires-clause-room
finish_node-requires-clause-room g c =
    let at = goal.at.finish_node-requires-clause-room g c in
    let room = room_left g at.After-move_run c.requires.parts.0 (begun g at.After-begin-writer)
    (one_ahead g at.After-begin-writer) in
    let few_ahead =
    (ahead_length c.entry.new.self.next c.entry.new.self.left c.entry.ensures.writer.reserved).0
    in
    omega (
      arith,
      room,
      c.begin-writer.ensures.node,
      c.move_run.ensures.node.2,
      (moves_entry g at.After-entry).room,
      few_ahead,
      c.entry.ensures.node.2,
    )

pub finish_node-requires-clause-ready : goal.finish_node-requires-clause-ready
finish_node-requires-clause-ready g c =
    let at = goal.at.finish_node-requires-clause-ready g c in
    let before = still_ready g at.After-move_run c.requires.parts.0 (begun g at.After-begin-writer)
    (ready g at.After-begin-writer) in
    still_writable c.move_run.new.desk c.entry.new.desk (ahead c.entry.new.self.next) [] _ _
    (moves_entry g at.After-entry) c.entry.ensures.beside.0 before

pub finish_node-requires-clause-blank : goal.finish_node-requires-clause-blank
finish_node-requires-clause-blank g c =
    let at = goal.at.finish_node-requires-clause-blank g c in
    let before = still_ready g at.After-move_run c.requires.parts.0 (begun g at.After-begin-writer)
    (ready g at.After-begin-writer) in
    let taken = blank_taken c.move_run.new.desk c.entry.new.desk (ahead c.entry.new.self.next) []
    (moves_entry g at.After-entry) (g.R.Rows.blank c.move_run.new.rows) before.free in
    subst (λ (b : ℕ → Bool). IfSome c.entry.new.self.next (λ r. IsTrue (b r)))
    (sym c.entry.ensures.beside.0)
    (blank_ahead c.entry.new.self (g.R.Rows.blank c.move_run.new.rows) taken)

pub returns-clause-made : goal.returns-clause-made
unfolding rest_three
returns-clause-made g c = λ p q root stands apart.
    let at = goal.at.returns-clause-made g c in
    let entry = at.After-entry in
    let b = begun g at.After-begin-writer in
    let k = copied g at.After-move_run p b in
    let written = entry_written g entry p b k q root stands apart in
    let rest = rest_three c.args.format p b k c.move_run.ensures.node.3 c.args.key.now
    c.args.value.now (next_row g entry).1 stands apart (moves_entry g entry)
    c.entry.ensures.keeps written c.entry.ensures.node.3 in
    made_with c.args.format p b k c.move_run.ensures.node.3 c.args.key.now c.args.value.now
    (next_row g entry).1 stands apart (moves_entry g entry) c.entry.ensures.keeps written
    c.entry.ensures.node.3 (c.finish_node.ensures.finished c.args.format rest)
    (c.entry.ensures.node.0 ∙ c.move_run.ensures.node.0 ∙ c.begin-writer.ensures.node.0)
    (omega (
      arith,
      c.entry.ensures.node.2,
      c.move_run.ensures.node.2,
      c.begin-writer.ensures.node.2,
    ))
    (one_ahead g at.After-begin-writer)
    (next_ahead g at.After-move_run)
    (ahead_min c.entry.new.self.next c.entry.new.self.left c.entry.ensures.writer.reserved)

pub overflow_add-count : goal.overflow_add-count
overflow_add-count g c =
    omega (
      arith,
      c.requires.room,
      c.requires.ready.few,
      count_by-le-length is_free c.args.desk.now.lives,
    )

pub overflow_add-count-2 : goal.overflow_add-count-2
overflow_add-count-2 g c =
    omega (
      arith,
      c.requires.room,
      c.requires.ready.few,
      count_by-le-length is_free c.args.desk.now.lives,
    )

pub begin-writer-requires-clause-few : goal.begin-writer-requires-clause-few
begin-writer-requires-clause-few g c =
    omega (
      arith,
      c.requires.room,
      c.requires.ready.few,
      count_by-le-length is_free c.args.desk.now.lives,
    )
