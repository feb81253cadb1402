use Rattle.mst_path.proofs.Names.{◌≡◌, ◌-◌, ℕ, Bool, IsTrue, [], ◌∷◌, ◌++◌, length, Option, IsSome, sym, ◌∙◌, ap, subst, arith, Format, Content, part_at, keyed_links, times, rows_of, HasRows, KeepsBut, Moves, OldPiece, ahead, IsWritten, IsRootOf, Copied, Rest, Finished}
use Rattle.mst_path.proofs.lemmas.rows.CopyRows.{small_link, still_writable, old_alive, links_there, ends_are, pair_there, next_some}
use Rattle.mst_path.proofs.lemmas.steps.Seams.{first_back, no_length, seam_out, Seamed, with_seam, back_copying, tail_stays, back_head_out, with_back}
use Rattle.mst_path.proofs.lemmas.steps.Finishing.{none_ahead}
use Rattle.mst_path.proofs.lemmas.trees.Made.{piece_alive}
use Rattle.mst_path.proofs.making.finish_with_back.Given.{Over}
use Rattle.mst_path.proofs.making.finish_with_back.Goals.{After-move_entry, After-move_run, After-root_at-tail}
use Rattle.mst_path.proofs.making.finish_with_back.Goals as goal

-- ---- the first entry at the back is moved after the seam

pub links-links-requires : goal.links-links-requires
links-links-requires g c =
    let format = c.requires.rest.0 in
    record {
      there = links_there _ _ _ _ _ (first_back format _ _ _ _ c.requires.rest.1
          c.requires.some).row;
    }

pub move_entry-requires-clause-child : goal.move_entry-requires-clause-child
move_entry-requires-clause-child g c =
    let format = c.requires.rest.0 in
    omega (
      arith,
      c.requires.rest.1.seam_at.link,
      small_link c.args.desk.now c.requires.rest.1.seam
          (piece_alive format c.requires.rest.1.seam_piece) c.requires.ready.few,
    )

pub move_entry-requires-clause-old : goal.move_entry-requires-clause-old
move_entry-requires-clause-old g c =
    let format = c.requires.rest.0 in
    (first_back format _ _ _ _ c.requires.rest.1 c.requires.some).old

pub move_entry-requires-clause-entry : goal.move_entry-requires-clause-entry
move_entry-requires-clause-entry g c =
    let format = c.requires.rest.0 in
    subst (λ (x : Content). IsSome (part_at keyed_links x (c.args.parts.now.back.first - 1)))
    (sym (ap g.R.Rows.content c.links-links.ensures.same))
    (links_there _ _ _ _ _ (first_back format _ _ _ _ c.requires.rest.1 c.requires.some).row)

module _ (g : Over) (c : goal.After-move_entry g) (format : Format)
    (r : Rest format c.args.writer (g.R.Rows.content c.args.rows.now) c.args.desk.now
    c.args.parts.now) where
  seamed : Seamed format c.args.writer c.move_entry.new.writer (g.R.Rows.content c.args.rows.now)
      (g.R.Rows.content c.move_entry.new.rows) c.args.desk.now c.move_entry.new.desk
      c.args.parts.now r c.links-links.result.next
  seamed =
      let b = first_back format _ _ _ _ r c.requires.some in
      let read : g.R.Rows.content c.links-links.new.self ≡ g.R.Rows.content c.args.rows.now =
      ap g.R.Rows.content c.links-links.ensures.same in
      let links = ends_are _ c.links-links.result _ _ _ _ b.row c.links-links.ensures.value in
      let next = next_some c.args.writer.next c.args.writer.left c.requires.writer.reserved
      (omega (arith, c.requires.left, c.requires.some)) in
      record {
        back = b;
        row = next.0;
        next_is = next.1;
        moves =
            subst (λ (x : ℕ). Moves c.args.desk.now c.move_entry.new.desk
            (ahead c.move_entry.new.writer.next) (x ∷ [])) b.link c.move_entry.ensures.moves;
        keeps =
            subst (λ (x : Content). KeepsBut (ahead c.args.writer.next) x
            (g.R.Rows.content c.move_entry.new.rows)) read c.move_entry.ensures.keeps;
        written =
            c.move_entry.ensures.written format r.ws r.seam next.0
            (b.entry.key, b.entry.value) next.1
            (pair_there _ _ _ _ _ (ap (λ (x : Content). x (c.args.parts.now.back.first - 1)) read
            ∙ b.row))
            (subst (λ (x : Content). IsWritten format c.args.writer x r.ws) (sym read)
            r.going.written)
            r.seam_at
            (subst (λ (x : Content). HasRows x (rows_of format r.seam)) (sym read)
            r.seam_piece.rows)
            (seam_out format _ _ _ _ r next.0 next.1);
        begins = links.1;
      }

pub move_run-requires-clause-copying : goal.move_run-requires-clause-copying
move_run-requires-clause-copying g c =
    let format = c.requires.rest.0 in (
      format,
      back_copying format
          (seamed g (goal.at.move_run-requires-clause-copying g c).After-move_entry format
          c.requires.rest.1) (c.args.parts.now.back.count - 1) (omega (arith, c.requires.some)),
    )

pub move_run-requires-clause-ready : goal.move_run-requires-clause-ready
move_run-requires-clause-ready g c =
    still_writable _ _ _ _ _ _ c.move_entry.ensures.moves
    (c.move_entry.ensures.beside.0 ∙ ap g.R.Rows.blank c.links-links.ensures.same)
    c.requires.ready

-- ---- the entries after it are moved

module _ (g : Over) (c : goal.After-move_run g) where
  same_head : c.move_run.new.writer.head ≡ c.args.writer.head
  same_head = c.move_run.ensures.node.3 ∙ c.move_entry.ensures.node.3

  same_layer : c.move_run.new.writer.layer ≡ c.args.writer.layer
  same_layer = c.move_run.ensures.node.0 ∙ c.move_entry.ensures.node.0

  none_left : c.move_run.new.writer.left ≡ 0
  none_left =
      omega (
        arith,
        c.move_run.ensures.node.2,
        c.move_entry.ensures.node.2,
        c.requires.left,
        c.requires.some,
      )

  all_written : (x : ℕ) → times x (ahead c.move_run.new.writer.next) ≡ 0
  all_written = none_ahead c.move_run.new.writer.next c.move_run.new.writer.left
      c.move_run.ensures.writer.reserved none_left

  module _ (format : Format)
      (r : Rest format c.args.writer (g.R.Rows.content c.args.rows.now) c.args.desk.now
      c.args.parts.now)
      (m : Seamed format c.args.writer c.move_entry.new.writer (g.R.Rows.content c.args.rows.now)
      (g.R.Rows.content c.move_entry.new.rows) c.args.desk.now c.move_entry.new.desk
      c.args.parts.now r c.links-links.result.next) where
    copied : Copied format c.move_entry.new.writer c.move_run.new.writer
        (g.R.Rows.content c.move_entry.new.rows) (g.R.Rows.content c.move_run.new.rows)
        c.move_entry.new.desk c.move_run.new.desk (with_seam format m) m.back.more
    unfolding back_copying
    copied =
        (c.move_run.ensures.copied format
        (back_copying format m (c.args.parts.now.back.count - 1)
        (omega (arith, c.requires.some)))).1

    tail : OldPiece format (g.R.Rows.content c.move_run.new.rows) c.move_run.new.desk r.tail
    tail = tail_stays format m copied same_head same_layer all_written

pub root_at-tail-requires : goal.root_at-tail-requires
root_at-tail-requires g c =
    let format = c.requires.rest.0 in
    let at = goal.at.root_at-tail-requires g c in
    let m = seamed g at.After-move_entry format c.requires.rest.1 in
    record {
      stands = (
        format,
        c.requires.rest.1.tail,
        c.requires.rest.1.back_run.tail_at,
        (tail g at.After-move_run format c.requires.rest.1 m).rows,
      );
    }

-- ---- the head is written

module _ (g : Over) (c : goal.After-root_at-tail g) (format : Format)
    (r : Rest format c.args.writer (g.R.Rows.content c.args.rows.now) c.args.desk.now
    c.args.parts.now) where
  root : OldPiece format (g.R.Rows.content c.move_run.new.rows) c.move_run.new.desk r.tail
      → IsRootOf format r.tail c.root_at-tail.result
  root stays = c.root_at-tail.ensures.root format r.tail r.back_run.tail_at stays.rows

pub finish-requires-clause-writer : goal.finish-requires-clause-writer
finish-requires-clause-writer g c = c.move_run.ensures.writer

pub finish-requires-clause-all : goal.finish-requires-clause-all
finish-requires-clause-all g c =
    none_left g (goal.at.finish-requires-clause-all g c).After-move_run

pub finish-requires-clause-blank : goal.finish-requires-clause-blank
finish-requires-clause-blank g c =
    let same = ap g.R.Rows.blank c.root_at-tail.ensures.same ∙ c.move_run.ensures.beside.0
    ∙ c.move_entry.ensures.beside.0 ∙ ap g.R.Rows.blank c.links-links.ensures.same in
    subst (λ (h : ℕ). IsTrue (g.R.Rows.blank c.root_at-tail.new.rows h))
    (sym (same_head g (goal.at.finish-requires-clause-blank g c).After-move_run))
    (subst (λ (b : ℕ → Bool). IsTrue (b c.args.writer.head)) (sym same) c.requires.head)

pub finish-requires-clause-tail : goal.finish-requires-clause-tail
finish-requires-clause-tail g c =
    let format = c.requires.rest.0 in
    let r = c.requires.rest.1 in
    let at = goal.at.finish-requires-clause-tail g c in
    let seam = seamed g at.After-move_entry format r in
    let run = copied g at.After-move_run format r seam in
    let stays = tail g at.After-move_run format r seam in
    let link = (root g at.After-root_at-tail format r stays).link in
    omega (
      arith,
      link,
      small_link c.move_run.new.desk r.tail
          (λ x i. old_alive c.move_run.new.desk x (stays.old x i))
          (omega (arith, seam.moves.rows, run.moves.rows, c.requires.ready.few)),
    )

pub returns-clause-finished : goal.returns-clause-finished
returns-clause-finished g c = λ format r.
    let at = goal.at.returns-clause-finished g c in
    let run = at.After-move_run in
    let m = seamed g at.After-move_entry format r in
    let k = copied g run format r m in
    let stays = tail g run format r m in
    let tail_root = root g at.After-root_at-tail format r stays in
    let kept : g.R.Rows.content c.root_at-tail.new.rows ≡ g.R.Rows.content c.move_run.new.rows =
    ap g.R.Rows.content c.root_at-tail.ensures.same in
    let written =
    subst (λ (x : Content). IsWritten format c.move_run.new.writer x
    (with_seam format m ++ k.copies)) (sym kept) k.going.written in
    let tail_rows = subst (λ (x : Content). HasRows x (rows_of format r.tail)) (sym kept) stays.rows
    in
    subst (λ s. Finished format c.args.writer (g.R.Rows.content c.args.rows.now)
    (g.R.Rows.content c.finish.new.rows) c.args.desk.now s c.args.parts.now r c.finish.result)
    (sym c.finish.ensures.desk)
    (with_back format m k (same_head g run) (same_layer g run) (all_written g run)
    (g.R.Rows.content c.finish.new.rows) c.finish.result
    (c.finish.ensures.root format (with_seam format m ++ k.copies) r.tail written tail_root)
    (c.finish.ensures.stands format (with_seam format m ++ k.copies) r.tail written tail_root
    tail_rows (back_head_out format m k (same_head g run) (same_layer g run)
    (all_written g run)))
    (subst (λ (x : Content). KeepsBut (c.move_run.new.writer.head ∷ []) x
    (g.R.Rows.content c.finish.new.rows)) kept c.finish.ensures.keeps)
    c.requires.left
    (ap (λ (o : Option ℕ). length (ahead o)) m.next_is)
    (no_length c.move_run.new.writer.next c.move_run.new.writer.left
    c.move_run.ensures.writer.reserved (none_left g run)))

pub returns-clause-beside : goal.returns-clause-beside
returns-clause-beside g c = (
  c.finish.ensures.beside.0 ∙ ap g.R.Rows.blank c.root_at-tail.ensures.same
      ∙ c.move_run.ensures.beside.0 ∙ c.move_entry.ensures.beside.0
      ∙ ap g.R.Rows.blank c.links-links.ensures.same,
  c.finish.ensures.beside.1 ∙ ap g.R.Rows.kept c.root_at-tail.ensures.same
      ∙ c.move_run.ensures.beside.1 ∙ c.move_entry.ensures.beside.1
      ∙ ap g.R.Rows.kept c.links-links.ensures.same,
)
