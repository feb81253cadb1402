use Rattle.mst_path.proofs.Names.{◌≡◌, ◌+◌, ◌-◌, ℕ, Bool, [], ◌∷◌, ◌++◌, IfSome, IsSome, IsTrue, refl, sym, ◌∙◌, ap, subst, arith, Format, Content, part_at, keyed_links, link_of, rows_of, HasRows, KeepsBut, Moves, ahead, link_from, IsWritten, IsRootOf, Copying}
use Rattle.mst_path.proofs.lemmas.rows.CopyRuns.{Progress, Next, starts, ends, some_left, steps, next_run, link_is, link_less, row_there, row_old}
use Rattle.mst_path.proofs.lemmas.rows.CopyRows.{links_there, ends_are, pair_there, next_some, one_ahead, row_out, small_link, old_alive, still_writable, blank_taken, blank_ahead}
use Rattle.mst_path.proofs.copying.move_run.Given.{Over}
use Rattle.mst_path.proofs.copying.move_run.Goals.{In-loop, After-links-links, After-root_at-child}
use Rattle.mst_path.proofs.copying.move_run.Goals as goal

pub loop-init : goal.loop-init
loop-init g c = record {
  writer = c.requires.writer;
  left = omega arith;
  node = (refl, refl, refl);
  room = c.requires.room;
  ready = c.requires.ready;
  beside = (refl, refl);
  next = c.requires.blank;
  progress = λ format k. starts format k;
}

-- ---- the next entry

module _ (g : Over) (c : goal.In-loop g) (format : Format)
    (k : Copying format c.args.writer.now (g.R.Rows.content c.args.rows.now) c.args.desk.now
    c.args.from c.args.count) where
  next : Next format k c.loop.counter c.loop.writer (g.R.Rows.content c.loop.rows) c.loop.desk
      c.loop.link (c.loop.invariant.progress format k)
  next = some_left format k (c.loop.invariant.progress format k) c.loop-test.true

pub overflow_sub-row : goal.overflow_sub-row
overflow_sub-row g c =
    let format = c.requires.copying.0 in
    omega (
      arith,
      link_is format c.requires.copying.1
          (next g (goal.at.overflow_sub-row g c).In-loop format c.requires.copying.1),
    )

pub links-links-requires : goal.links-links-requires
links-links-requires g c =
    let format = c.requires.copying.0 in
    record {
      there =
          links_there _ _ _ _ _
          (row_there format c.requires.copying.1
          (next g (goal.at.links-links-requires g c).In-loop format c.requires.copying.1));
    }

-- ---- it is read

module _ (g : Over) (c : goal.After-links-links g) (format : Format)
    (k : Copying format c.args.writer.now (g.R.Rows.content c.args.rows.now) c.args.desk.now
    c.args.from c.args.count)
    (n : Next format k c.loop.counter c.loop.writer (g.R.Rows.content c.loop.rows) c.loop.desk
    c.loop.link (c.loop.invariant.progress format k)) where
  links : (c.links-links.result.child ≡ link_of n.entry.child)
      × (c.links-links.result.next ≡ link_from k.behind n.more)
  links = ends_are _ c.links-links.result _ _ _ _ (row_there format k n)
      c.links-links.ensures.value

  child_there : HasRows (g.R.Rows.content c.links-links.new.self) (rows_of format n.entry.child)
  child_there = subst (λ (x : Content). HasRows x (rows_of format n.entry.child))
      (sym (ap g.R.Rows.content c.links-links.ensures.same)) (next_run format k n).gaps.0.rows

pub root_at-child-requires : goal.root_at-child-requires
root_at-child-requires g c =
    let format = c.requires.copying.0 in
    let at = goal.at.root_at-child-requires g c in
    let n = next g at.In-loop format c.requires.copying.1 in
    record {
      stands = (
        format,
        n.entry.child,
        sym (links g at.After-links-links format c.requires.copying.1 n).0,
        child_there g at.After-links-links format c.requires.copying.1 n,
      );
    }

module _ (g : Over) (c : goal.After-root_at-child g) (format : Format)
    (k : Copying format c.args.writer.now (g.R.Rows.content c.args.rows.now) c.args.desk.now
    c.args.from c.args.count)
    (n : Next format k c.loop.counter c.loop.writer (g.R.Rows.content c.loop.rows) c.loop.desk
    c.loop.link (c.loop.invariant.progress format k)) where
  child_root : c.links-links.result.child ≡ link_of n.entry.child
      → HasRows (g.R.Rows.content c.links-links.new.self) (rows_of format n.entry.child)
      → IsRootOf format n.entry.child c.root_at-child.result
  child_root link there = c.root_at-child.ensures.root format n.entry.child (sym link) there

pub move_entry-requires-clause-writer : goal.move_entry-requires-clause-writer
move_entry-requires-clause-writer g c = c.loop.invariant.writer

pub move_entry-requires-clause-some : goal.move_entry-requires-clause-some
move_entry-requires-clause-some g c =
    omega (arith, c.loop.invariant.left, c.requires.left, c.loop-test.true)

pub move_entry-requires-clause-room : goal.move_entry-requires-clause-room
move_entry-requires-clause-room g c = λ more. omega (arith, c.loop.invariant.room, more)

pub move_entry-requires-clause-few : goal.move_entry-requires-clause-few
move_entry-requires-clause-few g c = c.loop.invariant.ready.few

pub move_entry-requires-clause-blank : goal.move_entry-requires-clause-blank
move_entry-requires-clause-blank g c =
    subst (λ (b : ℕ → Bool). IfSome c.loop.writer.next (λ r. IsTrue (b r)))
    (sym (ap g.R.Rows.blank (c.root_at-child.ensures.same ∙ c.links-links.ensures.same)))
    c.loop.invariant.next

pub move_entry-requires-clause-child : goal.move_entry-requires-clause-child
move_entry-requires-clause-child g c =
    let format = c.requires.copying.0 in
    let k = c.requires.copying.1 in
    let at = goal.at.move_entry-requires-clause-child g c in
    let child = next g at.In-loop format k in
    let root = child_root g at.After-root_at-child format k child
    (links g at.After-links-links format k child).0
    (child_there g at.After-links-links format k child) in
    omega (
      arith,
      root.link,
      small_link c.loop.desk child.entry.child
          (λ r i. old_alive c.loop.desk r ((next_run format k child).gaps.0.old r i))
          c.loop.invariant.ready.few,
    )

pub move_entry-requires-clause-old : goal.move_entry-requires-clause-old
move_entry-requires-clause-old g c =
    let format = c.requires.copying.0 in
    row_old format c.requires.copying.1
    (next g (goal.at.move_entry-requires-clause-old g c).In-loop format c.requires.copying.1)

pub loop-preserved : goal.loop-preserved
loop-preserved g c =
    let same = c.root_at-child.ensures.same ∙ c.links-links.ensures.same in
    let content : g.R.Rows.content c.root_at-child.new.rows ≡ g.R.Rows.content c.loop.rows =
    ap g.R.Rows.content same in
    let moves = c.move_entry.ensures.moves in
    let blank : g.R.Rows.blank c.move_entry.new.rows ≡ g.R.Rows.blank c.loop.rows =
    c.move_entry.ensures.beside.0 ∙ ap g.R.Rows.blank same in
    record {
      writer = c.move_entry.ensures.writer;
      left = omega (arith, c.move_entry.ensures.node.2, c.loop.invariant.left);
      node = (
        c.move_entry.ensures.node.0 ∙ c.loop.invariant.node.0,
        c.move_entry.ensures.node.1
            ∙ c.loop.invariant.node.1,
        c.move_entry.ensures.node.3 ∙ c.loop.invariant.node.2,
      );
      room =
          omega (
            arith,
            moves.room,
            c.move_entry.ensures.node.2,
            c.loop.invariant.room,
            one_ahead c.move_entry.new.writer.next,
          );
      ready = still_writable c.loop.desk c.move_entry.new.desk
          (ahead c.move_entry.new.writer.next) _ _ _ moves blank c.loop.invariant.ready;
      beside = (
        blank ∙ c.loop.invariant.beside.0,
        c.move_entry.ensures.beside.1 ∙ ap g.R.Rows.kept same ∙ c.loop.invariant.beside.1,
      );
      next = subst (λ (b : ℕ → Bool). IfSome c.move_entry.new.writer.next (λ r. IsTrue (b r)))
          (sym blank)
          (blank_ahead c.move_entry.new.writer (g.R.Rows.blank c.loop.rows)
          (blank_taken c.loop.desk c.move_entry.new.desk (ahead c.move_entry.new.writer.next) _
          moves (g.R.Rows.blank c.loop.rows) c.loop.invariant.ready.free));
      progress = λ format k.
          let at = goal.at.loop-preserved g c in
          let n = next g at.In-loop format k in
          let read = links g at.After-links-links format k n in
          let root = child_root g at.After-root_at-child format k n read.0
          (child_there g at.After-links-links format k n) in
          let row = next_some c.loop.writer.next c.loop.writer.left c.loop.invariant.writer.reserved
          (omega (arith, c.loop.invariant.left, c.requires.left, c.loop-test.true)) in
          let before = (c.loop.invariant.progress format k).copied in
          let child = (next_run format k n).gaps.0 in
          let ws = k.ws ++ before.copies in
          let written = c.move_entry.ensures.written format ws n.entry.child row.0
          (n.entry.key, n.entry.value) row.1
          (pair_there _ _ _ _ _
          (ap (λ (x : Content). x (c.loop.link - 1)) content ∙ row_there format k n))
          (subst (λ (x : Content). IsWritten format c.loop.writer x ws) (sym content)
          before.going.written)
          root
          (subst (λ (x : Content). HasRows x (rows_of format n.entry.child)) (sym content)
          child.rows)
          (row_out format c.loop.writer (g.R.Rows.content c.loop.rows) c.loop.desk ws n.entry.child
          row.0 before.going row.1 child.old) in
          let stepped = steps format k n c.move_entry.new.writer
          (g.R.Rows.content c.move_entry.new.rows) c.move_entry.new.desk row.0 row.1
          (subst (λ (r : ℕ). Moves c.loop.desk c.move_entry.new.desk
          (ahead c.move_entry.new.writer.next) (r ∷ [])) (link_less format k n) moves)
          (subst (λ (x : Content). KeepsBut (ahead c.loop.writer.next) x
          (g.R.Rows.content c.move_entry.new.rows)) content c.move_entry.ensures.keeps)
          written in
          subst (λ (l : ℕ). Progress format k (c.loop.counter + 1) c.move_entry.new.writer
          (g.R.Rows.content c.move_entry.new.rows) c.move_entry.new.desk l) (sym read.1)
          stepped;
    }

-- ---- all are copied

pub returns-clause-writer : goal.returns-clause-writer
returns-clause-writer g c = c.loop.invariant.writer

pub returns-clause-copied : goal.returns-clause-copied
returns-clause-copied g c = λ format k. ends format k (c.loop.invariant.progress format k)
    (omega (arith, c.loop-test.false, c.loop.auto.counter-end))

pub returns-clause-node : goal.returns-clause-node
returns-clause-node g c = (
  c.loop.invariant.node.0,
  c.loop.invariant.node.1,
  omega (arith, c.loop.invariant.left, c.loop-test.false, c.loop.auto.counter-end),
  c.loop.invariant.node.2,
)

pub returns-clause-beside : goal.returns-clause-beside
returns-clause-beside g c = c.loop.invariant.beside

pub returns-clause-next : goal.returns-clause-next
returns-clause-next g c = c.loop.invariant.next

pub move_entry-requires-clause-entry : goal.move_entry-requires-clause-entry
move_entry-requires-clause-entry g c =
    let format = c.requires.copying.0 in
    let n = next g (goal.at.move_entry-requires-clause-entry g c).In-loop format
    c.requires.copying.1 in
    subst (λ (x : Content). IsSome (part_at keyed_links x (c.loop.link - 1)))
    (sym (ap g.R.Rows.content (c.root_at-child.ensures.same ∙ c.links-links.ensures.same)))
    (links_there _ _ _ _ _ (row_there format c.requires.copying.1 n))
