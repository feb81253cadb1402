use Rattle.mst_batch.proofs.Names.{◌≡◌, ◌+◌, ◌<◌, ◌≤◌, [], ℕ, Bool, IfSome, List, length, get_or, map, take, ap, refl, sym, subst, ◌∙◌, arith, rules, count_by-le-length, Tree, Content, State, is_free, In, times, Placed, Root, IsOld, ahead, piece_alive, out-PlanNode, out-PlanEntry, HasKnown, IsThere, known_of, known_of_node, PlanTree, PlannedEntry, kept, plan_of, plan_of_node, planned_entry, rows_planned, rows_kept, tree_planned, IsPlan, Sown}
use Rattle.std.proofs.Common.{IsTrue}
use Rattle.mst_node.specs.Tree as tree
use Rattle.mst_path.proofs.lemmas.rows.CopyRows.{still_writable, blank_taken, blank_ahead, small_link, next_some}
use Rattle.mst_path.proofs.lemmas.trees.Growing.{ahead_count, ahead_none}
use Rattle.mst_batch.proofs.KnownShapes.{child_known, tail_known, entry_told, there_from}
use Rattle.mst_batch.proofs.KnownSowing.{has_known, still_known, sown_still}
use Rattle.mst_batch.proofs.PlanShapes.{items, tail, list_rows, list_kept, plan_out, tree_with, kept_with, rows_ahead, rows_least, rows_last, node_rows, entries_more, take_all, some_entries, low_layer, kept_rows, whole_old, child_kept, child_links, child_stands, child_search, tail_links, tail_stands, tail_search}
use Rattle.mst_batch.proofs.PlanSizes.{child_smaller, tail_smaller}
use Rattle.mst_batch.proofs.Sowings.{SownSoFar, kept_whole, begins, plan_later, head_in, next_in, entry_more, node_whole}
use Rattle.mst_batch.proofs.sowing.+sow.Given.{Over}
use Rattle.mst_batch.proofs.sowing.+sow.Goals.{sow_node-After-len, sow_node-After-entry-item, sow_node-After-loop-entry}
use Rattle.mst_batch.proofs.sowing.+sow.Goals as goal

pub sow_plan-root_at-requires : goal.sow_plan-root_at-requires
sow_plan-root_at-requires g t c =
    let p = c.requires.plan in
    let q = subst (λ (x : PlanTree). IsPlan c.args.format p.0 (g.R.Rows.content c.args.rows.now)
    c.args.desk.now x) (ap plan_of c.in-Kept.is) p.1 in
    record { stands = (c.args.format, p.0 c.in-Kept.link, q.links, q.stand.rows) }

-- ---- the node is begun

module _ (g : Over) (t : ℕ) (c : goal.sow_node-After-len g t) where
  few_entries : c.len.result ≤ 65534
  few_entries =
      omega (
        arith,
        c.len.ensures,
        (out-PlanNode g.row.B.Denot c.args.node.now).entries.ok.0,
        rows_least g.row.B.Denot c.args.node.now,
        c.requires.room,
        c.requires.ready.few,
        count_by-le-length is_free c.args.desk.now.lives,
      )

pub sow_node-overflow_cast-len : goal.sow_node-overflow_cast-len
sow_node-overflow_cast-len g t c =
    omega (arith, few_entries g t (goal.at.sow_node-overflow_cast-len g t c).After-len)

pub sow_node-begin-writer-requires-clause-low : goal.sow_node-begin-writer-requires-clause-low
sow_node-begin-writer-requires-clause-low g t c =
    low_layer g.row.B.Denot c.args.node.now c.args.format c.requires.plan.0 _ _ c.requires.plan.1

pub sow_node-begin-writer-requires-clause-some : goal.sow_node-begin-writer-requires-clause-some
sow_node-begin-writer-requires-clause-some g t c =
    omega (
      arith,
      c.len.ensures,
      (out-PlanNode g.row.B.Denot c.args.node.now).entries.ok.0,
      some_entries g.row.B.Denot c.args.node.now c.args.format c.requires.plan.0 _ _
          c.requires.plan.1,
    )

pub sow_node-begin-writer-requires-clause-few : goal.sow_node-begin-writer-requires-clause-few
sow_node-begin-writer-requires-clause-few g t c =
    omega (
      arith,
      few_entries g t
          (goal.at.sow_node-begin-writer-requires-clause-few g t c).After-len,
    )

pub sow_node-begin-writer-requires-clause-room : goal.sow_node-begin-writer-requires-clause-room
sow_node-begin-writer-requires-clause-room g t c =
    omega (
      arith,
      some_entries g.row.B.Denot c.args.node.now c.args.format c.requires.plan.0 _ _
          c.requires.plan.1,
      rows_least g.row.B.Denot c.args.node.now,
      c.requires.room,
    )

pub sow_node-loop-entry-init : goal.sow_node-loop-entry-init
sow_node-loop-entry-init g t c =
    let made = c.begin-writer.ensures in
    record {
      writer = made.writer;
      layer = made.node.0;
      left =
          omega (
            arith,
            made.node.2,
            c.len.ensures,
            (out-PlanNode g.row.B.Denot c.args.node.now).entries.ok.0,
          );
      beside = (refl, refl);
      so_far = λ at p.
          begins c.args.format at (g.R.Rows.content c.args.rows.now) c.args.desk.now
          c.begin-writer.new.desk c.begin-writer.result made.takes (made.written _);
    }

-- ---- the next entry

module _ (g : Over) (t : ℕ) (c : goal.sow_node-After-entry-item g t) where
  inside : c.loop-entry.entry-index < length (items g.row.B.Denot c.args.node.now)
  inside = subst (λ xs. c.loop-entry.entry-index < length xs) c.deref-entry-items.ensures.value
      c.loop-entry-test.true

  item_is : c.entry-item.result ≡ get_or (items g.row.B.Denot c.args.node.now)
      c.loop-entry.entry-index c.entry-item.result
  item_is =
      subst (λ xs. c.entry-item.result ≡ get_or xs c.loop-entry.entry-index c.entry-item.result)
      c.deref-entry-items.ensures.value c.entry-item.is

  ahead_rows : list_rows (map planned_entry
      (take c.loop-entry.entry-index (items g.row.B.Denot c.args.node.now))) + rows_planned
      (plan_of (out-PlanEntry g.row.B.Denot c.entry-item.result).child) + length
      (items g.row.B.Denot c.args.node.now) + 1 ≤ rows_planned (plan_of_node c.args.node.now)
      + c.loop-entry.entry-index
  ahead_rows = rows_ahead g.row.B.Denot c.args.node.now c.loop-entry.entry-index
      c.entry-item.result inside item_is

  -- the plans that are carried out keep old rows, and so does the next one
  module _ (at : ℕ → Placed)
      (p : IsPlan c.args.format at (g.R.Rows.content c.args.rows.now) c.args.desk.now
      (plan_of_node c.args.node.now)) where
    child_less : (x : ℕ) → times x
        (list_kept at (map planned_entry
        (take c.loop-entry.entry-index (items g.row.B.Denot c.args.node.now)))) + times x
        (rows_kept at (plan_of (out-PlanEntry g.row.B.Denot c.entry-item.result).child)) ≤ times x
        (list_kept at (map planned_entry (items g.row.B.Denot c.args.node.now)))
    child_less = child_kept g.row.B.Denot c.args.node.now c.args.format at _ _ p
        c.loop-entry.entry-index c.entry-item.result inside item_is

    so_far_old : (x : ℕ) → In x
        (list_kept at (map planned_entry
        (take c.loop-entry.entry-index (items g.row.B.Denot c.args.node.now))))
        → IsOld c.args.desk.now x
    so_far_old x i = whole_old g.row.B.Denot c.args.node.now c.args.format at _ _ p x
        (omega (arith, i, child_less x))

    child_old : (x : ℕ) → In x
        (rows_kept at (plan_of (out-PlanEntry g.row.B.Denot c.entry-item.result).child))
        → IsOld c.args.desk.now x
    child_old x i = whole_old g.row.B.Denot c.args.node.now c.args.format at _ _ p x
        (omega (arith, i, child_less x))

    child_once : (x : ℕ) → times x
        (list_kept at (map planned_entry
        (take c.loop-entry.entry-index (items g.row.B.Denot c.args.node.now)))) + times x
        (rows_kept at (plan_of (out-PlanEntry g.row.B.Denot c.entry-item.result).child)) ≤ 1
    child_once x =
        omega (
          arith,
          child_less x,
          kept_rows g.row.B.Denot c.args.node.now c.args.format at _ _ p x,
        )

    child_plan : IsPlan c.args.format at (g.R.Rows.content c.loop-entry.rows) c.loop-entry.desk
        (plan_of (out-PlanEntry g.row.B.Denot c.entry-item.result).child)
    child_plan = plan_later c.args.format at c.args.desk.now c.loop-entry.desk
        (g.R.Rows.content c.args.rows.now) (g.R.Rows.content c.loop-entry.rows)
        c.loop-entry.writer _ (c.loop-entry.invariant.so_far at p) so_far_old
        (plan_of (out-PlanEntry g.row.B.Denot c.entry-item.result).child)
        (child_links g.row.B.Denot c.args.node.now c.args.format at _ _ p c.loop-entry.entry-index
        c.entry-item.result inside item_is)
        (child_stands g.row.B.Denot c.args.node.now c.args.format at _ _ p c.loop-entry.entry-index
        c.entry-item.result inside item_is)
        (λ x. omega (arith, child_once x))
        (child_search g.row.B.Denot c.args.node.now c.args.format at _ _ p c.loop-entry.entry-index
        c.entry-item.result inside item_is)

    module _ (k : HasKnown (g.R.Rows.content c.args.rows.now) c.args.desk.now
        (known_of_node c.args.node.now)) where
      child_is_known : HasKnown (g.R.Rows.content c.loop-entry.rows) c.loop-entry.desk
          (known_of (out-PlanEntry g.row.B.Denot c.entry-item.result).child)
      child_is_known = has_known k _ (still_known c.args.format at _ _ _ _ _ _
          (c.loop-entry.invariant.so_far at p) k)
          (child_known k.format k.whole g.row.B.Denot c.args.node.now k.each
          c.loop-entry.entry-index c.entry-item.result inside item_is)

      -- the entry that is to be copied stands, also after the plan before it is carried out
      there : (content : Content) (now : State) (u : Tree) (root : Root) (given : List ℕ)
          (count : ℕ) → Sown c.args.format (g.R.Rows.content c.loop-entry.rows) content
          c.loop-entry.desk now u root given count
          → IsThere content (
            (out-PlanEntry g.row.B.Denot c.entry-item.result).key,
            (out-PlanEntry g.row.B.Denot c.entry-item.result).value,
          )
          (out-PlanEntry g.row.B.Denot c.entry-item.result).origin
      there content now u root given count q =
          there_from k.format k.whole content (
            (out-PlanEntry g.row.B.Denot c.entry-item.result).key,
            (out-PlanEntry g.row.B.Denot c.entry-item.result).value,
          )
          (out-PlanEntry g.row.B.Denot c.entry-item.result).origin
          (sown_still q k.whole (still_known c.args.format at _ _ _ _ _ _
          (c.loop-entry.invariant.so_far at p) k)).rows
          (entry_told k.format k.whole g.row.B.Denot c.args.node.now k.each
          c.loop-entry.entry-index c.entry-item.result inside item_is)

pub sow_node-sow_plan-child-requires : goal.sow_node-sow_plan-child-requires
sow_node-sow_plan-child-requires g t c κs within =
    let at = c.requires.plan.0 in
    let p = c.requires.plan.1 in
    let s = c.loop-entry.invariant.so_far at p in
    let here = (goal.at.sow_node-sow_plan-child-requires g t c).After-entry-item in (
      omega (
        arith,
        c.decreases,
        child_smaller g.row.B.Denot c.args.node.now c.loop-entry.entry-index
            c.entry-item.result (inside g t here) (item_is g t here),
      ),
      (
        search rules,
        (
          search rules,
          (
            search rules,
            (
              (at, child_plan g t here at p),
              (
                omega (
                  arith,
                  c.requires.room,
                  s.moves.room,
                  s.counted,
                  ahead_count c.loop-entry.writer.next c.loop-entry.writer.left
                      c.loop-entry.invariant.writer.reserved,
                  inside g t here,
                  ahead_rows g t here,
                ),
                (
                  still_writable _ _ _ _ _ _ s.moves c.loop-entry.invariant.beside.0
                      c.requires.ready,
                  child_is_known g t here at p c.requires.known,
                ),
              ),
            ),
          ),
        ),
      ),
    )

pub sow_node-write_entry-requires-clause-room : goal.sow_node-write_entry-requires-clause-room
sow_node-write_entry-requires-clause-room g t c more =
    let at = c.requires.plan.0 in
    let p = c.requires.plan.1 in
    let s = c.loop-entry.invariant.so_far at p in
    let here = (goal.at.sow_node-write_entry-requires-clause-room g t c).After-entry-item in
    let q = c.sow_plan-child.ensures.sown at (child_plan g t here at p) in
    omega (
      arith,
      more,
      c.loop-entry.invariant.left,
      c.requires.room,
      s.moves.room,
      s.counted,
      q.moves.room,
      q.counted,
      ahead_count c.loop-entry.writer.next c.loop-entry.writer.left
          c.loop-entry.invariant.writer.reserved,
      inside g t here,
      ahead_rows g t here,
    )

pub sow_node-write_entry-requires-clause-few : goal.sow_node-write_entry-requires-clause-few
sow_node-write_entry-requires-clause-few g t c =
    let at = c.requires.plan.0 in
    let p = c.requires.plan.1 in
    let s = c.loop-entry.invariant.so_far at p in
    let here = (goal.at.sow_node-write_entry-requires-clause-few g t c).After-entry-item in
    let q = c.sow_plan-child.ensures.sown at (child_plan g t here at p) in
    omega (arith, c.requires.ready.few, s.moves.rows, q.moves.rows)

pub sow_node-write_entry-requires-clause-blank : goal.sow_node-write_entry-requires-clause-blank
sow_node-write_entry-requires-clause-blank g t c =
    let at = c.requires.plan.0 in
    let p = c.requires.plan.1 in
    let s = c.loop-entry.invariant.so_far at p in
    let here = (goal.at.sow_node-write_entry-requires-clause-blank g t c).After-entry-item in
    let blank = g.R.Rows.blank c.args.rows.now in
    let same = c.sow_plan-child.ensures.beside.0 ∙ c.loop-entry.invariant.beside.0 in
    subst (λ (b : ℕ → Bool). IfSome c.loop-entry.writer.next (λ r. IsTrue (b r))) (sym same)
    (blank_ahead c.loop-entry.writer blank
    (λ r i. blank_taken _ _ s.taken [] s.moves blank c.requires.ready.free r
    (next_in c.args.format at _ _ _ _ c.loop-entry.writer _ s (so_far_old g t here at p) r i)))

pub sow_node-write_entry-requires-clause-child : goal.sow_node-write_entry-requires-clause-child
sow_node-write_entry-requires-clause-child g t c =
    let at = c.requires.plan.0 in
    let p = c.requires.plan.1 in
    let s = c.loop-entry.invariant.so_far at p in
    let here = (goal.at.sow_node-write_entry-requires-clause-child g t c).After-entry-item in
    let q = c.sow_plan-child.ensures.sown at (child_plan g t here at p) in
    omega (
      arith,
      q.root.link,
      small_link c.sow_plan-child.new.desk q.placed (piece_alive c.args.format q.piece)
          (omega (arith, c.requires.ready.few, s.moves.rows, q.moves.rows)),
    )

pub sow_node-write_entry-requires-clause-there : goal.sow_node-write_entry-requires-clause-there
sow_node-write_entry-requires-clause-there g t c =
    let at = c.requires.plan.0 in
    let p = c.requires.plan.1 in
    let here = (goal.at.sow_node-write_entry-requires-clause-there g t c).After-entry-item in
    let q = c.sow_plan-child.ensures.sown at (child_plan g t here at p) in
    there g t here at p c.requires.known _ _ _ _ _ _ q

pub sow_node-loop-entry-preserved : goal.sow_node-loop-entry-preserved
sow_node-loop-entry-preserved g t c =
    let here = (goal.at.sow_node-loop-entry-preserved g t c).After-entry-item in
    let row = next_some c.loop-entry.writer.next c.loop-entry.writer.left
    c.loop-entry.invariant.writer.reserved
    (omega (arith, c.loop-entry.invariant.left, inside g t here)) in
    record {
      writer = c.write_entry.ensures.writer;
      layer = c.write_entry.ensures.node.0 ∙ c.loop-entry.invariant.layer;
      left = omega (arith, c.write_entry.ensures.node.2, c.loop-entry.invariant.left);
      beside = (
        c.write_entry.ensures.beside.0 ∙ c.sow_plan-child.ensures.beside.0
            ∙ c.loop-entry.invariant.beside.0,
        c.write_entry.ensures.beside.1 ∙ c.sow_plan-child.ensures.beside.1
            ∙ c.loop-entry.invariant.beside.1,
      );
      so_far = λ at p.
          let s = c.loop-entry.invariant.so_far at p in
          let q = c.sow_plan-child.ensures.sown at (child_plan g t here at p) in
          subst (λ (xs : List PlannedEntry). SownSoFar c.args.format at c.args.desk.now
          c.write_entry.new.desk (g.R.Rows.content c.args.rows.now)
          (g.R.Rows.content c.write_entry.new.rows)
          c.write_entry.new.writer xs)
          (sym (entries_more g.row.B.Denot c.args.node.now c.loop-entry.entry-index
          c.entry-item.result (inside g t here) (item_is g t here)))
          (entry_more c.args.format at _ _ _ _ c.loop-entry.writer _ s (so_far_old g t here at p) _
          _ _ _ _ _ q (child_old g t here at p) (child_once g t here at p) c.write_entry.new.desk
          (g.R.Rows.content c.write_entry.new.rows) c.write_entry.new.writer row.0 (record {
            child = plan_of (out-PlanEntry g.row.B.Denot c.entry-item.result).child;
            key = (out-PlanEntry g.row.B.Denot c.entry-item.result).key;
            value = (out-PlanEntry g.row.B.Denot c.entry-item.result).value;
          }) refl refl refl row.1 c.write_entry.ensures.node.3
          (c.write_entry.ensures.written c.args.format)
          c.write_entry.ensures.takes c.write_entry.ensures.keeps);
    }

-- ---- all entries are written

module _ (g : Over) (t : ℕ) (c : goal.sow_node-After-loop-entry g t) where
  at_end : c.loop-entry.entry-index ≡ length (items g.row.B.Denot c.args.node.now)
  at_end = omega (arith, ap length c.deref-entry-items.ensures.value)

  all_taken : map planned_entry
      (take c.loop-entry.entry-index (items g.row.B.Denot c.args.node.now)) ≡ map planned_entry
      (items g.row.B.Denot c.args.node.now)
  all_taken = take_all g.row.B.Denot c.args.node.now c.loop-entry.entry-index at_end

  none_left : c.loop-entry.writer.left ≡ 0
  none_left = omega (arith, at_end, c.loop-entry.invariant.left)

  none_ahead : ahead c.loop-entry.writer.next ≡ []
  none_ahead = ahead_none c.loop-entry.writer.next c.loop-entry.writer.left
      c.loop-entry.invariant.writer.reserved none_left

  module _ (at : ℕ → Placed)
      (p : IsPlan c.args.format at (g.R.Rows.content c.args.rows.now) c.args.desk.now
      (plan_of_node c.args.node.now)) where
    so_far_whole : SownSoFar c.args.format at c.args.desk.now c.loop-entry.desk
        (g.R.Rows.content c.args.rows.now) (g.R.Rows.content c.loop-entry.rows)
        c.loop-entry.writer (map planned_entry (items g.row.B.Denot c.args.node.now))
    so_far_whole =
        subst (λ (xs : List PlannedEntry). SownSoFar c.args.format at c.args.desk.now
        c.loop-entry.desk (g.R.Rows.content c.args.rows.now) (g.R.Rows.content c.loop-entry.rows)
        c.loop-entry.writer xs) all_taken (c.loop-entry.invariant.so_far at p)

    all_old : (x : ℕ) → In x
        (list_kept at (map planned_entry (items g.row.B.Denot c.args.node.now)))
        → IsOld c.args.desk.now x
    all_old x i = whole_old g.row.B.Denot c.args.node.now c.args.format at _ _ p x
        (omega (arith, i))

    tail_old : (x : ℕ) → In x (rows_kept at (tail g.row.B.Denot c.args.node.now))
        → IsOld c.args.desk.now x
    tail_old x i = whole_old g.row.B.Denot c.args.node.now c.args.format at _ _ p x
        (omega (arith, i))

    tail_plan : IsPlan c.args.format at (g.R.Rows.content c.loop-entry.rows) c.loop-entry.desk
        (tail g.row.B.Denot c.args.node.now)
    tail_plan = plan_later c.args.format at c.args.desk.now c.loop-entry.desk
        (g.R.Rows.content c.args.rows.now) (g.R.Rows.content c.loop-entry.rows)
        c.loop-entry.writer _ so_far_whole all_old (tail g.row.B.Denot c.args.node.now)
        (tail_links g.row.B.Denot c.args.node.now c.args.format at _ _ p)
        (tail_stands g.row.B.Denot c.args.node.now c.args.format at _ _ p)
        (λ x. omega (arith, kept_rows g.row.B.Denot c.args.node.now c.args.format at _ _ p x))
        (tail_search g.row.B.Denot c.args.node.now c.args.format at _ _ p)

    tail_is_known : HasKnown (g.R.Rows.content c.args.rows.now) c.args.desk.now
        (known_of_node c.args.node.now)
        → HasKnown (g.R.Rows.content c.loop-entry.rows) c.loop-entry.desk
        (known_of (out-PlanNode g.row.B.Denot c.args.node.now).tail)
    tail_is_known k = has_known k _ (still_known c.args.format at _ _ _ _ _ _
        (c.loop-entry.invariant.so_far at p) k)
        (tail_known k.format k.whole g.row.B.Denot c.args.node.now k.each)

pub sow_node-sow_plan-tail-requires : goal.sow_node-sow_plan-tail-requires
sow_node-sow_plan-tail-requires g t c κs within =
    let at = c.requires.plan.0 in
    let p = c.requires.plan.1 in
    let behind = (goal.at.sow_node-sow_plan-tail-requires g t c).After-loop-entry in
    let s = so_far_whole g t behind at p in (
      omega (arith, c.decreases, tail_smaller g.row.B.Denot c.args.node.now),
      (
        search rules,
        (
          search rules,
          (
            search rules,
            (
              (at, tail_plan g t behind at p),
              (
                omega (
                  arith,
                  c.requires.room,
                  s.moves.room,
                  s.counted,
                  ap length (none_ahead g t behind),
                  rows_last g.row.B.Denot c.args.node.now,
                ),
                (
                  still_writable _ _ _ _ _ _ s.moves c.loop-entry.invariant.beside.0
                      c.requires.ready,
                  tail_is_known g t behind at p c.requires.known,
                ),
              ),
            ),
          ),
        ),
      ),
    )

pub sow_node-finish-requires-clause-blank : goal.sow_node-finish-requires-clause-blank
sow_node-finish-requires-clause-blank g t c =
    let at = c.requires.plan.0 in
    let p = c.requires.plan.1 in
    let behind = (goal.at.sow_node-finish-requires-clause-blank g t c).After-loop-entry in
    let s = so_far_whole g t behind at p in
    let blank = g.R.Rows.blank c.args.rows.now in
    let same = c.sow_plan-tail.ensures.beside.0 ∙ c.loop-entry.invariant.beside.0 in
    subst (λ (b : ℕ → Bool). IsTrue (b c.loop-entry.writer.head)) (sym same)
    (blank_taken _ _ s.taken [] s.moves blank c.requires.ready.free c.loop-entry.writer.head
    (head_in c.args.format at _ _ _ _ c.loop-entry.writer _ s (all_old g t behind at p)))

pub sow_node-finish-requires-clause-tail : goal.sow_node-finish-requires-clause-tail
sow_node-finish-requires-clause-tail g t c =
    let at = c.requires.plan.0 in
    let p = c.requires.plan.1 in
    let behind = (goal.at.sow_node-finish-requires-clause-tail g t c).After-loop-entry in
    let s = so_far_whole g t behind at p in
    let q = c.sow_plan-tail.ensures.sown at (tail_plan g t behind at p) in
    omega (
      arith,
      q.root.link,
      small_link c.sow_plan-tail.new.desk q.placed (piece_alive c.args.format q.piece)
          (omega (arith, c.requires.ready.few, s.moves.rows, q.moves.rows)),
    )

pub sow_node-returns-clause-sown : goal.sow_node-returns-clause-sown
sow_node-returns-clause-sown g t c = λ at p.
    let A = g.row.B.Denot in
    let n = c.args.node.now in
    let behind = (goal.at.sow_node-returns-clause-sown g t c).After-loop-entry in
    let s = so_far_whole g t behind at p in
    let q = c.sow_plan-tail.ensures.sown at (tail_plan g t behind at p) in
    let none = none_ahead g t behind in
    let sown : Tree → Type 0 =
    λ u. Sown c.args.format (g.R.Rows.content c.args.rows.now)
    (g.R.Rows.content c.finish.new.rows) c.args.desk.now c.sow_plan-tail.new.desk u c.finish.result
    (rows_kept at (plan_of_node n)) (rows_planned (plan_of_node n)) in
    let made = node_whole c.args.format at _ _ _ _ c.loop-entry.writer _ s (all_old g t behind at p)
    _ _ _ _ _ _ q (tail_old g t behind at p)
    (kept_rows A n c.args.format at _ _ p) (g.R.Rows.content c.finish.new.rows)
    (out-PlanNode A n).layer c.finish.result (rows_kept at (plan_of_node n))
    (rows_planned (plan_of_node n)) (sym c.loop-entry.invariant.layer)
    (λ x. ap (times x) none) (ap length none)
    (λ x. ap (λ (y : PlanTree). times x (rows_kept at y)) (plan_out A n) ∙ kept_with at
    (map planned_entry (items A n)) (tail A n) x)
    (node_rows A n) (c.finish.ensures.root c.args.format) (c.finish.ensures.stands c.args.format)
    c.finish.ensures.keeps in
    subst (λ s. Sown c.args.format (g.R.Rows.content c.args.rows.now)
    (g.R.Rows.content c.finish.new.rows) c.args.desk.now s
    (tree_planned c.args.format at (plan_of_node n)) c.finish.result
    (rows_kept at (plan_of_node n)) (rows_planned (plan_of_node n)))
    (sym c.finish.ensures.desk)
    (subst sown
    (ap (λ xs. tree.node c.args.format (out-PlanNode A n).layer xs)
    (sym (tree_with c.args.format at (map planned_entry (items A n)) (tail A n)))
    ∙ ap (tree_planned c.args.format at) (sym (plan_out A n))) made)

-- ---- a tree that is kept

pub sow_plan-returns-in-Kept-clause-sown : goal.sow_plan-returns-in-Kept-clause-sown
sow_plan-returns-in-Kept-clause-sown g t c = λ at p.
    let content = g.R.Rows.content c.args.rows.now in
    let is : plan_of c.args.plan.now ≡ kept c.in-Kept.link = ap plan_of c.in-Kept.is in
    let q = subst (IsPlan c.args.format at content c.args.desk.now) is p in
    let made =
    kept_whole c.args.format at content c.args.desk.now c.in-Kept.link c.root_at.result q
    (λ placed at_is has. c.root_at.ensures.root c.args.format placed at_is has) in
    let whole : Sown c.args.format content content c.args.desk.now c.args.desk.now
    (tree_planned c.args.format at (plan_of c.args.plan.now)) c.root_at.result
    (rows_kept at (plan_of c.args.plan.now)) (rows_planned (plan_of c.args.plan.now)) =
    subst (λ (y : PlanTree). Sown c.args.format content content c.args.desk.now c.args.desk.now
    (tree_planned c.args.format at y) c.root_at.result (rows_kept at y) (rows_planned y)) (sym is)
    made in
    subst (λ (x : Content). Sown c.args.format content x c.args.desk.now c.args.desk.now
    (tree_planned c.args.format at (plan_of c.args.plan.now)) c.root_at.result
    (rows_kept at (plan_of c.args.plan.now)) (rows_planned (plan_of c.args.plan.now)))
    (sym (ap g.R.Rows.content c.root_at.ensures.same)) whole
