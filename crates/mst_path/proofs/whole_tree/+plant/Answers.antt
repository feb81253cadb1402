use Rattle.mst_path.proofs.Names.{◌≡◌, ◌+◌, ◌<◌, ◌≤◌, [], ℕ, Bool, IsTrue, List, length, get_or, map, take, ap, refl, sym, subst, ◌∙◌, arith, rules, common_steps, count_by-le-length, TreeEntry, with_entries, tree_of_child, tree_entry, Tree, node, last, out-Node, out-Entry, the_lemmas, is_free, none, all-back, ahead, entries_used, rows_needed, Planted}
use Rattle.mst_node.specs.Shape.{tree_of}
use Rattle.mst_path.proofs.lemmas.rows.Taking.{takes_none, takes_length, taken_blank}
use Rattle.mst_path.proofs.lemmas.rows.Moving.{moves_takes}
use Rattle.mst_path.proofs.lemmas.rows.CopyRows.{still_writable, next_some}
use Rattle.mst_path.proofs.lemmas.trees.Nodes.{items, tail, entries_needed, needed_ahead, needed_least, take_all, node_out, node_needed, node_some, node_layer, node_child, node_last, entries_more}
use Rattle.mst_path.proofs.lemmas.trees.Growing.{PlantedSoFar, ahead_count, ahead_none, ahead_all, root_small, free_now, free_beside, entry_more, node_whole}
use Rattle.mst_path.proofs.whole_tree.+plant.Given.{Over}
use Rattle.mst_path.proofs.whole_tree.+plant.Goals.{plant_node-After-len, plant_node-After-entry-item, plant_node-After-loop-entry}
use Rattle.mst_path.proofs.whole_tree.+plant.Goals as goal

pub plant_child-returns-in-None-clause-planted : goal.plant_child-returns-in-None-clause-planted
plant_child-returns-in-None-clause-planted g t c = record {
  placed = none;
  is = sym (ap (tree_of_child c.args.format) c.in-None.is);
  root = record { link = refl; sum = c.empty_digest.ensures.digest };
  rows = tt;
  takes = takes_none c.args.desk.now;
  keeps = λ k out. refl;
}

-- ---- the node is begun

module _ (g : Over) (t : ℕ) (c : goal.plant_node-After-len g t) where
  few_entries : c.len.result ≤ 65534
  few_entries =
      omega (
        arith,
        c.len.ensures,
        (out-Node g.row.B.Denot c.args.node.now).entries.ok.0,
        needed_least c.args.format g.row.B.Denot c.args.node.now,
        c.requires.room,
        c.requires.ready.few,
        count_by-le-length is_free c.args.desk.now.lives,
      )

pub plant_node-overflow_cast-len : goal.plant_node-overflow_cast-len
plant_node-overflow_cast-len g t c =
    omega (arith, few_entries g t (goal.at.plant_node-overflow_cast-len g t c).After-len)

pub plant_node-begin-writer-requires-clause-low : goal.plant_node-begin-writer-requires-clause-low
plant_node-begin-writer-requires-clause-low g t c =
    node_layer c.args.format g.row.B.Denot c.args.node.now c.requires.tree

pub plant_node-begin-writer-requires-clause-some : goal.plant_node-begin-writer-requires-clause-some
plant_node-begin-writer-requires-clause-some g t c =
    omega (
      arith,
      c.len.ensures,
      (out-Node g.row.B.Denot c.args.node.now).entries.ok.0,
      node_some c.args.format g.row.B.Denot c.args.node.now c.requires.tree,
    )

pub plant_node-begin-writer-requires-clause-few : goal.plant_node-begin-writer-requires-clause-few
plant_node-begin-writer-requires-clause-few g t c =
    omega (
      arith,
      few_entries g t
          (goal.at.plant_node-begin-writer-requires-clause-few g t c).After-len,
    )

pub plant_node-begin-writer-requires-clause-room : goal.plant_node-begin-writer-requires-clause-room
plant_node-begin-writer-requires-clause-room g t c =
    omega (
      arith,
      node_some c.args.format g.row.B.Denot c.args.node.now c.requires.tree,
      needed_least c.args.format g.row.B.Denot c.args.node.now,
      c.requires.room,
    )

pub plant_node-begin-writer-requires-clause-rows : goal.plant_node-begin-writer-requires-clause-rows
plant_node-begin-writer-requires-clause-rows g t c = c.requires.ready.few

pub plant_node-loop-entry-init : goal.plant_node-loop-entry-init
plant_node-loop-entry-init g t c =
    let made = c.begin-writer.ensures in
    record {
      writer = made.writer;
      layer = made.node.0;
      left =
          omega (
            arith,
            made.node.2,
            c.len.ensures,
            (out-Node g.row.B.Denot c.args.node.now).entries.ok.0,
          );
      beside = (refl, refl);
      so_far = record {
        es = [];
        is = refl;
        written = made.written _;
        takes = made.takes;
        keeps =
            λ k out. refl;
      };
    }

-- ---- the next entry

module _ (g : Over) (t : ℕ) (c : goal.plant_node-After-entry-item g t) where
  inside : c.loop-entry.entry-index < length (items c.args.format g.row.B.Denot c.args.node.now)
  inside = subst (λ xs. c.loop-entry.entry-index < length xs) c.deref-entry-items.ensures.value
      c.loop-entry-test.true

  item_is : c.entry-item.result ≡ get_or (items c.args.format g.row.B.Denot c.args.node.now)
      c.loop-entry.entry-index c.entry-item.result
  item_is =
      subst (λ xs. c.entry-item.result ≡ get_or xs c.loop-entry.entry-index c.entry-item.result)
      c.deref-entry-items.ensures.value c.entry-item.is

  rows_ahead : entries_needed
      (map (tree_entry c.args.format)
      (take c.loop-entry.entry-index (items c.args.format g.row.B.Denot c.args.node.now)))
      + rows_needed
      (tree_of_child c.args.format (out-Entry g.row.B.Denot c.entry-item.result).child) + length
      (items c.args.format g.row.B.Denot c.args.node.now) + 1 ≤ rows_needed
      (tree_of c.args.format c.args.node.now) + c.loop-entry.entry-index
  rows_ahead = needed_ahead c.args.format g.row.B.Denot c.args.node.now c.loop-entry.entry-index
      c.entry-item.result inside item_is

pub plant_node-plant_child-child-requires : goal.plant_node-plant_child-child-requires
plant_node-plant_child-child-requires g t c κs within =
    let s = c.loop-entry.invariant.so_far in
    let here = (goal.at.plant_node-plant_child-child-requires g t c).After-entry-item in (
      grind (arith, common_steps, the_lemmas),
      (
        search rules,
        (
          search rules,
          (
            search rules,
            (
              node_child c.args.format g.row.B.Denot c.args.node.now c.loop-entry.entry-index
                  c.entry-item.result c.requires.tree (inside g t here) (item_is g t here),
              (
                omega (
                  arith,
                  c.requires.room,
                  free_now c.args.format _ _ _ _ c.loop-entry.writer _
                      s,
                  ahead_count c.loop-entry.writer.next c.loop-entry.writer.left
                      c.loop-entry.invariant.writer.reserved,
                  inside g t here,
                  rows_ahead g t here,
                ),
                still_writable _ _ _ _ _ _ (moves_takes _ _ _ s.takes)
                    c.loop-entry.invariant.beside.0 c.requires.ready,
              ),
            ),
          ),
        ),
      ),
    )

pub plant_node-entry-requires-clause-writer : goal.plant_node-entry-requires-clause-writer
plant_node-entry-requires-clause-writer g t c = c.loop-entry.invariant.writer

pub plant_node-entry-requires-clause-some : goal.plant_node-entry-requires-clause-some
plant_node-entry-requires-clause-some g t c =
    let here = (goal.at.plant_node-entry-requires-clause-some g t c).After-entry-item in
    omega (arith, c.loop-entry.invariant.left, inside g t here)

pub plant_node-entry-requires-clause-room : goal.plant_node-entry-requires-clause-room
plant_node-entry-requires-clause-room g t c more =
    let here = (goal.at.plant_node-entry-requires-clause-room g t c).After-entry-item in
    omega (
      arith,
      more,
      c.loop-entry.invariant.left,
      c.requires.room,
      free_beside c.args.format _ _
          _ _ c.loop-entry.writer _ c.loop-entry.invariant.so_far _ _ _ _
          c.plant_child-child.ensures.planted,
      ahead_count c.loop-entry.writer.next
          c.loop-entry.writer.left c.loop-entry.invariant.writer.reserved,
      inside g t here,
      rows_ahead g t here,
    )

pub plant_node-entry-requires-clause-few : goal.plant_node-entry-requires-clause-few
plant_node-entry-requires-clause-few g t c =
    omega (
      arith,
      c.requires.ready.few,
      takes_length _ _ _ c.loop-entry.invariant.so_far.takes,
      takes_length _ _ _ c.plant_child-child.ensures.planted.takes,
    )

pub plant_node-entry-requires-clause-blank : goal.plant_node-entry-requires-clause-blank
plant_node-entry-requires-clause-blank g t c =
    let next = c.loop-entry.writer.next in
    let blank = g.R.Rows.blank c.args.rows.now in
    let old = taken_blank _ _ _ blank c.loop-entry.invariant.so_far.takes c.requires.ready.free
    in
    let same = c.plant_child-child.ensures.beside.0 ∙ c.loop-entry.invariant.beside.0 in
    subst (λ (b : ℕ → Bool). Rattle.std.specs.Prelude.IfSome next (λ r. IsTrue (b r))) (sym same)
    (ahead_all (λ r. IsTrue (blank r)) next
    (all-back (λ r. IsTrue (blank r)) (entries_used c.loop-entry.invariant.so_far.es)
    (ahead next) old.1))

pub plant_node-entry-requires-clause-child : goal.plant_node-entry-requires-clause-child
plant_node-entry-requires-clause-child g t c =
    root_small c.args.format _ _ _ _ _ _ c.plant_child-child.ensures.planted
    (omega (arith, c.requires.ready.few, takes_length _ _ _ c.loop-entry.invariant.so_far.takes))

pub plant_node-loop-entry-preserved : goal.plant_node-loop-entry-preserved
plant_node-loop-entry-preserved g t c =
    let here = (goal.at.plant_node-loop-entry-preserved g t c).After-entry-item in
    let row = next_some c.loop-entry.writer.next c.loop-entry.writer.left
    c.loop-entry.invariant.writer.reserved
    (omega (arith, c.loop-entry.invariant.left, inside g t here)) in
    record {
      writer = c.entry.ensures.writer;
      layer = c.entry.ensures.node.0 ∙ c.loop-entry.invariant.layer;
      left = omega (arith, c.entry.ensures.node.2, c.loop-entry.invariant.left);
      beside = (
        c.entry.ensures.beside.0 ∙ c.plant_child-child.ensures.beside.0
            ∙ c.loop-entry.invariant.beside.0,
        c.entry.ensures.beside.1 ∙ c.plant_child-child.ensures.beside.1
            ∙ c.loop-entry.invariant.beside.1,
      );
      so_far =
          subst (λ (xs : List TreeEntry). PlantedSoFar c.args.format c.args.desk.now
          c.entry.new.desk (g.R.Rows.content c.args.rows.now) (g.R.Rows.content c.entry.new.rows)
          c.entry.new.self xs)
          (sym (entries_more c.args.format g.row.B.Denot c.args.node.now c.loop-entry.entry-index
          c.entry-item.result (inside g t here) (item_is g t here)))
          (entry_more c.args.format _ _ _ _ c.loop-entry.writer _ c.loop-entry.invariant.so_far _ _
          _ _ c.plant_child-child.ensures.planted c.entry.new.desk
          (g.R.Rows.content c.entry.new.rows) c.entry.new.self row.0 _ _ row.1
          c.entry.ensures.node.3 (c.entry.ensures.written c.args.format) c.entry.ensures.takes
          c.entry.ensures.keeps);
    }

-- ---- all entries are planted

module _ (g : Over) (t : ℕ) (c : goal.plant_node-After-loop-entry g t) where
  at_end : c.loop-entry.entry-index ≡ length (items c.args.format g.row.B.Denot c.args.node.now)
  at_end = omega (arith, ap length c.deref-entry-items.ensures.value)

  whole : map (tree_entry c.args.format)
      (take c.loop-entry.entry-index (items c.args.format g.row.B.Denot c.args.node.now)) ≡ map
      (tree_entry c.args.format) (items c.args.format g.row.B.Denot c.args.node.now)
  whole = take_all c.args.format g.row.B.Denot c.args.node.now c.loop-entry.entry-index at_end

  none_left : c.loop-entry.writer.left ≡ 0
  none_left = omega (arith, at_end, c.loop-entry.invariant.left)

pub plant_node-plant_child-tail-requires : goal.plant_node-plant_child-tail-requires
plant_node-plant_child-tail-requires g t c κs within =
    let so_far = c.loop-entry.invariant.so_far in
    let behind = (goal.at.plant_node-plant_child-tail-requires g t c).After-loop-entry in
    let none_ahead = ahead_none c.loop-entry.writer.next c.loop-entry.writer.left
    c.loop-entry.invariant.writer.reserved (none_left g t behind) in (
      search (rules, the_lemmas),
      (
        search rules,
        (
          search rules,
          (
            search rules,
            (
              node_last c.args.format g.row.B.Denot c.args.node.now c.requires.tree,
              (
                omega (
                  arith,
                  c.requires.room,
                  free_now c.args.format _ _ _ _ c.loop-entry.writer _
                      so_far,
                  ap length none_ahead,
                  node_needed c.args.format g.row.B.Denot
                      c.args.node.now,
                  ap entries_needed (whole g t behind),
                ),
                still_writable _ _ _ _ _ _ (moves_takes _ _ _ so_far.takes)
                    c.loop-entry.invariant.beside.0 c.requires.ready,
              ),
            ),
          ),
        ),
      ),
    )

pub plant_node-finish-requires-clause-writer : goal.plant_node-finish-requires-clause-writer
plant_node-finish-requires-clause-writer g t c = c.loop-entry.invariant.writer

pub plant_node-finish-requires-clause-all : goal.plant_node-finish-requires-clause-all
plant_node-finish-requires-clause-all g t c =
    none_left g t (goal.at.plant_node-finish-requires-clause-all g t c).After-loop-entry

pub plant_node-finish-requires-clause-blank : goal.plant_node-finish-requires-clause-blank
plant_node-finish-requires-clause-blank g t c =
    let blank = g.R.Rows.blank c.args.rows.now in
    let old = taken_blank _ _ _ blank c.loop-entry.invariant.so_far.takes c.requires.ready.free
    in
    let same = c.plant_child-tail.ensures.beside.0 ∙ c.loop-entry.invariant.beside.0 in
    subst (λ (b : ℕ → Bool). IsTrue (b c.loop-entry.writer.head)) (sym same) old.0

pub plant_node-finish-requires-clause-tail : goal.plant_node-finish-requires-clause-tail
plant_node-finish-requires-clause-tail g t c =
    root_small c.args.format _ _ _ _ _ _ c.plant_child-tail.ensures.planted
    (omega (arith, c.requires.ready.few, takes_length _ _ _ c.loop-entry.invariant.so_far.takes))

pub plant_node-returns-clause-planted : goal.plant_node-returns-clause-planted
plant_node-returns-clause-planted g t c =
    let A = g.row.B.Denot in
    let n = c.args.node.now in
    let behind = (goal.at.plant_node-returns-clause-planted g t c).After-loop-entry in
    let planted : (u : Tree) → Type 0 =
    λ u. Planted c.args.format c.args.desk.now c.plant_child-tail.new.desk
    (g.R.Rows.content c.args.rows.now) (g.R.Rows.content c.finish.new.rows) u c.finish.result in
    let made = node_whole c.args.format _ _ _ _ c.loop-entry.writer _ c.loop-entry.invariant.so_far
    _ _ _ _ c.plant_child-tail.ensures.planted (g.R.Rows.content c.finish.new.rows)
    (out-Node A n).layer c.finish.result (sym c.loop-entry.invariant.layer)
    c.loop-entry.invariant.writer.reserved (none_left g t behind)
    (c.finish.ensures.root c.args.format) (c.finish.ensures.stands c.args.format)
    c.finish.ensures.keeps in
    subst (λ s. Planted c.args.format c.args.desk.now s (g.R.Rows.content c.args.rows.now)
    (g.R.Rows.content c.finish.new.rows) (tree_of c.args.format n) c.finish.result)
    (sym c.finish.ensures.desk)
    (subst planted
    (ap (λ xs. node c.args.format (out-Node A n).layer
    (with_entries xs (last (tail c.args.format A n)))) (whole g t behind)
    ∙ sym (node_out c.args.format A n)) made)

pub plant_node-returns-clause-beside : goal.plant_node-returns-clause-beside
plant_node-returns-clause-beside g t c = (
  c.finish.ensures.beside.0 ∙ c.plant_child-tail.ensures.beside.0
      ∙ c.loop-entry.invariant.beside.0,
  c.finish.ensures.beside.1 ∙ c.plant_child-tail.ensures.beside.1
      ∙ c.loop-entry.invariant.beside.1,
)
