use Rattle.mst_path.proofs.Names.{◌≡◌, ◌≤◌, ◌<◌, ◌-◌, ◌==◌, ◌&&◌, ℕ, List, None, true, true≢false, refl, sym, ◌∙◌, ap, subst, arith, rules, and_parts, Content, free_count, times, HeadLinks, tree_of, used, rows_of, HasRows, Frame, EntryRun, below, above, is_empty, split_rows, RowsAreWritable, Split, tail_behind, EntriesLie, height_at, OpensGap, ToSplit, PlacedEntry}
use Rattle.mst_path.proofs.lemmas.rows.CopyRows.{still_writable}
use Rattle.mst_path.proofs.lemmas.trees.Lookups.{lies, cut_top}
use Rattle.mst_path.proofs.lemmas.steps.Removals.{top, opens_gap, opens_entry}
use Rattle.mst_path.proofs.lemmas.steps.Splitting.{positive, split_none, no_entry, split_inner, split_falls, split_room, above_is, below_is}
use Rattle.mst_path.proofs.lemmas.steps.SplitSides.{all_below, all_above, both, count_is, split_made, shared_made_below, shared_made_above}
use Rattle.mst_path.proofs.split.+split.Given.{Over}
use Rattle.mst_path.proofs.split.+split.Goals.{In-Gap, After-split}
use Rattle.mst_path.proofs.split.+split.Goals as goal

pub returns-then-link-eq0-clause-split : goal.returns-then-link-eq0-clause-split
returns-then-link-eq0-clause-split g n c t = split_none c.args.format _ _ _ _ _ _ c.if-link-eq0.true
    (c.nothing.ensures.root c.args.format) (c.nothing-then-link-eq0.ensures.root c.args.format) t

-- what is left of the node with this head round a gap
abbrev frame_of : HeadLinks → ℕ → EntryRun → EntryRun → Frame
frame_of h link front back = record {
  layer = h.layer;
  front = front;
  back = back;
  tail = tail_behind back.count h.tail;
  head = link - 1;
  other = None;
}

-- ---- the head is read

pub cut_at-requires : goal.cut_at-requires
cut_at-requires g n c =
    let C = g.R.Rows.content c.args.rows.now in
    let t = c.requires.tree.0.tree in
    let some = positive c.args.link c.if-link-eq0.false in
    let o = top c.args.format C c.args.desk.now c.args.link t c.args.key.now c.head-head.result some
    c.head-head.ensures.value in
    record {
      lies =
          subst (λ (x : Content). (es : List PlacedEntry) × EntriesLie x c.head-head.result es)
          (sym (ap g.R.Rows.content c.head-head.ensures.same)) (
            o.entries,
            lies c.args.format C c.args.desk.now c.args.link t c.args.key.now c.head-head.result
                some c.head-head.ensures.value,
          );
    }

pub unreachable-requires : goal.unreachable-requires
unreachable-requires g n c =
    let C = g.R.Rows.content c.args.rows.now in
    let t = c.requires.tree.0 in
    let some = positive c.args.link c.if-link-eq0.false in
    let cut = cut_top c.args.format C c.args.desk.now c.args.link t.tree c.args.key.now
    c.head-head.result some c.head-head.ensures.value (ap g.R.Rows.content c.head-head.ensures.same)
    (c.cut_at.ensures.cut c.args.format) c.in_default.is in
    no_entry c.args.format C c.args.desk.now c.args.link c.args.key.now t _
    (opens_entry c.args.format C c.args.desk.now c.args.link t.tree c.args.key.now
    c.head-head.result some c.head-head.ensures.value c.in_default.field-0 c.in_default.field-3
    c.in_default.field-1 c.in_default.field-2 _ _ cut refl refl)

-- ---- the key falls into a gap

module _ (g : Over) (n : ℕ) (c : goal.In-Gap g n)
    (t : ToSplit c.args.format (g.R.Rows.content c.args.rows.now) c.args.desk.now c.args.link
    c.args.key.now) where
  opened : OpensGap c.args.format (g.R.Rows.content c.args.rows.now) c.args.desk.now c.args.link
      t.tree c.args.key.now c.in-Gap.child
      (frame_of c.head-head.result c.args.link c.in-Gap.front c.in-Gap.back)
  opened =
      let C = g.R.Rows.content c.args.rows.now in
      let some = positive c.args.link c.if-link-eq0.false in
      opens_gap c.args.format C c.args.desk.now c.args.link t.tree c.args.key.now c.head-head.result
      some c.head-head.ensures.value c.in-Gap.front c.in-Gap.back c.in-Gap.child
      (tail_behind c.in-Gap.back.count c.head-head.result.tail)
      (cut_top c.args.format C c.args.desk.now c.args.link t.tree c.args.key.now c.head-head.result
      some c.head-head.ensures.value (ap g.R.Rows.content c.head-head.ensures.same)
      (c.cut_at.ensures.cut c.args.format) c.in-Gap.is) refl

pub split-requires : goal.split-requires
split-requires g n c κs within =
    let C = g.R.Rows.content c.args.rows.now in
    let t = c.requires.tree.0 in
    let s = c.args.desk.now in
    let o = opened g n (goal.at.split-requires g n c).In-Gap t in
    let same = ap g.R.Rows.content (c.cut_at.ensures.same ∙ c.head-head.ensures.same) in
    let falls =
    subst (λ (x : Content). height_at x c.in-Gap.child < height_at C c.args.link) (sym same)
    (split_falls c.args.format C s c.args.link c.args.key.now t c.in-Gap.child _ o) in (
      omega (arith, c.decreases, falls),
      (
        search rules,
        (
          search rules,
          (
            subst (λ (x : Content). (u : ToSplit c.args.format x s c.in-Gap.child c.args.key.now)
                × (split_rows c.args.key.now (tree_of c.args.format u.tree.placed) ≤ free_count
                s.lives)) (sym same) (
                  split_inner c.args.format C s c.args.link c.args.key.now t c.in-Gap.child _ o,
                  omega (
                    arith,
                    c.requires.tree.1,
                    split_room c.args.format C s c.args.link c.args.key.now t c.in-Gap.child _ o,
                  ),
                ),
            subst (RowsAreWritable s.lives)
                (sym (ap g.R.Rows.blank (c.cut_at.ensures.same ∙ c.head-head.ensures.same)))
                c.requires.ready,
          ),
        ),
      ),
    )

-- ---- the tree in the gap is split

module _ (g : Over) (n : ℕ) (c : goal.After-split g n)
    (t : ToSplit c.args.format (g.R.Rows.content c.args.rows.now) c.args.desk.now c.args.link
    c.args.key.now)
    (o : OpensGap c.args.format (g.R.Rows.content c.args.rows.now) c.args.desk.now c.args.link
    t.tree c.args.key.now c.in-Gap.child
    (frame_of c.head-head.result c.args.link c.in-Gap.front c.in-Gap.back)) where
  same : g.R.Rows.content c.cut_at.new.rows ≡ g.R.Rows.content c.args.rows.now
  same = ap g.R.Rows.content (c.cut_at.ensures.same ∙ c.head-head.ensures.same)

  abbrev inner : ToSplit c.args.format (g.R.Rows.content c.args.rows.now) c.args.desk.now
      c.in-Gap.child c.args.key.now
  inner = split_inner c.args.format (g.R.Rows.content c.args.rows.now) c.args.desk.now c.args.link
      c.args.key.now t c.in-Gap.child
      (frame_of c.head-head.result c.args.link c.in-Gap.front c.in-Gap.back) o

  parted : Split c.args.format (g.R.Rows.content c.args.rows.now)
      (g.R.Rows.content c.split.new.rows) c.args.desk.now c.split.new.desk
      (below c.args.key.now (tree_of c.args.format o.inner.placed))
      (above c.args.key.now (tree_of c.args.format o.inner.placed))
      c.split.result.0 c.split.result.1 (λ x. times x (used o.inner.placed))
      (split_rows c.args.key.now (tree_of c.args.format o.inner.placed))
  parted =
      subst (λ (x : Content).
      (u : ToSplit c.args.format x c.args.desk.now c.in-Gap.child c.args.key.now)
      → Split c.args.format x (g.R.Rows.content c.split.new.rows) c.args.desk.now c.split.new.desk
      (below c.args.key.now (tree_of c.args.format u.tree.placed))
      (above c.args.key.now (tree_of c.args.format u.tree.placed)) c.split.result.0 c.split.result.1
      (λ x. times x (used u.tree.placed))
      (split_rows c.args.key.now (tree_of c.args.format u.tree.placed))) same c.split.ensures.split
      inner

  -- a tree that is all on one side leaves the rows and the desk as they were
  under : ((c.in-Gap.back.count == 0) && (c.split.result.1.link == 0)) ≡ true
      → is_empty (above c.args.key.now (tree_of c.args.format t.tree.placed)) ≡ true
  under none = all_below c.args.format t o refl parted ∙ none

  over : ((c.in-Gap.front.count == 0) && (c.split.result.0.link == 0)) ≡ true
      → is_empty (below c.args.key.now (tree_of c.args.format t.tree.placed)) ≡ true
  over none = all_above c.args.format t o refl parted ∙ none

  whole : (c.split.new.rows ≡ c.cut_at.new.rows) × (c.split.new.desk ≡ c.args.desk.now)
      → (c.split.new.rows ≡ c.args.rows.now) × (c.split.new.desk ≡ c.args.desk.now)
  whole kept = (kept.0 ∙ c.cut_at.ensures.same ∙ c.head-head.ensures.same, kept.1)

  kept_under : ((c.in-Gap.back.count == 0) && (c.split.result.1.link == 0)) ≡ true
      → (c.split.new.rows ≡ c.args.rows.now) × (c.split.new.desk ≡ c.args.desk.now)
  kept_under none =
      whole (subst
      (λ (x : Content). (u : ToSplit c.args.format x c.args.desk.now c.in-Gap.child c.args.key.now)
      → is_empty (above c.args.key.now (tree_of c.args.format u.tree.placed)) ≡ true
      → (c.split.new.rows ≡ c.cut_at.new.rows) × (c.split.new.desk ≡ c.args.desk.now)) same
      c.split.ensures.shared_below inner
      (and_parts _ _ (sym (above_is c.args.format (g.R.Rows.content c.args.rows.now)
      c.args.desk.now c.args.link c.args.key.now t c.in-Gap.child _ o) ∙ under none)).1)

  kept_over : ((c.in-Gap.front.count == 0) && (c.split.result.0.link == 0)) ≡ true
      → (c.split.new.rows ≡ c.args.rows.now) × (c.split.new.desk ≡ c.args.desk.now)
  kept_over none =
      whole (subst
      (λ (x : Content). (u : ToSplit c.args.format x c.args.desk.now c.in-Gap.child c.args.key.now)
      → is_empty (below c.args.key.now (tree_of c.args.format u.tree.placed)) ≡ true
      → (c.split.new.rows ≡ c.cut_at.new.rows) × (c.split.new.desk ≡ c.args.desk.now)) same
      c.split.ensures.shared_above inner
      (and_parts _ _ (sym (below_is c.args.format (g.R.Rows.content c.args.rows.now)
      c.args.desk.now c.args.link c.args.key.now t c.in-Gap.child _ o) ∙ over none)).1)

  stands : c.split.new.rows ≡ c.args.rows.now → HasRows (g.R.Rows.content c.split.new.rows)
      (rows_of c.args.format t.tree.placed)
  stands kept = subst (λ (x : Content). HasRows x (rows_of c.args.format t.tree.placed))
      (sym (ap g.R.Rows.content kept)) t.tree.piece.rows

-- ---- all is below the key

pub root_at-requires : goal.root_at-requires
root_at-requires g n c =
    let at = goal.at.root_at-requires g n c in
    let t = c.requires.tree.0 in
    let o = opened g n at.In-Gap t in
    record {
      stands = (
        c.args.format,
        t.tree.placed,
        t.tree.at,
        stands g n at.After-split t o
            (kept_under g n at.After-split t o (sym c.is_none.ensures.none ∙ c.if-is_none.true)).0,
      );
    }

pub returns-then-is_none-clause-split : goal.returns-then-is_none-clause-split
returns-then-is_none-clause-split g n c t =
    let at = goal.at.returns-then-is_none-clause-split g n c in
    let none = sym c.is_none.ensures.none ∙ c.if-is_none.true in
    let o = opened g n at.In-Gap t in
    let kept = kept_under g n at.After-split t o none in
    shared_made_below c.args.format t o refl (parted g n at.After-split t o) kept.1 refl
    (under g n at.After-split t o none) _ (ap g.R.Rows.content (c.root_at.ensures.same ∙ kept.0)) _
    _
    (c.root_at.ensures.root c.args.format t.tree.placed t.tree.at
    (stands g n at.After-split t o kept.0))
    (c.nothing-then-is_none.ensures.root c.args.format)

pub returns-then-is_none-clause-shared_below : goal.returns-then-is_none-clause-shared_below
returns-then-is_none-clause-shared_below g n c t given =
    let at = goal.at.returns-then-is_none-clause-shared_below g n c in
    let kept = kept_under g n at.After-split t (opened g n at.In-Gap t)
    (sym c.is_none.ensures.none ∙ c.if-is_none.true) in
    (c.root_at.ensures.same ∙ kept.0, kept.1)

pub returns-then-is_none-clause-shared_above : goal.returns-then-is_none-clause-shared_above
returns-then-is_none-clause-shared_above g n c t given =
    let at = goal.at.returns-then-is_none-clause-shared_above g n c in
    let kept = kept_under g n at.After-split t (opened g n at.In-Gap t)
    (sym c.is_none.ensures.none ∙ c.if-is_none.true) in
    (c.root_at.ensures.same ∙ kept.0, kept.1)

-- ---- all is above the key

pub root_at-requires-then-is_none-2 : goal.root_at-requires-then-is_none-2
root_at-requires-then-is_none-2 g n c =
    let at = goal.at.root_at-requires-then-is_none-2 g n c in
    let t = c.requires.tree.0 in
    let o = opened g n at.In-Gap t in
    record {
      stands = (
        c.args.format,
        t.tree.placed,
        t.tree.at,
        stands g n at.After-split t o
            (kept_over g n at.After-split t o
            (sym c.is_none-2.ensures.none ∙ c.if-is_none-2.true)).0,
      );
    }

pub returns-then-is_none-2-clause-split : goal.returns-then-is_none-2-clause-split
returns-then-is_none-2-clause-split g n c t =
    let at = goal.at.returns-then-is_none-2-clause-split g n c in
    let none = sym c.is_none-2.ensures.none ∙ c.if-is_none-2.true in
    let o = opened g n at.In-Gap t in
    let kept = kept_over g n at.After-split t o none in
    shared_made_above c.args.format t o refl (parted g n at.After-split t o) kept.1 refl
    (over g n at.After-split t o none) _
    (ap g.R.Rows.content (c.root_at-then-is_none-2.ensures.same ∙ kept.0)) _ _
    (c.nothing-then-is_none-2.ensures.root c.args.format)
    (c.root_at-then-is_none-2.ensures.root c.args.format t.tree.placed t.tree.at
    (stands g n at.After-split t o kept.0))

pub returns-then-is_none-2-clause-shared_below : goal.returns-then-is_none-2-clause-shared_below
returns-then-is_none-2-clause-shared_below g n c t given =
    let at = goal.at.returns-then-is_none-2-clause-shared_below g n c in
    let kept = kept_over g n at.After-split t (opened g n at.In-Gap t)
    (sym c.is_none-2.ensures.none ∙ c.if-is_none-2.true) in
    (c.root_at-then-is_none-2.ensures.same ∙ kept.0, kept.1)

pub returns-then-is_none-2-clause-shared_above : goal.returns-then-is_none-2-clause-shared_above
returns-then-is_none-2-clause-shared_above g n c t given =
    let at = goal.at.returns-then-is_none-2-clause-shared_above g n c in
    let kept = kept_over g n at.After-split t (opened g n at.In-Gap t)
    (sym c.is_none-2.ensures.none ∙ c.if-is_none-2.true) in
    (c.root_at-then-is_none-2.ensures.same ∙ kept.0, kept.1)

-- ---- there is something on both sides

pub both_sides-requires-clause-parts : goal.both_sides-requires-clause-parts
both_sides-requires-clause-parts g n c =
    let at = goal.at.both_sides-requires-clause-parts g n c in
    let t = c.requires.tree.0 in
    let o = opened g n at.In-Gap t in
    rw c.front_part-left.ensures.part
    (rw c.back_part-right.ensures.part
    (both c.args.format t o refl (parted g n at.After-split t o) refl refl))

pub both_sides-requires-clause-low : goal.both_sides-requires-clause-low
both_sides-requires-clause-low g n c =
    let low = (opened g n (goal.at.both_sides-requires-clause-low g n c).In-Gap
    c.requires.tree.0).low in
    rw c.front_part-left.ensures.part (rw c.back_part-right.ensures.part (low, low))

pub both_sides-requires-clause-room : goal.both_sides-requires-clause-room
both_sides-requires-clause-room g n c =
    let at = goal.at.both_sides-requires-clause-room g n c in
    let t = c.requires.tree.0 in
    let o = opened g n at.In-Gap t in
    let r = parted g n at.After-split t o in
    rw c.front_part-left.ensures.part
    (rw c.back_part-right.ensures.part
    (omega (
      arith,
      c.requires.tree.1,
      r.moves.room,
      r.counted,
      count_is c.args.format t o refl r refl refl
          (sym c.is_none.ensures.none ∙ c.if-is_none.false)
          (sym c.is_none-2.ensures.none ∙ c.if-is_none-2.false),
    )))

pub both_sides-requires-clause-ready : goal.both_sides-requires-clause-ready
both_sides-requires-clause-ready g n c =
    let at = goal.at.both_sides-requires-clause-ready g n c in
    let t = c.requires.tree.0 in
    let r = parted g n at.After-split t (opened g n at.In-Gap t) in
    still_writable _ _ _ _ _ _ r.moves
    (c.split.ensures.beside.0 ∙ ap g.R.Rows.blank
    (c.cut_at.ensures.same ∙ c.head-head.ensures.same))
    c.requires.ready

pub returns-clause-split : goal.returns-clause-split
returns-clause-split g n c t =
    let at = goal.at.returns-clause-split g n c in
    let o = opened g n at.In-Gap t in
    let r = parted g n at.After-split t o in
    let each = c.both_sides.ensures.made in
    let made = (rw (c.front_part-left.ensures.part, c.back_part-right.ensures.part) at each)
    (both c.args.format t o refl r refl refl) in
    split_made c.args.format t o refl r refl refl
    (sym c.is_none.ensures.none ∙ c.if-is_none.false)
    (sym c.is_none-2.ensures.none ∙ c.if-is_none-2.false) refl _ _ _ _ made

pub returns-clause-shared_below : goal.returns-clause-shared_below
returns-clause-shared_below g n c t e =
    let at = goal.at.returns-clause-shared_below g n c in
    absurd (true≢false
    (sym e ∙ all_below c.args.format t (opened g n at.In-Gap t) refl
    (parted g n at.After-split t (opened g n at.In-Gap t))
    ∙ sym c.is_none.ensures.none ∙ c.if-is_none.false))

pub returns-clause-shared_above : goal.returns-clause-shared_above
returns-clause-shared_above g n c t e =
    let at = goal.at.returns-clause-shared_above g n c in
    absurd (true≢false
    (sym e ∙ all_above c.args.format t (opened g n at.In-Gap t) refl
    (parted g n at.After-split t (opened g n at.In-Gap t))
    ∙ sym c.is_none-2.ensures.none ∙ c.if-is_none-2.false))
