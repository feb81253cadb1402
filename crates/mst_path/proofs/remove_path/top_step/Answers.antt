use Rattle.mst_path.proofs.Names.{Format, ◌≡◌, ◌∙◌, ◌-◌, List, ◌∷◌, sym, ap, subst, rules, Content, State, link_of, HasRows, EntriesLie, gap_before, CutGap, CutFound, SearchTree, own_rows, PlacedEntry}
use Rattle.mst_path.proofs.lemmas.trees.Lookups.{lies, cut_top}
use Rattle.mst_path.proofs.lemmas.trees.Opening.{Opened}
use Rattle.mst_path.proofs.lemmas.trees.Parting.{back_rows}
use Rattle.mst_path.proofs.lemmas.steps.Removals.{top, opens_gap, opens_entry}
use Rattle.mst_path.proofs.remove_path.top_step.Given.{Over}
use Rattle.mst_path.proofs.remove_path.top_step.Goals.{In-Gap, In-Found, After-first_tree-right}
use Rattle.mst_path.proofs.remove_path.top_step.Goals as goal

pub cut_at-requires : goal.cut_at-requires
cut_at-requires g c =
    let format = c.requires.tree.0 in
    let s = c.requires.tree.1 in
    let t = c.requires.tree.2 in
    let o = top format (g.R.Rows.content c.args.rows.now) s c.args.link t c.args.key.now
    c.head-head.result c.requires.some c.head-head.ensures.value in
    record {
      lies =
          subst (λ (x : Content). (es : List PlacedEntry) × EntriesLie x c.head-head.result es)
          (sym (ap g.R.Rows.content c.head-head.ensures.same)) (
            o.entries,
            lies format (g.R.Rows.content c.args.rows.now) s c.args.link t c.args.key.now
                c.head-head.result c.requires.some c.head-head.ensures.value,
          );
    }

-- ---- the key falls into a gap

module _ (g : Over) (c : goal.In-Gap g) (format : Format) (s : State)
    (t : SearchTree format (g.R.Rows.content c.args.rows.now) s c.args.link) where
  abbrev parted : Opened format (g.R.Rows.content c.args.rows.now) s t.placed (c.args.link - 1)
      c.head-head.result
  parted = top format (g.R.Rows.content c.args.rows.now) s c.args.link t c.args.key.now
      c.head-head.result c.requires.some c.head-head.ensures.value

  gap : CutGap format c.args.key.now parted.entries parted.tail c.in-Gap.front c.in-Gap.child
      c.in-Gap.back
  gap = cut_top format (g.R.Rows.content c.args.rows.now) s c.args.link t c.args.key.now
      c.head-head.result c.requires.some c.head-head.ensures.value
      (ap g.R.Rows.content c.head-head.ensures.same) (c.cut_at.ensures.cut format) c.in-Gap.is

pub returns-in-Gap-clause-opened : goal.returns-in-Gap-clause-opened
returns-in-Gap-clause-opened g c = λ format s t.
    opens_gap format (g.R.Rows.content c.args.rows.now) s c.args.link t c.args.key.now
    c.head-head.result c.requires.some c.head-head.ensures.value c.in-Gap.front c.in-Gap.back
    c.in-Gap.child c.kept_tail.result
    (gap g (goal.at.returns-in-Gap-clause-opened g c).In-Gap format s t)
    c.kept_tail.ensures.tail

-- ---- the key's entry is found

module _ (g : Over) (c : goal.In-Found g) (format : Format) (s : State)
    (t : SearchTree format (g.R.Rows.content c.args.rows.now) s c.args.link) where
  abbrev opened : Opened format (g.R.Rows.content c.args.rows.now) s t.placed (c.args.link - 1)
      c.head-head.result
  opened = top format (g.R.Rows.content c.args.rows.now) s c.args.link t c.args.key.now
      c.head-head.result c.requires.some c.head-head.ensures.value

  found : CutFound format c.args.key.now opened.entries opened.tail c.in-Found.front c.in-Found.row
      c.in-Found.child c.in-Found.back
  found = cut_top format (g.R.Rows.content c.args.rows.now) s c.args.link t c.args.key.now
      c.head-head.result c.requires.some c.head-head.ensures.value
      (ap g.R.Rows.content c.head-head.ensures.same) (c.cut_at.ensures.cut format) c.in-Found.is

  rows_behind : HasRows (g.R.Rows.content c.cut_at.new.rows) (own_rows 0 found.behind)
  rows_behind =
      let all =
      subst (λ (l : List PlacedEntry). HasRows (g.R.Rows.content c.args.rows.now)
      (own_rows 0 l)) found.whole opened.run.rows in
      subst (λ (x : Content). HasRows x (own_rows 0 found.behind))
      (sym (ap g.R.Rows.content (c.cut_at.ensures.same ∙ c.head-head.ensures.same)))
      (back_rows (g.R.Rows.content c.args.rows.now) found.before (found.here ∷ found.behind) all).1

module _ (g : Over) (c : goal.After-first_tree-right g) (format : Format) (s : State)
    (t : SearchTree format (g.R.Rows.content c.args.rows.now) s c.args.link)
    (o : Opened format (g.R.Rows.content c.args.rows.now) s t.placed (c.args.link - 1)
    c.head-head.result)
    (h : CutFound format c.args.key.now o.entries o.tail c.in-Found.front c.in-Found.row
    c.in-Found.child c.in-Found.back) where
  right_at : HasRows (g.R.Rows.content c.cut_at.new.rows) (own_rows 0 h.behind)
      → link_of (gap_before h.behind o.tail) ≡ c.first_tree-right.result
  right_at rows = c.first_tree-right.ensures.tree h.behind o.tail h.back_is rows o.tail_at

pub first_tree-right-requires : goal.first_tree-right-requires
first_tree-right-requires g c =
    let format = c.requires.tree.0 in
    let at = (goal.at.first_tree-right-requires g c).In-Found in
    let h = found g at format c.requires.tree.1 c.requires.tree.2 in
    record {
      run =
          (h.behind, h.back_is, rows_behind g at format c.requires.tree.1 c.requires.tree.2);
    }

pub returns-in-Found-clause-opened : goal.returns-in-Found-clause-opened
returns-in-Found-clause-opened g c = λ format s t.
    let at = goal.at.returns-in-Found-clause-opened g c in
    opens_entry format (g.R.Rows.content c.args.rows.now) s c.args.link t c.args.key.now
    c.head-head.result c.requires.some c.head-head.ensures.value c.in-Found.front c.in-Found.back
    c.in-Found.row c.in-Found.child c.first_tree-right.result c.kept_tail-in-Found.result
    (found g at.In-Found format s t)
    (right_at g at.After-first_tree-right format s t (opened g at.In-Found format s t)
    (found g at.In-Found format s t) (rows_behind g at.In-Found format s t))
    c.kept_tail-in-Found.ensures.tail

pub overflow_sub-link : goal.overflow_sub-link
overflow_sub-link g c = search rules

pub head-head-requires : goal.head-head-requires
head-head-requires g c = search rules

pub overflow_sub-result : goal.overflow_sub-result
overflow_sub-result g c = search rules

pub overflow_sub-frame : goal.overflow_sub-frame
overflow_sub-frame g c = search rules

pub returns-in-Gap-clause-same : goal.returns-in-Gap-clause-same
returns-in-Gap-clause-same g c = search rules

pub returns-in-Found-clause-same : goal.returns-in-Found-clause-same
returns-in-Found-clause-same g c = search rules
