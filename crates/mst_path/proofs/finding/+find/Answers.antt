use Rattle.mst_path.proofs.Names.{◌≡◌, ◌∙◌, ◌<◌, ℕ, List, Some, IsSome, sym, ap, subst, arith, rules, IsAscending, map_get, Format, pairs, Content, part_at, State, entry_value, tree_of, EntriesLie, height_at, SearchTree, PlacedEntry}
use Rattle.mst_path.proofs.lemmas.steps.Removals.{top}
use Rattle.mst_path.proofs.lemmas.steps.Splitting.{positive}
use Rattle.mst_path.proofs.lemmas.trees.Lookups.{FindsBelow, FindsHere, lies, cut_top, finds_below, finds_here, some_value}
use Rattle.mst_path.proofs.finding.+find.Given.{Over}
use Rattle.mst_path.proofs.finding.+find.Goals.{In-Gap, In-Found}
use Rattle.mst_path.proofs.finding.+find.Goals as goal

pub cut_at-requires : goal.cut_at-requires
cut_at-requires g t c =
    let format = c.requires.tree.0 in
    let content = g.R.Rows.content c.args.rows.now in
    let s = c.requires.tree.1 in
    let z = c.requires.tree.2 in
    let some = positive c.args.link c.if-link-eq0.false in
    let o = top format content s c.args.link z c.args.key.now c.head-head.result some
    c.head-head.ensures.value in
    record {
      lies =
          subst (λ (x : Content). (es : List PlacedEntry) × EntriesLie x c.head-head.result es)
          (sym (ap g.R.Rows.content c.head-head.ensures.same)) (
            o.entries,
            lies format content s c.args.link z c.args.key.now c.head-head.result some
                c.head-head.ensures.value,
          );
    }

-- ---- the key falls into a gap

module _ (g : Over) (n : ℕ) (c : goal.In-Gap g n) where
  gap_rows : g.R.Rows.content c.cut_at.new.rows ≡ g.R.Rows.content c.args.rows.now
  gap_rows = ap g.R.Rows.content (c.cut_at.ensures.same ∙ c.head-head.ensures.same)

  below : (format : Format) (s : State)
      (z : SearchTree format (g.R.Rows.content c.args.rows.now) s c.args.link)
      → IsAscending (pairs (tree_of format z.placed)) → FindsBelow format
      (g.R.Rows.content c.args.rows.now) s c.args.link z c.args.key.now c.in-Gap.child
  below format s z rise =
      finds_below format (g.R.Rows.content c.args.rows.now) s c.args.link z c.args.key.now
      c.head-head.result (positive c.args.link c.if-link-eq0.false) c.head-head.ensures.value
      rise c.in-Gap.front c.in-Gap.back c.in-Gap.child
      (cut_top format (g.R.Rows.content c.args.rows.now) s c.args.link z c.args.key.now
      c.head-head.result (positive c.args.link c.if-link-eq0.false) c.head-head.ensures.value
      (ap g.R.Rows.content c.head-head.ensures.same) (c.cut_at.ensures.cut format) c.in-Gap.is)

pub find-requires : goal.find-requires
find-requires g t c κs within =
    let format = c.requires.tree.0 in
    let at = (goal.at.find-requires g t c).In-Gap in
    let lower = below g t at format c.requires.tree.1 c.requires.tree.2 c.requires.tree.3 in
    let same = gap_rows g t at in
    let falls =
    subst (λ (x : Content). height_at x c.in-Gap.child < height_at
    (g.R.Rows.content c.args.rows.now) c.args.link) (sym same) lower.falls in (
      omega (arith, c.decreases, falls),
      (
        search rules,
        subst (λ (x : Content). (f : Format) × (q : State) × (y : SearchTree f x q c.in-Gap.child)
            × IsAscending (pairs (tree_of f y.placed))) (sym same)
            (format, c.requires.tree.1, lower.inner, lower.rise),
      ),
    )

pub returns-in-Gap-clause-found : goal.returns-in-Gap-clause-found
returns-in-Gap-clause-found g t c = λ format s z rise.
    let at = (goal.at.returns-in-Gap-clause-found g t c).In-Gap in
    let lower = below g t at format s z rise in
    let found =
    subst (λ (x : Content). (q : State) (y : SearchTree format x q c.in-Gap.child)
    → IsAscending (pairs (tree_of format y.placed)) → c.find.result ≡ map_get
    (pairs (tree_of format y.placed)) c.args.key.now) (gap_rows g t at)
    (c.find.ensures.found format) s lower.inner lower.rise in
    found ∙ sym lower.same

-- ---- the key's entry is held

module _ (g : Over) (n : ℕ) (c : goal.In-Found g n) where
  held_rows : g.R.Rows.content c.cut_at.new.rows ≡ g.R.Rows.content c.args.rows.now
  held_rows = ap g.R.Rows.content (c.cut_at.ensures.same ∙ c.head-head.ensures.same)

  here : (format : Format) (s : State)
      (z : SearchTree format (g.R.Rows.content c.args.rows.now) s c.args.link)
      → IsAscending (pairs (tree_of format z.placed)) → FindsHere format
      (g.R.Rows.content c.args.rows.now) s c.args.link z c.args.key.now c.in-Found.row
  here format s z rise =
      finds_here format (g.R.Rows.content c.args.rows.now) s c.args.link z c.args.key.now
      c.head-head.result (positive c.args.link c.if-link-eq0.false) c.head-head.ensures.value
      rise c.in-Found.front c.in-Found.back c.in-Found.row c.in-Found.child
      (cut_top format (g.R.Rows.content c.args.rows.now) s c.args.link z c.args.key.now
      c.head-head.result (positive c.args.link c.if-link-eq0.false) c.head-head.ensures.value
      (ap g.R.Rows.content c.head-head.ensures.same) (c.cut_at.ensures.cut format) c.in-Found.is)

pub value-requires : goal.value-requires
value-requires g t c =
    let format = c.requires.tree.0 in
    let at = (goal.at.value-requires g t c).In-Found in
    let found = here g t at format c.requires.tree.1 c.requires.tree.2 c.requires.tree.3 in
    record {
      there = subst (λ (x : Content). IsSome (part_at entry_value x c.in-Found.row))
          (sym (held_rows g t at))
          (some_value (g.R.Rows.content c.args.rows.now) c.in-Found.row found.value found.there);
    }

pub returns-in-Found-clause-found : goal.returns-in-Found-clause-found
returns-in-Found-clause-found g t c = λ format s z rise.
    let at = (goal.at.returns-in-Found-clause-found g t c).In-Found in
    let found = here g t at format s z rise in
    let read : part_at entry_value (g.R.Rows.content c.args.rows.now) c.in-Found.row ≡ Some
    c.value.result = ap (λ (x : Content). part_at entry_value x c.in-Found.row)
    (sym (held_rows g t at)) ∙ c.value.ensures.value in
    sym read ∙ found.there ∙ sym found.same
