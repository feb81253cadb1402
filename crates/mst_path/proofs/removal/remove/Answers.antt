use Rattle.mst_path.proofs.Names.{◌≡◌, ◌∙◌, ◌≤◌, ◌<◌, ◌+◌, List, Bool, length, Some, None, sym, ap, subst, arith, rules, MatchBool, Pair, map_get, Format, Content, State, free_count, Stands, numbers, Grown, SearchTree, in_tree, without, without_rows, AreOld}
use Rattle.mst_path.proofs.lemmas.versions.Changes.{any_old, search_at, rises, says}
use Rattle.mst_path.proofs.lemmas.versions.Removed.{least_new, cost_found, AfterRemove, after_found, after_none}
use Rattle.mst_path.proofs.removal.remove.Given.{Over}
use Rattle.mst_path.proofs.removal.remove.Goals.{After-find, After-remove_fits, After-remove_at-new}
use Rattle.mst_path.proofs.removal.remove.Goals as goal

pub find-requires : goal.find-requires
find-requires g c =
    record {
      tree = (
        c.args.format,
        c.args.desk.now,
        search_at c.args.format (g.R.Rows.content c.args.rows.now)
            c.args.desk.now c.args.root.now c.requires.stands.0 c.requires.stands.1
            c.requires.stands.2,
        rises c.args.format (g.R.Rows.content c.args.rows.now) c.args.root.now c.requires.stands.0
            c.requires.stands.1,
      );
    }

-- ---- the value that the key had

module _ (g : Over) (c : goal.After-find g) where
  found : (m : List Pair) → Stands c.args.format (g.R.Rows.content c.args.rows.now) c.args.root.now
      m → map_get m c.args.key.now ≡ c.find.result
  found = says c.args.format (g.R.Rows.content c.args.rows.now) c.args.desk.now c.args.root.now
      c.args.key.now c.requires.stands c.find.result
      (rw c.new-sought.ensures.key at (c.find.ensures.found c.args.format))

pub returns-in_default-clause-value : goal.returns-in_default-clause-value
returns-in_default-clause-value g c m st =
    sym (found g (goal.at.returns-in_default-clause-value g c).After-find m st ∙ c.in_default.is)

pub returns-clause-value : goal.returns-clause-value
returns-clause-value g c m st =
    sym (found g (goal.at.returns-clause-value g c).After-find m st ∙ c.in-Some.is)

pub returns-clause-absent : goal.returns-clause-absent
returns-clause-absent g c m st none =
    let had = found g (goal.at.returns-clause-absent g c).After-find m st ∙ c.in-Some.is in
    absurd (let no : Some c.in-Some.value ≡ None = sym had ∙ none in cc)

-- ---- the key has no value

module _ (g : Over) (c : goal.After-find g) (none : c.find.result ≡ None) where
  nothing : AfterRemove c.args.format (g.R.Rows.content c.args.rows.now)
      (g.R.Rows.content c.find.new.rows) c.args.desk.now c.args.desk.now c.args.root.now
      c.args.root.now c.args.key.now
  nothing =
      subst (λ (x : Content). AfterRemove c.args.format (g.R.Rows.content c.args.rows.now) x
      c.args.desk.now c.args.desk.now c.args.root.now c.args.root.now c.args.key.now)
      (sym (ap g.R.Rows.content c.find.ensures.same))
      (after_none c.args.format (g.R.Rows.content c.args.rows.now) c.args.desk.now c.args.root.now
      c.args.key.now c.requires.stands (λ m st. found g c m st ∙ none))

pub returns-in_default-clause-stands : goal.returns-in_default-clause-stands
returns-in_default-clause-stands g c =
    (nothing g (goal.at.returns-in_default-clause-stands g c).After-find c.in_default.is).stands

pub returns-in_default-clause-cost : goal.returns-in_default-clause-cost
returns-in_default-clause-cost g c =
    (nothing g (goal.at.returns-in_default-clause-cost g c).After-find c.in_default.is).counted

pub returns-in_default-clause-changes : goal.returns-in_default-clause-changes
returns-in_default-clause-changes g c =
    (nothing g (goal.at.returns-in_default-clause-changes g c).After-find c.in_default.is).changes

pub returns-in_default-clause-made : goal.returns-in_default-clause-made
returns-in_default-clause-made g c =
    (nothing g (goal.at.returns-in_default-clause-made g c).After-find c.in_default.is).made

-- ---- the room

pub remove_fits-requires : goal.remove_fits-requires
remove_fits-requires g c =
    let one = c.requires.stands in
    let least = least_new c.args.format (g.R.Rows.content c.args.rows.now) c.args.desk.now
    c.args.root.now one.0 one.1 c.args.key.now one.2 in
    record {
      tree =
          rw (sym c.new-sought.ensures.key) at
          (subst (λ (x : Content). (f : Format) × (q : State)
          × (t : SearchTree f x q c.args.root.now.link)
          × (without_rows f t c.args.key.now ≤ length c.args.desk.now.lives))
          (sym (ap g.R.Rows.content c.find.ensures.same)) (
            c.args.format,
            c.args.desk.now,
            search_at c.args.format (g.R.Rows.content c.args.rows.now)
                c.args.desk.now c.args.root.now one.0 one.1 one.2,
            omega (arith, least),
          ));
    }

module _ (g : Over) (c : goal.After-remove_fits g) (m : List Pair)
    (st : Stands c.args.format (g.R.Rows.content c.args.rows.now) c.args.root.now m)
    (old : AreOld c.args.desk.now (numbers st)) where
  abbrev tree : SearchTree c.args.format (g.R.Rows.content c.args.rows.now) c.args.desk.now
      c.args.root.now.link
  tree = search_at c.args.format (g.R.Rows.content c.args.rows.now) c.args.desk.now c.args.root.now
      m st old

  fits : MatchBool c.remove_fits.result
      (without_rows c.args.format tree c.args.key.now ≤ free_count c.args.desk.now.lives)
      (free_count c.args.desk.now.lives < without_rows c.args.format tree c.args.key.now)
  fits =
      subst (λ (x : Content). (q : State) (t : SearchTree c.args.format x q c.args.root.now.link)
      → without_rows c.args.format t c.args.key.now + free_count c.args.desk.now.lives
      ≤ length c.args.desk.now.lives
      → MatchBool c.remove_fits.result
      (without_rows c.args.format t c.args.key.now ≤ free_count c.args.desk.now.lives)
      (free_count c.args.desk.now.lives < without_rows c.args.format t c.args.key.now))
      (ap g.R.Rows.content c.find.ensures.same)
      (rw c.new-sought.ensures.key at (c.remove_fits.ensures.fits c.args.format)) c.args.desk.now
      tree
      (least_new c.args.format (g.R.Rows.content c.args.rows.now) c.args.desk.now c.args.root.now m
      st c.args.key.now old)

pub returns-then-not-remove_fits-clause-no_room :
    goal.returns-then-not-remove_fits-clause-no_room
returns-then-not-remove_fits-clause-no_room g c m st =
    let at = goal.at.returns-then-not-remove_fits-clause-no_room g c in
    let old = any_old c.args.format (g.R.Rows.content c.args.rows.now) c.args.desk.now
    c.args.root.now c.requires.stands m st in
    let cost = cost_found c.args.format (g.R.Rows.content c.args.rows.now) c.args.desk.now
    c.args.root.now m st c.args.key.now c.in-Some.value
    (found g at.After-find m st ∙ c.in-Some.is) in
    let t = tree g at.After-remove_fits m st old in
    let lacks = subst (λ (b : Bool). MatchBool b
    (without_rows c.args.format t c.args.key.now ≤ free_count c.args.desk.now.lives)
    (free_count c.args.desk.now.lives < without_rows c.args.format t c.args.key.now))
    c.if-not-remove_fits.true (fits g at.After-remove_fits m st old) in
    omega (arith, lacks, cost)

pub remove_at-new-requires-clause-tree : goal.remove_at-new-requires-clause-tree
remove_at-new-requires-clause-tree g c =
    let at = (goal.at.remove_at-new-requires-clause-tree g c).After-remove_fits in
    rw (sym c.new-sought.ensures.key) at
    (subst (λ (x : Content).
    (t : SearchTree c.args.format x c.args.desk.now c.args.root.now.link)
    × (without_rows c.args.format t c.args.key.now ≤ free_count c.args.desk.now.lives))
    (sym (ap g.R.Rows.content (c.remove_fits.ensures.same ∙ c.find.ensures.same))) (
      tree g at c.requires.stands.0 c.requires.stands.1 c.requires.stands.2,
      subst (λ (b : Bool). MatchBool b
          (without_rows c.args.format
          (tree g at c.requires.stands.0 c.requires.stands.1 c.requires.stands.2) c.args.key.now
          ≤ free_count c.args.desk.now.lives)
          (free_count c.args.desk.now.lives < without_rows c.args.format
          (tree g at c.requires.stands.0 c.requires.stands.1 c.requires.stands.2) c.args.key.now))
          c.if-not-remove_fits.false
          (fits g at c.requires.stands.0 c.requires.stands.1 c.requires.stands.2),
    ))

-- ---- the key is removed

module _ (g : Over) (c : goal.After-remove_at-new g)
    (had : (m : List Pair) → Stands c.args.format (g.R.Rows.content c.args.rows.now) c.args.root.now
    m → map_get m c.args.key.now ≡ c.find.result) where
  removed : AfterRemove c.args.format (g.R.Rows.content c.args.rows.now)
      (g.R.Rows.content c.remove_at-new.new.rows) c.args.desk.now c.remove_at-new.new.desk
      c.args.root.now c.remove_at-new.result c.args.key.now
  removed =
      let done =
      subst (λ (x : Content).
      (t : SearchTree c.args.format x c.args.desk.now c.args.root.now.link)
      → Grown c.args.format x (g.R.Rows.content c.remove_at-new.new.rows) c.args.desk.now
      c.remove_at-new.new.desk (without c.args.format t c.args.key.now) c.remove_at-new.result
      (in_tree c.args.format t) (without_rows c.args.format t c.args.key.now))
      (ap g.R.Rows.content (c.remove_fits.ensures.same ∙ c.find.ensures.same))
      (rw c.new-sought.ensures.key at c.remove_at-new.ensures.removed) in
      after_found c.args.format (g.R.Rows.content c.args.rows.now) c.args.desk.now c.args.root.now
      c.args.key.now c.requires.stands (g.R.Rows.content c.remove_at-new.new.rows)
      c.remove_at-new.new.desk c.remove_at-new.result c.in-Some.value
      (λ m st. had m st ∙ c.in-Some.is) done

pub returns-clause-stands : goal.returns-clause-stands
returns-clause-stands g c =
    (removed g c (found g (goal.at.returns-clause-stands g c).After-find)).stands

pub returns-clause-written : goal.returns-clause-written
returns-clause-written g c =
    (removed g c (found g (goal.at.returns-clause-written g c).After-find)).written

pub returns-clause-cost : goal.returns-clause-cost
returns-clause-cost g c =
    (removed g c (found g (goal.at.returns-clause-cost g c).After-find)).counted

pub returns-clause-changes : goal.returns-clause-changes
returns-clause-changes g c =
    (removed g c (found g (goal.at.returns-clause-changes g c).After-find)).changes

pub returns-clause-versions : goal.returns-clause-versions
returns-clause-versions g c =
    (removed g c (found g (goal.at.returns-clause-versions g c).After-find)).versions

pub returns-clause-made : goal.returns-clause-made
returns-clause-made g c = (removed g c (found g (goal.at.returns-clause-made g c).After-find)).made

-- ---- what a search finds

pub returns-in_default-clause-written : goal.returns-in_default-clause-written
returns-in_default-clause-written g c = search rules

pub returns-in_default-clause-versions : goal.returns-in_default-clause-versions
returns-in_default-clause-versions g c = search rules

pub returns-in_default-clause-absent : goal.returns-in_default-clause-absent
returns-in_default-clause-absent g c = search rules

pub returns-in_default-clause-beside : goal.returns-in_default-clause-beside
returns-in_default-clause-beside g c = search rules

pub returns-in_default-clause-no_room : goal.returns-in_default-clause-no_room
returns-in_default-clause-no_room g c = search rules

pub returns-in_default-clause-untouched : goal.returns-in_default-clause-untouched
returns-in_default-clause-untouched g c = search rules

pub returns-then-not-remove_fits-clause-stands : goal.returns-then-not-remove_fits-clause-stands
returns-then-not-remove_fits-clause-stands g c = search rules

pub returns-then-not-remove_fits-clause-value : goal.returns-then-not-remove_fits-clause-value
returns-then-not-remove_fits-clause-value g c = search rules

pub returns-then-not-remove_fits-clause-written : goal.returns-then-not-remove_fits-clause-written
returns-then-not-remove_fits-clause-written g c = search rules

pub returns-then-not-remove_fits-clause-cost : goal.returns-then-not-remove_fits-clause-cost
returns-then-not-remove_fits-clause-cost g c = search rules

pub returns-then-not-remove_fits-clause-changes : goal.returns-then-not-remove_fits-clause-changes
returns-then-not-remove_fits-clause-changes g c = search rules

pub returns-then-not-remove_fits-clause-versions :
    goal.returns-then-not-remove_fits-clause-versions
returns-then-not-remove_fits-clause-versions g c = search rules

pub returns-then-not-remove_fits-clause-made : goal.returns-then-not-remove_fits-clause-made
returns-then-not-remove_fits-clause-made g c = search rules

pub returns-then-not-remove_fits-clause-absent : goal.returns-then-not-remove_fits-clause-absent
returns-then-not-remove_fits-clause-absent g c = search rules

pub returns-then-not-remove_fits-clause-beside : goal.returns-then-not-remove_fits-clause-beside
returns-then-not-remove_fits-clause-beside g c = search rules

pub returns-then-not-remove_fits-clause-untouched :
    goal.returns-then-not-remove_fits-clause-untouched
returns-then-not-remove_fits-clause-untouched g c = search rules

pub remove_at-new-requires-clause-ready : goal.remove_at-new-requires-clause-ready
remove_at-new-requires-clause-ready g c = record {
  few = c.remove_fits.ensures.few;
  free = search rules;
}

pub returns-clause-beside : goal.returns-clause-beside
returns-clause-beside g c = search rules

pub returns-clause-no_room : goal.returns-clause-no_room
returns-clause-no_room g c = search rules

pub returns-clause-untouched : goal.returns-clause-untouched
returns-clause-untouched g c = search rules
