use Rattle.mst_path.proofs.Names.{layer_in, ◌≡◌, ◌∙◌, ◌≤◌, ◌<◌, ◌+◌, ◌*◌, List, ℕ, Bool, length, true, true≢false, sym, ap, subst, arith, rules, MatchBool, Pair, map_get, Format, Content, State, free_count, Stands, numbers, Grown, RisingTree, in_rising, with_pair, pair_rows, AreOld}
use Rattle.mst_path.proofs.lemmas.versions.Changes.{any_old, search_at, rises, says}
use Rattle.mst_path.proofs.lemmas.versions.Inserted.{is_same, same_found, rising_at, least_new, cost_other, AfterPut, after_other, after_same}
use Rattle.mst_path.proofs.insertion.put.Given.{Over}
use Rattle.mst_path.proofs.insertion.put.Goals.{After-find-old, After-put_fits, After-put_at-new}
use Rattle.mst_path.proofs.insertion.put.Goals as goal

pub find-old-requires : goal.find-old-requires
find-old-requires g c =
    record {
      tree = (
        c.args.format,
        c.args.desk.now,
        search_at c.args.format (g.R.Rows.content c.args.rows.now)
            c.args.desk.now c.args.root.now c.requires.stands.0 c.requires.stands.1
            c.requires.stands.2,
        rises c.args.format (g.R.Rows.content c.args.rows.now) c.args.root.now c.requires.stands.0
            c.requires.stands.1,
      );
    }

-- ---- the value that the key had

module _ (g : Over) (c : goal.After-find-old g) where
  found : (m : List Pair) → Stands c.args.format (g.R.Rows.content c.args.rows.now) c.args.root.now
      m → map_get m c.args.key.now ≡ c.find-old.result
  found = says c.args.format (g.R.Rows.content c.args.rows.now) c.args.desk.now c.args.root.now
      c.args.key.now c.requires.stands c.find-old.result
      (rw c.new-sought.ensures.key at (c.find-old.ensures.found c.args.format))

pub returns-then-is_same-clause-value : goal.returns-then-is_same-clause-value
returns-then-is_same-clause-value g c m st =
    sym (found g (goal.at.returns-then-is_same-clause-value g c).After-find-old m st)

pub returns-clause-value : goal.returns-clause-value
returns-clause-value g c m st = sym (found g (goal.at.returns-clause-value g c).After-find-old m st)

pub returns-clause-same_value : goal.returns-clause-same_value
returns-clause-same_value g c m st same =
    let had = found g (goal.at.returns-clause-same_value g c).After-find-old m st in
    absurd (true≢false
    (sym (ap (λ o. is_same o c.args.value.now) (sym had ∙ same) ∙ same_found c.args.value.now)
    ∙ sym c.is_same.ensures.same ∙ c.if-is_same.false))

-- ---- the key has this value

module _ (g : Over) (c : goal.After-find-old g)
    (same : is_same c.find-old.result c.args.value.now ≡ true) where
  nothing : AfterPut c.args.format (g.R.Rows.content c.args.rows.now)
      (g.R.Rows.content c.find-old.new.rows) c.args.desk.now c.args.desk.now c.args.root.now
      c.args.root.now c.args.key.now c.args.value.now
  nothing =
      subst (λ (x : Content). AfterPut c.args.format (g.R.Rows.content c.args.rows.now) x
      c.args.desk.now c.args.desk.now c.args.root.now c.args.root.now c.args.key.now
      c.args.value.now) (sym (ap g.R.Rows.content c.find-old.ensures.same))
      (after_same c.args.format (g.R.Rows.content c.args.rows.now) c.args.desk.now c.args.root.now
      c.args.key.now c.args.value.now c.within_limits.ensures.key c.within_limits.ensures.value
      c.requires.stands c.find-old.result (found g c) same)

pub returns-then-is_same-clause-stands : goal.returns-then-is_same-clause-stands
returns-then-is_same-clause-stands g c =
    (nothing g (goal.at.returns-then-is_same-clause-stands g c).After-find-old
    (sym c.is_same.ensures.same ∙ c.if-is_same.true)).stands

pub returns-then-is_same-clause-cost : goal.returns-then-is_same-clause-cost
returns-then-is_same-clause-cost g c =
    (nothing g (goal.at.returns-then-is_same-clause-cost g c).After-find-old
    (sym c.is_same.ensures.same ∙ c.if-is_same.true)).counted

pub returns-then-is_same-clause-changes : goal.returns-then-is_same-clause-changes
returns-then-is_same-clause-changes g c =
    (nothing g (goal.at.returns-then-is_same-clause-changes g c).After-find-old
    (sym c.is_same.ensures.same ∙ c.if-is_same.true)).changes

pub returns-then-is_same-clause-made : goal.returns-then-is_same-clause-made
returns-then-is_same-clause-made g c =
    (nothing g (goal.at.returns-then-is_same-clause-made g c).After-find-old
    (sym c.is_same.ensures.same ∙ c.if-is_same.true)).made

-- ---- the room

pub put_fits-requires : goal.put_fits-requires
put_fits-requires g c =
    let one = c.requires.stands in
    let least = least_new c.args.format (g.R.Rows.content c.args.rows.now) c.args.desk.now
    c.args.root.now one.0 one.1 c.args.key.now c.args.value.now one.2 c.layer_in-layer.result in
    record {
      tree =
          rw (sym c.new-sought.ensures.key) at
          (subst (λ (x : Content). (f : Format) × (q : State)
          × (t : RisingTree f x q c.args.root.now.link) × (w : List ℕ)
          × (pair_rows f t c.layer_in-layer.result c.args.key.now w
          ≤ 2 * length c.args.desk.now.lives + 2)
          × (c.layer_in-layer.result ≡ layer_in f c.args.key.now))
          (sym (ap g.R.Rows.content c.find-old.ensures.same)) (
            c.args.format,
            c.args.desk.now,
            rising_at c.args.format (g.R.Rows.content c.args.rows.now)
                c.args.desk.now c.args.root.now one.0 one.1 c.args.key.now c.args.value.now one.2,
            c.args.value.now,
            omega (arith, least),
            c.layer_in-layer.ensures.layer,
          ));
    }

module _ (g : Over) (c : goal.After-put_fits g) (m : List Pair)
    (st : Stands c.args.format (g.R.Rows.content c.args.rows.now) c.args.root.now m)
    (old : AreOld c.args.desk.now (numbers st)) where
  abbrev tree : RisingTree c.args.format (g.R.Rows.content c.args.rows.now) c.args.desk.now
      c.args.root.now.link
  tree = rising_at c.args.format (g.R.Rows.content c.args.rows.now) c.args.desk.now c.args.root.now
      m st c.args.key.now c.args.value.now old

  fits : MatchBool c.put_fits.result
      (pair_rows c.args.format tree c.layer_in-layer.result c.args.key.now c.args.value.now
      ≤ free_count c.args.desk.now.lives)
      (free_count c.args.desk.now.lives
      < pair_rows c.args.format tree c.layer_in-layer.result c.args.key.now c.args.value.now)
  fits =
      subst (λ (x : Content). (q : State) (t : RisingTree c.args.format x q c.args.root.now.link)
      (w : List ℕ) → c.layer_in-layer.result ≡ layer_in c.args.format c.args.key.now
      → pair_rows c.args.format t c.layer_in-layer.result c.args.key.now w
      + 2 * free_count c.args.desk.now.lives ≤ 2 * length c.args.desk.now.lives + 2
      → MatchBool c.put_fits.result
      (pair_rows c.args.format t c.layer_in-layer.result c.args.key.now w
      ≤ free_count c.args.desk.now.lives)
      (free_count c.args.desk.now.lives
      < pair_rows c.args.format t c.layer_in-layer.result c.args.key.now w))
      (ap g.R.Rows.content c.find-old.ensures.same)
      (rw c.new-sought.ensures.key at (c.put_fits.ensures.fits c.args.format)) c.args.desk.now tree
      c.args.value.now c.layer_in-layer.ensures.layer
      (least_new c.args.format (g.R.Rows.content c.args.rows.now) c.args.desk.now c.args.root.now m
      st c.args.key.now c.args.value.now old c.layer_in-layer.result)

pub returns-then-not-put_fits-clause-no_room :
    goal.returns-then-not-put_fits-clause-no_room
returns-then-not-put_fits-clause-no_room g c m st =
    let at = goal.at.returns-then-not-put_fits-clause-no_room g c in
    let old = any_old c.args.format (g.R.Rows.content c.args.rows.now) c.args.desk.now
    c.args.root.now c.requires.stands m st in
    let layer =
    ap (λ (n : ℕ). pair_rows c.args.format (tree g at.After-put_fits m st old) n c.args.key.now
    c.args.value.now) c.layer_in-layer.ensures.layer in
    let cost = cost_other c.args.format (g.R.Rows.content c.args.rows.now) c.args.desk.now
    c.args.root.now m st c.args.key.now c.args.value.now c.find-old.result
    (found g at.After-find-old m st) (sym c.is_same.ensures.same ∙ c.if-is_same.false) in
    let t = tree g at.After-put_fits m st old in
    let lacks = subst (λ (b : Bool). MatchBool b
    (pair_rows c.args.format t c.layer_in-layer.result c.args.key.now c.args.value.now
    ≤ free_count c.args.desk.now.lives)
    (free_count c.args.desk.now.lives
    < pair_rows c.args.format t c.layer_in-layer.result c.args.key.now c.args.value.now))
    c.if-not-put_fits.true (fits g at.After-put_fits m st old) in
    omega (arith, lacks, layer, cost)

pub put_at-new-requires-clause-tree : goal.put_at-new-requires-clause-tree
put_at-new-requires-clause-tree g c =
    let at = (goal.at.put_at-new-requires-clause-tree g c).After-put_fits in
    rw (sym c.new-sought.ensures.key) at
    (subst (λ (x : Content).
    (t : RisingTree c.args.format x c.args.desk.now c.args.root.now.link)
    × (pair_rows c.args.format t c.layer_in-layer.result c.args.key.now c.args.value.now
    ≤ free_count c.args.desk.now.lives))
    (sym (ap g.R.Rows.content (c.put_fits.ensures.same ∙ c.find-old.ensures.same))) (
      tree g at c.requires.stands.0 c.requires.stands.1 c.requires.stands.2,
      subst (λ (b : Bool). MatchBool b
          (pair_rows c.args.format
          (tree g at c.requires.stands.0 c.requires.stands.1 c.requires.stands.2)
          c.layer_in-layer.result c.args.key.now c.args.value.now
          ≤ free_count c.args.desk.now.lives)
          (free_count c.args.desk.now.lives < pair_rows c.args.format
          (tree g at c.requires.stands.0 c.requires.stands.1 c.requires.stands.2)
          c.layer_in-layer.result c.args.key.now c.args.value.now)) c.if-not-put_fits.false
          (fits g at c.requires.stands.0 c.requires.stands.1 c.requires.stands.2),
    ))

-- ---- the pair is put

module _ (g : Over) (c : goal.After-put_at-new g)
    (had : (m : List Pair) → Stands c.args.format (g.R.Rows.content c.args.rows.now) c.args.root.now
    m → map_get m c.args.key.now ≡ c.find-old.result) where
  inserted : AfterPut c.args.format (g.R.Rows.content c.args.rows.now)
      (g.R.Rows.content c.put_at-new.new.rows) c.args.desk.now c.put_at-new.new.desk c.args.root.now
      c.put_at-new.result c.args.key.now c.args.value.now
  inserted =
      let done =
      subst (λ (x : Content).
      (t : RisingTree c.args.format x c.args.desk.now c.args.root.now.link)
      → Grown c.args.format x (g.R.Rows.content c.put_at-new.new.rows) c.args.desk.now
      c.put_at-new.new.desk
      (with_pair c.args.format t c.layer_in-layer.result c.args.key.now c.args.value.now)
      c.put_at-new.result (in_rising c.args.format t)
      (pair_rows c.args.format t c.layer_in-layer.result c.args.key.now c.args.value.now))
      (ap g.R.Rows.content (c.put_fits.ensures.same ∙ c.find-old.ensures.same))
      (rw c.new-sought.ensures.key at c.put_at-new.ensures.put) in
      after_other c.args.format (g.R.Rows.content c.args.rows.now) c.args.desk.now c.args.root.now
      c.args.key.now c.args.value.now c.within_limits.ensures.key c.within_limits.ensures.value
      c.requires.stands c.find-old.result had (g.R.Rows.content c.put_at-new.new.rows)
      c.put_at-new.new.desk c.put_at-new.result c.layer_in-layer.result
      c.layer_in-layer.ensures.layer (sym c.is_same.ensures.same ∙ c.if-is_same.false) done

pub returns-clause-stands : goal.returns-clause-stands
returns-clause-stands g c =
    (inserted g c (found g (goal.at.returns-clause-stands g c).After-find-old)).stands

pub returns-clause-written : goal.returns-clause-written
returns-clause-written g c =
    (inserted g c (found g (goal.at.returns-clause-written g c).After-find-old)).written

pub returns-clause-cost : goal.returns-clause-cost
returns-clause-cost g c =
    (inserted g c (found g (goal.at.returns-clause-cost g c).After-find-old)).counted

pub returns-clause-changes : goal.returns-clause-changes
returns-clause-changes g c =
    (inserted g c (found g (goal.at.returns-clause-changes g c).After-find-old)).changes

pub returns-clause-versions : goal.returns-clause-versions
returns-clause-versions g c =
    (inserted g c (found g (goal.at.returns-clause-versions g c).After-find-old)).versions

pub returns-clause-made : goal.returns-clause-made
returns-clause-made g c =
    (inserted g c (found g (goal.at.returns-clause-made g c).After-find-old)).made

-- ---- what a search finds

pub returns-then-is_same-clause-written : goal.returns-then-is_same-clause-written
returns-then-is_same-clause-written g c = search rules

pub returns-then-is_same-clause-versions : goal.returns-then-is_same-clause-versions
returns-then-is_same-clause-versions g c = search rules

pub returns-then-is_same-clause-same_value : goal.returns-then-is_same-clause-same_value
returns-then-is_same-clause-same_value g c = search rules

pub returns-then-is_same-clause-beside : goal.returns-then-is_same-clause-beside
returns-then-is_same-clause-beside g c = search rules

pub returns-then-is_same-clause-no_room : goal.returns-then-is_same-clause-no_room
returns-then-is_same-clause-no_room g c = search rules

pub returns-then-is_same-clause-untouched : goal.returns-then-is_same-clause-untouched
returns-then-is_same-clause-untouched g c = search rules

pub returns-then-not-put_fits-clause-stands : goal.returns-then-not-put_fits-clause-stands
returns-then-not-put_fits-clause-stands g c = search rules

pub returns-then-not-put_fits-clause-value : goal.returns-then-not-put_fits-clause-value
returns-then-not-put_fits-clause-value g c = search rules

pub returns-then-not-put_fits-clause-written : goal.returns-then-not-put_fits-clause-written
returns-then-not-put_fits-clause-written g c = search rules

pub returns-then-not-put_fits-clause-cost : goal.returns-then-not-put_fits-clause-cost
returns-then-not-put_fits-clause-cost g c = search rules

pub returns-then-not-put_fits-clause-changes : goal.returns-then-not-put_fits-clause-changes
returns-then-not-put_fits-clause-changes g c = search rules

pub returns-then-not-put_fits-clause-versions : goal.returns-then-not-put_fits-clause-versions
returns-then-not-put_fits-clause-versions g c = search rules

pub returns-then-not-put_fits-clause-made : goal.returns-then-not-put_fits-clause-made
returns-then-not-put_fits-clause-made g c = search rules

pub returns-then-not-put_fits-clause-same_value : goal.returns-then-not-put_fits-clause-same_value
returns-then-not-put_fits-clause-same_value g c = search rules

pub returns-then-not-put_fits-clause-beside : goal.returns-then-not-put_fits-clause-beside
returns-then-not-put_fits-clause-beside g c = search rules

pub returns-then-not-put_fits-clause-untouched : goal.returns-then-not-put_fits-clause-untouched
returns-then-not-put_fits-clause-untouched g c = search rules

pub put_at-new-requires-clause-layer : goal.put_at-new-requires-clause-layer
put_at-new-requires-clause-layer g c = search rules

pub put_at-new-requires-clause-low : goal.put_at-new-requires-clause-low
put_at-new-requires-clause-low g c = search rules

pub put_at-new-requires-clause-ready : goal.put_at-new-requires-clause-ready
put_at-new-requires-clause-ready g c = record {
  few = c.put_fits.ensures.few;
  free = search rules;
}

pub returns-clause-beside : goal.returns-clause-beside
returns-clause-beside g c = search rules

pub returns-clause-no_room : goal.returns-clause-no_room
returns-clause-no_room g c = search rules

pub returns-clause-untouched : goal.returns-clause-untouched
returns-clause-untouched g c = search rules
