use Rattle.mst_batch.proofs.Names.{rules, IfOk-weaker, common_steps, ◌≡◌, ◌<◌, List, [], ◌∷◌, length, sym, ap, subst, arith, refl, Result, Ok, Err, batched, Format, Edit, tree, stays, Content, State, Root, Pair, MapStands, AfterChange, after_change, unchanged_map}
use Rattle.std.specs.Prelude.{IfOk, IfErr}
use Rattle.mst_path.specs.Changing.{OnlyFreeWritten, SameVersions}
use Rattle.mst_batch.proofs.applying.apply.Goals as goal

no_edits : (es : List Edit) → length es < 1 → es ≡ []
no_edits [] none = refl
no_edits (e ∷ es) none = absurd (omega (arith, none))

-- no edits leave the map where it stands
nothing : (format : Format) (content : Content) (s : State) (root : Root) (es : List Edit)
    → length es < 1 → MapStands format content s root
    → AfterChange format content content s s root root (λ m. batched m es)
nothing format content s root es none stands =
    subst (λ (es : List Edit). AfterChange format content content s s root root
    (λ m. batched m es)) (sym (no_edits es none))
    (after_change format content content s s root root (λ m. m) stands (λ m map. map)
    (λ m st old. unchanged_map format content s root (λ n. n) m st old refl
    (stays (tree format m))))

-- a refused change leaves all as it was
left : {R : Type 0} (content : R → Content) (old new : R) (s s1 : State)
    → (s1 ≡ s) × (new ≡ old) → OnlyFreeWritten s (content old) (content new) × SameVersions s s1
left content old new s s1 same = (
  λ r taken. ap (λ rows. content rows r) same.1,
  (ap (λ (x : State). x.current) same.0, ap (λ (x : State). x.versions) same.0),
)

-- so a change, made or refused, writes free rows alone, and keeps the versions
either_way : {R E : Type 0} (content : R → Content) (format : Format) (old new : R) (s s1 : State)
    (root : Root) (change : List Pair → List Pair) (result : Result Root E)
    → IfOk result (λ done. AfterChange format (content old) (content new) s s1 root done change)
    → IfErr result (λ _. (s1 ≡ s) × (new ≡ old))
    → OnlyFreeWritten s (content old) (content new) × SameVersions s s1
either_way content format old new s s1 root change (Ok done) after same =
    (after.written, after.versions)
either_way content format old new s s1 root change (Err why) after same =
    left content old new s s1 same

pub returns-in-empty-clause-cost : goal.returns-in-empty-clause-cost
returns-in-empty-clause-cost g c =
    (nothing c.args.format (g.R.Rows.content c.args.rows.now) c.args.desk.now c.args.root.now
    c.args.edits.now c.in-empty.len_below c.requires.stands).counted

pub returns-in-empty-clause-changes : goal.returns-in-empty-clause-changes
returns-in-empty-clause-changes g c =
    (nothing c.args.format (g.R.Rows.content c.args.rows.now) c.args.desk.now c.args.root.now
    c.args.edits.now c.in-empty.len_below c.requires.stands).changes

pub returns-in-empty-clause-made : goal.returns-in-empty-clause-made
returns-in-empty-clause-made g c =
    (nothing c.args.format (g.R.Rows.content c.args.rows.now) c.args.desk.now c.args.root.now
    c.args.edits.now c.in-empty.len_below c.requires.stands).made

pub bounds-edits-0 : goal.bounds-edits-0
bounds-edits-0 g c = search rules

pub apply_one-requires-clause-stands : goal.apply_one-requires-clause-stands
apply_one-requires-clause-stands g c = search rules

pub apply_one-requires-clause-free : goal.apply_one-requires-clause-free
apply_one-requires-clause-free g c = search rules

pub load-requires-clause-stands : goal.load-requires-clause-stands
load-requires-clause-stands g c = search rules

pub load-requires-clause-empty : goal.load-requires-clause-empty
load-requires-clause-empty g c = search rules

pub load-requires-clause-some : goal.load-requires-clause-some
load-requires-clause-some g c = search rules

pub load-requires-clause-free : goal.load-requires-clause-free
load-requires-clause-free g c = search rules

pub apply_by_plan-requires-clause-stands : goal.apply_by_plan-requires-clause-stands
apply_by_plan-requires-clause-stands g c = search rules

pub apply_by_plan-requires-clause-some : goal.apply_by_plan-requires-clause-some
apply_by_plan-requires-clause-some g c = search rules

pub apply_by_plan-requires-clause-free : goal.apply_by_plan-requires-clause-free
apply_by_plan-requires-clause-free g c = search rules

pub returns-in-empty-clause-stands : goal.returns-in-empty-clause-stands
returns-in-empty-clause-stands g c = grind (arith, common_steps)

pub returns-in-empty-clause-written : goal.returns-in-empty-clause-written
returns-in-empty-clause-written g c = search rules

pub returns-in-empty-clause-versions : goal.returns-in-empty-clause-versions
returns-in-empty-clause-versions g c = search rules

pub returns-in-empty-clause-beside : goal.returns-in-empty-clause-beside
returns-in-empty-clause-beside g c = search rules

pub returns-in-empty-clause-lacks : goal.returns-in-empty-clause-lacks
returns-in-empty-clause-lacks g c = search rules

pub returns-in-empty-clause-untouched : goal.returns-in-empty-clause-untouched
returns-in-empty-clause-untouched g c = search rules

pub returns-in-Ok-clause-stands : goal.returns-in-Ok-clause-stands
returns-in-Ok-clause-stands g c = grind (arith, common_steps)

pub returns-in-Ok-clause-written : goal.returns-in-Ok-clause-written
returns-in-Ok-clause-written g c = c.in-Ok.ensures.changed.written

pub returns-in-Ok-clause-cost : goal.returns-in-Ok-clause-cost
returns-in-Ok-clause-cost g c = grind (arith, common_steps)

pub returns-in-Ok-clause-changes : goal.returns-in-Ok-clause-changes
returns-in-Ok-clause-changes g c = search rules

pub returns-in-Ok-clause-versions : goal.returns-in-Ok-clause-versions
returns-in-Ok-clause-versions g c = c.in-Ok.ensures.changed.versions

pub returns-in-Ok-clause-made : goal.returns-in-Ok-clause-made
returns-in-Ok-clause-made g c = search rules

pub returns-in-Ok-clause-beside : goal.returns-in-Ok-clause-beside
returns-in-Ok-clause-beside g c = search rules

pub returns-in-Ok-clause-lacks : goal.returns-in-Ok-clause-lacks
returns-in-Ok-clause-lacks g c = search rules

pub returns-in-Ok-clause-untouched : goal.returns-in-Ok-clause-untouched
returns-in-Ok-clause-untouched g c = search rules

pub returns-in-Err-clause-stands : goal.returns-in-Err-clause-stands
returns-in-Err-clause-stands g c = search rules

pub returns-in-Err-clause-written : goal.returns-in-Err-clause-written
returns-in-Err-clause-written g c =
    (left g.R.Rows.content c.args.rows.now c.apply_one.new.rows c.args.desk.now
    c.apply_one.new.desk c.in-Err.ensures.untouched).0

pub returns-in-Err-clause-cost : goal.returns-in-Err-clause-cost
returns-in-Err-clause-cost g c = search rules

pub returns-in-Err-clause-changes : goal.returns-in-Err-clause-changes
returns-in-Err-clause-changes g c = search rules

pub returns-in-Err-clause-versions : goal.returns-in-Err-clause-versions
returns-in-Err-clause-versions g c =
    (left g.R.Rows.content c.args.rows.now c.apply_one.new.rows c.args.desk.now
    c.apply_one.new.desk c.in-Err.ensures.untouched).1

pub returns-in-Err-clause-made : goal.returns-in-Err-clause-made
returns-in-Err-clause-made g c = search rules

pub returns-in-Err-clause-beside : goal.returns-in-Err-clause-beside
returns-in-Err-clause-beside g c = search rules

pub returns-in-Err-clause-lacks : goal.returns-in-Err-clause-lacks
returns-in-Err-clause-lacks g c = grind (arith, common_steps)

pub returns-in-Err-clause-untouched : goal.returns-in-Err-clause-untouched
returns-in-Err-clause-untouched g c = search rules

pub returns-in_default-clause-stands : goal.returns-in_default-clause-stands
returns-in_default-clause-stands g c =
    IfOk-weaker c.load.result _ _ (λ at after. after.stands) c.load.ensures.changed

pub returns-in_default-clause-written : goal.returns-in_default-clause-written
returns-in_default-clause-written g c =
    (either_way g.R.Rows.content c.args.format c.args.rows.now c.load.new.rows c.args.desk.now
    c.load.new.desk c.args.root.now (λ m. batched m c.args.edits.now) c.load.result
    c.load.ensures.changed c.load.ensures.untouched).0

pub returns-in_default-clause-cost : goal.returns-in_default-clause-cost
returns-in_default-clause-cost g c =
    IfOk-weaker c.load.result _ _ (λ at after. after.counted) c.load.ensures.changed

pub returns-in_default-clause-changes : goal.returns-in_default-clause-changes
returns-in_default-clause-changes g c =
    IfOk-weaker c.load.result _ _ (λ at after. after.changes) c.load.ensures.changed

pub returns-in_default-clause-versions : goal.returns-in_default-clause-versions
returns-in_default-clause-versions g c =
    (either_way g.R.Rows.content c.args.format c.args.rows.now c.load.new.rows c.args.desk.now
    c.load.new.desk c.args.root.now (λ m. batched m c.args.edits.now) c.load.result
    c.load.ensures.changed c.load.ensures.untouched).1

pub returns-in_default-clause-made : goal.returns-in_default-clause-made
returns-in_default-clause-made g c =
    IfOk-weaker c.load.result _ _ (λ at after. after.made) c.load.ensures.changed

pub returns-in_default-clause-beside : goal.returns-in_default-clause-beside
returns-in_default-clause-beside g c = search rules

pub returns-in_default-clause-lacks : goal.returns-in_default-clause-lacks
returns-in_default-clause-lacks g c = search rules

pub returns-in_default-clause-untouched : goal.returns-in_default-clause-untouched
returns-in_default-clause-untouched g c = search rules

pub returns-in_default-2-clause-stands : goal.returns-in_default-2-clause-stands
returns-in_default-2-clause-stands g c =
    IfOk-weaker c.apply_by_plan.result _ _ (λ at after. after.stands)
    c.apply_by_plan.ensures.changed

pub returns-in_default-2-clause-written : goal.returns-in_default-2-clause-written
returns-in_default-2-clause-written g c =
    (either_way g.R.Rows.content c.args.format c.args.rows.now c.apply_by_plan.new.rows
    c.args.desk.now
    c.apply_by_plan.new.desk c.args.root.now (λ m. batched m c.args.edits.now)
    c.apply_by_plan.result
    c.apply_by_plan.ensures.changed c.apply_by_plan.ensures.untouched).0

pub returns-in_default-2-clause-cost : goal.returns-in_default-2-clause-cost
returns-in_default-2-clause-cost g c =
    IfOk-weaker c.apply_by_plan.result _ _ (λ at after. after.counted)
    c.apply_by_plan.ensures.changed

pub returns-in_default-2-clause-changes : goal.returns-in_default-2-clause-changes
returns-in_default-2-clause-changes g c =
    IfOk-weaker c.apply_by_plan.result _ _ (λ at after. after.changes)
    c.apply_by_plan.ensures.changed

pub returns-in_default-2-clause-versions : goal.returns-in_default-2-clause-versions
returns-in_default-2-clause-versions g c =
    (either_way g.R.Rows.content c.args.format c.args.rows.now c.apply_by_plan.new.rows
    c.args.desk.now
    c.apply_by_plan.new.desk c.args.root.now (λ m. batched m c.args.edits.now)
    c.apply_by_plan.result
    c.apply_by_plan.ensures.changed c.apply_by_plan.ensures.untouched).1

pub returns-in_default-2-clause-made : goal.returns-in_default-2-clause-made
returns-in_default-2-clause-made g c =
    IfOk-weaker c.apply_by_plan.result _ _ (λ at after. after.made)
    c.apply_by_plan.ensures.changed

pub returns-in_default-2-clause-beside : goal.returns-in_default-2-clause-beside
returns-in_default-2-clause-beside g c = search rules

pub returns-in_default-2-clause-lacks : goal.returns-in_default-2-clause-lacks
returns-in_default-2-clause-lacks g c = search rules

pub returns-in_default-2-clause-untouched : goal.returns-in_default-2-clause-untouched
returns-in_default-2-clause-untouched g c = search rules
