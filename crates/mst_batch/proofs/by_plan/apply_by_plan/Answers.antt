use Rattle.mst_batch.proofs.Names.{◌≡◌, ◌<◌, List, sym, ap, subst, rules, batched, Pair, cost, Content, free_count, Stands, MapStands, AfterChange, LacksBatch, AreMarks, IsPlanOf, HasKnown, known_of, plan_of}
use Rattle.mst_batch.proofs.BatchPlans.{found_plan}
use Rattle.mst_batch.proofs.by_plan.apply_by_plan.Given.{Over}
use Rattle.mst_batch.proofs.by_plan.apply_by_plan.Goals.{After-as_slice}
use Rattle.mst_batch.proofs.by_plan.apply_by_plan.Goals as goal

-- ---- the plan

module _ (g : Over) (c : After-as_slice g) where
  same_rows : g.R.Rows.content c.find_plan.new.rows ≡ g.R.Rows.content c.args.rows.now
  same_rows = ap g.R.Rows.content c.find_plan.ensures.same

  planned : IsPlanOf c.args.format (g.R.Rows.content c.args.rows.now) c.args.desk.now
      c.args.root.now c.as_slice.result.now (plan_of c.in-Ok.plan)
      (λ n. batched n c.args.edits.now)
  planned =
      let one = c.requires.stands in
      found_plan c.args.format (g.R.Rows.content c.args.rows.now) c.args.root.now c.args.edits.now
      one.0 one.1 c.args.desk.now c.as_slice.result.now (plan_of c.in-Ok.plan) one.2
      c.are_within_limits.ensures.small (c.in-Ok.ensures.plan one.0 one.1)
      (subst (λ marks. AreMarks marks (plan_of c.in-Ok.plan)) (sym c.as_slice.ensures.value)
      c.in-Ok-marks_of.ensures.marks)

pub carry_out-carried-requires-clause-stands :
    goal.carry_out-carried-requires-clause-stands
carry_out-carried-requires-clause-stands g c =
    let at = (goal.at.carry_out-carried-requires-clause-stands g c).After-as_slice in
    subst (λ (x : Content). MapStands c.args.format x c.args.desk.now c.args.root.now)
    (sym (same_rows g at)) c.requires.stands

pub carry_out-carried-requires-clause-plan :
    goal.carry_out-carried-requires-clause-plan
carry_out-carried-requires-clause-plan g c =
    let at = (goal.at.carry_out-carried-requires-clause-plan g c).After-as_slice in (
      λ n. batched n c.args.edits.now,
      subst (λ (x : Content). IsPlanOf c.args.format x c.args.desk.now c.args.root.now
          c.as_slice.result.now (plan_of c.in-Ok.plan) (λ n. batched n c.args.edits.now))
          (sym (same_rows g at)) (planned g at),
    )

-- ---- the plan is carried out

pub returns-in-Ok-carried-clause-changed : goal.returns-in-Ok-carried-clause-changed
returns-in-Ok-carried-clause-changed g c =
    let at = (goal.at.returns-in-Ok-carried-clause-changed g c).After-as_slice in
    subst (λ (x : Content). (change : List Pair → List Pair)
    → IsPlanOf c.args.format x c.args.desk.now c.args.root.now c.as_slice.result.now
    (plan_of c.in-Ok.plan) change
    → AfterChange c.args.format x (g.R.Rows.content c.carry_out-carried.new.rows)
    c.args.desk.now
    c.carry_out-carried.new.desk c.args.root.now c.in-Ok-carried.done change)
    (same_rows g at)
    c.in-Ok-carried.ensures.changed (λ n. batched n c.args.edits.now) (planned g at)

pub returns-clause-lacks : goal.returns-clause-lacks
returns-clause-lacks g c =
    let at = (goal.at.returns-clause-lacks g c).After-as_slice in
    subst (λ why. LacksBatch why c.args.format (g.R.Rows.content c.args.rows.now) c.args.desk.now
    c.args.root.now c.args.edits.now) (sym c.lack_of.ensures.no_room)
    (λ m st. subst (λ (x : Content). (change : List Pair → List Pair)
    → IsPlanOf c.args.format x c.args.desk.now c.args.root.now c.as_slice.result.now
    (plan_of c.in-Ok.plan) change → (n : List Pair) → Stands c.args.format x c.args.root.now n
    → free_count c.args.desk.now.lives < cost c.args.format n (change n)) (same_rows g at)
    c.in-Err-carried.ensures.no_room (λ n. batched n c.args.edits.now) (planned g at) m st)

-- ---- what a search finds

pub find_plan-requires : goal.find_plan-requires
find_plan-requires g c = search rules

pub returns-in-Err-clause-beside : goal.returns-in-Err-clause-beside
returns-in-Err-clause-beside g c = search rules

pub returns-in-Err-clause-lacks : goal.returns-in-Err-clause-lacks
returns-in-Err-clause-lacks g c = search rules

pub returns-in-Err-clause-untouched : goal.returns-in-Err-clause-untouched
returns-in-Err-clause-untouched g c = search rules

pub returns-in-Err-marks_of-clause-beside : goal.returns-in-Err-marks_of-clause-beside
returns-in-Err-marks_of-clause-beside g c = search rules

pub returns-in-Err-marks_of-clause-lacks : goal.returns-in-Err-marks_of-clause-lacks
returns-in-Err-marks_of-clause-lacks g c = search rules

pub returns-in-Err-marks_of-clause-untouched : goal.returns-in-Err-marks_of-clause-untouched
returns-in-Err-marks_of-clause-untouched g c = search rules

pub carry_out-carried-requires-clause-free :
    goal.carry_out-carried-requires-clause-free
carry_out-carried-requires-clause-free g c = search rules

pub returns-in-Ok-carried-clause-beside : goal.returns-in-Ok-carried-clause-beside
returns-in-Ok-carried-clause-beside g c = search rules

pub returns-in-Ok-carried-clause-lacks : goal.returns-in-Ok-carried-clause-lacks
returns-in-Ok-carried-clause-lacks g c = search rules

pub returns-in-Ok-carried-clause-untouched : goal.returns-in-Ok-carried-clause-untouched
returns-in-Ok-carried-clause-untouched g c = search rules

pub returns-clause-beside : goal.returns-clause-beside
returns-clause-beside g c = search rules

pub returns-clause-untouched : goal.returns-clause-untouched
returns-clause-untouched g c = search rules

pub returns-in-Err-clause-changed : goal.returns-in-Err-clause-changed
returns-in-Err-clause-changed g c = search rules

pub returns-in-Err-marks_of-clause-changed : goal.returns-in-Err-marks_of-clause-changed
returns-in-Err-marks_of-clause-changed g c = search rules

pub returns-clause-changed : goal.returns-clause-changed
returns-clause-changed g c = search rules

-- ---- what the plan names is known

pub carry_out-carried-requires-clause-known :
    goal.carry_out-carried-requires-clause-known
carry_out-carried-requires-clause-known g c =
    let at = (goal.at.carry_out-carried-requires-clause-known g c).After-as_slice in
    let one = c.requires.stands in
    let known : HasKnown (g.R.Rows.content c.args.rows.now) c.args.desk.now
    (known_of c.in-Ok.plan) = record {
      format = c.args.format;
      whole = one.1.tree.placed;
      stands = record { rows = one.1.tree.rows; old = one.2 };
      each = c.in-Ok.ensures.known one.0 one.1;
    } in
    subst (λ (x : Content). HasKnown x c.args.desk.now (known_of c.in-Ok.plan))
    (sym (same_rows g at)) known
