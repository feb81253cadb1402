use Rattle.mst_path.proofs.Names.{◌≡◌, ℕ, ◌∷◌, [], sym, subst, ap, arith, eqb, true, nat_tests, version, bit, ReachesExactly}
use Rattle.mst_path.proofs.lemmas.versions.Reached as reached
use Rattle.mst_path.proofs.lemmas.rows.RowCounts.{as_many}
use Rattle.mst_path.proofs.lemmas.rows.FreeCounts.{count_swept, alone}
use Rattle.mst_path.proofs.lemmas.versions.Migrated.{changes, moved}
use Rattle.mst_path.proofs.laws.reach_laws.Goals as goal

pub returns-clause-older : goal.returns-clause-older
returns-clause-older c old new before after into change = reached.older old new before after change

pub returns-clause-number : goal.returns-clause-number
returns-clause-number c old new before after into change there =
    reached.version_after old new before after change into there

pub returns-clause-newest : goal.returns-clause-newest
returns-clause-newest c old new before after into change there settled exact =
    subst (λ (v : ℕ). ReachesExactly new.lives v after)
    (sym (reached.version_after old new before after change into there))
    (reached.newest old new before after change settled exact)

pub returns-clause-settled : goal.returns-clause-settled
returns-clause-settled c old new before after into change there settled =
    reached.settled_after old new before after change into there settled

pub returns-clause-rows : goal.returns-clause-rows
returns-clause-rows c old new before after change = as_many old new before after change

pub returns-clause-planted : goal.returns-clause-planted
returns-clause-planted c old new rows takes = reached.planted old new rows takes

pub returns-clause-felled : goal.returns-clause-felled
returns-clause-felled c old mid new before after takes fells =
    changes old new after before (moved old mid new after before takes fells)

pub returns-clause-old : goal.returns-clause-old
returns-clause-old c s rows settled exact = reached.reached_old s rows settled exact

pub returns-clause-sweep : goal.returns-clause-sweep
returns-clause-sweep c s live = reached.same_swept s live

pub returns-clause-settled_sweep : goal.returns-clause-settled_sweep
returns-clause-settled_sweep c s live settled = reached.settled_swept s live settled

pub returns-clause-free : goal.returns-clause-free
returns-clause-free c s live r settled now there = reached.free_swept s live r settled now there

pub returns-clause-count : goal.returns-clause-count
returns-clause-count c s live rows settled now once together =
    count_swept s live rows settled now once together

pub returns-clause-count_alone : goal.returns-clause-count_alone
returns-clause-count_alone c s rows settled once exact =
    let same : eqb (version s) (version s) ≡ true = grind (arith, nat_tests) in
    count_swept s (version s ∷ []) rows settled (omega (arith, ap bit same)) once
    (alone s.lives (version s) rows exact)
