use Rattle.mst_arena.proofs.Names.{sym, ◌∙◌, ap, Free, Born, Dead}
use Rattle.mst_arena.specs.Lives.{reached_at}
use Rattle.mst_arena.proofs.Reach.{same_set, same_sweep, born_later, dies_later, died, born_on, dead_from, reach_set, reach_else, reach_swept}
use Rattle.mst_arena.proofs.laws.life_laws.Goals as goal

pub returns-clause-take : goal.returns-clause-take
returns-clause-take c lives row next is v k before = same_set lives row k Free (Born next) v is
    (born_later next v before)

pub returns-clause-kill : goal.returns-clause-kill
returns-clause-kill c lives row b next is v k before = same_set lives row k (Born b) (Dead b next) v
    is (dies_later b next v before)

pub returns-clause-give_back : goal.returns-clause-give_back
returns-clause-give_back c lives row next is v k before = same_set lives row k (Born next) Free v is
    (sym (born_later next v before))

pub returns-clause-sweep : goal.returns-clause-sweep
returns-clause-sweep c lives live v k has = same_sweep live lives v k has

pub returns-clause-free : goal.returns-clause-free
returns-clause-free c lives row v is = ap (λ o. reached_at o v) is

pub returns-clause-dead : goal.returns-clause-dead
returns-clause-dead c lives row b next v is later = ap (λ o. reached_at o v) is
    ∙ died b next v later

pub returns-clause-taken : goal.returns-clause-taken
returns-clause-taken c lives row next v is le = reach_set lives row Free (Born next) v is
    ∙ born_on next v le

pub returns-clause-killed : goal.returns-clause-killed
returns-clause-killed c lives row b next v is le lt = reach_set lives row (Born b) (Dead b next) v
    is ∙ dead_from b next v le lt

pub returns-clause-others : goal.returns-clause-others
returns-clause-others c lives row other v life not = reach_else lives other row life v not

pub returns-clause-lasts : goal.returns-clause-lasts
returns-clause-lasts c lives live row b v is le = reach_swept live lives row b v is ∙ born_on b v le
