use Rattle.mst_proof.proofs.Named.{no_value, among_named}
use Rattle.mst_proof.proofs.laws.collisions_among.Goals as goal

pub returns-clause-named : goal.returns-clause-named
returns-clause-named c = among_named

pub returns-clause-no_value : goal.returns-clause-no_value
returns-clause-no_value c = no_value

pub returns-clause-two : goal.returns-clause-two
returns-clause-two c texts one other = (
  λ is. (is.one_in, is.other_in, is.collision.differ, is.collision.same),
  λ are. record {
    one_in = are.0;
    other_in = are.1;
    collision =
        record { differ = are.2; same = are.3 };
  },
)

pub returns-clause-has : goal.returns-clause-has
returns-clause-has c texts one other is = (one, other, is.one_in, is.other_in, is.collision)
