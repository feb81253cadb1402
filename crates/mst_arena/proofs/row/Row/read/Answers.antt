use Rattle.mst_arena.proofs.Names.{◌≡◌, rules, row_in}
use Rattle.std.specs.Prelude.{None}
use Rattle.mst_arena.proofs.Spelling.{none_found, no_row}
use Rattle.mst_arena.proofs.row.Row.read.Goals as goal
use Rattle.mst_arena.proofs.row.Row.read.Goals.{else-is_within_limits-via-then-is_within_limits+else-eq, else-is_within_limits-via-else-is_within_limits}

pub returns-in_err-row-clause-none : goal.returns-in_err-row-clause-none
returns-in_err-row-clause-none c =
    let none : None ≡ row_in c.args.words.now = none_found c.args.words.now c.candidate.result
    c.candidate.ensures.exact (λ row e is same. search rules) in
    rw c.from_residual.ensures (no_row c.args.words.now none)

pub returns-then-eq-clause-row : goal.returns-then-eq-clause-row
returns-then-eq-clause-row c = search rules

none_else : (c : goal.Joined-else-is_within_limits) → None ≡ row_in c.args.words.now
none_else c = none_found c.args.words.now c.candidate.result c.candidate.ensures.exact
    (λ row e is same. elim c.else-is_within_limits.branch [
      | else-is_within_limits-via-then-is_within_limits+else-eq w ↦ search rules
      | else-is_within_limits-via-else-is_within_limits w ↦ search rules
    ])

pub returns-else-is_within_limits-clause-none : goal.returns-else-is_within_limits-clause-none
returns-else-is_within_limits-clause-none c = no_row c.args.words.now (none_else c)

pub returns-else-is_within_limits-clause-row : goal.returns-else-is_within_limits-clause-row
returns-else-is_within_limits-clause-row c = none_else c

pub returns-in_err-row-clause-some : goal.returns-in_err-row-clause-some
returns-in_err-row-clause-some c = search rules

pub returns-in_err-row-clause-row : goal.returns-in_err-row-clause-row
returns-in_err-row-clause-row c = search rules

pub words-requires : goal.words-requires
words-requires c = search rules

pub eq-requires : goal.eq-requires
eq-requires c = search rules

pub returns-then-eq-clause-some : goal.returns-then-eq-clause-some
returns-then-eq-clause-some c = search rules

pub returns-then-eq-clause-none : goal.returns-then-eq-clause-none
returns-then-eq-clause-none c = search rules

pub returns-else-is_within_limits-clause-some : goal.returns-else-is_within_limits-clause-some
returns-else-is_within_limits-clause-some c = search rules
