use Rattle.mst_replay.proofs.Names.{[], codes}
use Rattle.mst_replay.proofs.WorkedLines.{fault, no_bytes, other_word, two_blanks, blank_behind, no_number, leading_zero, pass_of_256, no_passes, passes_of_33, row_of_64, rows_that_fall, before_the_first, in_new_core, opens_two}
use Rattle.mst_replay.proofs.laws.worked_lines.Goals as goal

pub returns-clause-empty : goal.returns-clause-empty
returns-clause-empty c = fault [] no_bytes

pub returns-clause-word : goal.returns-clause-word
returns-clause-word c = fault (codes "pins 1") other_word

pub returns-clause-blank : goal.returns-clause-blank
returns-clause-blank c = fault (codes "pin  1") two_blanks

pub returns-clause-behind : goal.returns-clause-behind
returns-clause-behind c = fault (codes "transfer ") blank_behind

pub returns-clause-number : goal.returns-clause-number
returns-clause-number c = fault (codes "pin ") no_number

pub returns-clause-zero : goal.returns-clause-zero
returns-clause-zero c = fault (codes "pin 01") leading_zero

pub returns-clause-pass : goal.returns-clause-pass
returns-clause-pass c = fault (codes "pin 256") pass_of_256

pub returns-clause-few : goal.returns-clause-few
returns-clause-few c = fault (codes "passes 0") no_passes

pub returns-clause-many : goal.returns-clause-many
returns-clause-many c = fault (codes "passes 33") passes_of_33

pub returns-clause-row : goal.returns-clause-row
returns-clause-row c = fault (codes "write 64") row_of_64

pub returns-clause-order : goal.returns-clause-order
returns-clause-order c = fault (codes "publish 1 3,0") rows_that_fall

pub returns-clause-early : goal.returns-clause-early
returns-clause-early c = before_the_first

pub returns-clause-later : goal.returns-clause-later
returns-clause-later c = in_new_core

pub returns-clause-opens : goal.returns-clause-opens
returns-clause-opens c = opens_two
