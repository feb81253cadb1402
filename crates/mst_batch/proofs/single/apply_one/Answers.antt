use Rattle.mst_batch.proofs.Names.{rules}
use Rattle.mst_batch.proofs.single.apply_one.Goals as goal

pub put-requires-clause-stands : goal.put-requires-clause-stands
put-requires-clause-stands g c = search rules

pub put-requires-clause-free : goal.put-requires-clause-free
put-requires-clause-free g c = search rules

pub returns-in_err-put-in-Put-clause-beside : goal.returns-in_err-put-in-Put-clause-beside
returns-in_err-put-in-Put-clause-beside g c = search rules

pub returns-in_err-put-in-Put-clause-no_room : goal.returns-in_err-put-in-Put-clause-no_room
returns-in_err-put-in-Put-clause-no_room g c = search rules

pub returns-in_err-put-in-Put-clause-untouched : goal.returns-in_err-put-in-Put-clause-untouched
returns-in_err-put-in-Put-clause-untouched g c = search rules

pub remove-requires-clause-stands : goal.remove-requires-clause-stands
remove-requires-clause-stands g c = search rules

pub remove-requires-clause-free : goal.remove-requires-clause-free
remove-requires-clause-free g c = search rules

pub returns-in_err-remove-in-Remove-clause-beside :
    goal.returns-in_err-remove-in-Remove-clause-beside
returns-in_err-remove-in-Remove-clause-beside g c = search rules

pub returns-in_err-remove-in-Remove-clause-no_room :
    goal.returns-in_err-remove-in-Remove-clause-no_room
returns-in_err-remove-in-Remove-clause-no_room g c = search rules

pub returns-in_err-remove-in-Remove-clause-untouched :
    goal.returns-in_err-remove-in-Remove-clause-untouched
returns-in_err-remove-in-Remove-clause-untouched g c = search rules

pub returns-in_ok-put-in-Put-clause-beside : goal.returns-in_ok-put-in-Put-clause-beside
returns-in_ok-put-in-Put-clause-beside g c = search rules

pub returns-in_ok-remove-in-Remove-clause-beside : goal.returns-in_ok-remove-in-Remove-clause-beside
returns-in_ok-remove-in-Remove-clause-beside g c = search rules

pub returns-in_err-put-in-Put-clause-changed : goal.returns-in_err-put-in-Put-clause-changed
returns-in_err-put-in-Put-clause-changed g c = search rules

pub returns-in_err-remove-in-Remove-clause-changed :
    goal.returns-in_err-remove-in-Remove-clause-changed
returns-in_err-remove-in-Remove-clause-changed g c = search rules

pub returns-in_ok-put-in-Put-clause-changed : goal.returns-in_ok-put-in-Put-clause-changed
returns-in_ok-put-in-Put-clause-changed g c = search rules

pub returns-in_ok-remove-in-Remove-clause-changed :
    goal.returns-in_ok-remove-in-Remove-clause-changed
returns-in_ok-remove-in-Remove-clause-changed g c = search rules
