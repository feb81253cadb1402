use Rattle.mst_theorem.proofs.Notes.{as_many, as_many_seats, as_many_made}
use Rattle.mst_theorem.proofs.laws.note_laws.Goals as goal

pub returns-clause-number : goal.returns-clause-number
returns-clause-number c p q log = as_many p.seen q.seen log

pub returns-clause-moment : goal.returns-clause-moment
returns-clause-moment c = as_many_seats

pub returns-clause-write : goal.returns-clause-write
returns-clause-write c = as_many_made
