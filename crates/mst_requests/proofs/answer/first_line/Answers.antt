use Rattle.mst_requests.proofs.Names.{rules}
use Rattle.mst_requests.proofs.answer.first_line.Goals as goal

pub new-text-requires : goal.new-text-requires
new-text-requires g c = search rules

pub extend-requires : goal.extend-requires
extend-requires g c = search rules

pub extend-requires-in-Value-Some : goal.extend-requires-in-Value-Some
extend-requires-in-Value-Some g c = search rules

pub extend_digits-requires-clause-few : goal.extend_digits-requires-clause-few
extend_digits-requires-clause-few g c = search rules

pub extend_digits-requires-clause-room : goal.extend_digits-requires-clause-room
extend_digits-requires-clause-room g c = search rules

pub extend_pair-requires : goal.extend_pair-requires
extend_pair-requires g c = search rules

pub extend_count-requires : goal.extend_count-requires
extend_count-requires g c = search rules

pub extend_digest-requires : goal.extend_digest-requires
extend_digest-requires g c = search rules

pub extend_pinned-requires : goal.extend_pinned-requires
extend_pinned-requires g c = search rules

pub extend-requires-in-Unpinned : goal.extend-requires-in-Unpinned
extend-requires-in-Unpinned g c = search rules

pub extend_rows-requires : goal.extend_rows-requires
extend_rows-requires g c = search rules

pub extend-requires-in-NoNode : goal.extend-requires-in-NoNode
extend-requires-in-NoNode g c = search rules

pub extend-requires-in-Busy : goal.extend-requires-in-Busy
extend-requires-in-Busy g c = search rules

pub extend-requires-in-Spent : goal.extend-requires-in-Spent
extend-requires-in-Spent g c = search rules

pub extend-requires-in-NoRoom : goal.extend-requires-in-NoRoom
extend-requires-in-NoRoom g c = search rules

pub extend-requires-in-Memory : goal.extend-requires-in-Memory
extend-requires-in-Memory g c = search rules

pub extend-requires-in-Value-None : goal.extend-requires-in-Value-None
extend-requires-in-Value-None g c = search rules

pub extend-requires-2 : goal.extend-requires-2
extend-requires-2 g c = search rules

pub returns : goal.returns
returns g c = search rules
