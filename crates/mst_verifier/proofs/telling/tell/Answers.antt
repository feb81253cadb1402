use Rattle.std.proofs.Common.{rules}
use Rattle.mst_verifier.proofs.telling.tell.Goals as goal

pub returns-then-room-bytes-clause-code : goal.returns-then-room-bytes-clause-code
returns-then-room-bytes-clause-code c = search rules

pub returns-then-room-bytes-clause-room : goal.returns-then-room-bytes-clause-room
returns-then-room-bytes-clause-room c = search rules

pub put-requires : goal.put-requires
put-requires c = search rules

pub overflow_cast-result : goal.overflow_cast-result
overflow_cast-result c = search rules

pub returns-else-room-bytes-clause-code : goal.returns-else-room-bytes-clause-code
returns-else-room-bytes-clause-code c = search rules

pub returns-else-room-bytes-clause-room : goal.returns-else-room-bytes-clause-room
returns-else-room-bytes-clause-room c = search rules

pub returns-in-Ok-None-clause-code : goal.returns-in-Ok-None-clause-code
returns-in-Ok-None-clause-code c = search rules

pub returns-in-Ok-None-clause-room : goal.returns-in-Ok-None-clause-room
returns-in-Ok-None-clause-room c = search rules

pub returns-in-Err-clause-code : goal.returns-in-Err-clause-code
returns-in-Err-clause-code c = search rules

pub returns-in-Err-clause-room : goal.returns-in-Err-clause-room
returns-in-Err-clause-room c = search rules
