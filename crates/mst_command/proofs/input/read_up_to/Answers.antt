use Rattle.std.proofs.Common.{arith}
use Rattle.std.proofs.lemmas.Grind.{common_steps}
use Rattle.std.proofs.Common.{rules}
use Rattle.mst_command.proofs.Inputs.{at_end, beyond}
use Rattle.mst_command.proofs.input.read_up_to.Goals as goal

pub returns-then-count-eq0-clause-all : goal.returns-then-count-eq0-clause-all
returns-then-count-eq0-clause-all g c = let i = c.loop-count.invariant in
    at_end g.S.Source.gives g.met.S.Source.gives_more g.S.Source.left c.args.most c.args.source.now
    c.loop-count.source c.read.new.self c.loop-count.bytes.items c.read.new.buffer c.in-Ok.count
    i.given i.within c.in-Ok.ensures.ok (search rules)

pub returns-then-count-most-clause-all : goal.returns-then-count-most-clause-all
returns-then-count-most-clause-all g c = let i = c.loop-count.invariant in
    beyond g.S.Source.gives g.met.S.Source.gives_more g.S.Source.left c.args.most c.args.source.now
    c.loop-count.source c.read.new.self c.loop-count.bytes.items c.read.new.buffer c.in-Ok.count
    i.given i.within c.in-Ok.ensures.ok (search rules) (search rules)

pub loop-count-init : goal.loop-count-init
loop-count-init g c = search rules

pub slice_bounds-read-end : goal.slice_bounds-read-end
slice_bounds-read-end g c = search rules

pub read-requires-clause-room : goal.read-requires-clause-room
read-requires-clause-room g c = search rules

pub read-requires-clause-few : goal.read-requires-clause-few
read-requires-clause-few g c = search rules

pub returns-in_default-clause-all : goal.returns-in_default-clause-all
returns-in_default-clause-all g c = search rules

pub returns-in_default-clause-steady : goal.returns-in_default-clause-steady
returns-in_default-clause-steady g c = search rules

pub returns-in_default-clause-device : goal.returns-in_default-clause-device
returns-in_default-clause-device g c = search rules

pub returns-in_default-clause-memory : goal.returns-in_default-clause-memory
returns-in_default-clause-memory g c = search rules

pub returns-then-count-eq0-clause-steady : goal.returns-then-count-eq0-clause-steady
returns-then-count-eq0-clause-steady g c = search rules

pub returns-then-count-eq0-clause-device : goal.returns-then-count-eq0-clause-device
returns-then-count-eq0-clause-device g c = search rules

pub returns-then-count-eq0-clause-memory : goal.returns-then-count-eq0-clause-memory
returns-then-count-eq0-clause-memory g c = search rules

pub overflow_sub-most : goal.overflow_sub-most
overflow_sub-most g c = search rules

pub returns-then-count-most-clause-steady : goal.returns-then-count-most-clause-steady
returns-then-count-most-clause-steady g c = search rules

pub returns-then-count-most-clause-device : goal.returns-then-count-most-clause-device
returns-then-count-most-clause-device g c = search rules

pub returns-then-count-most-clause-memory : goal.returns-then-count-most-clause-memory
returns-then-count-most-clause-memory g c = search rules

pub slice_bounds-piece-end : goal.slice_bounds-piece-end
slice_bounds-piece-end g c = search rules

pub slice_bounds-append-end : goal.slice_bounds-append-end
slice_bounds-append-end g c = search rules

pub append-requires : goal.append-requires
append-requires g c = search rules

pub returns-in-Err-clause-all : goal.returns-in-Err-clause-all
returns-in-Err-clause-all g c = search rules

pub returns-in-Err-clause-steady : goal.returns-in-Err-clause-steady
returns-in-Err-clause-steady g c = search rules

pub returns-in-Err-clause-device : goal.returns-in-Err-clause-device
returns-in-Err-clause-device g c = search rules

pub returns-in-Err-clause-memory : goal.returns-in-Err-clause-memory
returns-in-Err-clause-memory g c = search rules

pub loop-count-smaller : goal.loop-count-smaller
loop-count-smaller g c = search rules

pub loop-count-preserved : goal.loop-count-preserved
loop-count-preserved g c = grind (arith, common_steps)
