use Rattle.mst_versions.proofs.Names.{ap}
use Rattle.mst_versions.proofs.Asking.{knows}
use Rattle.mst_versions.proofs.Listed.{out_still, gives, told, asks_all}
use Rattle.mst_versions.proofs.turn.ask_all.Goals as goal

pub ask_others-others-requires-clause-knows : goal.ask_others-others-requires-clause-knows
ask_others-others-requires-clause-knows g c = let t = c.requires.taken in
    knows t.0 c.args.desk c.args.seat.now.me t.1 c.args.passes c.requires.holder c.requires.passes
    c.requires.few

pub lay_back-requires-clause-out : goal.lay_back-requires-clause-out
lay_back-requires-clause-out g c = let t = c.requires.taken in let a = c.ask_others-others in
    let n = c.note_current-noted in let d = c.ask_current-done in
    out_still t.0 c.args.desk c.args.seat.now.me t.1 a.result a.new.seat.me n.new.self.me
    d.new.self.me c.args.passes n.result d.result c.requires.passes a.ensures.kept a.ensures.asked
    n.ensures.noted d.ensures.asked

pub lay_back-requires-clause-giving : goal.lay_back-requires-clause-giving
lay_back-requires-clause-giving g c = let t = c.requires.taken in let a = c.ask_others-others in
    let n = c.note_current-noted in let d = c.ask_current-done in
    gives t.0 c.args.desk c.args.seat.now.me t.1 a.result a.new.seat.me n.new.self.me
    d.new.self.me c.args.passes n.result d.result c.requires.passes a.ensures.kept a.ensures.asked
    n.ensures.noted d.ensures.asked

pub returns-clause-found : goal.returns-clause-found
returns-clause-found g c = let t = c.requires.taken in let a = c.ask_others-others in
    let n = c.note_current-noted in let d = c.ask_current-done in
    told t.0 c.args.desk c.args.seat.now.me t.1 a.result a.new.seat.me n.new.self.me
    d.new.self.me c.args.passes n.result d.result c.requires.passes a.ensures.kept a.ensures.asked
    n.ensures.noted d.ensures.asked c.lay_back.new.seat.me c.lay_back.ensures.gave
    c.found_in.result.items c.current-current.result.1
    (ap (λ z. z.1) c.current-current.ensures.current) c.found_in.ensures.found

pub returns-clause-all : goal.returns-clause-all
returns-clause-all g c = let t = c.requires.taken in let a = c.ask_others-others in
    let n = c.note_current-noted in let d = c.ask_current-done in
    asks_all t.0 c.args.desk c.args.seat.now.me t.1 a.result a.new.seat.me n.new.self.me
    d.new.self.me c.args.passes n.result d.result c.requires.passes a.ensures.kept a.ensures.asked
    n.ensures.noted d.ensures.asked c.lay_back.new.seat.me c.lay_back.ensures.gave
    a.ensures.counted
