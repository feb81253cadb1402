use Rattle.mst_versions.proofs.Names.{rules, ◌≤◌, sym, ap, subst, ◌∙◌, Seated, field, SeatState, HasTurn}
use Rattle.mst_versions.proofs.Asking.{only_asked, all_asked, knows, none_drained, none_blocked}
use Rattle.mst_versions.proofs.Beginning.{link_there, number_there, format_there, of_turn, ready}
use Rattle.mst_versions.proofs.turn.ready_turn.Goals as goal

pub read_root-requires-clause-link : goal.read_root-requires-clause-link
read_root-requires-clause-link g c = let t = c.requires.taken.1 in let a = c.ask_others-asked in
    link_there c.requires.taken.0 t.0 t.1 c.args.desk a.new.seat.me c.current-current.result.0
    t.2 (only_asked t.0 c.args.seat.now.me a.new.seat.me t.3 a.ensures.kept)
    (ap (λ z. z.0) c.current-current.ensures.current)
    (subst (λ (z : SeatState). z.0.rows ≤ 65535) t.3 c.requires.few_rows)

pub returns-clause-has : goal.returns-clause-has
returns-clause-has g c = let t = c.requires.taken.1 in let a = c.ask_others-asked in let r =
    c.read_root in let f = c.read_format-format in
    let before = c.requires.taken.0 in
    let which = c.current-current.result.0 in
    let current = ap (λ z. z.0) c.current-current.ensures.current in
    let asked = only_asked t.0 c.args.seat.now.me a.new.seat.me t.3 a.ensures.kept in
    let number = ap (λ (z : Seated). field z.me.0.known_words which 6) r.ensures.same
    ∙ number_there before t.0 t.1 c.args.desk a.new.seat.me which t.2 asked current in
    subst (λ (z : Seated). HasTurn
    (of_turn {A = g.row.A.Denot} c.sweep.new.self r.result.1 f.result a.result.into
    c.len.result) z.me) (sym (f.ensures.same ∙ r.ensures.same))
    (ready before t.0 t.1 {A = g.row.A.Denot} c.args.desk c.sweep.new.self a.result
    c.deref.result.now r.result.1 f.result a.new.seat.me which c.args.passes c.len.result
    (search rules)
    t.2 asked (c.requires.passes ∙ ap (λ (z : SeatState). z.0.passes) t.3)
    a.ensures.asked current r.ensures.root (f.ensures.format (format_there before t.0 t.1) number)
    c.deref.ensures.0 c.sweep.ensures.swept)

pub returns-clause-asked : goal.returns-clause-asked
returns-clause-asked g c = let t = c.requires.taken.1 in let a = c.ask_others-asked in let held =
    c.read_format-format.ensures.same ∙ c.read_root.ensures.same in
    ap (λ (z : Seated). z.me.0.asked) held ∙ all_asked c.args.desk a.result c.args.seat.now.me
    a.new.seat.me c.args.passes c.requires.passes
    (none_drained c.requires.taken.0 c.args.desk c.args.seat.now.me t)
    (none_blocked c.requires.taken.0 c.args.desk c.args.seat.now.me t) a.ensures.kept
    a.ensures.counted a.ensures.asked

pub ask_others-asked-requires-clause-knows : goal.ask_others-asked-requires-clause-knows
ask_others-asked-requires-clause-knows g c = let t = c.requires.taken in
    knows t.0 c.args.desk c.args.seat.now.me t.1 c.args.passes c.requires.holder c.requires.passes
    c.requires.few

pub ask_others-asked-requires-clause-passes : goal.ask_others-asked-requires-clause-passes
ask_others-asked-requires-clause-passes g c = search rules

pub ask_others-asked-requires-clause-none : goal.ask_others-asked-requires-clause-none
ask_others-asked-requires-clause-none g c = search rules

pub read_root-requires-clause-there : goal.read_root-requires-clause-there
read_root-requires-clause-there g c = search rules

pub read_root-requires-clause-readable : goal.read_root-requires-clause-readable
read_root-requires-clause-readable g c = search rules

pub deref-requires : goal.deref-requires
deref-requires g c = search rules

pub len-requires : goal.len-requires
len-requires g c = search rules

pub overflow_cast-result : goal.overflow_cast-result
overflow_cast-result g c = search rules

pub returns-clause-same : goal.returns-clause-same
returns-clause-same g c = search rules

pub returns-clause-kept : goal.returns-clause-kept
returns-clause-kept g c = search rules
