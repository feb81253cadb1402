use Rattle.mst_versions.proofs.Names.{rules, ℕ, [], ◌∷◌, ◌++◌, refl, sym, ap, ◌∙◌}
use Rattle.mst_versions.proofs.Asked.{asked_current, asked_drained, asked_blocked, asks_drained, asks_blocked, not_asked}
use Rattle.mst_versions.proofs.turn.Asked.ask.Goals as goal

pub returns-then-which-current-clause-asked : goal.returns-then-which-current-clause-asked
returns-then-which-current-clause-asked g c =
    asked_current c.args.which c.args.desk.now c.args.self.now c.args.seat.now.me c.requires.asked
    (c.if-which-current.true ∙ ap (λ z. z.0) c.current-current.ensures.current)

pub ask-requires-clause-new : goal.ask-requires-clause-new
ask-requires-clause-new g c = not_asked c.args.which c.args.desk.now c.args.self.now
    c.args.seat.now.me c.requires.asked

pub returns-then-ask-clause-asked : goal.returns-then-ask-clause-asked
returns-then-ask-clause-asked g c = asked_drained c.args.which c.args.desk.now c.args.self.now
    (record { live = c.args.self.now.live; into = c.args.which }) c.args.seat.now.me
    c.ask.new.self.me
    c.requires.asked
    (λ is. c.if-which-current.false
    (is ∙ ap (λ z. z.0) (sym c.current-current.ensures.current)))
    (c.ask.ensures.drained c.if-ask.true) refl refl

pub returns-else-ask-clause-asked : goal.returns-else-ask-clause-asked
returns-else-ask-clause-asked g c = asked_blocked c.args.which c.args.desk.now c.args.self.now
    (record { live = c.push.new.self; into = c.args.self.now.into }) c.args.seat.now.me
    c.ask.new.self.me
    c.requires.asked
    (λ is. c.if-which-current.false
    (is ∙ ap (λ z. z.0) (sym c.current-current.ensures.current)))
    (c.ask.ensures.blocked c.if-ask.false)
    (c.push.ensures.items ∙ ap (λ (v : ℕ). c.args.self.now.live.items ++ v ∷ [])
    c.version_of.ensures.version) refl

pub returns-then-which-current-clause-counted : goal.returns-then-which-current-clause-counted
returns-then-which-current-clause-counted g c = refl

pub returns-then-ask-clause-counted : goal.returns-then-ask-clause-counted
returns-then-ask-clause-counted g c = asks_drained c.args.which c.args.seat.now.me c.ask.new.self.me
    (c.ask.ensures.drained c.if-ask.true)

pub returns-else-ask-clause-counted : goal.returns-else-ask-clause-counted
returns-else-ask-clause-counted g c = asks_blocked c.args.which c.args.seat.now.me c.ask.new.self.me
    (c.ask.ensures.blocked c.if-ask.false)

pub returns-then-which-current-clause-same : goal.returns-then-which-current-clause-same
returns-then-which-current-clause-same g c = search rules

pub returns-then-which-current-clause-kept : goal.returns-then-which-current-clause-kept
returns-then-which-current-clause-kept g c = search rules

pub ask-requires-clause-holder : goal.ask-requires-clause-holder
ask-requires-clause-holder g c = search rules

pub ask-requires-clause-there : goal.ask-requires-clause-there
ask-requires-clause-there g c = search rules

pub ask-requires-clause-few : goal.ask-requires-clause-few
ask-requires-clause-few g c = search rules

pub ask-requires-clause-other : goal.ask-requires-clause-other
ask-requires-clause-other g c = search rules

pub version_of-requires : goal.version_of-requires
version_of-requires g c = search rules

pub push-requires : goal.push-requires
push-requires g c = search rules

pub returns-then-ask-clause-same : goal.returns-then-ask-clause-same
returns-then-ask-clause-same g c = search rules

pub returns-then-ask-clause-kept : goal.returns-then-ask-clause-kept
returns-then-ask-clause-kept g c = search rules

pub returns-else-ask-clause-same : goal.returns-else-ask-clause-same
returns-else-ask-clause-same g c = search rules

pub returns-else-ask-clause-kept : goal.returns-else-ask-clause-kept
returns-else-ask-clause-kept g c = search rules
