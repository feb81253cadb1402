use Rattle.mst_script.proofs.Names.{rules, sym, refl, ◌∙◌, subst, codes, text_of, line_of, pinned_words}
use Rattle.mst_script.specs.Serving.{IsFound}
use Rattle.mst_script.proofs.Serving.{all_asked, does_ask, all_recalled, does_recall, all_pinned, does_pin, all_unpinned, does_unpin}
use Rattle.mst_script.proofs.serve.answer.Goals as goal

pub returns-then-is_pin-clause-whole : goal.returns-then-is_pin-clause-whole
returns-then-is_pin-clause-whole g c = let f =
    subst (IsFound c.args.passes.now c.args.request.now.pass) c.in-Free.is c.find.ensures.found in
    all_pinned c.args.store.now c.args.passes.now c.pin.new.self c.in-Free.place c.pin.result f.0.0
    c.pin.ensures.pins c.requires.whole

pub returns-then-is_pin-clause-does : goal.returns-then-is_pin-clause-does
returns-then-is_pin-clause-does g c = let f =
    subst (IsFound c.args.passes.now c.args.request.now.pass) c.in-Free.is c.find.ensures.found in
    does_pin c.args.store.now c.args.request.now.pass c.args.request.now.command c.args.passes.now
    c.pin.new.self c.in-Free.place c.pin.result (line_of (pinned_words c.pin.result))
    f.0 f.1 (sym c.is_pin.ensures ∙ c.if-is_pin.true) refl c.pin.ensures.pins

pub returns-else-is_pin-clause-whole : goal.returns-else-is_pin-clause-whole
returns-else-is_pin-clause-whole g c = let f =
    subst (IsFound c.args.passes.now c.args.request.now.pass) c.in-Free.is c.find.ensures.found in
    all_asked c.args.store.now c.args.request.now.command c.args.passes.now c.ask.new.self
    c.in-Free.place (text_of c.ask.result) f.0.0 c.ask.ensures.asked c.requires.whole

pub returns-else-is_pin-clause-does : goal.returns-else-is_pin-clause-does
returns-else-is_pin-clause-does g c = let f =
    subst (IsFound c.args.passes.now c.args.request.now.pass) c.in-Free.is c.find.ensures.found in
    does_ask c.args.store.now c.args.request.now.pass c.args.request.now.command c.args.passes.now
    c.ask.new.self c.in-Free.place (text_of c.ask.result)
    c.requires.whole f.0 f.1 (sym c.is_pin.ensures ∙ c.if-is_pin.false) c.ask.ensures.asked

pub returns-then-is_unpin-clause-whole : goal.returns-then-is_unpin-clause-whole
returns-then-is_unpin-clause-whole g c = let f =
    subst (IsFound c.args.passes.now c.args.request.now.pass) c.in-Pinned.is c.find.ensures.found in
    all_unpinned c.args.store.now c.args.passes.now c.unpin.new.self c.in-Pinned.place f.0
    c.unpin.ensures.unpins c.requires.whole

pub returns-then-is_unpin-clause-does : goal.returns-then-is_unpin-clause-does
returns-then-is_unpin-clause-does g c = let f =
    subst (IsFound c.args.passes.now c.args.request.now.pass) c.in-Pinned.is c.find.ensures.found in
    does_unpin c.args.store.now c.args.request.now.pass c.args.request.now.command c.args.passes.now
    c.unpin.new.self c.in-Pinned.place (line_of (codes "unpinned"))
    f (sym c.is_unpin.ensures ∙ c.if-is_unpin.true) refl c.unpin.ensures.unpins

pub returns-else-is_unpin-clause-whole : goal.returns-else-is_unpin-clause-whole
returns-else-is_unpin-clause-whole g c = all_recalled c.args.store.now c.args.request.now.command
    c.args.passes.now c.recall.new.self c.in-Pinned.place (text_of c.recall.result)
    c.recall.ensures.asked c.requires.whole

pub returns-else-is_unpin-clause-does : goal.returns-else-is_unpin-clause-does
returns-else-is_unpin-clause-does g c = let f =
    subst (IsFound c.args.passes.now c.args.request.now.pass) c.in-Pinned.is c.find.ensures.found in
    does_recall c.args.store.now c.args.request.now.pass c.args.request.now.command
    c.args.passes.now c.recall.new.self c.in-Pinned.place (text_of c.recall.result)
    c.requires.whole f (sym c.is_unpin.ensures ∙ c.if-is_unpin.false) c.recall.ensures.asked

pub find-requires : goal.find-requires
find-requires g c = search rules

pub pin-requires : goal.pin-requires
pin-requires g c = search rules

pub ask-requires-clause-place : goal.ask-requires-clause-place
ask-requires-clause-place g c = search rules

pub ask-requires-clause-other : goal.ask-requires-clause-other
ask-requires-clause-other g c = search rules

pub unpin-requires : goal.unpin-requires
unpin-requires g c = search rules

pub recall-requires-clause-place : goal.recall-requires-clause-place
recall-requires-clause-place g c = search rules

pub recall-requires-clause-other : goal.recall-requires-clause-other
recall-requires-clause-other g c = search rules
