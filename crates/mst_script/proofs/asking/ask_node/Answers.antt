use Rattle.mst_script.proofs.Names.{rules, ◌≡◌, refl, ◌∙◌, tree, Node, codes, line_of, top_words, after, format_seen, text_of}
use Rattle.mst_script.proofs.Calling.{asked, collected, missed}
use Rattle.mst_script.proofs.asking.ask_node.Goals as goal

pub returns-in-Err : goal.returns-in-Err
returns-in-Err g c = let p = c.args.pass.now in let q = c.prove.new.self in
    asked Node Node p q (line_of (codes "memory")) refl
    (missed (λ f m. line_of (top_words (tree f m))) (line_of (codes "memory")) p q
    c.in-Err.ensures.memory refl)

pub unreachable-requires : goal.unreachable-requires
unreachable-requires g c = search rules

pub unreachable-unreachable : goal.unreachable-unreachable
unreachable-unreachable g c = search rules

pub returns-in-Ok-prove : goal.returns-in-Ok-prove
returns-in-Ok-prove g c =
    let p = c.args.pass.now in
    let q = c.prove.new.self in
    let found = c.in-Ok-prove.ensures.ok in
    let text = text_of c.top_of.result in
    let same : c.as_slice.result.now ≡ c.in-Ok-prove.proof.items = search rules in
    asked Node Node p q text refl
    (collected (λ f m. line_of (top_words (tree f m))) text p q found.looks
    (c.top_of.ensures (format_seen q) (after q.seen) c.in-Ok.least (same ∙ found.answer_is)))

pub top_of-requires : goal.top_of-requires
top_of-requires g c = search rules
