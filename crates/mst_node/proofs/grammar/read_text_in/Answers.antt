use Rattle.mst_node.proofs.Names.{refl, sym, ◌∙◌, subst, rules, arith, KeysFit}
use Rattle.mst_node.proofs.ReadIsSpelled.{bytes-at, some_same}
use Rattle.mst_node.proofs.EntryPlaces.{none-some}
use Rattle.mst_node.proofs.GrammarIsRead.{read_in_grammar, grammar_read}
use Rattle.mst_node.proofs.grammar.read_text_in.Goals as goal
use Rattle.mst_node.proofs.grammar.read_text_in.Goals.{in_default-via-in-Some+else-keys_fit, in_default-via-in_default}

pub returns-in-Some-clause-spelling : goal.returns-in-Some-clause-spelling
returns-in-Some-clause-spelling c =
    read_in_grammar c.args.format c.args.bytes.now c.in-Some.flat c.in-Some.ensures.reading
    (bytes-at c.args.bytes.now (λ i. omega (arith, c.type_inv.bytes i)))
    (c.if-keys_fit.ensures.fit.0 refl)

pub returns-in-Some-clause-grammar : goal.returns-in-Some-clause-grammar
returns-in-Some-clause-grammar c =
    let is = read_in_grammar c.args.format c.args.bytes.now c.in-Some.flat c.in-Some.ensures.reading
    (bytes-at c.args.bytes.now (λ i. omega (arith, c.type_inv.bytes i)))
    (c.if-keys_fit.ensures.fit.0 refl) in
    (λ t. (c.in-Some.flat, is.0, is.1, is.2), λ g. refl)

pub returns-in_default-clause-grammar : goal.returns-in_default-clause-grammar
returns-in_default-clause-grammar c = (
  λ f. absurd (search rules),
  λ g. elim c.in_default.branch [
    | in_default-via-in-Some+else-keys_fit w ↦
        let same =
        some_same g.0 w.in-Some.flat (sym (grammar_read c.args.format c.args.bytes.now g)
        ∙ w.in-Some.ensures.reading) in
        w.if-keys_fit.ensures.fit.1 (subst KeysFit same g.2.keys)
    | in_default-via-in_default w ↦ absurd
        (none-some _ g.0 w.in_default.ensures.reading
        (grammar_read c.args.format c.args.bytes.now g))
  ],
)
