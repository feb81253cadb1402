use Rattle.mst_node.proofs.Names.{List, ℕ, refl, ap, ◌∙◌, arith, rules, place_of}
use Rattle.mst_node.proofs.GrammarIsRead.{read_in_grammar, grammar_read}
use Rattle.mst_node.proofs.Scans.{text-scanned, node-scanned}
use Rattle.mst_node.proofs.ReadIsSpelled.{bytes-at}
use Rattle.mst_node.proofs.finding.find_in_text.Goals as goal

pub returns-in_default-clause-grammar : goal.returns-in_default-clause-grammar
returns-in_default-clause-grammar c = (
  λ f. absurd (search rules),
  λ g. absurd (node-scanned c.args.format c.bytes.result.now c.args.text.now g.0
      (grammar_read c.args.format c.args.text.now g) g.2.keys c.in_default.ensures.reading),
)

pub returns-clause-found : goal.returns-clause-found
returns-clause-found c =
    let s = text-scanned c.args.format c.bytes.result.now c.args.text.now _
    c.in-Some.ensures.reading in
    let is = read_in_grammar c.args.format c.args.text.now s.node s.read
    (bytes-at c.args.text.now (λ i. omega (arith, c.type_inv.text i))) s.fit in
    let within = c.ends_lie_in-within.ensures.within in
    let place = c.place-place.ensures.place ∙ s.place c.args.span
    ∙ ap (λ (k : List ℕ). place_of k c.args.span s.node) c.bytes.ensures.bytes in (
      s.node,
      is.0,
      is.1,
      is.2,
      record {
        layer = s.layer;
        within = (
          λ t. (s.within c.args.span).0 (within.0 t),
          λ w. within.1
              ((s.within c.args.span).1 w),
        );
        place = place;
      },
    )

pub returns-clause-grammar : goal.returns-clause-grammar
returns-clause-grammar c =
    let s = text-scanned c.args.format c.bytes.result.now c.args.text.now _
    c.in-Some.ensures.reading in
    let is = read_in_grammar c.args.format c.args.text.now s.node s.read
    (bytes-at c.args.text.now (λ i. omega (arith, c.type_inv.text i))) s.fit in
    (λ t. (s.node, is.0, is.1, is.2), λ g. refl)
