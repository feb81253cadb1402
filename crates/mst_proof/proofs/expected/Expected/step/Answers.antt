use Rattle.mst_proof.proofs.Names.{◌≡◌, ◌∙◌, refl, sym, ap, arith, ℕ, Bool, true, false, Some, rules, not, Ok, FlatNode, bytes-at, node_in, is_under, step_of}
use Rattle.mst_node.specs.Found.{IsFound}
use Rattle.mst_proof.proofs.Decisions.{node_in-none, node_in-read, keys_inside}
use Rattle.mst_proof.proofs.Steps.{step-no_node, step-other_digest, step-not_below, step-outside, step-passed}
use Rattle.mst_proof.proofs.expected.Expected.step.Goals.{In-Some}
use Rattle.mst_proof.proofs.expected.Expected.step.Goals as goal

-- the two answers of a test and of its negation
no_from_not : (b : Bool) → true ≡ not b → b ≡ false
no_from_not true e = e
no_from_not false e = refl

yes_from_not : (b : Bool) → false ≡ not b → b ≡ true
yes_from_not true e = refl
yes_from_not false e = e

pub returns-in_default : goal.returns-in_default
returns-in_default c =
    let b = bytes-at c.args.text.now (λ i. omega (arith, c.type_inv.text i)) in
    let none = node_in-none c.args.format c.args.text.now b
    (λ g. absurd (search (rules, c.in_default.ensures.grammar.1 g))) in
    record {
      step = sym (step-no_node c.args.format c.args.key.now c.args.text.now c.args.self none);
    }

-- ---- the text is a node's

module _ (c : goal.In-Some) where
  abbrev node : FlatNode
  node = c.in-Some.ensures.found.0

  says : IsFound c.args.key.now c.args.self.span node c.in-Some.found
  says = c.in-Some.ensures.found.4

  read : node_in c.args.format c.args.text.now ≡ Some node
  read = node_in-read c.args.format c.args.text.now
      (node, c.in-Some.ensures.found.1, c.in-Some.ensures.found.2, c.in-Some.ensures.found.3)

  under_is : is_under c.args.self.upper node.layer ≡ is_under c.args.self.upper
      c.in-Some.found.layer
  under_is = ap (is_under c.args.self.upper) (sym says.layer)

pub returns-then-not-has_digest : goal.returns-then-not-has_digest
returns-then-not-has_digest c =
    let at = (goal.at.returns-then-not-has_digest c).In-Some in
    let other = sym c.if-not-has_digest.ensures.same in
    record {
      step =
          sym (step-other_digest c.args.format c.args.key.now c.args.text.now c.args.self (node at)
          (read at) other);
    }

-- ---- and it has the digest

pub returns-then-not-is_under : goal.returns-then-not-is_under
returns-then-not-is_under c =
    let at = (goal.at.returns-then-not-is_under c).In-Some in
    let same = sym c.if-not-has_digest.ensures.same in
    record {
      step =
          sym (step-not_below c.args.format c.args.key.now c.args.text.now c.args.self (node at)
          (read at) same (under_is at ∙ sym c.if-not-is_under.ensures.under));
    }

pub returns-then-not-found : goal.returns-then-not-found
returns-then-not-found c =
    let at = (goal.at.returns-then-not-found c).In-Some in
    let same = sym c.if-not-has_digest.ensures.same in
    let outside = keys_inside c.args.self.span (node at) c.in-Some.found.within (says at).within
    ∙ no_from_not _ (sym c.if-not-found.true) in
    record {
      step =
          sym (step-outside c.args.format c.args.key.now c.args.text.now c.args.self (node at)
          (read at) same (under_is at ∙ sym c.if-not-is_under.ensures.under) outside);
    }

pub returns : goal.returns
returns c =
    let at = (goal.at.returns c).In-Some in
    let same = sym c.if-not-has_digest.ensures.same in
    let inside = keys_inside c.args.self.span (node at) c.in-Some.found.within (says at).within
    ∙ yes_from_not _ (sym c.if-not-found.false) in
    let step = c.of.ensures.step ∙ ap (λ (k : ℕ). step_of k c.in-Some.found.place) (says at).layer
    ∙ ap (step_of (node at).layer) (says at).place in
    record {
      step =
          ap Ok step ∙ sym (step-passed c.args.format c.args.key.now c.args.text.now c.args.self
          (node at) (read at) same (under_is at ∙ sym c.if-not-is_under.ensures.under) inside);
    }
