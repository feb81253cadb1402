use Rattle.std.proofs.Common.{arith}
use Rattle.std.proofs.lemmas.Grind.{common_steps}
use Rattle.std.proofs.Common.{◌≡◌, ◌∷◌, ◌++◌, ◌-◌, List, ℕ, ap, sym, ◌∙◌, rules, take, drop}
use Rattle.mst_lines.proofs.Cutting.{behind}
use Rattle.mst_lines.proofs.reader.Reader.cut_line.Goals as goal

pub returns-in-Some-clause-cut : goal.returns-in-Some-clause-cut
returns-in-Some-clause-cut g c = let s = c.self.inside in let front = c.in-Some.front.now in
    let others = c.in-Some.others.now in
    let is : take (s.end - s.at) (drop s.at s.piece.items) ≡ front ++ 10 ∷ others = search rules in
    let rest = behind s.piece.items front others 10 s.at s.end c.self.invariant.0 c.self.invariant.1
    is in
    λ yes. (
      front,
      c.in-Some.ensures.0,
      sym c.self.view_is ∙ is
          ∙ ap (λ (l : List ℕ). front ++ 10 ∷ l) (sym rest),
      c.extend.ensures,
    )

pub slice_bounds-left-count : goal.slice_bounds-left-count
slice_bounds-left-count g c = search rules

pub slice_bounds-left-start : goal.slice_bounds-left-start
slice_bounds-left-start g c = search rules

pub slice_bounds-left-end : goal.slice_bounds-left-end
slice_bounds-left-end g c = search rules

pub overflow_sub-self : goal.overflow_sub-self
overflow_sub-self g c = grind (arith, common_steps)

pub invariant_of-self : goal.invariant_of-self
invariant_of-self g c = search rules

pub invariant_of-self-in-None : goal.invariant_of-self-in-None
invariant_of-self-in-None g c = search rules

pub returns-in-Some-clause-none : goal.returns-in-Some-clause-none
returns-in-Some-clause-none g c = search rules

pub returns-in-None-clause-cut : goal.returns-in-None-clause-cut
returns-in-None-clause-cut g c = search rules

pub returns-in-None-clause-none : goal.returns-in-None-clause-none
returns-in-None-clause-none g c = search rules
