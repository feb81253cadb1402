use Rattle.std.proofs.lemmas.Grind.{elements}
use Rattle.std.proofs.Common.{◌≡◌, ℕ, ◌+◌, ◌<◌, ◌∷◌, ◌++◌, List, length, take, drop, rules, arith, sym, ap, subst, ◌∙◌}
use Rattle.mst_lines.specs.Lines.{IsWithout}
use Rattle.mst_lines.proofs.Cutting.{none_before, joined}
use Rattle.mst_lines.proofs.separator.cut.Goals as goal

pub returns : goal.returns
returns c =
    let bytes = c.args.bytes.now in
    let place = c.in_ok-place.place in
    let front : c.split_at.result.0.now ≡ take place bytes = search rules in
    let back : c.split_at-2.result.1.now ≡ drop (place + 1) bytes = search rules in
    let within : place < length bytes = omega arith in (
      subst (IsWithout c.args.at) (sym front)
          (none_before bytes c.args.at place (omega arith) c.in_ok-place.ensures.0.before),
      joined bytes c.args.at place within c.in_ok-place.ensures.1
          ∙ ap (λ (l : List ℕ). l ++ c.args.at ∷ drop (place + 1) bytes) (sym front)
          ∙ ap (λ (l : List ℕ). c.split_at.result.0.now ++ c.args.at ∷ l) (sym back),
    )

pub returns-in_err-place : goal.returns-in_err-place
returns-in_err-place c = grind (arith, elements)

pub split_at-requires : goal.split_at-requires
split_at-requires c = search rules

pub overflow_add-place : goal.overflow_add-place
overflow_add-place c = search rules

pub split_at-requires-2 : goal.split_at-requires-2
split_at-requires-2 c = search rules
