use Rattle.std.proofs.Common.{◌≡◌, ◌++◌, List, ℕ, length, IfSome, sym, ap, subst, ◌∙◌, arith}
use Rattle.std.proofs.lemmas.List.{take_all}
use Rattle.mst_prefix.proofs.comparison.after.Goals as goal

pub slice_bounds-after_words-end-in-32 : goal.slice_bounds-after_words-end-in-32
slice_bounds-after_words-end-in-32 c =
    sym (ap length (take_all 32 c.args.bytes.now (omega (arith, c.in-32.is))) ∙ c.in-32.is)

pub returns-in-32 : goal.returns-in-32
returns-in-32 c = record {
  rest = subst
      (λ (xs : List ℕ). IfSome c.after_words-in-32.result
      (λ rest. c.args.text.now ≡ xs ++ rest.now))
      (take_all 32 c.args.bytes.now (omega (arith, c.in-32.is)))
      c.after_words-in-32.ensures.rest;
}
