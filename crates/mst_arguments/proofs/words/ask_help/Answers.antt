use Rattle.std.proofs.Common.{ℕ, List, length, sym, subst, arith}
use Rattle.std.proofs.lemmas.Bool.{false≢true}
use Rattle.std.specs.List.{AllWithin}
use denote.Ref.{Bor}
use Rattle.mst_arguments.specs.Commanding.{IsHelp, AskHelp}
use Rattle.mst_arguments.proofs.words.ask_help.Goals as goal

none_asks : (words : List (Bor (List ℕ))) → AllWithin (λ word. IsHelp word.now → ⊥) words 0
    (length words) → AskHelp words → ⊥
none_asks words none asks = none asks.1.0 asks.0 (omega arith) asks.1.1
    (subst (λ (word : Bor (List ℕ)). IsHelp word.now) (sym asks.1.2) asks.2)

pub returns : goal.returns
returns c = (
  λ e. absurd (false≢true e),
  λ asks. absurd
      (none_asks c.args.words.now (λ k d a b. c.loop-word.invariant k d a (omega arith)) asks),
)
