use Rattle.std.specs.List.{AllWithin}
use Rattle.mst_arguments.specs.Commanding.{IsHelp}
use Rattle.mst_arguments.proofs.words.ask_help.Given as goal

-- no word so far asks for help
abbrev pub invariant-loop-word : goal.invariant-loop-word
invariant-loop-word l = AllWithin (λ word. IsHelp word.now → ⊥) l.words 0 l.word-index
