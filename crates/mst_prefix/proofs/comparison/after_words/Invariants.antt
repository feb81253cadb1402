use Rattle.mst_prefix.specs.Texts.{ArePast}
use Rattle.mst_prefix.proofs.comparison.after_words.Given as goal

abbrev pub invariant-loop : goal.invariant-loop
invariant-loop l = record { past : ArePast l.text l.bytes l.rest l.left }
