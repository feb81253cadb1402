-- The definitions at bytes that were worked by hand.
use Rattle.std.proofs.Common.{◌≡◌, [], ◌∷◌, refl, codes}
use Rattle.mst_lines.specs.Lines.{complete, remainder}

two_lines : complete (codes "a\n\nb") ≡ codes "a" ∷ [] ∷ []
unfolding complete
two_lines = refl

a_rest : remainder (codes "a\n\nb") ≡ codes "b"
unfolding remainder
a_rest = refl
