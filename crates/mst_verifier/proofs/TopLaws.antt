-- A proof frames one first text at most, so one length is returned for it.
use Rattle.std.proofs.Common.{◌≡◌, ℕ, zero, suc, List, length, sym, ◌∙◌, ap}
use Rattle.std.specs.Prelude.{pos, negsuc}
use Rattle.std.proofs.lemmas.Option.{same_Some}
use Rattle.mst_node.specs.Frame.{FramesFirst}
use Rattle.mst_node.proofs.Frames.{first_again}
use Rattle.mst_verifier.specs.Top.{TellsTop}

one_first : (proof a b : List ℕ) → FramesFirst proof a → FramesFirst proof b → a ≡ b
one_first proof a b f g =
    let both : (a, f.rest) ≡ (b, g.rest) =
    same_Some (a, f.rest) (b, g.rest) (sym (first_again proof a f) ∙ first_again proof b g) in
    ap (λ (p : List ℕ × List ℕ). p.0) both

pub told_length : (proof text : List ℕ) (n : ℕ) → FramesFirst proof text → TellsTop proof (pos n)
    → n ≡ length text
told_length proof text n framed told =
    sym told.2 ∙ ap length (one_first proof told.0 text told.1 framed)

pub not_none : (proof text : List ℕ) (n : ℕ) → FramesFirst proof text → TellsTop proof (negsuc n)
    → ⊥
not_none proof text zero framed told = told text framed
not_none proof text (suc n) framed told = told
