use Rattle.mst_arena.proofs.Names.{rules, ◌++◌, ◌∷◌, ◌∙◌, List, ℕ, take, ap, sym, take_all, child_text}
use Rattle.mst_arena.proofs.entry_words.lay_child.Goals as goal

pub returns-in-Some-clause-text : goal.returns-in-Some-clause-text
returns-in-Some-clause-text c =
    c.lay-in-Some.ensures.text
    ∙ ap (λ (x : List ℕ). x ++ take 32 c.in-Some.digest) c.lay-behind.ensures.text
    ∙ ap (λ (x : List ℕ). 1 ∷ x) (take_all 32 c.in-Some.digest (search rules))
    ∙ sym (ap child_text c.in-Some.is)
