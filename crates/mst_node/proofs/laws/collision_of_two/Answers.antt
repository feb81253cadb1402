use Rattle.mst_node.proofs.Names.{◌≡◌, ℕ, List, [], ◌∷◌, sym, ◌∙◌, ⊎_elim, contains-cases, contains-nothing}
use Rattle.std.proofs.Common.{Contains}
use Rattle.mst_node.proofs.laws.collision_of_two.Goals as goal

pub returns-clause-two : goal.returns-clause-two
returns-clause-two c texts = (
  λ has. (has.0, has.1, has.2, has.3, has.4.differ, has.4.same),
  λ are. (are.0, are.1, are.2, are.3, record { differ = are.4; same = are.5 }),
)

pub returns-clause-alone : goal.returns-clause-alone
returns-clause-alone c text has = has.4.differ (sym (only has.0 has.2) ∙ only has.1 has.3)
  where
    only : (one : List ℕ) → Contains (text ∷ []) one → text ≡ one
    only one is =
        ⊎_elim (λ (same : text ≡ one). same)
        (λ (rest : Contains [] one). absurd (contains-nothing one rest))
        (contains-cases text [] one is)
