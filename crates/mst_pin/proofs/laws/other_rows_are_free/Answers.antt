use Rattle.mst_pin.proofs.Names.{◌≡◌, ℕ, ◌∙◌, ap, ⊎_elim, inl, inr, is_some, IsPinned, Write, IsTaken}
use Rattle.std.specs.Prelude.{true}
use Rattle.mst_pin.proofs.laws.other_rows_are_free.Goals as goal

pub returns-clause-write : goal.returns-clause-write
returns-clause-write c = λ s x row settled mine others. (
  row,
  (λ r live. ⊎_elim (λ (current : r ≡ s.current). ap (λ (n : ℕ). s.rows n x) current ∙ mine)
      (λ (pinned : IsPinned s r). others pinned.0 r pinned.1) live),
  ap is_some settled,
)

pub returns-clause-publish : goal.returns-clause-publish
returns-clause-publish c =
    λ s rows may x set. ⊎_elim (λ (mine : s.rows s.current x ≡ true). inl mine)
    (λ (taken : IsTaken s (Write x)). inr taken.1) (may x set)
