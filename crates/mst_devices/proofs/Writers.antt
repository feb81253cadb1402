-- Writes to a writer of std.
use Rattle.std.proofs.Common.{◌≡◌, ℕ, List, ◌++◌, Option, Some, None, ap, ◌∙◌}
use Rattle.std.proofs.lemmas.Option.{none-some, same_Some}
use Rattle.std.specs.Io.KnownBytes.{Appends}

-- after what a writer held stands what it took
pub all_held : (held taken : List ℕ) (before after : Option (List ℕ)) → before ≡ Some held
    → Appends before after taken → after ≡ Some (held ++ taken)
all_held held taken None after is took = absurd (none-some held is)
all_held held taken (Some had) None is took = absurd took
all_held held taken (Some had) (Some has) is took =
    ap (λ (l : List ℕ). Some l) (took ∙ ap (λ (l : List ℕ). l ++ taken) (same_Some had held is))
