-- Lists of edits: each of another key, or with keys that rise.
use Rattle.std.specs.Prelude.{◌≡◌, ℕ, List, [], ◌∷◌}
use Rattle.std.specs.List.{AllByRecursion}
use Rattle.std.specs.declared.cmp.Ordering.TheVariants.{Less}
use Rattle.mst_key.specs.declared.history.Edit.{Edit}
use Rattle.mst_key.specs.History.{key_of, IsEdited}
use Rattle.mst_key.specs.Map.{key_cmp}

-- no two of the edits are of one key
abbrev pub HaveOwnKeys : List Edit → Type 0
HaveOwnKeys [] = Unit {0}
HaveOwnKeys (e ∷ es) = (IsEdited (key_of e) es → ⊥) × HaveOwnKeys es

-- the key is less than that of each edit
abbrev pub AreAbove : List Edit → List ℕ → Type 0
AreAbove es k = AllByRecursion (λ e. key_cmp k (key_of e) ≡ Less) es

-- the keys of the edits rise strictly: each is less than all that follow it
abbrev pub AreRising : List Edit → Type 0
AreRising [] = Unit {0}
AreRising (e ∷ es) = AreAbove es (key_of e) × AreRising es
