-- Passes that are laid down: of which stores they are.
use Rattle.std.specs.Prelude.{◌≡◌, List, map}
use Rattle.mst_store.specs.Passes.{Known, StoreId}

-- the passes are of these stores, one after the other
abbrev pub AreOf : List StoreId → List Known → Type 0
AreOf stores ps = map (λ p. p.store) ps ≡ stores
