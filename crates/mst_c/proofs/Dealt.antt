-- The passes that a store deals are its own.
use Rattle.mst_c.proofs.Names.{◌≡◌, ℕ, ◌+◌, ◌<◌, List, length, get_or, ap, ◌∙◌, Known, new_pass, new_passes}
use Rattle.mst_store.specs.Passes.{StoreId}
use Rattle.mst_store.proofs.AllPasses.{first_length, first_at}

-- there are as many as the store has
pub dealt_length : (s : StoreId) → length (new_passes s) ≡ s.passes
dealt_length s = first_length s s.passes

-- each pass that was dealt is of the store
pub dealt_own : (s : StoreId) (ps : List Known) (k : ℕ) (d : Known) → ps ≡ new_passes s
    → k < s.passes → (get_or ps k d).store ≡ s
dealt_own s ps k d is below = ap (λ (qs : List Known). (get_or qs k d).store) is
    ∙ ap (λ (p : Known). p.store) (first_at s s.passes k d below)

-- and has its number
pub dealt_at : (s : StoreId) (ps : List Known) (k : ℕ) (d : Known) → ps ≡ new_passes s
    → k < s.passes → get_or ps k d ≡ new_pass s (k + 1)
dealt_at s ps k d is below = ap (λ (qs : List Known). get_or qs k d) is ∙ first_at s s.passes k d
    below
