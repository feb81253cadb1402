-- The edits of each shard.
use Rattle.std.specs.Prelude.{◌==◌, ℕ, if◌then◌else◌, List, [], ◌∷◌, filter}
use Rattle.mst_key.specs.declared.history.Edit.{Edit}
use Rattle.mst_key.specs.History.{key_of}
use Rattle.mst_shards.specs.Sharding.{place}

-- the edits of one shard, in their order
abbrev pub edits_at : List (List ℕ) → List Edit → ℕ → List Edit
edits_at splits edits i = filter (λ e. place splits (key_of e) == i) edits

-- of edits, each with a place, those whose place is this one, in their order
abbrev pub picked : List ℕ → List Edit → ℕ → List Edit
picked [] edits i = []
picked (at ∷ places) [] i = []
picked (at ∷ places) (e ∷ edits) i =
    if at == i then e ∷ picked places edits i else picked places edits i
