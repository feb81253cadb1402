use Rattle.mst_shards.proofs.Names.{key_of, place}
use Rattle.std.specs.Prelude.{◌≡◌, ◌≤◌, map, take, length, vec_len, vec_capacity, vec_items}
use Rattle.mst_shards.proofs.edits.places_of.Given as goal

abbrev pub invariant-loop-edit : goal.invariant-loop-edit
invariant-loop-edit g l =
    (vec_items l.places ≡ map (λ e. place l.splits (key_of e)) (take l.edit-index l.edits))
    × (vec_len l.places ≡ l.edit-index) × (length l.edits ≤ vec_capacity l.places)
