use Rattle.mst_parts.proofs.Names.{◌≡◌, ◌∙◌, ◌+◌, ◌≤◌, ℕ, List, length, vec_capacity, ap, subst, Shards, parts_of}
use Rattle.mst_parts.proofs.dealing.lists_to_begin.Goals as goal

pub returns-clause-edits : goal.returns-clause-edits
returns-clause-edits g c =
    c.in_ok-parts.ensures.parts
    ∙ ap (λ (l : List (List ℕ)). parts_of l c.args.edits.now)
    (c.splits-splits.ensures.splits ∙ ap (λ (s : Shards). s.splits) c.deref.ensures)

pub returns-clause-dealt : goal.returns-clause-dealt
returns-clause-dealt g c =
    c.in_ok-parts.ensures.count
    ∙ ap (λ (l : List (List ℕ)). length l + 1)
    (c.splits-splits.ensures.splits ∙ ap (λ (s : Shards). s.splits) c.deref.ensures)

pub returns-clause-shares : goal.returns-clause-shares
returns-clause-shares g c =
    c.in_ok-shares.ensures.count
    ∙ ap (λ (l : List (List ℕ)). length l + 1)
    (c.splits-splits.ensures.splits ∙ ap (λ (s : Shards). s.splits) c.deref.ensures)

pub returns-clause-room : goal.returns-clause-room
returns-clause-room g c =
    subst (λ (l : List (List ℕ)). length l + 1 ≤ vec_capacity c.in_ok-room.room)
    (c.splits-splits.ensures.splits ∙ ap (λ (s : Shards). s.splits) c.deref.ensures)
    c.in_ok-room.ensures.room
