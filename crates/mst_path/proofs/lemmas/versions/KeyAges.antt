-- How old the nodes are after a change of a key: those that stood stay on their rows, and the
-- others have new rows and did not stand.
use Rattle.mst_path.proofs.Names.{◌≡◌, ℕ, ◌+◌, List, sym, ap, ◌∙◌, AllByRecursion, Pair, Format, cost, new_rows, Content, State, free_count, tree_of, used, Stands, numbers, Root, placed_nodes, IsAged, AreOld, OnlyFreeWritten, IsMade, Changes}
use Rattle.mst_path.proofs.lemmas.versions.Changes.{distinct_times}
use Rattle.mst_path.proofs.lemmas.versions.NodeAges.{aged}

pub all_aged : (f : Format) (old new : State) (before now : Content) (root at : Root)
    (m n : List Pair) (stood : Stands f before root m) (stands : Stands f now at n)
    → AreOld old (numbers stood) → Changes old new (numbers stood) (numbers stands)
    → OnlyFreeWritten old before now → IsMade new stands.tree.placed → free_count new.lives + cost f
    m n ≡ free_count old.lives → AllByRecursion (IsAged f f new stood.tree.placed)
    (placed_nodes stands.tree.placed)
all_aged f old new before now root at m n stood stands are_old change written made count =
    let o = stood.tree.placed in
    let w = stands.tree.placed in
    let costs : cost f m n ≡ new_rows (tree_of f o) (tree_of f w) =
    λ i. new_rows (sym stood.tree.is i) (sym stands.tree.is i) in
    aged f before now old new o w stood.tree.rows change written are_old stands.tree.rows made
    (distinct_times (used w) stands.tree.once)
    (ap (λ (c : ℕ). free_count new.lives + c) (sym costs) ∙ count)
