-- What the kept versions of a history hold in rows. A subtree stays over a run of versions, each of
-- which has it; the stay counts once, at the first kept version in it.
use Rattle.std.specs.Prelude.{ℕ, zero, suc, Bool, not, ◌&&◌, ◌||◌, ◌==◌, nat_lt, if◌then◌else◌, ◌+◌, List, length, take, filter, sum_by}
use Rattle.std.specs.List.{list_any}
use Rattle.mst_key.specs.History.{History, after, format_after}
use Rattle.mst_key.specs.declared.format.Format.{Format}
use Rattle.mst_node.specs.Tree.{Tree, tree}
use Rattle.mst_node.specs.Cost.{subtrees, is_subtree, top_entries}

-- the tree of version v: of the map after the first v events, in the format that they leave. The
-- format that is given, here and below, is that of version 0
abbrev pub tree_at : Format → History → ℕ → Tree
tree_at first h v = tree (format_after first (take v h)) (after (take v h))

-- the tree t stands in the tree of version w and of each version before it down to v
abbrev pub lasts : Format → History → ℕ → ℕ → Tree → Bool
lasts format h v zero t = is_subtree t (tree_at format h zero)
lasts format h v (suc w) t =
    is_subtree t (tree_at format h (suc w)) && (nat_lt w v || lasts format h v w t)

-- whether the version is one of those that are kept
abbrev pub is_kept : List ℕ → ℕ → Bool
is_kept live v = list_any (λ u. u == v) live

-- whether t has stayed up to version w since a kept version before it
abbrev pub has_stayed : Format → History → List ℕ → ℕ → Tree → Bool
has_stayed format h live w t = list_any (λ u. nat_lt u w && lasts format h u w t) live

-- the rows of the subtrees of version w that have not: one for each entry of the top node, and one
-- for the node
abbrev pub rows_first_at : Format → History → List ℕ → ℕ → ℕ
rows_first_at format h live w =
    sum_by (λ t. top_entries t + 1)
    (filter (λ t. not (has_stayed format h live w t)) (subtrees (tree_at format h w)))

-- what the kept versions below n hold
abbrev pub held_below : Format → History → List ℕ → ℕ → ℕ
held_below format h live zero = 0
held_below format h live (suc w) =
    (if is_kept live w then rows_first_at format h live w else 0) + held_below format h live w

-- what the kept versions of the history hold
abbrev pub held : Format → History → List ℕ → ℕ
held format h live = held_below format h live (length h + 1)
