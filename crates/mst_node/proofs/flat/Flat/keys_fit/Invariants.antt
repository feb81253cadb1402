use Rattle.mst_node.proofs.Names.{◌≡◌, ◌-◌, List, ℕ, Some, ◌↔◌, option_copied, KeysFit, FlatEntry, entries_at}
use Rattle.mst_node.proofs.FittingKeys.{FitsFrom}
use Rattle.mst_node.proofs.flat.Flat.keys_fit.Given as goal

-- the entries to come are read from the rest, and all keys fit if theirs do from the last key on
abbrev pub invariant-loop : goal.invariant-loop
invariant-loop l = (p : List FlatEntry × List ℕ)
    × (entries_at l.self-inside.format (l.self-inside.count - l.counter) l.rest ≡ Some p)
    × (KeysFit l.self ↔ FitsFrom l.self-inside.format (option_copied l.last) l.self-inside.layer
    p.0)
