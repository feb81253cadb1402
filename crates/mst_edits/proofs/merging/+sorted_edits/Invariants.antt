use Rattle.mst_edits.proofs.merging.+sorted_edits.Given as goal

-- each half fits half of what the list may have
abbrev pub decreases-sorted_edits : goal.decreases-sorted_edits
decreases-sorted_edits g l = l.depth
