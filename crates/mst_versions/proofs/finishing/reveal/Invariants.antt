use Rattle.mst_versions.proofs.Names.{desk_state}
use Rattle.mst_versions.proofs.finishing.reveal.Given as goal

-- the event that is added, and what the desk then knows
abbrev pub ghosts-publish : goal.ghosts-publish
ghosts-publish g a = record { event = a.event.now; desk = desk_state a.desk.now }
