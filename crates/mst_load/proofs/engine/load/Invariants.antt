use Rattle.mst_load.proofs.engine.load.Given as goal

abbrev pub ghosts-run_all : goal.ghosts-run_all
ghosts-run_all g a = record { store = a._store.now; writers = a.plan.writers; calls = a.plan.calls }
