use Rattle.mst_sharded_proof.proofs.Names.{◌≡◌, drop, listings_from}
use Rattle.mst_sharded_proof.proofs.audit.listings.Given as goal

-- the listings that are left decide
abbrev pub invariant-loop-place : goal.invariant-loop-place
invariant-loop-place l = listings_from 0 l.pairs ≡ listings_from l.place (drop l.place l.pairs)
