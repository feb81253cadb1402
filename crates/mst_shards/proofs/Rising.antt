-- The lower bounds of shards rise.
use Rattle.mst_shards.proofs.Names.{◌≡◌, ℕ, List, [], ◌∷◌, refl, Less, key_cmp, Shard, AreSplits, shards_from, least, IsSplits}
use Rattle.mst_sharded_proof.specs.Shards.{shards as shards_at}

-- from above a bound
abbrev pub RiseFrom : List ℕ → List Shard → Type 0
RiseFrom b [] = Unit {0}
RiseFrom b (s ∷ shards) = (key_cmp b s.low ≡ Less) × RiseFrom s.low shards

pub rise_from : (low : List ℕ) (splits : List (List ℕ)) (b : List ℕ) → AreSplits low splits
    → key_cmp b low ≡ Less → RiseFrom b (shards_from low splits)
rise_from low [] b rising less = (less, tt)
rise_from low (t ∷ splits) b rising less = (less, rise_from t splits low rising.2 rising.0)

pub all_rise : (splits : List (List ℕ)) → IsSplits splits → RiseFrom [] (shards_at splits)
all_rise splits is = rise_from least splits [] is.rising refl
