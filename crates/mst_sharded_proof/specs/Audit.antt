-- The directory of a sharded map whose shards meet, and what is wrong with pairs that are none.
use Rattle.std.specs.Prelude.{◌≡◌, ◌≢◌, ◌<◌, ◌≤◌, ◌⊎◌, ℕ, zero, suc, List, [], ◌∷◌, ◌++◌, length, drop}
use Rattle.std.specs.declared.cmp.Ordering.TheVariants.{Less}
use Rattle.mst_key.specs.declared.format.Format.{Format}
use Rattle.mst_key.specs.Map.{Pair, key_cmp}
use Rattle.mst_node.specs.Text.{root as root_of, highest_count}
use Rattle.mst_sharded_proof.specs.Shards.{Shard, least, AreSplits, shards, bound_text}
use Rattle.mst_sharded_proof.specs.declared.audit.AuditFault.{AuditFault}
use Rattle.mst_sharded_proof.specs.declared.audit.AuditFault.TheVariants.{TooMany, NoShard, NotLeast, Listing, OtherRoot}
use Rattle.mst_sharded_proof.specs.declared.audit.ListingFault.{ListingFault}
use Rattle.mst_sharded_proof.specs.declared.audit.ListingFault.TheVariants.{NoDigest, NotRising, Gap, Overlap, Bounded}

-- ---- a directory

-- the pair lists the shard: from its lower bound to a digest of 32 bytes and its upper bound
pub record IsListed (s : Shard) (p : Pair) : Type 0 where
  pub low : p.0 ≡ s.low
  pub digest : List ℕ
  pub size : length digest ≡ 32
  pub held : p.1 ≡ digest ++ bound_text s.high

-- the pairs list these shards, one after another
abbrev pub AreListed : List Shard → List Pair → Type 0
AreListed [] [] = Unit {0}
AreListed [] (p ∷ pairs) = ⊥
AreListed (s ∷ ss) [] = ⊥
AreListed (s ∷ ss) (p ∷ pairs) = IsListed s p × AreListed ss pairs

-- at most 65,535 pairs list the shards of these splits, each with some digest, and have this root
pub record IsDirectory (format : Format) (root : List ℕ) (pairs : List Pair)
    (splits : List (List ℕ)) : Type 0 where
  pub few : length pairs ≤ highest_count
  pub rising : AreSplits least splits
  pub listed : AreListed (shards splits) pairs
  pub has_root : root ≡ root_of format pairs

-- ---- one listing and the next

-- a listing has a digest, and the next one begins above its lower bound
abbrev pub Rises : Pair → List Pair → Type 0
Rises p [] = 32 ≤ length p.1
Rises p (q ∷ pairs) = (32 ≤ length p.1) × (key_cmp p.0 q.0 ≡ Less)

-- it ends where the next one begins, and the last one has no upper bound
abbrev pub Meets : Pair → List Pair → Type 0
Meets p [] = Rises p [] × (drop 32 p.1 ≡ [])
Meets p (q ∷ pairs) = Rises p (q ∷ pairs) × (drop 32 p.1 ≡ q.0)

-- it has passed the tests before that of the fault, and fails that one
abbrev pub FailsBeside : Pair → List Pair → ListingFault → Type 0
FailsBeside p pairs NoDigest = length p.1 < 32
FailsBeside p [] NotRising = ⊥
FailsBeside p (q ∷ pairs) NotRising = (32 ≤ length p.1) × (key_cmp p.0 q.0 ≢ Less)
FailsBeside p [] Gap = ⊥
FailsBeside p (q ∷ pairs) Gap =
    Rises p (q ∷ pairs) × (drop 32 p.1 ≢ []) × (key_cmp (drop 32 p.1) q.0 ≡ Less)
FailsBeside p [] Overlap = ⊥
FailsBeside p (q ∷ pairs) Overlap =
    Rises p (q ∷ pairs) × ((drop 32 p.1 ≡ []) ⊎ (key_cmp q.0 (drop 32 p.1) ≡ Less))
FailsBeside p [] Bounded = Rises p [] × (drop 32 p.1 ≢ [])
FailsBeside p (q ∷ pairs) Bounded = ⊥

-- ---- all of them

-- the pairs from a place on all meet
abbrev pub AllMeet : List Pair → Type 0
AllMeet [] = Unit {0}
AllMeet (p ∷ pairs) = Meets p pairs × AllMeet pairs

-- the pair at the place fails the test, and those before it meet the next one
abbrev pub FailsAt : ℕ → List Pair → ListingFault → Type 0
FailsAt n [] fault = ⊥
FailsAt zero (p ∷ pairs) fault = FailsBeside p pairs fault
FailsAt (suc n) (p ∷ pairs) fault = Meets p pairs × FailsAt n pairs fault

-- the first pair has the least key
abbrev pub Opens : List Pair → Type 0
Opens [] = ⊥
Opens (p ∷ pairs) = p.0 ≡ least

-- the pairs have passed the tests before that of the fault, and fail that one
abbrev pub AuditFails : Format → List ℕ → List Pair → AuditFault → Type 0
AuditFails format root pairs TooMany = highest_count < length pairs
AuditFails format root pairs NoShard = pairs ≡ []
AuditFails format root pairs NotLeast =
    (length pairs ≤ highest_count) × (pairs ≢ []) × (Opens pairs → ⊥)
AuditFails format root pairs (Listing n fault) =
    (length pairs ≤ highest_count) × Opens pairs × FailsAt n pairs fault
AuditFails format root pairs OtherRoot =
    (length pairs ≤ highest_count) × Opens pairs × AllMeet pairs × (root ≢ root_of format pairs)
