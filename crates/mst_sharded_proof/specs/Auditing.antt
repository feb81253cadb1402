-- The verdict on a directory, by the tests in their order.
use Rattle.std.specs.Prelude.{ℕ, suc, nat_lt, Bool, true, if◌then◌else◌, List, [], ◌∷◌, length, drop, Option, Some, None}
use Rattle.std.specs.Ordering.{is_lt}
use Rattle.std.specs.Str.{bytes_eq}
use Rattle.std.specs.declared.result.Result.{Result}
use Rattle.std.specs.declared.result.Result.TheVariants.{Ok, Err}
use Rattle.mst_key.specs.declared.format.Format.{Format}
use Rattle.mst_key.specs.Map.{Pair, key_cmp}
use Rattle.mst_node.specs.Text.{root as root_of, highest_count}
use Rattle.mst_node.specs.Trail.{by_order}
use Rattle.mst_sharded_proof.specs.Shards.{least}
use Rattle.mst_sharded_proof.specs.declared.audit.AuditFault.{AuditFault}
use Rattle.mst_sharded_proof.specs.declared.audit.AuditFault.TheVariants.{TooMany, NoShard, NotLeast, Listing, OtherRoot}
use Rattle.mst_sharded_proof.specs.declared.audit.ListingFault.{ListingFault}
use Rattle.mst_sharded_proof.specs.declared.audit.ListingFault.TheVariants.{NoDigest, NotRising, Gap, Overlap, Bounded}

-- the step after tests that are passed
infixl 10 ◌then◌
abbrev pub ◌then◌ : Result (Unit {0}) AuditFault → Result (Unit {0}) AuditFault
    → Result (Unit {0}) AuditFault
(Err f) then r = Err f
(Ok u) then r = r

-- the fault of an upper bound compared with the next pair; no bytes are no bound
abbrev pub unmet : List ℕ → Option Pair → Option ListingFault
unmet [] None = None
unmet [] (Some q) = Some Overlap
unmet (b ∷ high) None = Some Bounded
unmet (b ∷ high) (Some q) = by_order (key_cmp (b ∷ high) q.0) (Some Gap) None (Some Overlap)

-- whether the next pair, if there is one, has a greater key
abbrev pub rises : List ℕ → Option Pair → Bool
rises k None = true
rises k (Some q) = is_lt (key_cmp k q.0)

-- the fault of a pair as the listing of a shard, compared with the next pair
abbrev pub listing_fault : Pair → Option Pair → Option ListingFault
listing_fault p next =
    if nat_lt (length p.1) 32 then Some NoDigest
    else if rises p.0 next then unmet (drop 32 p.1) next
    else Some NotRising

abbrev pub first_of : List Pair → Option Pair
first_of [] = None
first_of (p ∷ pairs) = Some p

-- the fault at a place, or else what follows
abbrev pub at_place : ℕ → Option ListingFault → Result (Unit {0}) AuditFault
    → Result (Unit {0}) AuditFault
at_place i None rest = rest
at_place i (Some fault) rest = Err (Listing i fault)

-- the listings from a place on
abbrev pub listings_from : ℕ → List Pair → Result (Unit {0}) AuditFault
listings_from i [] = Ok tt
listings_from i (p ∷ pairs) =
    at_place i (listing_fault p (first_of pairs)) (listings_from (suc i) pairs)

abbrev pub opening : List Pair → Result (Unit {0}) AuditFault
opening [] = Err NoShard
opening (p ∷ pairs) = if bytes_eq p.0 least then Ok tt else Err NotLeast

abbrev pub rooted : Format → List ℕ → List Pair → Result (Unit {0}) AuditFault
rooted format root pairs = if bytes_eq root (root_of format pairs) then Ok tt else Err OtherRoot

-- the first test that the pairs fail, if they fail one
abbrev pub audit_verdict : Format → List ℕ → List Pair → Result (Unit {0}) AuditFault
audit_verdict format root pairs =
    if nat_lt highest_count (length pairs) then Err TooMany
    else opening pairs then listings_from 0 pairs then rooted format root pairs
