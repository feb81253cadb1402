-- The verdict on a directory is a fault exactly if it fails the test of this fault.
use Rattle.mst_sharded_proof.proofs.Names.{◌≡◌, ◌≢◌, ℕ, zero, suc, ◌+◌, Bool, true, false, cond, List, [], ◌∷◌, length, drop, Option, Some, None, ◌⊎◌, inl, inr, refl, sym, ◌∙◌, ap, subst, arith, is_lt, Less, true≢false, nat_lt, ◌<◌, ◌≤◌, Result, Ok, Err, cond-true, cond-false, false_from_ne_true, nat_tests, Format, Pair, key_cmp, greater_from_less, less_from_test, AuditFault, least, AllMeet, Opens, listings_from, audit_verdict}
use Rattle.std.proofs.Common.{Equal, Greater}
use Rattle.std.specs.Str.{bytes_eq}
use Rattle.std.specs.declared.cmp.Ordering.{Ordering}
use Rattle.std.proofs.lemmas.Bool.Decides.{not_from_Decides}
use Rattle.std.proofs.lemmas.Slice.Eq.{bytes_eq-Decides}
use Rattle.mst_key.proofs.KeyOrder.{equal_from_same, same_from_equal, less_from_greater}
use Rattle.mst_node.specs.Text.{root as root_of}
use Rattle.mst_node.specs.Trail.{by_order}
use Rattle.mst_sharded_proof.specs.declared.audit.AuditFault.TheVariants.{TooMany, NoShard, NotLeast, Listing, OtherRoot}
use Rattle.mst_sharded_proof.specs.declared.audit.ListingFault.{ListingFault}
use Rattle.mst_sharded_proof.specs.declared.audit.ListingFault.TheVariants.{NoDigest, NotRising, Gap, Overlap, Bounded}
use Rattle.mst_sharded_proof.specs.Audit.{Rises, Meets, FailsBeside, FailsAt, AuditFails}
use Rattle.mst_sharded_proof.specs.Auditing.{◌then◌, unmet, rises, listing_fault, first_of, at_place, opening, rooted}

-- ---- an upper bound

some : (b : ℕ) (high : List ℕ) → b ∷ high ≢ []
some b high e = cc

none_below : (k : List ℕ) → key_cmp k [] ≡ Less → ⊥
none_below [] e = absurd (cc (e))
none_below (b ∷ k) e = absurd (cc (e))

meets : (high k next v : List ℕ) → key_cmp k next ≡ Less → high ≡ next
    → unmet high (Some (next, v)) ≡ None
meets [] k next v less is = absurd (none_below k (ap (key_cmp k) is ∙ less))
meets (b ∷ high) k next v less is =
    ap (λ (o : Ordering). by_order o (Some Gap) None (Some Overlap))
    (equal_from_same (b ∷ high) next is)

gap : (high : List ℕ) (q : Pair) → high ≢ [] → key_cmp high q.0 ≡ Less
    → unmet high (Some q) ≡ Some Gap
gap [] q other less = absurd (other refl)
gap (b ∷ high) q other less =
    ap (λ (o : Ordering). by_order o (Some Gap) None (Some Overlap)) less

overlap : (high : List ℕ) (q : Pair) → (high ≡ []) ⊎ (key_cmp q.0 high ≡ Less)
    → unmet high (Some q) ≡ Some Overlap
overlap [] q is = refl
overlap (b ∷ high) q (inl none) = absurd (some b high none)
overlap (b ∷ high) q (inr less) =
    ap (λ (o : Ordering). by_order o (Some Gap) None (Some Overlap))
    (greater_from_less q.0 (b ∷ high) less)

bounded : (high : List ℕ) → high ≢ [] → unmet high None ≡ Some Bounded
bounded [] other = absurd (other refl)
bounded (b ∷ high) other = refl

-- ---- one listing

-- what the fault of a listing says
abbrev Told : Pair → List Pair → Option ListingFault → Type 0
Told p pairs None = Meets p pairs
Told p pairs (Some fault) = FailsBeside p pairs fault

bound_told : (p : Pair) (pairs : List Pair) → Rises p pairs → (high : List ℕ) → drop 32 p.1 ≡ high
    → Told p pairs (unmet high (first_of pairs))
bound_told p [] up [] is = (up, is)
bound_told p [] up (b ∷ high) is = (up, λ none. some b high (sym is ∙ none))
bound_told p (q ∷ pairs) up [] is = (up, inl is)
bound_told p (q ∷ pairs) up (b ∷ high) is = go (key_cmp (b ∷ high) q.0) refl
  where
    go : (o : Ordering) → key_cmp (b ∷ high) q.0 ≡ o
        → Told p (q ∷ pairs) (by_order o (Some Gap) None (Some Overlap))
    go Less e = (
      up,
      λ none. some b high (sym is ∙ none),
      ap (λ (xs : List ℕ). key_cmp xs q.0) is ∙ e,
    )
    go Equal e = (up, is ∙ same_from_equal (b ∷ high) q.0 e)
    go Greater e =
        (up, inr (ap (key_cmp q.0) is ∙ less_from_greater (b ∷ high) q.0 e))

-- a listing of 32 bytes or more beside a next one that rises
ended : (p : Pair) (pairs : List Pair) → 32 ≤ length p.1 → (t : Bool)
    → rises p.0 (first_of pairs) ≡ t
    → Told p pairs (cond t (unmet (drop 32 p.1) (first_of pairs)) (Some NotRising))
ended p [] long true is = bound_told p [] long (drop 32 p.1) refl
ended p [] long false is = absurd (cc (is))
ended p (q ∷ pairs) long true is =
    bound_told p (q ∷ pairs) (long, less_from_test p.0 q.0 is) (drop 32 p.1) refl
ended p (q ∷ pairs) long false is = (long, λ less. true≢false (sym (ap is_lt less) ∙ is))

listing_told : (p : Pair) (pairs : List Pair) → Told p pairs (listing_fault p (first_of pairs))
listing_told p pairs = go (nat_lt (length p.1) 32) refl
  where
    go : (t : Bool) → nat_lt (length p.1) 32 ≡ t → Told p pairs (cond t (Some NoDigest)
        (cond (rises p.0 (first_of pairs)) (unmet (drop 32 p.1) (first_of pairs))
        (Some NotRising)))
    go true is = let short : length p.1 < 32 = grind (arith, nat_tests, is) in short
    go false is =
        let long : 32 ≤ length p.1 = grind (arith, nat_tests, is) in
        ended p pairs long (rises p.0 (first_of pairs)) refl

-- the test of what is long enough
long_fault : (p : Pair) (next : Option Pair) → 32 ≤ length p.1 → listing_fault p next
    ≡ cond (rises p.0 next) (unmet (drop 32 p.1) next) (Some NotRising)
long_fault p next long =
    cond-false (nat_lt (length p.1) 32) (Some NoDigest)
    (cond (rises p.0 next) (unmet (drop 32 p.1) next) (Some NotRising))
    (grind (arith, nat_tests, long))

-- the test of what is long enough and rises
rising_fault : (p q : Pair) → 32 ≤ length p.1 → key_cmp p.0 q.0 ≡ Less
    → listing_fault p (Some q) ≡ unmet (drop 32 p.1) (Some q)
rising_fault p q long less =
    long_fault p (Some q) long
    ∙ cond-true (is_lt (key_cmp p.0 q.0)) (unmet (drop 32 p.1) (Some q)) (Some NotRising)
    (ap is_lt less)

meets_again : (p : Pair) (pairs : List Pair) → Meets p pairs
    → listing_fault p (first_of pairs) ≡ None
meets_again p [] is = long_fault p None is.0 ∙ ap (λ (xs : List ℕ). unmet xs None) is.1
meets_again p (q ∷ pairs) is =
    rising_fault p q is.0.0 is.0.1 ∙ meets (drop 32 p.1) p.0 q.0 q.1 is.0.1 is.1

listing_again : (p : Pair) (pairs : List Pair) (fault : ListingFault) → FailsBeside p pairs fault
    → listing_fault p (first_of pairs) ≡ Some fault
listing_again p pairs NoDigest short =
    cond-true (nat_lt (length p.1) 32) (Some NoDigest)
    (cond (rises p.0 (first_of pairs)) (unmet (drop 32 p.1) (first_of pairs)) (Some NotRising))
    (grind (arith, nat_tests, short))
listing_again p [] NotRising is = absurd is
listing_again p (q ∷ pairs) NotRising is =
    long_fault p (Some q) is.0
    ∙ cond-false (is_lt (key_cmp p.0 q.0)) (unmet (drop 32 p.1) (Some q)) (Some NotRising)
    (false_from_ne_true (is_lt (key_cmp p.0 q.0)) (λ e. is.1 (less_from_test p.0 q.0 e)))
listing_again p [] Gap is = absurd is
listing_again p (q ∷ pairs) Gap is =
    rising_fault p q is.0.0 is.0.1 ∙ gap (drop 32 p.1) q is.1 is.2
listing_again p [] Overlap is = absurd is
listing_again p (q ∷ pairs) Overlap is =
    rising_fault p q is.0.0 is.0.1 ∙ overlap (drop 32 p.1) q is.1
listing_again p [] Bounded is = long_fault p None is.0 ∙ bounded (drop 32 p.1) is.1
listing_again p (q ∷ pairs) Bounded is = absurd is

-- ---- all listings

-- what the verdict on the listings from a place on says
abbrev AllTold : ℕ → List Pair → Result (Unit {0}) AuditFault → Type 0
AllTold i pairs (Ok u) = AllMeet pairs
AllTold i pairs (Err fault) =
    (n : ℕ) × (f : ListingFault) × (fault ≡ Listing (i + n) f) × FailsAt n pairs f

listings_told : (i : ℕ) (pairs : List Pair) → AllTold i pairs (listings_from i pairs)
listings_told i [] = tt
listings_told i (p ∷ pairs) =
    go (listing_fault p (first_of pairs)) (listing_told p pairs) (listings_from (suc i) pairs)
    (listings_told (suc i) pairs)
  where
    go : (o : Option ListingFault) → Told p pairs o → (r : Result (Unit {0}) AuditFault)
        → AllTold (suc i) pairs r → AllTold i (p ∷ pairs) (at_place i o r)
    go (Some f) told r rest =
        (0, f, let e : i ≡ i + 0 = omega arith in ap (λ (n : ℕ). Listing n f) e, told)
    go None told (Ok u) rest = (told, rest)
    go None told (Err fault) (n, f, is, fails) = (
      suc n,
      f,
      let e : suc i + n ≡ i + suc n = omega arith in is ∙ ap (λ (m : ℕ). Listing m f) e,
      (told, fails),
    )

abbrev done : Result (Unit {0}) AuditFault
done = Ok tt

listings_met : (i : ℕ) (pairs : List Pair) → AllMeet pairs → listings_from i pairs ≡ done
listings_met i [] all = refl
listings_met i (p ∷ pairs) all =
    ap (λ (o : Option ListingFault). at_place i o (listings_from (suc i) pairs))
    (meets_again p pairs all.0) ∙ listings_met (suc i) pairs all.1

listings_fail : (i n m : ℕ) (pairs : List Pair) (f : ListingFault) → m ≡ i + n
    → FailsAt n pairs f → listings_from i pairs ≡ Err (Listing m f)
listings_fail i zero m [] f at fails = absurd fails
listings_fail i (suc n) m [] f at fails = absurd fails
listings_fail i zero m (p ∷ pairs) f at fails =
    let same : i ≡ m = omega (arith, at) in
    ap (λ (o : Option ListingFault). at_place i o (listings_from (suc i) pairs))
    (listing_again p pairs f fails) ∙ ap (λ (k : ℕ). Err (Listing k f)) same
listings_fail i (suc n) m (p ∷ pairs) f at fails =
    ap (λ (o : Option ListingFault). at_place i o (listings_from (suc i) pairs))
    (meets_again p pairs fails.0)
    ∙ listings_fail (suc i) n m pairs f (omega (arith, at)) fails.1

-- ---- the whole

-- pairs that pass each test
pub record Passes (format : Format) (root : List ℕ) (pairs : List Pair) : Type 0 where
  pub few : length pairs ≤ 65535
  pub opens : Opens pairs
  pub meet : AllMeet pairs
  pub has_root : root ≡ root_of format pairs

abbrev AuditTold : Format → List ℕ → List Pair → Result (Unit {0}) AuditFault → Type 0
AuditTold format root pairs (Ok u) = Passes format root pairs
AuditTold format root pairs (Err fault) = AuditFails format root pairs fault

rooted_told : (format : Format) (root : List ℕ) (pairs : List Pair) → length pairs ≤ 65535
    → Opens pairs → AllMeet pairs → AuditTold format root pairs (rooted format root pairs)
rooted_told format root pairs few begins meet = go (bytes_eq root (root_of format pairs)) refl
  where
    go : (t : Bool) → bytes_eq root (root_of format pairs) ≡ t
        → AuditTold format root pairs (cond t (Ok tt) (Err OtherRoot))
    go true is =
        record {
          few = few;
          opens = begins;
          meet = meet;
          has_root = (bytes_eq-Decides root (root_of format pairs)).0 is;
        }
    go false is = (
      few,
      begins,
      meet,
      not_from_Decides (bytes_eq root (root_of format pairs))
          (bytes_eq-Decides root (root_of format pairs)) is,
    )

met_told : (format : Format) (root : List ℕ) (pairs : List Pair) → length pairs ≤ 65535
    → Opens pairs
    → AuditTold format root pairs (listings_from 0 pairs then rooted format root pairs)
met_told format root pairs few begins = go (listings_from 0 pairs) (listings_told 0 pairs)
  where
    go : (r : Result (Unit {0}) AuditFault) → AllTold 0 pairs r
        → AuditTold format root pairs (r then rooted format root pairs)
    go (Ok u) all = rooted_told format root pairs few begins all
    go (Err fault) (n, f, is, fails) =
        let same : 0 + n ≡ n = omega arith in
        subst (AuditFails format root pairs) (sym (is ∙ ap (λ (m : ℕ). Listing m f) same))
        (few, begins, fails)

audit_told : (format : Format) (root : List ℕ) (pairs : List Pair)
    → AuditTold format root pairs (audit_verdict format root pairs)
audit_told format root pairs = go (nat_lt 65535 (length pairs)) refl
  where
    first : (ps : List Pair) → ps ≡ pairs → length pairs ≤ 65535 → AuditTold format root pairs
        (opening ps then listings_from 0 pairs then rooted format root pairs)
    first [] is few = sym is
    first (p ∷ ps) is few = at (bytes_eq p.0 least) refl
      where
        at : (t : Bool) → bytes_eq p.0 least ≡ t → AuditTold format root pairs
            (cond t (Ok tt) (Err NotLeast) then listings_from 0 pairs
            then rooted format root pairs)
        at true same =
            met_told format root pairs few
            (subst Opens is ((bytes_eq-Decides p.0 least).0 same))
        at false apart = (
          few,
          subst (λ (xs : List Pair). xs ≢ []) is (λ e. absurd (cc (e))),
          subst (λ (xs : List Pair). Opens xs → ⊥) is
              (not_from_Decides (bytes_eq p.0 least) (bytes_eq-Decides p.0 least) apart),
        )

    go : (t : Bool) → nat_lt 65535 (length pairs) ≡ t → AuditTold format root pairs
        (cond t (Err TooMany) (opening pairs then listings_from 0 pairs
        then rooted format root pairs))
    go true is = let many : 65535 < length pairs = grind (arith, nat_tests, is) in many
    go false is =
        let few : length pairs ≤ 65535 = grind (arith, nat_tests, is) in first pairs refl few

-- ---- from the relation to the verdict

few_go : (format : Format) (root : List ℕ) (pairs : List Pair) → length pairs ≤ 65535
    → audit_verdict format root pairs
    ≡ (opening pairs then listings_from 0 pairs then rooted format root pairs)
few_go format root pairs few =
    cond-false (nat_lt 65535 (length pairs)) (Err TooMany)
    (opening pairs then listings_from 0 pairs then rooted format root pairs)
    (grind (arith, nat_tests, few))

opens_go : (pairs : List Pair) → Opens pairs → opening pairs ≡ done
opens_go [] is = absurd is
opens_go (p ∷ pairs) is =
    cond-true (bytes_eq p.0 least) (Ok tt) (Err NotLeast) ((bytes_eq-Decides p.0 least).1 is)

after_opening : (format : Format) (root : List ℕ) (pairs : List Pair) → length pairs ≤ 65535
    → Opens pairs → audit_verdict format root pairs
    ≡ (listings_from 0 pairs then rooted format root pairs)
after_opening format root pairs few begins =
    few_go format root pairs few
    ∙ ap (λ (r : Result (Unit {0}) AuditFault). r then listings_from 0 pairs
    then rooted format root pairs) (opens_go pairs begins)

after_listings : (format : Format) (root : List ℕ) (pairs : List Pair) → length pairs ≤ 65535
    → Opens pairs → AllMeet pairs
    → audit_verdict format root pairs ≡ rooted format root pairs
after_listings format root pairs few begins meet =
    after_opening format root pairs few begins
    ∙ ap (λ (r : Result (Unit {0}) AuditFault). r then rooted format root pairs)
    (listings_met 0 pairs meet)

pub audit_passes : (format : Format) (root : List ℕ) (pairs : List Pair)
    → Passes format root pairs → audit_verdict format root pairs ≡ Ok tt
audit_passes format root pairs is =
    after_listings format root pairs is.few is.opens is.meet
    ∙ cond-true (bytes_eq root (root_of format pairs)) (Ok tt) (Err OtherRoot)
    ((bytes_eq-Decides root (root_of format pairs)).1 is.has_root)

pub audit_faulty : (format : Format) (root : List ℕ) (pairs : List Pair) (fault : AuditFault)
    → AuditFails format root pairs fault → audit_verdict format root pairs ≡ Err fault
audit_faulty format root pairs TooMany many =
    cond-true (nat_lt 65535 (length pairs)) (Err TooMany)
    (opening pairs then listings_from 0 pairs then rooted format root pairs)
    (grind (arith, nat_tests, many))
audit_faulty format root pairs NoShard none =
    ap (audit_verdict format root) none
audit_faulty format root pairs NotLeast (few, other, none) = go pairs refl
  where
    go : (ps : List Pair) → ps ≡ pairs → audit_verdict format root pairs ≡ Err NotLeast
    go [] is = absurd (other (sym is))
    go (p ∷ ps) is =
        let apart : bytes_eq p.0 least ≡ false =
        false_from_ne_true (bytes_eq p.0 least)
        (λ e. none (subst Opens is ((bytes_eq-Decides p.0 least).0 e))) in
        few_go format root pairs few
        ∙ ap (λ (xs : List Pair). opening xs then listings_from 0 pairs
        then rooted format root pairs) (sym is)
        ∙ ap (λ (t : Bool). cond t (Ok tt) (Err NotLeast) then listings_from 0 pairs
        then rooted format root pairs) apart
audit_faulty format root pairs (Listing n f) (few, begins, fails) =
    after_opening format root pairs few begins
    ∙ ap (λ (r : Result (Unit {0}) AuditFault). r then rooted format root pairs)
    (listings_fail 0 n n pairs f (omega arith) fails)
audit_faulty format root pairs OtherRoot (few, begins, meet, other) =
    after_listings format root pairs few begins meet
    ∙ cond-false (bytes_eq root (root_of format pairs)) (Ok tt) (Err OtherRoot)
    (false_from_ne_true (bytes_eq root (root_of format pairs))
    (λ e. other ((bytes_eq-Decides root (root_of format pairs)).0 e)))

pub passes_audit : (format : Format) (root : List ℕ) (pairs : List Pair) (u : Unit {0})
    → audit_verdict format root pairs ≡ Ok u → Passes format root pairs
passes_audit format root pairs u e =
    subst (AuditTold format root pairs) e (audit_told format root pairs)

pub fails_audit : (format : Format) (root : List ℕ) (pairs : List Pair) (fault : AuditFault)
    → audit_verdict format root pairs ≡ Err fault → AuditFails format root pairs fault
fails_audit format root pairs fault e =
    subst (AuditTold format root pairs) e (audit_told format root pairs)
