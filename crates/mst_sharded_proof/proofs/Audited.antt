-- The audit is passed exactly by the directory of some splits.
use Rattle.mst_sharded_proof.proofs.Names.{◌≡◌, ℕ, List, [], ◌∷◌, refl, sym, ◌∙◌, subst, Result, Ok, Err, Format, Pair, AuditFault, AreSplits, shards_from, AreListed, audit_verdict}
use Rattle.std.specs.Prelude.{IsOk}
use Rattle.mst_sharded_proof.specs.Audit.{IsDirectory}
use Rattle.mst_sharded_proof.proofs.Meeting.{AllKeys, bounds, all_listed, all_meet, opens}
use Rattle.mst_sharded_proof.proofs.Auditing.{Passes, passes_audit, audit_passes}

-- pairs that pass each test are the directory of the lower bounds after the first
directory_of : (format : Format) (root : List ℕ) (pairs : List Pair) → AllKeys pairs
    → Passes format root pairs → (splits : List (List ℕ)) × IsDirectory format root pairs splits
directory_of format root [] keys is = absurd is.opens
directory_of format root (p ∷ pairs) keys is =
    let all = all_listed p pairs keys.1 is.meet in (
      bounds pairs,
      record {
        few = is.few;
        rising = subst (λ (low : List ℕ). AreSplits low (bounds pairs)) is.opens all.0;
        listed = subst (λ (low : List ℕ). AreListed (shards_from low (bounds pairs)) (p ∷ pairs))
            is.opens all.1;
        has_root = is.has_root;
      },
    )

is_ok : (r : Result (Unit {0}) AuditFault) → IsOk r → r ≡ Ok tt
is_ok (Ok u) is = refl
is_ok (Err f) is = absurd (cc (is))

ok_is : (r : Result (Unit {0}) AuditFault) → r ≡ Ok tt → IsOk r
ok_is r e = subst (λ (x : Result (Unit {0}) AuditFault). IsOk x) (sym e) refl

pub audited : (format : Format) (root : List ℕ) (pairs : List Pair)
    (r : Result (Unit {0}) AuditFault) → AllKeys pairs → r ≡ audit_verdict format root pairs
    → IsOk r → (splits : List (List ℕ)) × IsDirectory format root pairs splits
audited format root pairs r keys told ok =
    directory_of format root pairs keys
    (passes_audit format root pairs tt (sym told ∙ is_ok r ok))

pub directory_audited : (format : Format) (root : List ℕ) (pairs : List Pair)
    (r : Result (Unit {0}) AuditFault) → r ≡ audit_verdict format root pairs
    → (splits : List (List ℕ)) × IsDirectory format root pairs splits → IsOk r
directory_audited format root pairs r told (splits, is) =
    ok_is r (told ∙ audit_passes format root pairs (record {
      few = is.few;
      opens = opens splits pairs is.listed;
      meet = all_meet _ splits pairs is.rising is.listed;
      has_root = is.has_root;
    }))
