-- The verdict is a fault exactly if the proof fails the test of this fault.
use Rattle.mst_sharded_proof.proofs.Names.{◌≡◌, ◌≢◌, ℕ, Bool, true, false, List, [], ◌∷◌, ◌++◌, length, take, drop, Option, Some, None, ◌⊎◌, inl, inr, refl, sym, ◌∙◌, ap, subst, arith, is_lt, Less, length-append, true≢false, nat_lt, ◌<◌, ◌≤◌, Result, Ok, Err, drop-append_seam, false_from_ne_true, nat_tests, Format, IsBytes, key_cmp, less_from_test, ProofFault, Accepted, verdict, accepted, accepts, accepted_nodewise, accepted_stepwise, ShardedFault, FormatByte, CutShort, NoKey, Directory, NotListed, NoListing, KeyBelow, KeyNotBelow, bound_text, ◌>>◌, Parts, parts_at, listed, is_below, placed, answered, judgement, sharded_verdict}
use Rattle.mst_proof.proofs.Faults.{proof_fails}
use Rattle.mst_proof.proofs.Failing.{proof_faulty}
use Rattle.mst_sharded_proof.specs.declared.fault.ShardedFault.TheVariants.{Shard}
use Rattle.mst_sharded_proof.specs.Faults.{Lists, PartsFail, ShardedFails}
use Rattle.mst_sharded_proof.proofs.Parts.{parts_takes}
use Rattle.mst_sharded_proof.proofs.Complete.{parts_again}
use Rattle.mst_sharded_proof.proofs.Sound.{listed_done, placed_done}
use Rattle.mst_sharded_proof.proofs.Agreed.{front_and_rest, length-front, bound_of, bound_spelt, bound_some, bound_kept, bound_passed, placed_of}
use Rattle.mst_sharded_proof.proofs.FrameFaults.{err, err_same, bind_fault, frame_fault, frame_fails}

-- ---- from the verdict to the relation

-- an answer that is read of the directory's proof
shown : (format : Format) (root k bytes : List ℕ) (a : Option (List ℕ)) → IsBytes bytes
    → verdict format root k bytes ≡ Ok a → Accepted format root k bytes a
shown format root k bytes a b e =
    accepted_nodewise format root k bytes a (accepted format root k bytes a b e)

lists_of : (format : Format) (root : List ℕ) (p : Parts) (v : List ℕ) → IsBytes p.directory
    → verdict format root p.low p.directory ≡ Ok (Some v) → nat_lt (length v) 32 ≡ false
    → Lists format root p (take 32 v) (bound_of (drop 32 v))
lists_of format root p v b e size =
    let rest = drop 32 v in
    let whole : v ≡ take 32 v ++ bound_text (bound_of rest) =
    front_and_rest 32 v ∙ ap (λ (xs : List ℕ). take 32 v ++ xs) (bound_spelt rest) in
    let long : 32 ≤ length v = grind (arith, nat_tests, size) in
    record {
      size = length-front 32 v long;
      some = bound_some rest;
      listed = subst (λ (xs : List ℕ). Accepted format root p.low p.directory (Some xs)) whole
          (shown format root p.low p.directory (Some v) b e);
    }

not_less : (k low : List ℕ) → is_lt (key_cmp k low) ≡ false → key_cmp k low ≢ Less
not_less k low from less = true≢false (sym (ap is_lt less) ∙ from)

-- a key that fails a bound
placed_fault : (format : Format) (root k : List ℕ) (p : Parts) (v : List ℕ) (fault : ShardedFault)
    → IsBytes p.directory → verdict format root p.low p.directory ≡ Ok (Some v)
    → placed k p.low v ≡ Err fault → PartsFail format root k p fault
placed_fault format root k p v fault b e =
    go (nat_lt (length v) 32) (is_lt (key_cmp k p.low)) (is_below (drop 32 v) k) refl refl refl
  where
    bound : (high : List ℕ) → drop 32 v ≡ high → is_below high k ≡ false
        → nat_lt (length v) 32 ≡ false → is_lt (key_cmp k p.low) ≡ false
        → PartsFail format root k p KeyNotBelow
    bound [] is past size from = absurd (cc (past))
    bound (h ∷ high) is past size from = (
      take 32 v,
      h ∷ high,
      subst (λ (o : Option (List ℕ)). Lists format root p (take 32 v) o) (ap bound_of is)
          (lists_of format root p v b e size),
      not_less k p.low from,
      not_less k (h ∷ high) past,
    )

    go : (s t u : Bool) → nat_lt (length v) 32 ≡ s → is_lt (key_cmp k p.low) ≡ t
        → is_below (drop 32 v) k ≡ u → placed k p.low v ≡ Err fault
        → PartsFail format root k p fault
    go true t u es et eu f =
        let short : length v < 32 = grind (arith, nat_tests, es) in
        let is : err {A = List ℕ} NoListing ≡ Err fault = cc (es, f) in
        subst (PartsFail format root k p) (err_same {A = List ℕ} NoListing fault is)
        (v, shown format root p.low p.directory (Some v) b e, short)
    go false true u es et eu f =
        let is : err {A = List ℕ} KeyBelow ≡ Err fault = cc (es, et, f) in
        subst (PartsFail format root k p) (err_same {A = List ℕ} KeyBelow fault is) (
          take 32 v,
          bound_of (drop 32 v),
          lists_of format root p v b e es,
          less_from_test k p.low et,
        )
    go false false false es et eu f =
        let is : err {A = List ℕ} KeyNotBelow ≡ Err fault = cc (es, et, eu, f) in
        subst (PartsFail format root k p) (err_same {A = List ℕ} KeyNotBelow fault is)
        (bound (drop 32 v) refl eu es et)
    go false false true es et eu f = absurd (cc (es, et, eu, f))

listed_fault : (format : Format) (root k : List ℕ) (p : Parts)
    (r : Result (Option (List ℕ)) ProofFault) (fault : ShardedFault) → IsBytes p.directory
    → verdict format root p.low p.directory ≡ r → listed r ≡ Err fault
    → PartsFail format root k p fault
listed_fault format root k p (Err f) fault b is e =
    subst (PartsFail format root k p) (err_same {A = List ℕ} (Directory f) fault e)
    (proof_fails format root p.low p.directory f b is)
listed_fault format root k p (Ok None) fault b is e =
    subst (PartsFail format root k p) (err_same {A = List ℕ} NotListed fault e)
    (shown format root p.low p.directory None b is)
listed_fault format root k p (Ok (Some v)) fault b is e = absurd (cc (e))

answered_fault : (r : Result (Option (List ℕ)) ProofFault) (fault : ShardedFault)
    → answered r ≡ Err fault → (f : ProofFault) × (r ≡ Err f) × (Shard f ≡ fault)
answered_fault (Err f) fault e = (f, refl, err_same {A = Option (List ℕ)} (Shard f) fault e)
answered_fault (Ok a) fault e = absurd (cc (e))

parts_fault : (format : Format) (root k : List ℕ) (p : Parts) (fault : ShardedFault)
    → IsBytes p.directory → IsBytes p.shard → judgement format root k p ≡ Err fault
    → PartsFail format root k p fault
parts_fault format root k p fault bd bs e =
    elim (bind_fault (listed (verdict format root p.low p.directory)) (λ held.
    placed k p.low held >> λ digest. answered (verdict format digest k p.shard)) fault e) [
      | inl none ↦
          listed_fault format root k p (verdict format root p.low p.directory) fault bd refl none
      | inr (v, reads, rest) ↦ placing v
          (listed_done (verdict format root p.low p.directory) v reads)
          (bind_fault (placed k p.low v) (λ digest. answered (verdict format digest k p.shard))
          fault rest)
    ]
  where
    placing : (v : List ℕ) → verdict format root p.low p.directory ≡ Ok (Some v)
        → (placed k p.low v ≡ Err fault) ⊎ ((d : List ℕ) × (placed k p.low v ≡ Ok d)
        × (answered (verdict format d k p.shard) ≡ Err fault)) → PartsFail format root k p fault
    placing v shows (inl none) = placed_fault format root k p v fault bd shows none
    placing v shows (inr (d, is_at, fails)) =
        let is = placed_done k p.low v d is_at in
        let a = answered_fault (verdict format d k p.shard) fault fails in
        subst (PartsFail format root k p) a.2 (
          d,
          bound_of (drop 32 v),
          subst (λ (x : List ℕ). Lists format root p x (bound_of (drop 32 v))) is.digest
              (lists_of format root p v bd shows is.size),
          not_less k p.low is.from,
          bound_kept (drop 32 v) k is.to,
          proof_fails format d k p.shard a.0 bs a.1,
        )

-- ---- from the relation to the verdict

abbrev Held : Format → List ℕ → List ℕ → Parts → Result (Option (List ℕ)) ProofFault
    → Result (Option (List ℕ)) ShardedFault
Held format root k p r =
    listed r >> λ held. placed k p.low held >> λ digest. answered (verdict format digest k p.shard)

-- after a directory's proof that is accepted
held_by : (format : Format) (root k : List ℕ) (p : Parts) (a : Option (List ℕ))
    → Accepted format root p.low p.directory a
    → judgement format root k p ≡ Held format root k p (Ok a)
held_by format root k p a is =
    ap (Held format root k p) (accepts format root p.low p.directory a
    (accepted_stepwise format root p.low p.directory a is))

after_bounds : (format : Format) (k : List ℕ) (p : Parts) (r : Result (List ℕ) ShardedFault)
    (v : List ℕ) → placed k p.low v ≡ r
    → (placed k p.low v >> λ digest. answered (verdict format digest k p.shard))
    ≡ (r >> λ digest. answered (verdict format digest k p.shard))
after_bounds format k p r v is =
    ap (λ (x : Result (List ℕ) ShardedFault). x >> λ digest.
    answered (verdict format digest k p.shard)) is

-- what is listed is long enough
long_of : (digest : List ℕ) (high : Option (List ℕ)) → length digest ≡ 32
    → nat_lt (length (digest ++ bound_text high)) 32 ≡ false
long_of digest high size =
    grind (arith, nat_tests, size, length-append digest (bound_text high))

rest_of : (digest : List ℕ) (high : Option (List ℕ)) → length digest ≡ 32
    → drop 32 (digest ++ bound_text high) ≡ bound_text high
rest_of digest high size =
    subst (λ (n : ℕ). drop n (digest ++ bound_text high) ≡ bound_text high) size
    (drop-append_seam digest (bound_text high))

parts_faulty : (format : Format) (root k : List ℕ) (p : Parts) (fault : ShardedFault)
    → IsBytes p.directory → IsBytes p.shard → PartsFail format root k p fault
    → judgement format root k p ≡ Err fault
parts_faulty format root k p FormatByte bd bs is = absurd is
parts_faulty format root k p CutShort bd bs is = absurd is
parts_faulty format root k p NoKey bd bs is = absurd is
parts_faulty format root k p (Directory f) bd bs is =
    ap (Held format root k p) (proof_faulty format root p.low p.directory f bd is)
parts_faulty format root k p NotListed bd bs is = held_by format root k p None is
parts_faulty format root k p NoListing bd bs (v, is, short) =
    let size : nat_lt (length v) 32 ≡ true = grind (arith, nat_tests, short) in
    let fails : placed k p.low v ≡ Err NoListing = rw size refl in
    held_by format root k p (Some v) is ∙ after_bounds format k p (Err NoListing) v fails
parts_faulty format root k p KeyBelow bd bs (digest, high, is, less) =
    let v = digest ++ bound_text high in
    let size = long_of digest high is.size in
    let from : is_lt (key_cmp k p.low) ≡ true = ap is_lt less in
    let fails : placed k p.low v ≡ Err KeyBelow = rw (size, from) refl in
    held_by format root k p (Some v) is.listed ∙ after_bounds format k p (Err KeyBelow) v fails
parts_faulty format root k p KeyNotBelow bd bs (digest, high, is, from_on, past) =
    let v = digest ++ high in
    let size = long_of digest (Some high) is.size in
    let from : is_lt (key_cmp k p.low) ≡ false =
    false_from_ne_true (is_lt (key_cmp k p.low)) (λ e. from_on (less_from_test k p.low e)) in
    let rest : drop 32 v ≡ high = rest_of digest (Some high) is.size in
    let to : is_below high k ≡ false = past_bound high is.some past in
    let fails : placed k p.low v ≡ Err KeyNotBelow = rw (size, from, rest, to) refl in
    held_by format root k p (Some v) is.listed ∙ after_bounds format k p (Err KeyNotBelow) v fails
  where
    past_bound : (h : List ℕ) → 0 < length h → key_cmp k h ≢ Less → is_below h k ≡ false
    past_bound [] some past = absurd (omega (arith, some))
    past_bound (b ∷ bs) some past =
        false_from_ne_true (is_lt (key_cmp k (b ∷ bs))) (λ e. past (less_from_test k (b ∷ bs) e))
parts_faulty format root k p (Shard f) bd bs (digest, high, is, from_on, to, fails) =
    let v = digest ++ bound_text high in
    let from : is_lt (key_cmp k p.low) ≡ false =
    false_from_ne_true (is_lt (key_cmp k p.low)) (λ e. from_on (less_from_test k p.low e)) in
    held_by format root k p (Some v) is.listed
    ∙ after_bounds format k p (Ok digest) v
    (placed_of k p.low digest high is.size from (bound_passed high k is.some to))
    ∙ ap answered (proof_faulty format digest k p.shard f bs fails)

-- ---- the whole proof

pub sharded_fails : (format : Format) (root k proof : List ℕ) (fault : ShardedFault)
    → IsBytes proof → sharded_verdict format root k proof ≡ Err fault
    → ShardedFails format root k proof fault
sharded_fails format root k proof fault b e =
    elim (bind_fault (parts_at format proof) (judgement format root k) fault e) [
      | inl none ↦ inl (frame_fault format proof fault b none)
      | inr (p, reads, fails) ↦
          let takes = parts_takes format proof p b reads in
          inr (
            p,
            takes.frames,
            parts_fault format root k p fault takes.directory takes.shard fails,
          )
    ]

pub sharded_faulty : (format : Format) (root k proof : List ℕ) (fault : ShardedFault)
    → IsBytes proof → ShardedFails format root k proof fault
    → sharded_verdict format root k proof ≡ Err fault
sharded_faulty format root k proof fault b (inl fails) =
    ap (λ (r : Result Parts ShardedFault). r >> judgement format root k)
    (frame_fails format proof fault b fails)
sharded_faulty format root k proof fault b (inr (p, frames, fails)) =
    let cut : parts_at format proof ≡ Ok p =
    ap (parts_at format) frames.whole ∙ parts_again format p frames.key frames.short in
    let takes = parts_takes format proof p b cut in
    ap (λ (r : Result Parts ShardedFault). r >> judgement format root k) cut
    ∙ parts_faulty format root k p fault takes.directory takes.shard fails
