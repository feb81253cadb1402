-- The verdict is an answer exactly if the proof is accepted with it.
use Rattle.mst_sharded_proof.proofs.Names.{◌≡◌, ℕ, zero, suc, true, false, List, [], ◌∷◌, ◌++◌, length, take, drop, Option, Some, None, refl, sym, ◌∙◌, ap, subst, arith, is_lt, Less, length-append, true≢false, nat_lt, ◌<◌, ◌≤◌, IfSome, Result, Ok, take-append_seam, drop-append_seam, false_from_ne_true, nat_tests, Format, IsBytes, key_cmp, less_from_test, ProofFault, Accepted, verdict, accepted, accepts, accepted_nodewise, accepted_stepwise, ShardedFault, bound_text, ◌>>◌, Parts, parts_at, listed, is_below, placed, answered, judgement, sharded_verdict}
use Rattle.mst_sharded_proof.specs.Accepted.{ShardedAccepted}
use Rattle.mst_sharded_proof.proofs.Parts.{bind_done, parts_takes}
use Rattle.mst_sharded_proof.proofs.Sound.{listed_done, placed_done, answered_done}
use Rattle.mst_sharded_proof.proofs.Complete.{parts_again}

-- ---- from the verdict to the relation

pub front_and_rest : (n : ℕ) (v : List ℕ) → v ≡ take n v ++ drop n v
front_and_rest zero v = refl
front_and_rest (suc n) [] = refl
front_and_rest (suc n) (x ∷ v) = ap (λ (xs : List ℕ). x ∷ xs) (front_and_rest n v)

pub length-front : (n : ℕ) (v : List ℕ) → n ≤ length v → length (take n v) ≡ n
length-front zero v few = refl
length-front (suc n) [] few = absurd (omega (arith, few))
length-front (suc n) (x ∷ v) few = ap suc (length-front n v (omega (arith, few)))

-- the upper bound of these bytes
abbrev pub bound_of : List ℕ → Option (List ℕ)
bound_of [] = None
bound_of (b ∷ bs) = Some (b ∷ bs)

pub bound_spelt : (bs : List ℕ) → bs ≡ bound_text (bound_of bs)
bound_spelt [] = refl
bound_spelt (b ∷ bs) = refl

pub bound_some : (bs : List ℕ) → IfSome (bound_of bs) (λ h. 0 < length h)
bound_some [] = tt
bound_some (b ∷ bs) = omega arith

pub bound_kept : (bs k : List ℕ) → is_below bs k ≡ true → IfSome (bound_of bs)
    (λ h. key_cmp k h ≡ Less)
bound_kept [] k e = tt
bound_kept (b ∷ bs) k e = less_from_test k (b ∷ bs) e

pub sharded_accepted : (format : Format) (root k proof : List ℕ) (a : Option (List ℕ))
    → IsBytes proof → sharded_verdict format root k proof ≡ Ok a
    → ShardedAccepted format root k proof a
sharded_accepted format root k proof a b e =
    let r = bind_done (parts_at format proof) (judgement format root k) a e in
    let p = r.0 in
    let takes = parts_takes format proof p b r.1 in
    let h = bind_done (listed (verdict format root p.low p.directory))
    (λ held. placed k p.low held >> λ digest. answered (verdict format digest k p.shard)) a r.2 in
    let v = h.0 in
    let d = bind_done (placed k p.low v) (λ digest. answered (verdict format digest k p.shard)) a
    h.2 in
    let shown = listed_done (verdict format root p.low p.directory) v h.1 in
    let is = placed_done k p.low v d.0 d.1 in
    let says = answered_done (verdict format d.0 k p.shard) a d.2 in
    let rest = drop 32 v in
    let whole : v ≡ d.0 ++ bound_text (bound_of rest) =
    front_and_rest 32 v ∙ ap (λ (xs : List ℕ). xs ++ rest) is.digest
    ∙ ap (λ (xs : List ℕ). d.0 ++ xs) (bound_spelt rest) in
    let long : 32 ≤ length v = enough (length v) is.size in
    record {
      parts = p;
      frames = takes.frames;
      digest = d.0;
      high = bound_of rest;
      size = ap length (sym is.digest) ∙ length-front 32 v long;
      some = bound_some rest;
      listed = subst (λ (xs : List ℕ). Accepted format root p.low p.directory (Some xs)) whole
          (accepted_nodewise format root p.low p.directory (Some v)
          (accepted format root p.low p.directory (Some v) takes.directory shown));
      from = λ less. true≢false (sym (ap is_lt less) ∙ is.from);
      to = bound_kept rest k is.to;
      answers = accepted_nodewise format d.0 k p.shard a
          (accepted format d.0 k p.shard a takes.shard says);
    }
  where
    enough : (n : ℕ) → nat_lt n 32 ≡ false → 32 ≤ n
    enough n e = grind (arith, nat_tests, e)

-- ---- from the relation to the verdict

pub bound_passed : (high : Option (List ℕ)) (k : List ℕ) → IfSome high (λ h. 0 < length h)
    → IfSome high (λ h. key_cmp k h ≡ Less) → is_below (bound_text high) k ≡ true
bound_passed None k some to = refl
bound_passed (Some []) k some to = absurd (omega (arith, some))
bound_passed (Some (b ∷ bs)) k some to = ap is_lt to

pub placed_of : (k low digest : List ℕ) (high : Option (List ℕ)) → length digest ≡ 32
    → is_lt (key_cmp k low) ≡ false → is_below (bound_text high) k ≡ true
    → placed k low (digest ++ bound_text high) ≡ Ok digest
placed_of k low digest high size from to =
    let held = digest ++ bound_text high in
    let long : nat_lt (length held) 32 ≡ false =
    grind (arith, nat_tests, size, length-append digest (bound_text high)) in
    let front : take 32 held ≡ digest =
    subst (λ (n : ℕ). take n held ≡ digest) size (take-append_seam digest (bound_text high)) in
    let rest : drop 32 held ≡ bound_text high =
    subst (λ (n : ℕ). drop n held ≡ bound_text high) size
    (drop-append_seam digest (bound_text high)) in
    rw (long, from, rest, to, front)

pub sharded_accepts : (format : Format) (root k proof : List ℕ) (a : Option (List ℕ))
    → ShardedAccepted format root k proof a → sharded_verdict format root k proof ≡ Ok a
sharded_accepts format root k proof a is =
    let p = is.parts in
    let cut : parts_at format proof ≡ Ok p =
    ap (parts_at format) is.frames.whole ∙ parts_again format p is.frames.key is.frames.short in
    let held = is.digest ++ bound_text is.high in
    let first : verdict format root p.low p.directory ≡ Ok (Some held) =
    accepts format root p.low p.directory (Some held)
    (accepted_stepwise format root p.low p.directory (Some held) is.listed) in
    let second : verdict format is.digest k p.shard ≡ Ok a =
    accepts format is.digest k p.shard a
    (accepted_stepwise format is.digest k p.shard a is.answers) in
    let from : is_lt (key_cmp k p.low) ≡ false =
    false_from_ne_true (is_lt (key_cmp k p.low)) (λ e. is.from (less_from_test k p.low e)) in
    let to = bound_passed is.high k is.some is.to in
    ap (λ (r : Result Parts ShardedFault). r >> judgement format root k) cut
    ∙ ap (λ (r : Result (Option (List ℕ)) ProofFault). listed r >> λ held.
    placed k p.low held >> λ digest. answered (verdict format digest k p.shard)) first
    ∙ ap (λ (r : Result (List ℕ) ShardedFault). r >> λ digest.
    answered (verdict format digest k p.shard))
    (placed_of k p.low is.digest is.high is.size from to)
    ∙ ap answered second
