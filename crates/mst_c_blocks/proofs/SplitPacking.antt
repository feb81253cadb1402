-- Bytes pack one list of keys at most, which is read off from the front.
use Rattle.mst_c_blocks.proofs.Names.{◌≡◌, ℕ, ◌<◌, List, [], ◌∷◌, ◌++◌, length, refl, sym, ap, ◌∙◌, subst, arith, IsKey, least, AreSplits, splits_bytes, PacksSplits}
use Rattle.std.proofs.Common.{take, drop, append_assoc, append-nil}
use Rattle.std.proofs.Math.Seq.{drop-append_seam, take-append_seam}
use Rattle.mst_shards.specs.Sharding.{IsSplits}

-- the first number of a list, and the rest
abbrev first : List ℕ → ℕ
first [] = 0
first (n ∷ ns) = n

abbrev rest_of : List ℕ → List ℕ
rest_of [] = []
rest_of (n ∷ ns) = ns

same_length : (k b xs ys : List ℕ) → length k ∷ (k ++ xs) ≡ length b ∷ (b ++ ys)
    → length k ≡ length b
same_length k b xs ys is = ap first is

-- what stands behind its length is the same in both
pub same_front : (k b xs ys : List ℕ) → length k ∷ (k ++ xs) ≡ length b ∷ (b ++ ys) → k ≡ b
same_front k b xs ys is =
    sym (take-append_seam k xs) ∙ ap (λ (n : ℕ). take n (k ++ xs)) (same_length k b xs ys is)
    ∙ ap (λ (l : List ℕ). take (length b) (rest_of l)) is ∙ take-append_seam b ys

-- and so is what comes after it
pub same_behind : (k b xs ys : List ℕ) → length k ∷ (k ++ xs) ≡ length b ∷ (b ++ ys) → xs ≡ ys
same_behind k b xs ys is =
    sym (drop-append_seam k xs) ∙ ap (λ (n : ℕ). drop n (k ++ xs)) (same_length k b xs ys is)
    ∙ ap (λ (l : List ℕ). drop (length b) (rest_of l)) is ∙ drop-append_seam b ys

-- keys that were read, and one more
pub packs_more : (ks : List (List ℕ)) (k rest : List ℕ)
    → splits_bytes (ks ++ k ∷ []) ++ rest ≡ splits_bytes ks ++ (length k ∷ (k ++ rest))
packs_more [] k rest = ap (λ (l : List ℕ). length k ∷ (l ++ rest)) (append-nil k)
packs_more (b ∷ ks) k rest =
    ap (λ (l : List ℕ). length b ∷ l)
    (append_assoc b (splits_bytes (ks ++ k ∷ [])) rest
    ∙ ap (λ (l : List ℕ). b ++ l) (packs_more ks k rest)
    ∙ sym (append_assoc b (splits_bytes ks) (length k ∷ (k ++ rest))))

-- keys that pack to the bytes begin with those that were read
pub record Goes (ks before : List (List ℕ)) (rest : List ℕ) : Type 0 where
  pub more : List (List ℕ)
  pub is : ks ≡ before ++ more
  pub left : splits_bytes more ≡ rest

pub goes_on : (before ks : List (List ℕ)) (rest : List ℕ)
    → splits_bytes ks ≡ splits_bytes before ++ rest → Goes ks before rest
goes_on [] ks rest is = record { more = ks; is = refl; left = is }
goes_on (b ∷ before) [] rest is = absurd (omega (arith, ap length is))
goes_on (b ∷ before) (k ∷ ks) rest is =
    let both : length k ∷ (k ++ splits_bytes ks)
    ≡ length b ∷ (b ++ (splits_bytes before ++ rest)) =
    is ∙ ap (λ (l : List ℕ). length b ∷ l) (append_assoc b (splits_bytes before) rest) in
    let w : Goes ks before rest =
    goes_on before ks rest (same_behind k b (splits_bytes ks) (splits_bytes before ++ rest) both)
    in
    let front : k ≡ b = same_front k b (splits_bytes ks) (splits_bytes before ++ rest) both in
    record {
      more = w.more;
      is = ap (λ (l : List ℕ). l ∷ ks) front ∙ ap (λ (l : List (List ℕ)). b ∷ l) w.is;
      left = w.left;
    }

nothing_left : (ks : List (List ℕ)) → splits_bytes ks ≡ [] → ks ≡ []
nothing_left [] is = refl
nothing_left (k ∷ ks) is = absurd (omega (arith, ap length is))

-- no two lists of keys pack to the same bytes
pub one_packing : (ks bs : List (List ℕ)) → splits_bytes ks ≡ splits_bytes bs → ks ≡ bs
one_packing ks bs is =
    let w : Goes ks bs [] = goes_on bs ks [] (is ∙ sym (append-nil (splits_bytes bs))) in
    w.is ∙ ap (λ (more : List (List ℕ)). bs ++ more) (nothing_left w.more w.left)
    ∙ append-nil bs

-- the splits behind others are keys
last_key : (low : List ℕ) (before more : List (List ℕ)) (k : List ℕ)
    → AreSplits low (before ++ k ∷ more) → IsKey k
last_key low [] more k are = are.1
last_key low (b ∷ before) more k are = last_key b before more k are.2

no_more : (bytes rest : List ℕ) (before more : List (List ℕ)) → splits_bytes more ≡ rest
    → AreSplits least (before ++ more) → 0 < length rest
    → ((k behind : List ℕ) → IsKey k → rest ≡ length k ∷ (k ++ behind) → ⊥) → ⊥
no_more bytes rest before [] left are some none = omega (arith, some, ap length left)
no_more bytes rest before (k ∷ more) left are some none =
    none k (splits_bytes more) (last_key least before more k are) (sym left)

-- bytes of which some are left, and no key stands first there, pack no splits
pub packs_none : (bytes : List ℕ) (before : List (List ℕ)) (rest : List ℕ)
    → bytes ≡ splits_bytes before ++ rest → 0 < length rest
    → ((k behind : List ℕ) → IsKey k → rest ≡ length k ∷ (k ++ behind) → ⊥)
    → (ss : List (List ℕ)) → PacksSplits bytes ss → ⊥
packs_none bytes before rest is some none ss packs =
    let w : Goes ss before rest = goes_on before ss rest (sym packs.packed ∙ is) in
    no_more bytes rest before w.more w.left (subst (AreSplits least) w.is packs.are.rising) some
    none

-- keys that pack to bytes which pack splits are those splits
pub packs_these : (bytes : List ℕ) (ks : List (List ℕ)) (rest : List ℕ) → length rest ≡ 0
    → bytes ≡ splits_bytes ks ++ rest → (ss : List (List ℕ)) × PacksSplits bytes ss
    → PacksSplits bytes ks
packs_these bytes ks [] none is packs =
    let packed : bytes ≡ splits_bytes ks = is ∙ append-nil (splits_bytes ks) in
    record {
      packed = packed;
      are = subst IsSplits (one_packing packs.0 ks (sym packs.1.packed ∙ packed)) packs.1.are;
    }
packs_these bytes ks (b ∷ rest) none is packs = absurd (omega (arith, none))
