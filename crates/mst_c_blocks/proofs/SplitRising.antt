-- Bytes that pack keys which rise, read off from the front.
use Rattle.mst_c_blocks.proofs.Names.{◌≡◌, ℕ, ◌+◌, ◌<◌, ◌≤◌, List, [], ◌∷◌, ◌++◌, length, refl, sym, ap, ◌∙◌, subst, arith, IsKey, least, AreSplits, splits_bytes, PacksSplits}
use Rattle.std.proofs.Common.{Less}
use Rattle.mst_key.specs.Map.{key_cmp}
use Rattle.mst_c_blocks.proofs.SplitPacking.{same_front, same_behind}

-- the bytes pack keys that rise from above one, as many as may follow this many others
pub record PacksFrom (low : List ℕ) (before : ℕ) (bytes : List ℕ) : Type 0 where
  pub splits : List (List ℕ)
  pub packed : bytes ≡ splits_bytes splits
  pub few : before + length splits ≤ 1023
  pub rising : AreSplits low splits

-- what is left of bytes decides of all
pub record Decides (bytes low : List ℕ) (before : ℕ) (rest : List ℕ) : Type 0 where
  pub most : before ≤ 1023
  pub back : PacksFrom low before rest → PacksFrom least 0 bytes
  pub forth : PacksFrom least 0 bytes → PacksFrom low before rest

pub decides_all : (bytes low : List ℕ) → low ≡ least → Decides bytes low 0 bytes
decides_all bytes low is = record {
  most = omega arith;
  back = λ packs. subst (λ (k : List ℕ). PacksFrom k 0 bytes) is packs;
  forth = λ packs. subst (λ (k : List ℕ). PacksFrom k 0 bytes) (sym is) packs;
}

with_first : (low key behind : List ℕ) (n : ℕ) → key_cmp low key ≡ Less → IsKey key
    → PacksFrom key (n + 1) behind → PacksFrom low n (length key ∷ (key ++ behind))
with_first low key behind n above is packs =
    let few = packs.few in
    record {
      splits = key ∷ packs.splits;
      packed = ap (λ (l : List ℕ). length key ∷ (key ++ l)) packs.packed;
      few = omega (arith, few);
      rising = (above, is, packs.rising);
    }

without_first : (low key behind : List ℕ) (n : ℕ) (ss : List (List ℕ))
    → length key ∷ (key ++ behind) ≡ splits_bytes ss → n + length ss ≤ 1023 → AreSplits low ss
    → PacksFrom key (n + 1) behind
without_first low key behind n [] is few rising =
    let none = ap (λ (l : List ℕ). length l) is in absurd (omega (arith, none))
without_first low key behind n (k ∷ ss) is few rising = record {
  splits = ss;
  packed = same_behind key k behind (splits_bytes ss) is;
  few = omega (arith, few);
  rising = subst (λ (low : List ℕ). AreSplits low ss)
      (sym (same_front key k behind (splits_bytes ss) is)) rising.2;
}

-- one key more was read
pub decides_on : (bytes low rest key behind : List ℕ) (n : ℕ) → n < 1023
    → Decides bytes low n rest → rest ≡ length key ∷ (key ++ behind) → key_cmp low key ≡ Less
    → IsKey key → Decides bytes key (n + 1) behind
decides_on bytes low rest key behind n some was is above key_is = record {
  most = omega (arith, some);
  back = λ packs. was.back (subst (λ (l : List ℕ). PacksFrom low n l) (sym is)
      (with_first low key behind n above key_is packs));
  forth = λ packs.
      let left = was.forth packs in
      without_first low key behind n left.splits (sym is ∙ left.packed) left.few left.rising;
}

-- no key is left
pub packs_all : (bytes low rest : List ℕ) (n : ℕ) → Decides bytes low n rest → length rest ≡ 0
    → (ss : List (List ℕ)) × PacksSplits bytes ss
packs_all bytes low [] n was none =
    let most = was.most in
    let all = was.back (record {
      splits = [];
      packed = refl;
      few = omega (arith, most);
      rising = tt;
    }) in
    let few = all.few in (
      all.splits,
      record {
        packed = all.packed;
        are = record { few = omega (arith, few); rising = all.rising };
      },
    )
packs_all bytes low (b ∷ rest) n was none = absurd (omega (arith, none))

left_of : (bytes low rest : List ℕ) (n : ℕ) → Decides bytes low n rest → (ss : List (List ℕ))
    → PacksSplits bytes ss → PacksFrom low n rest
left_of bytes low rest n was ss packs =
    let few = packs.are.few in
    was.forth (record {
      splits = ss;
      packed = packs.packed;
      few = omega (arith, few);
      rising = packs.are.rising;
    })

no_first : (low rest : List ℕ) (ss : List (List ℕ)) → rest ≡ splits_bytes ss → 0 < length rest
    → AreSplits low ss
    → ((k behind : List ℕ) → IsKey k → key_cmp low k ≡ Less → rest ≡ length k ∷ (k ++ behind) → ⊥)
    → ⊥
no_first low rest [] is some rising none =
    let long = ap (λ (l : List ℕ). length l) is in omega (arith, long, some)
no_first low rest (k ∷ ss) is some rising none =
    none k (splits_bytes ss) rising.1 rising.0 is

-- what stands next is no key above those that were read
pub packs_no_more : (bytes low rest : List ℕ) (n : ℕ) → Decides bytes low n rest
    → 0 < length rest
    → ((k behind : List ℕ) → IsKey k → key_cmp low k ≡ Less → rest ≡ length k ∷ (k ++ behind) → ⊥)
    → (ss : List (List ℕ)) → PacksSplits bytes ss → ⊥
packs_no_more bytes low rest n was some none ss packs =
    let left = left_of bytes low rest n was ss packs in
    no_first low rest left.splits left.packed some left.rising none

no_room : (rest : List ℕ) (ss : List (List ℕ)) → rest ≡ splits_bytes ss → 0 < length rest
    → length ss ≡ 0 → ⊥
no_room rest [] is some none =
    let long = ap (λ (l : List ℕ). length l) is in omega (arith, long, some)
no_room rest (k ∷ ss) is some none = omega (arith, none)

-- there are too many keys
pub packs_too_many : (bytes low rest : List ℕ) (n : ℕ) → Decides bytes low n rest → 1023 ≤ n
    → 0 < length rest → (ss : List (List ℕ)) → PacksSplits bytes ss → ⊥
packs_too_many bytes low rest n was all some ss packs =
    let left = left_of bytes low rest n was ss packs in
    let few = left.few in
    no_room rest left.splits left.packed some (omega (arith, few, all))
