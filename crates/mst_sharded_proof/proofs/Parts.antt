-- The parts of a proof are those that its bytes frame.
use Rattle.mst_sharded_proof.proofs.Names.{◌≡◌, ℕ, Bool, true, false, cond, List, [], ◌∷◌, ◌++◌, length, take, drop, Option, Some, None, refl, sym, ◌∙◌, ap, subst, arith, append_assoc, nat_lt, nat_le, ◌==◌, ◌<◌, ◌≤◌, w32, to_be_bytes, Result, Ok, Err, cond-false, nat_tests, Format, IsBytes, IsKey, counted, part_takes, text_at, and_parts, ShardedFault, FormatByte, CutShort, NoKey, ◌>>◌, Parts, is_key, key_at, parts_with, parts_at, sharded_format_byte, Frames}
use Rattle.mst_node.specs.Reading.{part_at}
use Rattle.mst_proof.proofs.Framed.{text_takes}

abbrev ok : {A : Type 0} → A → Result A ShardedFault
ok x = Ok x

pub ok_same : {A : Type 0} (x y : A) → ok x ≡ ok y → x ≡ y
ok_same x y e = cc

pub bind_done : {A B : Type 0} (r : Result A ShardedFault) (g : A → Result B ShardedFault) (y : B)
    → (r >> g) ≡ Ok y → (x : A) × (r ≡ Ok x) × (g x ≡ Ok y)
bind_done (Err f) g y e = absurd (cc)
bind_done (Ok x) g y e = (x, refl, e)

key_from_test : (k : List ℕ) → is_key k ≡ true → IsKey k
key_from_test k e = let is = and_parts (nat_lt 0 (length k)) (nat_le (length k) 32) e in
    (above is.0, within is.1)
  where
    above : nat_lt 0 (length k) ≡ true → 0 < length k
    above e = grind (arith, nat_tests, e)

    within : nat_le (length k) 32 ≡ true → length k ≤ 32
    within e = grind (arith, nat_tests, e)

abbrev pub TakesKey : List ℕ → List ℕ × List ℕ → Type 0
TakesKey bytes x = (bytes ≡ counted x.0 ++ x.1) × IsKey x.0 × IsBytes x.1

pub cut_part : (n : ℕ) (bytes : List ℕ) → nat_lt (length bytes) n ≡ false → part_at n bytes ≡ Some
    (take n bytes, drop n bytes)
unfolding part_at
cut_part n bytes e =
    cond-false (nat_lt (length bytes) n) None (Some (take n bytes, drop n bytes)) e

pub key_takes : (bytes : List ℕ) (x : List ℕ × List ℕ) → IsBytes bytes → key_at bytes ≡ Ok x
    → TakesKey bytes x
key_takes [] x b e = absurd (cc)
key_takes (n ∷ bytes) x b e = go (nat_lt (length bytes) n) refl (is_key (take n bytes)) refl e
  where
    go : (s : Bool) → nat_lt (length bytes) n ≡ s → (t : Bool) → is_key (take n bytes) ≡ t
        → cond s (Err CutShort) (cond t (Ok (take n bytes, drop n bytes)) (Err NoKey)) ≡ Ok x
        → TakesKey (n ∷ bytes) x
    go true long t is e = absurd (cc)
    go false long false is e = absurd (cc)
    go false long true is e =
        let part = part_takes n bytes (take n bytes, drop n bytes) (cut_part n bytes long) b.1 in
        subst (TakesKey (n ∷ bytes)) (ok_same (take n bytes, drop n bytes) x e) (
          ap (λ (m : ℕ). m ∷ bytes) (sym part.1)
              ∙ ap (λ (xs : List ℕ). length (take n bytes) ∷ xs) part.0,
          key_from_test (take n bytes) is,
          part.3,
        )

with_done : (low : List ℕ) (o : Option (List ℕ × List ℕ)) (p : Parts) → parts_with low o ≡ Ok p
    → (o ≡ Some (p.directory, p.shard)) × (low ≡ p.low)
with_done low None p e = absurd (cc)
with_done low (Some t) p e =
    let same = ok_same (record { low = low; directory = t.0; shard = t.1 }) p e in
    (ap (λ (q : Parts). Some (q.directory, q.shard)) same, ap (λ (q : Parts). q.low) same)

-- the bytes frame the parts, and these are bytes
pub record Takes (format : Format) (bytes : List ℕ) (p : Parts) : Type 0 where
  pub frames : Frames format bytes p
  pub directory : IsBytes p.directory
  pub shard : IsBytes p.shard

pub parts_takes : (format : Format) (proof : List ℕ) (p : Parts) → IsBytes proof
    → parts_at format proof ≡ Ok p → Takes format proof p
parts_takes format [] p b e = absurd (cc)
parts_takes format (v ∷ bytes) p b e = go (v == sharded_format_byte format) refl e
  where
    go : (t : Bool) → (v == sharded_format_byte format) ≡ t
        → cond t (key_at bytes >> λ low. parts_with low.0 (text_at low.1)) (Err FormatByte) ≡ Ok p
        → Takes format (v ∷ bytes) p
    go false is e = absurd (cc)
    go true is e =
        let first : v ≡ sharded_format_byte format = grind (arith, nat_tests, is) in
        let r = bind_done (key_at bytes) (λ low. parts_with low.0 (text_at low.1)) p e in
        let key = key_takes bytes r.0 b.1 r.1 in
        let done = with_done r.0.0 (text_at r.0.1) p r.2 in
        let text = text_takes r.0.1 (p.directory, p.shard) done.0 key.2 in
        let size = to_be_bytes w32 (length p.directory) in
        let joined : size ++ p.directory ++ p.shard ≡ size ++ (p.directory ++ p.shard) =
        simp append_assoc in
        record {
          frames = record {
            key = subst IsKey done.1 key.1;
            short = text.3;
            whole = ap (λ (x : ℕ). x ∷ bytes) first
                ∙ ap (λ (xs : List ℕ). sharded_format_byte format ∷ xs) (key.0
                ∙ ap (λ (xs : List ℕ). counted r.0.0 ++ xs) (text.0 ∙ joined)
                ∙ ap (λ (low : List ℕ). counted low ++ (size ++ (p.directory ++ p.shard))) done.1);
          };
          directory = text.1;
          shard = text.2;
        }
