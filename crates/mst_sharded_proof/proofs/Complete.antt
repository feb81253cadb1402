-- The proof that a map gives is accepted, and shows the map's answer.
use Rattle.mst_sharded_proof.proofs.Names.{◌≡◌, ℕ, zero, suc, Bool, true, false, cond, List, [], ◌∷◌, ◌++◌, length, take, drop, Option, Some, None, inl, inr, refl, sym, ◌∙◌, ap, subst, arith, is_lt, Less, length-append, append_assoc, nat_lt, nat_le, ◌==◌, not, w32, to_be_bytes, Result, Ok, Err, take-append_seam, drop-append_seam, cond-true, cond-false, nat_tests, Format, IsBytes, IsKey, Pair, key_cmp, map_get, greater_from_less, less_chain, map_get-here, map_get-past, counted, ProofFault, text_at, verdict, accepts, IsShort, proof_accepted, ShardedFault, FormatByte, Shard, least, AreSplits, shard_from, shard_of, is_in, part_of, bound_text, listing, directory_from, directory, ◌>>◌, Parts, key_at, parts_with, parts_at, sharded_format_byte, framing, sharded_proof, listed, is_below, placed, answered, judgement, sharded_verdict, HasShardedRoot}
use Rattle.mst_key.proofs.KeyOrder.{key_cmp-itself, key_cmp-front, key_cmp-first_byte, other_from_less}
use Rattle.mst_node.specs.Text.{root as root_of}
use Rattle.mst_node.proofs.ReadIsSpelled.{bytes-split}
use Rattle.mst_proof.proofs.Framed.{text_again}
use Rattle.mst_sharded_proof.specs.Frame.{parts_for}
use Rattle.mst_sharded_proof.proofs.Shards.{length-root, listing-digest, listing-bound, listed_from, inside_last, inside_one, part_get}
use Rattle.mst_sharded_proof.proofs.Lengths.{proof_short}
use Rattle.mst_sharded_proof.proofs.Sound.{directory_root, shard_root}

-- ---- the key lies in its shard, and the directory lists it

by_test : {G : Type 0} (t : Bool) → (t ≡ true → G) → (t ≡ false → G) → G
by_test true is not = is refl
by_test false is not = not refl

-- no key is less than the least one
pub least_first : (k : List ℕ) → IsKey k → is_lt (key_cmp k least) ≡ false
least_first [] is = absurd (omega (arith, is.0))
least_first (zero ∷ []) is = ap is_lt (key_cmp-itself (0 ∷ []))
least_first (zero ∷ b ∷ bs) is =
    ap is_lt (greater_from_less (0 ∷ []) (0 ∷ b ∷ bs) (key_cmp-front (0 ∷ []) b bs))
least_first (suc a ∷ bs) is =
    ap is_lt (greater_from_less (0 ∷ []) (suc a ∷ bs)
    (key_cmp-first_byte [] 0 (suc a) [] bs (omega arith)))

-- what is known of a key's shard: the directory from a bound on lists it, and the key lies in it
pub record Listed (format : Format) (m : List Pair) (first : List ℕ) (splits : List (List ℕ))
    (k : List ℕ) (s : Shard) : Type 0 where
  pub holds : map_get (directory_from format m first splits) s.low ≡ Some (listing format m s)
  pub from : is_lt (key_cmp k s.low) ≡ false
  pub to : is_below (bound_text s.high) k ≡ true
  pub inside : is_in s k ≡ true
  pub key : IsKey s.low

bound_not_below : (s k : List ℕ) → is_lt (key_cmp k s) ≡ true → is_below s k ≡ true
bound_not_below [] k less = refl
bound_not_below (b ∷ s) k less = less

pub listed_of : (format : Format) (m : List Pair) (first : List ℕ) (splits : List (List ℕ))
    (k : List ℕ) → IsKey first → AreSplits first splits → is_lt (key_cmp k first) ≡ false
    → Listed format m first splits k (shard_from first splits k)
listed_of format m first [] k is rising from =
    let s : Shard = record { low = first; high = None } in
    record {
      holds = map_get-here (first, listing format m s) [] first refl;
      from = from;
      to = refl;
      inside = inside_last first k from;
      key = is;
    }
listed_of format m first (t ∷ splits) k is rising from =
    let s : Shard = record { low = first; high = Some t } in
    let here : Pair = (first, listing format m s) in
    let rest = directory_from format m t splits in
    let other = shard_from t splits k in
    by_test (is_lt (key_cmp k t)) (λ less.
    subst (λ (x : Shard). Listed format m first (t ∷ splits) k x)
    (sym (cond-true (is_lt (key_cmp k t)) s other less)) (record {
      holds = map_get-here here rest first refl;
      from = from;
      to = bound_not_below t k less;
      inside = inside_one first t k from less;
      key = is;
    })) (λ past.
    let l = listed_of format m t splits k rising.1 rising.2 past in
    let above : key_cmp first other.low ≡ Less =
    elim (listed_from format m t splits other.low (listing format m other) rising.2 l.holds) [
      | inl same ↦ subst (λ (b : List ℕ). key_cmp first b ≡ Less) same rising.0
      | inr less ↦ less_chain first t other.low rising.0 less
    ] in
    subst (λ (x : Shard). Listed format m first (t ∷ splits) k x)
    (sym (cond-false (is_lt (key_cmp k t)) s other past)) (record {
      holds = map_get-past here rest other.low (other_from_less first other.low above) ∙ l.holds;
      from = l.from;
      to = l.to;
      inside = l.inside;
      key = l.key;
    }))

-- ---- what is framed is cut out

key_again : (low rest : List ℕ) → IsKey low → key_at (counted low ++ rest) ≡ Ok (low, rest)
key_again low rest is =
    let whole : nat_lt (length (low ++ rest)) (length low) ≡ false =
    grind (arith, nat_tests, length-append low rest) in
    let front : take (length low) (low ++ rest) ≡ low = take-append_seam low rest in
    let behind : drop (length low) (low ++ rest) ≡ rest = drop-append_seam low rest in
    let some : nat_lt 0 (length low) ≡ true = grind (arith, nat_tests, is.0) in
    let few : nat_le (length low) 32 ≡ true = grind (arith, nat_tests, is.1) in
    rw (whole, front, behind, some, few)

pub parts_again : (format : Format) (p : Parts) → IsKey p.low → IsShort p.directory
    → parts_at format (framing format p) ≡ Ok p
parts_again format p is short =
    let rest = to_be_bytes w32 (length p.directory) ++ (p.directory ++ p.shard) in
    let same : (sharded_format_byte format == sharded_format_byte format) ≡ true =
    grind (arith, nat_tests) in
    let joined : rest ≡ to_be_bytes w32 (length p.directory) ++ p.directory ++ p.shard =
    simp append_assoc in
    let cut : text_at rest ≡ Some (p.directory, p.shard) =
    ap text_at joined ∙ text_again p.directory p.shard short in
    let key = key_again p.low rest is in
    let all : (key_at (counted p.low ++ rest) >> λ low. parts_with low.0 (text_at low.1)) ≡ Ok p =
    ap (λ (r : Result (List ℕ × List ℕ) ShardedFault). r >> λ low.
    parts_with low.0 (text_at low.1)) key ∙ ap (parts_with p.low) cut in
    ap (λ (t : Bool). cond t (key_at (counted p.low ++ rest) >> λ low.
    parts_with low.0 (text_at low.1)) (Err FormatByte)) same ∙ all

-- ---- the theorem

placed_again : (format : Format) (m : List Pair) (k : List ℕ) (s : Shard)
    → is_lt (key_cmp k s.low) ≡ false → is_below (bound_text s.high) k ≡ true
    → placed k s.low (listing format m s) ≡ Ok (root_of format (part_of m s))
placed_again format m k s from to =
    let size : nat_lt (length (listing format m s)) 32 ≡ false =
    grind (
      arith,
      nat_tests,
      length-root format (part_of m s),
      length-append (root_of format (part_of m s)) (bound_text s.high),
    ) in
    let bound = listing-bound format m s in
    let digest = listing-digest format m s in
    rw (size, from, bound, to, digest)

abbrev ok_of : Option (List ℕ) → Result (Option (List ℕ)) ProofFault
ok_of o = Ok o

pub parts_complete : (format : Format) (m : List Pair) (splits : List (List ℕ)) (root k : List ℕ)
    → HasShardedRoot format m splits root → IsKey k
    → IsBytes (parts_for format m splits k).directory → IsBytes (parts_for format m splits k).shard
    → judgement format root k (parts_for format m splits k) ≡ Ok (map_get m k)
parts_complete format m splits root k has is bd bs =
    let s = shard_of splits k in
    let dir = directory format m splits in
    let p = parts_for format m splits k in
    let d = root_of format (part_of m s) in
    let l = listed_of format m least splits k (omega arith, omega arith) has.sharded.rising
    (least_first k is) in
    let first : verdict format root s.low p.directory ≡ Ok (Some (listing format m s)) =
    accepts format root s.low p.directory (map_get dir s.low) (proof_accepted format dir root s.low
    p.directory bd (directory_root format m splits root has) refl)
    ∙ ap (λ (o : Option (List ℕ)). ok_of o) l.holds in
    let second : verdict format d k p.shard ≡ Ok (map_get m k) =
    accepts format d k p.shard (map_get (part_of m s) k) (proof_accepted format (part_of m s) d k
    p.shard bs (shard_root format m splits root k d has refl) refl)
    ∙ ap (λ (o : Option (List ℕ)). ok_of o) (part_get m s k l.inside) in
    ap (λ (r : Result (Option (List ℕ)) ProofFault). listed r >> λ held.
    placed k s.low held >> λ digest. answered (verdict format digest k p.shard)) first
    ∙ ap (λ (r : Result (List ℕ) ShardedFault). r >> λ digest.
    answered (verdict format digest k p.shard)) (placed_again format m k s l.from l.to)
    ∙ ap answered second

-- the proofs in bytes are bytes
framed_bytes : (format : Format) (p : Parts) → IsBytes (framing format p) → IsBytes p.directory
    × IsBytes p.shard
framed_bytes format p b =
    let size = to_be_bytes w32 (length p.directory) in
    let rest = bytes-split p.low (size ++ (p.directory ++ p.shard)) b.1.1 in
    bytes-split p.directory p.shard (bytes-split size (p.directory ++ p.shard) rest.1).1

pub sharded_complete : (format : Format) (m : List Pair) (splits : List (List ℕ))
    (root k proof : List ℕ) → IsBytes proof → HasShardedRoot format m splits root → IsKey k
    → proof ≡ sharded_proof format m splits k
    → sharded_verdict format root k proof ≡ Ok (map_get m k)
sharded_complete format m splits root k proof b has is same =
    let p = parts_for format m splits k in
    let l = listed_of format m least splits k (omega arith, omega arith) has.sharded.rising
    (least_first k is) in
    let bytes = framed_bytes format p (subst IsBytes same b) in
    let short = proof_short format (directory format m splits) root p.low
    (directory_root format m splits root has) bytes.0 in
    let cut : parts_at format proof ≡ Ok p =
    ap (parts_at format) same ∙ parts_again format p l.key short in
    ap (λ (r : Result Parts ShardedFault). r >> judgement format root k) cut
    ∙ parts_complete format m splits root k has is bytes.0 bytes.1
