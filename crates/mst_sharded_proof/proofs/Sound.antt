-- If a proof is accepted with another answer than the map's, there is a collision.
use Rattle.mst_sharded_proof.proofs.Names.{◌≡◌, ◌≢◌, ℕ, Bool, true, false, List, ◌++◌, length, take, drop, Option, Some, None, refl, sym, ◌∙◌, ap, subst, arith, is_lt, nat_lt, ◌≤◌, Result, Ok, Err, Contains-append_left, Contains-append_right, Format, IsBytes, Pair, key_cmp, map_get, by_same, tree, some_same, ProofFault, texts_named, HasRoot, verdict, accepted, among_named, ShardedFault, Shard, least, shard_of, part_of, directory, ◌>>◌, Parts, parts_at, listed, is_below, placed, answered, judgement, sharded_verdict, HasShardedRoot, directory_tree, shard_tree, texts_among, sharded_texts}
use Rattle.mst_node.specs.Collision.{HasCollision}
use Rattle.mst_node.specs.Text.{root as root_of}
use Rattle.mst_proof.proofs.Stepwise.{Accepted}
use Rattle.mst_proof.proofs.Truth.{other_answer}
use Rattle.mst_sharded_proof.specs.Theorem.{texts_with}
use Rattle.mst_sharded_proof.proofs.Parts.{bind_done, parts_takes}
use Rattle.mst_sharded_proof.proofs.Shards.{found, listing-digest, directory_map, length-directory, part_map, part_get, of_each}

-- ---- one step after another

pub listed_done : (r : Result (Option (List ℕ)) ProofFault) (v : List ℕ) → listed r ≡ Ok v
    → r ≡ Ok (Some v)
listed_done (Err f) v e = absurd (cc)
listed_done (Ok None) v e = absurd (cc)
listed_done (Ok (Some w)) v e = cc

pub answered_done : (r : Result (Option (List ℕ)) ProofFault) (a : Option (List ℕ))
    → answered r ≡ Ok a → r ≡ Ok a
answered_done (Err f) a e = absurd (cc)
answered_done (Ok b) a e = cc

-- what the bounds say of a key that passes them
pub record Placed (k low v d : List ℕ) : Type 0 where
  pub size : nat_lt (length v) 32 ≡ false
  pub from : is_lt (key_cmp k low) ≡ false
  pub to : is_below (drop 32 v) k ≡ true
  pub digest : take 32 v ≡ d

pub placed_done : (k low v d : List ℕ) → placed k low v ≡ Ok d → Placed k low v d
placed_done k low v d = go (nat_lt (length v) 32) (is_lt (key_cmp k low)) (is_below (drop 32 v) k)
    refl refl refl
  where
    go : (a b c : Bool) → nat_lt (length v) 32 ≡ a → is_lt (key_cmp k low) ≡ b
        → is_below (drop 32 v) k ≡ c → placed k low v ≡ Ok d → Placed k low v d
    go true b c ea eb ec e = absurd (cc (ea, e))
    go false true c ea eb ec e = absurd (cc (ea, eb, e))
    go false false false ea eb ec e = absurd (cc (ea, eb, ec, e))
    go false false true ea eb ec e =
        record { size = ea; from = eb; to = ec; digest = cc (ea, eb, ec, e) }

-- ---- the theorem

pub by_option : {G : Type 0} (o : Option (List ℕ)) → (o ≡ None → G)
    → ((w : List ℕ) → o ≡ Some w → G) → G
by_option None none some = none refl
by_option (Some w) none some = some w refl

pub some-none : (v : List ℕ) (o : Option (List ℕ)) → Some v ≡ o → o ≡ None → ⊥
some-none v o s n = cc

collides_left : (xs ys : List (List ℕ)) → HasCollision xs → HasCollision (xs ++ ys)
collides_left xs ys c = (
  c.0,
  c.1,
  Contains-append_left xs ys c.0 c.2,
  Contains-append_left xs ys c.1 c.3,
  c.4,
)

collides_right : (xs ys : List (List ℕ)) → HasCollision ys → HasCollision (xs ++ ys)
collides_right xs ys c = (
  c.0,
  c.1,
  Contains-append_right xs ys c.0 c.2,
  Contains-append_right xs ys c.1 c.3,
  c.4,
)

-- another answer than the map's gives a collision among the texts that are named
pub other_collides : (format : Format) (m : List Pair) (d k proof : List ℕ) (a : Option (List ℕ))
    → IsBytes proof → HasRoot format m d → Accepted format d k proof a → a ≢ map_get m k
    → HasCollision (texts_named format proof (tree format m))
other_collides format m d k proof a b has acc other =
    let c = other_answer format m d k proof a b has acc other in
    let named = among_named format m k proof c.0 c.1 c.2 in
    (c.0, c.1, named.one_in, named.other_in, named.collision)

pub directory_root : (format : Format) (m : List Pair) (splits : List (List ℕ)) (root : List ℕ)
    → HasShardedRoot format m splits root → HasRoot format (directory format m splits) root
directory_root format m splits root has =
    record {
      map = directory_map format m splits has.sharded.rising;
      few = omega (arith, has.sharded.few_shards, length-directory format m least splits);
      root = has.root;
    }

-- the root digest of the key's shard, as the directory holds it
pub shard_root : (format : Format) (m : List Pair) (splits : List (List ℕ)) (root k d : List ℕ)
    → HasShardedRoot format m splits root
    → d ≡ root_of format (part_of m (shard_of splits k))
    → HasRoot format (part_of m (shard_of splits k)) d
shard_root format m splits root k d has is =
    record {
      map = part_map m (shard_of splits k) has.sharded.map;
      few = of_each (λ (s : Shard). length (part_of m s) ≤ 65535) least splits k has.sharded.few;
      root = is;
    }

parts_sound : (format : Format) (m : List Pair) (splits : List (List ℕ)) (root k : List ℕ)
    (p : Parts) (a : Option (List ℕ)) → IsBytes p.directory → IsBytes p.shard
    → HasShardedRoot format m splits root → judgement format root k p ≡ Ok a → a ≢ map_get m k
    → HasCollision (texts_with format (directory_tree format m splits)
    (shard_tree format m splits k) p)
parts_sound format m splits root k p a bd bs has e other =
    let dir = directory format m splits in
    let s = shard_of splits k in
    let ts = texts_named format p.directory (tree format dir) in
    let us = texts_named format p.shard (tree format (part_of m s)) in
    let h = bind_done (listed (verdict format root p.low p.directory))
    (λ held. placed k p.low held >> λ digest. answered (verdict format digest k p.shard)) a e in
    let v = h.0 in
    let d = bind_done (placed k p.low v) (λ digest. answered (verdict format digest k p.shard)) a
    h.2 in
    let shown = listed_done (verdict format root p.low p.directory) v h.1 in
    let is = placed_done k p.low v d.0 d.1 in
    let says = answered_done (verdict format d.0 k p.shard) a d.2 in
    let left : Some v ≢ map_get dir p.low → HasCollision (ts ++ us) = λ n.
    collides_left ts us (other_collides format dir root p.low p.directory (Some v) bd
    (directory_root format m splits root has)
    (accepted format root p.low p.directory (Some v) bd shown) n) in
    let right : map_get dir p.low ≡ Some v → HasCollision (ts ++ us) = λ holds.
    let f = found format m least splits p.low v k has.sharded.rising holds is.from is.to in
    let digest : d.0 ≡ root_of format (part_of m s) =
    sym is.digest ∙ ap (λ (x : List ℕ). take 32 x) f.value ∙ listing-digest format m s in
    collides_right ts us (other_collides format (part_of m s) d.0 k p.shard a bs
    (shard_root format m splits root k d.0 has digest)
    (accepted format d.0 k p.shard a bs says)
    (λ same. other (same ∙ part_get m s k f.inside))) in
    by_option (map_get dir p.low) (λ none. left (λ same. some-none v (map_get dir p.low) same none))
    (λ w some. by_same v w (λ same. right (some ∙ ap Some (sym same)))
    (λ n. left (λ same. n (some_same v w (same ∙ some)))))

pub sharded_sound : (format : Format) (m : List Pair) (splits : List (List ℕ))
    (root k proof : List ℕ) (a : Option (List ℕ)) → IsBytes proof
    → HasShardedRoot format m splits root → sharded_verdict format root k proof ≡ Ok a
    → a ≢ map_get m k → HasCollision
    (sharded_texts format proof (directory_tree format m splits) (shard_tree format m splits k))
sharded_sound format m splits root k proof a b has e other =
    let r = bind_done (parts_at format proof) (judgement format root k) a e in
    let takes = parts_takes format proof r.0 b r.1 in
    let over = directory_tree format m splits in
    let under = shard_tree format m splits k in
    subst (λ (x : Result Parts ShardedFault). HasCollision (texts_among format over under x))
    (sym r.1) (parts_sound format m splits root k r.0 a takes.directory takes.shard has r.2 other)
