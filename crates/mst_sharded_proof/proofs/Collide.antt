-- If there is no collision beside either tree, no other answer is shown.
use Rattle.mst_sharded_proof.proofs.Names.{◌≡◌, ℕ, List, length, take, Option, Some, None, refl, sym, ◌∙◌, ap, subst, ◌≤◌, IfSome, IfNone, Result, Ok, Err, Contains-append_left, Contains-append_right, Format, Pair, IsMap, map_get, tree, ShowsNoOther, texts_named, CollidesWith, verdict, among_named, ShardedFault, least, shard_of, part_of, directory, ◌>>◌, Parts, parts_at, listed, placed, answered, judgement, HasShardedRoot, directory_tree, shard_tree, texts_among, sharded_texts}
use Rattle.std.specs.Prelude.{IfOk}
use Rattle.mst_node.specs.Text.{digest, root as root_of}
use Rattle.mst_node.specs.Tree.{Tree, pairs}
use Rattle.mst_node.proofs.UniqueTree.{pairs_tree}
use Rattle.mst_proof.specs.Beside.{CollidesAmong}
use Rattle.mst_sharded_proof.specs.Theorem.{IsSharded, ShowsNoOtherSharded}
use Rattle.mst_sharded_proof.proofs.Shards.{found, listing-digest}
use Rattle.mst_sharded_proof.proofs.Parts.{bind_done}
use Rattle.mst_sharded_proof.proofs.Sound.{listed_done, placed_done, answered_done, directory_root, shard_root}

-- a map with these splits has the directory's digest
pub has_root : (format : Format) (m : List Pair) (splits : List (List ℕ)) → IsSharded m splits
    → HasShardedRoot format m splits (digest (directory_tree format m splits))
has_root format m splits is = record { sharded = is; root = refl }

-- what `collide_in` asks of the directory's tree, and of the shard's
pub of_directory : (format : Format) (m : List Pair) (splits : List (List ℕ)) (over : Tree)
    → IsSharded m splits → over ≡ directory_tree format m splits
    → (d : List Pair) × IsMap d × (length d ≤ 65535) × (over ≡ tree format d)
of_directory format m splits over is same =
    let has = directory_root format m splits _ (has_root format m splits is) in
    (directory format m splits, has.map, has.few, same)

pub of_shard : (format : Format) (m : List Pair) (splits : List (List ℕ)) (k : List ℕ)
    (under : Tree) → IsSharded m splits → under ≡ shard_tree format m splits k
    → (d : List Pair) × IsMap d × (length d ≤ 65535) × (under ≡ tree format d)
of_shard format m splits k under is same =
    let has = shard_root format m splits _ k _ (has_root format m splits is) refl in
    (part_of m (shard_of splits k), has.map, has.few, same)

parts_show : (format : Format) (m : List Pair) (splits : List (List ℕ)) (k : List ℕ) (p : Parts)
    (a : Option (List ℕ)) → IsSharded m splits
    → ShowsNoOther format (directory_tree format m splits) p.low p.directory
    → ShowsNoOther format (shard_tree format m splits k) k p.shard
    → judgement format (digest (directory_tree format m splits)) k p ≡ Ok a
    → a ≡ map_get (pairs (shard_tree format m splits k)) k
parts_show format m splits k p a sharded no_over no_under e =
    let dir = directory format m splits in
    let s = shard_of splits k in
    let root = digest (directory_tree format m splits) in
    let h = bind_done (listed (verdict format root p.low p.directory))
    (λ held. placed k p.low held >> λ digest. answered (verdict format digest k p.shard)) a e in
    let v = h.0 in
    let d = bind_done (placed k p.low v) (λ digest. answered (verdict format digest k p.shard)) a
    h.2 in
    let shown = listed_done (verdict format root p.low p.directory) v h.1 in
    let is = placed_done k p.low v d.0 d.1 in
    let says = answered_done (verdict format d.0 k p.shard) a d.2 in
    let holds : map_get dir p.low ≡ Some v =
    ap (λ (m : List Pair). map_get m p.low) (sym (pairs_tree format dir))
    ∙ sym (no_over (Some v) shown) in
    let f = found format m least splits p.low v k sharded.rising holds is.from is.to in
    let same : d.0 ≡ root_of format (part_of m s) =
    sym is.digest ∙ ap (λ (x : List ℕ). take 32 x) f.value ∙ listing-digest format m s in
    no_under a (subst (λ (x : List ℕ). verdict format x k p.shard ≡ Ok a) same says)

pub none_of_both : (format : Format) (k proof : List ℕ) (p : Parts) (over under : Tree)
    → (m : List Pair) × (splits : List (List ℕ)) × IsSharded m splits
    × (over ≡ directory_tree format m splits) × (under ≡ shard_tree format m splits k)
    → parts_at format proof ≡ Ok p → ShowsNoOther format over p.low p.directory
    → ShowsNoOther format under k p.shard → ShowsNoOtherSharded format over under k proof
none_of_both format k proof p over under map cut no_over no_under a e =
    let m = map.0 in
    let splits = map.1 in
    let judged : judgement format (digest over) k p ≡ Ok a =
    sym (ap (λ (r : Result Parts ShardedFault). r >> judgement format (digest over) k) cut) ∙ e in
    let shown = parts_show format m splits k p a map.2
    (subst (λ (t : Tree). ShowsNoOther format t p.low p.directory) map.3 no_over)
    (subst (λ (t : Tree). ShowsNoOther format t k p.shard) map.4 no_under)
    (subst (λ (t : Tree). judgement format (digest t) k p ≡ Ok a) map.3 judged) in
    shown ∙ ap (λ (t : Tree). map_get (pairs t) k) (sym map.4)

abbrev fails : ShardedFault → Result (Option (List ℕ)) ShardedFault
fails f = Err f

-- ---- a collision of one part is one of the whole

pub some_over : (format : Format) (m : List Pair) (splits : List (List ℕ)) (proof : List ℕ)
    (p : Parts) (over under : Tree) (one other : List ℕ) → over ≡ directory_tree format m splits
    → parts_at format proof ≡ Ok p
    → CollidesWith format (directory format m splits) p.low p.directory one other
    → CollidesAmong (sharded_texts format proof over under) one other
some_over format m splits proof p over under one other same cut c =
    let ts = texts_named format p.directory over in
    let us = texts_named format p.shard under in
    let n = subst (λ (t : Tree). CollidesAmong (texts_named format p.directory t) one other)
    (sym same) (among_named format (directory format m splits) p.low p.directory one other c) in
    subst (λ (r : Result Parts ShardedFault). CollidesAmong (texts_among format over under r) one
    other) (sym cut) (record {
      one_in = Contains-append_left ts us one n.one_in;
      other_in = Contains-append_left ts us other n.other_in;
      collision = n.collision;
    })

pub some_under : (format : Format) (m : List Pair) (splits : List (List ℕ)) (k proof : List ℕ)
    (p : Parts) (over under : Tree) (one other : List ℕ) → under ≡ shard_tree format m splits k
    → parts_at format proof ≡ Ok p
    → CollidesWith format (part_of m (shard_of splits k)) k p.shard one other
    → CollidesAmong (sharded_texts format proof over under) one other
some_under format m splits k proof p over under one other same cut c =
    let ts = texts_named format p.directory over in
    let us = texts_named format p.shard under in
    let n = subst (λ (t : Tree). CollidesAmong (texts_named format p.shard t) one other)
    (sym same) (among_named format (part_of m (shard_of splits k)) k p.shard one other c) in
    subst (λ (r : Result Parts ShardedFault). CollidesAmong (texts_among format over under r) one
    other) (sym cut) (record {
      one_in = Contains-append_right ts us one n.one_in;
      other_in = Contains-append_right ts us other n.other_in;
      collision = n.collision;
    })

-- ---- what follows in a result follows of the result

pub if_none : {T E X Y : Type 0} (r : Result (Option T) E) → (X → Y) → IfOk r (λ o. IfNone o X)
    → IfOk r (λ o. IfNone o Y)
if_none (Err f) more is = is
if_none (Ok None) more is = more is
if_none (Ok (Some p)) more is = is

pub if_some : {T E : Type 0} {P Q : T → Type 0} (r : Result (Option T) E)
    → ((p : T) → P p → Q p) → IfOk r (λ o. IfSome o P) → IfOk r (λ o. IfSome o Q)
if_some (Err f) more is = is
if_some (Ok None) more is = is
if_some (Ok (Some p)) more is = more p is
