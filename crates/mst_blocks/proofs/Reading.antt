-- A writer that has read one key: the pass of its shard has looked, and was laid down again.
use Rattle.mst_blocks.proofs.Names.{◌≡◌, ℕ, ◌+◌, ◌<◌, ◌≤◌, List, [], ◌∷◌, ◌++◌, length, map, set, get_or, refl, sym, ap, ◌∙◌, subst, arith, length-append, length-map, take_all, map-set_same, IfOk, Result, Ok, Err, AllByRecursion, History, after, map_get, IsPrefix-length, Known, Looks, StoreId, whole, AreOf, place, sharding, AllStep, Routes, read_any, one_steps, last_made, MakesNothing, LeavesAll, at_last, block_map, HasSeenLast, IsWriter}
use Rattle.std.proofs.Common.{slice_index_or}
use Rattle.std.specs.List.{swap_remove, SwappedAt}
use Rattle.std.proofs.lemmas.List.{get_or-map}
use Rattle.std.proofs.lemmas.List.Elements.{All-from_recursion}
use Rattle.std.specs.Prelude.{Option}
use Rattle.mst_shards.specs.Sharding.{IsSharding}
use Rattle.mst_shards.proofs.Moved.{put_back}
use Rattle.mst_shards.proofs.Nexts.{routed_get, map_here}
use Rattle.mst_blocks.proofs.Blocked.{writer_count}
use Rattle.mst_blocks.proofs.Committing.{looks_nothing, same_nothing}

pub writer_sharding : (splits : List (List ℕ)) (ps : List Known) (d : Known)
    → IsWriter (whole splits ps d) → IsSharding (sharding splits ps)
writer_sharding splits ps d w = record {
  splits_are = w.block.sharding_is.splits_are;
  count = writer_count splits ps d w;
}

-- the list is that in which the pass at the place is set
pub set_back : (splits : List (List ℕ)) (ps ys zs : List Known) (i m n k : ℕ) (p q : Known)
    → IsSharding (sharding splits ps) → i ≤ length splits → m ≡ length ps
    → ys ≡ swap_remove ps i p → n + 1 ≡ m → k ≡ n + 1 → k ≡ length zs
    → SwappedAt (ys ++ q ∷ []) zs i n → zs ≡ set ps i q
set_back splits ps ys zs i m n k p q is within long left taken laid now back =
    let count : length ps ≡ length splits + 1 = is.count in
    put_back ps ys zs i n p q (sym long ∙ sym taken) (sym now ∙ laid)
    (omega (arith, count, long, taken, within)) left back

module _ (splits : List (List ℕ)) (ps zs : List Known) (d : Known) (i : ℕ) (p q : Known)
    (w : IsWriter (whole splits ps d)) (within : i ≤ length splits) (here : p ≡ get_or ps i p)
    (now : zs ≡ set ps i q) (looks : Looks p q) where
  low : i < length ps
  low = (let count = writer_count splits ps d w in omega (arith, count, within))

  pub routed : (k : List ℕ) (S : Known → Known → Type 0) → i ≡ place splits k → S p q
      → Routes k S (sharding splits ps) (sharding splits zs)
  routed k S at step = record {
    p = p;
    q = q;
    here = λ e. ap (λ (j : ℕ). slice_index_or ps j e) (sym at) ∙ read_any ps i e p low ∙ sym here;
    steps = step;
    now = ap (λ (x : List Known). sharding splits x) (now ∙ ap (λ (j : ℕ). set ps j q) at);
  }

  pub left_by_look : LeavesAll ps zs d d
  left_by_look = record {
    shards = subst (λ (x : List Known). AllStep MakesNothing ps x) (sym now)
        (one_steps MakesNothing ps i p q (λ x. same_nothing x x refl) low here
        (looks_nothing p q looks));
    directory = same_nothing d d refl;
  }

  pub still_own : (stores : List StoreId) → AreOf stores ps → AreOf stores zs
  still_own stores own =
      ap (λ (l : List Known). map (λ x. x.store) l) now
      ∙ map-set_same (λ x. x.store) ps i q p
      (looks.same.0 ∙ ap (λ (x : Known). x.store) here) ∙ own

  seen_last : AllByRecursion HasSeenLast ps → HasSeenLast p
  seen_last all = subst HasSeenLast (sym here) (All-from_recursion HasSeenLast ps all i p low)

  -- what was found in the version that the pass made last is what the last block has
  pub found_last : (k : List ℕ) (found : Option (List ℕ)) → i ≡ place splits k
      → length q.seen ≡ last_made p → found ≡ map_get (after q.seen) k
      → found ≡ map_get (block_map (whole splits ps d)) k
  found_last k found at long is =
      let had = seen_last w.seen in
      let xs : List Known = map at_last ps in
      let more = looks.later in
      let grown = ap (λ (h : History). length h) more.1 in
      let parts = length-append p.seen more.0 in
      let same : q.seen ≡ p.seen = IsPrefix-length p.seen q.seen more
      (omega (arith, long, had, grown, parts)) in
      let whole_seen = ap (λ (h : History). length h) same in
      let last : (at_last p).seen ≡ p.seen = take_all (last_made p) p.seen
      (omega (arith, long, whole_seen)) in
      let count = length-map ps at_last in
      let there : i < length xs = omega (arith, count, low) in
      let at_xs : at_last p ≡ get_or xs i (at_last p) =
      ap at_last here ∙ sym (get_or-map at_last ps i p (at_last p) low) in
      is ∙ ap (λ (h : History). map_get (after h) k) (same ∙ sym last)
      ∙ routed_get splits xs k i (at_last p) w.block.sharding_is.splits_are.rising
      w.block.sharding_is.count at at_xs (map_here xs i (at_last p) there at_xs w.block.maps)

-- what is said of an answer says more of it
pub if_found : {T E : Type 0} (P Q : T → Type 0) (r : Result T E) → IfOk r P
    → ((x : T) → P x → Q x) → IfOk r Q
if_found P Q (Ok x) said more = more x said
if_found P Q (Err e) said more = tt
