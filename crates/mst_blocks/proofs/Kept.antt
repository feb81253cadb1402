-- The passes of a writer stay those of its map's stores, and it stays a writer.
use Rattle.mst_blocks.proofs.Names.{◌≡◌, ◌≤◌, ℕ, length, arith, List, [], ◌∷◌, ◌++◌, map, refl, sym, ap, ◌∙◌, subst, OnOk, IfOk, IfErr, Result, Ok, Err, Edit, Format, History, after, format_after, Known, StoreId, format_seen, AllStep, version_made, AddsBatch, AddsPart, AllAdd, MakesBlock, MakesNothing, LeavesAll, Shards, IsNew, Blocks, Whole, whole, HasSeenLast, IsWriter, IsWriterOf, IsLastRoot, AddsBlock, RefusesBlock, HasMade, BlockFault}
use Rattle.std.specs.Prelude.{OnErr}
use Rattle.mst_node.specs.Text.{root as root_of}
use Rattle.mst_blocks.specs.Writing.{KeepStores}
use Rattle.mst_blocks.proofs.Blocked.{just_made, made_more_blocks, made_same_blocks, rooted_now, rooted_still}

abbrev pub store : Known → StoreId
store p = p.store

part_store : (part : List Edit) (p q : Known) → AddsPart part p q → q.store ≡ p.store
part_store [] p q is = ap store is
part_store (e ∷ part) p q a = a.wrote.same.0

added_stores : (parts : List (List Edit)) (ps qs : List Known) → AllAdd parts ps qs
    → map store qs ≡ map store ps
added_stores [] [] [] adds = refl
added_stores [] [] (q ∷ qs) adds = absurd adds
added_stores [] (p ∷ ps) qs adds = absurd adds
added_stores (part ∷ parts) [] qs adds = absurd adds
added_stores (part ∷ parts) (p ∷ ps) [] adds = absurd adds
added_stores (part ∷ parts) (p ∷ ps) (q ∷ qs) adds =
    ap (λ (s : StoreId). s ∷ map store qs) (part_store part p q adds.0)
    ∙ ap (λ (l : List StoreId). p.store ∷ l) (added_stores parts ps qs adds.1)

nothing_stores : (ps qs : List Known) → AllStep MakesNothing ps qs → map store qs ≡ map store ps
nothing_stores [] [] steps = refl
nothing_stores [] (q ∷ qs) steps = absurd steps
nothing_stores (p ∷ ps) [] steps = absurd steps
nothing_stores (p ∷ ps) (q ∷ qs) steps =
    ap (λ (s : StoreId). s ∷ map store qs) steps.0.same.0
    ∙ ap (λ (l : List StoreId). p.store ∷ l) (nothing_stores ps qs steps.1)

pub made_keeps : (splits : List (List ℕ)) (parts : List (List Edit)) (ps qs : List Known)
    (d e : Known) → MakesBlock splits parts ps qs d e → KeepStores ps qs d e
made_keeps splits parts ps qs d e made =
    (added_stores parts ps qs made.shards, made.directory.wrote.same.0)

pub left_keeps : (ps qs : List Known) (d e : Known) → LeavesAll ps qs d e → KeepStores ps qs d e
left_keeps ps qs d e left = (nothing_stores ps qs left.shards, left.directory.same.0)

-- what holds of a block that was made and of one that was refused holds of each
pub either_way : {T P Q Z : Type 0} (r : Result T BlockFault) → OnOk r P → OnErr r Q
    → (P → Z) → (Q → Z) → Z
either_way (Ok u) made left f g = f made
either_way (Err fault) made left f g = g left

pub on_ok : {T P Q : Type 0} (r : Result T BlockFault) → OnOk r P → (P → Q) → OnOk r Q
on_ok (Ok u) made f = f made
on_ok (Err fault) made f = tt

pub if_err : {T Q : Type 0} (P R : BlockFault → Type 0) (r : Result T BlockFault)
    → OnErr r Q → IfErr r P → (Q → (fault : BlockFault) → P fault → R fault) → IfErr r R
if_err P R (Ok u) left why f = tt
if_err P R (Err fault) left why f = f left fault why

-- a digest that is the new one, or if nothing was made the one before
pub either_root : (R : List ℕ → Type 0) (r : Result (List ℕ) BlockFault) (digest before : List ℕ)
    → IfOk r (λ x. digest ≡ x) → OnErr r (digest ≡ before)
    → ((x : List ℕ) → r ≡ Ok x → R x) → ((fault : BlockFault) → r ≡ Err fault → R before)
    → R digest
either_root R (Ok x) digest before made same ok err = subst R (sym made) (ok x refl)
either_root R (Err fault) digest before made same ok err = subst R (sym same) (err fault refl)

-- ---- a writer that is lifted, and laid down

pub lifted_as : (splits sp : List (List ℕ)) (ps lifted : List Known) (d listing : Known)
    → sp ≡ splits
    → lifted ≡ ps → listing ≡ d → whole sp lifted listing ≡ whole splits ps d
lifted_as splits sp ps lifted d listing same as_ps as_d =
    ap (λ (s : List (List ℕ)). whole s lifted listing) same
    ∙ ap (λ (l : List Known). whole splits l listing) as_ps
    ∙ ap (λ (x : Known). whole splits ps x) as_d

module _ (edits : List Edit) (splits sp : List (List ℕ)) (ps lifted qs laid : List Known)
    (d listing e down : Known) (self : Whole) (same : sp ≡ splits) (as_ps : lifted ≡ ps)
    (as_d : listing ≡ d) (as_qs : laid ≡ qs) (as_e : down ≡ e) (as_self : whole splits ps d ≡ self)
    (w : IsWriter (whole splits ps d)) where
  was : whole sp lifted listing ≡ whole splits ps d
  was = lifted_as splits sp ps lifted d listing same as_ps as_d

  now : whole sp qs e ≡ whole splits laid down
  now = lifted_as splits sp laid qs down e same (sym as_qs) (sym as_e)

  writes : IsWriter (whole sp lifted listing)
  writes = subst IsWriter (sym was) w

  pub made_laid : (blocks : Blocks) → IsWriter (whole sp qs e)
      → AddsBlock edits (whole sp lifted listing) (whole sp qs e) → HasMade blocks self
      → HasMade (blocks ++ edits ∷ []) (whole splits laid down)
  made_laid blocks v adds h =
      subst (HasMade (blocks ++ edits ∷ [])) now
      (made_more_blocks edits blocks (whole sp lifted listing) (whole sp qs e) writes v adds
      (subst (HasMade blocks) (sym (was ∙ as_self)) h))

  pub left_laid : (fault : BlockFault) (blocks : Blocks)
      → RefusesBlock fault edits (whole sp lifted listing) (whole sp qs e) → HasMade blocks self
      → HasMade blocks (whole splits laid down)
  left_laid fault blocks refuses h =
      subst (HasMade blocks) now
      (made_same_blocks fault edits blocks (whole sp lifted listing) (whole sp qs e) writes refuses
      (subst (HasMade blocks) (sym (was ∙ as_self)) h))

  -- the root digest goes with it
  made_rooted : (digest : List ℕ) → AddsBlock edits (whole sp lifted listing) (whole sp qs e)
      → digest ≡ root_of (format_seen e) (after e.seen) → IsLastRoot digest down
  made_rooted digest adds is =
      subst (IsLastRoot digest) (sym as_e)
      (rooted_now edits (whole sp lifted listing) (whole sp qs e) digest writes adds is)

  left_rooted : (digest : List ℕ) (fault : BlockFault)
      → RefusesBlock fault edits (whole sp lifted listing) (whole sp qs e) → IsLastRoot digest d
      → IsLastRoot digest down
  left_rooted digest fault refuses is =
      subst (IsLastRoot digest) (sym as_e)
      (rooted_still fault edits (whole sp lifted listing) (whole sp qs e) digest writes refuses
      (subst (IsLastRoot digest) (sym as_d) is))

  pub last_rooted : (r : Result (List ℕ) BlockFault) (digest before : List ℕ)
      → IfOk r (λ x. digest ≡ x) → OnErr r (digest ≡ before)
      → OnOk r (AddsBlock edits (whole sp lifted listing) (whole sp qs e))
      → IfOk r (λ x. x ≡ root_of (format_seen e) (after e.seen))
      → IfErr r (λ fault. RefusesBlock fault edits (whole sp lifted listing) (whole sp qs e))
      → IsLastRoot before d → IsLastRoot digest down
  last_rooted (Ok x) digest before made same adds rooted refuses before_is =
      made_rooted digest adds (made ∙ rooted)
  last_rooted (Err fault) digest before made same adds rooted refuses before_is =
      left_rooted digest fault refuses (same ∙ before_is)

-- what is laid down is the writer's
pub writer_of : (s : Shards) (sp : List (List ℕ)) (ps lifted qs laid : List Known)
    (d listing e down : Known) → sp ≡ s.splits → lifted ≡ ps → listing ≡ d → laid ≡ qs → down ≡ e
    → IsWriterOf s (whole s.splits ps d) → IsWriter (whole sp qs e)
    → KeepStores lifted qs listing e → IsWriterOf s (whole s.splits laid down)
writer_of s sp ps lifted qs laid d listing e down same as_ps as_d as_qs as_e was v keep = record {
  own = ap (map store) as_qs ∙ keep.0 ∙ ap (map store) as_ps ∙ was.own;
  directory = ap store as_e ∙ keep.1 ∙ ap store as_d ∙ was.directory;
  writer = subst IsWriter (lifted_as s.splits sp laid qs down e same (sym as_qs) (sym as_e)) v;
}

-- the root digest of block 0
pub begun_rooted : (format : Format) (edits : List Edit) (d e : Known) (digest : List ℕ)
    → IsNew format d → AddsBatch edits d e → digest ≡ root_of (format_seen e) (after e.seen)
    → IsLastRoot digest e
begun_rooted format edits d e digest fresh a is =
    let seen : HasSeenLast d =
    subst (λ (n : ℕ). n ≤ length d.seen) (sym (ap version_made fresh.1)) (omega arith) in
    is ∙ ap (λ (h : History). root_of (format_after e.store.format h) (after h))
    (sym (just_made edits d e a seen))
