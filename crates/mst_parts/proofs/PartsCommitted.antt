-- A block that is made of its parts, or refused: from the writer that began it to the one that is
-- laid down.
use Rattle.mst_parts.proofs.Names.{◌≡◌, ℕ, List, [], ◌∷◌, ◌++◌, length, map, refl, sym, ap, ◌∙◌, subst, OnOk, IfErr, Result, length-map, Edit, Known, StoreId, Blocks, Whole, whole, Shards, LeavesAll, Origin, Begun, begun, passes_of, edits_of, IsOf, IsBlockOf, Concludes, IsWriter, IsWriterOf, AddsBlock, RefusesBlock, HasMade, KeepStores, BlockFault, made_no_block, from_ok, from_err_of, on_ok}
use Rattle.std.specs.Prelude.{OnErr, IfOk}
use Rattle.std.specs.declared.result.Result.TheVariants.{Ok, Err}
use Rattle.mst_key.specs.History.{after}
use Rattle.mst_node.specs.Text.{root as root_of}
use Rattle.mst_store.specs.Passes.{format_seen}
use Rattle.mst_blocks.specs.Writing.{IsLastRoot}
use Rattle.mst_blocks.proofs.Blocked.{made_more_blocks, rooted_now, rooted_still, from_ok_of}
use Rattle.mst_parts.proofs.Concluded.{concluded_ok, concluded_err, concluded_writer, concluded_own}
use Rattle.mst_blocks.proofs.Kept.{store, lifted_as, either_root}

on_err : {T P Q : Type 0} (r : Result T BlockFault) → OnErr r P → (P → Q) → OnErr r Q
on_err (Ok u) left f = tt
on_err (Err fault) left f = f left

map_err : {T : Type 0} (P R : BlockFault → Type 0) (r : Result T BlockFault) → IfErr r P
    → ((fault : BlockFault) → P fault → R fault) → IfErr r R
map_err P R (Ok u) why f = tt
map_err P R (Err fault) why f = f fault why

pub from_err : {T P : Type 0} (r : Result T BlockFault) (f : BlockFault) → r ≡ Err f → OnErr r P
    → P
from_err {T} {P} r f is p = subst (λ (x : Result T BlockFault). OnErr x P) is p

module _ (s : Shards) (sp : List (List ℕ)) (os given : List Origin) (qs laid : List Known)
    (d listing e down : Known) (self : Begun) (r : Result (List ℕ) BlockFault)
    (same : sp ≡ s.splits) (as_given : given ≡ os) (as_d : listing ≡ d) (as_qs : laid ≡ qs)
    (as_e : down ≡ e) (as_self : begun s.splits os d ≡ self)
    (b : IsBlockOf s (begun s.splits os d))
    (c : Concludes sp (edits_of given) (passes_of given) qs listing e r) where
  abbrev ps : List Known
  ps = passes_of os

  abbrev was : Whole
  was = whole s.splits ps d

  abbrev made : Whole
  made = whole s.splits qs e

  abbrev now : Whole
  now = whole s.splits laid down

  here : Concludes s.splits (edits_of os) ps qs d e r
  here =
      subst (λ (x : Known). Concludes s.splits (edits_of os) ps qs x e r) as_d
      (subst (λ (l : List Origin). Concludes s.splits (edits_of l) (passes_of l) qs listing e r)
      as_given
      (subst (λ (l : List (List ℕ)). Concludes l (edits_of given) (passes_of given) qs listing e r)
      same c))

  to_now : made ≡ now
  to_now = lifted_as s.splits s.splits laid qs down e refl (sym as_qs) (sym as_e)

  as_writer : was ≡ self.writer
  as_writer = ap (λ (x : Begun). x.writer) as_self

  of_here : (edits : List Edit) → IsOf edits self → IsOf edits (begun s.splits os d)
  of_here edits of = subst (IsOf edits) (sym as_self) of

  adds : (edits : List Edit) → IsOf edits (begun s.splits os d) → OnOk r (AddsBlock edits was made)
  adds edits of =
      concluded_ok s.splits edits (edits_of os) ps qs d e r b.own.writer of.parts of.small here

  refuses : (edits : List Edit) → IsOf edits (begun s.splits os d)
      → IfErr r (λ (fault : BlockFault). RefusesBlock fault edits was made)
  refuses edits of =
      concluded_err s.splits edits (edits_of os) ps qs d e r b.own.writer of.parts of.small here

  writes : IsWriter made
  writes =
      concluded_writer s.splits b.edits (edits_of os) ps qs d e r b.own.writer b.of.parts
      b.of.small here

  keep : KeepStores ps qs d e
  keep =
      concluded_own s.splits b.edits (edits_of os) ps qs d e r b.own.writer b.of.parts
      b.of.small here

  pub parts_added : (edits : List Edit) → IsOf edits self
      → OnOk r (AddsBlock edits self.writer now)
  parts_added edits of =
      on_ok r (adds edits (of_here edits of))
      (λ (a : AddsBlock edits was made). subst (λ (x : Whole). AddsBlock edits x now) as_writer
      (subst (AddsBlock edits was) to_now a))

  pub parts_refused : (edits : List Edit) → IsOf edits self
      → IfErr r (λ (fault : BlockFault). RefusesBlock fault edits self.writer now)
  parts_refused edits of =
      map_err (λ (fault : BlockFault). RefusesBlock fault edits was made)
      (λ (fault : BlockFault). RefusesBlock fault edits self.writer now) r
      (refuses edits (of_here edits of))
      (λ fault a. subst (λ (x : Whole). RefusesBlock fault edits x now) as_writer
      (subst (RefusesBlock fault edits was) to_now a))

  pub parts_more : (edits : List Edit) → IsOf edits self
      → OnOk r ((blocks : Blocks) → HasMade blocks self.writer
      → HasMade (blocks ++ edits ∷ []) now)
  parts_more edits of =
      on_ok r (adds edits (of_here edits of))
      (λ (a : AddsBlock edits was made) blocks h. subst (HasMade (blocks ++ edits ∷ [])) to_now
      (made_more_blocks edits blocks was made b.own.writer writes a
      (subst (HasMade blocks) (sym as_writer) h)))

  pub parts_same : OnErr r ((blocks : Blocks) → HasMade blocks self.writer → HasMade blocks now)
  parts_same =
      on_err r here.err
      (λ (left : LeavesAll ps qs d e) blocks h. subst (HasMade blocks) to_now
      (made_no_block blocks s.splits ps qs d e b.own.writer left
      (subst (HasMade blocks) (sym as_writer) h)))

  pub parts_writer : IsWriterOf s now
  parts_writer = record {
    own = ap (map store) as_qs ∙ keep.0 ∙ b.own.own;
    directory = ap store as_e ∙ keep.1 ∙ b.own.directory;
    writer = subst IsWriter to_now writes;
  }

  parts_rooted : (digest : List ℕ) → r ≡ Ok digest
      → IfOk r (λ (x : List ℕ). x ≡ root_of (format_seen e) (after e.seen))
      → IsLastRoot digest down
  parts_rooted digest is rooted =
      subst (IsLastRoot digest) (sym as_e)
      (rooted_now b.edits was made digest b.own.writer
      (from_ok r digest is (adds b.edits b.of))
      (from_ok_of (λ (x : List ℕ). x ≡ root_of (format_seen e) (after e.seen)) r digest is rooted))

  parts_still : (digest : List ℕ) (fault : BlockFault) → r ≡ Err fault → IsLastRoot digest d
      → IsLastRoot digest down
  parts_still digest fault is rooted =
      subst (IsLastRoot digest) (sym as_e)
      (rooted_still fault b.edits was made digest b.own.writer
      (from_err_of (λ (f : BlockFault). RefusesBlock f b.edits was made) r fault is
      (refuses b.edits b.of)) rooted)

  pub parts_last_root : (digest before : List ℕ) → IfOk r (λ (x : List ℕ). digest ≡ x)
      → OnErr r (digest ≡ before)
      → IfOk r (λ (x : List ℕ). x ≡ root_of (format_seen e) (after e.seen)) → IsLastRoot before d
      → IsLastRoot digest down
  parts_last_root digest before made same rooted was =
      either_root (λ (x : List ℕ). IsLastRoot x down) r digest before made same
      (λ x is. parts_rooted x is rooted) (λ fault is. parts_still before fault is was)

  -- as many passes as parts
  pub parts_count : length qs ≡ length os
  parts_count =
      sym (length-map qs store) ∙ ap (λ (l : List StoreId). length l) keep.0
      ∙ length-map ps store ∙ length-map os (λ (o : Origin). o.pass)
