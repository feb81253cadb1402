-- The parts of a block that was begun: what each has of its origin, and of which store it is.
use Rattle.mst_parts.proofs.Names.{◌≡◌, ℕ, ◌<◌, List, [], ◌∷◌, ◌++◌, length, get_or, refl, sym, ap, ◌∙◌, arith, IsNone, length-map, Edit, Known, StoreId, Waiting, PreparesNext, Origin, passes_of, edits_of, IsStoreAt}
use Rattle.std.proofs.Common.{Option, Some, None, true≢false}
use Rattle.std.specs.Prelude.{IfSome}
use Rattle.std.proofs.lemmas.List.{get_or-map}
use Rattle.mst_shards.specs.Laid.{AreOf}
use Rattle.mst_blocks.specs.Staging.{Staged}
use Rattle.mst_blocks.specs.declared.blocks.Stage.TheVariants as stage
use Rattle.mst_shards.proofs.HandingOut.{next_at}
use Rattle.mst_shards.proofs.Owned.{next_low, next_own}

-- ---- one part

pub staged_ready : (A B : Type 0) (part : List Edit) (p : Known) (w : Waiting) → 0 < length part
    → PreparesNext part p w → Staged {A = A} {B = B} part p (stage.Ready w)
staged_ready A B [] p w some-there prepares = absurd (omega (arith, some-there))
staged_ready A B (e ∷ part) p w some-there prepares = prepares

pub unless_some : {X : Type 0} (P : X → Type 0) (o : Option X) → IsNone o → IfSome o P
unless_some P None none-there = tt
unless_some P (Some x) none-there = absurd (true≢false none-there)

-- ---- all parts

-- there is a store for the part that comes next, and its pass is of it
pub part_low : (stores : List StoreId) (all front : List Known) (left rest : List Origin)
    (o : Origin) (i : ℕ) → AreOf stores all → all ≡ front ++ passes_of left → left ≡ o ∷ rest
    → i ≡ length front → i < length stores
part_low stores all front left rest o i own is next at =
    next_low stores all front (passes_of left) (passes_of rest) o.pass i own is
    (ap passes_of next) at

pub part_own : (stores : List StoreId) (all front : List Known) (left rest : List Origin)
    (o : Origin) (i : ℕ) (s : StoreId) → AreOf stores all → all ≡ front ++ passes_of left
    → left ≡ o ∷ rest → i ≡ length front → s ≡ get_or stores i s → o.pass.store ≡ s
part_own stores all front left rest o i s own is next at there =
    next_own stores all front (passes_of left) (passes_of rest) o.pass i s own is
    (ap passes_of next) at there

-- the pass that comes next is of the store at its place
pub stands_at : (stores : List StoreId) (all front rest left : List Known) (p : Known) (i : ℕ)
    → AreOf stores all → all ≡ front ++ left → left ≡ p ∷ rest → i ≡ length front
    → IsStoreAt stores i p.store
stands_at stores all front rest left p i own is next at =
    let low = next_low stores all front left rest p i own is next at in
    let many : length stores ≡ length all = sym (ap (λ (l : List StoreId). length l) own)
    ∙ length-map all (λ (q : Known). q.store) in (
      low,
      ap (λ (q : Known). q.store)
          (sym (next_at all front rest p i p (is ∙ ap (λ (l : List Known). front ++ l) next)
          (sym at)))
          ∙ sym (get_or-map (λ (q : Known). q.store) all i p p.store (omega (arith, low, many)))
          ∙ ap (λ (l : List StoreId). get_or l i p.store) own,
    )

-- one part more
pub passes_more : (parts : List Origin) (o : Origin)
    → passes_of (parts ++ o ∷ []) ≡ passes_of parts ++ o.pass ∷ []
passes_more [] o = refl
passes_more (x ∷ parts) o = ap (λ (l : List Known). x.pass ∷ l) (passes_more parts o)

pub edits_more : (parts : List Origin) (o : Origin)
    → edits_of (parts ++ o ∷ []) ≡ edits_of parts ++ o.edits ∷ []
edits_more [] o = refl
edits_more (x ∷ parts) o = ap (λ (l : List (List Edit)). x.edits ∷ l) (edits_more parts o)
