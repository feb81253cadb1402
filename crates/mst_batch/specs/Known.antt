-- Entries of a plan that stand already: which pair a row has.
use Rattle.std.specs.Prelude.{◌≡◌, ℕ, Some, List, [], ◌∷◌, ◌++◌}
use Rattle.std.specs.List.{AllByRecursion}
use Rattle.std.specs.declared.boxed.Box.{Box}
use Rattle.mst_key.specs.declared.format.Format.{Format}
use Rattle.mst_key.specs.Map.{Pair}
use Rattle.mst_arena.specs.Content.{Content, part_at}
use Rattle.mst_arena.specs.Row.{entry_pair}
use Rattle.mst_arena.specs.Lives.{State}
use Rattle.mst_arena.specs.Standing.{Placed, rows_of, HasRows}
use Rattle.mst_path.specs.Runs.{OldPiece}
use Rattle.mst_batch.specs.declared.plan.Origin.{Origin}
use Rattle.mst_batch.specs.declared.plan.Origin.TheVariants.{Unknown, Kept, Changed}
use Rattle.mst_batch.specs.declared.plan.Plan.{Plan}
use Rattle.mst_batch.specs.declared.plan.Plan.TheVariants as plan
use Rattle.mst_batch.specs.declared.plan.PlanNode.{PlanNode}
use Rattle.mst_batch.specs.declared.plan.PlanEntry.{PlanEntry}
use Rattle.mst_batch.specs.declared.plan.PlanEntry.TheOpen.{PlanEntry-F, PlanNode-F}
use Rattle.mst_batch.specs.declared.plan.PlanEntry.TheFolds.{fold-PlanNode, fold-PlanEntry}

-- wherever the rows of the tree stand, this one is an entry of the pair
abbrev pub IsEntryOf : Format → Placed → ℕ → Pair → Type 0
IsEntryOf format whole row pair = (content : Content) → HasRows content (rows_of format whole)
    → part_at entry_pair content row ≡ Some pair

-- ---- the rows that a plan names, each with the pair that it is to have

abbrev pub Known : Type 0
Known = ℕ × Pair

abbrev pub own_known : Origin → Pair → List Known
own_known Unknown pair = []
own_known (Kept row) pair = (row, pair) ∷ []
own_known (Changed row) pair = []

abbrev pub boxed_known : (A : Type 0) → Plan (Box (List Known) A) → List Known
boxed_known A (plan.Kept link) = []
boxed_known A (plan.Made b) = b.value

abbrev pub all_known : List (List Known) → List Known
all_known [] = []
all_known (ks ∷ kss) = ks ++ all_known kss

abbrev pub entry_known_step : (A : Type 0) → PlanEntry-F A (List Known) (List Known) → List Known
entry_known_step A e = boxed_known A e.child ++ own_known e.origin (e.key, e.value)

abbrev pub node_known_step : (A : Type 0) → PlanNode-F A (List Known) (List Known) → List Known
node_known_step A n = all_known n.entries.items ++ boxed_known A n.tail

abbrev pub known_of_node : {A : Type 0} → PlanNode A → List Known
known_of_node {A} n =
    fold-PlanNode A (List Known) (List Known) (entry_known_step A) (node_known_step A) n

abbrev pub known_of_entry : {A : Type 0} → PlanEntry A → List Known
known_of_entry {A} e =
    fold-PlanEntry A (List Known) (List Known) (entry_known_step A) (node_known_step A) e

abbrev pub known_of : {A : Type 0} → Plan (Box (PlanNode A) A) → List Known
known_of (plan.Kept link) = []
known_of (plan.Made b) = known_of_node b.value

-- the tree that stands has each of these pairs in its row
abbrev pub AreKnown : Format → Placed → List Known → Type 0
AreKnown format whole known = AllByRecursion (λ k. IsEntryOf format whole k.0 k.1) known

-- each row has its pair
abbrev pub AreThere : Content → List Known → Type 0
AreThere content known = AllByRecursion (λ k. part_at entry_pair content k.0 ≡ Some k.1) known

-- a tree of the current version stands that has each of these pairs in its row
pub record HasKnown (content : Content) (s : State) (known : List Known) : Type 0 where
  pub format : Format
  pub whole : Placed
  pub stands : OldPiece format content s whole
  pub each : AreKnown format whole known

-- a pair that is kept is that of the entry in its row
abbrev pub IsThere : Content → Pair → Origin → Type 0
IsThere content pair Unknown = Unit {0}
IsThere content pair (Kept row) = part_at entry_pair content row ≡ Some pair
IsThere content pair (Changed row) = Unit {0}
