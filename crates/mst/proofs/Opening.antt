-- A script over a new sharded map.
use Rattle.std.proofs.Common.{◌≡◌, ℕ, List, Some, sym, subst, ◌∙◌}
use Rattle.std.proofs.lemmas.Option.{same_Some}
use Rattle.mst_words.specs.declared.view.Shape.{Shape}
use Rattle.mst_lines.specs.Runs.{Ran, Stopped}
use Rattle.mst_shards.specs.Sharding.{IsSplits}
use Rattle.mst_sharded_script.specs.States.{ScriptState}
use Rattle.mst_sharded_script.specs.Serving.{Serves}
use Rattle.mst.specs.Tasks.{IsOpened, RanSharded, BrokeSharded, SpellsBadSplits}
use Rattle.mst_command.specs.Splits.{splits_of}

-- a word spells no other splits than these
pub bad_splits : (word : List ℕ) (splits : List (List ℕ)) → splits_of word ≡ Some splits
    → ¬ (IsSplits splits) → SpellsBadSplits word
bad_splits word splits spelt bad others is =
    subst (λ (s : List (List ℕ)). ¬ (IsSplits s)) (same_Some splits others (sym spelt ∙ is)) bad

-- ---- its run

pub ran_sharded : {S W : Type 0} (gives : S → List ℕ → S → Type 0)
    (takes : W → List ℕ → W → Type 0) (shape : Shape) (word : List ℕ) (first : ScriptState)
    (s t : S) (w x : W) → IsOpened shape word first
    → (last : ScriptState) × Ran gives takes Serves s w first t x last
    → RanSharded gives takes shape word s w t x
ran_sharded gives takes shape word first s t w x o r =
    record { first = first; opened = o; last = r.0; ran = r.1 }

pub broke_sharded : {S W : Type 0} (gives : S → List ℕ → S → Type 0)
    (takes : W → List ℕ → W → Type 0) (failures : W → ℕ) (shape : Shape) (word : List ℕ)
    (first : ScriptState) (s t : S) (w x : W) → IsOpened shape word first
    → (last : ScriptState) × Stopped gives takes failures Serves s w first t x last
    → BrokeSharded gives takes failures shape word s w t x
broke_sharded gives takes failures shape word first s t w x o r =
    record { first = first; opened = o; last = r.0; stopped = r.1 }
