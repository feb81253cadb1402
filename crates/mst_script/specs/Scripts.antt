-- A script over the passes of a store.
use Rattle.std.specs.Prelude.{ℕ, ◌+◌, ◌<◌, List}
use Rattle.mst_key.specs.History.{History}
use Rattle.mst_store.specs.Passes.{StoreId, Known}
use Rattle.mst_lines.specs.Runs.{Ran, Stopped}
use Rattle.mst_script.specs.Machine.{Machine, Line, with_no_pins}
use Rattle.mst_script.specs.Serving.{Gathers, AllSaw}
use Rattle.mst_script.specs.declared.script.RunFault.{RunFault}
use Rattle.mst_script.specs.declared.script.RunFault.TheVariants.{Memory, Device}

-- what holds where a run was refused memory
abbrev pub OnMemory : RunFault → Type 0 → Type 0
OnMemory (Memory refused) holds = holds
OnMemory Device holds = Unit {0}

-- a read or a write has failed since
abbrev pub HasFailed : {S W : Type 0} → (S → ℕ) → (W → ℕ) → S → W → S → W → Type 0
HasFailed reads writes s w t x = reads s + writes w < reads t + writes x

-- The source gave a script, and the sink took what the machine answers its lines, from a history on
-- that the passes had made and with nothing pinned; all passes have then seen the machine's last
-- history.
pub record RanScript {S W : Type 0} (gives : S → List ℕ → S → Type 0)
    (takes : W → List ℕ → W → Type 0) (store : StoreId)
    (s : S) (w : W) (ps : List Known) (t : S) (x : W) (qs : List Known) : Type 0 where
  pub start : History
  pub begun : Gathers start ps
  pub last : Machine
  pub ran : Ran gives takes (Line store) s w (with_no_pins start) t x last
  pub seen : AllSaw last.history qs

-- The same, where a device failed.
pub record StoppedScript {S W : Type 0} (gives : S → List ℕ → S → Type 0)
    (takes : W → List ℕ → W → Type 0) (failures : W → ℕ) (store : StoreId)
    (s : S) (w : W) (ps : List Known) (t : S) (x : W) (qs : List Known) : Type 0 where
  pub start : History
  pub begun : Gathers start ps
  pub last : Machine
  pub stopped : Stopped gives takes failures (Line store) s w (with_no_pins start) t x last
  pub seen : AllSaw last.history qs
