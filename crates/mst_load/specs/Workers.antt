-- What a worker gives back. Each clause follows from the contracts of the pass alone, whatever
-- other threads do.
use Rattle.std.specs.Prelude.{◌≡◌, ◌⊎◌, ℕ, zero, suc, ◌+◌, ◌<◌, ◌≤◌, length, All}
use Rattle.mst_key.specs.History.{Reply, IsMigration}
use Rattle.mst_store.specs.declared.faults.ChangeFault.{ChangeFault}
use Rattle.mst_store.specs.Passes.{StoreId, Known, IsSamePass, new_pass}
use Rattle.mst_store.specs.Waiting.{WroteAfter, RefusesAfter}
use Rattle.mst_load.specs.Calls.{change_of, event_of}

-- the writer made this call: its event was added, or it was refused
abbrev pub HasPut : ℕ → Known → Known → Type 0
HasPut call p q =
    ((answered : Reply) × WroteAfter (event_of p.number call) p answered q)
    ⊎ ((fault : ChangeFault) × RefusesAfter fault (change_of p.number call) p q)

-- The writer made its first calls, this many, in their order, and no others. Each counts its steps,
-- so that none was left out: a put that was made one for each pass and three more, one refused at
-- least one
abbrev pub MadePuts : ℕ → Known → Known → Type 0
MadePuts zero p q = q ≡ p
MadePuts (suc n) p q = (r : Known) × MadePuts n p r × HasPut (suc n) r q

-- a writer has made this many calls
pub record HasWritten (calls : ℕ) (p q : Known) : Type 0 where
  pub same : IsSamePass p q
  pub puts : MadePuts calls p q

-- A reader made this many calls, each by one step whose answer depends on others, and none of them
-- an event. It has now seen no fewer events
pub record HasRead (calls : ℕ) (p q : Known) : Type 0 where
  pub same : IsSamePass p q
  pub mine : q.mine ≡ p.mine
  pub later : length p.seen ≤ length q.seen
  pub asked : q.asked ≡ p.asked + calls
  pub missed : q.missed ≡ p.missed

-- A worker has made its calls. No version that it read was below an earlier one
pub record HasWorked (writers calls : ℕ) (p q : Known) (falls : ℕ) : Type 0 where
  pub same : IsSamePass p q
  pub writes : p.number ≤ writers → HasWritten calls p q
  pub reads : writers < p.number → HasRead calls p q
  pub never : falls ≡ 0

-- the pass has made all calls of its worker, as one that had seen and done nothing
abbrev pub HasAllCalls : ℕ → ℕ → Known → Type 0
HasAllCalls writers calls p = ∥ HasWorked writers calls (new_pass p.store p.number) p 0 ∥₁

-- the pass is of the store, and has seen and done nothing
pub record IsNewOf (store : StoreId) (p : Known) : Type 0 where
  pub of_store : p.store ≡ store
  pub keeps : All (λ e. IsMigration e.change → ⊥) p.mine
  pub fresh : ∥ p ≡ new_pass p.store p.number ∥₁

-- the pass is of the store, has made all calls of its worker, and none of its events is a migration
pub record IsWorkerOf (store : StoreId) (writers calls : ℕ) (p : Known) : Type 0 where
  pub of_store : p.store ≡ store
  pub keeps : All (λ e. IsMigration e.change → ⊥) p.mine
  pub worked : HasAllCalls writers calls p
