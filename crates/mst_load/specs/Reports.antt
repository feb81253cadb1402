-- What a load says of the history that its workers made.
use Rattle.std.specs.Prelude.{◌≡◌, ℕ, ◌+◌, ◌*◌, ◌<◌, List, length, get_or, All}
use Rattle.mst_key.specs.History.{History, after, events_of, IsPrefix}
use Rattle.mst_key.specs.declared.format.Format.TheVariants.{One}
use Rattle.mst_node.specs.Text as text
use Rattle.mst_store.specs.Passes.{Known}
use Rattle.mst_store.specs.Settling.{IsOfOne, AreAllPasses}
use Rattle.mst_load.specs.Calls.{map_left}
use Rattle.mst_load.specs.Workers.{HasAllCalls}
use Rattle.mst_load.specs.declared.engine.Report.{Report}

-- the number of events and the root digest are those of some history
abbrev pub IsOneVersion : ℕ → List ℕ → Type 0
IsOneVersion events root = (h : History) × (events ≡ length h) × (root ≡ text.root One (after h))

-- The number of events and the root digest are those of the one history at which these passes
-- settled. It begins with all that each of them had seen, each one's events in it are its own, and
-- it has no events but theirs
pub record IsSettled (passes : List Known) (events : ℕ) (root : List ℕ) : Type 0 where
  pub log : History
  pub later : All (λ p. IsPrefix p.seen log) passes
  pub own : All (λ p. events_of p.number log ≡ p.mine) passes
  pub alone : All (IsOfOne passes) log
  pub events_is : events ≡ length log
  pub root_is : root ≡ text.root One (after log)

-- The same of all passes of one store of 32,768 rows, opened in format 1, when each has made all
-- calls of its worker. There are `count` of them, in the order of their numbers from 1
pub record HasSettled (count writers calls events : ℕ) (root : List ℕ) : Type 0 where
  pub passes : List Known
  pub all : AreAllPasses passes
  pub count_is : length passes ≡ count
  pub numbered : (k : ℕ) (d : Known) → k < length passes → (get_or passes k d).number ≡ k + 1
  pub rows : All (λ p. p.store.rows ≡ 32768) passes
  pub format : All (λ p. p.store.format ≡ One) passes
  pub worked : All (HasAllCalls writers calls) passes
  pub settled : IsSettled passes events root

-- The report of a load with this many writers, each of which makes this many calls. No version
-- fell, there are as many events as calls of writers, and the root digest is that of the map which
-- these calls leave. That digest is built a second time from the map's pairs
pub record IsReportOf (writers calls : ℕ) (report : Report) : Type 0 where
  pub never : report.falls ≡ 0
  pub version : IsOneVersion report.events report.root
  pub all : report.events ≡ writers * calls
  pub built : report.built ≡ text.root One (map_left writers calls)
  pub whole : report.root ≡ report.built
