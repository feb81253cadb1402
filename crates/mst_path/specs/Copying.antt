-- Entries that are copied from the nodes of a tree into a node that is being written.
use Rattle.mst_key.specs.declared.format.Format.{Format}
use Rattle.std.specs.Prelude.{◌≡◌, ◌≤◌, ◌+◌, ℕ, List, ◌++◌, length}
use Rattle.mst_arena.specs.Content.{Content}
use Rattle.mst_arena.specs.Lives.{State}
use Rattle.mst_arena.specs.Lists.{In, times}
use Rattle.mst_path.specs.Takes.{KeepsBut}
use Rattle.mst_path.specs.Moves.{IsAlive, IsNew, Moves}
use Rattle.mst_path.specs.Made.{AreMade}
use Rattle.mst_path.specs.Runs.{RunStands, own, gaps_used, AreCopies}
use Rattle.mst_path.specs.Writing.{PlacedEntry, entries_used, ahead, IsWritten}
use Rattle.mst_path.specs.declared.node_writer.NodeWriter.{NodeWriter}

-- These entries are written, in new rows: their rows and those of the trees before them are alive,
-- no row twice, and the row for the next entry is a new one and none of them.
pub record Going {A : Type 0} (format : Format) (w : NodeWriter A) (content : Content) (s : State)
    (ws : List PlacedEntry) : Type 0 where
  pub written : IsWritten format w content ws
  pub once : (r : ℕ) → times r (ahead w.next) + times r (entries_used ws) ≤ 1
  pub alive : (r : ℕ) → In r (entries_used ws) → IsAlive s r
  pub made : AreMade s ws
  pub new : (r : ℕ) → In r (ahead w.next) → IsNew s r

-- So many entries from a link on are to be copied after those that are written, and no row stands
-- twice in all of them.
pub record Copying {A : Type 0} (format : Format) (w : NodeWriter A) (content : Content) (s : State)
    (link count : ℕ) : Type 0 where
  pub behind : ℕ
  pub es : List PlacedEntry
  pub ws : List PlacedEntry
  pub run : RunStands format content s link count behind es
  pub going : Going format w content s ws
  pub once : (r : ℕ) → times r (entries_used ws) + times r (own es) + times r (gaps_used es) ≤ 1

-- The entries are copied: their rows were killed, and the copies were written into rows that were
-- taken.
pub record Copied {A : Type 0} (format : Format) (w w' : NodeWriter A) (c c' : Content)
    (s s' : State)
    (ws es : List PlacedEntry) : Type 0 where
  pub copies : List PlacedEntry
  pub same : AreCopies copies es
  pub going : Going format w' c' s' (ws ++ copies)
  pub taken : List ℕ
  pub moves : Moves s s' taken (own es)
  pub keeps : KeepsBut (ahead w.next ++ taken) c c'
  pub rows : (r : ℕ)
      → times r (own copies) + times r (ahead w'.next) ≡ times r (ahead w.next) + times r taken
  pub counted : length taken + length (ahead w.next) ≡ length es + length (ahead w'.next)
