-- Which operation of the one order each call of a pass is, and what its contract says of it. By
-- `call_laws` that is enough for an honest call.
--
-- Writes are `try_put`, `put`, `try_remove`, `remove`, `try_apply`, `apply`, `try_migrate` and, of
-- a prepared batch, `publish` and `reveal`; one that returns an error is `refused`, and so is a
-- `prepare` that does. Reads are `get`, `next`, `range`, `len`, `format`, `root`, `prove`, of a
-- pass and of a pinned one, `version`, `has_seen`, `rows` and, of a prepared batch, `found`.
--
-- All others are `silent`, and their answers are not judged by the map: `number` and `made` tell of
-- the pass; `free_rows`, `pinned_versions`, and a `rows` that found a version pinned, of what
-- readers hold (where none was, `free_rows` is `counted` with the other rows of the store);
-- `Prepared::root` of a map that nobody sees yet; a range or a proof that was refused memory, and a
-- count or a list of versions that was `Busy`, tell nothing. So are `pin`, `unpin`, `prepare`,
-- `cancel`, `close`, `lay`, `lift`, `meet` and `settle`. Nor is it judged why a change was refused.
use Rattle.std.specs.Prelude.{◌≡◌, ◌⊎◌, ◌↔◌, ℕ, ◌+◌, ◌≤◌, true, List, length}
use Rattle.mst_key.specs.declared.format.Format.{Format}
use Rattle.mst_key.specs.declared.history.Change.{Change}
use Rattle.mst_key.specs.declared.history.Change.TheVariants.{Put, Remove, Migrate, Batch}
use Rattle.mst_key.specs.Map.{Pair, map_get, map_next, map_range}
use Rattle.mst_key.specs.History.{History, Reply, done, after, events_of, IsPrefix}
use Rattle.mst_node.specs.Text as text
use Rattle.mst_node.specs.Trail.{proof_text}
use Rattle.mst_versions.specs.declared.faults.WriteFault.{WriteFault}
use Rattle.mst_batching.specs.declared.faults.ApplyFault.{ApplyFault}
use Rattle.mst_versions.specs.declared.faults.MigrateFault.{MigrateFault}
use Rattle.mst_versions.specs.Migrating.{RefusesMigration}
use Rattle.mst_batching.specs.Applying.{RefusesBatch}
use Rattle.mst_versions.specs.Writes.{rows_of}
use Rattle.mst_store.specs.declared.faults.ChangeFault.{ChangeFault}
use Rattle.mst_store.specs.declared.faults.BatchFault.{BatchFault}
use Rattle.mst_store.specs.Passes.{Known, format_seen, having_asked, made_by, Looks, FindsBusy, Answers, Wrote, Refuses}
use Rattle.mst_store.specs.Preparing.{published}
use Rattle.mst_store.specs.Settling.{having_seen}
use Rattle.mst_store.specs.Waiting.{WroteAfter, RefusesAfter, RefusesBatchAfter}
use Rattle.mst_theorem.specs.Headline.{Operation, Reading, wrote, read, got, came_next, ranged, told_format, told_root, proved, told_len, told_version, has_seen, counted, refused, silent}

-- a read of a pass, or of a pinned one, which sees nothing new
abbrev pub Reads : {R : Type 0} → (Format → List Pair → R) → Known → R → Known → Type 0
Reads question p found q = Answers question p found q
    ⊎ ((q ≡ p) × (found ≡ question (format_seen p) (after p.seen)))

-- why a migration or a batch was refused
abbrev pub IsRefusedMore : Change → Known → Known → Type 0
IsRefusedMore (Put k v) p q = ⊥
IsRefusedMore (Remove k) p q = ⊥
IsRefusedMore (Migrate to) p q = (fault : MigrateFault) × RefusesMigration fault to p q
IsRefusedMore (Batch es) p q = ((fault : ApplyFault) × RefusesBatch fault es p q)
    ⊎ ((fault : BatchFault) × RefusesBatchAfter fault es p q)

-- a change was refused, by a call that tries once or by one that waits
abbrev pub IsRefused : Change → Known → Known → Type 0
IsRefused change p q = ((fault : WriteFault) × Refuses fault change p q)
    ⊎ (((fault : ChangeFault) × RefusesAfter fault change p q)
    ⊎ IsRefusedMore change p q)

-- the pass has met others, or heard a note
pub record Hears (p q : Known) : Type 0 where
  pub log : History
  pub now : q ≡ having_seen log p
  pub later : IsPrefix p.seen log
  pub own : events_of p.number log ≡ p.mine

-- the pass looked or was refused, pinned or unpinned, met others, or was only asked
abbrev pub IsSilent : Known → Known → Type 0
IsSilent p q = Looks p q ⊎ (FindsBusy p q ⊎ (Hears p q
    ⊎ (((n : ℕ) × (q ≡ having_asked n p)) ⊎ (q ≡ p))))

abbrev pub Says : Reading → Known → Known → Type 0
Says (got k found) p q = Reads (λ _ m. map_get m k) p found q
Says (came_next bound found) p q = Reads (λ _ m. map_next m bound) p found q
Says (ranged from to limit found) p q = Reads (λ _ m. map_range m from to limit) p found q
Says (told_format found) p q = Reads (λ f _. f) p found q
Says (told_root digest) p q = Reads text.root p digest q
Says (proved k proof) p q = Reads (λ f m. proof_text f m k) p proof q
Says (told_len number) p q = Reads (λ _ m. length m) p number q
Says (told_version number) p q = (Looks p q ⊎ (q ≡ p)) × (number ≡ length q.seen)
Says (has_seen number answer) p q = Looks p q × ((answer ≡ true) ↔ (number ≤ length q.seen))
Says (counted rows) p q = Looks p q × ((rows ≡ rows_of (format_seen q) (after q.seen))
    ⊎ ((free : ℕ) × (free + rows ≡ q.store.rows)
    × (free + rows_of (format_seen q) (after q.seen) ≡ q.store.rows)))
Says (refused change) p q = IsRefused change p q
Says silent p q = IsSilent p q

-- a prepared batch was published
abbrev pub IsPublished : Change → Known → Reply → Known → Type 0
IsPublished (Put k v) p answered q = ⊥
IsPublished (Remove k) p answered q = ⊥
IsPublished (Migrate to) p answered q = ⊥
IsPublished (Batch es) p answered q = (q ≡ published es p) × (answered ≡ done)

-- what the contract of a call says: of a write that tries once, of one that waits, and of a batch
-- that was prepared; and of any other call
abbrev pub ByContract : Operation → Known → Known → Type 0
ByContract (wrote change answered) p q = Wrote (made_by p change) p answered q
    ⊎ (WroteAfter (made_by p change) p answered q ⊎ IsPublished change p answered q)
ByContract (read reading) p q = Says reading p q
