-- From what is said at a seat to what is said of its pass.
use Rattle.mst_store.proofs.Names.{◌≡◌, ℕ, List, Option, None, sym, subst, Format, Change, Edit, events_of, Seated, ApplyFault, WriteFault, Busy, VersionsSpent, NoRoom, SeatState, RefusesBatch}
use Rattle.std.proofs.Common.{Result, Ok, Err, IfOk}
use Rattle.std.specs.Prelude.{OnErr}
use Rattle.mst_key.specs.declared.history.Change.TheVariants as change
use Rattle.mst_batching.specs.declared.faults.ApplyFault.TheVariants as apply
use Rattle.mst_versions.specs.declared.faults.MigrateFault.{MigrateFault}
use Rattle.mst_versions.specs.declared.faults.MigrateFault.TheVariants as migrate
use Rattle.mst_words.specs.Steps.{Misses}
use Rattle.mst_versions.specs.Known.{Known, known, AtSeat, Looks}
use Rattle.mst_versions.specs.Writes.{Refuses}
use Rattle.mst_versions.specs.Migrating.{RefusesMigration}

-- what holds of any version that the pass made last holds of the one that it made
pub at_made : {X E : Type 0} (r : Result X E) (Holds : X → Known → Known → Type 0) (number : ℕ)
    (s z : Seated) (made : Option ℕ) (p : Known) → known number made s ≡ p
    → IfOk r (λ x. AtSeat (Holds x) number s z) → IfOk r (λ x. Holds x p (known number made z))
at_made (Ok x) Holds number s z made p is holds =
    subst (λ (k : Known). Holds x k (known number made z)) is (holds made)
at_made (Err e) Holds number s z made p is holds = tt

-- the pass's events in what it has seen are its own, as they were, after a count or a refusal
module _ (number : ℕ) (s z : Seated) (own : events_of number s.me.0.seen ≡ s.me.0.mine) where
  pub own_counted : {X E : Type 0} (r : Result X E) (Counted : X → Known → Known → Type 0)
      → ((x : X) (p q : Known) → Counted x p q → Looks p q)
      → IfOk r (λ x. AtSeat (Counted x) number s z) → OnErr r (Misses s.me z.me)
      → events_of number z.me.0.seen ≡ z.me.0.mine
  own_counted (Ok x) Counted looks counted busy = (looks x _ _ (counted None)).own
  own_counted (Err e) Counted looks counted busy =
      subst (λ (m : SeatState). events_of number m.0.seen ≡ m.0.mine) (sym busy.is) own

  pub own_refused : (fault : WriteFault) (change : Change)
      → AtSeat (Refuses fault change) number s z → events_of number z.me.0.seen ≡ z.me.0.mine
  own_refused Busy change refused =
      subst (λ (p : Known). events_of number p.seen ≡ p.mine) (sym (refused None).0) own
  own_refused VersionsSpent change refused = (refused None).0.own
  own_refused NoRoom change refused = (refused None).0.own

  pub own_refused_batch : (fault : ApplyFault) (edits : List Edit)
      → AtSeat (RefusesBatch fault edits) number s z → events_of number z.me.0.seen ≡ z.me.0.mine
  own_refused_batch apply.Busy edits refused = own_refused Busy (change.Batch edits) refused
  own_refused_batch apply.VersionsSpent edits refused = (refused None).0.own
  own_refused_batch (apply.Memory why) edits refused = (refused None).0.own
  own_refused_batch apply.NoRoom edits refused = (refused None).0.own

  pub own_refused_move : (fault : MigrateFault) (to : Format)
      → AtSeat (RefusesMigration fault to) number s z → events_of number z.me.0.seen ≡ z.me.0.mine
  own_refused_move migrate.Busy to refused = own_refused Busy (change.Migrate to) refused
  own_refused_move migrate.VersionsSpent to refused = (refused None).0.own
  own_refused_move (migrate.Memory why) to refused = (refused None).0.own
  own_refused_move migrate.NoRoom to refused = (refused None).0.0.own
