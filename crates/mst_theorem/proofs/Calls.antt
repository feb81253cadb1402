-- What each call leaves of its pass follows from what its contract says.
use Rattle.mst_theorem.proofs.Names.{◌≡◌, ◌⊎◌, ℕ, ◌+◌, List, [], ◌∷◌, ◌++◌, length, refl, sym, ap, ◌∙◌, subst, ⊎_elim, arith, Format, Change, Put, Event, Pair, map_get, History, Reply, after, IsPrefix-itself, events_own, WriteFault, Known, made_by, Looks, Answers, Wrote, Refuses, Reading, Operation, got, has_seen, refused, wrote, read, left_by, IsTold, Stays, Adds, IsHonest}
use Rattle.mst_key.specs.declared.history.Change.TheVariants.{Remove, Migrate, Batch}
use Rattle.mst_key.specs.declared.history.Edit.{Edit}
use Rattle.mst_key.specs.Map.{map_next, map_range}
use Rattle.mst_key.specs.History.{format_after}
use Rattle.mst_node.specs.Text as text
use Rattle.mst_node.specs.Trail.{proof_text}
use Rattle.mst_versions.specs.declared.faults.WriteFault.TheVariants as write
use Rattle.mst_batching.specs.declared.faults.ApplyFault.{ApplyFault}
use Rattle.mst_batching.specs.declared.faults.ApplyFault.TheVariants as apply
use Rattle.mst_versions.specs.declared.faults.MigrateFault.{MigrateFault}
use Rattle.mst_versions.specs.declared.faults.MigrateFault.TheVariants as migrate
use Rattle.mst_versions.specs.Migrating.{RefusesMigration}
use Rattle.mst_batching.specs.Applying.{RefusesBatch}
use Rattle.mst_versions.specs.Writes.{rows_of}
use Rattle.mst_store.specs.declared.faults.ChangeFault.{ChangeFault}
use Rattle.mst_store.specs.declared.faults.BatchFault.{BatchFault}
use Rattle.mst_store.specs.Passes.{having_asked, having_missed, format_seen, FindsBusy}
use Rattle.mst_store.specs.Waiting.{WroteAfter, RefusesAfter, RefusesBatchAfter, as_tried, as_tried_batch}
use Rattle.mst_theorem.specs.Headline.{came_next, ranged, told_format, told_root, proved, told_len, told_version, counted, silent}
use Rattle.mst_theorem.specs.ByContract.{Reads, IsRefused, IsRefusedMore, Hears, IsSilent, Says, IsPublished, ByContract}

looks_stays : (p q : Known) → Looks p q → Stays p q
looks_stays p q l = record {
  store = l.same.0;
  number = l.same.1;
  later = l.later;
  mine = l.mine;
  own = λ _. l.own;
}

itself_stays : (p : Known) → Stays p p
itself_stays p = record {
  store = refl;
  number = refl;
  later = IsPrefix-itself p.seen;
  mine = refl;
  own = λ o. o;
}

same_stays : (p q : Known) → q ≡ p → Stays p q
same_stays p q is = subst (λ (z : Known). Stays p z) (sym is) (itself_stays p)

asked_stays : (n : ℕ) (p : Known) → Stays p (having_asked n p)
asked_stays n p = record {
  store = refl;
  number = refl;
  later = IsPrefix-itself p.seen;
  mine = refl;
  own = λ o. o;
}

missed_stays : (n : ℕ) (p : Known) → Stays p (having_missed n p)
missed_stays n p = record {
  store = refl;
  number = refl;
  later = IsPrefix-itself p.seen;
  mine = refl;
  own = λ o. o;
}

busy_stays : (p q : Known) → FindsBusy p q → Stays p q
busy_stays p q b = subst (λ (z : Known). Stays p z) (sym b.0) (missed_stays 1 p)

-- tries in vain change nothing of this
after_missed : (n : ℕ) (p q : Known) → Stays (having_missed n p) q → Stays p q
after_missed n p q s = record {
  store = s.store;
  number = s.number;
  later = s.later;
  mine = s.mine;
  own = s.own;
}

refuses_stays : (fault : WriteFault) (change : Change) (p q : Known) → Refuses fault change p q
    → Stays p q
refuses_stays write.Busy change p q r = busy_stays p q r
refuses_stays write.VersionsSpent change p q r = looks_stays p q r.0
refuses_stays write.NoRoom change p q r = looks_stays p q r.0

after_stays : (fault : ChangeFault) (change : Change) (p q : Known)
    → RefusesAfter fault change p q → Stays p q
after_stays fault change p q r = after_missed r.tries p q
    (refuses_stays (as_tried fault) change (having_missed r.tries p) q r.refused)

migration_stays : (fault : MigrateFault) (to : Format) (p q : Known)
    → RefusesMigration fault to p q → Stays p q
migration_stays migrate.Busy to p q r = refuses_stays write.Busy (Migrate to) p q r
migration_stays migrate.VersionsSpent to p q r =
    refuses_stays write.VersionsSpent (Migrate to) p q r
migration_stays (migrate.Memory why) to p q r = looks_stays p q r.0
migration_stays migrate.NoRoom to p q r = refuses_stays write.NoRoom (Migrate to) p q r.0

batch_stays : (fault : ApplyFault) (es : List Edit) (p q : Known) → RefusesBatch fault es p q
    → Stays p q
batch_stays apply.Busy es p q r = refuses_stays write.Busy (Batch es) p q r
batch_stays apply.VersionsSpent es p q r = refuses_stays write.VersionsSpent (Batch es) p q r
batch_stays (apply.Memory why) es p q r = looks_stays p q r.0
batch_stays apply.NoRoom es p q r = refuses_stays write.NoRoom (Batch es) p q r

batch_after_stays : (fault : BatchFault) (es : List Edit) (p q : Known)
    → RefusesBatchAfter fault es p q → Stays p q
batch_after_stays fault es p q r = after_missed r.tries p q
    (batch_stays (as_tried_batch fault) es (having_missed r.tries p) q r.refused)

more_stays : (change : Change) (p q : Known) → IsRefusedMore change p q → Stays p q
more_stays (Put k v) p q r = absurd r
more_stays (Remove k) p q r = absurd r
more_stays (Migrate to) p q r = migration_stays r.0 to p q r.1
more_stays (Batch es) p q r = ⊎_elim
    (λ (x : (fault : ApplyFault) × RefusesBatch fault es p q). batch_stays x.0 es p q x.1)
    (λ (x : (fault : BatchFault) × RefusesBatchAfter fault es p q). batch_after_stays x.0 es p q
    x.1) r

refused_stays : (change : Change) (p q : Known) → IsRefused change p q → Stays p q
refused_stays change p q r = ⊎_elim
    (λ (x : (fault : WriteFault) × Refuses fault change p q). refuses_stays x.0 change p q x.1)
    (λ (y : ((fault : ChangeFault) × RefusesAfter fault change p q) ⊎ IsRefusedMore change p q).
    ⊎_elim
    (λ (x : (fault : ChangeFault) × RefusesAfter fault change p q). after_stays x.0 change p q x.1)
    (λ (x : IsRefusedMore change p q). more_stays change p q x) y) r

hears_stays : (p q : Known) → Hears p q → Stays p q
hears_stays p q h = subst (λ (z : Known). Stays p z) (sym h.now) record {
  store = refl;
  number = refl;
  later = h.later;
  mine = refl;
  own = λ _. h.own;
}

silent_stays : (p q : Known) → IsSilent p q → Stays p q
silent_stays p q s = ⊎_elim (λ (x : Looks p q). looks_stays p q x)
    (λ (y : FindsBusy p q ⊎ (Hears p q ⊎ (((n : ℕ) × (q ≡ having_asked n p)) ⊎ (q ≡ p)))). ⊎_elim
    (λ (x : FindsBusy p q). busy_stays p q x)
    (λ (z : Hears p q ⊎ (((n : ℕ) × (q ≡ having_asked n p)) ⊎ (q ≡ p))). ⊎_elim
    (λ (x : Hears p q). hears_stays p q x)
    (λ (w : ((n : ℕ) × (q ≡ having_asked n p)) ⊎ (q ≡ p)). ⊎_elim
    (λ (x : (n : ℕ) × (q ≡ having_asked n p)). subst (λ (k : Known). Stays p k) (sym x.1)
    (asked_stays x.0 p))
    (λ (x : q ≡ p). same_stays p q x) w) z) y) s

-- a read answers what it asks of the map at its place
reads : {R : Type 0} (question : Format → List Pair → R) (p : Known) (found : R) (q : Known)
    → Reads question p found q
    → Stays p q × (found ≡ question (format_after q.store.format q.seen) (after q.seen))
reads question p found q r = ⊎_elim
    (λ (a : Answers question p found q). (looks_stays p q a.looks, a.answer_is))
    (λ (b : (q ≡ p) × (found ≡ question (format_seen p) (after p.seen))). (
      same_stays p q b.0,
      b.1 ∙ ap (λ (z : Known). question (format_seen z) (after z.seen)) (sym b.0),
    )) r

-- the rows of the map are those that are not free
same_left : (free rows held all : ℕ) → free + rows ≡ all → free + held ≡ all → rows ≡ held
same_left free rows held all a b = omega (arith, a, b)

says : (reading : Reading) (p q : Known) → Says reading p q
    → Stays p q × IsTold (left_by q.store.format q.seen) reading
says (got k found) p q h = reads (λ _ m. map_get m k) p found q h
says (came_next bound found) p q h = reads (λ _ m. map_next m bound) p found q h
says (ranged from to limit found) p q h = reads (λ _ m. map_range m from to limit) p found q h
says (told_format found) p q h = reads (λ f _. f) p found q h
says (told_root digest) p q h = reads text.root p digest q h
says (proved k proof) p q h = reads (λ f m. proof_text f m k) p proof q h
says (told_len number) p q h = reads (λ _ m. length m) p number q h
says (told_version number) p q h =
    (⊎_elim (λ (x : Looks p q). looks_stays p q x) (λ (x : q ≡ p). same_stays p q x) h.0, h.1)
says (has_seen number answer) p q h = (looks_stays p q h.0, h.1)
says (counted rows) p q h = let held : ℕ = rows_of (format_seen q) (after q.seen) in (
  looks_stays p q h.0,
  ⊎_elim (λ (x : rows ≡ held). x)
      (λ (x : (free : ℕ) × (free + rows ≡ q.store.rows) × (free + held ≡ q.store.rows)).
      same_left x.0 rows held q.store.rows x.1 x.2) h.1,
)
says (refused change) p q h = (refused_stays change p q h, tt)
says silent p q h = (silent_stays p q h, tt)

wrote_adds : (e : Event) (p : Known) (answered : Reply) (q : Known) → Wrote e p answered q
    → Adds e answered p q
wrote_adds e p answered q w = record {
  log = w.log;
  store = w.same.0;
  number = w.same.1;
  later = w.later;
  seen = w.seen;
  mine = w.mine;
  own = λ _. w.own;
  answer = w.answer;
}

after_adds : (e : Event) (p : Known) (answered : Reply) (q : Known) → WroteAfter e p answered q
    → Adds e answered p q
after_adds e p answered q t = let w = t.wrote in record {
  log = w.log;
  store = w.same.0;
  number = w.same.1;
  later = w.later;
  seen = w.seen;
  mine = w.mine;
  own = λ _. w.own;
  answer = w.answer;
}

published_adds : (change : Change) (p : Known) (answered : Reply) (q : Known)
    → IsPublished change p answered q → Adds (made_by p change) answered p q
published_adds (Put k v) p answered q h = absurd h
published_adds (Remove k) p answered q h = absurd h
published_adds (Migrate to) p answered q h = absurd h
published_adds (Batch es) p answered q h = let e : Event = made_by p (Batch es) in
    subst (λ (z : Known). Adds e answered p z) (sym h.0) record {
      log = p.seen;
      store = refl;
      number = refl;
      later = IsPrefix-itself p.seen;
      seen = refl;
      mine = refl;
      own =
          λ o. events_own p.number p.seen e refl ∙ ap (λ (l : History). l ++ e ∷ []) o;
      answer = h.1;
    }

-- so each call is as its contract says
pub by_contract : (o : Operation) (p q : Known) → ByContract o p q → IsHonest o p q
by_contract (wrote change answered) p q h = let e : Event = made_by p change in ⊎_elim
    (λ (w : Wrote e p answered q). wrote_adds e p answered q w)
    (λ (y : WroteAfter e p answered q ⊎ IsPublished change p answered q). ⊎_elim
    (λ (w : WroteAfter e p answered q). after_adds e p answered q w)
    (λ (w : IsPublished change p answered q). published_adds change p answered q w) y) h
by_contract (read reading) p q h = says reading p q h
