-- A call of a pass is a turn at which the machine answers so.
use Rattle.mst_script.proofs.Names.{◌≡◌, ℕ, List, [], ◌∷◌, sym, refl, ap, ◌∙◌, subst, append-nil, inl, inr, ◌⊎◌, Option, Some, arith, Result, Ok, Err, false≢true, Change, Edit, Pair, Format, History, after, format_after, Reply, had, was, done, IsPrefix-itself, rows_of, StoreId, Known, format_seen, having_asked, Looks, text_of, line_of, reply_words, rows_words, Command, Writes, Migrates, Applies, Counts, Acts, Turn}
use Rattle.std.specs.Prelude.{IfOk, IfErr, IfSome, IsSome, OnOk, OnErr, None}
use Rattle.mst_key.specs.declared.history.Change.TheVariants.{Migrate, Batch}
use Rattle.mst_versions.specs.declared.faults.WriteFault.{WriteFault}
use Rattle.mst_versions.specs.declared.faults.WriteFault.TheVariants as write
use Rattle.mst_versions.specs.declared.faults.MigrateFault.{MigrateFault}
use Rattle.mst_versions.specs.declared.faults.MigrateFault.TheVariants as migrate
use Rattle.mst_batching.specs.declared.faults.ApplyFault.{ApplyFault}
use Rattle.mst_batching.specs.declared.faults.ApplyFault.TheVariants as apply
use Rattle.mst_batching.specs.Applying.{RefusesBatch}
use Rattle.mst_versions.specs.Migrating.{RefusesMigration}
use Rattle.mst_store.specs.Passes.{having_missed, LacksRoom, made_by, Answers, Wrote, Refuses, FindsBusy}
use Rattle.mst_requests.specs.declared.answer.Answer.{Answer}
use Rattle.mst_script.specs.Answers.{rows_answer, write_answer, migration_answer, batch_answer}
use Rattle.mst_script.specs.Machine.{LacksMemory}
use Rattle.mst_script.specs.Serving.{Asked}
use Rattle.mst_script.proofs.Gathering.{looked}

-- the pass asked, and neither saw nor did anything
idle : (n : ℕ) (p : Known) → Turn p.seen [] p (having_asked n p)
idle n p = record {
  same = (refl, refl);
  later = IsPrefix-itself p.seen;
  seen =
      sym (append-nil p.seen);
  mine = sym (append-nil p.mine);
  own = tt;
}

pub unmoved : (p : Known) → Turn p.seen [] p p
unmoved p = record {
  same = (refl, refl);
  later = IsPrefix-itself p.seen;
  seen =
      sym (append-nil p.seen);
  mine = sym (append-nil p.mine);
  own = tt;
}

pub idle_of : (n : ℕ) (p q : Known) → q ≡ having_asked n p → Turn p.seen [] p q
idle_of n p q is = subst (λ (x : Known). Turn p.seen [] p x) (sym is) (idle n p)

pub idle_seen : (n : ℕ) (p q : Known) → q ≡ having_asked n p → q.seen ≡ p.seen
idle_seen n p q is = ap (λ (x : Known). x.seen) is

-- the pass found the turn taken, and neither saw nor did anything
busy_of : (p q : Known) → q ≡ having_missed 1 p → Turn p.seen [] p q
busy_of p q is = subst (λ (x : Known). Turn p.seen [] p x) (sym is)
    (record {
      same = (refl, refl);
      later = IsPrefix-itself p.seen;
      seen = sym (append-nil p.seen);
      mine = sym (append-nil p.mine);
      own = tt;
    })

busy_seen : (p q : Known) → q ≡ having_missed 1 p → q.seen ≡ p.seen
busy_seen p q is = ap (λ (x : Known). x.seen) is

-- a call of a pass, with what it says of the machine's step
abbrev pub Calls : (Known → History → History → Type 0) → Known → Known → Type 0
Calls step p q = (log : History) × (t : History) × Turn log t p q × step p log q.seen

store_is : (p q : Known) → Looks p q → q.store ≡ p.store
store_is p q l = l.same.0

-- ---- reads

-- what the question asks of the history, of a store like this
abbrev of_history : {R : Type 0} → (Format → List Pair → R) → StoreId → History → R
of_history question store log = question (format_after store.format log) (after log)

abbrev ReadsSo : (Format → List Pair → List ℕ) → List ℕ → Known → History → History → Type 0
ReadsSo question text p log new = (text ≡ of_history question p.store log) × (new ≡ log)

pub read_found : {R : Type 0} (question : Format → List Pair → R) (words : R → List ℕ)
    (text : List ℕ) (p q : Known) (answer : R) → Answers question p answer q → text ≡ words answer
    → Calls (ReadsSo (λ f m. words (question f m)) text) p q
read_found question words text p q answer a is = (
  q.seen,
  [],
  looked p q a.looks,
  (
    is ∙ ap words a.answer_is ∙ ap (λ (s : StoreId). words (of_history question s q.seen))
        (store_is p q a.looks),
    refl,
  ),
)

-- ---- reads that take memory

abbrev CollectsSo : (Format → List Pair → List ℕ) → List ℕ → Known → History → History → Type 0
CollectsSo question text p log new = ((text ≡ of_history question p.store log) ⊎ LacksMemory text)
    × (new ≡ log)

pub collected : (question : Format → List Pair → List ℕ) (text : List ℕ) (p q : Known) → Looks p q
    → (text ≡ question (format_seen q) (after q.seen)) ⊎ LacksMemory text
    → Calls (CollectsSo question text) p q
collected question text p q l is = (
  q.seen,
  [],
  looked p q l,
  (
    subst (λ (s : StoreId). (text ≡ of_history question s q.seen) ⊎ LacksMemory text)
        (store_is p q l) is,
    refl,
  ),
)

pub missed : (question : Format → List Pair → List ℕ) (text : List ℕ) (p q : Known)
    → q ≡ having_asked 1 p → LacksMemory text → Calls (CollectsSo question text) p q
missed question text p q same is = (p.seen, [], idle_of 1 p q same, (inr is, idle_seen 1 p q same))

-- ---- the count of rows

abbrev CountsSo : List ℕ → Known → History → History → Type 0
CountsSo text p log new = Counts p.store log text new

pub counted : {A E : Type 0} (p q : Known) (r : Result (Option ℕ) E) (a : Answer A)
    → a ≡ rows_answer r → OnOk r (Looks p q) →
    IfOk r (λ found. IfSome found (λ n. n ≡ rows_of (format_seen q) (after q.seen)))
    → IfOk r (λ found. p.store.passes ≡ 1 → IsSome found) → OnErr r (FindsBusy p q)
    → Calls (CountsSo (text_of a)) p q
counted p q (Ok (Some n)) a is looks some alone busy = (
  q.seen,
  [],
  looked p q looks,
  (
    inl (ap text_of is ∙ ap (λ (x : ℕ). line_of (rows_words (Some x)))
        (some ∙ ap (λ (s : StoreId). of_history rows_of s q.seen) (store_is p q looks))),
    refl,
  ),
)
counted p q (Ok None) a is looks some alone busy =
    (q.seen, [], looked p q looks, (inr (inr (ap text_of is, λ one. false≢true (alone one))), refl))
counted p q (Err e) a is looks some alone busy =
    (p.seen, [], busy_of p q busy.0, (inr (inl (ap text_of is, busy.1)), busy_seen p q busy.0))

-- ---- writes

abbrev WritesSo : Change → List ℕ → Known → History → History → Type 0
WritesSo change text p log new = Writes p.store p.number change log text new

lacks_there : (change : Change) (p q : Known) → Looks p q
    → (p.store.passes ≡ 1 → LacksRoom q.store.rows (format_seen q) (after q.seen) change)
    → p.store.passes ≡ 1 → LacksRoom p.store.rows (format_after p.store.format q.seen)
    (after q.seen) change
lacks_there change p q l lacks one =
    subst (λ (s : StoreId). LacksRoom s.rows (format_after s.format q.seen) (after q.seen) change)
    (store_is p q l) (lacks one)

pub written : {A : Type 0} (change : Change) (p q : Known) (r : Result (Option (List ℕ)) WriteFault)
    (a : Answer A) → a ≡ write_answer r →
    IfOk r (λ old. Wrote (made_by p change) p (had old) q)
    → IfErr r (λ fault. Refuses fault change p q) → Calls (WritesSo change (text_of a)) p q
written change p q (Ok old) a is ok err = (
  ok.log,
  made_by p change ∷ [],
  record { same = ok.same; later = ok.later; seen = ok.seen; mine = ok.mine; own = (refl, tt) },
  inl (record {
    answer = ap text_of is ∙ ap (λ (x : Reply). line_of (reply_words x)) ok.answer;
    added = ok.seen;
    numbered = ok.numbered;
    room = ok.room;
  }),
)
written change p q (Err write.Busy) a is ok err =
    (p.seen, [], busy_of p q err.0, inr (inl (ap text_of is, err.1), busy_seen p q err.0))
written change p q (Err write.VersionsSpent) a is ok err =
    (q.seen, [], looked p q err.0, inr (inr (inl (ap text_of is, err.1)), refl))
written change p q (Err write.NoRoom) a is ok err = (
  q.seen,
  [],
  looked p q err.0,
  inr (
    inr (inr (ap text_of is, err.1, lacks_there change p q err.0 err.2, (q.found, err.4))),
    refl,
  ),
)

-- ---- migrations

abbrev MigratesSo : Format → List ℕ → Known → History → History → Type 0
MigratesSo to text p log new = Migrates p.store p.number to log text new

other_there : (to : Format) (p q : Known) → Looks p q → (format_seen q ≡ to → ⊥)
    → format_after p.store.format q.seen ≡ to → ⊥
other_there to p q l other is =
    other (ap (λ (s : StoreId). format_after s.format q.seen) (store_is p q l) ∙ is)

pub migrated : {A : Type 0} (to : Format) (p q : Known) (r : Result Format MigrateFault)
    (a : Answer A) → a ≡ migration_answer r →
    IfOk r (λ format. Wrote (made_by p (Migrate to)) p (was format) q)
    → IfErr r (λ fault. RefusesMigration fault to p q) → Calls (MigratesSo to (text_of a)) p q
migrated to p q (Ok format) a is ok err = (
  ok.log,
  made_by p (Migrate to) ∷ [],
  record { same = ok.same; later = ok.later; seen = ok.seen; mine = ok.mine; own = (refl, tt) },
  inl (record {
    answer = ap text_of is ∙ ap (λ (x : Reply). line_of (reply_words x)) ok.answer;
    added = ok.seen;
    numbered = ok.numbered;
    room = ok.room;
  }),
)
migrated to p q (Err migrate.Busy) a is ok err =
    (p.seen, [], busy_of p q err.0, inr (inl (ap text_of is, err.1), busy_seen p q err.0))
migrated to p q (Err migrate.VersionsSpent) a is ok err =
    (q.seen, [], looked p q err.0, inr (inr (inl (ap text_of is, err.1)), refl))
migrated to p q (Err (migrate.Memory refused)) a is ok err = (
  q.seen,
  [],
  looked p q err.0,
  inr (inr (inr (other_there to p q err.0 err.3, err.1, inl (ap text_of is))), refl),
)
migrated to p q (Err migrate.NoRoom) a is ok err =
    let refused = err.0 in (
      q.seen,
      [],
      looked p q refused.0,
      inr (
        inr (inr (
          other_there to p q refused.0 err.1,
          refused.1,
          inr (
            ap text_of is,
            refused.1,
            lacks_there (Migrate to) p q refused.0 refused.2,
            (q.found, refused.4),
          ),
        )),
        refl,
      ),
    )

-- ---- batches

abbrev AppliesSo : List Edit → List ℕ → Known → History → History → Type 0
AppliesSo es text p log new = Applies p.store p.number es log text new

pub applied : {A U : Type 0} (es : List Edit) (p q : Known) (r : Result U ApplyFault)
    (a : Answer A) → a ≡ batch_answer r → OnOk r (Wrote (made_by p (Batch es)) p done q)
    → IfErr r (λ fault. RefusesBatch fault es p q) → Calls (AppliesSo es (text_of a)) p q
applied es p q (Ok made) a is ok err = (
  ok.log,
  made_by p (Batch es) ∷ [],
  record { same = ok.same; later = ok.later; seen = ok.seen; mine = ok.mine; own = (refl, tt) },
  inl (inl (record {
    answer = ap text_of is ∙ ap (λ (x : Reply). line_of (reply_words x)) ok.answer;
    added = ok.seen;
    numbered = ok.numbered;
    room = ok.room;
  })),
)
applied es p q (Err apply.Busy) a is ok err = (
  p.seen,
  [],
  busy_of p q err.0,
  inl (inr (inl (ap text_of is, err.1), busy_seen p q err.0)),
)
applied es p q (Err apply.VersionsSpent) a is ok err =
    (q.seen, [], looked p q err.0, inl (inr (inr (inl (ap text_of is, err.1)), refl)))
applied es p q (Err (apply.Memory refused)) a is ok err =
    let more = err.3 in
    (q.seen, [], looked p q err.0, inr (ap text_of is, omega (arith, more), refl))
applied es p q (Err apply.NoRoom) a is ok err = (
  q.seen,
  [],
  looked p q err.0,
  inl (inr (
    inr (inr (ap text_of is, err.1, lacks_there (Batch es) p q err.0 err.2, (q.found, err.4))),
    refl,
  )),
)

-- ---- commands

pub asked : (command c : Command) (p q : Known) (text : List ℕ) → command ≡ c
    → Calls (λ x log new. Acts x.store x.number c log text new) p q → Asked command p text q
asked command c p q text is d =
    record {
      log = d.0;
      t = d.1;
      turn = d.2;
      step =
          subst (λ (k : Command). Acts p.store p.number k d.0 text q.seen) (sym is) d.3;
    }
