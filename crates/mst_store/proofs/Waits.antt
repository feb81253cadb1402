-- Tries in vain, and then one that is not.
use Rattle.mst_store.proofs.Names.{◌≡◌, ℕ, ◌+◌, ◌<◌, List, refl, ap, ◌∙◌, subst, arith, Change, Edit, Reply, RefusesBatch, ApplyFault, WriteFault, Known, made_by, Wrote, Refuses, HasTried}
use Rattle.mst_store.specs.declared.faults.BatchFault.{BatchFault}
use Rattle.mst_store.specs.declared.faults.ChangeFault.{ChangeFault}
use Rattle.mst_batching.specs.declared.faults.ApplyFault.TheVariants as apply
use Rattle.mst_versions.specs.declared.faults.WriteFault.TheVariants as tried
use Rattle.mst_store.specs.Passes.{having_missed, FindsBusy}
use Rattle.mst_store.specs.Waiting.{WroteAfter, RefusesAfter, RefusesBatchAfter, as_tried, as_tried_batch}

-- before the first
pub not_tried : (p : Known) → HasTried p p
not_tried p = let none : p.asked ≡ p.asked + 0 = omega arith in let none_missed : p.missed
    ≡ p.missed + 0 = omega arith in
    record {
      tries = 0;
      vain = λ alone. refl;
      now = ap (λ (n : ℕ). record p { asked = n }) none
          ∙ ap (λ (n : ℕ). record p { asked = p.asked + 0; missed = n }) none_missed;
    }

-- one more
pub tried_again : (p q r : Known) → HasTried p q → FindsBusy q r → HasTried p r
tried_again p q r had busy =
    let more : p.asked + had.tries + 1 ≡ p.asked + (had.tries + 1) = omega arith in
    let more_missed : p.missed + had.tries + 1 ≡ p.missed + (had.tries + 1) = omega arith in
    let same : q.store.passes ≡ p.store.passes = ap (λ (s : Known). s.store.passes) had.now in
    let others : 1 < q.store.passes = busy.1 in record {
      tries = had.tries + 1;
      vain = λ alone. absurd (omega (arith, same, others, alone));
      now = busy.0 ∙ ap (λ (s : Known). having_missed 1 s) had.now
          ∙ ap (λ (n : ℕ). record p { asked = n; missed = p.missed + had.tries + 1 }) more
          ∙ ap (λ (n : ℕ). record p { asked = p.asked + (had.tries + 1); missed = n }) more_missed;
    }

-- one that wrote
pub wrote_then : (change : Change) (p q : Known) (answered : Reply) (r : Known) → HasTried p q
    → Wrote (made_by q change) q answered r → WroteAfter (made_by p change) p answered r
wrote_then change p q answered r had wrote =
    record {
      tries = had.tries;
      vain = had.vain;
      wrote =
          subst (λ (s : Known). Wrote (made_by s change) s answered r) had.now wrote;
    }

-- one that was refused
pub refused_then : (fault : ChangeFault) (change : Change) (p q r : Known) → HasTried p q
    → Refuses (as_tried fault) change q r → RefusesAfter fault change p r
refused_then fault change p q r had refused =
    record {
      tries = had.tries;
      vain = had.vain;
      refused =
          subst (λ (s : Known). Refuses (as_tried fault) change s r) had.now refused;
    }

-- one of a batch that was refused
pub batch_refused_then : (fault : BatchFault) (edits : List Edit) (p q r : Known) → HasTried p q
    → RefusesBatch (as_tried_batch fault) edits q r → RefusesBatchAfter fault edits p r
batch_refused_then fault edits p q r had refused =
    record {
      tries = had.tries;
      vain = had.vain;
      refused =
          subst (λ (s : Known). RefusesBatch (as_tried_batch fault) edits s r) had.now refused;
    }

-- as the tries tell it: by a refusal, which is one of these
pub busy_again : (found : WriteFault) (change : Change) (p q r : Known) → HasTried p q
    → found ≡ tried.Busy → Refuses found change q r → HasTried p r
busy_again found change p q r had is refused =
    tried_again p q r had (subst (λ (f : WriteFault). Refuses f change q r) is refused)

pub refused_as : (fault : ChangeFault) (found : WriteFault) (change : Change) (p q r : Known)
    → HasTried p q → found ≡ as_tried fault → Refuses found change q r
    → RefusesAfter fault change p r
refused_as fault found change p q r had is refused =
    refused_then fault change p q r had
    (subst (λ (f : WriteFault). Refuses f change q r) is refused)

pub batch_busy_again : (found : ApplyFault) (edits : List Edit) (p q r : Known) → HasTried p q
    → found ≡ apply.Busy → RefusesBatch found edits q r → HasTried p r
batch_busy_again found edits p q r had is refused =
    tried_again p q r had (subst (λ (f : ApplyFault). RefusesBatch f edits q r) is refused)

pub batch_refused_as : (fault : BatchFault) (found : ApplyFault) (edits : List Edit)
    (p q r : Known) → HasTried p q → found ≡ as_tried_batch fault → RefusesBatch found edits q r
    → RefusesBatchAfter fault edits p r
batch_refused_as fault found edits p q r had is refused =
    batch_refused_then fault edits p q r had
    (subst (λ (f : ApplyFault). RefusesBatch f edits q r) is refused)

-- all of them, for a loop of tries
pub ruleset all_tries = (not_tried, tried_again, wrote_then, refused_then, batch_refused_then)
