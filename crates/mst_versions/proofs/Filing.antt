-- Word after word of a record is stored.
use Rattle.mst_versions.proofs.Names.{◌≡◌, ℕ, ◌+◌, ◌<◌, List, length, set, get_or, refl, sym, ap, ◌∙◌, arith, length-set, get_or-set_same, get_or-set_other, dite, ℕ_discrete, record_word, record_words, IsFiled}

pub filed_none : (which : ℕ) (words old : List ℕ) → IsFiled which 0 words old old
filed_none which words old = record {
  kept = record { long = refl; others = λ i _. refl };
  so_far =
      λ k l. absurd (omega arith);
}

pub filed_more : (which n : ℕ) (words old new : List ℕ) → IsFiled which n words old new
    → n < record_words → record_word which n < length new → (value : ℕ) → value ≡ get_or words n 0
    → IsFiled which (n + 1) words old (set new (record_word which n) value)
filed_more which n words old new s lt wide value is = record {
  kept = record {
    long = length-set new (record_word which n) value ∙ s.kept.long;
    others = λ i away. get_or-set_other new (record_word which n) i value 0 (away n lt)
        ∙ s.kept.others i away;
  };
  so_far = λ k l. dite (ℕ_discrete k n)
      (λ same. ap (λ (j : ℕ). get_or (set new (record_word which n) value) (record_word which j) 0)
      same ∙ get_or-set_same new (record_word which n) value 0 wide ∙ is
      ∙ ap (λ (j : ℕ). get_or words j 0) (sym same))
      (λ other. get_or-set_other new (record_word which n) (record_word which k) value 0
      (λ e. other (omega arith)) ∙ s.so_far k (omega arith));
}
