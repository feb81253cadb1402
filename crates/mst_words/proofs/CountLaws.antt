-- What each step adds to the count of its seat.
use Rattle.mst_words.proofs.Names.{◌≡◌, ℕ, ◌+◌, Option, refl, ap, ◌∙◌, arith, dite, ℕ_discrete, Me, Step, View, Deed, told_by, trying, giving, pinning, unpinning, forgetting, reading, writing, transferring, asking, noting, asking_current, seeing_all, seeing_told, glancing}
use Rattle.mst_arena.specs.Lives as lives
use Rattle.mst_words.specs.Laws.{count_of, HasCounted}

abbrev pub Mine : Type 0
Mine = Me (Option lives.State) View

-- what a seat has then is this
has : (k : ℕ) (m m' n : Mine) → m' ≡ n → n.0.asked ≡ m.0.asked + k → n.0.number ≡ m.0.number
    → HasCounted k m.0 m'.0
has k m m' n is asked number = record {
  asked = ap (λ (z : Mine). z.0.asked) is ∙ asked;
  number = ap (λ (z : Mine). z.0.number) is ∙ number;
}

no_more : (n : ℕ) → n ≡ n + 0
no_more n = omega arith

pub deed_counts : (deed : Deed) (st : Step (Option lives.State)) (m m' : Mine) (r : ℕ)
    → told_by deed st m r m' → HasCounted (count_of deed) m.0 m'.0
deed_counts trying st m m' r t = dite (ℕ_discrete r 0)
    (λ hit. has 1 m m' _ (t.1 hit).is refl refl)
    (λ miss. has 1 m m' _ (t.2 miss).is refl refl)
deed_counts giving st m m' r t = has 0 m m' _ t.1 (no_more m.0.asked) refl
deed_counts pinning st m m' r t = has 1 m m' _ t.1.is refl refl
deed_counts unpinning st m m' r t = has 0 m m' _ t.1 (no_more m.0.asked) refl
deed_counts forgetting st m m' r t = has 0 m m' _ t.1 (no_more m.0.asked) refl
deed_counts reading st m m' r t = has 0 m m' _ t.1 (no_more m.0.asked) refl
deed_counts writing st m m' r t = has 0 m m' _ t (no_more m.0.asked) refl
deed_counts transferring st m m' r t = has 0 m m' _ t.1 (no_more m.0.asked) refl
deed_counts asking st m m' r t = dite (ℕ_discrete r 0)
    (λ hit. has 1 m m' _ (t.2 hit) refl refl)
    (λ miss. has 1 m m' _ (t.3 miss).is refl refl)
deed_counts noting st m m' r t = has 1 m m' _ t.1.is refl refl
deed_counts asking_current st m m' r t = has 1 m m' _ t.1.is refl refl
deed_counts seeing_all st m m' r t = has 1 m m' _ t.1.is refl refl
deed_counts seeing_told st m m' r t = has 1 m m' _ t.1.is refl refl
deed_counts glancing st m m' r t = has 1 m m' _ t.1 refl refl
