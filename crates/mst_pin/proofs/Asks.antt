-- What an ask is answered.
use Rattle.mst_pin.proofs.Names.{◌≡◌, ◌≢◌, ◌⊎◌, inl, inr, ℕ, Some, Publish, Ask, Answer, Yes, No, State, row_set, AreUsable, IsDrained, IsPinned, IsTaken, Steps}

taken_yes : (s t : State) (r : ℕ) → Steps s (Ask r) Yes t → IsTaken s (Ask r) × IsDrained s r
taken_yes s t r (inl (taken, inl (is, drained), same)) = (taken, drained)
taken_yes s t r (inl (taken, inr (is, pinned), same)) = absurd (cc is)
taken_yes s t r (inr (other, is, same)) = absurd (cc is)

pub pinned_at_no : (s t : State) (r : ℕ) → Steps s (Ask r) No t → IsPinned s r
pinned_at_no s t r (inl (taken, inl (is, drained), same)) = absurd (cc is)
pinned_at_no s t r (inl (taken, inr (is, pinned), same)) = pinned
pinned_at_no s t r (inr (other, is, same)) = absurd (cc is)

pub drained_at_yes : (s t : State) (r : ℕ) → Steps s (Ask r) Yes t → (p : ℕ) → s.pins p ≢ Some r
drained_at_yes s t r step = (taken_yes s t r step).1

pub one_or_other : (s t : State) (r : ℕ) (a : Answer) → IsTaken s (Ask r) → Steps s (Ask r) a t
    → (a ≡ Yes) ⊎ (a ≡ No)
one_or_other s t r a taken (inl (x, inl (is, drained), same)) = inl is
one_or_other s t r a taken (inl (x, inr (is, pinned), same)) = inr is
one_or_other s t r a taken (inr (other, is, same)) = absurd (other taken)

pub asks_change_nothing : (s t : State) (r : ℕ) (a : Answer) → Steps s (Ask r) a t → t ≡ s
asks_change_nothing s t r a (inl (taken, is, same)) = same
asks_change_nothing s t r a (inr (other, is, same)) = same

pub drained_may_be_published : (s t : State) (r rows : ℕ) → Steps s (Ask r) Yes t
    → AreUsable s (row_set rows) → IsTaken s (Publish r rows)
drained_may_be_published s t r rows step usable =
    let x = taken_yes s t r step in
    (x.0.0, x.0.1, x.0.2, x.1, usable)

pub pinned_may_not : (s t : State) (r rows : ℕ) → Steps s (Ask r) No t → IsTaken s (Publish r rows)
    → ⊥
pinned_may_not s t r rows step taken = let x = pinned_at_no s t r step in taken.3 x.0 x.1
