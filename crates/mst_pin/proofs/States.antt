-- Two states are equal by their parts.
use Rattle.mst_pin.proofs.Names.{◌≡◌, ℕ, State}

pub same_state : (s t : State) → s.passes ≡ t.passes → s.current ≡ t.current
    → ((r x : ℕ) → s.rows r x ≡ t.rows r x) → ((p : ℕ) → s.pins p ≡ t.pins p) → s.due ≡ t.due
    → s ≡ t
same_state s t passes current rows pins due =
    λ i. record {
      passes = passes i;
      current = current i;
      rows = λ r x. rows r x i;
      pins =
          λ p. pins p i;
      due = due i;
    }
