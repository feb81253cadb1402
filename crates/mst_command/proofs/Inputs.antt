-- One read after those that are kept.
use Rattle.std.proofs.Common.{◌≡◌, ℕ, ◌-◌, ◌<◌, ◌≤◌, List, ◌++◌, length, take, arith, ap, subst, ◌∙◌, append-nil, length-append, length-take}
use Rattle.mst_devices.specs.Device.{Gave}
use Rattle.mst_command.specs.Reading.{GaveAll, GaveMore, piece}

module _ {S : Type 0} (gives : S → List ℕ → S → Type 0)
    (more : (s t u : S) (xs ys : List ℕ) → gives s xs t → gives t ys u → gives s (xs ++ ys) u)
    (left : S → ℕ) where
  pub at_end : (most : ℕ) (s t u : S) (bytes buffer : List ℕ) (n : ℕ) → gives s bytes t
      → length bytes ≤ most → Gave gives left t buffer n u → n ≡ 0 → GaveAll gives left most s bytes
      u
  at_end most s t u bytes buffer n given within last none = record {
    given =
        subst (λ (l : List ℕ). gives s l u)
        (ap (λ (i : ℕ). bytes ++ take i buffer) none ∙ append-nil bytes)
        (more s t u bytes (take n buffer) given last.given);
    ended = last.end none;
    within = within;
  }

  pub beyond : (most : ℕ) (s t u : S) (bytes buffer : List ℕ) (n : ℕ) → gives s bytes t
      → length bytes ≤ most → Gave gives left t buffer n u → n ≤ piece → most - length bytes < n
      → GaveMore gives most s u
  beyond most s t u bytes buffer n given within last few large = record {
    bytes = bytes ++ take n buffer;
    given = more s t u bytes (take n buffer) given last.given;
    beyond =
        omega (
          arith,
          large,
          last.within,
          length-append bytes (take n buffer),
          length-take n
              buffer,
        );
    within =
        omega (
          arith,
          within,
          few,
          last.within,
          length-append bytes (take n buffer),
          length-take n
              buffer,
        );
  }
