-- The definitions at lines that were worked by hand.
use Rattle.mst_replay.proofs.Names.{◌≡◌, ◌∷◌, ◌++◌, ℕ, List, [], inl, None, Some, refl, sym, ap, arith, decimal_digit, opening, Pin, Transfer, Open, Take, Records, FaultLine, rows_text, Replays}
use Rattle.std.proofs.Common.{codes}
use Rattle.mst_replay.specs.Line.{members, text}

pin_of_seven : text (Take (Pin 7)) ≡ codes "pin 7"
pin_of_seven = ap (λ (digits : List ℕ). codes "pin " ++ digits) (decimal_digit 7 (omega arith))

no_rows : rows_text 0 ≡ codes "-"
no_rows = refl

rows_of_nine : members 9 ≡ 0 ∷ 3 ∷ []
rows_of_nine = refl

-- an event before the core
early : Replays None (codes "transfer") FaultLine None
early = inl (Take Transfer, record { in_range = tt; is_text = refl }, (refl, refl))

-- a core of two passes has four records
two_passes : Replays None (codes "passes 2") (Records 4) (Some (opening 2))
two_passes =
    inl (
      Open 2,
      record {
        in_range = (omega arith, omega arith);
        is_text =
            ap (λ (digits : List ℕ). codes "passes " ++ digits)
            (sym (decimal_digit 2 (omega arith)));
      },
      (refl, refl),
    )
