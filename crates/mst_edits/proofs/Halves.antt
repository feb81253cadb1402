-- The edits of two halves, each sorted, one after another.
use Rattle.std.proofs.Common.{◌≡◌, ℕ, List, ◌++◌, Option, Bor, take, drop, sym, ap, ◌∙◌}
use Rattle.std.proofs.lemmas.List.{take-append-drop}
use Rattle.mst_key.specs.declared.history.Edit.{Edit}
use Rattle.mst_key.specs.History.{value_after}
use Rattle.mst_key.proofs.BatchOrder.{value_after-append}
use Rattle.mst_edits.specs.Listed.{listed}

pub halves : (edits front back : List Edit) (first second low high : List (Bor Edit)) (n : ℕ)
    → front ≡ take n edits → back ≡ drop n edits → low ≡ first → high ≡ second
    → ((q : List ℕ) (old : Option (List ℕ)) → value_after (listed first) q old
    ≡ value_after front q old)
    → ((q : List ℕ) (old : Option (List ℕ)) → value_after (listed second) q old
    ≡ value_after back q old)
    → (q : List ℕ) (old : Option (List ℕ))
    → value_after (listed high) q (value_after (listed low) q old) ≡ value_after edits q old
halves edits front back first second low high n front_is back_is low_is high_is one other q old =
    ap (λ (z : List (Bor Edit)). value_after (listed z) q (value_after (listed low) q old)) high_is
    ∙ ap (λ (z : List (Bor Edit)). value_after (listed second) q (value_after (listed z) q old))
    low_is
    ∙ other q (value_after (listed first) q old)
    ∙ ap (λ (o : Option (List ℕ)). value_after back q o) (one q old)
    ∙ sym (value_after-append front back q old)
    ∙ ap (λ (z : List Edit). value_after (z ++ back) q old) front_is
    ∙ ap (λ (z : List Edit). value_after (take n edits ++ z) q old) back_is
    ∙ ap (λ (z : List Edit). value_after z q old) (take-append-drop n edits)
