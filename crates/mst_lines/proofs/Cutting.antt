-- Bytes that are cut at one of them.
use Rattle.std.proofs.Common.{◌-◌, ◌≡◌, ℕ, suc, ◌+◌, ◌<◌, ◌≤◌, ◌==◌, List, ◌∷◌, ◌++◌, length, take, drop, get_or, sym, ap, ◌∙◌, arith, true, length-append}
use Rattle.std.proofs.lemmas.Bool.{eqb-true, false_from_ne_true}
use Rattle.std.proofs.lemmas.List.{get_or-take, length-take-le, length-drop, take-append-drop, drop-take, drop-drop}
use Rattle.std.proofs.lemmas.Grind.{get_or_default_zero}
use Rattle.std.proofs.Math.Seq.{drop-cons, drop-append-add}
use Rattle.mst_lines.specs.Lines.{IsWithout}

pub none_before : (bytes : List ℕ) (at k : ℕ) → k ≤ length bytes
    → ((j : ℕ) → 0 ≤ j → j < k → (get_or bytes j 0 == at) ≡ true → ⊥) → IsWithout at (take k bytes)
none_before bytes at k l none j d m =
    let size = length-take-le k bytes l in
    let small : j < k = omega (arith, size, m) in
    let same : get_or (take k bytes) j d ≡ get_or bytes j 0 = get_or-take k bytes j d small
    ∙ get_or_default_zero bytes j d (omega (arith, l, small)) in
    ap (λ b. b == at) same ∙ false_from_ne_true (get_or bytes j 0 == at)
    (none j (omega arith) small)

pub joined : (bytes : List ℕ) (at k : ℕ) → k < length bytes → (get_or bytes k 0 == at) ≡ true
    → bytes ≡ take k bytes ++ at ∷ drop (k + 1) bytes
joined bytes at k l is =
    let n : suc k ≡ k + 1 = omega arith in
    sym (take-append-drop k bytes)
    ∙ ap (λ r. take k bytes ++ r)
    (drop-cons bytes k 0 l ∙ ap (λ b. b ∷ drop (suc k) bytes)
    (eqb-true (get_or bytes k 0) at is) ∙ ap (λ i. at ∷ drop i bytes) n)

-- what stands after the first newline of a part, counted from the end of the part
pub behind : (items front others : List ℕ) (b at end : ℕ) → at ≤ end → end ≤ length items
    → take (end - at) (drop at items) ≡ front ++ b ∷ others →
    take (end - (end - length others)) (drop (end - length others) items) ≡ others
behind items front others b at end low high is =
    let left = drop at items in
    let size : length (take (end - at) left) ≡ end - at =
    length-take-le (end - at) left (omega (arith, length-drop at items)) in
    let n : end - at ≡ (length front + 1) + length others =
    omega (arith, size, ap length is, length-append front (b ∷ others)) in
    let a : end - (end - length others) ≡ length others = omega (arith, n) in
    let c : end - length others ≡ at + (length front + 1) = omega (arith, n) in
    ap (λ (i : ℕ). take i (drop (end - length others) items)) a
    ∙ ap (λ (i : ℕ). take (length others) (drop i items)) c
    ∙ ap (λ (l : List ℕ). take (length others) l) (sym (drop-drop (length front + 1) at items))
    ∙ sym (drop-take (length front + 1) (length others) left)
    ∙ ap (λ (i : ℕ). drop (length front + 1) (take i left)) (sym n)
    ∙ ap (λ (l : List ℕ). drop (length front + 1) l) is
    ∙ drop-append-add front (b ∷ others) 1
