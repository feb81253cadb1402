-- Bytes that are compared eight at once, as numbers.
use Rattle.std.proofs.Common.{◌≡◌, ◌<◌, ◌+◌, true, false, nat_eq, Option, None, Some, IfSome, MatchOption, ℕ, List, ◌++◌, length, take, drop, get_or, sym, ap, ◌∙◌}
use Rattle.std.specs.Int.{w64, from_le_bytes}
use Rattle.std.specs.Cmp.Lexicographic.{pointwise, same_text}
use Rattle.std.proofs.lemmas.Nat.{le_bytes_8}
use Rattle.std.proofs.lemmas.List.{take-append-drop, append_assoc}
use Rattle.mst_prefix.specs.Texts.{ArePast}

-- words that are equal have the same bytes
pub same_bytes : (one other : List ℕ) (n : ℕ) → length one ≡ 8 → length other ≡ 8
    → ((i : ℕ) → get_or one i 0 < 256) → ((i : ℕ) → get_or other i 0 < 256)
    → n ≡ from_le_bytes w64 one → n ≡ from_le_bytes w64 other → one ≡ other
same_bytes one other n eight as_many low other_low is other_is =
    sym (le_bytes_8 one n eight low is) ∙ le_bytes_8 other n as_many other_low other_is

-- what follows on the same first bytes
pub past_first : (n : ℕ) (one other first second rest other_rest : List ℕ) → first ≡ take n one
    → rest ≡ drop n one → second ≡ take n other → other_rest ≡ drop n other → first ≡ second
    → ArePast one other rest other_rest
past_first n one other first second rest other_rest f r s o same = record {
  bytes = first;
  begins = sym (take-append-drop n one) ∙ ap (λ (xs : List ℕ). xs ++ drop n one) (sym f)
      ∙ ap (λ (xs : List ℕ). first ++ xs) (sym r);
  begins_too = sym (take-append-drop n other) ∙ ap (λ (xs : List ℕ). xs ++ drop n other)
      (sym s ∙ sym same)
      ∙ ap (λ (xs : List ℕ). first ++ xs) (sym o);
}

-- one passage after another
pub past_both : (a b c d e f : List ℕ) → ArePast a b c d → ArePast c d e f → ArePast a b e f
past_both a b c d e f p q = record {
  bytes = p.bytes ++ q.bytes;
  begins = p.begins ∙ ap (λ (xs : List ℕ). p.bytes ++ xs) q.begins
      ∙ sym (append_assoc p.bytes q.bytes e);
  begins_too = p.begins_too ∙ ap (λ (xs : List ℕ). p.bytes ++ xs) q.begins_too
      ∙ sym (append_assoc p.bytes q.bytes f);
}

-- past all of the other text
pub past_all : (one other rest left end : List ℕ) → ArePast one other rest left
    → rest ≡ left ++ end → one ≡ other ++ end
past_all one other rest left end p is =
    p.begins ∙ ap (λ (xs : List ℕ). p.bytes ++ xs) is ∙ sym (append_assoc p.bytes left end)
    ∙ ap (λ (xs : List ℕ). xs ++ end) (sym p.begins_too)

-- a text that is four parts
pub four_parts : (kept piece a b c r s t : List ℕ) → kept ≡ piece ++ r → r ≡ a ++ s
    → s ≡ b ++ t → t ≡ c → kept ≡ piece ++ a ++ b ++ c
four_parts kept piece a b c r s t p q u v =
    p ∙ ap (λ (xs : List ℕ). piece ++ xs) (q ∙ ap (λ (xs : List ℕ). a ++ xs)
    (u ∙ ap (λ (xs : List ℕ). b ++ xs) v)) ∙ sym (append_assoc piece a (b ++ c))
    ∙ sym (append_assoc (piece ++ a) b c)

-- a text after a front
pub after_front : (m front piece a b c kept : List ℕ) → m ≡ front ++ piece
    → kept ≡ piece ++ a ++ b ++ c → m ++ a ++ b ++ c ≡ front ++ kept
after_front m front piece a b c kept is same =
    ap (λ (xs : List ℕ). xs ++ a ++ b ++ c) is
    ∙ ap (λ (xs : List ℕ). xs ++ b ++ c) (append_assoc front piece a)
    ∙ ap (λ (xs : List ℕ). xs ++ c) (append_assoc front (piece ++ a) b)
    ∙ append_assoc front (piece ++ a ++ b) c ∙ ap (λ (xs : List ℕ). front ++ xs) (sym same)

-- past what is left of the other text, if the rest begins with it
pub past_if : {R : Type 0} (now : R → List ℕ) (one other rest left : List ℕ)
    → ArePast one other rest left → (end : Option R) → IfSome end (λ r. rest ≡ left ++ now r)
    → IfSome end (λ r. one ≡ other ++ now r)
past_if now one other rest left p None is = tt
past_if now one other rest left p (Some r) is = past_all one other rest left (now r) p is

-- what follows on the first bytes, which a test found to be the same
pub stripped : {R : Type 0} (now : R → List ℕ) (rest left : List ℕ) (end : Option R)
    → MatchOption end (pointwise nat_eq (take (length left) rest) left ≡ false)
    (λ r. (pointwise nat_eq (take (length left) rest) left ≡ true)
    × (now r ≡ drop (length left) rest) × (length (now r) + length left ≡ length rest))
    → IfSome end (λ r. rest ≡ left ++ now r)
stripped now rest left None is = tt
stripped now rest left (Some r) is =
    sym (take-append-drop (length left) rest)
    ∙ ap (λ (xs : List ℕ). xs ++ drop (length left) rest)
    (same_text (take (length left) rest) left (sym is.0))
    ∙ ap (λ (xs : List ℕ). left ++ xs) (sym is.1)

-- three parts at once
pub grouped : (xs a b c : List ℕ) → xs ++ a ++ b ++ c ≡ xs ++ (a ++ b ++ c)
grouped xs a b c = ap (λ (ys : List ℕ). ys ++ c) (append_assoc xs a b) ∙ append_assoc xs (a ++ b) c
