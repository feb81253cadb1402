-- Texts by their numbers, and one more.
use Rattle.std.proofs.Common.{◌≡◌, ◌<◌, ◌+◌, ℕ, List, ◌++◌, eqb, cond, sym, ap, subst, ◌∙◌, inl, inr, arith}
use Rattle.std.proofs.lemmas.Bool.Decides.{eqb_tells}
use Rattle.std.specs.List.{AllByRecursion}
use Rattle.sha2.specs.Hashers.{Holds256}
use Rattle.mst_key.proofs.Alls.{alls-weaker}
use Rattle.mst_prefix.specs.Kept.{HasNumber, AreKept}
use Rattle.mst_prefix.specs.declared.beginnings.Beginning.{Beginning}
use Rattle.mst_prefix.specs.declared.beginnings.Beginnings.{Beginnings}

-- the texts, with this one for a number
pub with_text : (ℕ → List ℕ) → ℕ → List ℕ → ℕ → List ℕ
with_text texts n text k = cond (eqb k n) text (texts k)

pub its_text : (texts : ℕ → List ℕ) (n : ℕ) (text : List ℕ) (k : ℕ) → k ≡ n
    → with_text texts n text k ≡ text
unfolding with_text
its_text texts n text k same =
    elim (eqb_tells k n) [
      | inl e ↦ ap (λ b. cond b text (texts k)) e.0
      | inr e ↦ absurd (e.1 same)
    ]

pub other_text : (texts : ℕ → List ℕ) (n : ℕ) (text : List ℕ) (k : ℕ) → k < n
    → with_text texts n text k ≡ texts k
unfolding with_text
other_text texts n text k less =
    elim (eqb_tells k n) [
      | inl e ↦ absurd (omega (arith, less, e.1))
      | inr e ↦ ap (λ b. cond b text (texts k)) e.0
    ]

-- a beginning has its number also when the next number is given to a text
pub still_has : (texts : ℕ → List ℕ) (next : ℕ) (text : List ℕ) (b : Beginning)
    → HasNumber texts next b → HasNumber (with_text texts next text) (next + 1) b
still_has texts next text b has =
    let number = other_text texts next text b.number has.number in
    let before = other_text texts next text b.before has.before in
    record {
      before = omega (arith, has.before);
      number = omega (arith, has.number);
      text = number ∙ has.text ∙ ap (λ t. t ++ b.piece.items) (sym before);
      hash = subst (λ t. Holds256 b.hash t) (sym number) has.hash;
    }

-- a beginning that is given the next number has it
pub now_has : (texts : ℕ → List ℕ) (next : ℕ) (text : List ℕ) (b : Beginning) → b.before < next
    → b.number ≡ next → text ≡ texts b.before ++ b.piece.items → Holds256 b.hash text
    → HasNumber (with_text texts next text) (next + 1) b
now_has texts next text b before number spelled holds =
    let its = its_text texts next text b.number number in
    let other = other_text texts next text b.before before in
    record {
      before = omega (arith, before);
      number = omega (arith, number);
      text = its ∙ spelled ∙ ap (λ t. t ++ b.piece.items) (sym other);
      hash = subst (λ t. Holds256 b.hash t) (sym its) holds;
    }

pub all_still_have : (texts : ℕ → List ℕ) (next : ℕ) (text : List ℕ) (bs : List Beginning)
    → AllByRecursion (HasNumber texts next) bs
    → AllByRecursion (HasNumber (with_text texts next text) (next + 1)) bs
all_still_have texts next text bs all = alls-weaker _ _ (still_has texts next text) bs all

-- beginnings with one more number
pub kept_with : {A : Type 0} (texts : ℕ → List ℕ) (b c : Beginnings A) (text : List ℕ)
    → AreKept texts b → c.next ≡ b.next + 1
    → AllByRecursion (HasNumber (with_text texts b.next text) (b.next + 1)) c.kept.items.items
    → AreKept (with_text texts b.next text) c
kept_with texts b c text kept step all = record {
  some = omega (arith, step);
  empty = other_text texts b.next text 0 kept.some ∙ kept.empty;
  beginnings = subst
      (λ next. AllByRecursion (HasNumber (with_text texts b.next text) next) c.kept.items.items)
      (sym step) all;
}

-- a beginning that becomes the text after another front, with its number
pub renewed : (texts : ℕ → List ℕ) (next : ℕ) (front : List ℕ) (b new : Beginning) (before : ℕ)
    → new.before ≡ before → new.number ≡ next → new.piece.items ≡ b.piece.items → before < next
    → texts before ≡ front → Holds256 new.hash (front ++ b.piece.items)
    → HasNumber (with_text texts next (front ++ b.piece.items)) (next + 1) new
renewed texts next front b new before is number piece less named holds =
    now_has texts next (front ++ b.piece.items) new (omega (arith, is, less)) number
    (ap (λ (t : List ℕ). t ++ b.piece.items) (sym named)
    ∙ ap (λ n. texts n ++ b.piece.items) (sym is)
    ∙ ap (λ (xs : List ℕ). texts new.before ++ xs) (sym piece))
    holds
