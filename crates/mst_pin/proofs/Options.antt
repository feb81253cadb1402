-- An option that is none is `None`, and one that is some has a value.
use Rattle.mst_pin.proofs.Names.{◌≡◌, ℕ, Bool, true, false, Option, Some, None, refl, sym, ◌∙◌, ◌≢◌, eqb, eq-eqb, Returned}
use Rattle.std.specs.Bool.{OnFalse}
use Rattle.std.specs.Prelude.{IsSome, IsNone, IsTrue, ◌↔◌, is_some}
use Rattle.mst_pin.specs.Words.{due_of}

pub none_is : {A : Type 0} (o : Option A) → IsNone o → o ≡ None
none_is None h = refl
none_is (Some x) h = absurd (let e : true ≡ false = h in cc)

pub some_is : {A : Type 0} (o : Option A) → IsSome o → (x : A) × (o ≡ Some x)
some_is None h = absurd (let e : false ≡ true = h in cc)
some_is (Some x) h = (x, refl)

pub due_none : (o : Option Returned) → IsNone (due_of o) → o ≡ None
due_none None h = refl
due_none (Some d) h = absurd (let e : true ≡ false = h in cc)

pub due_some : (o : Option Returned) → IsSome (due_of o) → (d : Returned) × (o ≡ Some d)
due_some None h = absurd (let e : false ≡ true = h in cc)
due_some (Some d) h = (d, refl)

pub due_is_some : (o : Option Returned) → IsSome (due_of o) → IsSome o
due_is_some None h = h
due_is_some (Some d) h = refl

pub is_due : (b : Bool) (o : Option Returned) → b ≡ is_some o → IsTrue b ↔ IsSome (due_of o)
is_due b None e = (λ h. sym e ∙ h, λ h. e ∙ h)
is_due b (Some d) e = (λ h. refl, λ h. e)

-- a fact where a number is not 0
pub on_false : (n : ℕ) (P : Type 0) → (n ≢ 0 → P) → OnFalse (eqb n 0) P
on_false n P h = by (eqb n 0) refl
  where
    by : (b : Bool) → eqb n 0 ≡ b → OnFalse b P
    by true e = tt
    by false e = h (λ is. absurd (let f : true ≡ false = sym (eq-eqb n 0 is) ∙ e in cc))

pub from_false : (b : Bool) (P : Type 0) → OnFalse b P → b ≡ false → P
from_false true P h e = absurd (let f : true ≡ false = e in cc)
from_false false P h e = h
