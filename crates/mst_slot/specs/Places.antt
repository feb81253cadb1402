-- The place of one value, and what its steps tell.
use Rattle.std.specs.Prelude.{◌≡◌, ◌≢◌, ℕ, List, [], ◌∷◌, Option, Some, None}
use Rattle.std.specs.List.{AllByRecursion}
use mathlib.Core.Option as maybe
use Rattle.atomic_table.specs.Table.{Me, rest}
use Rattle.mst_slot.specs.declared.rule.Stage.{Stage}
use Rattle.mst_slot.specs.declared.rule.Stage.TheVariants.{Vacant, Filling, Keeps}

-- the slot, which is empty while its value is with a seat
abbrev pub Home : Type 0 → Type 0
Home T = maybe.Option (Option T)

abbrev Seated : Type 0 → Type 0
Seated T = Me (Option T) (Stage T)

module _ {T : Type 0} where
  -- By what the first seat knows: the slot is at home, with nothing in it; or that seat is filling
  -- it, and there is no other; or all seats know the value, which is at home if the word is 0
  abbrev pub Known : ℕ → Home T → List (Stage T) → Type 0
  Known word home [] = ⊥
  Known word home (Vacant ∷ others) = (home ≡ maybe.some None) × (others ≡ [])
  Known word home (Filling ∷ others) = others ≡ []
  Known word home (Keeps x ∷ others) =
      (word ≡ 0 → home ≡ maybe.some (Some x)) × AllByRecursion (λ v. v ≡ Keeps x) others

  -- one word and one slot, and what all seats know
  pub record IsPlace (words : List ℕ) (homes : List (Home T)) (views : List (Stage T)) : Type 0
    where
      pub word : ℕ
      pub home : Home T
      pub words_is : words ≡ word ∷ []
      pub homes_is : homes ≡ home ∷ []
      pub known : Known word home views

  -- the first seat has the empty slot
  abbrev pub began : Seated T → Seated T → Type 0
  began m n = n ≡ (Filling, (0, None) ∷ m.1)

  -- what it has left there is the value
  abbrev pub filled : Seated T → Seated T → Type 0
  filled m n = (x : T) → m.1 ≡ (0, Some x) ∷ [] → n ≡ (Keeps x, [])

  -- the seat has the value if the word was 0
  abbrev pub took : Seated T → ℕ → Seated T → Type 0
  took m found n = (n.0 ≡ m.0) × (found ≢ 0 → n.1 ≡ m.1)
      × (found ≡ 0 → (x : T) → m.0 ≡ Keeps x → n.1 ≡ (0, Some x) ∷ m.1)

  abbrev pub gave : Seated T → Seated T → Type 0
  gave m n = n ≡ (m.0, rest m.1)
