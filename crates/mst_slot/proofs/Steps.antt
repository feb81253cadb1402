-- Each step on a place keeps its rule.
use Rattle.std.proofs.Common.{◌≡◌, ℕ, eqb, List, [], ◌∷◌, ◌++◌, set, slice_index, sym, refl, ap, ◌∙◌, subst, Option, Some, None, arith}
use mathlib.Core.Option as maybe
use lib.ListN.{get_elem?}
use prog.Atomic.{either}
use Rattle.atomic_table.specs.Table.{State, Me, Act, keeps, takes, gives, Valid, stepped, carried_after, Allows, Splits}
use Rattle.atomic_table.proofs.Lists.{exchanged}
use Rattle.mst_slot.specs.declared.rule.Stage.{Stage}
use Rattle.mst_slot.specs.declared.rule.Stage.TheVariants.{Vacant, Filling, Keeps}
use Rattle.mst_slot.specs.Places.{Home, Known, IsPlace, began, filled, took, gave}
use Rattle.mst_slot.proofs.Seats.{same_value, vacant_at, filling_at, keeps_at, keeps_on, keeps_both}

word_is : (ws : List ℕ) (w : ℕ) → ws ≡ w ∷ [] → slice_index ws 0 ≡ w
word_is ws w e = ap (λ us. slice_index us 0) e

module _ {T : Type 0} where
  abbrev pub Holds : State (Option T) (Stage T) → Type 0
  Holds s = IsPlace s.words s.homes s.views

  -- the place after a step: the word, the slot and all that is known
  placed : (ws : List ℕ) (hs : List (Home T)) (w n : ℕ) (h g : Home T) (vs : List (Stage T))
      → ws ≡ w ∷ [] → hs ≡ h ∷ [] → Known n g vs → IsPlace (set ws 0 n) (set hs 0 g) vs
  placed ws hs w n h g vs e f k = record {
    word = n;
    home = g;
    words_is = ap (λ us. set us 0 n) e;
    homes_is = ap (λ us. set us 0 g) f;
    known = k;
  }

  head_value : T → List (ℕ × Option T) → T
  head_value x [] = x
  head_value x ((j, None) ∷ us) = x
  head_value x ((j, Some y) ∷ us) = y

  carried_same : (x y : T) → ◌≡◌ {A = List (ℕ × Option T)} ((0, Some x) ∷ []) ((0, Some y) ∷ [])
      → x ≡ y
  unfolding head_value
  carried_same x y e = ap (head_value x) e

  begins_at : (n id : ℕ) → Allows Holds n id (Vacant, []) 0 (λ _. 1) (λ _. began (Vacant, []))
  begins_at n id s p long at fits = let q = vacant_at p.word p.home s.views id p.known at in (
    Filling,
    takes 0 None,
    ap (λ us. get_elem? us 0) p.homes_is ∙ ap maybe.some q.0,
    placed s.words s.homes p.word 1 p.home maybe.none (set s.views id Filling) p.words_is p.homes_is
        (subst (λ us. Known 1 maybe.none us)
        (sym (ap (λ us. set us id Filling) q.1 ∙ ap (λ j. set (Vacant ∷ []) j Filling) q.2)) refl),
    refl,
  )

  pub begins : (n id : ℕ) (me : Me (Option T) (Stage T)) → me ≡ (Vacant, [])
      → Allows Holds n id me 0 (λ _. 1) (λ _. began me)
  begins n id me e =
      subst (λ m. Allows Holds n id m 0 (λ _. 1) (λ _. began m)) (sym e) (begins_at n id)

  fills_at : (n id : ℕ) (x : T) → Allows Holds n id (Filling, (0, Some x) ∷ []) 0 (λ _. 0)
      (λ _. filled (Filling, (0, Some x) ∷ []))
  fills_at n id x s p long at fits = let q = filling_at p.word p.home s.views id p.known at in (
    Keeps x,
    gives,
    tt,
    placed s.words s.homes p.word 0 p.home (maybe.some (Some x)) (set s.views id (Keeps x))
        p.words_is p.homes_is (subst (λ us. Known 0 (maybe.some (Some x)) us)
        (sym (ap (λ us. set us id (Keeps x)) q.0 ∙ ap (λ j. set (Filling ∷ []) j (Keeps x)) q.1))
        ((λ _. refl), tt)),
    λ y e. ap (λ z. (Keeps z, [])) (carried_same x y e),
  )

  pub fills : (n id : ℕ) (me : Me (Option T) (Stage T)) (x : T)
      → me ≡ (Filling, (0, Some x) ∷ []) → Allows Holds n id me 0 (λ _. 0) (λ _. filled me)
  fills n id me x e =
      subst (λ m. Allows Holds n id m 0 (λ _. 0) (λ _. filled m)) (sym e) (fills_at n id x)

  -- both know the value
  pub both : (id : ℕ) (v : Stage T) (x : T) → v ≡ Keeps x → Splits Holds id v v v
  both id v x e s p at = record {
    word = p.word;
    home = p.home;
    words_is = p.words_is;
    homes_is = p.homes_is;
    known = subst (λ u. Known p.word p.home (set s.views id u ++ u ∷ []))
        (sym e) (keeps_both p.word p.home s.views id x p.known (at ∙ ap maybe.some e));
  }

  -- a seat takes the value where the word is 0, and otherwise nothing happens
  abbrev Goes : State (Option T) (Stage T) → ℕ → T → ℕ → Type 0
  Goes s id x b = (w : Stage T) × (a : Act (Option T)) × Valid s.homes [] a
      × Holds (stepped s 0 b id [] w a)
      × took (Keeps x, []) (slice_index s.words 0) (w, carried_after [] a)

  takes_at : (n id : ℕ) (x : T) → Allows Holds n id (Keeps x, []) 0 (λ w. either (eqb w 0) 1 w)
      (took (Keeps x, []))
  takes_at n id x s p long at fits = exchanged (slice_index s.words 0) 0 1 (Goes s id x)
      (λ hit. let q = keeps_at p.word p.home s.views id x p.known at in
      let home = q.2 (sym (word_is s.words p.word p.words_is) ∙ hit) in (
        Keeps x,
        takes 0 (Some x),
        ap (λ us. get_elem? us 0) p.homes_is ∙ ap maybe.some home,
        placed s.words s.homes p.word 1 p.home maybe.none (set s.views id (Keeps x)) p.words_is
            p.homes_is (keeps_on p.word p.home s.views id x p.known at 1 maybe.none
            (λ z. absurd (omega arith))),
        (
          refl,
          (λ miss. absurd (miss hit)),
          λ _ y e. ap (λ z. (0, Some z) ∷ []) (same_value x y e),
        ),
      ))
      (λ miss. (
        Keeps x,
        keeps,
        tt,
        record {
          word = slice_index s.words 0;
          home = p.home;
          words_is = ap (λ us. set us 0 (slice_index s.words 0)) p.words_is;
          homes_is = p.homes_is;
          known = keeps_on p.word p.home s.views id x p.known at (slice_index s.words 0) p.home
              (λ z. absurd (miss z));
        },
        (refl, (λ _. refl), λ hit. absurd (miss hit)),
      ))

  pub borrows : (n id : ℕ) (me : Me (Option T) (Stage T)) (x : T) → me ≡ (Keeps x, [])
      → Allows Holds n id me 0 (λ w. either (eqb w 0) 1 w) (took me)
  borrows n id me x e =
      subst (λ m. Allows Holds n id m 0 (λ w. either (eqb w 0) 1 w) (took m)) (sym e)
      (takes_at n id x)

  gives_at : (n id k : ℕ) (x : T) (o : Option T) → (k ≡ 0 → o ≡ Some x)
      → Allows Holds n id (Keeps x, (0, o) ∷ []) 0 (λ _. k) (λ _. gave (Keeps x, (0, o) ∷ []))
  gives_at n id k x o home s p long at fits = (
    Keeps x,
    gives,
    tt,
    placed s.words s.homes p.word k p.home (maybe.some o) (set s.views id (Keeps x)) p.words_is
        p.homes_is (keeps_on p.word p.home s.views id x p.known at k (maybe.some o)
        (λ z. ap maybe.some (home z))),
    refl,
  )

  -- a seat gives the slot back: with the value in it, if the word is 0 then
  pub gives_back : (n id k : ℕ) (me : Me (Option T) (Stage T)) (x : T) (o : Option T)
      → me ≡ (Keeps x, (0, o) ∷ []) → (k ≡ 0 → o ≡ Some x)
      → Allows Holds n id me 0 (λ _. k) (λ _. gave me)
  gives_back n id k me x o e home =
      subst (λ m. Allows Holds n id m 0 (λ _. k) (λ _. gave m)) (sym e) (gives_at n id k x o home)
