-- The part Turn of the rule holds on where one view or one word changes.
use Rattle.mst_words.proofs.Names.{◌≡◌, ℕ, ◌<◌, true, false, Option, None, List, [], ◌∷◌, set, sym, ap, ◌∙◌, subst, arith, dite, some, none, ℕ_discrete, set_here, set_else, View, DeskState, History, Meaning, Turn}
use lib.ListN.{get_elem?}
use Rattle.mst_words.proofs.Seats.{each_seat, same_view}
use Rattle.mst_words.proofs.Worlds.{within}

module _ {S : Type 0} (T : Meaning S) (R N : ℕ) where
  -- some seat has the turn, also after one view changed that keeps its right
  someone : (vs : List View) (id : ℕ) (v w : View) → get_elem? vs id ≡ some v → w.turn ≡ v.turn
      → ((i : ℕ) × (u : View) × (get_elem? vs i ≡ some u) × (u.turn ≡ true))
      → (i : ℕ) × (u : View) × (get_elem? (set vs id w) i ≡ some u) × (u.turn ≡ true)
  someone vs id v w at same (i, u, e, on) = dite (ℕ_discrete i id)
      (λ is. (
        id,
        w,
        set_here vs id w (within vs id v at),
        same ∙ ap (λ (z : View). z.turn)
            (same_view vs id v u at (subst (λ (z : ℕ). get_elem? vs z ≡ some u) is e)) ∙ on,
      ))
      (λ not. (i, u, set_else vs id i w not ∙ e, on))

  -- one view changes, and not what the turn ties
  pub turn_same : (word : ℕ) (homes : List (mathlib.Core.Option.Option S)) (desk : DeskState)
      (due : Option ℕ) (log : History) (vs : List View) (id : ℕ) (v w : View)
      → Turn T R N word homes desk due log vs → get_elem? vs id ≡ some v
      → w.number ≡ v.number → w.turn ≡ v.turn → (v.turn ≡ true → (w.seen ≡ log) × (w.desk ≡ v.desk))
      → Turn T R N word homes desk due log (set vs id w)
  turn_same word homes desk due log vs id v w t at number turn kept = record {
    free = t.free;
    taken = λ l. let a = t.taken l in (a.0, someone vs id v w at turn a.1);
    holder =
        each_seat (λ i u. u.turn ≡ true → (0 < word) × (u.number ≡ word) × (u.seen ≡ log)
        × (u.desk ≡ desk)) vs id w
        (λ on. let h = t.holder id v at (sym turn ∙ on) in let k = kept (sym turn ∙ on) in
        (h.0, number ∙ h.1, k.0, k.1 ∙ h.3))
        (λ i u _ e. t.holder i u e);
  }

  -- the turn holder changes what the turn ties
  pub turn_held : (word : ℕ) (homes : List (mathlib.Core.Option.Option S)) (desk desk' : DeskState)
      (due due' : Option ℕ) (log log' : History) (vs : List View) (id : ℕ) (v w : View)
      → Turn T R N word homes desk due log vs → get_elem? vs id ≡ some v
      → v.turn ≡ true → ((i : ℕ) (u : View) → get_elem? vs i ≡ some u → u.turn ≡ true → i ≡ id)
      → w.number ≡ v.number → w.turn ≡ true → w.seen ≡ log' → w.desk ≡ desk'
      → Turn T R N word homes desk' due' log' (set vs id w)
  turn_held word homes desk desk' due due' log log' vs id v w t at on only number turn seen
      is_desk = let h = t.holder id v at on in record {
        free = λ z. absurd (let l = h.0 in omega arith);
        taken = λ l. let a = t.taken l in (a.0, someone vs id v w at (turn ∙ sym on) a.1);
        holder =
            each_seat (λ i u. u.turn ≡ true → (0 < word) × (u.number ≡ word) × (u.seen ≡ log')
            × (u.desk ≡ desk')) vs id w
            (λ _. (h.0, number ∙ h.1, seen, is_desk))
            (λ i u other e own. absurd (other (only i u e own)));
      }

  -- the turn is taken
  pub turn_taken : (p : ℕ) (x : S) (homes : List (mathlib.Core.Option.Option S)) (desk : DeskState)
      (due due' : Option ℕ) (log : History) (vs : List View) (id : ℕ) (v w : View)
      → Turn T R N 0 homes desk due log vs → get_elem? vs id ≡ some v
      → 0 < p → homes ≡ some x ∷ [] → w.number ≡ p → w.turn ≡ true → w.seen ≡ log → w.desk ≡ desk
      → Turn T R N p (set homes 0 none) desk due' log (set vs id w)
  turn_taken p x homes desk due due' log vs id v w t at some_pass is number turn seen is_desk =
      record {
        free = λ z. absurd (omega arith);
        taken =
            λ _. (
              ap (λ (h : List (mathlib.Core.Option.Option S)). set h 0 none) is,
              (id, w, set_here vs id w (within vs id v at), turn),
            );
        holder =
            each_seat (λ i u. u.turn ≡ true → (0 < p) × (u.number ≡ p) × (u.seen ≡ log)
            × (u.desk ≡ desk)) vs id w
            (λ _. (some_pass, number, seen, is_desk))
            (λ i u other e own. absurd (let l = (t.holder i u e own).0 in omega arith));
      }

  -- the turn is given back, with a desk
  pub turn_given : (word : ℕ) (x : S) (homes : List (mathlib.Core.Option.Option S))
      (desk desk' : DeskState) (due : Option ℕ) (log : History) (vs : List View) (id : ℕ)
      (v w : View) → Turn T R N word homes desk due log vs → get_elem? vs id ≡ some v
      → v.turn ≡ true → ((i : ℕ) (u : View) → get_elem? vs i ≡ some u → u.turn ≡ true → i ≡ id)
      → w.turn ≡ false → T.IsDesk x R N desk' → due ≡ None → Turn T R N 0 (set homes 0 (some x))
      desk' due log (set vs id w)
  turn_given word x homes desk desk' due log vs id v w t at on only off is_desk settled = let h =
      t.holder id v at on in record {
        free =
            λ _. (
              x,
              ap (λ (l : List (mathlib.Core.Option.Option S)). set l 0 (some x))
                  ((t.taken h.0).0),
              is_desk,
              settled,
            );
        taken = λ l. absurd (omega arith);
        holder =
            each_seat (λ i u. u.turn ≡ true → (0 < 0) × (u.number ≡ 0) × (u.seen ≡ log)
            × (u.desk ≡ desk')) vs id w
            (λ own. absurd (let c : true ≡ false = sym own ∙ off in cc))
            (λ i u other e own. absurd (other (only i u e own)));
      }

  -- only one seat has the turn
  pub only_one : (word : ℕ) (homes : List (mathlib.Core.Option.Option S)) (desk : DeskState)
      (due : Option ℕ) (log : History) (vs : List View) (id : ℕ) (v : View) → Turn T R N word homes
      desk due log vs → get_elem? vs id ≡ some v → v.turn ≡ true
      → ((i j : ℕ) (a b : View) → get_elem? vs i ≡ some a → get_elem? vs j ≡ some b → 0 < a.number
      → a.number ≡ b.number → i ≡ j) → (i : ℕ) (u : View) → get_elem? vs i ≡ some u
      → u.turn ≡ true → i ≡ id
  only_one word homes desk due log vs id v t at on apart i u e own = let h = t.holder i u e own in
      apart i id u v e at (subst (λ (z : ℕ). 0 < z) (sym h.1) h.0)
      (h.1 ∙ sym ((t.holder id v at on).1))
