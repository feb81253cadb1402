-- What keeps a world lawful: one view changes, an event is added, a pass is dealt.
use Rattle.mst_words.proofs.Names.{◌≡◌, ℕ, zero, suc, ◌+◌, ◌<◌, ◌≤◌, ◌≢◌, List, [], ◌∷◌, ◌++◌, length, set, sym, refl, ap, ◌∙◌, subst, ⊎_elim, arith, inl, inr, ◌⊎◌, None, All, none-some, dite, some, some-injective, some-ne-none, ℕ_discrete, at_set, at_snoc, at_longer, set_here, set_else, Format, Event, History, events_of, IsPrefix, View, SeatAt, Fits, IsPlaced, World, having_dealt, newcomer, IsPrefix-itself}
use Rattle.std.proofs.lemmas.List.Elements.{All-append}
use lib.ListN.{get_elem?}
use Rattle.atomic_table.proofs.Lists.{at_last}
use Rattle.mst_words.specs.Notes.{IsOfPasses}
use Rattle.mst_words.proofs.Histories.{begins_longer, events_none, events_own, events_other}

-- each event of the history is of a pass of the store
pub each_dealt : (rows passes : ℕ) (first : Format) (next : ℕ) (log : History) (views : List View)
    (id : ℕ) (v : View) → World rows passes first next log views → SeatAt views id v
    → IsOfPasses v.passes log
each_dealt rows passes first next log views id v h at = let few =
    h.few in subst (λ (n : ℕ). IsOfPasses n log) (sym (h.placed id v at).passes_is)
    (λ k d l. let b = h.named k d l in (b.0, (let m = b.1 in omega arith)))

-- a view that stands where another stood
pub record IsInPlaceOf (v w : View) : Type 0 where
  pub number : w.number ≡ v.number
  pub deals : w.deals ≡ v.deals
  pub rows : w.rows ≡ v.rows
  pub passes : w.passes ≡ v.passes
  pub format : w.format ≡ v.format

pub in_place : (v : View) → IsInPlaceOf v v
in_place v = record { number = refl; deals = refl; rows = refl; passes = refl; format = refl }

pub placed_too : (rows passes : ℕ) (first : Format) (next : ℕ) (v w : View) → IsInPlaceOf v w
    → IsPlaced rows passes first next v → IsPlaced rows passes first next w
placed_too rows passes first next v w s p = record {
  rows_is = s.rows ∙ p.rows_is;
  passes_is = s.passes ∙ p.passes_is;
  format_is = s.format ∙ p.format_is;
  number = subst (λ (z : ℕ). z < next) (sym s.number) p.number;
  deals = λ l. let d = p.deals (subst (λ (z : ℕ). 0 < z) s.deals l) in
      (s.deals ∙ d.0, s.number ∙ d.1);
}

pub within : {A : Type 0} → (l : List A) (i : ℕ) (a : A) → get_elem? l i ≡ some a → i < length l
within [] i a e = absurd (some-ne-none a (sym e))
within (x ∷ xs) zero a e = omega arith
within (x ∷ xs) (suc i) a e = let h = within xs i a e in omega arith

-- the seat of a pass, after one view changed that keeps its number
moved_seat : (views : List View) (id : ℕ) (v w : View) → SeatAt views id v → w.number ≡ v.number
    → (p : ℕ) → ((i : ℕ) × (u : View) × SeatAt views i u × (u.number ≡ p)) → (i : ℕ) × (u : View)
    × SeatAt (set views id w) i u × (u.number ≡ p)
moved_seat views id v w at number p (i, u, e, is) = dite (ℕ_discrete i id)
    (λ here. (
      id,
      w,
      set_here views id w (within views id v at),
      number
          ∙ ap (λ (z : View). z.number)
          (some-injective v u (sym at ∙ subst (λ (z : ℕ). SeatAt views z u) here e)) ∙ is,
    ))
    (λ other. (i, u, set_else views id i w other ∙ e, is))

-- what was at i before one view changed
was_at : (views : List View) (id : ℕ) (v w : View) → SeatAt views id v → IsInPlaceOf v w
    → (i : ℕ) (u : View) → SeatAt (set views id w) i u → (o : View) × SeatAt views i o
    × IsInPlaceOf o u
was_at views id v w at same i u e =
    ⊎_elim (λ (t : (i ≡ id) × (w ≡ u)).
    (v, subst (λ (z : ℕ). SeatAt views z v) (sym t.0) at, subst (IsInPlaceOf v) t.1 same))
    (λ (t : (i ≢ id) × SeatAt views i u). (u, t.1, in_place u)) (at_set views id i w u e)

module _ (rows passes : ℕ) (first : Format) where
  -- one view changes, and the history grows or stays
  world_seat : (next : ℕ) (log longer : History) (views : List View) (id : ℕ) (v w : View)
      → World rows passes first next log views → SeatAt views id v → IsInPlaceOf v w
      → ((i : ℕ) (u : View) → SeatAt (set views id w) i u → Fits longer u)
      → All (λ e. (0 < e.pass) × (e.pass < next)) longer
      → World rows passes first next longer (set views id w)
  world_seat next log longer views id v w h at same fits named = let was =
      was_at views id v w at same in record {
        fits = fits;
        placed = λ i u e. let o = was i u e in placed_too rows passes first next o.0 u o.2
            (h.placed i o.0 o.1);
        apart = λ i j a b x y pos is. let o = was i a x in let p =
            was j b y in h.apart i j o.0 p.0 o.1 p.1 (subst (λ (z : ℕ). 0 < z) o.2.number pos)
            (sym o.2.number ∙ is ∙ p.2.number);
        seated = λ p pos below. let t = h.seated p pos below in moved_seat views id v w at
            same.number p
            t;
        dealer = λ i j a b x y m n. let o = was i a x in let p =
            was j b y in h.dealer i j o.0 p.0 o.1 p.1 (subst (λ (z : ℕ). 0 < z) o.2.deals m)
            (subst (λ (z : ℕ). 0 < z) p.2.deals n);
        few = h.few;
        named = named;
      }

  -- one view changes, and the history stays
  pub world_set : (next : ℕ) (log : History) (views : List View) (id : ℕ) (v w : View)
      → World rows passes first next log views → SeatAt views id v → IsInPlaceOf v w → Fits log w
      → World rows passes first next log (set views id w)
  world_set next log views id v w h at same fit = world_seat next log log views id v w h at same
      (λ i u e. ⊎_elim (λ (t : (i ≡ id) × (w ≡ u)). subst (Fits log) t.1 fit)
      (λ (t : (i ≢ id) × SeatAt views i u). h.fits i u t.1) (at_set views id i w u e)) h.named

  -- the history has an event more, which is of the pass whose view changes
  pub world_add : (next : ℕ) (log : History) (views : List View) (id : ℕ) (v w : View) (e : Event)
      → World rows passes first next log views → SeatAt views id v → IsInPlaceOf v w
      → w.told ≡ v.told → e.pass ≡ v.number → 0 < v.number → w.seen ≡ log ++ e ∷ []
      → w.mine ≡ v.mine ++ e ∷ [] → w.pin ≡ None → World rows passes first next (log ++ e ∷ [])
      (set views id w)
  world_add next log views id v w e h at same told of some_pass seen mine free =
      world_seat next log (log ++ e ∷ []) views id v w h at same
      (λ i u p. ⊎_elim (λ (t : (i ≡ id) × (w ≡ u)). subst (Fits longer) t.1 own)
      (λ (t : (i ≢ id) × SeatAt views i u). other i u t.1 t.0) (at_set views id i w u p))
      (All-append Named log (e ∷ []) h.named
      (only e (subst (λ (z : ℕ). (0 < z) × (z < next)) (sym of)
      (some_pass, (h.placed id v at).number))))
    where
      longer : History
      longer = log ++ e ∷ []

      Named : Event → Type 0
      Named x = (0 < x.pass) × (x.pass < next)

      only : (x : Event) → (0 < x.pass) × (x.pass < next)
          → All (λ y. (0 < y.pass) × (y.pass < next)) (x ∷ [])
      only x p zero d l = p
      only x p (suc k) d l = absurd (omega arith)

      all_own : events_of w.number (log ++ e ∷ []) ≡ w.mine
      all_own = ap (λ (z : ℕ). events_of z (log ++ e ∷ [])) same.number ∙ events_own v.number log e
          of ∙ ap (λ (l : History). l ++ e ∷ []) (h.fits id v at).own ∙ sym mine

      own : Fits (log ++ e ∷ []) w
      own = let f = h.fits id v at in record {
        seen = subst (λ (z : History). IsPrefix z (log ++ e ∷ [])) (sym seen)
            (IsPrefix-itself (log ++ e ∷ []));
        told = subst (λ (z : History). IsPrefix z (log ++ e ∷ [])) (sym told)
            (begins_longer v.told log (e ∷ []) f.told);
        own = all_own;
        mine = λ _. ap (events_of w.number) seen ∙ all_own;
        pinned = λ r is. absurd (none-some r (sym free ∙ is));
      }

      other : (i : ℕ) (u : View) → SeatAt views i u → i ≢ id → Fits (log ++ e ∷ []) u
      other i u s apart = let f = h.fits i u s in record {
        seen = begins_longer u.seen log (e ∷ []) f.seen;
        told = begins_longer u.told log (e ∷ []) f.told;
        own =
            events_other u.number log e
            (λ (x : e.pass ≡ u.number). apart (sym (h.apart id i v u at s some_pass (sym of ∙ x))))
            ∙ f.own;
        mine = f.mine;
        pinned = λ r is. let b =
            f.pinned r is in (begins_longer u.pinned_history log (e ∷ []) b.0, b.1);
      }

  at_end : {A : Type 0} → (l : List A) (a b : A) (j : ℕ) → get_elem? (l ++ a ∷ []) j ≡ some b
      → (get_elem? l j ≡ some b) ⊎ ((j ≡ length l) × (a ≡ b))
  at_end [] a b zero e = inr (refl, some-injective a b e)
  at_end [] a b (suc j) e = absurd (some-ne-none b (sym e))
  at_end (x ∷ xs) a b zero e = inl e
  at_end (x ∷ xs) a b (suc j) e = ⊎_elim (λ t. inl t) (λ t. inr (ap suc t.0, t.1))
      (at_end xs a b j e)

  -- the dealer deals the next pass
  pub world_deal : (next : ℕ) (log : History) (views : List View) (id : ℕ) (v : View)
      → World rows passes first next log views → SeatAt views id v → 0 < v.deals
      → v.deals ≤ v.passes
      → World rows passes first (next + 1) log (set views id (having_dealt v) ++ newcomer v ∷ [])
  world_deal next log views id v h at some_deal left = record {
    fits =
        λ i u e. ⊎_elim
        (λ (t : SeatAt (set views id (having_dealt v)) i u). ⊎_elim
        (λ (x : (i ≡ id) × (having_dealt v ≡ u)). subst (Fits log) x.1
        (let f = h.fits id v at in record {
          seen = f.seen;
          told = f.told;
          own = f.own;
          mine = f.mine;
          pinned = f.pinned;
        }))
        (λ (x : (i ≢ id) × SeatAt views i u). h.fits i u x.1)
        (at_set views id i (having_dealt v) u t))
        (λ (t : newcomer v ≡ u). subst (Fits log) t
        (record {
          seen = (log, refl);
          told = (log, refl);
          own =
              events_none v.deals log
              (λ k d l same. let b = (h.named k d l).1 in omega (arith, is));
          mine = λ _. refl;
          pinned = λ r none. absurd (none-some r none);
        }))
        (at_snoc (set views id (having_dealt v)) (newcomer v) u i e);
    placed =
        λ i u e. ⊎_elim
        (λ (t : SeatAt (set views id (having_dealt v)) i u). ⊎_elim
        (λ (x : (i ≡ id) × (having_dealt v ≡ u)). subst (IsPlaced rows passes first (next + 1)) x.1
        mine)
        (λ (x : (i ≢ id) × SeatAt views i u). old i u x.1 x.0)
        (at_set views id i (having_dealt v) u t))
        (λ (t : newcomer v ≡ u). subst (IsPlaced rows passes first (next + 1)) t new)
        (at_snoc (set views id (having_dealt v)) (newcomer v) u i e);
    apart = λ i j a b p q pos same. ⊎_elim
        (λ (x : SeatAt (set views id (having_dealt v)) i a). ⊎_elim
        (λ (y : SeatAt (set views id (having_dealt v)) j b). let o = was i a x in let o' =
        was j b y in h.apart i j o.0 o'.0 o.1 o'.1 (subst (λ (z : ℕ). 0 < z) (sym o.2) pos)
        (o.2 ∙ same ∙ sym o'.2))
        (λ (y : (j ≡ length (set views id (having_dealt v))) × (newcomer v ≡ b)). let m =
        ap (λ (z : View). z.number) y.1 in let c = old_below i a x in
        absurd (omega (arith, is))) (at_end (set views id (having_dealt v)) (newcomer v) b j q))
        (λ (x : (i ≡ length (set views id (having_dealt v))) × (newcomer v ≡ a)). ⊎_elim
        (λ (y : SeatAt (set views id (having_dealt v)) j b). let m =
        ap (λ (z : View). z.number) x.1 in let c = old_below j b y in
        absurd (omega (arith, is)))
        (λ (y : (j ≡ length (set views id (having_dealt v))) × (newcomer v ≡ b)). x.0 ∙ sym y.0)
        (at_end (set views id (having_dealt v)) (newcomer v) b j q))
        (at_end (set views id (having_dealt v)) (newcomer v) a i p);
    seated = λ p pos below. dite (ℕ_discrete p next)
        (λ last. (
          length (set views id (having_dealt v)),
          newcomer v,
          at_last (set views id (having_dealt v)) (newcomer v)
              (length (set views id (having_dealt v))) refl,
          is ∙ sym last,
        ))
        (λ other. let t = moved_seat views id v (having_dealt v) at refl p
        (h.seated p pos (omega (arith, other, below))) in (
          t.0,
          t.1,
          at_longer (set views id (having_dealt v)) (newcomer v ∷ []) t.0 t.1 t.2,
          t.3,
        ));
    dealer = λ i j a b p q m k. to_id i a p m ∙ sym (to_id j b q k);
    few = let p = (h.placed id v at).passes_is in omega (arith, is);
    named = λ k d l. let b = h.named k d l in (b.0, (let x = b.1 in omega arith));
  }
    where
      is : v.deals ≡ next
      is = ((h.placed id v at).deals some_deal).0

      was : (i : ℕ) (u : View) → SeatAt (set views id (having_dealt v)) i u → (o : View)
          × SeatAt views i o × (o.number ≡ u.number)
      was i u e = ⊎_elim
          (λ (t : (i ≡ id) × (having_dealt v ≡ u)). (
            v,
            subst (λ (z : ℕ). SeatAt views z v) (sym t.0) at,
            ap (λ (z : View). z.number)
                t.1,
          ))
          (λ (t : (i ≢ id) × SeatAt views i u). (u, t.1, refl))
          (at_set views id i (having_dealt v) u e)

      old_below : (i : ℕ) (u : View) → SeatAt (set views id (having_dealt v)) i u → u.number < next
      old_below i u e = ⊎_elim
          (λ (t : (i ≡ id) × (having_dealt v ≡ u)). subst (λ (z : View). z.number < next) t.1
          (h.placed id v at).number)
          (λ (t : (i ≢ id) × SeatAt views i u). (h.placed i u t.1).number)
          (at_set views id i (having_dealt v) u e)

      to_id : (i : ℕ) (u : View) → SeatAt (set views id (having_dealt v) ++ newcomer v ∷ []) i u
          → 0 < u.deals → i ≡ id
      to_id i u e m = ⊎_elim
          (λ (t : SeatAt (set views id (having_dealt v)) i u). ⊎_elim
          (λ (x : (i ≡ id) × (having_dealt v ≡ u)). x.0)
          (λ (x : (i ≢ id) × SeatAt views i u). h.dealer i id u v x.1 at m some_deal)
          (at_set views id i (having_dealt v) u t))
          (λ (t : newcomer v ≡ u). let c = ap (λ (z : View). z.deals) t in absurd (omega arith))
          (at_snoc (set views id (having_dealt v)) (newcomer v) u i e)

      mine : IsPlaced rows passes first (next + 1) (having_dealt v)
      mine = let p = h.placed id v at in record {
        rows_is = p.rows_is;
        passes_is = p.passes_is;
        format_is = p.format_is;
        number = (let a = p.number in omega arith);
        deals = λ l. (ap (λ (z : ℕ). z + 1) (p.deals some_deal).0, (p.deals some_deal).1);
      }

      old : (i : ℕ) (u : View) → SeatAt views i u → i ≢ id → IsPlaced rows passes first (next + 1) u
      old i u s apart = let p = h.placed i u s in record {
        rows_is = p.rows_is;
        passes_is = p.passes_is;
        format_is = p.format_is;
        number = (let a = p.number in omega arith);
        deals = λ l. absurd (apart (h.dealer i id u v s at l some_deal));
      }

      new : IsPlaced rows passes first (next + 1) (newcomer v)
      new = let p = h.placed id v at in record {
        rows_is = p.rows_is;
        passes_is = p.passes_is;
        format_is = p.format_is;
        number = (let a = p.deals some_deal in let b = a.0 in omega arith);
        deals = λ l. absurd (omega arith);
      }
