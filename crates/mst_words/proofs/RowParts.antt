-- The part Rows of the rule holds on where one view or one word changes.
use Rattle.mst_words.proofs.Names.{◌≡◌, ℕ, ◌+◌, ◌<◌, ◌≤◌, ◌≢◌, inl, inr, Bool, true, cond, eqb, eq-eqb, ne_eqb, List, [], ◌∷◌, ◌++◌, length, set, get_or, sym, refl, ap, ◌∙◌, subst, ⊎_elim, arith, Some, dite, some, ℕ_discrete, first_record, record_word, record_words, row_word, row_words, View, Event, DeskState, History, last_version, In, Meaning, IsFramed, field, row, IsLive, Agrees, Standing, Reads, Rows}
use lib.ListN.{get_elem?}
use Rattle.mst_words.proofs.Places.{place_above}
use Rattle.mst_words.proofs.Seats.{each_seat}
use Rattle.mst_words.proofs.Histories.{begins_longer}

-- ---- the words that a record and rows stand on stay

pub Kept : ℕ → List ℕ → List ℕ → ℕ → List ℕ → Type 0
Kept R ws ws' r u = ((k : ℕ) → k < record_words → field ws' r k ≡ field ws r k)
    × ((x : ℕ) → In x u → (k : ℕ) → k < row_words → row R ws' x k ≡ row R ws x k)

pub kept_upper : (R : ℕ) (ws ws' : List ℕ)
    → ((k : ℕ) → first_record ≤ k → get_or ws' k 0 ≡ get_or ws k 0)
    → (r : ℕ) (u : List ℕ) → Kept R ws ws' r u
unfolding Kept
kept_upper R ws ws' upper r u = (
  (λ k l. upper (record_word r k) (omega arith)),
  (λ x _ k l. upper (row_word R x k) (let a = place_above R x k in omega (arith, a))),
)

-- one word above the front changes, which is none of those
pub kept_else : (R : ℕ) (ws : List ℕ) (i n r : ℕ) (u : List ℕ)
    → ((k : ℕ) → k < record_words → record_word r k ≢ i)
    → ((x : ℕ) → In x u → (k : ℕ) → k < row_words → row_word R x k ≢ i)
    → ((j : ℕ) → j ≢ i → get_or (set ws i n) j 0 ≡ get_or ws j 0) → Kept R ws (set ws i n) r u
unfolding Kept
kept_else R ws i n r u fields rows stay = (
  (λ k l. stay (record_word r k) (fields k l)),
  (λ x within k l. stay (row_word R x k) (rows x within k l)),
)

module _ {S : Type 0} (T : Meaning S) (framed : IsFramed T) (R N : ℕ) where
  pub agrees_same : (d : DeskState) (r : ℕ) → Agrees T d d r
  agrees_same d r = record {
    version = refl;
    reached = λ x h. h;
    exactly = λ x h. h;
    ages = λ x v l h. ((λ is. is), (λ is. is));
  }

  pub standing_to : (ws ws' : List ℕ) (log more : History) (desk desk' : DeskState) (r : ℕ)
      (p : History) (u : List ℕ) → Standing T R N ws log desk r p u → Kept R ws ws' r u
      → Agrees T desk desk' r
      → Standing T R N ws' (log ++ more) desk' r p u
  unfolding Kept
  standing_to ws ws' log more desk desk' r p u s kept a = record {
    numbered = s.numbered;
    begins = begins_longer p log more s.begins;
    version = kept.0 0 (omega arith) ∙ s.version;
    filed = a.version ∙ s.filed;
    stands = framed.stands (row R ws) (row R ws') (field ws r) (field ws' r) (T.after p) u
        (kept.1, kept.0) s.stands;
    aged = framed.aged (row R ws) (row R ws') (field ws r) (field ws' r) p u desk desk' r
        (kept.1, kept.0) s.filed s.reached a s.aged;
    inside = s.inside;
    reached = λ x within. subst (λ (n : ℕ). T.Reaches desk' n x) s.filed
        (a.reached x (subst (λ (n : ℕ). T.Reaches desk n x) (sym s.filed) (s.reached x within)));
    exactly =
        λ x l h. s.exactly x l
        (subst (λ (n : ℕ). T.Reaches desk n x) s.filed
        (a.exactly x (subst (λ (n : ℕ). T.Reaches desk' n x) (sym s.filed) h)));
  }

  append_nil : (xs : History) → xs ++ [] ≡ xs
  append_nil [] = refl
  append_nil (x ∷ xs) = ap (λ (l : History). x ∷ l) (append_nil xs)

  pub standing_same : (ws ws' : List ℕ) (log : History) (desk desk' : DeskState) (r : ℕ)
      (p : History) (u : List ℕ) → Standing T R N ws log desk r p u → Kept R ws ws' r u
      → Agrees T desk desk' r → Standing T R N ws' log desk' r p u
  standing_same ws ws' log desk desk' r p u s kept a =
      subst (λ (l : History). Standing T R N ws' l desk' r p u) (append_nil log)
      (standing_to ws ws' log [] desk desk' r p u s kept a)

  pub reads_to : (ws ws' : List ℕ) (r : ℕ) (p : History) (u : List ℕ) (v w : View)
      → Reads T R N ws r p u v → Kept R ws ws' r u → w.pinned_history ≡ v.pinned_history
      → w.pinned_rows ≡ v.pinned_rows → w.known_words ≡ v.known_words → Reads T R N ws' r p u w
  unfolding Kept
  reads_to ws ws' r p u v w h kept place rows known = record {
    place_is = place ∙ h.place_is;
    rows_are = rows ∙ h.rows_are;
    fields = λ k l. kept.0 k l ∙ h.fields k l ∙ ap (λ (z : List ℕ). field z r k) (sym known);
    kept = λ x within k l. kept.1 x within k l ∙ h.kept x within k l
        ∙ ap (λ (z : List ℕ). row R z x k) (sym known);
  }

  -- what is in the holder's hands
  abbrev pub IsHeld : List ℕ → View → Type 0
  IsHeld ws v = (length v.known_words ≡ length ws)
      × ((k : ℕ) → first_record ≤ k → get_or ws k 0 ≡ get_or v.known_words k 0)

  pub held_upper : (ws ws' : List ℕ) (v w : View)
      → ((k : ℕ) → first_record ≤ k → get_or ws' k 0 ≡ get_or ws k 0) → length ws' ≡ length ws
      → w.known_words ≡ v.known_words → IsHeld ws v → IsHeld ws' w
  held_upper ws ws' v w upper long same h = (
    ap (λ (z : List ℕ). length z) same ∙ h.0 ∙ sym long,
    (λ k l. upper k l ∙ h.1 k l ∙ ap (λ (z : List ℕ). get_or z k 0) (sym same)),
  )

  module _ (cur : ℕ) (ws : List ℕ) (log : History) (desk : DeskState) (place : ℕ → History)
      (used : ℕ → List ℕ) (vs : List View) (id : ℕ) (v : View)
      (q : Rows T R N cur ws log desk place used vs) (at : get_elem? vs id ≡ some v) where
    -- what is live after one view changed was live before, if what the view pins was
    pub live_before : (w : View) → ((r : ℕ) → w.pin ≡ Some r → IsLive cur vs r) → (r : ℕ)
        → IsLive cur (set vs id w) r → IsLive cur vs r
    live_before w mine r l = ⊎_elim (λ (is : r ≡ cur). inl is)
        (λ (t : (i : ℕ) × (u : View) × (get_elem? (set vs id w) i ≡ some u) × (u.pin ≡ Some r)).
        each_seat (λ i u. u.pin ≡ Some r → IsLive cur vs r) vs id w (mine r)
        (λ i u _ e pin. inr (i, u, e, pin)) t.0 t.1 t.2 t.3) l

    -- the frame: one view changes, words that no live version stands on change, and the desk stays
    -- the same for live records
    pub rows_to : (ws' : List ℕ) (desk' : DeskState) (w : View) → desk'.current ≡ cur
        → ((r : ℕ) → IsLive cur vs r → Kept R ws ws' r (used r))
        → ((r : ℕ) → IsLive cur vs r → Agrees T desk desk' r)
        → ((r : ℕ) → w.pin ≡ Some r → IsLive cur vs r × Reads T R N ws' r (place r) (used r) w)
        → (w.turn ≡ true → IsHeld ws' w)
        → ((i : ℕ) (u : View) → i ≢ id → get_elem? vs i ≡ some u → u.turn ≡ true → IsHeld ws' u)
        → Rows T R N cur ws' log desk' place used (set vs id w)
    rows_to ws' desk' w desk_at kept agree mine held others = record {
      now = q.now;
      desk_at = desk_at;
      short = q.short;
      live = λ r l. let b = live_before w (λ j e. (mine j e).0) r l in standing_same ws ws' log desk
          desk' r (place r) (used r) (q.live r b) (kept r b) (agree r b);
      reads = each_seat (λ i u. (r : ℕ) → u.pin ≡ Some r → Reads T R N ws' r (place r) (used r) u)
          vs id w (λ r e. (mine r e).1)
          (λ i u _ e r pin. reads_to ws ws' r (place r) (used r) u u (q.reads i u e r pin)
          (kept r (inr (i, u, e, pin))) refl refl refl);
      held = each_seat (λ i u. u.turn ≡ true → IsHeld ws' u) vs id w held others;
    }

    -- the same where no word above the front changes, and the view's pin stays or ends
    pub rows_upper : (ws' : List ℕ) (w : View)
        → ((k : ℕ) → first_record ≤ k → get_or ws' k 0 ≡ get_or ws k 0) → length ws' ≡ length ws
        → ((r : ℕ) → w.pin ≡ Some r → IsLive cur vs r × Reads T R N ws' r (place r) (used r) w)
        → (w.turn ≡ true → IsHeld ws' w)
        → Rows T R N cur ws' log desk place used (set vs id w)
    rows_upper ws' w upper long mine held =
        rows_to ws' desk w q.desk_at (λ r _. kept_upper R ws ws' upper r (used r))
        (λ r _. agrees_same desk r) mine held
        (λ i u _ e on. held_upper ws ws' u u upper long refl (q.held i u e on))

    -- the view's pin stays
    pub pin_stays : (ws' : List ℕ) (w : View)
        → ((k : ℕ) → first_record ≤ k → get_or ws' k 0 ≡ get_or ws k 0) → w.pin ≡ v.pin
        → w.pinned_history ≡ v.pinned_history → w.pinned_rows ≡ v.pinned_rows → w.known_words
        ≡ v.known_words
        → (r : ℕ) → w.pin ≡ Some r → IsLive cur vs r × Reads T R N ws' r (place r) (used r) w
    pin_stays ws' w upper pin is_place is_rows is_held r e = (
      inr (id, v, at, sym pin ∙ e),
      reads_to ws ws' r (place r) (used r) v w
          (q.reads id v at r (sym pin ∙ e)) (kept_upper R ws ws' upper r (used r)) is_place is_rows
          is_held,
    )

    -- ---- a publication

    abbrev then_for : {A : Type 0} → ℕ → A → (ℕ → A) → ℕ → A
    then_for into a f r = cond (eqb r into) a (f r)

    there : {A : Type 0} (into : ℕ) (a : A) (f : ℕ → A) (r : ℕ) → r ≡ into → then_for into a f r ≡ a
    there into a f r is = ap (λ (b : Bool). cond b a (f r)) (eq-eqb r into is)

    elsewhere : {A : Type 0} (into : ℕ) (a : A) (f : ℕ → A) (r : ℕ) → r ≢ into → then_for into a f r
        ≡ f r
    elsewhere into a f r not = ap (λ (b : Bool). cond b a (f r)) (ne_eqb r into not)

    pub rows_publish : (into : ℕ) (ws' : List ℕ) (e : Event) (desk' : DeskState) (u : List ℕ)
        (w : View) → ((k : ℕ) → first_record ≤ k → get_or ws' k 0 ≡ get_or ws k 0)
        → length ws' ≡ length ws → desk'.current ≡ into
        → length log < last_version
        → ((i : ℕ) (x : View) → get_elem? vs i ≡ some x → x.pin ≢ Some into)
        → Standing T R N ws' (log ++ e ∷ []) desk' into (log ++ e ∷ []) u
        → ((r : ℕ) → IsLive cur vs r → Agrees T desk desk' r)
        → w.pin ≡ v.pin → w.pinned_history ≡ v.pinned_history → w.pinned_rows ≡ v.pinned_rows
        → w.known_words ≡ v.known_words → (w.turn ≡ v.turn)
        → (place' : ℕ → History) × (used' : ℕ → List ℕ) × Rows T R N into ws' (log ++ e ∷ []) desk'
        place' used' (set vs id w)
    rows_publish into ws' e desk' u w upper long desk_at room free new agree pin is_place is_rows
        is_held turn = let longer : History = log ++ e ∷ [] in (
          then_for into longer place,
          then_for into u used,
          record {
            now = there into longer place into refl;
            desk_at = desk_at;
            short =
                subst (λ (n : ℕ). n ≤ last_version) (sym (length_more log)) (omega (arith, room));
            live = λ r l. dite (ℕ_discrete r into)
                (λ is. subst
                (λ (z : ℕ). Standing T R N ws' longer desk' z (then_for into longer place z)
                (then_for into u used z)) (sym is) (at_new longer))
                (λ not. let b : IsLive cur vs r = ⊎_elim (λ (is : r ≡ into). absurd (not is))
                (λ (t : (i : ℕ) × (x : View) × (get_elem? (set vs id w) i ≡ some x)
                × (x.pin ≡ Some r)).
                each_seat (λ i x. x.pin ≡ Some r → IsLive cur vs r) vs id w
                (λ f. inr (id, v, at, sym pin ∙ f)) (λ i x _ f is. inr (i, x, f, is)) t.0 t.1 t.2
                t.3) l in
                moved longer r not
                (standing_to ws ws' log (e ∷ []) desk desk' r (place r) (used r) (q.live r b)
                (kept_upper R ws ws' upper r (used r)) (agree r b)));
            reads =
                each_seat (λ i x. (r : ℕ) → x.pin ≡ Some r → Reads T R N ws' r
                (then_for into longer place r) (then_for into u used r) x) vs id w
                (λ r f. read_at longer r w (λ is. free id v at (sym pin ∙ f ∙ ap Some is))
                (reads_to ws ws' r (place r) (used r) v w (q.reads id v at r (sym pin ∙ f))
                (kept_upper R ws ws' upper r (used r)) is_place is_rows is_held))
                (λ i x _ f r g. read_at longer r x (λ is. free i x f (g ∙ ap Some is))
                (reads_to ws ws' r (place r) (used r) x x (q.reads i x f r g)
                (kept_upper R ws ws' upper r (used r)) refl refl refl));
            held = each_seat (λ i x. x.turn ≡ true → IsHeld ws' x) vs id w
                (λ on. held_upper ws ws' v w upper long is_held (q.held id v at (sym turn ∙ on)))
                (λ i x _ f on. held_upper ws ws' x x upper long refl (q.held i x f on));
          },
        )
      where
        length_more : (l : History) → length (l ++ e ∷ []) ≡ length l + 1
        length_more [] = refl
        length_more (x ∷ l) = let h = length_more l in omega arith

        at_new : (longer : History) → Standing T R N ws' (log ++ e ∷ []) desk' into
            (then_for into (log ++ e ∷ []) place into) (then_for into u used into)
        at_new longer =
            subst (λ (z : History × List ℕ). Standing T R N ws' (log ++ e ∷ []) desk' into z.0 z.1)
            (λ i. (
              sym (there into (log ++ e ∷ []) place into refl) i,
              sym (there into u used into refl) i,
            )) new

        moved : (longer : History) (r : ℕ) → r ≢ into → Standing T R N ws' (log ++ e ∷ []) desk' r
            (place r) (used r) → Standing T R N ws' (log ++ e ∷ []) desk' r
            (then_for into (log ++ e ∷ []) place r) (then_for into u used r)
        moved longer r not h =
            subst (λ (z : History × List ℕ). Standing T R N ws' (log ++ e ∷ []) desk' r z.0 z.1)
            (λ i. (
              sym (elsewhere into (log ++ e ∷ []) place r not) i,
              sym (elsewhere into u used r not) i,
            )) h

        read_at : (longer : History) (r : ℕ) (x : View) → r ≢ into → Reads T R N ws' r (place r)
            (used r) x → Reads T R N ws' r (then_for into (log ++ e ∷ []) place r)
            (then_for into u used r) x
        read_at longer r x not h = subst (λ (z : History × List ℕ). Reads T R N ws' r z.0 z.1 x)
            (λ i. (
              sym (elsewhere into (log ++ e ∷ []) place r not) i,
              sym (elsewhere into u used r not) i,
            )) h
