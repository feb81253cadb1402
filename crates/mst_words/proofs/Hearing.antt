-- A look, and the writing and hearing of a note, keep the rule.
use Rattle.mst_words.proofs.Names.{◌≡◌, ℕ, ◌+◌, ◌<◌, false, inl, List, [], ◌∷◌, ◌++◌, set, get_or, sym, refl, ap, ◌∙◌, subst, ⊎_elim, arith, none-some, none, State, Me, step, keeps, stepped, Allows, Splits, at_snoc, at_longer, set_again, set_else, History, events_of, IsPrefix, IsPrefix-itself, IsPrefix-nil, Format, View, SeatAt, Fits, IsPlaced, World, Meaning, IsFramed, Parts, Ruled, note_of, having_heard}
use Rattle.atomic_table.specs.Table.{Joins}
use Rattle.mst_key.proofs.HistoryLaws.{events_of-between}
use Rattle.mst_words.specs.Notes.{Finds, sees_all, sees_told}
use Rattle.mst_words.proofs.Histories.{events_none}
use Rattle.mst_words.proofs.Worlds.{each_dealt}
use Rattle.mst_words.proofs.PinParts.{drains_same}
use Rattle.mst_words.proofs.Marks.{counts_same}
use Rattle.mst_words.proofs.Stills.{still_same}
use Rattle.mst_words.proofs.Follows.{ruled}
use Rattle.mst_words.specs.Steps.{IsMaskWord, glances}
use Rattle.mst_words.proofs.Looked.{view_set, looked, counted}
use Rattle.mst_words.proofs.Seated.{off_true, turn_more, rows_more, pins_more, clear_more, counts_more, path_more, still_more}

-- a note comes to the seats
world_note : (rows passes : ℕ) (first : Format) (next : ℕ) (log : History) (views : List View)
    (id : ℕ) (v : View) → World rows passes first next log views → SeatAt views id v
    → World rows passes first next log (views ++ note_of v ∷ [])
world_note rows passes first next log views id v h at = let n : View = note_of v in record {
  fits = λ i u e. ⊎_elim (λ (t : SeatAt views i u). h.fits i u t)
      (λ (t : n ≡ u). subst (Fits log) t (record {
        seen = (h.fits id v at).seen;
        told = IsPrefix-nil log;
        own = events_none 0 log (λ k d l same. let b = (h.named k d l).0 in omega arith);
        mine = λ l. absurd (omega arith);
        pinned = λ r is. absurd (none-some r is);
      })) (at_snoc views n u i e);
  placed = λ i u e. ⊎_elim (λ (t : SeatAt views i u). h.placed i u t)
      (λ (t : n ≡ u). subst (IsPlaced rows passes first next) t (record {
        rows_is = (h.placed id v at).rows_is;
        passes_is = (h.placed id v at).passes_is;
        format_is = (h.placed id v at).format_is;
        number = (let l = (h.placed id v at).number in omega arith);
        deals = λ l. absurd (omega arith);
      })) (at_snoc views n u i e);
  apart = λ i j a b p q pos same. ⊎_elim
      (λ (x : SeatAt views i a). ⊎_elim (λ (y : SeatAt views j b). h.apart i j a b x y pos same)
      (λ (y : n ≡ b). let m = ap (λ (z : View). z.number) y in absurd (omega arith))
      (at_snoc views n b j q))
      (λ (x : n ≡ a). let m = ap (λ (z : View). z.number) x in absurd (omega arith))
      (at_snoc views n a i p);
  seated = λ p pos below. let t = h.seated p pos below in
      (t.0, t.1, at_longer views (n ∷ []) t.0 t.1 t.2, t.3);
  dealer = λ i j a b p q m k. ⊎_elim
      (λ (x : SeatAt views i a). ⊎_elim (λ (y : SeatAt views j b). h.dealer i j a b x y m k)
      (λ (y : n ≡ b). let c = ap (λ (z : View). z.deals) y in absurd (omega arith))
      (at_snoc views n b j q))
      (λ (x : n ≡ a). let c = ap (λ (z : View). z.deals) x in absurd (omega arith))
      (at_snoc views n a i p);
  few = h.few;
  named = h.named;
}

module _ {S : Type 0} (T : Meaning S) (framed : IsFramed T) (R N : ℕ) where
  -- a seat without the turn sees another beginning of the history
  seen_set : (s : State S View) (q : Parts T R N s) (id i : ℕ) (cs : List (ℕ × S)) (v : View)
      (seen : History) → SeatAt s.views id v → v.turn ≡ false → IsPrefix seen q.log
      → (0 < v.number → events_of v.number seen ≡ v.mine)
      → Parts T R N
      (stepped s i (get_or s.words i 0) id cs (record v { seen = seen; asked = v.asked + 1 })
      keeps)
  seen_set s q id i cs v seen at off begins own = let w : View =
      record v { seen = seen; asked = v.asked + 1 } in
      looked T framed R N s q id i cs v w at refl refl refl refl refl refl refl refl refl refl
      (λ on. off_true v off on)
      (let f = q.world.fits id v at in
      record { seen = begins; told = f.told; own = f.own; mine = own; pinned = f.pinned })
      (off_true w off)
      (counts_same N q.cur s.views id v w q.counts at refl (inl refl) refl refl)
      (still_same N (get_or s.words 1 0) (get_or s.words 1 0) s.views id w v q.still at refl refl
      refl)

  found : (s : State S View) (q : Parts T R N s) (id : ℕ) (me : Me S View) → SeatAt s.views id me.0
      → Finds me q.log
  found s q id me at = let f = q.world.fits id me.0 at in record {
    later = f.seen;
    told = f.told;
    pinned = λ r is. (f.pinned r is).0;
    own = f.own;
    alone = each_dealt R N T.first q.next q.log s.views id me.0 q.world at;
  }

  pub all_allows : (slots id : ℕ) (me : Me S View) → me.0.turn ≡ false → Allows (Ruled T R N) slots
      id me 1 (λ n. n) (λ r. sees_all (step slots 1 0 0 none) me r)
  all_allows slots id me off s whole _ at _ = let q = whole.parts in (
    record me.0 { seen = q.log; asked = me.0.asked + 1 },
    keeps,
    tt,
    ruled T framed R N _
        (seen_set s q id 1 me.1 me.0 q.log at off (IsPrefix-itself q.log)
        (λ _. (q.world.fits id me.0 at).own)),
    (refl, record { log = q.log; finds = found s q id me at; is = refl }),
  )

  pub told_allows : (slots id : ℕ) (me : Me S View) → me.0.turn ≡ false
      → IsPrefix me.0.seen me.0.told → Allows (Ruled T R N) slots id me 1 (λ n. n)
      (λ r. sees_told (step slots 1 0 0 none) me r)
  told_allows slots id me off forward s whole _ at _ = let q = whole.parts in (
    record me.0 { seen = me.0.told; asked = me.0.asked + 1 },
    keeps,
    tt,
    ruled T framed R N _
        (seen_set s q id 1 me.1 me.0 me.0.told at off (q.world.fits id me.0 at).told
        (λ pos. let f = q.world.fits id me.0 at in events_of-between me.0.number me.0.mine me.0.seen
        me.0.told q.log forward f.told (f.mine pos) f.own)),
    (refl, record { log = q.log; forward = forward; finds = found s q id me at; is = refl }),
  )

  -- a word of pins is loaded, and nothing is said of what was found
  pub glances_allows : (slots id i : ℕ) (me : Me S View) → IsMaskWord i → Allows (Ruled T R N) slots
      id me i (λ n. n) (glances (step slots i 0 0 none) me)
  glances_allows slots id i me mask s whole _ at _ = (
    record me.0 { asked = me.0.asked + 1 },
    keeps,
    tt,
    ruled T framed R N _
        (counted T framed R N s whole.parts id i me.1 me.0 me.0.found me.0.missed at),
    (mask, refl),
  )

  -- a note is written, and the writer's own view stays
  pub note_splits : (id : ℕ) (v : View) → Splits (Ruled T R N) id v v (note_of v)
  note_splits id v s whole at = let n : View = note_of v in let q =
      whole.parts in
      ruled T framed R N _
      (subst (λ (l : List View). Parts T R N record {
        words = s.words;
        homes = s.homes;
        views = l ++ n ∷ [];
      }) (sym (set_again s.views id v at)) record {
        log = q.log;
        next = q.next;
        cur = q.cur;
        mask = q.mask;
        due = q.due;
        beside = q.beside;
        desk = q.desk;
        place = q.place;
        used = q.used;
        wide = q.wide;
        turn = turn_more T R N (get_or s.words 0 0) s.homes q.desk q.due q.log s.views n q.turn
            refl;
        pins = pins_more N q.cur q.mask q.due q.beside s.words s.views n q.pins refl refl (record {
          small = omega arith;
          pinned = λ r is. absurd (none-some r is);
          unpinned = λ r l _ _. absurd (omega arith);
        });
        rows = rows_more T R N q.cur s.words q.log q.desk q.place q.used s.views n q.rows refl refl;
        world = world_note R N T.first q.next q.log s.views id v q.world at;
        clear = clear_more N q.beside s.words s.views n q.clear;
        counts = counts_more N q.cur s.views n q.counts refl refl;
        path =
            record {
              moves = q.path.moves;
              is = path_more N q.cur q.due s.views n q.path.moves q.path.is
                  (λ l. absurd (omega arith));
            };
        still = still_more N (get_or s.words 1 0) s.views n q.still refl;
      })

  -- a note is heard, and the note's own view stays
  pub note_joins : (id : ℕ) (v : View) (other : ℕ) (n : View) → Joins (Ruled T R N) id v other n
      (having_heard v n) n
  note_joins id v other n s whole at apart there = let w : View = having_heard v n in let q =
      whole.parts in let f = q.world.fits id v at in
      let there' : SeatAt s.views other n = sym (set_else s.views id other w apart) ∙ there in
      ruled T framed R N _
      (subst (λ (l : List View). Parts T R N record {
        words = s.words;
        homes = s.homes;
        views = l;
      }) (sym (set_again (set s.views id w) other n there))
      (view_set T framed R N s q id v w at refl refl refl refl refl refl refl refl refl refl
      (λ on. ((q.turn.holder id v at on).2, refl))
      (record {
        seen = f.seen;
        told = (q.world.fits other n there').seen;
        own = f.own;
        mine = f.mine;
        pinned = f.pinned;
      })
      (drains_same N q.cur q.mask q.due q.beside s.words s.words s.views id v w q.pins at refl refl
      refl refl refl)
      (counts_same N q.cur s.views id v w q.counts at refl (inl refl) refl refl)
      (still_same N (get_or s.words 1 0) (get_or s.words 1 0) s.views id w v q.still at refl refl
      refl)))
