-- A step that changes no word, no pin and nothing that the turn ties keeps the rule.
use Rattle.mst_words.proofs.Names.{◌≡◌, ℕ, ◌+◌, inl, true, List, set, get_or, sym, refl, ◌∙◌, subst, State, keeps, stepped, View, SeatAt, Fits, Drains, Counts, Meaning, IsFramed, Parts, Still}
use lib.Seq.{set-get_or}
use Rattle.mst_words.proofs.Worlds.{world_set}
use Rattle.mst_words.proofs.Turns.{turn_same}
use Rattle.mst_words.proofs.PinParts.{pins_same, drains_same}
use Rattle.mst_words.proofs.RowParts.{held_upper, rows_upper, pin_stays}
use Rattle.mst_words.proofs.Marks.{clear_same, counts_same}
use Rattle.mst_words.proofs.Paths.{path_same}
use Rattle.mst_words.proofs.Stills.{still_same}

module _ {S : Type 0} (T : Meaning S) (framed : IsFramed T) (R N : ℕ) where
  -- one view changes
  pub view_set : (s : State S View) (q : Parts T R N s) (id : ℕ) (v w : View) → SeatAt s.views id v
      → w.rows ≡ v.rows → w.passes ≡ v.passes → w.format ≡ v.format → w.number ≡ v.number
      → w.deals ≡ v.deals → w.pin ≡ v.pin → w.pinned_history ≡ v.pinned_history → w.pinned_rows
      ≡ v.pinned_rows
      → w.known_words ≡ v.known_words → w.turn ≡ v.turn
      → (v.turn ≡ true → (w.seen ≡ q.log) × (w.desk ≡ v.desk)) → Fits q.log w
      → (w.turn ≡ true → Drains N q.cur q.due q.beside (set s.views id w) w)
      → Counts N q.cur (set s.views id w) → Still N (get_or s.words 1 0) (set s.views id w)
      → Parts T R N record { words = s.words; homes = s.homes; views = set s.views id w }
  view_set s q id v w at rows passes format number deals pin pinned_history pinned_rows known_words
      turn kept fits drains counts still = record {
        log = q.log;
        next = q.next;
        cur = q.cur;
        mask = q.mask;
        due = q.due;
        beside = q.beside;
        desk = q.desk;
        place = q.place;
        used = q.used;
        wide = q.wide;
        turn = turn_same T R N (get_or s.words 0 0) s.homes q.desk q.due q.log s.views id v w q.turn
            at
            number turn kept;
        pins = pins_same N q.cur q.mask q.due q.beside s.words s.words s.views id v w q.pins at refl
            (λ _ _. refl) number pin drains;
        rows = rows_upper T framed R N q.cur s.words q.log q.desk q.place q.used s.views id v q.rows
            at
            s.words w (λ k _. refl) refl
            (pin_stays T framed R N q.cur s.words q.log q.desk q.place q.used s.views id v q.rows at
            s.words w (λ k _. refl) pin pinned_history pinned_rows known_words)
            (λ on. held_upper T framed R N s.words s.words v w (λ k _. refl) refl known_words
            (q.rows.held id v at (sym turn ∙ on)));
        world = world_set R N T.first q.next q.log s.views id v w q.world at
            (record {
              number = number;
              deals = deals;
              rows = rows;
              passes = passes;
              format = format;
            })
            fits;
        clear = clear_same N q.beside q.beside s.words s.words s.views id v w q.clear at
            (λ r k _. refl)
            number pin;
        counts = counts;
        path =
            record {
              moves = q.path.moves;
              is = path_same N q.cur q.due s.views id v w q.path.moves
                  q.path.is at number pin;
            };
        still = still;
      }

  -- one view changes by a load
  pub looked : (s : State S View) (q : Parts T R N s) (id i : ℕ) (cs : List (ℕ × S)) (v w : View)
      → SeatAt s.views id v → w.rows ≡ v.rows → w.passes ≡ v.passes → w.format ≡ v.format
      → w.number ≡ v.number → w.deals ≡ v.deals → w.pin ≡ v.pin → w.pinned_history
      ≡ v.pinned_history → w.pinned_rows ≡ v.pinned_rows
      → w.known_words ≡ v.known_words → w.turn ≡ v.turn
      → (v.turn ≡ true → (w.seen ≡ q.log) × (w.desk ≡ v.desk)) → Fits q.log w
      → (w.turn ≡ true → Drains N q.cur q.due q.beside (set s.views id w) w)
      → Counts N q.cur (set s.views id w) → Still N (get_or s.words 1 0) (set s.views id w)
      → Parts T R N (stepped s i (get_or s.words i 0) id cs w keeps)
  looked s q id i cs v w at rows passes format number deals pin pinned_history pinned_rows
      known_words turn kept fits drains counts still =
      subst (λ (z : List ℕ). Parts T R N record {
        words = z;
        homes = s.homes;
        views = set s.views id w;
      }) (sym (set-get_or s.words i 0))
      (view_set s q id v w at rows passes format number deals pin pinned_history pinned_rows
      known_words turn kept fits drains counts still)

  -- a step is counted, which may have been a try of the turn or found a version pinned, and nothing
  -- else changes
  pub counted : (s : State S View) (q : Parts T R N s) (id i : ℕ) (cs : List (ℕ × S)) (v : View)
      (found : List ℕ) (missed : ℕ) → SeatAt s.views id v
      → Parts T R N
      (stepped s i (get_or s.words i 0) id cs
      (record v { found = found; asked = v.asked + 1; missed = missed }) keeps)
  counted s q id i cs v found missed at = let w : View =
      record v { found = found; asked = v.asked + 1; missed = missed } in let f =
      q.world.fits id v at in
      looked s q id i cs v w at refl refl refl refl refl refl refl refl refl refl
      (λ on. ((q.turn.holder id v at on).2, refl))
      (record { seen = f.seen; told = f.told; own = f.own; mine = f.mine; pinned = f.pinned })
      (drains_same N q.cur q.mask q.due q.beside s.words s.words s.views id v w q.pins at refl refl
      refl refl refl)
      (counts_same N q.cur s.views id v w q.counts at refl (inl refl) refl refl)
      (still_same N (get_or s.words 1 0) (get_or s.words 1 0) s.views id w v q.still at refl refl
      refl)
