-- Taking and giving back the turn keep the rule.
use Rattle.mst_words.proofs.Names.{◌≡◌, ℕ, ◌+◌, ◌<◌, ◌≤◌, ◌≢◌, inl, inr, true, false, Some, None, eqb, List, [], ◌∷◌, set, get_or, sym, refl, ap, ◌∙◌, subst, arith, length-set, get_or-set_same, some, none, Me, step, keeps, carried_after, rest, stepped, Allows, first_record, table_words, View, DeskState, History, In, Meaning, IsFramed, Agrees, Standing, Turn, Parts, Ruled, IsFree, takes_turn, IsGiving, gives_turn, IsPrefix-itself}
use lib.ListN.{get_elem?}
use prog.Atomic.{either}
use Rattle.atomic_table.specs.Table.{Act, takes, gives, Valid}
use Rattle.atomic_table.proofs.Lists.{exchanged}
use Rattle.mst_words.proofs.Members.{in_nothing}
use Rattle.mst_words.proofs.Worlds.{world_set, each_dealt}
use Rattle.mst_words.proofs.Seats.{same_view}
use Rattle.mst_words.proofs.Turns.{turn_taken, turn_given, only_one}
use Rattle.mst_words.proofs.PinParts.{bits_stay, pins_same}
use Rattle.mst_words.proofs.RowParts.{kept_upper, held_upper, reads_to, rows_to, rows_upper}
use Rattle.mst_words.proofs.Follows.{live_not_drained, ruled}
use Rattle.mst_words.proofs.Looked.{counted}
use Rattle.mst_words.proofs.Steps.{stays, St}
use Rattle.mst_words.proofs.Marks.{clear_same, counts_set}
use Rattle.mst_words.proofs.Paths.{path_same}
use Rattle.mst_words.proofs.Stills.{still_set}

two_passes : (a b next passes : ℕ) → 0 < a → 0 < b → (a ≡ b → ⊥) → a < next → b < next
    → next ≤ passes + 1 → 1 < passes
two_passes a b next passes p q apart l m few = omega (arith, apart)

module _ {S : Type 0} (T : Meaning S) (framed : IsFramed T) (R N : ℕ) where
  -- ---- the turn is taken
  pub taken : (s : St T framed R N) (q : Parts T R N s) (id p : ℕ) (v : View) → get_elem? s.views id
      ≡ some v → v.number ≡ p → 0 < p → v.pin ≡ None → (x : S) → s.homes ≡ some x ∷ []
      → q.due ≡ None → get_or s.words 0 0 ≡ 0
      → Parts T R N
      (stepped s 0 p id []
      (record v {
        seen = q.log;
        known_words = s.words;
        turn = true;
        desk = q.desk;
        due = None;
        mask = 0;
        drained = [];
        blocked = [];
        noted = None;
        found = [];
        asked = v.asked + 1;
      }) (takes 0 x))
  taken s q id p v at number some_pass unpinned x homes settled free = let w : View =
      record v {
        seen = q.log;
        known_words = s.words;
        turn = true;
        desk = q.desk;
        due = None;
        mask = 0;
        drained = [];
        blocked = [];
        noted = None;
        found = [];
        asked = v.asked + 1;
      } in
      let ws : List ℕ = set s.words 0 p in
      let upper : (k : ℕ) → first_record ≤ k → get_or ws k 0 ≡ get_or s.words k 0 =
      λ k l. stays s.words 0 p k (λ f. omega arith) in record {
        log = q.log;
        next = q.next;
        cur = q.cur;
        mask = q.mask;
        due = q.due;
        beside = q.beside;
        desk = q.desk;
        place = q.place;
        used = q.used;
        wide = length-set s.words 0 p ∙ q.wide;
        turn =
            subst (λ (z : ℕ). Turn T R N z (set s.homes 0 none) q.desk q.due q.log
            (set s.views id w))
            (sym (get_or-set_same s.words 0 p 0 (let a = q.wide in omega arith)))
            (turn_taken T R N p x s.homes q.desk q.due q.due q.log s.views id v w
            (subst (λ (z : ℕ). Turn T R N z s.homes q.desk q.due q.log s.views) free q.turn) at
            some_pass homes number refl refl refl);
        pins = pins_same N q.cur q.mask q.due q.beside s.words ws s.views id v w q.pins at
            (stays s.words 0 p 1 (λ f. omega arith))
            (λ r l. stays s.words 0 p (r + 2) (λ f. omega arith)) refl refl
            (λ _. record {
              due_is = sym settled;
              mask_is = λ r is. absurd (let f : None ≡ Some r = sym settled ∙ is in cc);
              drained = λ r within. absurd (in_nothing r within);
            });
        rows = rows_upper T framed R N q.cur s.words q.log q.desk q.place q.used s.views id v q.rows
            at ws w upper (length-set s.words 0 p)
            (λ r e. absurd (let f : None ≡ Some r = sym unpinned ∙ e in cc))
            (λ _. (sym (length-set s.words 0 p), upper));
        world = world_set R N T.first q.next q.log s.views id v w q.world at
            (record { number = refl; deals = refl; rows = refl; passes = refl; format = refl })
            (let f = q.world.fits id v at in
            record {
              seen = IsPrefix-itself q.log;
              told = f.told;
              own = f.own;
              mine = λ _. f.own;
              pinned = f.pinned;
            });
        clear = clear_same N q.beside q.beside s.words ws s.views id v w q.clear at
            (λ r k l. bits_stay q.beside s.words ws r k
            (stays s.words 0 p (r + 2) (λ f. omega arith))) refl refl;
        counts = counts_set N q.cur s.views id v w q.counts at refl (inl refl) (λ _. ([], tt));
        path =
            record {
              moves = q.path.moves;
              is = path_same N q.cur q.due s.views id v w q.path.moves
                  q.path.is at refl refl;
            };
        still = still_set N (get_or s.words 1 0) (get_or ws 1 0) s.views id w q.still
            (stays s.words 0 p 1 (λ f. omega arith))
            (λ _ _ k is. absurd (let c : None ≡ Some k = is in cc));
      }

  -- where the turn is held, another pass holds it
  other_holder : (s : St T framed R N) (q : Parts T R N s) (id number : ℕ) (me : Me S View)
      → get_elem? s.views id ≡ some me.0 → IsFree number me → get_or s.words 0 0 ≢ 0
      → 1 < me.0.passes
  other_holder s q id number me at free miss = let busy : 0 < get_or s.words 0 0 =
      omega (arith, miss) in let a = (q.turn.taken busy).1 in let i : ℕ = a.0 in let u : View =
      a.1 in
      let h = q.turn.holder i u a.2 a.3 in let mine = q.world.placed id me.0 at in let theirs =
      q.world.placed i u a.2 in
      let some_pass : 0 < u.number = subst (λ (z : ℕ). 0 < z) (sym h.1) busy in
      subst (λ (z : ℕ). 1 < z) (sym mine.passes_is)
      (two_passes u.number me.0.number q.next N some_pass
      (subst (λ (z : ℕ). 0 < z) (sym free.3) free.4)
      (λ is. let here = q.world.apart i id u me.0 a.2 at some_pass is in
      let c : true ≡ false =
      sym a.3 ∙ ap (λ (z : View). z.turn)
      (same_view s.views id u me.0 (subst (λ (z : ℕ). get_elem? s.views z ≡ some u) here a.2)
      at) ∙ free.1 in cc)
      theirs.number mine.number q.world.few)

  pub takes_allows : (slots id p number : ℕ) (me : Me S View) → p ≡ number → IsFree number me
      → Allows (Ruled T R N) slots id me 0 (λ n. either (eqb n 0) p n)
      (takes_turn T (step slots 0 0 p none) me)
  takes_allows slots id p number me same free s whole _ at _ = let q =
      whole.parts in exchanged (get_or s.words 0 0) 0 p
      (λ n. (w : View) × (a : Act S) × Valid s.homes me.1 a
      × Ruled T R N (stepped s 0 n id me.1 w a) × takes_turn T (step slots 0 0 p none) me
      (get_or s.words 0 0) (w, carried_after me.1 a))
      (λ hit. let h = q.turn.free hit in let w : View =
      record me.0 {
        seen = q.log;
        known_words = s.words;
        turn = true;
        desk = q.desk;
        due = None;
        mask = 0;
        drained = [];
        blocked = [];
        noted = None;
        found = [];
        asked = me.0.asked + 1;
      } in let place = q.world.placed id me.0 at in (
        w,
        takes 0 h.0,
        ap (λ (l : List (mathlib.Core.Option.Option S)). get_elem? l 0) h.1,
        ruled T framed R N _
            (subst (λ (c : List (ℕ × S)). Parts T R N (stepped s 0 p id c w (takes 0 h.0)))
            (sym free.0)
            (taken s q id p me.0 at (free.3 ∙ sym same) (subst (λ (z : ℕ). 0 < z) (sym same) free.4)
            free.2 h.0 h.1 h.3 hit)),
        (
          refl,
          (λ _. record {
            value = h.0;
            desk = q.desk;
            log = q.log;
            words = s.words;
            used = q.used q.cur;
            dealt = (
              subst (λ (z : ℕ). 0 < z) (sym free.3) free.4,
              (let a = place.number in let b = q.world.few in let c = place.passes_is in
                  omega arith),
            );
            is_desk = rw place.rows_is (rw place.passes_is h.2);
            later = (q.world.fits id me.0 at).seen;
            own = (q.world.fits id me.0 at).own;
            alone = each_dealt R N T.first q.next q.log s.views id me.0 q.world at;
            short = q.rows.short;
            wide = q.wide ∙ ap (λ (z : ℕ). table_words z) (sym place.rows_is);
            stands =
                rw place.rows_is
                (rw place.passes_is
                (subst (λ (c : ℕ). Standing T R N s.words q.log q.desk c q.log (q.used q.cur))
                (sym q.rows.desk_at)
                (subst (λ (l : History). Standing T R N s.words q.log q.desk q.cur l (q.used q.cur))
                q.rows.now (q.rows.live q.cur (inl refl)))));
            is = ap (λ (c : List (ℕ × S)). (w, (0, h.0) ∷ c)) free.0;
          }),
          (λ miss. absurd (miss hit)),
        ),
      ))
      (λ miss. (
        record me.0 { asked = me.0.asked + 1; missed = me.0.missed + 1 },
        keeps,
        tt,
        ruled T framed R N _
            (counted T framed R N s q id 0 me.1 me.0 me.0.found (me.0.missed + 1) at),
        (
          refl,
          (λ hit. absurd (miss hit)),
          (λ _. record { is = refl; others = other_holder s q id number me at free miss }),
        ),
      ))

  -- ---- the turn is given back
  given : (s : St T framed R N) (q : Parts T R N s) (id : ℕ) (v : View) (x : S) (d : DeskState)
      → get_elem? s.views id ≡ some v → v.turn ≡ true → v.due ≡ None → T.IsDesk x R N d
      → d.current ≡ v.desk.current
      → ((r : ℕ) → r < N + 2 → (In r v.drained → ⊥) → Agrees T v.desk d r)
      → Parts T R N (stepped s 0 0 id ((0, x) ∷ []) (record v { turn = false }) gives)
  given s q id v x d at on settled is_desk current agrees = let w : View =
      record v { turn = false } in let ws : List ℕ = set s.words 0 0 in let h =
      q.turn.holder id v at on in let known = q.pins.holder id v at on in
      let only = only_one T R N _ _ _ _ _ s.views id v q.turn at on q.world.apart in
      let upper : (k : ℕ) → first_record ≤ k → get_or ws k 0 ≡ get_or s.words k 0 =
      λ k l. stays s.words 0 0 k (λ f. omega arith) in record {
        log = q.log;
        next = q.next;
        cur = q.cur;
        mask = q.mask;
        due = q.due;
        beside = q.beside;
        desk = d;
        place = q.place;
        used = q.used;
        wide = length-set s.words 0 0 ∙ q.wide;
        turn =
            subst (λ (z : ℕ). Turn T R N z (set s.homes 0 (some x)) d q.due q.log
            (set s.views id w))
            (sym (get_or-set_same s.words 0 0 0 (let a = q.wide in omega arith)))
            (turn_given T R N _ x s.homes q.desk d q.due q.log s.views id v w q.turn at on only refl
            is_desk (sym known.due_is ∙ settled));
        pins = pins_same N q.cur q.mask q.due q.beside s.words ws s.views id v w q.pins at
            (stays s.words 0 0 1 (λ f. omega arith))
            (λ r l. stays s.words 0 0 (r + 2) (λ f. omega arith)) refl refl
            (λ own. absurd (let c : false ≡ true = own in cc));
        rows = rows_to T framed R N q.cur s.words q.log q.desk q.place q.used s.views id v q.rows at
            ws d w (current ∙ ap (λ (z : DeskState). z.current) h.3 ∙ q.rows.desk_at)
            (λ r _. kept_upper R s.words ws upper r (q.used r))
            (λ r l. subst (λ (z : DeskState). Agrees T z d r) h.3
            (agrees r (q.rows.live r l).numbered
            (live_not_drained N q.cur q.due q.beside s.views v known r l)))
            (λ r e. (
              inr (id, v, at, e),
              reads_to T framed R N s.words ws r (q.place r) (q.used r) v
                  w (q.rows.reads id v at r e) (kept_upper R s.words ws upper r (q.used r)) refl
                  refl
                  refl,
            ))
            (λ own. absurd (let c : false ≡ true = own in cc))
            (λ i u _ e own. held_upper T framed R N s.words ws u u upper (length-set s.words 0 0)
            refl (q.rows.held i u e own));
        world = world_set R N T.first q.next q.log s.views id v w q.world at
            (record { number = refl; deals = refl; rows = refl; passes = refl; format = refl })
            (let f = q.world.fits id v at in
            record { seen = f.seen; told = f.told; own = f.own; mine = f.mine; pinned = f.pinned });
        clear = clear_same N q.beside q.beside s.words ws s.views id v w q.clear at
            (λ r k l. bits_stay q.beside s.words ws r k
            (stays s.words 0 0 (r + 2) (λ f. omega arith))) refl refl;
        counts = counts_set N q.cur s.views id v w q.counts at refl (inl refl)
            (λ own. absurd (let c : false ≡ true = own in cc));
        path =
            record {
              moves = q.path.moves;
              is = path_same N q.cur q.due s.views id v w q.path.moves
                  q.path.is at refl refl;
            };
        still = still_set N (get_or s.words 1 0) (get_or ws 1 0) s.views id w q.still
            (stays s.words 0 0 1 (λ f. omega arith))
            (λ own. absurd (let c : false ≡ true = own in cc));
      }

  pub gives_allows : (slots id : ℕ) (x : S) (d : DeskState) (me : Me S View) → IsGiving T x d me
      → Allows (Ruled T R N) slots id me 0 (λ _. 0) (λ _. gives_turn (step slots 0 0 0 none) me 0)
  gives_allows slots id x d me g s whole _ at _ = let q = whole.parts in let v : View =
      me.0 in let w : View = record v { turn = false } in (
        w,
        gives,
        tt,
        ruled T framed R N _ (subst (λ (c : List (ℕ × S)). Parts T R N (stepped s 0 0 id c w gives))
            (sym g.slot) (let place = q.world.placed id v at in given s q id v x d at g.on g.settled
            (rw (sym place.rows_is) (rw (sym place.passes_is) g.is_desk)) g.current
            (rw (sym place.passes_is) g.agrees))),
        (refl, ap (λ (c : List (ℕ × S)). (w, rest c)) g.slot),
      )
