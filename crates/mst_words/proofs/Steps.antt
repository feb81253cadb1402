-- Each step keeps the rule.
use Rattle.mst_words.proofs.Names.{◌≡◌, ℕ, ◌+◌, ◌<◌, ◌≤◌, ◌≢◌, ◌⊎◌, inl, true, Some, None, List, set, get_or, sym, refl, ap, ◌∙◌, subst, ⊎_elim, arith, length-set, get_or-set_same, get_or-set_other, dite, some, none, ℕ_discrete, State, Me, step, keeps, stepped, Allows, set_again, In, first_record, record_word, record_words, row_word, row_words, table_words, View, Meaning, IsFramed, IsLive, IsBlank, Turn, Parts, Ruled, IsReadable, IsWritable}
use lib.ListN.{get_elem?}
use lib.Seq.{set-get_or}
use Rattle.mst_words.specs.Steps.{reads, writes}
use Rattle.mst_words.proofs.Worlds.{world_set}
use Rattle.mst_words.proofs.Turns.{turn_same, only_one}
use Rattle.mst_words.proofs.PinParts.{bits_stay, pins_same, drains_same}
use Rattle.mst_words.proofs.Places.{place_above, place_below, place_apart}
use Rattle.mst_words.proofs.RowParts.{Kept, kept_else, agrees_same, rows_to}
use Rattle.mst_words.proofs.Marks.{clear_same, counts_same}
use Rattle.mst_words.proofs.Paths.{path_same}
use Rattle.mst_words.proofs.Stills.{still_same}
use Rattle.mst_words.proofs.Follows.{live_not_drained, blank_apart, ruled}

-- ---- one word changes

pub stays : (ws : List ℕ) (i n j : ℕ) → j ≢ i → get_or (set ws i n) j 0 ≡ get_or ws j 0
stays ws i n j other = get_or-set_other ws i j n 0 other

module _ {S : Type 0} (T : Meaning S) (framed : IsFramed T) (R N : ℕ) where
  abbrev pub St : Type 0
  St = State S View

  -- nothing changes
  pub unmoved : (s : St) (q : Parts T R N s) (id i : ℕ) (cs : List (ℕ × S)) (v : View)
      → get_elem? s.views id ≡ some v → Parts T R N (stepped s i (get_or s.words i 0) id cs v keeps)
  unmoved s q id i cs v at =
      subst (λ (z : List ℕ × List View). Parts T R N record {
        words = z.0;
        homes = s.homes;
        views = z.1;
      })
      (λ j. (sym (set-get_or s.words i 0) j, sym (set_again s.views id v at) j)) q

  -- ---- a word is loaded
  pub reads_allows : (slots id i : ℕ) (me : Me S View) → IsReadable me.0 i → Allows (Ruled T R N)
      slots id me i (λ n. n) (reads (step slots i 0 0 none) me)
  reads_allows slots id i me can s whole _ at _ = let q = whole.parts in let v : View = me.0 in (
    v,
    keeps,
    tt,
    ruled T framed R N _ (unmoved s q id i me.1 v at),
    (
      can,
      refl,
      ⊎_elim
          (λ (t : (v.turn ≡ true) × (first_record ≤ i)). (q.rows.held id v at t.0).1 i t.1)
          (λ (t : ((r k : ℕ) × (v.pin ≡ Some r) × (k < record_words) × (i ≡ record_word r k))
          ⊎ ((r x k : ℕ) × (v.pin ≡ Some r) × In x v.pinned_rows × (k < row_words)
          × (i ≡ row_word v.rows x k))). ⊎_elim
          (λ (t : (r k : ℕ) × (v.pin ≡ Some r) × (k < record_words) × (i ≡ record_word r k)). ap
          (λ (z : ℕ). get_or s.words z 0) t.4 ∙ (q.rows.reads id v at t.0 t.2).fields t.1 t.3
          ∙ ap (λ (z : ℕ). get_or v.known_words z 0) (sym t.4))
          (λ (t : (r x k : ℕ) × (v.pin ≡ Some r) × In x v.pinned_rows × (k < row_words)
          × (i ≡ row_word v.rows x k)). let h = q.rows.reads id v at t.0 t.3 in
          let is : i ≡ row_word R t.1 t.2 = t.6
          ∙ ap (λ (z : ℕ). row_word z t.1 t.2) (q.world.placed id v at).rows_is in
          ap (λ (z : ℕ). get_or s.words z 0) is
          ∙ h.kept t.1 (subst (λ (l : List ℕ). In t.1 l) h.rows_are t.4) t.2 t.5
          ∙ ap (λ (z : ℕ). get_or v.known_words z 0) (sym is)) t)
          can,
    ),
  )

  -- ---- a word is stored
  pub writes_allows : (slots id i x : ℕ) (me : Me S View) → me.0.turn ≡ true → me.0.pin ≡ None
      → IsWritable T me.0 i → Allows (Ruled T R N) slots id me i (λ _. x)
      (λ _. writes (step slots i x 0 none) me x)
  writes_allows slots id i x me on free can s whole _ at _ = let q = whole.parts in let v : View =
      me.0 in let inside = below s q at in let w : View =
      record v { known_words = set v.known_words i x } in let ws : List ℕ = set s.words i x in
      let h = q.rows.held id v at on in let known = q.pins.holder id v at on in let only =
      only_one T R N _ _ _ _ _ s.views id v q.turn at on q.world.apart in (
        w,
        keeps,
        tt,
        ruled T framed R N (stepped s i x id me.1 w keeps) record {
          log = q.log;
          next = q.next;
          cur = q.cur;
          mask = q.mask;
          due = q.due;
          beside = q.beside;
          desk = q.desk;
          place = q.place;
          used = q.used;
          wide = length-set s.words i x ∙ q.wide;
          turn = subst (λ (z : ℕ). Turn T R N z s.homes q.desk q.due q.log (set s.views id w))
              (sym (low 0 (omega arith)))
              (turn_same T R N _ s.homes q.desk q.due q.log s.views id v w q.turn at refl refl
              (λ _. ((q.turn.holder id v at on).2, refl)));
          pins = pins_same N q.cur q.mask q.due q.beside s.words ws s.views id v w q.pins at
              (low 1 (omega arith)) (λ r l. low (r + 2) (let few = q.pins.few in omega arith)) refl
              refl
              (drains_same N q.cur q.mask q.due q.beside s.words ws s.views id v w q.pins at refl
              refl refl refl refl);
          rows = rows_to T framed R N q.cur s.words q.log q.desk q.place q.used s.views id v q.rows
              at ws q.desk w q.rows.desk_at kept (λ r _. agrees_same T framed R N q.desk r)
              (λ r e. absurd (let f : None ≡ Some r = sym free ∙ e in cc))
              (λ _. (
                length-set v.known_words i x ∙ h.0 ∙ sym (length-set s.words i x),
                λ k l. dite (ℕ_discrete k i)
                    (λ is. ap (λ (z : ℕ). get_or ws z 0) is ∙ get_or-set_same s.words i x 0
                    (let a = q.wide in omega arith)
                    ∙ sym (get_or-set_same v.known_words i x 0 (let a = q.wide in let b =
                    h.0 in omega arith)) ∙ ap (λ (z : ℕ). get_or (set v.known_words i x) z 0)
                    (sym is))
                    (λ not. stays s.words i x k not ∙ h.1 k l
                    ∙ sym (stays v.known_words i x k not)),
              ))
              (λ j u other e own. absurd (other (only j u e own)));
          world = world_set R N T.first q.next q.log s.views id v w q.world at
              (record { number = refl; deals = refl; rows = refl; passes = refl; format = refl })
              (let f = q.world.fits id v at in
              record {
                seen = f.seen;
                told = f.told;
                own = f.own;
                mine = f.mine;
                pinned = f.pinned;
              });
          clear = clear_same N q.beside q.beside s.words ws s.views id v w q.clear at
              (λ r k l. bits_stay q.beside s.words ws r k
              (low (r + 2) (let few = q.pins.few in omega arith))) refl refl;
          counts = counts_same N q.cur s.views id v w q.counts at refl (inl refl) refl refl;
          path =
              record {
                moves = q.path.moves;
                is = path_same N q.cur q.due s.views id v w q.path.moves q.path.is at refl refl;
              };
          still = still_same N (get_or s.words 1 0) (get_or ws 1 0) s.views id w v q.still at
              (low 1 (omega arith)) refl refl;
        },
        refl,
      )
    where
      below : (s : St) (q : Parts T R N s) → get_elem? s.views id ≡ some me.0 → i < table_words R
      below s q at = let e = (q.world.placed id me.0 at).rows_is in let few =
          q.pins.few in
          ⊎_elim (λ (t : (x k : ℕ) × IsBlank T me.0 x × (k < row_words)
          × (i ≡ row_word me.0.rows x k)).
          let a = t.4 in let b = place_below me.0.rows t.0 t.1 t.2.0 t.3 in
          omega (arith, a, b, e))
          (λ (t : (r k : ℕ) × In r me.0.drained × (k < record_words) × (i ≡ record_word r k)).
          let a = t.4 in let b = t.3 in let c =
          ((q.pins.holder id me.0 at on).drained t.0 t.2).0 in omega arith) can

      above : first_record ≤ i
      above =
          ⊎_elim (λ (t : (x k : ℕ) × IsBlank T me.0 x × (k < row_words)
          × (i ≡ row_word me.0.rows x k)).
          let e = t.4 in let a = place_above me.0.rows t.0 t.1 in omega (arith, e, a))
          (λ (t : (r k : ℕ) × In r me.0.drained × (k < record_words) × (i ≡ record_word r k)).
          let e = t.4 in omega arith) can

      low : (j : ℕ) → j < first_record → get_or (set s.words i x) j 0 ≡ get_or s.words j 0
      low j l = stays s.words i x j (λ e. let a = above in omega arith)

      sized : me.0.rows ≡ R
      sized = (whole.parts.world.placed id me.0 at).rows_is

      kept : (r : ℕ) → IsLive whole.parts.cur s.views r → Kept R s.words (set s.words i x) r
          (whole.parts.used r)
      kept r live = ⊎_elim
          (λ (t : (x k : ℕ) × IsBlank T me.0 x × (k < row_words) × (i ≡ row_word me.0.rows x k)).
          kept_else R s.words i x r (whole.parts.used r)
          (λ k l e. let a = t.4 in let b = (whole.parts.rows.live r live).numbered in let few =
          whole.parts.pins.few in let c = place_above me.0.rows t.0 t.1 in
          omega (arith, a, b, few, c, e, l))
          (λ y within k l e. let is : i ≡ row_word R t.0 t.1 = t.4
          ∙ ap (λ (z : ℕ). row_word z t.0 t.1) sized in
          let same : y ≡ t.0 =
          (place_apart R y t.0 k t.1 ((whole.parts.rows.live r live).inside y within)
          (subst (λ (z : ℕ). t.0 < z) sized t.2.0) l t.3 (e ∙ is)).0 in blank_apart T framed R N s
          whole.parts id me.0 at on t.0 t.2 r live
          (subst (λ (z : ℕ). In z (whole.parts.used r)) same within))
          (λ j other. stays s.words i x j other))
          (λ (t : (r k : ℕ) × In r me.0.drained × (k < record_words) × (i ≡ record_word r k)).
          kept_else R s.words i x r (whole.parts.used r)
          (λ k l e. let a = t.4 in let b = t.3 in let same : t.0 ≡ r =
          omega arith in live_not_drained N whole.parts.cur whole.parts.due whole.parts.beside
          s.views me.0 (whole.parts.pins.holder id me.0 at on) r live
          (subst (λ (z : ℕ). In z me.0.drained) same t.2))
          (λ y within k l e. let a = t.4 in let b = t.3 in let c =
          ((whole.parts.pins.holder id me.0 at on).drained t.0 t.2).0 in let few =
          whole.parts.pins.few in let d = place_above R y k in omega (arith, a, b, c, few, d, e))
          (λ j other. stays s.words i x j other)) can
