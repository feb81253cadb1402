-- The worked table is reached by the events of its steps: pass 1 pins record 0, record 1 is
-- published, and the pin is moved. It is not reached if one of them is left out.
use Rattle.mst_words.proofs.Names.{◌≡◌, ℕ, inl, inr, Some, None, List, [], ◌∷◌, set, sym, refl, ap, ◌∙◌, subst, arith, lit<, is_some, none-some, none, step, One, History, IsPrefix-nil, Pin, Publish, Transfer, after, masks, View, DeskState, dealer, Standing, ComesTo, pins_now, takes_turn, desk_state, pinning, trying, asking, transferring, Table, IsReachedBy, GoesBy, IsLedTo}
use Rattle.std.proofs.lemmas.Bool.{false≢true}
use Rattle.mst_pin.specs.State.{State, opening}
use Rattle.mst_words.proofs.Members.{in_nothing, in_first}
use Rattle.mst_words.proofs.Fresh.{fresh_is_desk}
use Rattle.mst_words.proofs.Moves.{due_held}
use Rattle.mst_words.proofs.Led.{led}
use Rattle.mst_words.proofs.Worked.{T, shape, fresh, words, begun, begun_ruled, pass, at, one_dealt, dealt, none_seen, cur_is, used, reader, pinned, desk_is, held, writer, Ready, turn_taken, slot, asked, found, event, later, publisher, published, after_words, after_views, moved}

abbrev of : (ws : List ℕ) (vs : List View) → Ready ws vs → Table
of ws vs h = record { words = ws; homes = h.homes; views = vs }

-- ---- the steps

abbrev one_pass : Table
one_pass = at words (dealer 4 2 One 2 ∷ pass 1 ∷ [])

abbrev two_passes : Table
two_passes = at words (dealer 4 2 One 3 ∷ pass 1 ∷ pass 2 ∷ [])

abbrev with_pin : Table
with_pin = at held (dealer 4 2 One 3 ∷ reader ∷ pass 2 ∷ [])

abbrev with_turn : Table
with_turn = of (set held 0 2) (dealer 4 2 One 3 ∷ reader ∷ writer ∷ []) turn_taken

abbrev with_answer : Table
with_answer = of (set (set held 0 2) 3 0) (dealer 4 2 One 3 ∷ reader ∷ asked ∷ []) found

abbrev with_event : Table
with_event = of (set (set (set held 0 2) 3 0) 1 masks)
    (dealer 4 2 One 3 ∷ reader ∷ publisher 1 ∷ []) published

abbrev pub worked : Table
worked = of after_words after_views moved

deals : GoesBy [] begun one_pass
deals =
    inr
    (inr (
      record {
        seats = inl (record { id = 0; view = dealer 4 2 One 1; at = refl; views = refl });
        words = refl;
      },
      refl,
    ))

deals_again : GoesBy [] one_pass two_passes
deals_again =
    inr
    (inr (
      record {
        seats = inl (record { id = 0; view = dealer 4 2 One 2; at = refl; views = refl });
        words = refl;
      },
      refl,
    ))

pin_told : pins_now T (step 1 1 1 0 none) (pass 1, []) 0 (reader, [])
pin_told = (
  refl,
  record {
    cur = 0;
    mask = 0;
    log = [];
    words = words;
    used = used;
    found_is = refl;
    small = lit< tt;
    in_table = lit< tt;
    wide = dealt.parts.wide;
    later = IsPrefix-nil [];
    own = refl;
    alone = λ k e l. absurd (omega (arith, l));
    version = refl;
    stands = stood.stands;
    inside = stood.inside;
    is = refl;
  },
)
  where
    stood : Standing T 4 2 words [] dealt.parts.desk 0 [] used
    stood = subst (λ (x : ℕ × History). Standing T 4 2 words x.1 dealt.parts.desk x.0 x.1 used)
        (λ i. (
          cur_is i,
          none_seen two_passes (dealer 4 2 One 3) (pass 1) (pass 2) refl refl refl
              refl dealt i,
        ))
        (subst (λ (l : History). Standing T 4 2 words dealt.parts.log dealt.parts.desk
        dealt.parts.cur l used) dealt.parts.rows.now
        (dealt.parts.rows.live dealt.parts.cur (inl refl)))

pins : GoesBy (Pin 1 ∷ []) two_passes with_pin
pins = inl (
  pinning,
  record {
    makes = record {
      id = 1;
      step = step 1 1 1 0 none;
      found = 0;
      before = (pass 1, []);
      after = (reader, []);
      at = refl;
      views = refl;
      tells = pin_told;
    };
    may = (refl, (refl, refl, refl, refl, lit< tt));
    finds = refl;
    words = refl;
  },
  refl,
)

turn_told : takes_turn T (step 1 0 0 2 none) (pass 2, []) 0 (writer, slot)
turn_told = (
  refl,
  (λ _. record {
    value = Some fresh;
    desk = desk_state fresh;
    log = [];
    words = held;
    used = pinned.parts.used pinned.parts.cur;
    dealt = (lit< tt, lit< tt);
    is_desk = fresh_is_desk 4 2;
    later = IsPrefix-nil [];
    own = refl;
    alone = λ k e l. absurd (omega (arith, l));
    short = omega arith;
    wide = pinned.parts.wide;
    stands = stood;
    is = refl;
  }),
  (λ miss. absurd (miss refl)),
)
  where
    cur : pinned.parts.cur ≡ 0
    cur = sym pinned.parts.rows.desk_at ∙ ap (λ (d : DeskState). d.current) desk_is

    stood : Standing T 4 2 held [] (desk_state fresh) 0 [] (pinned.parts.used pinned.parts.cur)
    stood =
        subst (λ (x : ℕ × History × DeskState). Standing T 4 2 held x.1 x.2 x.0 x.1
        (pinned.parts.used pinned.parts.cur))
        (λ i. (
          cur i,
          none_seen with_pin (dealer 4 2 One 3) reader (pass 2) refl refl refl refl
              pinned i,
          desk_is i,
        ))
        (subst (λ (l : History). Standing T 4 2 held pinned.parts.log pinned.parts.desk
        pinned.parts.cur l (pinned.parts.used pinned.parts.cur)) pinned.parts.rows.now
        (pinned.parts.rows.live pinned.parts.cur (inl refl)))

takes : GoesBy [] with_pin with_turn
takes = inl (
  trying,
  record {
    makes = record {
      id = 2;
      step = step 1 0 0 2 none;
      found = 0;
      before = (pass 2, []);
      after = (writer, slot);
      at = refl;
      views = refl;
      tells = turn_told;
    };
    may = (refl, (refl, refl, refl, refl, lit< tt));
    finds = refl;
    words = refl;
  },
  refl,
)

asks : GoesBy [] with_turn with_answer
asks = inl (
  asking,
  record {
    makes = record {
      id = 2;
      step = step 1 3 0 0 none;
      found = 0;
      before = (writer, slot);
      after = (asked, slot);
      at = refl;
      views = refl;
      tells = (1, refl, (λ _. refl), (λ some_there. absurd (some_there refl)));
    };
    may = (1, refl, lit< tt, (λ e. omega (arith, e)), (λ i. in_nothing 1 i), (refl, refl, refl));
    finds = refl;
    words = refl;
  },
  refl,
)

publishes : GoesBy (Publish 1 0 ∷ []) with_answer with_event
publishes = inr (inl (
  1,
  record {
    event = event;
    publishes = record {
      desk = later;
      made = record {
        id = 2;
        step = step 1 1 masks 0 none;
        found = 1;
        before = (asked, slot);
        after = (publisher 1, slot);
        at = refl;
        views = refl;
        tells = (refl, record { mask = 1; small = lit< tt; returned = refl; is = refl });
      };
      on = refl;
    };
    settled = refl;
    drained = in_first 1 1 [] refl;
    words = refl;
  },
  refl,
))

transfers : GoesBy (Transfer ∷ []) with_event worked
transfers = inl (
  transferring,
  record {
    makes =
        record {
          id = 2;
          step = step 1 2 1 0 none;
          found = 0;
          before = (publisher 1, slot);
          after = (record (publisher 1) { due = None }, slot);
          at = refl;
          views = refl;
          tells = ((0, refl, refl), refl);
        };
    may = ((0, refl, refl), refl);
    finds = refl;
    words = refl;
  },
  refl,
)

-- ---- all of them

before_pin : IsLedTo shape (one_pass ∷ begun ∷ []) [] two_passes
before_pin = (
  [],
  [],
  (
    [],
    [],
    (record { seats = refl; turn = refl; current = refl }, refl),
    begun_ruled,
    deals,
    refl,
  ),
  one_dealt,
  deals_again,
  refl,
)

before_event : IsLedTo shape (with_turn ∷ with_pin ∷ two_passes ∷ one_pass ∷ begun ∷ [])
    (Pin 1 ∷ []) with_answer
before_event = (
  Pin 1 ∷ [],
  [],
  (
    Pin 1 ∷ [],
    [],
    ([], Pin 1 ∷ [], before_pin, dealt, pins, refl),
    pinned,
    takes,
    refl,
  ),
  turn_taken.rule,
  asks,
  refl,
)

run : IsLedTo shape (with_event ∷ with_answer ∷ with_turn ∷ with_pin ∷ two_passes ∷ one_pass ∷ begun
    ∷ []) (Transfer ∷ Publish 1 0 ∷ Pin 1 ∷ []) worked
run = (
  Publish 1 0 ∷ Pin 1 ∷ [],
  Transfer ∷ [],
  (Pin 1 ∷ [], Publish 1 0 ∷ [], before_event, found.rule, publishes, refl),
  published.rule,
  transfers,
  refl,
)

reached : IsReachedBy shape (Transfer ∷ Publish 1 0 ∷ Pin 1 ∷ []) worked moved.rule
reached =
    led shape (with_event ∷ with_answer ∷ with_turn ∷ with_pin ∷ two_passes ∷ one_pass ∷ begun ∷ [])
    (Transfer ∷ Publish 1 0 ∷ Pin 1 ∷ []) worked moved.rule run

-- ---- one event left out

-- with no pin, pass 1 has none
no_pin : IsReachedBy shape (Transfer ∷ Publish 1 0 ∷ []) worked moved.rule → ⊥
no_pin p =
    none-some 0 (sym (ap (λ (s : State). s.pins 1) (same p.state p.comes)) ∙ p.pins_are 1 reader
    refl (lit< tt))
  where
    same : (s : State) → ComesTo 2 (Transfer ∷ Publish 1 0 ∷ []) s
        → s ≡ after (after (opening 2) (Publish 1 0)) Transfer
    same s (a, (b, is, _, _, f), _, _, g) = g ∙ ap (λ (x : State). after x Transfer)
        (f ∙ ap (λ (x : State). after x (Publish 1 0)) is)

-- with no transfer, that of record 0 waits
no_transfer : IsReachedBy shape (Publish 1 0 ∷ Pin 1 ∷ []) worked moved.rule → ⊥
no_transfer p =
    none-some 0 (sym
    (p.due_is ∙ due_held shape worked moved.rule 2 (record (publisher 1) { due = None }) refl refl)
    ∙ ap (λ (s : State). s.due) (same p.state p.comes))
  where
    same : (s : State) → ComesTo 2 (Publish 1 0 ∷ Pin 1 ∷ []) s
        → s ≡ after (after (opening 2) (Pin 1)) (Publish 1 0)
    same s (a, (b, is, _, _, f), _, _, g) = g ∙ ap (λ (x : State). after x (Publish 1 0))
        (f ∙ ap (λ (x : State). after x (Pin 1)) is)

-- with no publication there is nothing to transfer
no_publication : (s : State) → ComesTo 2 (Transfer ∷ Pin 1 ∷ []) s → ⊥
no_publication s (a, (b, is, _, _, f), _, took, g) =
    false≢true (sym (ap (λ (x : State). is_some x.due) (f ∙ ap (λ (x : State). after x (Pin 1)) is))
    ∙ took)
