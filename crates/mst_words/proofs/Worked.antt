-- A worked table of two passes and four rows, made by steps: pass 1 pins the empty version 0, and
-- pass 2 then publishes a remove in record 1, whose words were there from the start, and moves the
-- pin to record 0.
use Rattle.mst_words.proofs.Names.{◌≡◌, ℕ, zero, suc, ◌+◌, ◌*◌, ◌^◌, ◌<◌, true, Option, Some, None, List, [], ◌∷◌, ◌++◌, length, set, get_or, replicate, sym, refl, ap, ◌∙◌, subst, ⊎_elim, arith, lit<, bit_xor, same_Some, none, some, some-injective, some-ne-none, Me, step, opening, Allows, carried_after, One, Event, History, IsPrefix-itself, digest_of, Free, In, word_from, bytes_in, masks, View, Shape, DeskState, SeatAt, dealer, idle, done, Meaning, IsFramed, Standing, Agrees, field, row, Parts, Ruled, IsReady, asks, publishes, transfers, stored, AgedOn, fresh_desk, desk_state, Table, IsRuled}
use lib.ListN.{get_elem?}
use Rattle.atomic_table.specs.Table.{homes_after}
use Rattle.mst_key.specs.declared.history.Change.TheVariants.{Remove}
use Rattle.mst_node.specs.Tree.{tree, tree_within}
use Rattle.mst_node.proofs.MapTextsInGrammar.{sha256_digest}
use Rattle.mst_arena.specs.Lives as lives
use Rattle.mst_arena.specs.Standing as standing
use Rattle.mst_words.specs.Stored.{state_of}
use Rattle.mst_words.proofs.Framed.{stored_framed}
use Rattle.mst_words.proofs.Fresh.{digest_back, unreached, fresh_standing, fresh_is_desk}
use Rattle.mst_words.proofs.Members.{in_nothing, in_first}
use Rattle.mst_words.proofs.Opens.{opens, deal_splits}
use Rattle.mst_words.proofs.Follows.{ruled}
use Rattle.mst_words.proofs.PinSteps.{pinned_now}
use Rattle.mst_words.proofs.TurnSteps.{taken}
use Rattle.mst_words.proofs.HoldSteps.{asks_allows, publishes_allows, transfers_allows}

abbrev pub shape : Shape
shape = record { rows = 4; passes = 2; format = One }

abbrev pub T : Meaning (Option lives.State)
T = stored One

framed : IsFramed T
framed = stored_framed One

abbrev pub Mine : Type 0
Mine = Me (Option lives.State) View

abbrev pub fresh : lives.State
fresh = fresh_desk 4 2

-- ---- the words at the start

-- the words of record 0 from its digest on, and those of record 1, whose version is 1
abbrev records : List ℕ
records = let a : ℕ = word_from (digest_of []) 0 in let b : ℕ = word_from (digest_of []) 8 in
    let c : ℕ = word_from (digest_of []) 16 in let d : ℕ = word_from (digest_of []) 24 in
    a ∷ b ∷ c ∷ d ∷ 1 ∷ 1 ∷ 0 ∷ a ∷ b ∷ c ∷ d ∷ 1 ∷ replicate 292 0

abbrev pub words : List ℕ
words = replicate 38 0 ++ records

zeros_first : (n : ℕ) (rest : List ℕ) (i : ℕ) → i < n → get_or (replicate n 0 ++ rest) i 0 ≡ 0
zeros_first zero rest i l = absurd (omega (arith, l))
zeros_first (suc n) rest zero l = refl
zeros_first (suc n) rest (suc i) l = zeros_first n rest i (omega (arith, l))

front : (i : ℕ) → i < 38 → get_or words i 0 ≡ 0
front = zeros_first 38 records

digest : bytes_in (word_from (digest_of []) 0 ∷ word_from (digest_of []) 8 ∷ word_from
    (digest_of []) 16 ∷ word_from (digest_of []) 24 ∷ []) ≡ digest_of []
digest = let s = sha256_digest [] in digest_back (digest_of []) s.size s.bytes

-- ---- a new table, and two passes dealt

abbrev pub begun : Table
begun = opening words (Some fresh ∷ []) (dealer 4 2 One 1)

pub begun_ruled : Ruled T 4 2 begun
begun_ruled = opens T framed 4 2 words (Some fresh) (desk_state fresh) refl
    (λ i l. front i (omega (arith, l))) (omega arith) (fresh_is_desk 4 2) refl
    (fresh_standing One 4 2 words front digest refl)

abbrev pub pass : ℕ → View
pass p = idle 4 2 One p 0

abbrev pub at : List ℕ → List View → Table
at ws vs = record { words = ws; homes = some (Some fresh) ∷ []; views = vs }

pub one_dealt : Ruled T 4 2 (at words (dealer 4 2 One 2 ∷ pass 1 ∷ []))
one_dealt = deal_splits T framed 4 2 0 (dealer 4 2 One 1) refl refl (omega arith) (omega arith)
    begun begun_ruled refl

pub dealt : Ruled T 4 2 (at words (dealer 4 2 One 3 ∷ pass 1 ∷ pass 2 ∷ []))
dealt = deal_splits T framed 4 2 0 (dealer 4 2 One 2) refl refl (omega arith) (omega arith)
    (at words (dealer 4 2 One 2 ∷ pass 1 ∷ [])) one_dealt refl

-- while no seat has seen an event, there is none
pub none_seen : (s : Table) (v w x : View) → s.views ≡ v ∷ w ∷ x ∷ [] → v.seen ≡ [] → w.seen ≡ []
    → x.seen ≡ [] → (a : Ruled T 4 2 s) → a.parts.log ≡ []
none_seen s v w x is first second third a = ⊎_elim (λ none_there. none_there)
    (λ (t : (i : ℕ) × (u : View) × SeatAt s.views i u × (u.seen ≡ a.parts.log)). sym t.3
    ∙ each t.0 t.1 (subst (λ (l : List View). SeatAt l t.0 t.1) is t.2)) a.seen.whole
  where
    each : (i : ℕ) (u : View) → SeatAt (v ∷ w ∷ x ∷ []) i u → u.seen ≡ []
    each zero u e = ap (λ (z : View). z.seen) (sym (some-injective v u e)) ∙ first
    each (suc zero) u e = ap (λ (z : View). z.seen) (sym (some-injective w u e)) ∙ second
    each (suc (suc zero)) u e = ap (λ (z : View). z.seen) (sym (some-injective x u e)) ∙ third
    each (suc (suc (suc i))) u e = absurd (some-ne-none u (sym e))

-- ---- pass 1 pins the current record, which is record 0

abbrev pub used : List ℕ
used = dealt.parts.used dealt.parts.cur

abbrev pub reader : View
reader = record (pass 1) {
  pin = Some 0;
  pinned_history = [];
  pinned_rows = used;
  known_words = words;
  asked = 1;
}

pub cur_is : dealt.parts.cur ≡ 0
cur_is = let c : 0 ≡ dealt.parts.cur * masks + dealt.parts.mask = dealt.parts.pins.current in
    omega (arith, c)

pub pinned : Ruled T 4 2 (at (set words 1 1) (dealer 4 2 One 3 ∷ reader ∷ pass 2 ∷ []))
pinned =
    ruled T framed 4 2 _
    (subst (λ (x : ℕ × History). Parts T 4 2
    (at (set words 1 1)
    (dealer 4 2 One 3 ∷ record (pass 1) {
      pin = Some x.0;
      pinned_history = x.1;
      pinned_rows = used;
      known_words = words;
      asked = 1;
    } ∷ pass 2 ∷ [])))
    (λ i. (
      cur_is i,
      none_seen (at words (dealer 4 2 One 3 ∷ pass 1 ∷ pass 2 ∷ []))
          (dealer 4 2 One 3) (pass 1) (pass 2) refl refl refl refl dealt i,
    ))
    (pinned_now T framed 4 2 (at words (dealer 4 2 One 3 ∷ pass 1 ∷ pass 2 ∷ [])) dealt.parts 1 1 0
    [] (pass 1) refl refl refl refl refl))

-- ---- pass 2 takes the turn

pub desk_is : pinned.parts.desk ≡ desk_state fresh
desk_is = let t = pinned.parts.turn.free refl in
    let home : Some fresh ≡ t.0 =
    some-injective (Some fresh) t.0
    (some-injective (some (Some fresh)) (some t.0)
    (ap (λ (l : List (mathlib.Core.Option.Option (Option lives.State))). get_elem? l 0) t.1)) in
    ap desk_state (sym (same_Some fresh (state_of pinned.parts.desk) (home ∙ t.2.there)))

abbrev pub held : List ℕ
held = set words 1 1

abbrev holding : History → DeskState → View
holding log d = record (pass 2) {
  seen = log;
  known_words = held;
  turn = true;
  desk = d;
  due = None;
  mask = 0;
  drained = [];
  blocked = [];
  noted = None;
  asked = 1;
}

-- a ruled table of these words and views, with something in its slot or nothing
pub record Ready (ws : List ℕ) (vs : List View) : Type 0 where
  pub homes : List (mathlib.Core.Option.Option (Option lives.State))
  pub rule : IsRuled shape record { words = ws; homes = homes; views = vs }

abbrev pub writer : View
writer = holding [] (desk_state fresh)

pub turn_taken : Ready (set held 0 2) (dealer 4 2 One 3 ∷ reader ∷ writer ∷ [])
turn_taken = record {
  homes = none ∷ [];
  rule =
      ruled T framed 4 2 _
      (subst (λ (x : History × DeskState). Parts T 4 2 record {
        words = set held 0 2;
        homes = none ∷ [];
        views = dealer 4 2 One 3 ∷ reader ∷ holding x.0 x.1 ∷ [];
      })
      (λ i. (
        none_seen (at held (dealer 4 2 One 3 ∷ reader ∷ pass 2 ∷ [])) (dealer 4 2 One 3) reader
            (pass 2) refl refl refl refl pinned i,
        desk_is i,
      ))
      (taken T framed 4 2 (at held (dealer 4 2 One 3 ∷ reader ∷ pass 2 ∷ [])) pinned.parts 2 2
      (pass 2) refl refl (omega arith) refl (Some fresh) refl (pinned.parts.turn.free refl).3
      refl));
}

-- a step leads from one such table to the next
next : (ws : List ℕ) (vs : List View) → Ready ws vs → (id i : ℕ) (me : Mine) (f : ℕ → ℕ)
    (told : ℕ → ℕ → Mine → Type 0)
    → ((slots : ℕ) → Allows (Ruled T 4 2) slots id me i f (told slots)) → SeatAt vs id me.0
    → get_or ws i 0 < 2 ^ 64 → (w : View)
    → ((slots : ℕ) (m : Mine) → told slots (get_or ws i 0) m → m.0 ≡ w)
    → Ready (set ws i (f (get_or ws i 0))) (set vs id w)
next ws vs h id i me f told allows here small w is = let t =
    allows (length h.homes) (record { words = ws; homes = h.homes; views = vs }) h.rule refl here
    small in record {
      homes = homes_after h.homes me.1 t.1;
      rule =
          subst (λ (u : View). Ruled T 4 2 record {
            words = set ws i (f (get_or ws i 0));
            homes = homes_after h.homes me.1 t.1;
            views = set vs id u;
          })
          (is (length h.homes) (t.0, carried_after me.1 t.1) t.4) t.3;
    }

-- ---- it finds record 1 drained

abbrev pub slot : List (ℕ × Option lives.State)
slot = (0, Some fresh) ∷ []

abbrev pub asked : View
asked = record writer { drained = 1 ∷ []; asked = 2 }

pub found : Ready (set (set held 0 2) 3 0) (dealer 4 2 One 3 ∷ reader ∷ asked ∷ [])
found = next (set held 0 2) (dealer 4 2 One 3 ∷ reader ∷ writer ∷ []) turn_taken 2 3 (writer, slot)
    (λ n. n) (λ slots. asks T (step slots 3 0 0 none) (writer, slot))
    (λ slots. asks_allows T framed 4 2 slots 2 1 (writer, slot) (refl, refl, refl) (omega arith)
    (λ e. omega (arith, e)) (λ i. in_nothing 1 i)) refl (lit< tt) asked
    (λ slots m t. let one : t.0 ≡ 1 = (let e = t.1 in omega (arith, e)) in ap (λ (z : Mine). z.0)
    (t.2 refl) ∙ ap (λ (y : ℕ). record writer { drained = y ∷ []; asked = 2 }) one)

-- ---- and publishes it

abbrev pub event : Event
event = record { pass = 2; change = Remove (97 ∷ []) }

abbrev pub later : DeskState
later = record { current = 1; versions = 0 ∷ 1 ∷ 0 ∷ 0 ∷ []; lives = replicate 4 Free }

empty_still : AgedOn One (row 4 held) (field held 1) later (event ∷ []) []
unfolding tree tree_within
empty_still = (
  (
    record {
      map = record { ascending = tt; limits = tt };
      digest = digest;
      tree = record { placed = standing.none; at = refl; is = refl; rows = tt; once = tt };
    },
    refl,
    refl,
  ),
  tt,
)

stands : Standing T 4 2 held (event ∷ []) later 1 (event ∷ []) []
stands = record {
  numbered = omega arith;
  begins = IsPrefix-itself (event ∷ []);
  version = refl;
  filed = refl;
  stands = empty_still.0;
  aged = empty_still;
  inside = λ x within. absurd (in_nothing x within);
  reached = λ x within. absurd (in_nothing x within);
  exactly = λ x l e. absurd (unreached 4 1 x e);
}

agrees : (r : ℕ) → r < 4 → (In r (1 ∷ []) → ⊥) → Agrees T (desk_state fresh) later r
agrees zero l other = record {
  version = refl;
  reached = λ x h. h;
  exactly = λ x h. h;
  ages = λ x v l h. ((λ is. is), (λ is. is));
}
agrees (suc zero) l other = absurd (other (in_first 1 1 [] refl))
agrees (suc (suc zero)) l other =
    record {
      version = refl;
      reached = λ x h. h;
      exactly = λ x h. h;
      ages = λ x v l h. ((λ is. is), (λ is. is));
    }
agrees (suc (suc (suc zero))) l other =
    record {
      version = refl;
      reached = λ x h. h;
      exactly = λ x h. h;
      ages = λ x v l h. ((λ is. is), (λ is. is));
    }
agrees (suc (suc (suc (suc r)))) l other = absurd (omega (arith, l))

ready : IsReady T 1 event later [] asked
ready = record {
  on = refl;
  unpinned = refl;
  settled = refl;
  drained = in_first 1 1 [] refl;
  mine = refl;
  room = lit< tt;
  desk_at = refl;
  stands = stands;
  agrees = agrees;
}

abbrev pub publisher : ℕ → View
publisher mask = record asked {
  seen = event ∷ [];
  mine = event ∷ [];
  due = Some 0;
  mask = mask;
  drained = [];
  blocked = [];
  noted = None;
  desk = later;
  asked = 3;
}

pub published : Ready (set (set (set held 0 2) 3 0) 1 masks)
    (dealer 4 2 One 3 ∷ reader ∷ publisher 1 ∷ [])
published = next (set (set held 0 2) 3 0) (dealer 4 2 One 3 ∷ reader ∷ asked ∷ []) found 2 1
    (asked, slot) (λ n. masks)
    (λ slots. publishes event later (step slots 1 masks 0 none) (asked, slot))
    (λ slots. publishes_allows T framed 4 2 slots 2 masks 1 event later [] (asked, slot) ready refl)
    refl (lit< tt) (publisher 1)
    (λ slots m t. let one : t.1.mask ≡ 1 =
    (let e : 1 ≡ 0 * masks + t.1.mask = t.1.returned in omega (arith, e)) in
    ap (λ (z : Mine). z.0) t.1.is ∙ ap publisher one)

-- ---- and moves the pin of pass 1, whose bit is the first, to record 0

abbrev pub after_words : List ℕ
after_words = set (set (set (set held 0 2) 3 0) 1 masks) 2 1

abbrev pub after_views : List View
after_views = dealer 4 2 One 3 ∷ reader ∷ record (publisher 1) { due = None } ∷ []

pub moved : Ready after_words after_views
moved = next (set (set (set held 0 2) 3 0) 1 masks) (dealer 4 2 One 3 ∷ reader ∷ publisher 1 ∷ [])
    published 2 2 (publisher 1, slot) (λ n. bit_xor n 1)
    (λ slots. transfers (step slots 2 1 0 none) (publisher 1, slot))
    (λ slots. transfers_allows T framed 4 2 slots 2 0 1 (publisher 1, slot) refl refl refl) refl
    (lit< tt) (record (publisher 1) { due = None })
    (λ slots m t. ap (λ (z : Mine). z.0) t.1)

-- the history is the one event, record 1 is current, and record 0 has the pin
history : moved.rule.parts.log ≡ event ∷ []
history = sym (moved.rule.parts.turn.holder 2 (record (publisher 1) { due = None }) refl refl).2

current : get_or after_words 1 0 ≡ 1 * masks
current = refl

pin_there : done after_words 0 ≡ 1
pin_there = refl
