-- What one pass did, and then all settled: a step of the machine.
use Rattle.mst_script.proofs.Names.{◌≡◌, ℕ, ◌<◌, List, [], ◌∷◌, ◌++◌, length, set, get_or, sym, refl, ap, ◌∙◌, subst, append-nil, Option, Some, None, Result, Ok, codes, swap_remove, IsPermutation, false≢true, IsPermutation-refl, IsPermutation-sym, IsPermutation-trans, IsPermutation-append_left, History, after, format_after, IsPrefix, StoreId, Known, Settled, Fault, Command, Put, Remove, Migrate, Batch, Get, Next, Range, Root, Node, Prove, Unpin, Rows, Request, asked, line_of, pinned_words, Machine, Acts, StepOf, Step, AnswersRequest, AreAllOf, Roster, everyone, IsNowhere, KnowsPins, Shows, is_pin, Serves, IsPlace, all_of_front, all_of_back}
use Rattle.std.proofs.Common.{true, false, take}
use Rattle.std.proofs.Math.Seq.{take-append_seam}
use Rattle.std.proofs.lemmas.List.Sorted.{IsPermutation-swap_remove}
use Rattle.mst_requests.specs.declared.request.Command.TheVariants.{Pin}
use Rattle.mst_requests.specs.declared.request.Command.TheVariants as ask
use Rattle.mst_script.specs.Machine.{with_pin, FreeStep, Recalls, PinnedStep}
use Rattle.mst_script.specs.Serving.{is_unpin, Does, AsksFree, AsksPinned, Pins, Unpins}
use Rattle.mst_script.proofs.Lines.{others_at, moved_back, now_back, moved_front, now_front}
use Rattle.mst_script.proofs.AllOf.{all_moved, all_changed}
use Rattle.mst_script.proofs.Gathering.{gathers_moved, turned, looked}
use Rattle.mst_script.proofs.Knowing.{knows_pin, knows_unpin}
use Rattle.mst_script.proofs.Settling.{settled_gathers, shows_settled, still_there}

-- ---- a free pass did what it was asked for

free_step : (store : StoreId) (p : ℕ) (command : Command) (m new : Machine) (text : List ℕ)
    → is_pin command ≡ false → Acts store p command m.history text new.history
    → new.pinned ≡ m.pinned → FreeStep store p command m text new
free_step store p (Put k v) m new text other step pins = (step, pins)
free_step store p (Remove k) m new text other step pins = (step, pins)
free_step store p (Migrate to) m new text other step pins = (step, pins)
free_step store p (Batch es) m new text other step pins = (step, pins)
free_step store p (Get k) m new text other step pins = (step, pins)
free_step store p (Next bound) m new text other step pins = (step, pins)
free_step store p (Range from to n) m new text other step pins = (step, pins)
free_step store p Root m new text other step pins = (step, pins)
free_step store p Node m new text other step pins = (step, pins)
free_step store p (Prove k) m new text other step pins = (step, pins)
free_step store p ask.Format m new text other step pins = (step, pins)
free_step store p Pin m new text other step pins = absurd (false≢true (sym other))
free_step store p Unpin m new text other step pins = (step, pins)
free_step store p Rows m new text other step pins = (step, pins)

-- the step of a pass that is free in the machine too
step_free : (store : StoreId) (p : ℕ) (command : Command) (m new : Machine) (text : List ℕ)
    → m.pinned p ≡ None → FreeStep store p command m text new → Step store p command m text new
step_free store p command m new text none step =
    subst (λ (v : Option ℕ). StepOf v store p command m text new) (sym none) step

step_pinned : (store : StoreId) (p n : ℕ) (command : Command) (m new : Machine) (text : List ℕ)
    → m.pinned p ≡ Some n → PinnedStep store p n command m text new → Step store p command m text
    new
step_pinned store p n command m new text some step =
    subst (λ (v : Option ℕ). StepOf v store p command m text new) (sym some) step

acts_there : (store : StoreId) (n : ℕ) (command : Command) (text : List ℕ) (p q : Known)
    (log h new : History) → p.store ≡ store → p.number ≡ n → log ≡ h → q.seen ≡ new
    → Acts p.store p.number command log text q.seen → Acts store n command h text new
acts_there store n command text p q log h new s i l e a =
    subst (λ (x : StoreId). Acts x n command h text new) s
    (subst (λ (x : ℕ). Acts p.store x command h text new) i
    (subst (λ (x : History). Acts p.store p.number command x text new) l
    (subst (λ (x : History). Acts p.store p.number command log text x) e a)))

-- where the passes stand before and after
asks_others : (command : Command) (r s : Roster) (place : ℕ) (text : List ℕ) → place < length r.free
    → (a : AsksFree command r place text s) →
    (os : List Known) × IsPermutation (everyone r) (a.p ∷ os) × IsPermutation (everyone s)
    (a.q ∷ os)
asks_others command r s place text within a =
    let o = others_at r.free place a.p a.q within (a.here a.p) in (
      o.0 ++ r.pinned,
      IsPermutation-append_left r.pinned r.free (a.p ∷ o.0) o.1,
      subst (λ (l : List Known). IsPermutation l (a.q ∷ (o.0 ++ r.pinned)))
          (sym (ap (λ (l : List Known). l ++ s.pinned) a.free
          ∙ ap (λ (l : List Known). set r.free place a.q ++ l) a.pinned))
          (IsPermutation-append_left r.pinned (set r.free place a.q) (a.q ∷ o.0) o.2),
    )

pub all_asked : (store : StoreId) (command : Command) (r s : Roster) (place : ℕ) (text : List ℕ)
    → place < length r.free → AsksFree command r place text s → AreAllOf store (everyone r)
    → AreAllOf store (everyone s)
all_asked store command r s place text within a all = let o =
    asks_others command r s place text within a in
    all_changed store (everyone r) (everyone s) o.0 a.p a.q o.1 o.2 a.asked.turn.same all

pub does_ask : (store : StoreId) (n : ℕ) (command : Command) (r s : Roster) (place : ℕ)
    (text : List ℕ) → AreAllOf store (everyone r) → IsPlace r.free n place → IsNowhere r.pinned n
    → is_pin command ≡ false →
    AsksFree command r place text s → Does store n command r text s
does_ask store n command r s place text all at nowhere other a = λ m shows t st.
    let o = asks_others command r s place text at.0 a in
    let turn = a.asked.turn in
    let seen : a.p.seen ≡ m.history = ap (λ (x : Known). x.seen) (sym (a.here a.p))
    ∙ shows.seen place a.p at.0 in
    let both = turned o.0 a.p a.q m.history st.log a.asked.log a.asked.t
    (gathers_moved m.history (everyone r) (a.p ∷ o.0) o.1 shows.gathered) seen turn
    (gathers_moved st.log (everyone s) (a.q ∷ o.0) o.2 (settled_gathers s t st)) in
    let new : Machine = record { history = m.history ++ a.asked.t; pinned = m.pinned } in
    let of_store : a.p.store ≡ store = ap (λ (x : Known). x.store) (sym (a.here a.p))
    ∙ all_of_front (λ (x : Known). x.store ≡ store) r.free r.pinned all.of_one place a.p at.0 in
    let of_number : a.p.number ≡ n = ap (λ (x : Known). x.number) (sym (a.here a.p)) ∙ at.1 a.p in
    let now : a.q.seen ≡ new.history = turn.seen ∙ ap (λ (x : History). x ++ a.asked.t) both.0 in
    let acts = acts_there store n command text a.p a.q a.asked.log m.history new.history of_store
    of_number both.0 now a.asked.step in (
      new,
      step_free store n command m new text (shows.pins.others n nowhere)
          (free_step store n command m new text other acts refl),
      shows_settled new s t st both.1 (subst (KnowsPins m.pinned) (sym a.pinned) shows.pins),
    )

-- ---- a pass that pins a version read it, or was refused

pinned_step : (store : StoreId) (p n : ℕ) (command : Command) (m : Machine) (text : List ℕ)
    → is_unpin command ≡ false → Recalls command (format_after store.format (take n m.history))
    (after (take n m.history)) text → PinnedStep store p n command m text m
pinned_step store p n (Put k v) m text other recalls = (recalls, refl)
pinned_step store p n (Remove k) m text other recalls = (recalls, refl)
pinned_step store p n (Migrate to) m text other recalls = (recalls, refl)
pinned_step store p n (Batch es) m text other recalls = (recalls, refl)
pinned_step store p n (Get k) m text other recalls = (recalls, refl)
pinned_step store p n (Next bound) m text other recalls = (recalls, refl)
pinned_step store p n (Range from to limit) m text other recalls = (recalls, refl)
pinned_step store p n Root m text other recalls = (recalls, refl)
pinned_step store p n Node m text other recalls = (recalls, refl)
pinned_step store p n (Prove k) m text other recalls = (recalls, refl)
pinned_step store p n ask.Format m text other recalls = (recalls, refl)
pinned_step store p n Pin m text other recalls = (recalls, refl)
pinned_step store p n Unpin m text other recalls = absurd (false≢true (sym other))
pinned_step store p n Rows m text other recalls = (recalls, refl)

-- the version that the pass pins is of so many events
version_seen : (g h : History) → IsPrefix g h → take (length g) h ≡ g
version_seen g h b = ap (take (length g)) b.1 ∙ take-append_seam g b.0

-- what the machine knows of the pass at this place
pinned_at : (m : Machine) (r : Roster) (n place : ℕ) (p : Known) → Shows m r
    → IsPlace r.pinned n place → get_or r.pinned place p ≡ p → (m.pinned n ≡ Some (length p.seen))
    × (p.number ≡ n) × IsPrefix p.seen m.history
pinned_at m r n place p shows at here =
    let number : p.number ≡ n = ap (λ (x : Known). x.number) (sym here) ∙ at.1 p in (
      ap m.pinned (sym (at.1 p)) ∙ shows.pins.pins place p at.0
          ∙ ap (λ (x : Known). Some (length x.seen)) here,
      number,
      subst (λ (x : Known). IsPrefix x.seen m.history) here
          (all_of_back (λ (x : Known). IsPrefix x.seen m.history) r.free r.pinned
          shows.gathered.later place p at.0),
    )

pub all_recalled : (store : StoreId) (command : Command) (r s : Roster) (place : ℕ) (text : List ℕ)
    → AsksPinned command r place text s → AreAllOf store (everyone r) → AreAllOf store (everyone s)
all_recalled store command r s place text a all =
    subst (λ (x : Roster). AreAllOf store (everyone x)) (sym a.same) all

pub does_recall : (store : StoreId) (n : ℕ) (command : Command) (r s : Roster) (place : ℕ)
    (text : List ℕ) → AreAllOf store (everyone r) → IsPlace r.pinned n place → is_unpin command
    ≡ false → AsksPinned command r place text s → Does store n command r text s
does_recall store n command r s place text all at other a = λ m shows t st.
    let k = pinned_at m r n place a.p shows at (a.here a.p) in
    let moved : IsPermutation (everyone r) (everyone s) =
    subst (λ (x : Roster). IsPermutation (everyone r) (everyone x)) (sym a.same)
    (IsPermutation-refl (everyone r)) in
    let of_store : a.p.store ≡ store = ap (λ (x : Known). x.store) (sym (a.here a.p))
    ∙ all_of_back (λ (x : Known). x.store ≡ store) r.free r.pinned all.of_one place a.p at.0 in
    let seen = take (length a.p.seen) m.history in
    let recalls : Recalls command (format_after store.format seen) (after seen) text =
    subst (λ (h : History). Recalls command (format_after store.format h) (after h) text)
    (sym (version_seen a.p.seen m.history k.2))
    (subst (λ (x : StoreId). Recalls command (format_after x.format a.p.seen) (after a.p.seen) text)
    of_store a.recalls) in (
      m,
      step_pinned store n (length a.p.seen) command m m text k.0
          (pinned_step store n (length a.p.seen) command m text other recalls),
      shows_settled m s t st (still_there m r s t shows moved st)
          (subst (λ (x : Roster). KnowsPins m.pinned x.pinned) (sym a.same) shows.pins),
    )

-- ---- a free pass pinned a version

pins_others : (r s : Roster) (place version : ℕ) → place < length r.free
    → (a : Pins r place version s) →
    (os : List Known) × IsPermutation (everyone r) (a.p ∷ os) × IsPermutation (everyone s)
    (a.q ∷ os)
pins_others r s place version within a =
    let rest = swap_remove r.free place a.p in (
      rest ++ r.pinned,
      moved_back r.free r.pinned rest a.p
          (IsPermutation-swap_remove r.free place a.p within a.here),
      subst (λ (l : List Known). IsPermutation l (a.q ∷ (rest ++ r.pinned)))
          (sym (ap (λ (l : List Known). l ++ s.pinned) a.free ∙ ap (λ (l : List Known). rest ++ l)
          a.pinned)) (now_back rest r.pinned a.q),
    )

pub all_pinned : (store : StoreId) (r s : Roster) (place version : ℕ) → place < length r.free
    → Pins r place version s → AreAllOf store (everyone r) → AreAllOf store (everyone s)
all_pinned store r s place version within a all = let o = pins_others r s place version within a in
    all_changed store (everyone r) (everyone s) o.0 a.p a.q o.1 o.2 a.looks.same all

pub does_pin : (store : StoreId) (n : ℕ) (command : Command) (r s : Roster) (place version : ℕ)
    (text : List ℕ) → IsPlace r.free n place → IsNowhere r.pinned n → is_pin command ≡ true
    → text ≡ line_of (pinned_words version) →
    Pins r place version s → Does store n command r text s
does_pin store n command r s place version text at nowhere pin is a = λ m shows t st.
    let o = pins_others r s place version at.0 a in
    let seen : a.p.seen ≡ m.history = ap (λ (x : Known). x.seen) a.here ∙ shows.seen place a.p at.0
    in
    let both = turned o.0 a.p a.q m.history st.log a.q.seen []
    (gathers_moved m.history (everyone r) (a.p ∷ o.0) o.1 shows.gathered) seen
    (looked a.p a.q a.looks)
    (gathers_moved st.log (everyone s) (a.q ∷ o.0) o.2 (settled_gathers s t st)) in
    let new : Machine = with_pin n (Some (length m.history)) m in
    let number : a.q.number ≡ n = a.looks.same.1 ∙ ap (λ (x : Known). x.number) a.here ∙ at.1 a.p in
    let knows : KnowsPins new.pinned (r.pinned ++ a.q ∷ []) =
    subst (λ (h : History). KnowsPins (with_pin n (Some (length h)) m).pinned
    (r.pinned ++ a.q ∷ [])) both.0
    (knows_pin m.pinned r.pinned n a.q shows.pins nowhere number a.looks.own) in
    let said : text ≡ line_of (pinned_words (length m.history)) =
    is ∙ ap (λ (k : ℕ). line_of (pinned_words k)) (a.version_is ∙ ap length both.0) in (
      new,
      step_free store n command m new text (shows.pins.others n nowhere)
          (pin_step store n command m text pin said),
      shows_settled new s t st (both.1 ∙ append-nil m.history)
          (subst (KnowsPins new.pinned) (sym a.pinned) knows),
    )
  where
    pin_step : (store : StoreId) (p : ℕ) (c : Command) (m : Machine) (text : List ℕ)
        → is_pin c ≡ true → text ≡ line_of (pinned_words (length m.history)) → FreeStep store p c m
        text (with_pin p (Some (length m.history)) m)
    pin_step store p (Put k v) m text pin said = absurd (false≢true pin)
    pin_step store p (Remove k) m text pin said = absurd (false≢true pin)
    pin_step store p (Migrate to) m text pin said = absurd (false≢true pin)
    pin_step store p (Batch es) m text pin said = absurd (false≢true pin)
    pin_step store p (Get k) m text pin said = absurd (false≢true pin)
    pin_step store p (Next bound) m text pin said = absurd (false≢true pin)
    pin_step store p (Range from to limit) m text pin said = absurd (false≢true pin)
    pin_step store p Root m text pin said = absurd (false≢true pin)
    pin_step store p Node m text pin said = absurd (false≢true pin)
    pin_step store p (Prove k) m text pin said = absurd (false≢true pin)
    pin_step store p ask.Format m text pin said = absurd (false≢true pin)
    pin_step store p Pin m text pin said = (said, refl)
    pin_step store p Unpin m text pin said = absurd (false≢true pin)
    pin_step store p Rows m text pin said = absurd (false≢true pin)

-- ---- a pass ended its pin

unpins_others : (r s : Roster) (place : ℕ) → place < length r.pinned → (a : Unpins r place s)
    → (os : List Known) × IsPermutation (everyone r) (a.p ∷ os) × IsPermutation (everyone s)
    (a.p ∷ os)
unpins_others r s place within a =
    let rest = swap_remove r.pinned place a.p in (
      r.free ++ rest,
      moved_front r.free r.pinned rest a.p
          (IsPermutation-swap_remove r.pinned place a.p within a.here),
      subst (λ (l : List Known). IsPermutation l (a.p ∷ (r.free ++ rest)))
          (sym (ap (λ (l : List Known). l ++ s.pinned) a.free
          ∙ ap (λ (l : List Known). (r.free ++ a.p ∷ []) ++ l) a.pinned))
          (now_front r.free rest a.p),
    )

unpins_moved : (r s : Roster) (place : ℕ) → place < length r.pinned → Unpins r place s
    → IsPermutation (everyone r) (everyone s)
unpins_moved r s place within a = let o = unpins_others r s place within a in
    IsPermutation-trans (everyone r) (a.p ∷ o.0) (everyone s) o.1
    (IsPermutation-sym (everyone s) (a.p ∷ o.0) o.2)

pub all_unpinned : (store : StoreId) (r s : Roster) (place : ℕ) → place < length r.pinned
    → Unpins r place s → AreAllOf store (everyone r) → AreAllOf store (everyone s)
all_unpinned store r s place within a all = all_moved store (everyone r) (everyone s)
    (unpins_moved r s place within a) all

pub does_unpin : (store : StoreId) (n : ℕ) (command : Command) (r s : Roster) (place : ℕ)
    (text : List ℕ) → IsPlace r.pinned n place → is_unpin command ≡ true
    → text ≡ line_of (codes "unpinned") → Unpins r place s → Does store n command r text s
does_unpin store n command r s place text at unpin said a = λ m shows t st.
    let k = pinned_at m r n place a.p shows at (sym a.here) in
    let new : Machine = with_pin n None m in
    let rest = swap_remove r.pinned place a.p in
    let knows : KnowsPins new.pinned rest =
    subst (λ (i : ℕ). KnowsPins (with_pin i None m).pinned rest) k.1
    (knows_unpin m.pinned r.pinned rest a.p shows.pins
    (IsPermutation-swap_remove r.pinned place a.p at.0 a.here)) in (
      new,
      step_pinned store n (length a.p.seen) command m new text k.0
          (unpin_step store n (length a.p.seen) command m text unpin said),
      shows_settled new s t st (still_there m r s t shows (unpins_moved r s place at.0 a) st)
          (subst (KnowsPins new.pinned) (sym a.pinned) knows),
    )
  where
    unpin_step : (store : StoreId) (p n : ℕ) (c : Command) (m : Machine) (text : List ℕ)
        → is_unpin c ≡ true → text ≡ line_of (codes "unpinned") → PinnedStep store p n c m text
        (with_pin p None m)
    unpin_step store p n (Put k v) m text unpin said = absurd (false≢true unpin)
    unpin_step store p n (Remove k) m text unpin said = absurd (false≢true unpin)
    unpin_step store p n (Migrate to) m text unpin said = absurd (false≢true unpin)
    unpin_step store p n (Batch es) m text unpin said = absurd (false≢true unpin)
    unpin_step store p n (Get k) m text unpin said = absurd (false≢true unpin)
    unpin_step store p n (Next bound) m text unpin said = absurd (false≢true unpin)
    unpin_step store p n (Range from to limit) m text unpin said = absurd (false≢true unpin)
    unpin_step store p n Root m text unpin said = absurd (false≢true unpin)
    unpin_step store p n Node m text unpin said = absurd (false≢true unpin)
    unpin_step store p n (Prove k) m text unpin said = absurd (false≢true unpin)
    unpin_step store p n ask.Format m text unpin said = absurd (false≢true unpin)
    unpin_step store p n Pin m text unpin said = absurd (false≢true unpin)
    unpin_step store p n Unpin m text unpin said = (said, refl)
    unpin_step store p n Rows m text unpin said = absurd (false≢true unpin)

-- ---- lines

-- the pass that a line names did what it was asked for, and then all settled
pub line_served : (store : StoreId) (n : ℕ) (r s t : Roster) (line : Option (List ℕ))
    (text : List ℕ) (asks : Result Request Fault) (request : Request) → n ≡ store.passes
    → asks ≡ asked n line → asks ≡ Ok request →
    Does store request.pass request.command r text s → Settled s.free s.pinned t.free t.pinned
    → Serves store r line text t
line_served store n r s t line text asks request count by is does st = λ m shows.
    let same : asked store.passes line ≡ Ok request = ap (λ (i : ℕ). asked i line) (sym count)
    ∙ sym by ∙ is in
    let d = does m shows t st in (
      d.0,
      subst (λ (x : Result Request Fault). AnswersRequest store x m text d.0) (sym same) d.1,
      d.2,
    )
