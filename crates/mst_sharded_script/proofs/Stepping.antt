-- From what a call says to the step of its pass.
use Rattle.mst_sharded_script.proofs.Names.{◌≡◌, ℕ, ◌+◌, ◌<◌, true, List, [], ◌∷◌, ◌++◌, length, Option, Some, None, refl, sym, ap, ◌∙◌, subst, arith, SwappedAt, Edit, Put, Get, Node, Pin, Unpin, Rows, Whole, PassState, Free, Pinned, ScriptState, Acts, StepsAt, stepped, is_look}
use Rattle.std.proofs.Common.{false, get_or, set}
use Rattle.std.specs.Prelude.{codes}
use Rattle.std.specs.List.{swap_remove}
use Rattle.std.proofs.lemmas.Bool.{false≢true}
use Rattle.std.proofs.lemmas.Option.{none-some, same_Some}
use Rattle.mst_key.specs.declared.format.Format.{Format}
use Rattle.mst_requests.specs.declared.request.Command.{Command}
use Rattle.mst_requests.specs.declared.request.Command.TheVariants.{Remove, Migrate, Batch, Next, Range, Root, Prove}
use Rattle.mst_requests.specs.declared.request.Command.TheVariants as ask
use Rattle.mst_requests.specs.Texts.{line_of}
use Rattle.mst_shards.proofs.Moved.{read_any, put_back}
use Rattle.mst_sharded_script.specs.States.{unpinned, LayoutState, NewMapState, moved}
use Rattle.mst_sharded_script.specs.Serving.{Takes, Finds, LooksAt, Moves, Migrates, Recalls, FreeStep, PinnedStep, Step, moved_if, is_unpin, migration_of}

-- ---- which command it is

not_true : {P : Type 0} → false ≡ true → P
not_true is = absurd (false≢true is)

not_false : {P : Type 0} → true ≡ false → P
not_false is = absurd (false≢true (sym is))

-- a snapshot finds what it recalls
pub found : (command : Command) (y : Whole) (text : List ℕ) → is_look command ≡ true
    → Recalls command y text → Finds command y text
found (Put k v) y text is r = not_true is
found (Remove k) y text is r = not_true is
found (Migrate to) y text is r = not_true is
found (Batch es) y text is r = not_true is
found (Get k) y text is r = not_true is
found (Next bound) y text is r = r
found (Range from to n) y text is r = r
found Root y text is r = r
found Node y text is r = not_true is
found (Prove k) y text is r = r
found ask.Format y text is r = r
found Rows y text is r = not_true is
found Pin y text is r = not_true is
found Unpin y text is r = not_true is

-- a command that is asked of a snapshot for one line does not unpin
pub looks_on : (command : Command) → is_look command ≡ true → is_unpin command ≡ false
looks_on (Put k v) is = refl
looks_on (Remove k) is = refl
looks_on (Migrate to) is = refl
looks_on (Batch es) is = refl
looks_on (Get k) is = refl
looks_on (Next bound) is = refl
looks_on (Range from to n) is = refl
looks_on Root is = refl
looks_on Node is = refl
looks_on (Prove k) is = refl
looks_on ask.Format is = refl
looks_on Rows is = refl
looks_on Pin is = refl
looks_on Unpin is = not_true is

-- a command that is none of these is one for a snapshot
pub other_looks : (command : Command) → ((k v : List ℕ) → command ≡ Put k v → ⊥)
    → ((k : List ℕ) → command ≡ Remove k → ⊥) → ((es : List Edit) → command ≡ Batch es → ⊥)
    → migration_of command ≡ None → ((k : List ℕ) → command ≡ Get k → ⊥)
    → (command ≡ Pin → ⊥) → (command ≡ Node → ⊥) → (command ≡ Rows → ⊥)
    → (command ≡ Unpin → ⊥) → is_look command ≡ true
other_looks (Put k v) put remove batch other get pin node rows unpin = absurd (put k v refl)
other_looks (Remove k) put remove batch other get pin node rows unpin = absurd (remove k refl)
other_looks (Migrate to) put remove batch other get pin node rows unpin =
    absurd (none-some to (sym other))
other_looks (Batch es) put remove batch other get pin node rows unpin = absurd (batch es refl)
other_looks (Get k) put remove batch other get pin node rows unpin = absurd (get k refl)
other_looks (Next bound) put remove batch other get pin node rows unpin = refl
other_looks (Range from to n) put remove batch other get pin node rows unpin = refl
other_looks Root put remove batch other get pin node rows unpin = refl
other_looks Node put remove batch other get pin node rows unpin = absurd (node refl)
other_looks (Prove k) put remove batch other get pin node rows unpin = refl
other_looks ask.Format put remove batch other get pin node rows unpin = refl
other_looks Rows put remove batch other get pin node rows unpin = absurd (rows refl)
other_looks Pin put remove batch other get pin node rows unpin = absurd (pin refl)
other_looks Unpin put remove batch other get pin node rows unpin = absurd (unpin refl)

-- the step of a command is that of the one that it is
pub acts_as : (command z : Command) (before : ℕ) (w r : Whole) (text : List ℕ) (x : Whole)
    (p : PassState) → command ≡ z → Acts z before w r text x p → Acts command before w r text x p
acts_as command z before w r text x p is acts =
    subst (λ (y : Command). Acts y before w r text x p) (sym is) acts

-- the step of a pass that looks, while the writer waits
pub acts_look : (command : Command) (before : ℕ) (w r : Whole) (text : List ℕ) (p : PassState)
    → is_look command ≡ true → LooksAt command r text p → Acts command before w r text w p
acts_look (Put k v) before w r text p is looks = not_true is
acts_look (Remove k) before w r text p is looks = not_true is
acts_look (Migrate to) before w r text p is looks = not_true is
acts_look (Batch es) before w r text p is looks = not_true is
acts_look (Get k) before w r text p is looks = not_true is
acts_look (Next bound) before w r text p is looks = (looks, refl)
acts_look (Range from to n) before w r text p is looks = (looks, refl)
acts_look Root before w r text p is looks = (looks, refl)
acts_look Node before w r text p is looks = not_true is
acts_look (Prove k) before w r text p is looks = (looks, refl)
acts_look ask.Format before w r text p is looks = (looks, refl)
acts_look Rows before w r text p is looks = not_true is
acts_look Pin before w r text p is looks = not_true is
acts_look Unpin before w r text p is looks = not_true is

-- it was released as that what it found is said of
pub looked : (command : Command) (r y z : Whole) (text : List ℕ) (p : PassState) → Takes r y
    → z ≡ y → p ≡ Free z → is_look command ≡ true → Recalls command y text
    → LooksAt command r text p
looked command r y z text p takes same free is recalls = record {
  y = z;
  takes = subst (Takes r) (sym same) takes;
  finds = subst (λ (v : Whole). Finds command v text) (sym same) (found command y text is recalls);
  free = free;
}

-- ---- the steps

-- a snapshot was asked for its format, and then moved
pub moved_on : (was to : Format) (l : LayoutState) (w y z : Whole) (text : List ℕ)
    (new : Option NewMapState) → z ≡ y → Moves was to l w z text new → Moves was to l w y text new
moved_on was to l w y z text new same moves =
    subst (λ (v : Whole). Moves was to l w v text new) same moves

pub migration_step : (command : Command) (to : Format) (l : LayoutState) (w r : Whole)
    (text : List ℕ) (x : Whole) (p : PassState) (new : Option NewMapState)
    → Some to ≡ migration_of command → Migrates to l w r text x p new
    → FreeStep command l w r text x p new
migration_step (Put k v) to l w r text x p new is m = absurd (none-some to (sym is))
migration_step (Remove k) to l w r text x p new is m = absurd (none-some to (sym is))
migration_step (Migrate f) to l w r text x p new is m =
    subst (λ (z : Format). Migrates z l w r text x p new) (same_Some to f is) m
migration_step (Batch es) to l w r text x p new is m = absurd (none-some to (sym is))
migration_step (Get k) to l w r text x p new is m = absurd (none-some to (sym is))
migration_step (Next bound) to l w r text x p new is m = absurd (none-some to (sym is))
migration_step (Range from up n) to l w r text x p new is m = absurd (none-some to (sym is))
migration_step Root to l w r text x p new is m = absurd (none-some to (sym is))
migration_step Node to l w r text x p new is m = absurd (none-some to (sym is))
migration_step (Prove k) to l w r text x p new is m = absurd (none-some to (sym is))
migration_step ask.Format to l w r text x p new is m = absurd (none-some to (sym is))
migration_step Rows to l w r text x p new is m = absurd (none-some to (sym is))
migration_step Pin to l w r text x p new is m = absurd (none-some to (sym is))
migration_step Unpin to l w r text x p new is m = absurd (none-some to (sym is))

pub acts_step : (command : Command) (l : LayoutState) (w r : Whole) (text : List ℕ) (x : Whole)
    (p : PassState) → None ≡ migration_of command → Acts command l.before w r text x p
    → FreeStep command l w r text x p None
acts_step (Put k v) l w r text x p is a = (a, refl)
acts_step (Remove k) l w r text x p is a = (a, refl)
acts_step (Migrate to) l w r text x p is a = absurd (none-some to is)
acts_step (Batch es) l w r text x p is a = (a, refl)
acts_step (Get k) l w r text x p is a = (a, refl)
acts_step (Next bound) l w r text x p is a = (a, refl)
acts_step (Range from to n) l w r text x p is a = (a, refl)
acts_step Root l w r text x p is a = (a, refl)
acts_step Node l w r text x p is a = (a, refl)
acts_step (Prove k) l w r text x p is a = (a, refl)
acts_step ask.Format l w r text x p is a = (a, refl)
acts_step Rows l w r text x p is a = (a, refl)
acts_step Pin l w r text x p is a = (a, refl)
acts_step Unpin l w r text x p is a = (a, refl)

pub unpin_step : (command : Command) (y : Whole) (spare : Option Whole) (p : PassState)
    → is_unpin command ≡ true → p ≡ Free (unpinned y spare)
    → PinnedStep command y spare (line_of (codes "unpinned")) p
unpin_step (Put k v) y spare p is now = not_true is
unpin_step (Remove k) y spare p is now = not_true is
unpin_step (Migrate to) y spare p is now = not_true is
unpin_step (Batch es) y spare p is now = not_true is
unpin_step (Get k) y spare p is now = not_true is
unpin_step (Next bound) y spare p is now = not_true is
unpin_step (Range from to n) y spare p is now = not_true is
unpin_step Root y spare p is now = not_true is
unpin_step Node y spare p is now = not_true is
unpin_step (Prove k) y spare p is now = not_true is
unpin_step ask.Format y spare p is now = not_true is
unpin_step Rows y spare p is now = not_true is
unpin_step Pin y spare p is now = not_true is
unpin_step Unpin y spare p is now = (refl, now)

pub pinned_step : (command : Command) (y : Whole) (spare : Option Whole) (text : List ℕ)
    (p : PassState) → is_unpin command ≡ false → p ≡ Pinned y spare → Recalls command y text
    → PinnedStep command y spare text p
pinned_step (Put k v) y spare text p is now r = (r, now)
pinned_step (Remove k) y spare text p is now r = (r, now)
pinned_step (Migrate to) y spare text p is now r = (r, now)
pinned_step (Batch es) y spare text p is now r = (r, now)
pinned_step (Get k) y spare text p is now r = (r, now)
pinned_step (Next bound) y spare text p is now r = (r, now)
pinned_step (Range from to n) y spare text p is now r = (r, now)
pinned_step Root y spare text p is now r = (r, now)
pinned_step Node y spare text p is now r = (r, now)
pinned_step (Prove k) y spare text p is now r = (r, now)
pinned_step ask.Format y spare text p is now r = (r, now)
pinned_step Rows y spare text p is now r = (r, now)
pinned_step Pin y spare text p is now r = (r, now)
pinned_step Unpin y spare text p is now r = not_false is

-- ---- at a place

-- the pass at a place was taken out, made its step and was put back
pub back_again : (xs ys zs : List PassState) (i n : ℕ) (x q : PassState) → i < length xs
    → n + 1 ≡ length xs → length zs ≡ n + 1 → ys ≡ swap_remove xs i x
    → SwappedAt (ys ++ q ∷ []) zs i n → zs ≡ set xs i q
back_again xs ys zs i n x q low count again left back =
    put_back xs ys zs i n x q (sym count) again (omega (arith, low, count)) left back

pub steps_at : (command : Command) (s t : ScriptState) (place : ℕ) (pass : PassState)
    (text : List ℕ) (x : Whole) (p : PassState) (new : Option NewMapState)
    → place < length s.passes → pass ≡ get_or s.passes place pass
    → Step command s.layout s.writer pass text x p new → t ≡ moved_if new (stepped place x p s)
    → StepsAt place command s text t
steps_at command s t place pass text x p new low there step now = record {
  pass = pass;
  here = λ d. read_any s.passes place d pass low ∙ sym there;
  x = x;
  p = p;
  new = new;
  step = step;
  now = now;
}

-- ---- over the map that a step moved to, if it did

pub over_new : (new : Option NewMapState) (it : NewMapState) (t after s : ScriptState)
    → new ≡ Some it → t ≡ moved it after → after ≡ s → t ≡ moved_if new s
over_new new it t after s is over now =
    subst (λ (n : Option NewMapState). t ≡ moved_if n s) (sym is) (over ∙ ap (moved it) now)

pub over_none : (new : Option NewMapState) (t s : ScriptState) → new ≡ None → t ≡ s
    → t ≡ moved_if new s
over_none new t s is now =
    subst (λ (n : Option NewMapState). t ≡ moved_if n s) (sym is) now
