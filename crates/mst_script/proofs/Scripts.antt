-- A run of the passes is a run of the machine.
use Rattle.mst_script.proofs.Names.{◌≡◌, ℕ, List, [], ◌∷◌, length, refl, sym, ap, ◌∙◌, subst, History, StoreId, new_passes, Settled, Machine, Line, with_no_pins, Gathers, Roster, Shows, Serves, Released, RanScript, StoppedScript}
use Rattle.mst_lines.specs.Runs.{Replies, Ran, Stopped}
use Rattle.mst_script.proofs.Gathering.{nobody}
use Rattle.mst_script.proofs.Ends.{first_shown, first_gathers, last_saw}
use Rattle.mst_script.proofs.AllOf.{none_done}

machine_replies : (store : StoreId) (lines : List (List ℕ)) (r s : Roster) (m : Machine)
    (text : List ℕ) → Shows m r → Replies (Serves store) r lines text s →
    (new : Machine) × Replies (Line store) m lines text new × Shows new s
machine_replies store [] r s m text shows a = (m, (refl, a.1), subst (Shows m) (sym a.0) shows)
machine_replies store (line ∷ lines) r s m text shows a =
    let one = a.3 m shows in
    let more = machine_replies store lines a.2 s one.0 a.1 one.2 a.4 in
    (more.0, (a.0, a.1, one.0, one.1, more.1, a.5), more.2)

-- passes that were dealt begin with the empty history
pub nothing_yet : (store : StoreId) (start : History) → Gathers start (new_passes store)
    → start ≡ []
nothing_yet store start g = nobody (new_passes store) start g.alone
    (λ k d l. ap length (g.own k d l ∙ none_done store k d l))

-- the passes r settled as s, did what the lines asked as t, and were released as v
module _ {S W : Type 0} (gives : S → List ℕ → S → Type 0) (takes : W → List ℕ → W → Type 0)
    (failures : W → ℕ) where
  pub ran_script : (store : StoreId) (b c : S) (w x : W) (r s t v : Roster) → r.pinned ≡ []
      → Settled r.free r.pinned s.free s.pinned → Ran gives takes (Serves store) b w s c x t
      → Released t v →
      RanScript gives takes store b w r.free c x v.free
  ran_script store b c w x r s t v none first a end = let all =
      machine_replies store _ s t (with_no_pins first.log) a.text (first_shown r s none first)
      a.replies in record {
        start = first.log;
        begun = first_gathers r s none first;
        last = all.0;
        ran = record {
          input = a.input;
          given = a.given;
          text = a.text;
          replies = all.1;
          taken =
              a.taken;
        };
        seen = last_saw all.0 t end.s v all.2 end.freed end.settled;
      }

  pub stopped_script : (store : StoreId) (b c : S) (w x : W) (r s t v : Roster) → r.pinned ≡ []
      → Settled r.free r.pinned s.free s.pinned → Stopped gives takes failures (Serves store) b w s
      c x
      t → Released t v →
      StoppedScript gives takes failures store b w r.free c x v.free
  stopped_script store b c w x r s t v none first a end = let all =
      machine_replies store a.first s t (with_no_pins first.log) a.text (first_shown r s none first)
      a.replies in record {
        start = first.log;
        begun = first_gathers r s none first;
        last = all.0;
        stopped = record {
          input = a.input;
          given = a.given;
          first = a.first;
          others = a.others;
          some =
              a.some;
          text = a.text;
          replies = all.1;
          breaks = a.breaks;
          whole = a.whole;
        };
        seen = last_saw all.0 t end.s v all.2 end.freed end.settled;
      }
