-- How the program ends: its exit status, and what its devices gave and took.
use Rattle.std.specs.Prelude.{◌≡◌, ◌<◌, ◌+◌, ◌⊎◌, ◌↔◌, ℕ, List, [], map, None, string_bytes}
use Rattle.std.specs.declared.string.String.{String}
use Rattle.std.specs.declared.alloc.Global.{Global}
use denote.Ref.{Bor}
use Rattle.mst_devices.specs.Device.{Breaks, Flow}
use Rattle.mst_arguments.specs.declared.task.Task.{Task}
use Rattle.mst_arguments.specs.declared.task.Ending.{Ending}
use Rattle.mst_arguments.specs.declared.task.Refusal.{Refusal}
use Rattle.mst_arguments.specs.declared.task.Refusal.TheVariants.{Device, Memory}
use Rattle.mst_arguments.specs.Commanding.{AsksFor, asks_verify, status_at, status_of, told as told_text}
use Rattle.mst.specs.Tasks.{Broke, Comes, Did, EndedEarly}

-- the task that the words ask for was done, and ended so
abbrev pub Performed : {S O : Type 0} → Flow S → (S → ℕ) → Flow O → List (Bor (List ℕ))
    → S → O → Ending → S → O → Type 0
Performed gives left takes words s w ending t x =
    (task : Task) × AsksFor words task × Did gives left takes task s w ending t x

-- What the program came to that was given these words. `s` and `t` are the source before and after,
-- `w` and `x` standard output, `e` and `f` standard error; `reads`, `writes` and `losses` count how
-- often each has failed.
pub record Commanded {S O E : Type 0}
    (gives : Flow S) (left reads : S → ℕ) (takes : Flow O) (writes : O → ℕ)
    (tells : Flow E) (losses : E → ℕ) (words : List (Bor (List ℕ)))
    (s : S) (w : O) (e : E) (status : ℕ) (t : S) (x : O) (f : E) : Type 0 where
  pub range : (status ≡ 0) ⊎ (status ≡ 1) ⊎ (status ≡ 2) ⊎ (status ≡ 3) ⊎ (status ≡ 4)
  -- 0 and 1: the task was done
  pub performed : (ending : Ending) → status ≡ status_at ending
      → Performed gives left takes words s w ending t x
  pub silent : (status ≡ 0) ⊎ (status ≡ 1) → f ≡ e
  -- 2 and 4: a reason of these words was told
  pub told : (status ≡ 2) ⊎ (status ≡ 4) → (why : Refusal) × (status ≡ status_of why)
      × Comes words why × tells e (told_text why) f
  pub refused : status ≡ 2 → (t ≡ s) × (x ≡ w)
  pub memory : status ≡ 4 → x ≡ w
  pub memory_unread : status ≡ 4 → asks_verify words ≡ None → t ≡ s
  -- 3: exactly if a count of failures of a device rose
  pub device : (status ≡ 3)
      ↔ (reads s + writes w + losses e < reads t + writes x + losses f)
  pub stopped : status ≡ 3
      → ((losses e < losses f) × ((why : Refusal) × Breaks tells e [] (told_text why) f
      × EndedEarly gives left takes writes words why s w t x))
      ⊎ (((task : Task) × AsksFor words task
      × Broke gives left takes writes task s w t x) × tells e (told_text Device) f)

-- Nothing was read or written, since the program was given no words: the reason was told on
-- standard error, or that failed.
pub record HadNoWords {S O E : Type 0}
    (tells : Flow E) (losses : E → ℕ) (why : Refusal)
    (s : S) (w : O) (e : E) (status : ℕ) (t : S) (x : O) (f : E) : Type 0 where
  pub unread : t ≡ s
  pub unwritten : x ≡ w
  pub status_is : losses f ≡ losses e → status ≡ status_of why
  pub told : losses f ≡ losses e → tells e (told_text why) f
  pub failed : (losses f ≡ losses e) ⊎ ((losses e < losses f) × (status ≡ 3))
  pub broke : losses e < losses f → Breaks tells e [] (told_text why) f

-- the same, where the reason is that memory for the words was refused
abbrev pub HadNoMemory : {S O E : Type 0} → Flow E → (E → ℕ) → S → O → E → ℕ → S → O → E → Type 0
HadNoMemory tells losses s w e status t x f =
    (refused : _) × HadNoWords tells losses (Memory refused) s w e status t x f

-- the words are these texts
abbrev pub AreTexts : List (Bor (List ℕ)) → List (String Global) → Type 0
AreTexts words texts =
    map (λ (w : Bor (List ℕ)). w.now) words ≡ map (λ (t : String Global). string_bytes t) texts
