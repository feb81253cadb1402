-- What words ask for and what a task did, as one fact of the words.
use Rattle.std.proofs.Common.{◌≡◌, ◌⊎◌, inl, inr, ℕ, ◌<◌, arith, List, [], true, false, Some, None, Ok, Err, Result, IfOk, OnOk, IfErr, IsErrOf, ◌↔◌, refl, sym, ◌∙◌, subst}
use Rattle.std.specs.Prelude.{string_bytes}
use Rattle.std.specs.declared.string.String.{String}
use Rattle.std.specs.declared.alloc.Global.{Global}
use Rattle.std.proofs.lemmas.Bool.{false≢true}
use Rattle.std.proofs.lemmas.Option.{none-some, same_Some}
use denote.Ref.{Bor}
use Rattle.mst_arguments.specs.Commanding.{AsksFor, Ends, EndsWords, IsDevice, IsPlain, NamesShape, ProofWords, Unread, Untouched, status_of, told, asks_replay, asks_verify, splits_in, verified_words}
use Rattle.mst_arguments.specs.Loads.{IsLoadOf, asks_load}
use Rattle.mst_command.specs.Loading.{RanLoad}
use Rattle.mst_devices.specs.Device.{Breaks}
use Rattle.mst_command.specs.Programs.{RanScript, RanReplay, RanVerify}
use Rattle.mst.specs.Tasks.{RanSharded, Did, Helped, HasBadShape, HasBadSplits, HasBadRoot, HasBadKey, IsBad, Comes}
use Rattle.mst_arguments.specs.declared.task.Task.{Task}
use Rattle.mst_arguments.specs.declared.task.Task.TheVariants.{Run, RunSharded, Verify, UnknownFormat, Replay, Load, Help}
use Rattle.mst_arguments.specs.declared.task.Ending.{Ending}
use Rattle.mst_arguments.specs.declared.task.Ending.TheVariants.{Done}
use Rattle.mst_arguments.specs.declared.task.Refusal.{Refusal}
use Rattle.mst_arguments.specs.declared.task.Refusal.TheVariants.{Words, NotText, Shape, Splits, BadRoot, BadKey, Device, Memory}

module _ {S W : Type 0} (gives : S → List ℕ → S → Type 0) (left : S → ℕ)
    (takes : W → List ℕ → W → Type 0) (words : List (Bor (List ℕ))) where
  helped : (text : String Global) (s t : S) (w x : W) → AsksFor words (Help text)
      → takes w (string_bytes text) x → t ≡ s → Helped takes words s w t x
  helped text s t w x asked taken same =
      record {
        asked = asked.0;
        other = asked.1;
        text = string_bytes text;
        told = asked.2;
        taken =
            taken;
        unread = same;
      }

  pub asked_script : (task : Task) (r : Result Ending Refusal) (s t : S) (w x : W)
      → AsksFor words task → IfOk r (λ ending. Did gives left takes task s w ending t x)
      → asks_replay words ≡ false → asks_verify words ≡ None → asks_load words ≡ false
      → splits_in words ≡ None →
      OnOk r (((shape : _) × NamesShape words shape × RanScript gives takes shape s w t x
      × (left t ≡ 0)) ⊎ Helped takes words s w t x)
  asked_script (Run shape) (Ok ending) s t w x asked did is none other one =
      inl (shape, asked.2.0, did.0, did.1)
  asked_script (RunSharded shape word) (Ok ending) s t w x asked did is none other one =
      absurd (none-some word.now (sym one ∙ asked.2.1))
  asked_script (Verify kind format root key) (Ok ending) s t w x asked did is none other one =
      absurd (none-some (kind, Some format, root.now, key.now) (sym none ∙ sym asked.1))
  asked_script UnknownFormat (Ok ending) s t w x asked did is none other one = absurd did
  asked_script Replay (Ok ending) s t w x asked did is none other one =
      absurd (false≢true (sym (asked.0 ∙ is)))
  asked_script (Load size) (Ok ending) s t w x asked did is none other one =
      absurd (false≢true (sym (asked.3 ∙ other)))
  asked_script (Help text) (Ok ending) s t w x asked did is none other one =
      inr (helped text s t w x asked did.0 did.1)
  asked_script task (Err why) s t w x asked did is none other one = tt

  pub asked_sharded : (task : Task) (r : Result Ending Refusal) (s t : S) (w x : W)
      → AsksFor words task → IfOk r (λ ending. Did gives left takes task s w ending t x)
      → asks_replay words ≡ false → asks_verify words ≡ None → asks_load words ≡ false
      → (word : List ℕ) → splits_in words ≡ Some word →
      OnOk r (((shape : _) × NamesShape words shape × RanSharded gives takes shape word s w t x
      × (left t ≡ 0)) ⊎ Helped takes words s w t x)
  asked_sharded (Run shape) (Ok ending) s t w x asked did is none other word one =
      absurd (none-some word (sym asked.2.1 ∙ one))
  asked_sharded (RunSharded shape splits) (Ok ending) s t w x asked did is none other word one =
      inl (
        shape,
        asked.2.0,
        subst (λ (text : List ℕ). RanSharded gives takes shape text s w t x)
            (same_Some splits.now word (sym asked.2.1 ∙ one)) did.0,
        did.1,
      )
  asked_sharded (Verify kind format root key) (Ok ending) s t w x asked did is none other word one =
      absurd (none-some (kind, Some format, root.now, key.now) (sym none ∙ sym asked.1))
  asked_sharded UnknownFormat (Ok ending) s t w x asked did is none other word one = absurd did
  asked_sharded Replay (Ok ending) s t w x asked did is none other word one =
      absurd (false≢true (sym (asked.0 ∙ is)))
  asked_sharded (Load size) (Ok ending) s t w x asked did is none other word one =
      absurd (false≢true (sym (asked.3 ∙ other)))
  asked_sharded (Help text) (Ok ending) s t w x asked did is none other word one =
      inr (helped text s t w x asked did.0 did.1)
  asked_sharded task (Err why) s t w x asked did is none other word one = tt

  pub asked_load : (task : Task) (r : Result Ending Refusal) (s t : S) (w x : W)
      → AsksFor words task → IfOk r (λ ending. Did gives left takes task s w ending t x)
      → asks_load words ≡ true →
      OnOk r (((size : _) × IsLoadOf words size × RanLoad takes size w x × (t ≡ s))
      ⊎ Helped takes words s w t x)
  asked_load (Run shape) (Ok ending) s t w x asked did is = absurd (false≢true (asked.3 ∙ is))
  asked_load (RunSharded shape splits) (Ok ending) s t w x asked did is =
      absurd (false≢true (asked.3 ∙ is))
  asked_load (Verify kind format root key) (Ok ending) s t w x asked did is =
      absurd (false≢true (asked.3 ∙ is))
  asked_load UnknownFormat (Ok ending) s t w x asked did is = absurd did
  asked_load Replay (Ok ending) s t w x asked did is = absurd (false≢true (asked.3 ∙ is))
  asked_load (Load size) (Ok ending) s t w x asked did is = inl (size, asked.2, did.0, did.1)
  asked_load (Help text) (Ok ending) s t w x asked did is =
      inr (helped text s t w x asked did.0 did.1)
  asked_load task (Err why) s t w x asked did is = tt

  pub asked_replay : (task : Task) (r : Result Ending Refusal) (s t : S) (w x : W)
      → AsksFor words task → IfOk r (λ ending. Did gives left takes task s w ending t x)
      → asks_replay words ≡ true →
      OnOk r ((RanReplay gives takes s w t x × (left t ≡ 0)) ⊎ Helped takes words s w t x)
  asked_replay (Run shape) (Ok ending) s t w x asked did is = absurd (false≢true (asked.0 ∙ is))
  asked_replay (RunSharded shape splits) (Ok ending) s t w x asked did is =
      absurd (false≢true (asked.0 ∙ is))
  asked_replay (Verify kind format root key) (Ok ending) s t w x asked did is =
      absurd (false≢true (asked.0 ∙ is))
  asked_replay UnknownFormat (Ok ending) s t w x asked did is = absurd did
  asked_replay Replay (Ok ending) s t w x asked did is = inl (did.0, did.1)
  asked_replay (Load size) (Ok ending) s t w x asked did is = absurd (false≢true (asked.0 ∙ is))
  asked_replay (Help text) (Ok ending) s t w x asked did is =
      inr (helped text s t w x asked did.0 did.1)
  asked_replay task (Err why) s t w x asked did is = tt

  pub asked_verify : (task : Task) (r : Result Ending Refusal) (s t : S) (w x : W)
      → AsksFor words task → IfOk r (λ ending. Did gives left takes task s w ending t x) →
      IfOk r (λ ending. (named : _) → asks_verify words ≡ Some named → RanVerify gives left takes
      named s w ending t x ⊎ (Helped takes words s w t x × (ending ≡ Done)))
  asked_verify (Run shape) (Ok ending) s t w x asked did =
      λ named is. absurd (none-some named (asked.1 ∙ is))
  asked_verify (RunSharded shape splits) (Ok ending) s t w x asked did =
      λ named is. absurd (none-some named (asked.1 ∙ is))
  asked_verify (Verify kind format root key) (Ok ending) s t w x asked did =
      λ named is. inl
      (subst (λ (words : ProofWords). RanVerify gives left takes words s w
      ending t x) (same_Some (kind, Some format, root.now, key.now) named (asked.1 ∙ is)) did)
  asked_verify UnknownFormat (Ok ending) s t w x asked did = absurd did
  asked_verify Replay (Ok ending) s t w x asked did =
      λ named is. absurd (none-some named (asked.1 ∙ is))
  asked_verify (Load size) (Ok ending) s t w x asked did =
      λ named is. absurd (none-some named (asked.1 ∙ is))
  asked_verify (Help text) (Ok ending) s t w x asked did =
      λ named is. inr (helped text s t w x asked did.0 did.1, did.2)
  asked_verify task (Err why) s t w x asked did = tt

  pub asked_others : (task : Task) (r : Result Ending Refusal) (s t : S) (w x : W)
      → AsksFor words task → IfOk r (λ ending. Did gives left takes task s w ending t x) →
      IfOk r (λ ending. asks_verify words ≡ None → ending ≡ Done)
  asked_others (Run shape) (Ok ending) s t w x asked did = λ none. did.2
  asked_others (RunSharded shape splits) (Ok ending) s t w x asked did = λ none. did.2
  asked_others (Verify kind format root key) (Ok ending) s t w x asked did =
      λ none. absurd (none-some (kind, Some format, root.now, key.now) (sym none ∙ sym asked.1))
  asked_others UnknownFormat (Ok ending) s t w x asked did = absurd did
  asked_others Replay (Ok ending) s t w x asked did = λ none. did.2
  asked_others (Load size) (Ok ending) s t w x asked did = λ none. did.2
  asked_others (Help text) (Ok ending) s t w x asked did = λ none. did.2
  asked_others task (Err why) s t w x asked did = tt

-- words that do not ask for the judging of a proof ask for another task
pub not_verified : (words : List (Bor (List ℕ))) (task : Task) → AsksFor words task
    → asks_verify words ≡ None → verified_words task ≡ None
not_verified words (Run shape) asked none = refl
not_verified words (RunSharded shape splits) asked none = refl
not_verified words (Verify kind format root key) asked none = asked.1 ∙ none
not_verified words UnknownFormat asked none = refl
not_verified words Replay asked none = refl
not_verified words (Load size) asked none = refl
not_verified words (Help text) asked none = refl

-- words that are refused touch no device
pub words_device : (why : Refusal) → EndsWords why → (n : ℕ) → IsDevice why n n
words_device (Words text) h n = refl
words_device NotText h n = absurd h
words_device Shape h n = absurd h
words_device Splits h n = absurd h
words_device BadRoot h n = absurd h
words_device BadKey h n = absurd h
words_device Device h n = absurd h
words_device (Memory refused) h n = refl

pub still_unread : {S : Type 0} (why : Refusal) (s : S) → Unread why s s
still_unread (Words text) s = refl
still_unread NotText s = refl
still_unread Shape s = refl
still_unread Splits s = refl
still_unread BadRoot s = refl
still_unread BadKey s = refl
still_unread Device s = tt
still_unread (Memory refused) s = tt

pub still_untouched : {S : Type 0} (why : Refusal) (s : S) → Untouched why s s
still_untouched (Words text) s = refl
still_untouched NotText s = refl
still_untouched Shape s = refl
still_untouched Splits s = refl
still_untouched BadRoot s = refl
still_untouched BadKey s = refl
still_untouched Device s = tt
still_untouched (Memory refused) s = refl

abbrev EndsOfWords : Refusal → Type 0
EndsOfWords (Words text) = Unit {0}
EndsOfWords NotText = Unit {0}
EndsOfWords _ = ⊥

not_bad : (task : Task) (r : Result Ending Refusal) → IsErrOf r Shape ↔ HasBadShape task
    → IsErrOf r BadRoot ↔ HasBadRoot task → IsErrOf r BadKey ↔ HasBadKey task → ¬ (IsErrOf r Shape)
    → ¬ (IsErrOf r BadRoot) → ¬ (IsErrOf r BadKey) → ¬ (IsBad task)
not_bad task r shape root key a b c = λ bad. elim bad [
  | inl h ↦ a (shape.1 h)
  | inr (inl h) ↦ b (root.1 h)
  | inr (inr h) ↦ c (key.1 h)
]

no_words : (task : Task) (why : Refusal) → Ends task why → EndsOfWords why → ⊥
no_words (Run shape) (Words text) ends of = ends
no_words (Run shape) NotText ends of = ends
no_words (RunSharded shape splits) (Words text) ends of = ends
no_words (RunSharded shape splits) NotText ends of = ends
no_words (Verify kind format root key) (Words text) ends of = ends
no_words (Verify kind format root key) NotText ends of = ends
no_words UnknownFormat (Words text) ends of = ends
no_words UnknownFormat NotText ends of = ends
no_words Replay (Words text) ends of = ends
no_words Replay NotText ends of = ends
no_words (Load size) (Words text) ends of = ends
no_words (Load size) NotText ends of = ends
no_words (Help text) (Words said) ends of = ends
no_words (Help text) NotText ends of = ends
no_words task Shape ends of = of
no_words task Splits ends of = of
no_words task BadRoot ends of = of
no_words task BadKey ends of = of
no_words task Device ends of = of
no_words task (Memory refused) ends of = of

-- a task that is cut short is so for a reason that is possible
pub task_comes : (words : List (Bor (List ℕ))) (task : Task) (r : Result Ending Refusal)
    → AsksFor words task → IsErrOf r Shape ↔ HasBadShape task
    → (IsErrOf r Splits → HasBadSplits task) → IsErrOf r BadRoot ↔ HasBadRoot task
    → IsErrOf r BadKey ↔ HasBadKey task →
    IfErr r (λ why. Ends task why) → IfErr r (λ why. Comes words why)
task_comes words task (Ok ending) asked shape splits root key ends = tt
task_comes words task (Err (Words text)) asked shape splits root key ends =
    absurd (no_words task (Words text) ends tt)
task_comes words task (Err NotText) asked shape splits root key ends =
    absurd (no_words task NotText ends tt)
task_comes words task (Err Shape) asked shape splits root key ends = (task, asked, shape.0 refl)
task_comes words task (Err Splits) asked shape splits root key ends = (task, asked, splits refl)
task_comes words task (Err BadRoot) asked shape splits root key ends = (task, asked, root.0 refl)
task_comes words task (Err BadKey) asked shape splits root key ends = (task, asked, key.0 refl)
task_comes words task (Err Device) asked shape splits root key ends = tt
task_comes words task (Err (Memory refused)) asked shape splits root key ends =
    λ plain. (
      task,
      asked,
      not_bad task (Err (Memory refused)) shape root key (λ is. cc) (λ is. cc)
          (λ is. cc),
    )

-- words that are refused are so for a reason that is possible
pub words_come : (words : List (Bor (List ℕ))) (why : Refusal) → EndsWords why → ¬ (IsPlain words)
    → Comes words why
words_come words (Words text) h other = other
words_come words NotText h other = absurd h
words_come words Shape h other = absurd h
words_come words Splits h other = absurd h
words_come words BadRoot h other = absurd h
words_come words BadKey h other = absurd h
words_come words Device h other = absurd h
words_come words (Memory refused) h other = λ plain. absurd (other plain)

-- words that are refused fail by no device
pub no_device : (why : Refusal) → EndsWords why
    → (let r : Result Ending Refusal = Err why in IsErrOf r Device) → ⊥
no_device (Words text) h is = cc
no_device NotText h is = h
no_device Shape h is = h
no_device Splits h is = h
no_device BadRoot h is = h
no_device BadKey h is = h
no_device Device h is = h
no_device (Memory refused) h is = cc

only_device : (why : Refusal) → status_of why ≡ 3 → why ≡ Device
only_device (Words text) is = absurd (omega (arith, is))
only_device NotText is = absurd (omega (arith, is))
only_device Shape is = absurd (omega (arith, is))
only_device Splits is = absurd (omega (arith, is))
only_device BadRoot is = absurd (omega (arith, is))
only_device BadKey is = absurd (omega (arith, is))
only_device Device is = refl
only_device (Memory refused) is = absurd (omega (arith, is))

-- what stands on standard error where a program ended early
module _ {E : Type 0} (takes : E → List ℕ → E → Type 0) (failures : E → ℕ) (e f : E) (why : Refusal)
    (n : ℕ)
    (failed : (failures f ≡ failures e) ⊎ ((failures e < failures f) × (n ≡ 3)))
    (status : failures f ≡ failures e → n ≡ status_of why)
    (said : failures f ≡ failures e → takes e (told why) f) where
  pub told_early : (words : List (Bor (List ℕ))) → Comes words why → (n ≡ 2) ⊎ (n ≡ 4)
      → (it : Refusal) × (n ≡ status_of it) × Comes words it × takes e (told it) f
  told_early words comes =
      elim failed as (λ x. (n ≡ 2) ⊎ (n ≡ 4) → (it : Refusal) × (n ≡ status_of it) × Comes words it
      × takes e (told it) f) [
        | inl same ↦ λ is. (why, status same, comes, said same)
        | inr rose ↦ λ is. absurd (omega (arith, is, rose.1))
      ]

  pub stopped_early : {P : Type 0} → (Q : Refusal → Type 0) → (why ≡ Device → P) → Q why
      → (failures e < failures f → Breaks takes e [] (told why) f) → n ≡ 3 →
      ((failures e < failures f) × ((it : Refusal) × Breaks takes e [] (told it) f × Q it))
      ⊎ (P × takes e (told Device) f)
  stopped_early {P} Q task ended broke =
      elim failed as
      (λ x. n ≡ 3 → ((failures e < failures f)
      × ((it : Refusal) × Breaks takes e [] (told it) f × Q it)) ⊎ (P × takes e (told Device) f)) [
        | inl same ↦ λ is. let d : why ≡ Device = only_device why (sym (status same) ∙ is) in
            inr (task d, subst (λ (w : Refusal). takes e (told w) f) d (said same))
        | inr rose ↦ λ is. inl (rose.0, (why, broke rose.0, ended))
      ]
