-- What the calls through a hand's pass do, free or pinned.
use Rattle.std.specs.Prelude.{◌≡◌, ◌↔◌, ℕ, ◌+◌, List, [], length, Bool, true, false, Option, IfSome, IsSome, Result, Ok, Err}
use Rattle.mst_key.specs.declared.format.Format.{Format}
use Rattle.mst_key.specs.History.{after, had}
use Rattle.mst_key.specs.Map.{Pair}
use Rattle.mst_key.specs.declared.history.Change.{Change}
use Rattle.mst_store.specs.Passes.{Known, format_seen, Answers, Looks, Wrote, FindsBusy, Refuses, made_by, having_asked}
use Rattle.mst_versions.specs.Writes.{rows_of}
use Rattle.mst_c.specs.declared.pass_box.State.{State}
use Rattle.mst_c.specs.declared.pass_box.State.TheVariants.{Away, Free, Pinned}
use Rattle.mst_c.specs.declared.pass_box.WriteRefusal.{WriteRefusal}
use Rattle.mst_c.specs.declared.pass_box.WriteRefusal.TheVariants.{Pins, Store}
use Rattle.mst_c.specs.declared.pass_box.CountRefusal.{CountRefusal}
use Rattle.mst_c.specs.declared.pass_box.CountRefusal.TheVariants as count_refusal

-- A read returns what this question asks of a map and its format: a free pass of that which it
-- finds now, for which it looks once, a pinned one of that of its version
abbrev pub Reads : {R : Type 0} → (Format → List Pair → R) → State → R → State → Type 0
Reads question Away answer s = ⊥
Reads question (Free p) answer s =
    (q : Known) × (s ≡ Free q) × Answers question p answer q × (q.asked ≡ p.asked + 1)
Reads question (Pinned p) answer s =
    (s ≡ Pinned p) × (answer ≡ question (format_seen p) (after p.seen))

-- A read for which memory was refused changed nothing but that a free pass has asked
abbrev pub Forgets : State → State → Type 0
Forgets Away s = ⊥
Forgets (Free p) s = s ≡ Free (having_asked 1 p)
Forgets (Pinned p) s = s ≡ Pinned p

-- A write by a free pass is as the pass's contract says; a pinned pass writes nothing
abbrev pub Writes : Change → State → Result (Option (List ℕ)) WriteRefusal → State → Type 0
Writes change Away result s = ⊥
Writes change (Free p) (Ok old) s =
    (q : Known) × (s ≡ Free q) × Wrote (made_by p change) p (had old) q
Writes change (Free p) (Err (Store fault)) s = (q : Known) × (s ≡ Free q) × Refuses fault change p q
Writes change (Free p) (Err Pins) s = ⊥
Writes change (Pinned p) (Err Pins) s = s ≡ Pinned p
Writes change (Pinned p) (Err (Store fault)) s = ⊥
Writes change (Pinned p) (Ok old) s = ⊥

-- a free pass pins the version that it finds, and looks once; a pinned one keeps its pin
abbrev pub PinsNow : State → Bool → State → Type 0
PinsNow Away done s = ⊥
PinsNow (Free p) done s =
    (done ≡ true) × ((q : Known) × (s ≡ Pinned q) × Looks p q × (q.asked ≡ p.asked + 1))
PinsNow (Pinned p) done s = (done ≡ false) × (s ≡ Pinned p)

-- a pinned pass ends its pin; a free one stays
abbrev pub Unpins : State → Bool → State → Type 0
Unpins Away done s = ⊥
Unpins (Free p) done s = (done ≡ false) × (s ≡ Free p)
Unpins (Pinned p) done s = (done ≡ true) × (s ≡ Free p)

-- The number of the version: of a free pass that which it finds now, for which it looks once, of a
-- pinned one that of its pin
abbrev pub Versions : State → ℕ → State → Type 0
Versions Away n s = ⊥
Versions (Free p) n s =
    (q : Known) × (s ≡ Free q) × Looks p q × (n ≡ length q.seen) × (q.asked ≡ p.asked + 1)
Versions (Pinned p) n s = (s ≡ Pinned p) × (n ≡ length p.seen)

-- The rows of the map are counted by a free pass where no other pass writes, exactly if it finds no
-- version pinned, in as many steps as the pass's contract says
abbrev pub Counts : State → Result (Option ℕ) CountRefusal → State → Type 0
Counts Away result s = ⊥
Counts (Free p) (Ok found) s =
    (q : Known) × (s ≡ Free q) × Looks p q
    × IfSome found (λ n. n ≡ rows_of (format_seen q) (after q.seen))
    × (p.store.passes ≡ 1 → IsSome found) × (IsSome found ↔ (q.found ≡ []))
    × (q.asked ≡ p.asked + p.store.passes + 4)
Counts (Free p) (Err count_refusal.Busy) s = (q : Known) × (s ≡ Free q) × FindsBusy p q
Counts (Free p) (Err count_refusal.Pins) s = ⊥
Counts (Pinned p) (Err count_refusal.Pins) s = s ≡ Pinned p
Counts (Pinned p) (Err count_refusal.Busy) s = ⊥
Counts (Pinned p) (Ok found) s = ⊥
