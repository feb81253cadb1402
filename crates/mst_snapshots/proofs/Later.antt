-- Passes that have seen more.
use Rattle.mst_snapshots.proofs.Names.{◌≡◌, ℕ, zero, suc, ◌+◌, ◌<◌, List, [], ◌∷◌, length, get_or, refl, sym, ap, ◌∙◌, subst, StoreId, Known, Whole, whole, IsOneBlock, Shards, AllStep, PinsNow, IsSharding, IsSplits, all_step_length, all_still, IsLater, SeesOn, PinsWhole, IsReader, InVain, PinsAfter}
use Rattle.std.proofs.Common.{map, slice_set}
use Rattle.mst_key.proofs.HistoryLaws.{IsPrefix-itself, IsPrefix-chain}
use Rattle.mst_shards.proofs.Owned.{store}
use Rattle.mst_shards.proofs.Stepping.{one_steps, all_weaker}
use Rattle.mst_snapshots.specs.Reading.{HasSeenBlock}

pub IsLater-itself : (p : Known) → IsLater p p
IsLater-itself p = (refl, IsPrefix-itself p.seen)

pub IsLater-chain : (p q r : Known) → IsLater p q → IsLater q r → IsLater p r
IsLater-chain p q r a b = (b.0 ∙ a.0, IsPrefix-chain p.seen q.seen r.seen a.1 b.1)

all_chain : (ps qs rs : List Known) → AllStep IsLater ps qs → AllStep IsLater qs rs
    → AllStep IsLater ps rs
all_chain [] [] [] a b = tt
all_chain [] [] (r ∷ rs) a b = absurd b
all_chain [] (q ∷ qs) rs a b = absurd a
all_chain (p ∷ ps) [] rs a b = absurd a
all_chain (p ∷ ps) (q ∷ qs) [] a b = absurd b
all_chain (p ∷ ps) (q ∷ qs) (r ∷ rs) a b =
    (IsLater-chain p q r a.0 b.0, all_chain ps qs rs a.1 b.1)

-- ---- all passes

pub SeesOn-itself : (w : Whole) → SeesOn w w
SeesOn-itself w = record {
  splits = refl;
  shards = all_still IsLater w.sharding.shards IsLater-itself;
  directory = IsLater-itself w.directory;
}

pub SeesOn-chain : (w v x : Whole) → SeesOn w v → SeesOn v x → SeesOn w x
SeesOn-chain w v x a b = record {
  splits = b.splits ∙ a.splits;
  shards = all_chain w.sharding.shards v.sharding.shards x.sharding.shards a.shards b.shards;
  directory = IsLater-chain w.directory v.directory x.directory a.directory b.directory;
}

-- pins see more
pub pins_on : (w v : Whole) → PinsWhole w v → SeesOn w v
pins_on w v pins = record {
  splits = pins.shards.splits;
  shards = all_weaker PinsNow IsLater w.sharding.shards v.sharding.shards
      (λ p q step. (step.0.same.0, step.0.later)) pins.shards.pins;
  directory = (pins.directory.0.same.0, pins.directory.0.later);
}

pub tried_on : (w v x : Whole) → SeesOn w v → PinsWhole v x → SeesOn w x
tried_on w v x so_far pins = SeesOn-chain w v x so_far (pins_on v x pins)

-- ---- tries

-- each try so far was in vain
pub record HasTried (w v : Whole) : Type 0 where
  pub tries : ℕ
  pub vain : InVain tries w v

pub not_tried : (w : Whole) → HasTried w w
not_tried w = record { tries = zero; vain = refl }

pub tried_again : (w v x : Whole) → HasTried w v → PinsWhole v x → (IsOneBlock x → ⊥)
    → HasTried w x
tried_again w v x had pins none = record {
  tries = suc had.tries;
  vain = (v, had.vain, pins, none);
}

pub tried_then : (w v x : Whole) → HasTried w v → PinsWhole v x → PinsAfter w x
tried_then w v x had pins = record {
  tries = had.tries;
  last = v;
  vain = had.vain;
  pins = pins;
}

-- a loop of tries
pub ruleset all_tries = (SeesOn-itself, tried_on, not_tried, tried_again, tried_then)

-- the pass at a place has seen more, and the others what they had seen
pub one_on : (splits : List (List ℕ)) (ps : List Known) (d : Known) (i : ℕ) (p q : Known)
    → i < length ps → p ≡ get_or ps i p → IsLater p q
    → SeesOn (whole splits ps d) (whole splits (slice_set ps i q) d)
one_on splits ps d i p q low is step = record {
  splits = refl;
  shards = one_steps IsLater ps i p q IsLater-itself low is step;
  directory = IsLater-itself d;
}

-- ---- what a reader keeps

stores_stay : (ps qs : List Known) → AllStep IsLater ps qs → map store qs ≡ map store ps
stores_stay [] [] steps = refl
stores_stay [] (q ∷ qs) steps = absurd steps
stores_stay (p ∷ ps) [] steps = absurd steps
stores_stay (p ∷ ps) (q ∷ qs) steps =
    ap (λ (s : StoreId). s ∷ map store qs) steps.0.0
    ∙ ap (λ (l : List StoreId). p.store ∷ l) (stores_stay ps qs steps.1)

pub block_later : (versions : List ℕ) (number : ℕ) (w v : Whole) → HasSeenBlock versions number w
    → SeesOn w v → HasSeenBlock versions number v
block_later versions number w v was more = record {
  block = was.block;
  one = was.one;
  seen = SeesOn-chain was.block w v was.seen more;
  versions_are = was.versions_are;
}

pub sharding_later : (w v : Whole) → IsSharding w.sharding → SeesOn w v → IsSharding v.sharding
sharding_later w v is more = record {
  splits_are = subst IsSplits (sym more.splits) is.splits_are;
  count = all_step_length IsLater w.sharding.shards v.sharding.shards more.shards ∙ is.count
      ∙ ap (λ (l : List (List ℕ)). length l + 1) (sym more.splits);
}

pub reader_later : (s : Shards) (versions : List ℕ) (number : ℕ) (w v : Whole)
    → IsReader s versions number w → SeesOn w v → IsReader s versions number v
reader_later s versions number w v was more = record {
  sharding_is = sharding_later w v was.sharding_is more;
  own = stores_stay w.sharding.shards v.sharding.shards more.shards ∙ was.own;
  directory = more.directory.0 ∙ was.directory;
  begins = was.begins;
  last = λ some. block_later versions number w v (was.last some) more;
}
