-- A reader: how it begins, and one of its passes that made a step and was laid down again.
use Rattle.mst_snapshots.proofs.Names.{◌≡◌, ℕ, ◌+◌, ◌<◌, ◌≤◌, List, [], ◌∷◌, ◌++◌, length, set, get_or, sym, ap, ◌∙◌, subst, arith, swap_remove, SwappedAt, Known, whole, Shards, Dealt, IsLot, IsSplits, place, sharding, IsSharding, Routes, read_any, as_many, IsLater, SeesOn, IsReader}
use Rattle.std.proofs.Common.{slice_index_or}
use Rattle.mst_shards.proofs.Moved.{put_back}
use Rattle.mst_snapshots.proofs.Later.{one_on, reader_later}

pub new_reader : (s : Shards) (d : Dealt) (versions : List ℕ) (n : ℕ) → IsSplits s.splits
    → n ≡ length s.splits + 1 → n ≡ length s.stores → IsLot s d → versions ≡ []
    → IsReader s versions 0 (whole s.splits d.passes d.directory)
new_reader s d versions n is splits stores lot none =
    let many = as_many s.stores d.passes lot.own in
    record {
      sharding_is = record { splits_are = is; count = sym many ∙ sym stores ∙ splits };
      own = lot.own;
      directory = lot.directory;
      begins = λ begin. none;
      last = λ some. absurd (omega (arith, some));
    }

-- the list is that in which the pass at the place is set
pub set_back : (splits : List (List ℕ)) (ps ys zs : List Known) (i m n k : ℕ) (p q : Known)
    → IsSharding (sharding splits ps) → i ≤ length splits → m ≡ length ps
    → ys ≡ swap_remove ps i p → n + 1 ≡ m → k ≡ n + 1 → k ≡ length zs
    → SwappedAt (ys ++ q ∷ []) zs i n → zs ≡ set ps i q
set_back splits ps ys zs i m n k p q is within long left taken laid now back =
    let count : length ps ≡ length splits + 1 = is.count in
    put_back ps ys zs i n p q (sym long ∙ sym taken) (sym now ∙ laid)
    (omega (arith, count, long, taken, within)) left back

pub routed : (splits : List (List ℕ)) (k : List ℕ) (S : Known → Known → Type 0)
    (ps zs : List Known) (i : ℕ) (p q : Known) → IsSharding (sharding splits ps)
    → i ≤ length splits → i ≡ place splits k → p ≡ get_or ps i p → zs ≡ set ps i q → S p q
    → Routes k S (sharding splits ps) (sharding splits zs)
routed splits k S ps zs i p q is within at here now step =
    let long : length ps ≡ length splits + 1 = is.count in
    let low : i < length ps = omega (arith, long, within) in
    record {
      p = p;
      q = q;
      here = λ d. ap (λ (j : ℕ). slice_index_or ps j d) (sym at) ∙ read_any ps i d p low
          ∙ sym here;
      steps = step;
      now = ap (λ (x : List Known). sharding splits x)
          (now ∙ ap (λ (j : ℕ). set ps j q) at);
    }

pub reader_routed : (s : Shards) (versions : List ℕ) (n : ℕ) (ps zs : List Known) (d : Known)
    (i : ℕ) (p q : Known) → IsReader s versions n (whole s.splits ps d) → i ≤ length s.splits
    → p ≡ get_or ps i p → zs ≡ set ps i q → IsLater p q
    → IsReader s versions n (whole s.splits zs d)
reader_routed s versions n ps zs d i p q was within here now step =
    let long : length ps ≡ length s.splits + 1 = was.sharding_is.count in
    let low : i < length ps = omega (arith, long, within) in
    reader_later s versions n (whole s.splits ps d) (whole s.splits zs d) was
    (subst (λ (x : List Known). SeesOn (whole s.splits ps d) (whole s.splits x d)) (sym now)
    (one_on s.splits ps d i p q low here step))
