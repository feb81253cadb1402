-- A try of a snapshot: all that a reader pinned, and what it keeps of that.
use Rattle.mst_snapshots.proofs.Names.{◌≡◌, ℕ, List, length, refl, sym, ap, ◌∙◌, subst, Known, Whole, whole, IsOneBlock, Shards, AllStep, PinsNow, all_step_length, PinsWhole, versions_of, IsReader, IsSnapshot}
use Rattle.mst_snapshots.proofs.Kept.{taken}
use Rattle.mst_snapshots.proofs.Later.{pins_on, reader_later}

-- the directory was pinned, and each shard
pub pinned_whole : (splits : List (List ℕ)) (ps qs : List Known) (d e : Known)
    → AllStep PinsNow ps qs → PinsNow d e → PinsWhole (whole splits ps d) (whole splits qs e)
pinned_whole splits ps qs d e pins pin =
    record { shards = record { splits = refl; pins = pins }; directory = pin }

pub pinned_reader : (s : Shards) (versions : List ℕ) (n : ℕ) (ps qs : List Known) (d e : Known)
    → IsReader s versions n (whole s.splits ps d) → AllStep PinsNow ps qs → PinsNow d e
    → IsReader s versions n (whole s.splits qs e)
pinned_reader s versions n ps qs d e was pins pin =
    reader_later s versions n (whole s.splits ps d) (whole s.splits qs e) was
    (pins_on (whole s.splits ps d) (whole s.splits qs e)
    (pinned_whole s.splits ps qs d e pins pin))

-- as many pins as passes
pub as_many_pins : (n m : ℕ) (ps qs : List Known) → n ≡ length ps → m ≡ length qs
    → AllStep PinsNow ps qs → m ≡ n
as_many_pins n m ps qs long now pins =
    now ∙ all_step_length PinsNow ps qs pins ∙ sym long

-- lists by other names
pub reader_as : (s : Shards) (versions : List ℕ) (n : ℕ) (ps qs : List Known) (d e : Known)
    → qs ≡ ps → e ≡ d → IsReader s versions n (whole s.splits ps d)
    → IsReader s versions n (whole s.splits qs e)
reader_as s versions n ps qs d e same still was =
    subst (λ (x : Known). IsReader s versions n (whole s.splits qs x)) (sym still)
    (subst (λ (x : List Known). IsReader s versions n (whole s.splits x d)) (sym same) was)

pub snapshot_as : (s : Shards) (versions : List ℕ) (n : ℕ) (ps qs : List Known) (d e : Known)
    → qs ≡ ps → e ≡ d → IsSnapshot s versions n (whole s.splits ps d)
    → IsSnapshot s versions n (whole s.splits qs e)
snapshot_as s versions n ps qs d e same still was =
    subst (λ (x : Known). IsSnapshot s versions n (whole s.splits qs x)) (sym still)
    (subst (λ (x : List Known). IsSnapshot s versions n (whole s.splits x d)) (sym same) was)

pub whole_as : (splits : List (List ℕ)) (ps qs : List Known) (d e : Known) → qs ≡ ps → e ≡ d
    → whole splits qs e ≡ whole splits ps d
whole_as splits ps qs d e same still =
    ap (λ (x : List Known). whole splits x e) same ∙ ap (λ (x : Known). whole splits ps x) still

-- ---- what is made of a try

-- all of it is of one block
pub tried : (s : Shards) (versions found : List ℕ) (n m : ℕ) (ps qs zs : List Known)
    (d e x : Known) → IsReader s versions n (whole s.splits ps d) → AllStep PinsNow ps qs
    → PinsNow d e → found ≡ versions_of qs → m ≡ length e.seen → IsOneBlock (whole s.splits qs e)
    → zs ≡ qs → x ≡ e → IsSnapshot s found m (whole s.splits zs x)
tried s versions found n m ps qs zs d e x was pins pin noted number one same still =
    snapshot_as s found m qs zs e x same still
    (taken s versions found n m (whole s.splits qs e)
    (pinned_reader s versions n ps qs d e was pins pin)
    (record { shards = noted; directory = number }) one)

-- or it is not, and the pins are ended
pub failed : (s : Shards) (versions : List ℕ) (n : ℕ) (ps qs zs : List Known) (d e x : Known)
    → IsReader s versions n (whole s.splits ps d) → AllStep PinsNow ps qs → PinsNow d e
    → zs ≡ qs → x ≡ e → IsReader s versions n (whole s.splits zs x)
failed s versions n ps qs zs d e x was pins pin same still =
    reader_as s versions n qs zs e x same still (pinned_reader s versions n ps qs d e was pins pin)

-- either way the passes have pinned
pub pinned_as : (splits : List (List ℕ)) (ps qs zs : List Known) (d e x : Known)
    → AllStep PinsNow ps qs → PinsNow d e → zs ≡ qs → x ≡ e
    → PinsWhole (whole splits ps d) (whole splits zs x)
pinned_as splits ps qs zs d e x pins pin same still =
    subst (λ (w : Whole). PinsWhole (whole splits ps d) w)
    (sym (whole_as splits qs zs e x same still))
    (pinned_whole splits ps qs d e pins pin)
