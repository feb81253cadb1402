-- What the numbers of two snapshots say of them.
use Rattle.mst_snapshots.proofs.Names.{◌≡◌, ℕ, ◌≤◌, List, length, length-append, sym, ap, ◌∙◌, arith, Format, History, after, format_after, Pair, IsPrefix-length, StoreId, format_seen, directory, Whole, IsOneBlock, IsNumber, map_of}
use Rattle.mst_key.specs.History.{IsPrefix}
use Rattle.mst_node.specs.Text.{root as root_of}
use Rattle.mst_snapshots.specs.Numbers.{root_digest, HaveOneDirectory}

pub rise : (w v : Whole) (n m : ℕ) → IsPrefix w.directory.seen v.directory.seen → IsNumber n w
    → IsNumber m v → n ≤ m
rise w v n m early one other =
    let more = length-append w.directory.seen early.0 in
    let long = ap (λ (h : History). length h) early.1 in
    omega (arith, more, long, one, other)

-- the root digest is that of the directory's pairs
digest_is : (w : Whole) → IsOneBlock w
    → root_digest w ≡ root_of (format_seen w.directory) (after w.directory.seen)
digest_is w one =
    ap (λ (f : Format). root_of (format_seen w.directory)
    (directory f (map_of w.sharding) w.sharding.splits)) one.format_is
    ∙ ap (λ (m : List Pair). root_of (format_seen w.directory) m) (sym one.listed)

pub one_directory : (w v : Whole) (n : ℕ) → IsOneBlock w → IsOneBlock v
    → v.directory.store ≡ w.directory.store → IsPrefix w.directory.seen v.directory.seen
    → IsNumber n w → IsNumber n v → HaveOneDirectory w v
one_directory w v n one other store early number same =
    let seen = IsPrefix-length w.directory.seen v.directory.seen early (same ∙ sym number) in
    let formats : format_seen w.directory ≡ format_seen v.directory =
    ap (λ (s : StoreId). format_after s.format w.directory.seen) (sym store)
    ∙ ap (λ (h : History). format_after v.directory.store.format h) (sym seen) in
    let pairs : after w.directory.seen ≡ after v.directory.seen =
    ap (λ (h : History). after h) (sym seen) in
    record {
      format = formats;
      pairs = pairs;
      root = digest_is w one
          ∙ ap (λ (f : Format). root_of f (after w.directory.seen)) formats
          ∙ ap (λ (m : List Pair). root_of (format_seen v.directory) m) pairs
          ∙ sym (digest_is v other);
    }
