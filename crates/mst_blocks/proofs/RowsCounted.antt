-- A writer that has counted free rows: one of its passes has looked or found the turn taken.
use Rattle.mst_blocks.proofs.Names.{◌≡◌, ℕ, ◌<◌, List, [], length, map, set, get_or, refl, sym, ap, ◌∙◌, subst, map-set_same, Format, after, Pair, Known, StoreId, format_seen, whole, AreOf, sharding, AllStep, read_any, all_still, one_steps, MakesNothing, LeavesAll, Counts, CountsAt, at_last, IsWriter, IsLastRoot}
use Rattle.std.proofs.Common.{Result, Ok, Err}
use Rattle.mst_batching.specs.declared.faults.ApplyFault.TheVariants as apply
use Rattle.mst_node.specs.Text.{root as root_of}
use Rattle.mst_versions.specs.declared.faults.Busy.{Busy}
use Rattle.mst_blocks.specs.declared.faults.PartFault.TheVariants.{Refused}
use Rattle.mst_blocks.proofs.Blocked.{nothing_grows}
use Rattle.mst_blocks.proofs.Committing.{looks_nothing, same_nothing, part_nothing}

pub counts_nothing : (r : Result ℕ Busy) (p q : Known) → Counts r p q → MakesNothing p q
counts_nothing (Ok free) p q counts = looks_nothing p q counts.looks
counts_nothing (Err busy) p q finds = part_nothing (Refused apply.Busy) [] p q finds

-- the pass of a shard, which was laid down again
module _ (splits : List (List ℕ)) (ps zs : List Known) (d : Known) (i : ℕ) (p q : Known)
    (low : i < length ps) (here : p ≡ get_or ps i p) (now : zs ≡ set ps i q) (r : Result ℕ Busy)
    (counts : Counts r p q) where
  nothing : MakesNothing p q
  nothing = counts_nothing r p q counts

  pub counted_at : CountsAt i r (sharding splits ps) (sharding splits zs)
  counted_at = record {
    p = p;
    q = q;
    here = λ e. read_any ps i e p low ∙ sym here;
    counts = counts;
    now = ap (λ (x : List Known). sharding splits x) now;
  }

  pub left_by_count : LeavesAll ps zs d d
  left_by_count = record {
    shards = subst (λ (x : List Known). AllStep MakesNothing ps x) (sym now)
        (one_steps MakesNothing ps i p q (λ x. same_nothing x x refl) low here nothing);
    directory = same_nothing d d refl;
  }

  pub own_still : (stores : List StoreId) → AreOf stores ps → AreOf stores zs
  own_still stores own =
      ap (λ (l : List Known). map (λ x. x.store) l) now
      ∙ map-set_same (λ x. x.store) ps i q p
      (nothing.same.0 ∙ ap (λ (x : Known). x.store) here) ∙ own

-- the pass of the directory
module _ (splits : List (List ℕ)) (ps : List Known) (d e : Known) (w : IsWriter (whole splits ps d))
    (r : Result ℕ Busy) (counts : Counts r d e) where
  listing_nothing : MakesNothing d e
  listing_nothing = counts_nothing r d e counts

  pub left_by_listing : LeavesAll ps ps d e
  left_by_listing = record {
    shards = all_still MakesNothing ps (λ p. same_nothing p p refl);
    directory = listing_nothing;
  }

  pub store_still : e.store ≡ d.store
  store_still = listing_nothing.same.0

  pub root_still : (digest : List ℕ) → IsLastRoot digest d → IsLastRoot digest e
  root_still digest is =
      let grows = nothing_grows d e listing_nothing w.listing in
      is ∙ ap (λ (f : Format). root_of f (after (at_last d).seen)) (sym grows.format_is)
      ∙ ap (λ (m : List Pair). root_of (format_seen (at_last e)) m) (sym grows.map_is)
