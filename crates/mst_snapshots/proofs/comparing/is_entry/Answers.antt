use Rattle.mst_snapshots.proofs.Names.{slice_get, sym, ◌∙◌, option_copied, after, format_seen, shard_at}
use Rattle.mst_snapshots.proofs.Matching.{held_is, entry_yes, entry_other, entry_holds}
use Rattle.mst_snapshots.proofs.comparing.is_entry.Goals as goal

pub returns-then-same-clause-yes : goal.returns-then-same-clause-yes
returns-then-same-clause-yes g c = λ holds.
    entry_yes c.args.found.now c.in-Some.key c.in-Some.value
    (shard_at c.args.splits.now c.args.place) c.args.pinned.now c.in-Some.is
    (c.is_key-same.ensures.yes c.if-same.true ∙ c.low_key-low.ensures.low)
    (c.is_value-holds.ensures.yes holds
    ∙ held_is (format_seen c.args.pinned.now) (after c.args.pinned.now.seen) c.root-digest.result
    c.listing-held.result (option_copied c.high_key.result)
    (slice_get c.args.splits.now c.args.place) c.listing-held.ensures.listing
    c.root-digest.ensures.found c.high_key.ensures.high)

pub returns-then-same-clause-no : goal.returns-then-same-clause-no
returns-then-same-clause-no g c = λ some.
    entry_holds c.args.found.now c.in-Some.key c.in-Some.value
    (shard_at c.args.splits.now c.args.place) c.args.pinned.now c.in-Some.is
    (λ is. c.is_value-holds.ensures.no some (is
    ∙ sym (held_is (format_seen c.args.pinned.now) (after c.args.pinned.now.seen)
    c.root-digest.result c.listing-held.result (option_copied c.high_key.result)
    (slice_get c.args.splits.now c.args.place) c.listing-held.ensures.listing
    c.root-digest.ensures.found c.high_key.ensures.high)))

pub returns-else-same-clause-no : goal.returns-else-same-clause-no
returns-else-same-clause-no g c = λ some.
    entry_other c.args.found.now c.in-Some.key c.in-Some.value
    (shard_at c.args.splits.now c.args.place) c.args.pinned.now c.in-Some.is
    (λ is. c.is_key-same.ensures.no c.if-same.false (is ∙ sym c.low_key-low.ensures.low))
