use Rattle.mst_snapshots.proofs.Names.{◌≡◌, ℕ, vec_items, rules, subst, IfOk-weaker, after, proof_text, sharded_proof, Known, format_seen, OfClean, sharding}
use Rattle.mst_snapshots.proofs.Shown.{proof_shown}
use Rattle.mst_snapshots.proofs.proving.prove_in.Goals as goal

pub returns-clause-bytes : goal.returns-clause-bytes
returns-clause-bytes g c =
    let are : c.splits-2.result.now ≡ c.args.map.now.splits = search rules in
    let d : Known = c.args.directory.now in
    let i : ℕ = c.place_of-place.result in
    IfOk-weaker c.join.result _
    (λ bytes. OfClean (λ f m. vec_items bytes ≡ sharded_proof f m c.args.map.now.splits
    c.args.key.now) (sharding c.args.map.now.splits (vec_items c.args.pins.now)))
    (λ bytes joined. proof_shown c.args.map.now.splits (vec_items c.args.pins.now) d i
    c.format-format.result c.args.key.now c.low_key-low.result (vec_items c.in_ok-over.over)
    (vec_items c.in_ok-under.under) (vec_items bytes) c.requires.one (search rules)
    c.format-format.ensures.found (search rules)
    (subst (λ (x : Known). vec_items c.in_ok-over.over
    ≡ proof_text (format_seen x) (after x.seen) c.low_key-low.result)
    c.format-format.ensures.same c.in_ok-over.ensures.found)
    c.in_ok-under.ensures.found (search rules)) c.join.ensures.bytes
