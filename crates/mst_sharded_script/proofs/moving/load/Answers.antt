use Rattle.mst_sharded_script.proofs.Names.{◌≡◌, ◌∙◌, rules, vec_items, Whole, map_of, text_of, puts_of}
use Rattle.mst_sharded_script.specs.Serving.{Loads, LacksMap}
use Rattle.mst_sharded_script.proofs.Loading.{each_ok, each_err}
use Rattle.mst_sharded_script.proofs.moving.load.Goals as goal

pub returns-in-Ok-clause-ok : goal.returns-in-Ok-clause-ok
returns-in-Ok-clause-ok g c =
    let to = c.args.to in
    let l = c.args.layout.now in
    let y : Whole = c.args.snapshot.now in
    let es = c.as_slice.result.now in
    let same : es ≡ vec_items c.in-Ok.edits = search rules in
    each_ok
    (λ roles. (z : Whole) → es ≡ puts_of (map_of z.sharding)
    → Loads to l z roles.0 (vec_items roles.1))
    (λ roles. Loads to l y roles.0 (vec_items roles.1)) c.open_with.result
    (λ roles loads. loads y (same ∙ c.in-Ok.ensures.puts)) c.open_with.ensures.ok

pub returns-in-Ok-clause-err : goal.returns-in-Ok-clause-err
returns-in-Ok-clause-err g c =
    let to = c.args.to in
    let l = c.args.layout.now in
    let y : Whole = c.args.snapshot.now in
    let es = c.as_slice.result.now in
    let same : es ≡ vec_items c.in-Ok.edits = search rules in
    each_err
    (λ answer. (z : Whole) → es ≡ puts_of (map_of z.sharding) → LacksMap to l z (text_of answer))
    (λ answer. LacksMap to l y (text_of answer)) c.open_with.result
    (λ answer lacks. lacks y (same ∙ c.in-Ok.ensures.puts)) c.open_with.ensures.err
