use Rattle.mst_shards.proofs.Names.{◌∙◌, ◌≤◌, ◌∷◌, ◌++◌, [], ℕ, List, length, map, take, sym, ap, arith, key_of, Edit, place}
use Rattle.std.proofs.Common.{take_all}
use Rattle.std.proofs.lemmas.List.{map_more}
use Rattle.mst_shards.proofs.edits.places_of.Goals as goal

pub loop-edit-preserved : goal.loop-edit-preserved
loop-edit-preserved g c =
    let was = c.loop-edit.invariant in
    let splits : List (List ℕ) = c.args.splits.now in
    let edits : List Edit = c.args.edits.now in
    let i : ℕ = c.loop-edit.edit-index in
    let e : Edit = c.edit-item.result in
    let its : Edit → ℕ = λ x. place splits (key_of x) in
    let found = c.place_of.ensures.place
    ∙ ap (λ (k : List ℕ). place splits k) c.key.ensures.key in
    let len = c.push_reserved.ensures.len in
    let cap = c.push_reserved.ensures.capacity in
    let at = was.1 in
    let room = was.2 in (
      c.push_reserved.ensures.items
          ∙ ap (λ (l : List ℕ). l ++ c.place_of.result ∷ []) was.0
          ∙ ap (λ (p : ℕ). map its (take i edits) ++ p ∷ [])
          (found ∙ ap its c.edit-item.is)
          ∙ sym (map_more its edits i e c.loop-edit-test.true),
      omega (arith, at, len),
      omega (arith, room, cap),
    )

pub returns : goal.returns
returns g c =
    let was = c.loop-edit.invariant in
    let edits : List Edit = c.args.edits.now in
    let its : Edit → ℕ = λ x. place c.args.splits.now (key_of x) in
    let all : length edits ≤ c.loop-edit.edit-index = omega arith in
    record { places = was.0 ∙ ap (map its) (take_all c.loop-edit.edit-index edits all) }
