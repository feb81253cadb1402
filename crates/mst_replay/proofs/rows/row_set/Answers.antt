use Rattle.mst_replay.proofs.Names.{rules, ◌≡◌, ◌≢◌, ℕ, ◌+◌, ◌*◌, ◌%◌, ◌<◌, ◌^◌, Option, bit_or, List, [], ◌∷◌, Some, true, false, ◌∙◌, sym, ap, subst, arith, rest_text}
use Rattle.std.specs.Cmp.Lexicographic.{bytes_decides}
use denote.Ref.{Bor}
use Rattle.mst_replay.proofs.RowLists.{Walked, whole_some, whole_only, minus_only, walked_has, walked_skips, rest_is_text, added_small, added_here, added_below}
use Rattle.mst_replay.proofs.rows.row_set.Goals as goal
use Rattle.mst_replay.proofs.rows.row_set.Goals.{in-Some, in_default}

pub returns-then-eq-clause-only : goal.returns-then-eq-clause-only
returns-then-eq-clause-only c = λ rows small e.
    let minus : c.args.field.now ≡ 45 ∷ [] =
    (bytes_decides c.args.field.now c.as_slice.result.now).0 (sym c.eq.ensures ∙ c.if-eq.true)
    ∙ c.as_slice.ensures in
    ap (λ (z : ℕ). Some z) (minus_only c.args.field.now minus rows small e)

pub loop-row-preserved : goal.loop-row-preserved
loop-row-preserved c =
    let k : ℕ = c.loop-row.row in let rows : ℕ = c.loop-row.rows in let field : List ℕ =
    c.args.field.now in let inside : k < 64 = c.loop-row-test.true in
    let walked : Walked field k rows (rest_text c.loop-row.rest) = c.loop-row.invariant in
    elim c.match-after_row.branch [
      | in-Some w ↦ let more : ℕ = bit_or rows (1 * 2 ^ k % 2 ^ 64) in
          let next = walked_has field k rows (rest_text c.loop-row.rest) inside walked
          (rest_text w.in-Some.after) (rest_is_text w.in-Some.after) w.in-Some.ensures.some more
          (added_small rows k walked.small inside) (added_here rows k inside)
          (added_below rows k inside) in
          subst (λ (z : ℕ). Walked field (k + 1) z (rest_text c.match-after_row.rest))
          (sym w.rows-is)
          (subst (λ (z : Option (Bor (List ℕ))). Walked field (k + 1) more (rest_text z))
          (sym w.rest-is) next)
      | in_default w ↦ let next = walked_skips field k rows (rest_text c.loop-row.rest) inside
          walked w.in_default.ensures.none in
          subst (λ (z : ℕ). Walked field (k + 1) z (rest_text c.match-after_row.rest))
          (sym w.rows-is)
          (subst (λ (z : Option (Bor (List ℕ))). Walked field (k + 1) rows (rest_text z))
          (sym w.rest-is) next)
    ]

pub returns-in-Some-rest-clause-only : goal.returns-in-Some-rest-clause-only
returns-in-Some-rest-clause-only c = λ rows small e.
    let row : c.loop-row.row ≡ 64 = omega arith in
    let walked : Walked c.args.field.now c.loop-row.row c.loop-row.rows
    (rest_text c.loop-row.rest) = c.loop-row.invariant in
    let other : c.args.field.now ≢ 45 ∷ [] = λ is. let yes =
    (bytes_decides c.args.field.now c.as_slice.result.now).1 (is ∙ sym c.as_slice.ensures) in
    let f : true ≡ false = sym yes ∙ sym c.eq.ensures ∙ c.if-eq.false in cc in
    let h = whole_only c.args.field.now c.loop-row.rows (rest_text c.loop-row.rest)
    (subst (λ (z : ℕ). Walked c.args.field.now z c.loop-row.rows (rest_text c.loop-row.rest))
    row walked) other rows small e in
    absurd (let f : 44 ∷ c.in-Some-rest.field-0.now ≡ [] = sym (ap rest_text c.in-Some-rest.is)
    ∙ h.0 in cc)

pub returns-in-None-clause-some : goal.returns-in-None-clause-some
returns-in-None-clause-some c =
    let row : c.loop-row.row ≡ 64 = omega arith in
    let walked : Walked c.args.field.now c.loop-row.row c.loop-row.rows
    (rest_text c.loop-row.rest) = c.loop-row.invariant in
    let last =
    subst (λ (z : ℕ). Walked c.args.field.now z c.loop-row.rows (rest_text c.loop-row.rest)) row
    walked in
    whole_some c.args.field.now c.loop-row.rows
    (subst (λ (z : List ℕ). Walked c.args.field.now 64 c.loop-row.rows z)
    (ap rest_text c.in-None.is) last)

pub returns-in-None-clause-only : goal.returns-in-None-clause-only
returns-in-None-clause-only c = λ rows small e.
    let row : c.loop-row.row ≡ 64 = omega arith in
    let walked : Walked c.args.field.now c.loop-row.row c.loop-row.rows
    (rest_text c.loop-row.rest) = c.loop-row.invariant in
    let other : c.args.field.now ≢ 45 ∷ [] = λ is. let yes =
    (bytes_decides c.args.field.now c.as_slice.result.now).1 (is ∙ sym c.as_slice.ensures) in
    let f : true ≡ false = sym yes ∙ sym c.eq.ensures ∙ c.if-eq.false in cc in
    let h = whole_only c.args.field.now c.loop-row.rows (rest_text c.loop-row.rest)
    (subst (λ (z : ℕ). Walked c.args.field.now z c.loop-row.rows (rest_text c.loop-row.rest))
    row walked) other rows small e in
    ap (λ (z : ℕ). Some z) h.1

pub as_slice-requires : goal.as_slice-requires
as_slice-requires c = search rules

pub returns-then-eq-clause-some : goal.returns-then-eq-clause-some
returns-then-eq-clause-some c = search rules

pub loop-row-init : goal.loop-row-init
loop-row-init c = search rules

pub overflow_cast-rows : goal.overflow_cast-rows
overflow_cast-rows c = search rules

pub overflow_shl-rows : goal.overflow_shl-rows
overflow_shl-rows c = search rules

pub returns-in-Some-rest-clause-some : goal.returns-in-Some-rest-clause-some
returns-in-Some-rest-clause-some c = search rules
