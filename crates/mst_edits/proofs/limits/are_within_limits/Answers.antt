use Rattle.std.proofs.Common.{◌≡◌, ◌∙◌, ◌+◌, ◌∷◌, ◌++◌, [], ℕ, take, length, sym, ap, subst, arith}
use Rattle.std.proofs.Math.Seq.{take-length}
use Rattle.std.proofs.lemmas.List.{take_more}
use Rattle.std.specs.List.{AllByRecursion}
use Rattle.mst_key.specs.History.{IsSmall}
use Rattle.mst_key.specs.declared.history.Edit.{Edit}
use Rattle.mst_key.proofs.Alls.{alls-append}
use Rattle.mst_edits.proofs.limits.are_within_limits.Goals as goal

pub loop-edit-preserved : goal.loop-edit-preserved
loop-edit-preserved c =
    let es = c.args.edits.now in
    let i = c.loop-edit.edit-index in
    let x = c.edit-item.result in
    let more : take (i + 1) es ≡ take i es ++ x ∷ [] = take_more es i x c.loop-edit-test.true
    ∙ ap (λ (y : Edit). take i es ++ y ∷ []) (sym c.edit-item.is) in
    subst (AllByRecursion IsSmall) (sym more)
    (alls-append IsSmall (take i es) (x ∷ []) c.loop-edit.invariant
    (c.is_within_limits.ensures.small, tt))

pub returns : goal.returns
returns c =
    let es = c.args.edits.now in
    let end : c.loop-edit.edit-index ≡ length es = omega arith in
    let all : take c.loop-edit.edit-index es ≡ es = ap (λ (i : ℕ). take i es) end ∙ take-length es
    in
    record { small = subst (AllByRecursion IsSmall) all c.loop-edit.invariant }
