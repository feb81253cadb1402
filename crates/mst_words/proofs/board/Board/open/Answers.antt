use Rattle.mst_words.proofs.Names.{rules, ◌≡◌, ◌<◌, ◌∷◌, [], ℕ, List, Some, Option, refl, ap, ◌∙◌, sym, subst, arith, slice_index, opening, Format, dealer, Ruled, stored, fresh_desk, desk_state}
use Rattle.mst_arena.specs.Lives.{State}
use Rattle.mst_words.proofs.Framed.{stored_framed}
use Rattle.mst_words.proofs.Fresh.{fresh_standing, fresh_is_desk}
use Rattle.mst_words.proofs.Opens.{opens}
use Rattle.mst_words.proofs.board.Board.open.Goals as goal

pub new-requires : goal.new-requires
new-requires g c =
    let R : ℕ = c.args.shape.rows in let N : ℕ = c.args.shape.passes in let first : Format =
    c.args.shape.format in let d : State = fresh_desk R N in let ws : List ℕ =
    c.in_ok-words.words.items in
    let front : (i : ℕ) → i < 38 → slice_index ws i ≡ 0 = c.in_ok-words.ensures.front in
    let slots : c.in_ok-slots.slots.items ≡ Some d ∷ [] = c.in_ok-slots.ensures.ok
    ∙ ap (λ (x : State). Some x ∷ []) c.requires.fresh in
    subst (λ (z : List ℕ × List (Option State)). Ruled (stored first) R N
    (opening z.0 z.1 (dealer R N first 1))) (λ i. (sym c.deref.ensures.value i, sym slots i))
    (opens (stored first) (stored_framed first) R N ws (Some d) (desk_state d)
    c.in_ok-words.ensures.long (λ i l. front i (omega arith))
    (let few = c.requires.few_passes in omega arith) (fresh_is_desk R N) refl
    (fresh_standing first R N ws front c.in_ok-words.ensures.digest c.in_ok-words.ensures.format))

pub returns-in_err-words : goal.returns-in_err-words
returns-in_err-words g c = search rules

pub returns-in_err-slots : goal.returns-in_err-slots
returns-in_err-slots g c = search rules

pub returns-in_default : goal.returns-in_default
returns-in_default g c = search rules

pub returns : goal.returns
returns g c = search rules

pub first_words-requires : goal.first_words-requires
first_words-requires g c = search rules

pub same-desk : goal.same-desk
same-desk g c = search rules

pub invariant_of-result : goal.invariant_of-result
invariant_of-result g c = search rules
