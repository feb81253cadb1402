use Rattle.mst_words.proofs.Names.{ℕ, ◌*◌, List, rules, arith, ap, TableId, masks, IsReady, desk_state, stored}
use Rattle.mst_words.proofs.Formats.{publishes_by}
use Rattle.mst_words.proofs.seat.PassSeat.publish.Goals as goal

pub swap-requires : goal.swap-requires
swap-requires g c =
    let me = c.self.inside.token.me in
    let r : (used : List ℕ) × IsReady (stored me.0.format) c.args.into c.args.event.now
    (desk_state c.args.desk.now) used me.0 = search rules in (
      search rules,
      (let v = ap (λ (z : TableId). z.words) c.board.view_is in let e = c.self.invariant.wide in
          omega arith),
      rw c.requires.named.0
          (rw c.requires.named.1
          (publishes_by _ _ _ _ _ (c.from-word.result * masks) c.args.into c.args.event.now
          (desk_state c.args.desk.now) r.0 me r.1
          (ap (λ (z : ℕ). z * masks) c.from-word.ensures))),
    )

pub returns-clause-same : goal.returns-clause-same
returns-clause-same g c = search rules

pub returns-clause-published : goal.returns-clause-published
returns-clause-published g c = search rules

pub overflow_mul-word : goal.overflow_mul-word
overflow_mul-word g c = search rules

pub invariant_of-self : goal.invariant_of-self
invariant_of-self g c = search rules
