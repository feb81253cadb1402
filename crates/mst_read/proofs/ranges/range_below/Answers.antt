use Rattle.mst_read.proofs.Names.{ℕ, List, [], Option, ◌∙◌, ap, option_copied, Pair, pairs, tree_of, filled}
use Rattle.mst_read.proofs.Still.{stands_still}
use Rattle.mst_read.proofs.Descend.{there_at, pairs_at, head_stands}
use Rattle.mst_read.proofs.Fillings.{filled-span}
use Rattle.mst_read.proofs.ranges.range_below.Goals as goal

pub head_at-top-requires : goal.head_at-top-requires
head_at-top-requires g c = record { lies = there_at c.requires.stands.2 }

pub gather-requires : goal.gather-requires
gather-requires g c =
    let s = c.requires.stands in
    record {
      stands = (
        s.0,
        s.2.tree.placed,
        stands_still (ap g.R.Rows.content c.head_at-top.ensures.same)
            (head_stands s.2 c.head_at-top.ensures.head),
      );
    }

pub returns-clause-found : goal.returns-clause-found
returns-clause-found g c f m s =
    let from = option_copied c.args.from in
    let to = option_copied c.args.to in
    c.in_ok-gather.ensures.found f s.tree.placed
    (stands_still (ap g.R.Rows.content c.head_at-top.ensures.same)
    (head_stands s c.head_at-top.ensures.head))
    ∙ ap (λ (b : Option (List ℕ)). filled b c.sought-to.result c.args.limit
    c.new-found.result.items (pairs (tree_of f s.tree.placed))) c.sought-from.ensures
    ∙ ap (λ (b : Option (List ℕ)). filled from b c.args.limit c.new-found.result.items
    (pairs (tree_of f s.tree.placed))) c.sought-to.ensures
    ∙ ap (λ (l : List Pair). filled from to c.args.limit l (pairs (tree_of f s.tree.placed)))
    c.new-found.ensures.items
    ∙ ap (filled from to c.args.limit []) (pairs_at s)
    ∙ filled-span from to c.args.limit m
