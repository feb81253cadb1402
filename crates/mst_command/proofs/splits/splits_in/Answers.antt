use Rattle.std.proofs.Common.{◌∙◌, List, sym, ap}
use Rattle.mst_command.proofs.Splitting.{all_left}
use Rattle.mst_command.specs.Splits.{splits_of, after_keys}
use Rattle.mst_command.proofs.splits.splits_in.Goals as goal

pub loop-rest-init : goal.loop-rest-init
loop-rest-init g c =
    all_left (splits_of c.args.word.now)
    ∙ ap (λ (ks : List (List _)). after_keys ks (splits_of c.args.word.now))
    (sym c.new-splits.ensures.items)
