use Rattle.mst_node.proofs.Names.{List, ℕ, Option, Some, sym, ap, ◌∙◌, seen_stop, passing_from}
use Rattle.std.proofs.Common.{option_map}
use Rattle.mst_node.proofs.ScannedEntries.{scan_end}
use Rattle.mst_node.proofs.Stops.{passed_to, ended}
use Rattle.mst_node.proofs.finding.scan.Goals as goal

pub returns-clause-reading : goal.returns-clause-reading
returns-clause-reading c =
    let format = c.args.format in
    let key = c.args.key.now in
    let stop = c.stop_of-stop.result in
    let end = c.in_ok-end.end in
    let none = ended format key stop end.rest.now c.in_ok-below.below.left end.left
    c.in_ok-end.ensures.fewer c.stop_of-stop.ensures.stops c.in_ok-end.ensures.halts in
    sym c.in_ok-below.ensures.scanned
    ∙ sym (c.stop_of-stop.ensures.scanned c.args.layer)
    ∙ sym c.in_ok-end.ensures.scanned
    ∙ scan_end format c.args.layer key (passing_from end.last.now stop) end.left end.rest.now none
    ∙ ap (λ (o : Option (List ℕ)). Some (passed_to o (option_map seen_stop stop), end.rest.now))
    (sym c.before-last.ensures.key)
