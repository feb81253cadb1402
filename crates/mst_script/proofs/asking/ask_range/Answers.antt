use Rattle.mst_script.proofs.Names.{rules, ◌++◌, List, refl, option_copied, Pair, Range, codes, line_of}
use Rattle.mst_key.specs.Map.{map_range}
use Rattle.mst_requests.specs.Texts.{count_words, pair_lines}
use Rattle.mst_script.proofs.Calling.{asked, missed}
use Rattle.mst_script.proofs.asking.ask_range.Goals as goal

pub returns-in-Err : goal.returns-in-Err
returns-in-Err g c = let p = c.args.pass.now in let q = c.range.new.self in
    let from = option_copied c.args.from in let to = option_copied c.args.to in
    let found = λ (m : List Pair). map_range m from to c.args.limit in
    asked (Range from to c.args.limit) (Range from to c.args.limit) p q (line_of (codes "memory"))
    refl
    (missed (λ _ m. line_of (count_words (found m)) ++ pair_lines (found m))
    (line_of (codes "memory")) p q c.in-Err.ensures.memory refl)

pub returns-in-Ok : goal.returns-in-Ok
returns-in-Ok g c = search rules
