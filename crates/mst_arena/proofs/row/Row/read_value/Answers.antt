use Rattle.mst_arena.proofs.Names.{◌≡◌, ℕ, ◌/◌, List, take, subst, rules, IfSome}
use Rattle.mst_arena.proofs.Readers.{eight_bytes, entry_value_of}
use Rattle.mst_arena.proofs.row.Row.read_value.Goals as goal

pub returns-then-len-gt64-clause-some : goal.returns-then-len-gt64-clause-some
returns-then-len-gt64-clause-some c = search rules

pub returns-then-len-gt64-clause-when : goal.returns-then-len-gt64-clause-when
returns-then-len-gt64-clause-when c = search rules

pub returns-then-len-gt64-clause-part : goal.returns-then-len-gt64-clause-part
returns-then-len-gt64-clause-part c all three at some =
    entry_value_of c.args.lengths c.args.words.now all _
    (λ value few size front. search rules) three at some

pub returns-clause-some : goal.returns-clause-some
returns-clause-some c =
    subst (λ (bytes : List ℕ). IfSome c.ok.result (λ value. value ≡ take (c.args.lengths / 256)
    bytes)) (eight_bytes c.args.words.now c.told-words) (search rules)

pub returns-clause-when : goal.returns-clause-when
returns-clause-when c = search rules

pub returns-clause-part : goal.returns-clause-part
returns-clause-part c all three at some =
    entry_value_of c.args.lengths c.args.words.now all _
    (λ value few size front. search rules) three at some
