use Rattle.mst_store.proofs.Names.{[], arith, All-head}
use Rattle.std.proofs.lemmas.List.Elements.{All-cons}
use Rattle.mst_store.proofs.Lawful.{IsOf, own_all}
use Rattle.mst_store.proofs.laws.event_laws.Goals as goal

pub returns-clause-alone : goal.returns-clause-alone
returns-clause-alone c log all = own_all log all

pub returns-clause-third : goal.returns-clause-third
returns-clause-third c change = All-cons (IsOf 3) (record { pass = 3; change = change }) []
    (omega arith, omega arith) (λ k d l. absurd (omega arith))

pub returns-clause-no_third : goal.returns-clause-no_third
returns-clause-no_third c change all = let low =
    (All-head (IsOf 2) (record { pass = 3; change = change }) [] all).1 in omega (arith, low)

pub returns-clause-no_pass : goal.returns-clause-no_pass
returns-clause-no_pass c passes change all = let pos =
    (All-head (IsOf passes) (record { pass = 0; change = change }) [] all).0 in omega (arith, pos)
