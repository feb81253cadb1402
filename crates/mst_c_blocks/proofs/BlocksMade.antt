-- What a writer's block comes to, made or refused.
use Rattle.mst_c_blocks.proofs.Names.{◌≡◌, ℕ, List, [], ◌∷◌, ◌++◌, subst, Result, Ok, Err, Edit, Whole}
use Rattle.std.specs.Prelude.{OnOk, OnErr, IfOk, IfErr}
use Rattle.mst_shards.specs.BlockHistory.{Blocks, IsNumber}
use Rattle.mst_blocks.specs.Writing.{last_block, AddsBlock, RefusesBlock, HasMade}
use Rattle.mst_blocks.specs.declared.faults.BlockFault.{BlockFault}
use Rattle.mst_c_blocks.specs.Making.{MakesBlock}

-- the edits are those that were given, by another name
pub made_ok : (edits given : List Edit) (w v : Whole) (r : Result ℕ BlockFault) (n : ℕ)
    → given ≡ edits → r ≡ Ok n → OnOk r (AddsBlock given w v)
    → IfOk r (λ m. IsNumber m (last_block v))
    → OnOk r ((blocks : Blocks) → HasMade blocks w → HasMade (blocks ++ given ∷ []) v)
    → MakesBlock edits n w v
made_ok edits given w v r n same is adds number more =
    subst (λ (es : List Edit). MakesBlock es n w v) same (record {
      adds = subst (λ (x : Result ℕ BlockFault). OnOk x (AddsBlock given w v)) is adds;
      number_is =
          subst (λ (x : Result ℕ BlockFault). IfOk x (λ m. IsNumber m (last_block v))) is number;
      more =
          subst (λ (x : Result ℕ BlockFault). OnOk x
          ((blocks : Blocks) → HasMade blocks w → HasMade (blocks ++ given ∷ []) v)) is more;
    })

pub made_err : (edits given : List Edit) (w v : Whole) (r : Result ℕ BlockFault)
    (fault : BlockFault) → given ≡ edits → r ≡ Err fault
    → IfErr r (λ why. RefusesBlock why given w v)
    → OnErr r ((blocks : Blocks) → HasMade blocks w → HasMade blocks v)
    → RefusesBlock fault edits w v × ((blocks : Blocks) → HasMade blocks w → HasMade blocks v)
made_err edits given w v r fault same is refuses kept = (
  subst (λ (es : List Edit). RefusesBlock fault es w v) same
      (subst (λ (x : Result ℕ BlockFault). IfErr x (λ why. RefusesBlock why given w v)) is refuses),
  subst (λ (x : Result ℕ BlockFault). OnErr x
      ((blocks : Blocks) → HasMade blocks w → HasMade blocks v)) is kept,
)
