-- Errors that do not occur.
use Rattle.std.proofs.Common.{◌↔◌, Result, IfErr, IsErrOf}
use Rattle.std.proofs.lemmas.Result.{IfErr-at_err}
use Rattle.mst_arguments.specs.Commanding.{EndsScript, EndsSharded, EndsVerify, EndsReplay, EndsLoad, EndsHelp}
use Rattle.mst_arguments.specs.declared.task.Ending.{Ending}
use Rattle.mst_arguments.specs.declared.task.Refusal.{Refusal}
use Rattle.mst_arguments.specs.declared.task.Refusal.TheVariants.{Shape, Splits, BadRoot, BadKey}

never : (P : Refusal → Type 0) (why : Refusal) (r : Result Ending Refusal) → IfErr r P → (P why → ⊥)
    → IsErrOf r why ↔ ⊥
never P why r h other = (λ e. other (IfErr-at_err P e h), λ b. absurd b)

pub script_root : (r : Result Ending Refusal) → IfErr r (λ why. EndsScript why) → IsErrOf r BadRoot
    ↔ ⊥
script_root r h = never EndsScript BadRoot r h (λ b. b)

pub script_key : (r : Result Ending Refusal) → IfErr r (λ why. EndsScript why) → IsErrOf r BadKey
    ↔ ⊥
script_key r h = never EndsScript BadKey r h (λ b. b)

pub verify_shape : (r : Result Ending Refusal) → IfErr r (λ why. EndsVerify why) → IsErrOf r Shape
    ↔ ⊥
verify_shape r h = never EndsVerify Shape r h (λ b. b)

pub replay_shape : (r : Result Ending Refusal) → IfErr r (λ why. EndsReplay why) → IsErrOf r Shape
    ↔ ⊥
replay_shape r h = never EndsReplay Shape r h (λ b. b)

pub replay_root : (r : Result Ending Refusal) → IfErr r (λ why. EndsReplay why) → IsErrOf r BadRoot
    ↔ ⊥
replay_root r h = never EndsReplay BadRoot r h (λ b. b)

pub replay_key : (r : Result Ending Refusal) → IfErr r (λ why. EndsReplay why) → IsErrOf r BadKey
    ↔ ⊥
replay_key r h = never EndsReplay BadKey r h (λ b. b)

pub load_root : (r : Result Ending Refusal) → IfErr r (λ why. EndsLoad why) → IsErrOf r BadRoot ↔ ⊥
load_root r h = never EndsLoad BadRoot r h (λ b. b)

pub load_key : (r : Result Ending Refusal) → IfErr r (λ why. EndsLoad why) → IsErrOf r BadKey ↔ ⊥
load_key r h = never EndsLoad BadKey r h (λ b. b)

pub help_shape : (r : Result Ending Refusal) → IfErr r (λ why. EndsHelp why) → IsErrOf r Shape ↔ ⊥
help_shape r h = never EndsHelp Shape r h (λ b. b)

pub help_root : (r : Result Ending Refusal) → IfErr r (λ why. EndsHelp why) → IsErrOf r BadRoot ↔ ⊥
help_root r h = never EndsHelp BadRoot r h (λ b. b)

pub help_key : (r : Result Ending Refusal) → IfErr r (λ why. EndsHelp why) → IsErrOf r BadKey ↔ ⊥
help_key r h = never EndsHelp BadKey r h (λ b. b)

-- ---- of a sharded map, and its splits alone

pub sharded_root : (r : Result Ending Refusal) → IfErr r (λ why. EndsSharded why)
    → IsErrOf r BadRoot ↔ ⊥
sharded_root r h = never EndsSharded BadRoot r h (λ b. b)

pub sharded_key : (r : Result Ending Refusal) → IfErr r (λ why. EndsSharded why)
    → IsErrOf r BadKey ↔ ⊥
sharded_key r h = never EndsSharded BadKey r h (λ b. b)

pub script_splits : (r : Result Ending Refusal) → IfErr r (λ why. EndsScript why)
    → IsErrOf r Splits → ⊥
script_splits r h = (never EndsScript Splits r h (λ b. b)).0

pub verify_splits : (r : Result Ending Refusal) → IfErr r (λ why. EndsVerify why)
    → IsErrOf r Splits → ⊥
verify_splits r h = (never EndsVerify Splits r h (λ b. b)).0

pub replay_splits : (r : Result Ending Refusal) → IfErr r (λ why. EndsReplay why)
    → IsErrOf r Splits → ⊥
replay_splits r h = (never EndsReplay Splits r h (λ b. b)).0

pub load_splits : (r : Result Ending Refusal) → IfErr r (λ why. EndsLoad why)
    → IsErrOf r Splits → ⊥
load_splits r h = (never EndsLoad Splits r h (λ b. b)).0

pub help_splits : (r : Result Ending Refusal) → IfErr r (λ why. EndsHelp why)
    → IsErrOf r Splits → ⊥
help_splits r h = (never EndsHelp Splits r h (λ b. b)).0
