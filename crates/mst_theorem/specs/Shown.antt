-- What a function that makes calls of passes ensures of them, by the theorem.
use Rattle.std.specs.Prelude.{◌≡◌, ℕ, List, map, Option, Result, Ok, Err}
use Rattle.mst_key.specs.declared.history.Change.TheVariants.{Put}
use Rattle.mst_key.specs.History.{History, had}
use Rattle.mst_versions.specs.declared.faults.WriteFault.{WriteFault}
use Rattle.mst_store.specs.Passes.{StoreId}
use Rattle.mst_theorem.specs.Headline.{Operation, Call, IsOneOrder, wrote, read, refused}

-- a put with its result
abbrev pub put_was : List ℕ → List ℕ → Result (Option (List ℕ)) WriteFault → Operation
put_was k v (Ok old) = wrote (Put k v) (had old)
put_was k v (Err fault) = read (refused (Put k v))

-- calls with these answers were made, and have one order
pub record HaveOneOrder (store : StoreId) (operations : List Operation) (log : History) : Type 0
  where
    pub run : List Call
    pub asked : map (λ c. c.operation) run ≡ operations
    pub order : List Call
    pub one : IsOneOrder store run log order
