-- Edits that a list points at, and the pair that an edit puts.
use Rattle.std.specs.Prelude.{List, [], ◌∷◌, map}
use Rattle.mst_key.specs.declared.history.Edit.{Edit}
use Rattle.mst_key.specs.declared.history.Edit.TheVariants as edit
use Rattle.mst_key.specs.Map.{Pair}
use denote.Ref.{Bor}

-- the edits, in the order of the list
abbrev pub listed : List (Bor Edit) → List Edit
listed es = map (λ e. e.now) es

-- the pair that the edit puts, if it is a put
abbrev pub put_of : Edit → List Pair
put_of (edit.Put k v) = (k, v) ∷ []
put_of (edit.Remove k) = []
