-- The map after any history rises, whatever the sizes of its keys and values.
use Rattle.mst_key.proofs.Names.{List, [], ◌∷◌, not, is_eq, Change, Put, Remove, Migrate, Batch, Edit, edited, batched, History, changed, after_from, after, Pair, key_cmp, IsAscending}
use Rattle.mst_key.specs.declared.history.Edit.TheVariants as edit
use Rattle.mst_key.proofs.MapLaws.{IsAscending-put, IsAscending-filter}

pub IsAscending-edited : (m : List Pair) (e : Edit) → IsAscending m → IsAscending (edited m e)
IsAscending-edited m (edit.Put k v) rise = IsAscending-put m k v rise
IsAscending-edited m (edit.Remove k) rise =
    IsAscending-filter (λ (p : Pair). not (is_eq (key_cmp p.0 k))) m rise

pub IsAscending-batched : (m : List Pair) (es : List Edit) → IsAscending m
    → IsAscending (batched m es)
IsAscending-batched m [] rise = rise
IsAscending-batched m (e ∷ es) rise = IsAscending-batched (edited m e) es
    (IsAscending-edited m e rise)

pub IsAscending-changed : (m : List Pair) (c : Change) → IsAscending m → IsAscending (changed m c)
IsAscending-changed m (Put k v) rise = IsAscending-put m k v rise
IsAscending-changed m (Remove k) rise =
    IsAscending-filter (λ (p : Pair). not (is_eq (key_cmp p.0 k))) m rise
IsAscending-changed m (Migrate to) rise = rise
IsAscending-changed m (Batch es) rise = IsAscending-batched m es rise

pub IsAscending-after_from : (m : List Pair) (h : History) → IsAscending m
    → IsAscending (after_from m h)
IsAscending-after_from m [] rise = rise
IsAscending-after_from m (e ∷ es) rise = IsAscending-after_from (changed m e.change) es
    (IsAscending-changed m e.change rise)

pub IsAscending-after : (h : History) → IsAscending (after h)
IsAscending-after h = IsAscending-after_from [] h tt
