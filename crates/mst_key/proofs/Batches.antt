-- Batches: what a look-up finds after one, and which of them leave one map.
use Rattle.mst_key.proofs.Names.{◌≡◌, ℕ, cond, List, [], ◌∷◌, Option, Some, None, is_eq, refl, sym, ap, ◌∙◌, cond-true, cond-false, Edit, edited, batched, key_of, value_of, value_after, Pair, IsAscending, key_cmp, map_get, put, remove}
use Rattle.mst_key.specs.declared.history.Edit.TheVariants as edit
use Rattle.mst_key.proofs.Ascending.{IsAscending-batched}
use Rattle.mst_key.proofs.KeyOrder.{by_same, test_of_same, test_of_other}
use Rattle.mst_key.proofs.MapLaws.{map_get-put_same, map_get-put_other, map_get-remove_same, map_get-remove_other, map_determined}

map_get-edited : (m : List Pair) (e : Edit) (q : List ℕ) → map_get (edited m e) q
    ≡ cond (is_eq (key_cmp (key_of e) q)) (value_of e) (map_get m q)
map_get-edited m (edit.Put k v) q =
    by_same {G = map_get (put m k v) q ≡ cond (is_eq (key_cmp k q)) (Some v) (map_get m q)} k q
    (λ same. ap (map_get (put m k v)) (sym same) ∙ map_get-put_same m k v
    ∙ sym (cond-true (is_eq (key_cmp k q)) (Some v) (map_get m q) (test_of_same k q same)))
    (λ other. map_get-put_other m k v q (λ same. other (sym same))
    ∙ sym (cond-false (is_eq (key_cmp k q)) (Some v) (map_get m q) (test_of_other k q other)))
map_get-edited m (edit.Remove k) q =
    by_same {G = map_get (remove m k) q ≡ cond (is_eq (key_cmp k q)) None (map_get m q)} k q
    (λ same. ap (map_get (remove m k)) (sym same) ∙ map_get-remove_same m k
    ∙ sym (cond-true (is_eq (key_cmp k q)) None (map_get m q) (test_of_same k q same)))
    (λ other. map_get-remove_other m k q (λ same. other (sym same))
    ∙ sym (cond-false (is_eq (key_cmp k q)) None (map_get m q) (test_of_other k q other)))

pub map_get-batched : (m : List Pair) (es : List Edit) (q : List ℕ)
    → map_get (batched m es) q ≡ value_after es q (map_get m q)
map_get-batched m [] q = refl
map_get-batched m (e ∷ es) q =
    map_get-batched (edited m e) es q
    ∙ ap (λ (o : Option (List ℕ)). value_after es q o) (map_get-edited m e q)

pub batched_alike : (m : List Pair) (es fs : List Edit) → IsAscending m
    → ((q : List ℕ) → value_after es q (map_get m q) ≡ value_after fs q (map_get m q))
    → batched m es ≡ batched m fs
batched_alike m es fs rise alike =
    map_determined (batched m es) (batched m fs) (IsAscending-batched m es rise)
    (IsAscending-batched m fs rise)
    (λ q. map_get-batched m es q ∙ alike q ∙ sym (map_get-batched m fs q))
