-- Edits that put values at keys that a map has: those of its parts, and the node that its pairs
-- make afterwards.
use Rattle.mst_batch.proofs.Names.{◌≡◌, ℕ, ◌+◌, ◌<◌, ◌≤◌, Bool, true, false, true≢false, List, [], ◌∷◌, ◌++◌, length, drop, get_or, Bor, Option, Some, IsSome, is_eq, is_lt, is_gt, not, filter, Less, refl, sym, ◌∙◌, ap, subst, arith, if◌then◌else◌, drop_more, at_drop_all, AllByRecursion, Format, Edit, AreAbove, AreRising, edited, batched, key_of, layer_in, Pair, key_cmp, IsAscending, alls-append, alls-front, alls-back, alls-filter, alls-weaker, other_from_less, same_from_test, AllBelow-less, IsAscending-back, IsAscending-below, Entries, tree, IsMst, Has, tree_some, tree_mst, listed, put_of, above-first, rest_of, first_and_rest, AreBelow, AreOf, IsUpdate, AreUpdates}
use Rattle.mst_key.specs.declared.history.Edit.TheVariants as edit
use Rattle.mst_key.specs.Map.{map_get}
use Rattle.mst_key.proofs.Alls.{alls-both}
use Rattle.mst_key.proofs.MapLaws.{map_get-past}
use Rattle.mst_key.proofs.Splits.{map_get-left, map_get-right}
use Rattle.mst_node.specs.Tree as tree
use Rattle.mst_node.specs.Tree.{entries_of}
use Rattle.mst_batch.proofs.BatchParts.{edited_own, one_of_key}
use Rattle.mst_batch.proofs.NodePlans.{greatest_is, some_pairs}

-- ---- the parts at a pair

module _ (front : List Pair) (k v : List ℕ) (back : List Pair)
    (rise : IsAscending (front ++ (k, v) ∷ back)) where
  update_below : (e : Edit) → IsUpdate (front ++ (k, v) ∷ back) e → key_cmp (key_of e) k ≡ Less
      → IsUpdate front e
  update_below (edit.Put q w) is less =
      subst (λ (o : Option (List ℕ)). IsSome o)
      (map_get-left front ((k, v) ∷ back) q
      (above-first (k, v) back q (IsAscending-back front ((k, v) ∷ back) rise) less)) is
  update_below (edit.Remove q) is less = is

  update_above : (e : Edit) → IsUpdate (front ++ (k, v) ∷ back) e → key_cmp k (key_of e) ≡ Less
      → IsUpdate back e
  update_above (edit.Put q w) is less =
      subst (λ (o : Option (List ℕ)). IsSome o)
      (map_get-right front ((k, v) ∷ back) q
      (AllBelow-less front k q (IsAscending-below front back (k, v) rise) less)
      ∙ map_get-past (k, v) back q (other_from_less k q less)) is
  update_above (edit.Remove q) is less = is

  module _ (lo own hi : List Edit)
      (all : AreUpdates (front ++ (k, v) ∷ back) (lo ++ (own ++ hi))) where
    pub updates_below : AreBelow lo k → AreUpdates front lo
    updates_below low =
        alls-both (IsUpdate (front ++ (k, v) ∷ back)) (λ (e : Edit). key_cmp (key_of e) k ≡ Less)
        (IsUpdate front) update_below lo
        (alls-front (IsUpdate (front ++ (k, v) ∷ back)) lo (own ++ hi) all) low

    pub updates_here : AreUpdates (front ++ (k, v) ∷ back) own
    updates_here =
        alls-front (IsUpdate (front ++ (k, v) ∷ back)) own hi
        (alls-back (IsUpdate (front ++ (k, v) ∷ back)) lo (own ++ hi) all)

    pub updates_above : AreAbove hi k → AreUpdates back hi
    updates_above high =
        alls-both (IsUpdate (front ++ (k, v) ∷ back)) (λ (e : Edit). key_cmp k (key_of e) ≡ Less)
        (IsUpdate back) update_above hi
        (alls-back (IsUpdate (front ++ (k, v) ∷ back)) own hi
        (alls-back (IsUpdate (front ++ (k, v) ∷ back)) lo (own ++ hi) all)) high

-- ---- what holds of all keys of a map holds of them after such edits

module _ (P : List ℕ → Type 0) where
  key_there : (m : List Pair) (q : List ℕ) → AllByRecursion (λ p. P p.0) m
      → IsSome (map_get m q) → P q
  key_there [] q all some = absurd (true≢false (sym some))
  key_there (p ∷ m) q all some =
      go (is_eq (key_cmp p.0 q)) refl some (λ later. key_there m q all.1 later)
    where
      go : (b : Bool) → is_eq (key_cmp p.0 q) ≡ b → IsSome (if b then Some p.1 else map_get m q)
          → (IsSome (map_get m q) → P q) → P q
      go true is here more = subst P (same_from_test p.0 q is) all.0
      go false is later more = more later

  edited_keys : (m : List Pair) (e : Edit) → AllByRecursion (λ p. P p.0) m → P (key_of e)
      → AllByRecursion (λ p. P p.0) (edited m e)
  edited_keys m (edit.Put q v) all own =
      let Q : Pair → Type 0 = λ p. P p.0 in
      alls-append Q (filter (λ (p : Pair). is_lt (key_cmp p.0 q)) m)
      ((q, v) ∷ filter (λ (p : Pair). is_gt (key_cmp p.0 q)) m)
      (alls-filter Q (λ (p : Pair). is_lt (key_cmp p.0 q)) m all)
      (own, alls-filter Q (λ (p : Pair). is_gt (key_cmp p.0 q)) m all)
  edited_keys m (edit.Remove q) all own =
      alls-filter (λ (p : Pair). P p.0) (λ (p : Pair). not (is_eq (key_cmp p.0 q))) m all

  batched_keys : (m : List Pair) (es : List Edit) → AllByRecursion (λ p. P p.0) m
      → AllByRecursion (λ e. P (key_of e)) es → AllByRecursion (λ p. P p.0) (batched m es)
  batched_keys m [] all own = all
  batched_keys m (e ∷ es) all own =
      batched_keys (edited m e) es (edited_keys m e all own.0) own.1

  update_key : (m : List Pair) (e : Edit) → AllByRecursion (λ p. P p.0) m → IsUpdate m e
      → P (key_of e)
  update_key m (edit.Put q v) all is = key_there m q all is
  update_key m (edit.Remove q) all is = absurd is

  pub updated_keys : (m : List Pair) (es : List Edit) → AllByRecursion (λ p. P p.0) m
      → AreUpdates m es → AllByRecursion (λ p. P p.0) (batched m es)
  updated_keys m es all are =
      batched_keys m es all
      (alls-weaker (IsUpdate m) (λ (e : Edit). P (key_of e)) (λ e is. update_key m e all is) es are)

-- ---- one edit after another

pub updates_step : (m : List Pair) (edits : List (Bor Edit)) (at : ℕ) (e : Bor Edit)
    → at < length edits → e ≡ get_or edits at e → IsUpdate m e.now
    → AreUpdates m (listed (drop (at + 1) edits)) → AreUpdates m (listed (drop at edits))
updates_step m edits at e within is own more =
    subst (λ (xs : List (Bor Edit)). AreUpdates m (listed xs))
    (sym (drop_more edits at e within
    ∙ ap (λ (x : Bor Edit). x ∷ drop (at + 1) edits) (sym is))) (own, more)

pub updates_end : (m : List Pair) (edits : List (Bor Edit)) (at : ℕ) → length edits ≤ at
    → AreUpdates m (listed (drop at edits))
updates_end m edits at all =
    subst (λ (xs : List (Bor Edit)). AreUpdates m (listed xs))
    (sym (at_drop_all (λ (xs : List (Bor Edit)). xs) edits at all)) tt

-- ---- the pair of an entry after the edit of its key

pub updated_pair : (m : List Pair) (own : List (Bor Edit)) (key value new : List ℕ)
    → AreRising (listed own) → AreUpdates m (listed own) → AreOf (listed own) key → (e : Bor Edit)
    → 1 ≤ length own → e ≡ get_or own 0 e
    → (IsUpdate m e.now → key_of e.now ≡ key → put_of e.now ≡ (key, new) ∷ [])
    → batched ((key, value) ∷ []) (listed own) ≡ (key, new) ∷ []
updated_pair m own key value new rising are of_key e some is put =
    let own_is : listed own ≡ e.now ∷ listed (rest_of own) =
    ap listed (first_and_rest own e some is) in
    let keys : AreOf (e.now ∷ listed (rest_of own)) key =
    subst (λ (es : List Edit). AreOf es key) own_is of_key in
    let each : AreUpdates m (e.now ∷ listed (rest_of own)) =
    subst (λ (es : List Edit). AreUpdates m es) own_is are in
    let alone : listed (rest_of own) ≡ [] =
    one_of_key key e.now (listed (rest_of own)) (subst AreRising own_is rising) keys in
    ap (batched ((key, value) ∷ [])) (own_is ∙ ap (λ (es : List Edit). e.now ∷ es) alone)
    ∙ edited_own key value e.now keys.0 ∙ put each.0 keys.0

pub same_pair : (own : List (Bor Edit)) (p : Pair) → length own ≡ 0
    → batched (p ∷ []) (listed own) ≡ p ∷ []
same_pair [] p is = refl
same_pair (e ∷ own) p is = absurd (omega (arith, is))

-- ---- the node of pairs up to a layer, of which one is of the layer

-- its entries
abbrev pub entries_made : Format → ℕ → List Pair → Entries
entries_made format l m = entries_of (layer_in format) (tree format) l [] m

module _ (format : Format) (l : ℕ) (m : List Pair)
    (low : AllByRecursion (λ p. layer_in format p.0 ≤ l) m) (has : Has (layer_in format) l m) where
  pub node_made : tree format m ≡ tree.node format l (entries_made format l m)
  node_made =
      tree_some format m (some_pairs (layer_in format) l m has)
      ∙ ap (λ (k : ℕ). tree.node format k (entries_made format k m))
      (greatest_is (layer_in format) l m low has)

  pub made_mst : IsMst format (tree.node format l (entries_made format l m))
  made_mst = subst (IsMst format) node_made (tree_mst format m)
