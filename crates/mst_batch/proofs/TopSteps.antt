-- The top of items with one more item.
use Rattle.mst_batch.proofs.Names.{◌≡◌, ℕ, ◌<◌, ◌≤◌, ◌==◌, Bool, true, false, ◌||◌, List, [], ◌∷◌, ◌++◌, refl, sym, ◌∙◌, ap, arith, list_any, nat_tests, layer_of, height_of, IsTop, is_tree, Item}
use Rattle.std.proofs.Math.Bool.{or-false}
use Rattle.std.proofs.lemmas.List.Folds.{list_any-append}
use Rattle.mst_batch.specs.declared.items.Item.TheVariants as item
use Rattle.mst_batch.proofs.Tops.{height-append}

-- an item of another layer is no tree of this one
other_layer : (l : ℕ) (x : Item) → (layer_of x ≡ l → ⊥) → is_tree l x ≡ false
other_layer l (item.Put key value n o) other = refl
other_layer l (item.Kept row n) other = refl
other_layer l (item.Subtree link n) other = go (n == l) refl
  where
    go : (b : Bool) → (n == l) ≡ b → (n == l) ≡ false
    go true e = absurd (other (grind (arith, nat_tests, e)))
    go false e = e

-- above all items is no tree
none_above : (l : ℕ) (xs : List Item) → height_of xs ≤ l → list_any (is_tree l) xs ≡ false
none_above l [] low = refl
none_above l (x ∷ xs) low =
    ap (λ (b : Bool). b || list_any (is_tree l) xs)
    (other_layer l x (λ (e : layer_of x ≡ l). omega (arith, low, e)))
    ∙ none_above l xs (omega (arith, low))

any_more : (l : ℕ) (xs : List Item) (x : Item)
    → list_any (is_tree l) (xs ++ x ∷ []) ≡ (list_any (is_tree l) xs || is_tree l x)
any_more l xs x = list_any-append (is_tree l) xs (x ∷ [])
    ∙ ap (λ (t : Bool). list_any (is_tree l) xs || t) (or-false (is_tree l x))

module _ (l : ℕ) (b : Bool) (x : Item) (xs : List Item) (top : IsTop l b xs) (n : ℕ) (t : Bool)
    (n_is : n ≡ layer_of x) (t_is : t ≡ is_tree (layer_of x) x) where
  pub lower : n < l → IsTop l b (xs ++ x ∷ [])
  lower less = record {
    greatest = omega (arith, top.greatest, height-append xs (x ∷ []), less, n_is);
    tree = top.tree ∙ sym (any_more l xs x
        ∙ ap (λ (s : Bool). list_any (is_tree l) xs || s)
        (other_layer l x (λ (e : layer_of x ≡ l). omega (arith, less, n_is, e)))
        ∙ or-false (list_any (is_tree l) xs));
  }

  tree_here : t ≡ is_tree n x
  tree_here = t_is ∙ ap (λ (k : ℕ). is_tree k x) (sym n_is)

  pub higher : l < n → IsTop n t (xs ++ x ∷ [])
  higher more = record {
    greatest = omega (arith, top.greatest, height-append xs (x ∷ []), more, n_is);
    tree = tree_here ∙ sym (any_more n xs x
        ∙ ap (λ (s : Bool). s || is_tree n x)
        (none_above n xs (omega (arith, top.greatest, more))));
  }

  pub level : l ≤ n → n ≤ l → IsTop n (b || t) (xs ++ x ∷ [])
  level le ge =
      let same : n ≡ l = omega (arith, le, ge) in
      record {
        greatest = omega (arith, top.greatest, height-append xs (x ∷ []), same, n_is);
        tree = (λ i. (top.tree ∙ ap (λ (k : ℕ). list_any (is_tree k) xs) (sym same)) i
            || tree_here i)
            ∙ sym (any_more n xs x);
      }
