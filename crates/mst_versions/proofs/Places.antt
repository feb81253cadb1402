-- The place in rows of the version of a record that stands.
use Rattle.mst_versions.proofs.Names.{◌≡◌, ℕ, ◌<◌, ◌≤◌, true, List, length, length-append, Option, Some, None, refl, sym, ap, ◌∙◌, subst, arith, take, slice_get, take_all, slice_get_within, Format, History, after, format_after, tree, reaches, reached_at, tree_of, Life, In, HasAges, HasPlace, DeskState, Standing, stored, version_of}
use Rattle.std.specs.Prelude.{◌++◌}
use Rattle.std.proofs.lemmas.List.{take-append-le}

-- a row that a version reaches is one of the rows
pub reached_inside : (lives : List Life) (v x : ℕ) → reaches lives v x ≡ true → x < length lives
reached_inside lives v x is = go (slice_get lives x) refl is
  where
    go : (o : Option Life) → slice_get lives x ≡ o → reached_at o v ≡ true → x < length lives
    go None e i = cc
    go (Some life) e i = slice_get_within lives x life e

module _ (first : Format) (R n : ℕ) (ws : List ℕ) (log : History) (d : DeskState) (r : ℕ)
    (place : History) (used : List ℕ) (rows_is : length d.lives ≡ R)
    (s : Standing (stored first) R n ws log d r place used) (v : ℕ) (is : v ≡ version_of d r) where
  number : v ≡ length place
  number = is ∙ s.filed

  taken : take v log ≡ place
  taken = ap (take v) s.begins.1 ∙ ap (λ (k : ℕ). take k (place ++ s.begins.0)) number
      ∙ take-append-le (length place) place s.begins.0 (omega arith) ∙ take_all (length place) place
      (omega arith)

  inside : v ≤ length log
  inside = let long : length log ≡ length (place ++ s.begins.0) =
      ap (λ (l : History). length l) s.begins.1 in
      omega (arith, long, length-append place s.begins.0, number)

  reached_used : (x : ℕ) → reaches d.lives v x ≡ true → In x used
  reached_used x e = let lt = reached_inside d.lives v x e in
      s.exactly x (omega (arith, lt, rows_is))
      (subst (λ (k : ℕ). reaches d.lives k x ≡ true) number e)

  used_reached : (x : ℕ) → In x used → reaches d.lives v x ≡ true
  used_reached x within = subst (λ (k : ℕ). reaches d.lives k x ≡ true) (sym number)
      (s.reached x within)

  pub place_of : (v ≤ length log) × HasPlace first d.lives log v
  place_of = let u = s.aged.0.0 in (
    inside,
    record {
      placed = u.tree.placed;
      is =
          subst (λ (g : History). tree_of (format_after first g) u.tree.placed ≡ tree
          (format_after first g) (after g)) (sym taken) u.tree.is;
      once = u.tree.once;
      rows = λ x. (
        (λ e. subst (In x) (sym s.aged.0.1) (reached_used x e)),
        (λ i. used_reached x (subst (In x) s.aged.0.1 i)),
      );
      ages = subst (λ (g : History). HasAges first d.lives g u.tree.placed) (sym taken) s.aged.1;
    },
  )
