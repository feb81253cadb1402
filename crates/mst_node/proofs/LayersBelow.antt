-- The layers of all nodes below a node.
use Rattle.mst_node.proofs.Names.{◌≡◌, ℕ, ◌<◌, ⊎_elim, subst, arith, contains-cases, contains-nothing, Tree, empty, node, Entries, last, entry, IsUnder, LayersFall, LayersFallIn}
use Rattle.std.proofs.Common.{Contains}
use Rattle.std.proofs.lemmas.List.Elements.{Contains-append_cases}
use Rattle.mst_node.specs.Tree.{subtrees, entries_subtrees}

under_weaker : (l m : ℕ) (t : Tree) → m < l → IsUnder m t → IsUnder l t
under_weaker l m empty lt is = tt
under_weaker l m (node f k es) lt is = omega (arith, is)

mutual
  all_under : (t : Tree) (l : ℕ) (u : Tree) → IsUnder l t → LayersFall t → Contains (subtrees t) u
      → IsUnder l u
  all_under empty l u under fall has = absurd (contains-nothing u has)
  all_under (node f m es) l u under fall has = ⊎_elim
      (λ (same : node f m es ≡ u). subst (IsUnder l) same under)
      (λ (rest : Contains (entries_subtrees es) u). under_weaker l m u under
      (under_in es m u fall rest))
      (contains-cases (node f m es) (entries_subtrees es) u has)

  pub under_in : (es : Entries) (l : ℕ) (u : Tree) → LayersFallIn l es
      → Contains (entries_subtrees es) u
      → IsUnder l u
  under_in (last child) l u fall has = all_under child l u fall.0 fall.1 has
  under_in (entry child key value rest) l u fall has = ⊎_elim
      (λ (first : Contains (subtrees child) u). all_under child l u fall.0 fall.1 first)
      (λ (later : Contains (entries_subtrees rest) u). under_in rest l u fall.2 later)
      (Contains-append_cases (subtrees child) (entries_subtrees rest) u has)
