use Rattle.mst_path.proofs.Names.{◌≡◌, ◌≢◌, ℕ, ◌+◌, ◌≤◌, false, List, [], ◌∷◌, length, refl, sym, subst, arith, rules, nat_tests, count_by-le-length, Format, Tree, node, with_entries, Content, State, is_free, Root, tree_of, node_of, with_first, side_rows, PlacedEntry, PartsStand, in_parts, cells_of, entries_to, Grown, side_of, NodeParts}
use Rattle.mst_path.proofs.lemmas.steps.Sides.{seam_alone}
use Rattle.mst_path.proofs.split.side.Goals as goal

few_parts : (n k : ℕ) → side_rows n false ≤ k → n ≤ k
few_parts n k le = grind (arith, nat_tests)

rows_of_some : (n : ℕ) → n ≢ 0 → side_rows n false ≡ n + 1
rows_of_some n some = grind (arith, nat_tests)

module _ (format : Format) (c : Content) (s : State) (parts : NodeParts)
    (p : PartsStand format c s parts) where
  abbrev side_node : Tree
  side_node = node format parts.layer
      (with_entries (cells_of format p.front)
      (with_first (tree_of format p.seam) (entries_to format p.back p.tail)))

  -- parts with entries are a node
  is_node : parts.front.count + parts.back.count ≢ 0 → side_of format p ≡ side_node
  is_node some = go p.front p.front_run.counted p.back p.back_run.counted
    where
      go : (front : List PlacedEntry) → length front ≡ parts.front.count
          → (back : List PlacedEntry) → length back ≡ parts.back.count
          → node_of format parts.layer
          (with_entries (cells_of format front)
          (with_first (tree_of format p.seam) (entries_to format back p.tail)))
          ≡ node format parts.layer
          (with_entries (cells_of format front)
          (with_first (tree_of format p.seam) (entries_to format back p.tail)))
      go (e ∷ front) n back m = refl
      go [] n (e ∷ back) m = refl
      go [] n [] m = absurd (some (omega (arith, n, m)))

  node_made : parts.front.count + parts.back.count ≢ 0 → {after : Content} {s' : State}
      {root : Root} → Grown format c after s s' side_node root (in_parts format p)
      (parts.front.count + parts.back.count + 1) → Grown format c after s s' (side_of format p) root
      (in_parts format p) (side_rows (parts.front.count + parts.back.count) false)
  node_made some {after} {s'} {root} made =
      subst (λ (t : Tree). Grown format c after s s' t root (in_parts format p)
      (side_rows (parts.front.count + parts.back.count) false)) (sym (is_node some))
      (subst (λ (n : ℕ). Grown format c after s s' side_node root (in_parts format p) n)
      (sym (rows_of_some (parts.front.count + parts.back.count) some)) made)

pub overflow_add-parts : goal.overflow_add-parts
overflow_add-parts g c =
    omega (
      arith,
      few_parts _ _ c.requires.room,
      c.requires.ready.few,
      count_by-le-length is_free c.args.desk.now.lives,
    )

pub returns-then-parts-eq0-clause-made : goal.returns-then-parts-eq0-clause-made
returns-then-parts-eq0-clause-made g c p = seam_alone c.args.format _ _ c.args.parts.now p
    c.if-parts-eq0.true

pub returns-clause-made : goal.returns-clause-made
returns-clause-made g c p =
    search (rules, node_made c.args.format _ _ c.args.parts.now p c.if-parts-eq0.false)
