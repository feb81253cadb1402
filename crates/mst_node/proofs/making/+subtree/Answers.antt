use Rattle.mst_node.proofs.Names.{◌≡◌, ◌≢◌, ◌≤◌, ◌+◌, [], length, ℕ, zero, suc, false, ◌<◌, ◌∙◌, sym, ap, subst, arith, map, rules, nat_tests, slice_range, Tree, tree, greatest, node, entries_of, last, TreeEntry, tree_entry, with_entries, layer_in}
use Rattle.std.proofs.lemmas.List.{map-append}
use Rattle.std.specs.Prelude.{◌==◌}
use Rattle.mst_node.proofs.TreeEquation.{tree-no_pairs, has_some, tree_some, step_at, step_other, some_other, last_gap}
use Rattle.mst_node.proofs.Heights.{height_of, height_some, low_none, low_more}
use Rattle.mst_node.proofs.LayersByPlace.{layers-part, layers-length, layer-at}
use Rattle.mst_node.proofs.making.+subtree.Goals as goal
use Rattle.mst_node.proofs.making.+subtree.Goals.{then-layers-i+in_ok-child+in_ok-push, else-layers-i}

-- what numbers say by themselves, so that nothing else in reach is read
some_pairs : (n : ℕ) → false ≡ (n == 0) → 0 < n
some_pairs zero is = cc
some_pairs (suc n) is = omega arith

gap_behind : (start i : ℕ) → start ≡ i + 1 → start ≤ i + 1
gap_behind start i is = omega (arith, is)

gap_kept : (now start i : ℕ) → now ≡ start → start ≤ i → now ≤ i + 1
gap_kept now start i is gap = omega (arith, is, gap)

none_first : (start i : ℕ) → start ≡ i + 1 → start ≡ 0 → ⊥
none_first start i is first = omega (arith, is, first)

pub returns-then-is_empty : goal.returns-then-is_empty
returns-then-is_empty g t c =
    record {
      tree =
          sym (tree-no_pairs c.args.format c.args.pairs.now
          (grind (arith, nat_tests, c.if-is_empty.ensures)));
    }

pub loop-i-init : goal.loop-i-init
loop-i-init g t c =
    let some = some_pairs (length c.args.pairs.now) c.if-is_empty.ensures in
    let top : c.greatest_of-top.result ≡ greatest
    (map (λ p. layer_in c.args.format p.0) c.args.pairs.now) =
    c.greatest_of-top.ensures.greatest ∙ ap greatest c.requires.layers in
    record {
      gap = omega arith;
      low = low_none (layer_in c.args.format) c.args.pairs.now 0 c.greatest_of-top.result;
      entries = rw c.in_ok-entries.ensures.items;
      some = λ _. rw top (has_some (layer_in c.args.format) c.args.pairs.now some);
    }

pub subtree-requires : goal.subtree-requires
subtree-requires g t c κs within =
    let m = c.args.pairs.now in
    let some = some_pairs (length m) c.if-is_empty.ensures in
    let top : c.greatest_of-top.result ≡ greatest (map (λ p. layer_in c.args.format p.0) m) =
    c.greatest_of-top.ensures.greatest ∙ ap greatest c.requires.layers in (
      omega (
        arith,
        c.decreases,
        top,
        height_some (layer_in c.args.format) m some,
        c.loop-i.invariant.low,
      ),
      (
        search rules,
        layers-part (layer_in c.args.format) m c.args.layers.now c.loop-i.start c.loop-i.i
            c.requires.layers,
      ),
    )

pub loop-i-preserved : goal.loop-i-preserved
loop-i-preserved g t c =
    let m = c.args.pairs.now in
    let x = c.index-pairs-i.result in
    let within : c.loop-i.i < length m = c.loop-i-test.true in
    let place = layer-at (layer_in c.args.format) m c.args.layers.now c.loop-i.i x c.requires.layers
    within c.index-pairs-i.is in
    let top : c.greatest_of-top.result ≡ greatest
    (map (λ p. layer_in c.args.format p.0) c.args.pairs.now) =
    c.greatest_of-top.ensures.greatest ∙ ap greatest c.requires.layers in
    elim c.if-layers-i.branch [
      | then-layers-i+in_ok-child+in_ok-push w ↦
          let at : layer_in c.args.format x.0 ≡ c.greatest_of-top.result =
          sym place ∙ w.if-layers-i.true in
          let entry_is : Tree → TreeEntry = λ t. record { child = t; key = x.0; value = x.1 } in
          let is : tree_entry c.args.format w.entry_of.result ≡ entry_is
          (tree c.args.format (slice_range m c.loop-i.start c.loop-i.i)) =
          w.entry_of.ensures.entry c.args.format ∙ ap entry_is w.in_ok-child.ensures.tree in
          record {
            gap = gap_behind _ _ w.start-is;
            low = rw w.start-is
                (low_none (layer_in c.args.format) m (c.loop-i.i + 1) c.greatest_of-top.result);
            entries = rw (w.start-is, w.entries-is, w.in_ok-push.ensures.items, map-append)
                (step_at c.args.format m x c.loop-i.start c.loop-i.i _
                (map (tree_entry c.args.format) c.loop-i.entries.items)
                (tree_entry c.args.format w.entry_of.result) _ within c.index-pairs-i.is at
                is c.loop-i.invariant.entries);
            some = λ z. absurd (none_first _ _ w.start-is z);
          }
      | else-layers-i w ↦
          let other : layer_in c.args.format x.0 ≢ c.greatest_of-top.result =
          λ e. w.if-layers-i.false (place ∙ e) in
          record {
            gap = gap_kept _ _ _ w.start-is c.loop-i.invariant.gap;
            low = rw w.start-is
                (low_more (layer_in c.args.format) m x c.loop-i.start c.loop-i.i
                c.greatest_of-top.result c.loop-i.invariant.gap within c.index-pairs-i.is top other
                c.loop-i.invariant.low);
            entries =
                rw (w.start-is, w.entries-is)
                (step_other c.args.format m x c.loop-i.start c.loop-i.i _ _ _ c.loop-i.invariant.gap
                within c.index-pairs-i.is other c.loop-i.invariant.entries);
            some = λ z. some_other c.args.format m x c.loop-i.i _ within c.index-pairs-i.is other
                (c.loop-i.invariant.some (sym w.start-is ∙ z));
          }
    ]

pub subtree-requires-2 : goal.subtree-requires-2
subtree-requires-2 g t c κs within =
    let m = c.args.pairs.now in
    let start = c.loop-i.start in
    let some = some_pairs (length m) c.if-is_empty.ensures in
    let top : c.greatest_of-top.result ≡ greatest (map (λ p. layer_in c.args.format p.0) m) =
    c.greatest_of-top.ensures.greatest ∙ ap greatest c.requires.layers in
    let end : c.loop-i.i ≡ length m = omega (arith, c.loop-i-test.false) in
    let low : height_of (layer_in c.args.format) (slice_range m start (length m))
    ≤ c.greatest_of-top.result =
    subst (λ (n : ℕ). height_of (layer_in c.args.format) (slice_range m start n)
    ≤ c.greatest_of-top.result) end c.loop-i.invariant.low in (
      omega (arith, c.decreases, top, height_some (layer_in c.args.format) m some, low),
      (
        search rules,
        ap (λ (n : ℕ). slice_range c.args.layers.now start n)
            (layers-length (layer_in c.args.format) m c.args.layers.now c.requires.layers)
            ∙ layers-part (layer_in c.args.format) m c.args.layers.now start (length m)
            c.requires.layers,
      ),
    )

pub returns : goal.returns
returns g t c =
    let m = c.args.pairs.now in
    let some = some_pairs (length m) c.if-is_empty.ensures in
    let end : c.loop-i.i ≡ length m = omega arith in
    let xs = map (tree_entry c.args.format) c.loop-i.entries.items in
    let l = c.greatest_of-top.result in
    let top : l ≡ greatest (map (λ p. layer_in c.args.format p.0) m) =
    c.greatest_of-top.ensures.greatest ∙ ap greatest c.requires.layers in
    record {
      tree = c.in_ok-node_of.ensures.tree c.args.format
          ∙ ap (λ (t : Tree). node c.args.format l (with_entries xs (last t)))
          c.in_ok-tail.ensures.tree
          ∙ ap (node c.args.format l)
          (last_gap c.args.format m c.loop-i.start c.loop-i.i l xs _ end
          c.loop-i.invariant.entries)
          ∙ ap (λ (k : ℕ). node c.args.format k
          (entries_of (layer_in c.args.format) (tree c.args.format) k [] m)) top
          ∙ sym (tree_some c.args.format m some);
    }

pub offset_bounds-pairs-i : goal.offset_bounds-pairs-i
offset_bounds-pairs-i g t c = search rules

pub bounds-pairs-i : goal.bounds-pairs-i
bounds-pairs-i g t c = search rules

pub bounds-layers-i : goal.bounds-layers-i
bounds-layers-i g t c =
    omega (
      arith,
      layers-length (layer_in c.args.format) c.args.pairs.now c.args.layers.now
          c.requires.layers,
    )

pub offset_bounds-pairs-start : goal.offset_bounds-pairs-start
offset_bounds-pairs-start g t c = search rules

pub slice_bounds-subtree-count : goal.slice_bounds-subtree-count
slice_bounds-subtree-count g t c = search rules

pub slice_bounds-subtree-start : goal.slice_bounds-subtree-start
slice_bounds-subtree-start g t c = search rules

pub slice_bounds-subtree-end : goal.slice_bounds-subtree-end
slice_bounds-subtree-end g t c = search rules

pub slice_bounds-subtree-count-then-layers-i : goal.slice_bounds-subtree-count-then-layers-i
slice_bounds-subtree-count-then-layers-i g t c = search rules

pub slice_bounds-subtree-start-then-layers-i : goal.slice_bounds-subtree-start-then-layers-i
slice_bounds-subtree-start-then-layers-i g t c = search rules

pub slice_bounds-subtree-end-then-layers-i : goal.slice_bounds-subtree-end-then-layers-i
slice_bounds-subtree-end-then-layers-i g t c =
    omega (
      arith,
      layers-length (layer_in c.args.format) c.args.pairs.now c.args.layers.now
          c.requires.layers,
    )

pub returns-in_err-child : goal.returns-in_err-child
returns-in_err-child g t c = record { tree = search rules }

pub returns-in_err-push : goal.returns-in_err-push
returns-in_err-push g t c = search rules

pub loop-i-smaller : goal.loop-i-smaller
loop-i-smaller g t c = search rules

pub offset_bounds-pairs-start-2 : goal.offset_bounds-pairs-start-2
offset_bounds-pairs-start-2 g t c = search rules

pub slice_bounds-subtree-count-2 : goal.slice_bounds-subtree-count-2
slice_bounds-subtree-count-2 g t c = search rules

pub slice_bounds-subtree-start-2 : goal.slice_bounds-subtree-start-2
slice_bounds-subtree-start-2 g t c = search rules

pub slice_bounds-subtree-end-2 : goal.slice_bounds-subtree-end-2
slice_bounds-subtree-end-2 g t c = search rules

pub slice_bounds-subtree-count-3 : goal.slice_bounds-subtree-count-3
slice_bounds-subtree-count-3 g t c =
    omega (
      arith,
      layers-length (layer_in c.args.format) c.args.pairs.now c.args.layers.now
          c.requires.layers,
    )

pub slice_bounds-subtree-start-3 : goal.slice_bounds-subtree-start-3
slice_bounds-subtree-start-3 g t c =
    omega (
      arith,
      layers-length (layer_in c.args.format) c.args.pairs.now c.args.layers.now
          c.requires.layers,
    )

pub slice_bounds-subtree-end-3 : goal.slice_bounds-subtree-end-3
slice_bounds-subtree-end-3 g t c = search rules

pub returns-in_err-tail : goal.returns-in_err-tail
returns-in_err-tail g t c = record { tree = search rules }

pub returns-in_err-node_of : goal.returns-in_err-node_of
returns-in_err-node_of g t c = search rules
