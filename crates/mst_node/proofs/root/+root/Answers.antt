use Rattle.mst_node.proofs.Names.{◌≡◌, ◌≢◌, ◌≤◌, ◌<◌, ◌+◌, ◌-◌, [], length, take, drop, ℕ, List, Some, ◌∙◌, sym, ap, subst, arith, length-drop, nat_tests, length-take, slice_range, sha256, layer_in, IsTop, child_digest, counted, held_of, held_text, heading}
use Rattle.mst_node.proofs.TreeEquation.{tree-no_pairs, has_some, some_other, gap_more, gap_none}
use Rattle.mst_node.proofs.Heights.{height_of, height_some, low_none, low_more}
use Rattle.mst_node.proofs.TopNodes.{at_layer-le, text_some, text_at, text_other, text_end, child_digest_some}
use Rattle.mst_node.proofs.root.+root.Goals as goal
use Rattle.mst_node.proofs.root.+root.Goals.{digest_of-then-layer-top, digest_of-else-layer-top}

pub digest_of-overflow_cast-top : goal.digest_of-overflow_cast-top
digest_of-overflow_cast-top t c =
    omega (
      arith,
      c.requires.few,
      c.requires.top.count,
      at_layer-le (layer_in c.args.format)
          c.args.top.layer c.args.pairs.now,
    )

pub digest_of-loop-i-init : goal.digest_of-loop-i-init
digest_of-loop-i-init t c =
    record {
      within = omega arith;
      low = low_none (layer_in c.args.format) c.args.pairs.now 0 c.args.top.layer;
      some =
          λ _. rw c.requires.top.layer
          (has_some (layer_in c.args.format) c.args.pairs.now c.requires.some);
      gap_top = c.none-gap.ensures.top c.args.format;
      fed = (
        heading c.args.format c.args.top.layer c.args.top.count,
        c.heading.ensures.heading
            [] c.new-hasher.ensures,
        sym (text_some c.args.format c.args.pairs.now c.args.top.layer c.args.top.count
            c.requires.some c.requires.top.layer c.requires.top.count),
      );
    }

pub digest_of-gap_digest-child-requires : goal.digest_of-gap_digest-child-requires
digest_of-gap_digest-child-requires t c =
    let start = c.loop-i.start in
    let i = c.loop-i.i in
    let rest = drop start c.args.pairs.now in (
      omega (
        arith,
        c.requires.top.layer,
        height_some (layer_in c.args.format) c.args.pairs.now c.requires.some,
        c.loop-i.invariant.low,
      ),
      (
        omega (
          arith,
          c.requires.few,
          length-take (i - start) rest,
          length-drop start c.args.pairs.now,
        ),
        c.loop-i.invariant.gap_top,
      ),
    )

pub digest_of-gap_digest-requires : goal.digest_of-gap_digest-requires
digest_of-gap_digest-requires t c =
    let m = c.args.pairs.now in
    let start = c.loop-i.start in
    let rest = drop start m in
    let end : c.loop-i.i ≡ length m = omega (arith, c.loop-i-test.false) in
    let low : height_of (layer_in c.args.format) (slice_range m start (length m))
    ≤ c.args.top.layer = subst (λ (n : ℕ). height_of (layer_in c.args.format)
    (slice_range m start n) ≤ c.args.top.layer) end c.loop-i.invariant.low in (
      omega (
        arith,
        c.requires.top.layer,
        height_some (layer_in c.args.format) m c.requires.some,
        low,
      ),
      (
        omega (
          arith,
          c.requires.few,
          length-take (length m - start) rest,
          length-drop start m,
        ),
        subst (λ (n : ℕ). IsTop c.args.format (slice_range m start n) c.loop-i.gap) end
            c.loop-i.invariant.gap_top,
      ),
    )

pub gap_digest-digest_of-requires : goal.gap_digest-digest_of-requires
gap_digest-digest_of-requires t c = (
  omega arith,
  (
    grind (arith, nat_tests, c.if-is_empty.ensures),
    (c.requires.few, c.requires.top),
  ),
)

pub digest_of-with-gap-requires : goal.digest_of-with-gap-requires
digest_of-with-gap-requires t c =
    let start = c.loop-i.start in
    let i = c.loop-i.i in
    let rest = drop start c.args.pairs.now in
    record {
      few =
          omega (
            arith,
            c.requires.few,
            c.loop-i.invariant.gap_top.count,
            at_layer-le
                (layer_in c.args.format) c.loop-i.gap.layer (take (i - start) rest),
            length-take (i - start)
                rest,
            length-drop start c.args.pairs.now,
          );
    }

pub digest_of-loop-i-preserved : goal.digest_of-loop-i-preserved
digest_of-loop-i-preserved t c =
    let m = c.args.pairs.now in
    let x = c.index-pairs-i.result in
    let i = c.loop-i.i in
    let start = c.loop-i.start in
    let within : i < length m = omega arith in
    let front = c.loop-i.invariant.fed.0 in
    elim c.if-layer-top.branch [
      | digest_of-then-layer-top w ↦
          let at : layer_in c.args.format x.0 ≡ c.args.top.layer =
          sym c.layer_in-layer.ensures.layer ∙ w.if-layer-top.true in
          let held = w.entry.ensures.entry front c.loop-i.invariant.fed.1 in
          record {
            within = omega (arith, w.start-is);
            low = rw w.start-is (low_none (layer_in c.args.format) m (i + 1) c.args.top.layer);
            some = λ z. absurd (omega (arith, z, w.start-is));
            gap_top = rw (w.start-is, w.gap-is, gap_none m (i + 1))
                (w.none-gap-then-layer-top.ensures.top c.args.format);
            fed =
                rw (w.start-is, w.hasher-is) (
                  _,
                  held,
                  text_at c.args.format m x start i c.args.top.layer front _
                      w.gap_digest-child.result _ _ within c.index-pairs-i.is at
                      w.gap_digest-child.ensures.digest (ap counted w.bytes.ensures.bytes)
                      (ap (λ v. held_text c.args.format (held_of c.args.format v))
                      w.bytes-then-layer-top.ensures.bytes) c.loop-i.invariant.fed.2,
                );
          }
      | digest_of-else-layer-top w ↦
          let other : layer_in c.args.format x.0 ≢ c.args.top.layer =
          λ e. w.if-layer-top.false (c.layer_in-layer.ensures.layer ∙ e) in
          record {
            within = omega (arith, w.start-is);
            low = rw w.start-is
                (low_more (layer_in c.args.format) m x start i c.args.top.layer
                c.loop-i.invariant.within within c.index-pairs-i.is c.requires.top.layer other
                c.loop-i.invariant.low);
            some = λ z. some_other c.args.format m x i _ within c.index-pairs-i.is other
                (c.loop-i.invariant.some (sym w.start-is ∙ z));
            gap_top =
                rw (
                  w.start-is,
                  w.gap-is,
                  gap_more m start i x c.loop-i.invariant.within within
                      c.index-pairs-i.is,
                )
                (w.with-gap.ensures.top c.args.format (slice_range m start i) x
                c.loop-i.invariant.gap_top (sym c.layer_in-layer.ensures.layer));
            fed =
                rw (w.start-is, w.hasher-is) (
                  front,
                  c.loop-i.invariant.fed.1,
                  text_other c.args.format m x start i
                      c.args.top.layer front _ c.loop-i.invariant.within within c.index-pairs-i.is
                      other
                      c.loop-i.invariant.fed.2,
                );
          }
    ]

pub digest_of-returns : goal.digest_of-returns
digest_of-returns t c =
    let m = c.args.pairs.now in
    let end : c.loop-i.i ≡ length m = omega arith in
    let front = c.loop-i.invariant.fed.0 in
    let sum = c.finalize.ensures _ (c.child.ensures.child front c.loop-i.invariant.fed.1) in
    record {
      digest =
          sum ∙ ap sha256 (text_end c.args.format m c.loop-i.start c.loop-i.i c.args.top.layer front
          _
          c.gap_digest.result end c.gap_digest.ensures.digest c.loop-i.invariant.fed.2);
    }

pub gap_digest-returns-then-is_empty : goal.gap_digest-returns-then-is_empty
gap_digest-returns-then-is_empty t c =
    let none : length c.args.pairs.now ≡ 0 = grind (arith, nat_tests, c.if-is_empty.ensures) in
    record { digest = sym (ap child_digest (tree-no_pairs c.args.format c.args.pairs.now none)) }

pub gap_digest-returns-else-is_empty : goal.gap_digest-returns-else-is_empty
gap_digest-returns-else-is_empty t c =
    let some : 0 < length c.args.pairs.now = grind (arith, nat_tests, c.if-is_empty.ensures) in
    record {
      digest = ap (λ (d : List ℕ). Some d) c.digest_of.ensures.digest
          ∙ sym (child_digest_some c.args.format c.args.pairs.now some);
    }
