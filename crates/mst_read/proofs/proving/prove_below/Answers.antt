use Rattle.mst_read.proofs.Names.{◌≡◌, ◌≤◌, ◌<◌, ℕ, List, [], ◌∷◌, ◌++◌, length, map, Option, refl, ◌∙◌, sym, ap, subst, arith, IfSome, w32, to_be_bytes, Pair, map_get, Content, Tree, text, format_byte, trail, framed, entries_of, StandsBelow, head_of, gap_placed}
use Rattle.std.proofs.lemmas.List.{length-map}
use Rattle.mst_node.specs.Tree as tree
use Rattle.mst_node.specs.Trail.{answer_text}
use Rattle.mst_read.proofs.Still.{behind_still}
use Rattle.mst_read.proofs.Descend.{depth, depth_is, depth_small}
use Rattle.mst_read.proofs.Trails.{MetNode, framed_length, begins, opens, ends, goes_on, goes_down}
use Rattle.mst_read.proofs.proving.prove_below.Given.{Over}
use Rattle.mst_read.proofs.proving.prove_below.Goals.{After-write_node, After-gap_met-top}
use Rattle.mst_read.proofs.proving.prove_below.Goals as goal

pub loop-top-init : goal.loop-top-init
loop-top-init g c = record {
  same = c.head_at-top.ensures.same;
  limits = c.head_at-top.ensures.limits;
  few = omega (arith, depth_small c.head_at-top.result c.head_at-top.ensures.limits);
  made = (
    [],
    c.in_ok-push-2.ensures.items
        ∙ ap (λ (l : List ℕ). l ++ 0 ∷ []) (c.in_ok-push.ensures.items
        ∙ ap (λ (l : List ℕ). l ++ c.format_byte.result ∷ [])
        (c.reserve.ensures.items ∙ c.new-proof.ensures.items)
        ∙ ap (λ (byte : ℕ). byte ∷ []) c.format_byte.ensures.byte),
    omega arith,
    λ m s. begins c.args.format s c.args.key.now c.head_at-top.ensures.head refl,
  );
}

-- ---- a node is met

pub write_node-requires-clause-lies : goal.write_node-requires-clause-lies
write_node-requires-clause-lies g c =
    let d =
    opens c.args.format (c.loop-top.invariant.made.3 c.requires.stands.0 c.requires.stands.1)
    c.in-Some.is in
    (d.chain, behind_still (ap g.R.Rows.content c.loop-top.invariant.same) d.lies)

module _ (g : Over) (c : goal.After-write_node g) (m : List Pair)
    (s : StandsBelow c.args.format (g.R.Rows.content c.args.rows.now) c.args.link m) where
  node : MetNode c.args.format (g.R.Rows.content c.args.rows.now) c.in-Some.head c.args.key.now
      c.loop-top.invariant.made.0 c.loop-top.count (trail c.args.format m c.args.key.now)
  node = opens c.args.format (c.loop-top.invariant.made.3 m s) c.in-Some.is

pub gap_met-top-requires : goal.gap_met-top-requires
gap_met-top-requires g c =
    let here = node g (goal.at.gap_met-top-requires g c).After-write_node c.requires.stands.0
    c.requires.stands.1 in
    record {
      lies = (
        c.args.format,
        here.chain,
        behind_still
            (ap g.R.Rows.content (c.write_node.ensures.same ∙ c.loop-top.invariant.same)) here.lies,
      );
    }

-- ---- the walk goes on in the gap for the key

module _ (g : Over) (c : goal.After-gap_met-top g) {whole : List Tree}
    (d : MetNode c.args.format (g.R.Rows.content c.args.rows.now) c.in-Some.head c.args.key.now
    c.loop-top.invariant.made.0 c.loop-top.count whole) where
  top_is : c.gap_met-top.result ≡ head_of (gap_placed c.args.key.now d.chain)
  top_is =
      c.gap_met-top.ensures.head c.args.format d.chain
      (behind_still
      (ap g.R.Rows.content (c.write_node.ensures.same ∙ c.loop-top.invariant.same)) d.lies)
      ∙ ap (λ (x : List ℕ). head_of (gap_placed x d.chain)) c.new-sought.ensures.key

  falls : depth c.gap_met-top.result < depth c.loop-top.top
  falls = omega (arith, depth_is c.in-Some.is, goes_down c.args.format d top_is)

pub loop-top-smaller : goal.loop-top-smaller
loop-top-smaller g c =
    let at = goal.at.loop-top-smaller g c in
    falls g at.After-gap_met-top
    (node g at.After-write_node c.requires.stands.0 c.requires.stands.1)

pub loop-top-preserved : goal.loop-top-preserved
loop-top-preserved g c =
    let at = goal.at.loop-top-preserved g c in
    record {
      same = c.gap_met-top.ensures.same ∙ c.write_node.ensures.same ∙ c.loop-top.invariant.same;
      limits = c.gap_met-top.ensures.limits;
      few =
          omega (
            arith,
            falls g at.After-gap_met-top
                (node g at.After-write_node c.requires.stands.0 c.requires.stands.1),
            c.loop-top.invariant.few,
          );
      made =
          let t = c.in_ok-bytes.field-0.now in
          let texts = c.loop-top.invariant.made.0 in
          let size : length t ≤ 8584991 =
          subst (λ (o : Option (List ℕ)). IfSome o (λ x. length x ≤ 8584991))
          c.in_ok-bytes.ensures.bytes c.write_node.ensures.short in (
            texts ++ (to_be_bytes w32 (length t) ++ t),
            c.in_ok-push_framed.ensures.ok
                ∙ ap (λ (l : List ℕ). l ++ (to_be_bytes w32 (length t) ++ t))
                c.loop-top.invariant.made.1,
            omega (
              arith,
              size,
              framed_length texts (texts ++ (to_be_bytes w32 (length t) ++ t)) t
                  refl,
              c.loop-top.invariant.made.2,
            ),
            λ m s.
                let here = node g at.After-write_node m s in
                let lies = behind_still (ap g.R.Rows.content c.loop-top.invariant.same) here.lies in
                let is =
                subst (λ (o : Option (List ℕ)). IfSome o
                (λ x. x ≡ text
                (tree.node c.args.format c.in-Some.head.layer
                (entries_of c.args.format here.chain)))) c.in_ok-bytes.ensures.bytes
                (c.write_node.ensures.ok here.chain lies) in
                goes_on c.args.format here (top_is g at.After-gap_met-top here) is refl,
          );
    }

-- ---- the answer follows

pub push_answer-requires : goal.push_answer-requires
push_answer-requires g c =
    let stands = c.requires.stands in
    let still = sym (ap g.R.Rows.content c.loop-top.invariant.same) in
    record {
      stands = (
        stands.0,
        subst (λ (x : Content). StandsBelow c.args.format x c.args.link stands.0) still
            stands.1,
      );
    }

pub write_count-requires : goal.write_count-requires
write_count-requires g c =
    record { room = omega (arith, ap (λ (l : List ℕ). length l) c.loop-top.invariant.made.1) }

pub returns-clause-proof : goal.returns-clause-proof
returns-clause-proof g c m s =
    let format = c.args.format in
    let answer = answer_text format (map_get m c.args.key.now) in
    let whole = trail format m c.args.key.now in
    let stands = subst (λ (x : Content). StandsBelow format x c.args.link m)
    (sym (ap g.R.Rows.content c.loop-top.invariant.same)) s in
    let all = ends format (c.loop-top.invariant.made.3 m s) c.in_default.is in
    let count : c.loop-top.count ≡ length (map text whole) =
    all.count_is ∙ sym (length-map whole text) in
    c.in_ok-push_answer.ensures.ok m stands
    ∙ ap (λ (l : List ℕ). l ++ answer)
    (c.write_count.ensures.count (format_byte format) 0 c.loop-top.invariant.made.0
    c.loop-top.invariant.made.1
    ∙ ap (λ (l : List ℕ). format_byte format ∷ c.loop-top.count ∷ l) all.texts_are
    ∙ ap (λ (n : ℕ). format_byte format ∷ n ∷ framed (map text whole)) count)

pub returns-clause-short : goal.returns-clause-short
returns-clause-short g c =
    let begun =
    ap (λ (l : List ℕ). length l)
    (c.write_count.ensures.count (format_byte c.args.format) 0 c.loop-top.invariant.made.0
    c.loop-top.invariant.made.1) in
    omega (
      arith,
      begun,
      c.in_ok-push_answer.ensures.short,
      c.loop-top.invariant.made.2,
      c.loop-top.invariant.few,
    )
