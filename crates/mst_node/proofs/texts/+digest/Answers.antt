use Rattle.mst_node.proofs.Names.{◌≡◌, length, ℕ, subst, ap, sym, ◌∙◌, arith, rules, take, take-length, common_steps, sha256, Holds256, held_of, held_text, heading, out-Node, the_lemmas}
use Rattle.mst_node.proofs.NodeShapes.{entries-fit, child-fits, tail-fits, text-more, text_out}
use Rattle.mst_node.proofs.texts.+digest.Goals as goal

pub node_digest-overflow_cast-len : goal.node_digest-overflow_cast-len
node_digest-overflow_cast-len g t c =
    omega (
      arith,
      c.len.ensures,
      (out-Node g.row.A.Denot c.args.node.now).entries.ok.0,
      entries-fit g.row.A.Denot c.args.format c.args.node.now,
    )

pub node_digest-child_digest-requires : goal.node_digest-child_digest-requires
node_digest-child_digest-requires g t c κs within = (
  grind (arith, common_steps, the_lemmas),
  (
    search rules,
    omega (
      arith,
      c.requires.few,
      child-fits g.row.A.Denot c.args.format c.args.node.now
          c.deref-entry-items.result.now c.loop-entry.entry-index c.entry-item.result
          c.deref-entry-items.ensures.value c.loop-entry-test.true c.entry-item.is,
    ),
  ),
)

pub node_digest-loop-entry-preserved : goal.node_digest-loop-entry-preserved
node_digest-loop-entry-preserved g t c =
    let A = g.row.A.Denot in
    let n = out-Node A c.args.node.now in
    let held = c.entry.ensures.entry _ c.loop-entry.invariant in
    let more = text-more A c.args.format n.entries.items c.deref-entry-items.result.now
    c.loop-entry.entry-index c.entry-item.result
    (heading c.args.format n.layer (length n.entries.items)) c.child_digest.result
    c.bytes.result.now
    (held_text c.args.format (held_of c.args.format c.bytes-in-loop-entry.result.now))
    c.deref-entry-items.ensures.value c.loop-entry-test.true c.entry-item.is
    c.child_digest.ensures.digest c.bytes.ensures.bytes
    (ap (λ v. held_text c.args.format (held_of c.args.format v))
    c.bytes-in-loop-entry.ensures.bytes) in
    subst (Holds256 c.entry.new.self) more held

pub node_digest-child_digest-requires-2 : goal.node_digest-child_digest-requires-2
node_digest-child_digest-requires-2 g t c κs within = (
  search (rules, the_lemmas),
  (
    search rules,
    omega (arith, c.requires.few, tail-fits g.row.A.Denot c.args.format c.args.node.now),
  ),
)

pub node_digest-returns : goal.node_digest-returns
node_digest-returns g t c =
    let A = g.row.A.Denot in
    let n = out-Node A c.args.node.now in
    let sum = c.finalize.ensures _ (c.child.ensures.child _ c.loop-entry.invariant) in
    let end : c.loop-entry.entry-index ≡ length n.entries.items =
    omega (arith, ap length c.deref-entry-items.ensures.value) in
    let all : take c.loop-entry.entry-index n.entries.items ≡ n.entries.items =
    ap (λ (i : ℕ). take i n.entries.items) end ∙ take-length n.entries.items in
    record {
      digest = rw (all, c.child_digest-2.ensures.digest) at sum
          ∙ ap sha256 (sym (text_out A c.args.format c.args.node.now));
    }
