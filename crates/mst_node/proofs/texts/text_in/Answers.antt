use Rattle.mst_node.proofs.Names.{rules, ◌≡◌, length, ℕ, List, [], ◌++◌, subst, ap, sym, ◌∙◌, arith, take, IfSome, flat_map, take-length, held_of, held_text, child_text, heading, out-Node}
use Rattle.mst_node.proofs.NodeShapes.{entries-fit, child-fits, tail-fits, text-more, text_out, text_of_entry}
use Rattle.mst_node.proofs.TextBuffers.{took_none, gives_taken}
use Rattle.mst_node.proofs.texts.text_in.Goals as goal

pub overflow_cast-len : goal.overflow_cast-len
overflow_cast-len g c =
    omega (
      arith,
      c.len.ensures,
      (out-Node g.row.A.Denot c.args.node.now).entries.ok.0,
      entries-fit g.row.A.Denot c.args.format c.args.node.now,
    )

pub loop-entry-init : goal.loop-entry-init
loop-entry-init g c =
    let n = out-Node g.row.A.Denot c.args.node.now in
    let count : c.len.result ≡ length n.entries.items = omega (arith, c.len.ensures, n.entries.ok.0)
    in
    subst (λ (k : ℕ). IfSome c.heading.new.self (λ bytes. bytes ≡ heading c.args.format n.layer k))
    count (c.heading.ensures.heading [] (took_none c.new-out.ensures.empty))

pub child_digest-requires : goal.child_digest-requires
child_digest-requires g c =
    record {
      few =
          omega (
            arith,
            c.requires.few,
            child-fits g.row.A.Denot c.args.format c.args.node.now
                c.deref-entry-items.result.now c.loop-entry.entry-index c.entry-item.result
                c.deref-entry-items.ensures.value c.loop-entry-test.true c.entry-item.is,
          );
    }

pub loop-entry-preserved : goal.loop-entry-preserved
loop-entry-preserved g c =
    let A = g.row.A.Denot in
    let n = out-Node A c.args.node.now in
    let took = c.entry.ensures.entry _ c.loop-entry.invariant in
    let more = text-more A c.args.format n.entries.items c.deref-entry-items.result.now
    c.loop-entry.entry-index c.entry-item.result
    (heading c.args.format n.layer (length n.entries.items)) c.child_digest.result
    c.bytes.result.now
    (held_text c.args.format (held_of c.args.format c.bytes-in-loop-entry.result.now))
    c.deref-entry-items.ensures.value c.loop-entry-test.true c.entry-item.is
    c.child_digest.ensures.digest c.bytes.ensures.bytes
    (ap (λ v. held_text c.args.format (held_of c.args.format v))
    c.bytes-in-loop-entry.ensures.bytes) in
    subst (λ (m : List ℕ). IfSome c.entry.new.self (λ bytes. bytes ≡ m)) more took

pub child_digest-requires-2 : goal.child_digest-requires-2
child_digest-requires-2 g c =
    record {
      few =
          omega (arith, c.requires.few, tail-fits g.row.A.Denot c.args.format c.args.node.now);
    }

pub returns : goal.returns
returns g c =
    let A = g.row.A.Denot in
    let n = out-Node A c.args.node.now in
    let end : c.loop-entry.entry-index ≡ length n.entries.items =
    omega (arith, ap length c.deref-entry-items.ensures.value) in
    let all : take c.loop-entry.entry-index n.entries.items ≡ n.entries.items =
    ap (λ (i : ℕ). take i n.entries.items) end ∙ take-length n.entries.items in
    let took = c.child.ensures.child _ c.loop-entry.invariant in
    let whole =
    ap (λ xs. (heading c.args.format n.layer (length n.entries.items) ++ flat_map
    (text_of_entry c.args.format) xs) ++ child_text c.child_digest-2.result) all
    ∙ ap (λ d. (heading c.args.format n.layer (length n.entries.items) ++ flat_map
    (text_of_entry c.args.format) n.entries.items) ++ child_text d)
    c.child_digest-2.ensures.digest ∙ sym (text_out A c.args.format c.args.node.now) in
    record {
      text = gives_taken (λ t. t.items) _ _ c.finish.result c.finish.ensures.bytes
          (subst (λ (m : List ℕ). IfSome c.child.new.self (λ bytes. bytes ≡ m)) whole took);
    }

pub offset_bounds-entry-items-entry-index : goal.offset_bounds-entry-items-entry-index
offset_bounds-entry-items-entry-index g c = search rules

pub entry-requires-clause-key : goal.entry-requires-clause-key
entry-requires-clause-key g c = search rules

pub entry-requires-clause-value : goal.entry-requires-clause-value
entry-requires-clause-value g c = search rules
