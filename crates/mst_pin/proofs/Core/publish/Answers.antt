use Rattle.mst_pin.proofs.Names.{◌≡◌, ◌∙◌, ◌*◌, ap, sym, subst, arith, set, Words, mask_of, masks, IsKept, state_of}
use Rattle.mst_pin.specs.Core.{state}
use Rattle.mst_pin.proofs.Cores.{publish_kept, publish_state}
use Rattle.mst_pin.proofs.Options.{due_none}
use Rattle.mst_pin.proofs.WordSteps.{published_parts}
use Rattle.mst_pin.proofs.Core.publish.Goals as goal

pub bounds-self-into : goal.bounds-self-into
unfolding state
bounds-self-into c = let h = c.args.self.now.kept.passes_in in let l = c.requires.1 in omega arith

pub bounds-self-into-2 : goal.bounds-self-into-2
unfolding state
bounds-self-into-2 c = let h = c.args.self.now.kept.passes_in in let l = c.requires.1 in omega arith

pub invariant_of-self : goal.invariant_of-self
unfolding state
invariant_of-self c = let s = c.args.self.now in let f = c.swap_current-found in let q =
    c.requires in
    let e = f.ensures.after in let b = f.ensures.before in let r = c.record-from.ensures in
    let current : f.new.self.current ≡ c.args.into * masks = let x =
    ap (λ (z : Words). z.current) e in omega arith in
    let mask : c.mask_of.result ≡ mask_of s.words.current =
    c.mask_of.ensures ∙ ap mask_of f.ensures.before in
    let words = published_parts s.words f.new.self c.args.into c.record-from.result c.mask_of.result
    current (ap (λ (z : Words). z.done) e) r mask in
    record {
      kept = subst (λ (w : Words). IsKept s.passes w) (sym words)
          (publish_kept s.passes s.words s.rows c.args.into c.args.rows s.kept
          (due_none s.words.returned q.0) q.1 q.2);
    }

pub returns-clause-after : goal.returns-clause-after
unfolding state
returns-clause-after c = let s = c.args.self.now in let f = c.swap_current-found in let q =
    c.requires in
    let e = f.ensures.after in let b = f.ensures.before in let r = c.record-from.ensures in
    let current : f.new.self.current ≡ c.args.into * masks = let x =
    ap (λ (z : Words). z.current) e in omega arith in
    let mask : c.mask_of.result ≡ mask_of s.words.current =
    c.mask_of.ensures ∙ ap mask_of f.ensures.before in
    let words = published_parts s.words f.new.self c.args.into c.record-from.result c.mask_of.result
    current (ap (λ (z : Words). z.done) e) r mask in
    let small = s.kept.passes_in in let inside = q.1 in
    ap (λ (w : Words). state_of s.passes w (set s.rows c.args.into c.args.rows)) words
    ∙ publish_state s.passes s.words s.rows c.args.into c.args.rows s.kept
    (due_none s.words.returned q.0) q.1 q.2 (omega arith)
