use Rattle.mst_load.proofs.Names.{◌≡◌, List, ◌∷◌, ◌++◌, [], length, sym, ap, ◌∙◌, subst, rules, History, after, format_after, Known, format_seen, AreAllPasses, Settled, none_held}
use Rattle.mst_node.specs.Text.{root}
use Rattle.mst_load.proofs.Kept.{all_with, pinned_same}
use Rattle.mst_load.proofs.engine.version_of.Goals as goal

pub settle-requires : goal.settle-requires
settle-requires g c =
    let os = c.args.others.items in
    let q = c.pin-pinned.result in
    let all : AreAllPasses (os ++ q ∷ []) =
    all_with os c.args.pass q c.pin-pinned.ensures.looks.same c.requires.whole in
    let items : c.as_mut_slice.result.now ≡ os ++ q ∷ [] = search rules in
    record { whole = none_held c.as_mut_slice.result.now (subst AreAllPasses (sym items) all) }

-- the pinned pass has seen what it pinned, which is what it had seen before
pub returns : goal.returns
returns g c =
    let os = c.args.others.items in
    let p = c.args.pass in
    let q = c.pin-pinned.result in
    let looks = c.pin-pinned.ensures.looks in
    let items : c.as_mut_slice.result.now ≡ os ++ q ∷ [] = search rules in
    let settled = subst (λ (l : List Known). Settled l [] c.settle.new.free c.settle.new.held) items
    c.settle.ensures.settled in
    let seen : q.seen ≡ p.seen = pinned_same os c.settle.new.free c.settle.new.held p q looks
    c.requires.seen settled in
    let events : c.version-events.result ≡ length q.seen = search rules in
    let digest : c.root-root.result ≡ root (format_seen q) (after q.seen) = search rules in record {
      events = events ∙ ap (λ (h : History). length h) seen;
      root = digest ∙ (λ i. root (format_after (looks.same.0 i).format (seen i)) (after (seen i)));
    }
