use Rattle.std.proofs.Common.{rules, ◌≡◌, inl, subst}
use Rattle.std.specs.Vec.Iter.{into_iter_items}
use Rattle.mst.specs.Commanded.{AreTexts}
use Rattle.mst.proofs.starting.run_words.Goals as goal

pub returns : goal.returns
returns g c =
    let words : c.in-Ok-words_of.words.items ≡ c.deref-3.result.now = search rules in
    let texts : c.deref.result.now ≡ into_iter_items c.args.arguments = search rules in
    let are : AreTexts c.deref-3.result.now (into_iter_items c.args.arguments) =
    subst (λ (ts : _). AreTexts c.deref-3.result.now ts) texts
    (subst (λ (ws : _). AreTexts ws c.deref.result.now) words c.in-Ok-words_of.ensures) in
    inl (
      c.deref-3.result.now,
      are,
      c.command.ensures.commanded,
    )
