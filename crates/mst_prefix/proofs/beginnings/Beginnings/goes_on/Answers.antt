use Rattle.std.proofs.Common.{◌≡◌, ◌++◌, ℕ, List, sym, ap, subst, ◌∙◌}
use Rattle.std.proofs.lemmas.List.{append-nil}
use Rattle.std.proofs.lemmas.Option.{get_or_from_slice_get}
use Rattle.mst_node.specs.Text.{child_text, counted, held_of, held_text}
use Rattle.mst_prefix.specs.Kept.{HasNumber, TakenWith}
use Rattle.mst_prefix.specs.declared.beginnings.Beginning.{Beginning}
use Rattle.mst_prefix.proofs.Lists.{all-at}
use Rattle.mst_prefix.proofs.Words.{after_front, grouped}
use Rattle.mst_prefix.proofs.beginnings.Beginnings.goes_on.Goals as goal

pub returns-then-index-number-clause-entry : goal.returns-then-index-number-clause-entry
returns-then-index-number-clause-entry g c = λ yes m before.
    let found = c.in-Some.ensures.found in
    let child = child_text c.args.child in
    let key = counted c.args.key.now in
    let held = held_text c.args.format (held_of c.args.format c.args.value.now) in
    subst (λ t. TakenWith c.renew_at.new.hasher c.renew_at.new.self t)
    (sym (grouped m child key held))
    (c.renew_at.ensures.entry yes m (child ++ key ++ held) found.0 found.1
    (found.2 ∙ grouped c.args.self.now.piece.items child key held) before)

pub returns-clause-entry : goal.returns-clause-entry
returns-clause-entry g c = λ yes m before.
    let kept = before.1 in
    let found = c.in-Some.ensures.found in
    let told = c.in-Some-number.ensures.number before.0 c.args.hasher.now before.2 kept before.3 in
    let item : c.index.result.now ≡ found.0 =
    c.index.ensures ∙ get_or_from_slice_get c.args.self.now.kept.items.items
    c.in-Some.place found.0 c.index.result.now found.1 in
    let same : found.0.before ≡ c.in-Some-number.number =
    ap (λ (x : Beginning). x.before) (sym item) ∙ c.if-index-number.false in
    let has : HasNumber before.0 c.args.self.now.next found.0 =
    all-at _ c.args.self.now.kept.items.items c.in-Some.place found.0 kept.beginnings found.1 in
    let named : before.0 found.0.number ≡ before.2 ++ found.0.piece.items =
    has.text ∙ ap (λ (t : List ℕ). t ++ found.0.piece.items)
    (ap before.0 same ∙ told.1) in
    let whole : List ℕ = before.2 ++ found.0.piece.items in (
      before.0,
      record { some = kept.some; empty = kept.empty; beginnings = kept.beginnings },
      whole,
      (found.0, found.1, named),
      after_front m before.2 c.args.self.now.piece.items (child_text c.args.child)
          (counted c.args.key.now)
          (held_text c.args.format (held_of c.args.format c.args.value.now))
          found.0.piece.items before.4 found.2
          ∙ sym (append-nil whole) ∙ ap (λ (xs : List ℕ). whole ++ xs) (sym c.clear.ensures),
    )
