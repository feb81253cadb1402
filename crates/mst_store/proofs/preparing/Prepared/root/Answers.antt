use Rattle.mst_store.proofs.Names.{◌≡◌, ℕ, List, [], ◌∷◌, ◌++◌, ap, ◌∙◌, Format, Edit, after, format_after, batched, Pair, after-push, Preparation, batch_of, IsPrepared, SeatState, Waiting}
use Rattle.mst_key.proofs.HistoryLaws.{format_after-push}
use Rattle.mst_node.specs.Text as text
use Rattle.mst_store.specs.Passes.{format_seen}
use Rattle.mst_store.proofs.preparing.Prepared.root.Goals as goal

-- the map after the edits stands at the root
root_after : {A : Type 0} (number : ℕ) (edits : List Edit) (p : Preparation A) (m : SeatState)
    → IsPrepared number edits p m → p.root.digest ≡ text.root (format_after m.0.format m.0.seen)
    (batched (after m.0.seen) edits)
root_after number edits p m h =
    let e = batch_of number edits in
    h.made.stands.digest
    ∙ ap (λ (f : Format). text.root f (after (m.0.seen ++ e ∷ [])))
    (h.made.format_is ∙ format_after-push m.0.format m.0.seen e)
    ∙ ap (λ (pairs : List Pair). text.root (format_after m.0.format m.0.seen) pairs)
    (after-push m.0.seen e)

pub returns : goal.returns
returns g c = record {
  root = root_after c.self.inside.parameters.number c.self.inside.edits.items
      c.self.inside.prepared c.self.inside.seat.me c.self.invariant.prepared
      ∙ ap (λ (w : Waiting). text.root (format_seen w.known)
      (batched (after w.known.seen) w.edits)) c.self.view_is;
}
