use Rattle.mst_node.proofs.Names.{Option, List, ℕ, [], sym, ap, ◌∙◌, option_copied, FlatNode, child_at, body_or_empty}
use Rattle.mst_node.proofs.ReadIsSpelled.{some_same}
use Rattle.mst_node.proofs.EntryPlaces.{parts, parts-behind, none-some, read-same}
use Rattle.mst_node.proofs.flat.Flat.tail.Goals as goal

pub unreachable-requires : goal.unreachable-requires
unreachable-requires c =
    let b = parts c.self.inside.format c.self.inside.count c.self.inside.body.now c.self.invariant
    in
    let behind = parts-behind c.self.inside.format c.self.inside.count c.self.inside.body.now _ b in
    none-some _ _ c.in-None-child_of.ensures.reading
    (read-same _ child_at c.in-Some.rest.now b.rest c.in-Some.ensures.reading behind ∙ b.tail)

pub unreachable-requires-in-None : goal.unreachable-requires-in-None
unreachable-requires-in-None c =
    let b = parts c.self.inside.format c.self.inside.count c.self.inside.body.now c.self.invariant
    in
    none-some _ b.rest c.in-None.ensures.reading
    (parts-behind c.self.inside.format c.self.inside.count c.self.inside.body.now _ b)

pub returns : goal.returns
returns c =
    let b = parts c.self.inside.format c.self.inside.count c.self.inside.body.now c.self.invariant
    in
    let behind = parts-behind c.self.inside.format c.self.inside.count c.self.inside.body.now _ b in
    let t = (body_or_empty c.self.inside.format c.self.inside.count c.self.inside.body.now).1 in
    let same = some_same (option_copied c.in-Some-child_of.child, c.in-Some-child_of.field-0-1.now)
    (t, []) (sym c.in-Some-child_of.ensures.reading ∙ read-same _ child_at c.in-Some.rest.now
    b.rest c.in-Some.ensures.reading behind ∙ b.tail) in
    record {
      tail = ap (λ (p : Option (List ℕ) × List ℕ). p.0) same ∙ ap (λ (n : FlatNode). n.tail)
          c.self.view_is;
    }
