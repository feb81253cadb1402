use Rattle.std.proofs.Common.{◌++◌, ℕ, List, sym, ap, ◌∙◌}
use Rattle.mst_node.specs.Text.{child_text, counted, held_of, held_text}
use Rattle.mst_prefix.proofs.Words.{four_parts}
use Rattle.mst_prefix.proofs.beginnings.Beginnings.found.Goals as goal

pub returns-then-is_held : goal.returns-then-is_held
returns-then-is_held g c =
    record {
      found = (
        c.in_ok-kept.kept.now,
        c.in_ok-kept.ensures.there,
        four_parts _ c.args.self.now.piece.items (child_text c.args.child.now)
            (counted c.args.key.now)
            (held_text c.args.format (held_of c.args.format c.args.value.now)) _ _ _
            (sym c.as_slice.ensures.value ∙ c.in_ok-rest.ensures.rest
            ∙ ap (λ (xs : List ℕ). xs ++ c.in_ok-rest.rest.now) c.as_slice-2.ensures.value)
            c.in_ok-rest-2.ensures.rest c.in_ok-rest-3.ensures.rest
            (c.is_held.ensures.held c.if-is_held.true),
      );
    }
