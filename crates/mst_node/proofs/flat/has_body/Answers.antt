use Rattle.mst_node.proofs.Names.{Bool, Option, List, ℕ, ◌∙◌, sym, ap, is_some, ◌>>=◌, whole}
use Rattle.mst_node.proofs.BytesAfterEntries.{body-none, body-child, whole-empty}
use Rattle.mst_node.proofs.flat.has_body.Goals as goal

-- whether what was read of the last child ends the body
abbrev ends : Option (Option (List ℕ) × List ℕ) → Bool
ends r = is_some (r >>= whole)

pub returns-in-None : goal.returns-in-None
returns-in-None c =
    record {
      reading =
          sym (body-none c.args.format c.args.count c.args.bytes.now c.in-None.ensures.reading);
    }

pub returns-in-None-child_of : goal.returns-in-None-child_of
returns-in-None-child_of c =
    let rest = c.in-Some.rest.now in
    record {
      reading =
          sym (body-child c.args.format c.args.count c.args.bytes.now rest c.in-Some.ensures.reading
          ∙ ap ends c.in-None-child_of.ensures.reading);
    }

pub returns-in-Some-child_of : goal.returns-in-Some-child_of
returns-in-Some-child_of c =
    let rest = c.in-Some.rest.now in
    record {
      reading =
          c.is_empty.ensures
          ∙ sym (body-child c.args.format c.args.count c.args.bytes.now rest
          c.in-Some.ensures.reading
          ∙ ap ends c.in-Some-child_of.ensures.reading ∙ whole-empty _ c.in-Some-child_of.left.now);
    }
