use Rattle.mst_arena.proofs.Names.{IsSome, sym, ◌∙◌, ap, subst, Content, part_at, entry_value}
use Rattle.mst_arena.proofs.EntryParts.{pair_of, value_there}
use Rattle.mst_arena.proofs.rows.Rows.pair.Goals as goal

pub value-requires : goal.value-requires
value-requires g c = record {
  there =
      subst (λ (x : Content). IsSome (part_at entry_value x c.args.row))
      (sym (ap g.Self.Rows.content c.entry-entry.ensures.same))
      (value_there (g.Self.Rows.content c.args.self.now c.args.row) c.requires.there);
}

pub returns-clause-value : goal.returns-clause-value
returns-clause-value g c =
    pair_of (g.Self.Rows.content c.args.self.now c.args.row) c.entry-entry.result c.value.result
    c.entry-entry.ensures.value
    (ap (λ (x : Content). part_at entry_value x c.args.row)
    (sym (ap g.Self.Rows.content c.entry-entry.ensures.same)) ∙ c.value.ensures.value)
