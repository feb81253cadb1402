use Rattle.mst_arena.proofs.Names.{length, sym, ◌∙◌, tree_of}
use Rattle.mst_key.specs.History.{format_after}
use Rattle.mst_arena.proofs.AgeLaws.{stood_at, lasted}
use Rattle.mst_arena.proofs.laws.age_laws.Goals as goal

pub returns : goal.returns
returns c =
    record {
      stood = λ first lives h p r v age i le.
          let t = tree_of (format_after first h) p in (
            λ is u from to. stood_at first h t v (length h) u from to (sym (age r v i le) ∙ is),
            λ each. age r v i le ∙ lasted first h t v (length h) le each,
          );
    }
