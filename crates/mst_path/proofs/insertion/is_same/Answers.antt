use Rattle.mst_path.proofs.Names.{List, ℕ, Option, false, sym, ◌∙◌, ap, rules, option_map_or, same_bytes}
use Rattle.std.specs.Cmp.Lexicographic.{texts_ties}
use Rattle.mst_path.proofs.insertion.is_same.Goals as goal

pub returns-in-Some : goal.returns-in-Some
returns-in-Some c =
    record {
      same = c.eq.ensures ∙ texts_ties c.args.value.now c.in-Some.old
          ∙ ap (λ (o : Option (List ℕ)). option_map_or (same_bytes c.args.value.now) o false)
          (sym c.in-Some.is);
    }

pub returns-in-None : goal.returns-in-None
returns-in-None c = search rules
