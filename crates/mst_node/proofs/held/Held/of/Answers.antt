use Rattle.mst_node.proofs.Names.{◌≡◌, ℕ, length, take, ap, sym, ◌∙◌, subst, take-length, Format, HasSize}
use Rattle.mst_node.specs.declared.held.Held.TheVariants.{Hash}
use Rattle.mst_node.specs.Held.{held_as}
use Rattle.mst_node.proofs.held.Held.of.Goals as goal

pub returns-in-Some : goal.returns-in-Some
returns-in-Some c =
    let bytes = c.args.bytes.now in
    let size : length bytes ≡ 32 = subst (λ (f : Format). HasSize f bytes) c.in-Two.is
    c.requires.size in
    record {
      held =
          ap Hash (c.in-Some.ensures.cases.0 ∙ ap (λ (n : ℕ). take n bytes) (sym size)
          ∙ take-length bytes) ∙ ap (λ (f : Format). held_as f bytes) (sym c.in-Two.is);
    }
