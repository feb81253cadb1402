use Rattle.mst_node.proofs.Names.{◌≡◌, List, ℕ, [], ◌++◌, ap, sym, subst, ◌∙◌, append_assoc, child_text, counted, held_of, held_text}
use Rattle.mst_node.specs.Text.{told_text}
use Rattle.mst_node.proofs.TextBuffers.{bytes_taken}
use Rattle.mst_node.proofs.sinks.TextSink.entry.Goals as goal

pub returns-in-Some : goal.returns-in-Some
returns-in-Some g c =
    let child : List ℕ = child_text c.args.child in
    let key : List ℕ = counted c.args.key.now in
    let held : List ℕ = held_text c.args.format (held_of c.args.format c.args.value.now) in
    let told : List ℕ = told_text c.digest_in-digest.result c.args.value.now in
    let same : c.in-Some.bytes.now ≡ child ++ key ++ told =
    bytes_taken c.new-entry.result c.take_parts.new.sink _ c.in-Some.bytes.now
    c.new-entry.ensures.empty (c.take_parts.ensures.parts []) (c.in-Some.ensures.bytes) in
    let is : told ≡ held = c.digest_in-digest.ensures.told in
    record {
      entry = λ m took. subst (λ (bytes : List ℕ). g.Self.TextSink.took c.take.new.self bytes)
          (ap (λ (bytes : List ℕ). m ++ bytes)
          (same ∙ ap (λ (t : List ℕ). child ++ key ++ t) is)
          ∙ sym (append_assoc m (child ++ key) held)
          ∙ ap (λ (bytes : List ℕ). bytes ++ held) (sym (append_assoc m child key)))
          (c.take.ensures.took m (c.digest_in-digest.ensures.same m took));
    }
