use Rattle.mst_arena.proofs.Names.{◌≡◌, ◌++◌, ◌∙◌, ◌%◌, ◌/◌, take, subst, child_text, counted, bytes_in}
use Rattle.mst_node.specs.Text.{held_of, held_text}
use Rattle.mst_prefix.specs.Kept.{HasTaken}
use Rattle.mst_arena.proofs.Readers.{four_bytes, eight_bytes}
use Rattle.mst_arena.proofs.entry_words.hash_copied.Goals as goal

pub returns : goal.returns
returns g c =
    let key : c.bytes_of_four-key.result ≡ bytes_in c.args.key.now =
    c.bytes_of_four-key.ensures.bytes ∙ four_bytes c.args.key.now c.told-key in
    let value : c.bytes_of_eight-value.result ≡ bytes_in c.args.value.now =
    c.bytes_of_eight-value.ensures.bytes ∙ eight_bytes c.args.value.now c.told-value in
    record {
      entry = λ m took. subst (HasTaken c.copied_entry.new.self)
          (λ i. ((m ++ child_text c.args.child) ++ counted (take (c.args.lengths % 256) (key i)))
          ++ held_text c.args.format
          (held_of c.args.format (take (c.args.lengths / 256) (value i))))
          (c.copied_entry.ensures.entry m took);
    }
