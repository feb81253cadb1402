use Rattle.mst_arena.proofs.Names.{◌≡◌, ◌++◌, ◌∷◌, [], ◌∙◌, ◌%◌, ◌/◌, List, ℕ, length, take, ap, subst, arith, child_text, counted, byte_of_words, bytes_in, length-map-range_with_len}
use Rattle.mst_arena.proofs.Readers.{four_bytes, eight_bytes}
use Rattle.mst_arena.proofs.EntryWords.{entry_laid, behind_all}
use Rattle.mst_arena.proofs.entry_words.take_words.Goals as goal

pub returns : goal.returns
returns g c =
    let len : ℕ = c.args.lengths % 256 in
    let size : ℕ = c.args.lengths / 256 in
    let child : List ℕ = child_text c.args.child in
    let four : length c.bytes_of_four.result ≡ 32 = ap length c.bytes_of_four.ensures.bytes
    ∙ length-map-range_with_len (byte_of_words c.args.key.now) 0 32 in
    let eight : length c.bytes_of_eight.result ≡ 64 = ap length c.bytes_of_eight.ensures.bytes
    ∙ length-map-range_with_len (byte_of_words c.args.value.now) 0 64 in
    let key : c.bytes_of_four.result ≡ bytes_in c.args.key.now = c.bytes_of_four.ensures.bytes
    ∙ four_bytes c.args.key.now c.told-key in
    let value : c.bytes_of_eight.result ≡ bytes_in c.args.value.now =
    c.bytes_of_eight.ensures.bytes ∙ eight_bytes c.args.value.now c.told-value in
    let laid : take c.lay-end.result c.lay-end.new.text
    ≡ (((child ++ len ∷ []) ++ take len c.bytes_of_four.result) ++ size ∷ [])
    ++ take size c.bytes_of_eight.result = c.lay-end.ensures.text
    ∙ ap (λ (x : List ℕ). x ++ take size c.bytes_of_eight.result) (c.lay-behind-3.ensures.text
    ∙ ap (λ (x : List ℕ). x ++ size ∷ []) (c.lay-behind-2.ensures.text
    ∙ ap (λ (x : List ℕ). x ++ take len c.bytes_of_four.result) (c.lay-behind.ensures.text
    ∙ ap (λ (x : List ℕ). x ++ len ∷ []) c.lay_child-behind.ensures.text))) in
    let spelled : take c.lay-end.result c.lay-end.new.text
    ≡ (child ++ counted (take len (bytes_in c.args.key.now)))
    ++ counted (take size (bytes_in c.args.value.now)) = laid
    ∙ entry_laid child c.bytes_of_four.result c.bytes_of_eight.result len size
    (omega (arith, four, c.requires.key)) (omega (arith, eight, c.requires.value))
    ∙ (λ i. (child ++ counted (take len (key i))) ++ counted (take size (value i))) in
    record {
      entry = λ m took. subst (g.S.TextSink.took c.take.new.self)
          (behind_all m child (counted (take len (bytes_in c.args.key.now)))
          (counted (take size (bytes_in c.args.value.now))) spelled)
          (c.take.ensures.took m took);
    }
