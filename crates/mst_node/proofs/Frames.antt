-- The first text of a proof is read exactly if the bytes frame it.
use Rattle.mst_node.proofs.Names.{◌≡◌, ℕ, zero, suc, ◌<◌, false, ◌==◌, List, [], ◌∷◌, ◌++◌, length, get_or, Some, refl, sym, ◌∙◌, ap, arith, w32, to_be_bytes, from_be_bytes, nat_tests, IsBytes, part_at}
use Rattle.std.proofs.Common.{◌^◌}
use Rattle.std.proofs.lemmas.Nat.{be_bytes_4, from_be_bytes-to_be_bytes_4}
use Rattle.mst_node.specs.Frame.{FramesFirst}
use Rattle.mst_node.specs.Reading.{first_text_at}
use Rattle.mst_node.proofs.ReadIsSpelled.{guard_ok, part_takes}
use Rattle.mst_node.proofs.SpelledIsRead.{part_again}

pub four_fit : (a b c d : ℕ) → a < 256 → b < 256 → c < 256 → d < 256 → (i : ℕ)
    → get_or (a ∷ b ∷ c ∷ d ∷ []) i 0 < 256
four_fit a b c d e f g h zero = e
four_fit a b c d e f g h (suc zero) = f
four_fit a b c d e f g h (suc (suc zero)) = g
four_fit a b c d e f g h (suc (suc (suc zero))) = h
four_fit a b c d e f g h (suc (suc (suc (suc i)))) = omega arith

pub first_takes : (bytes : List ℕ) (p : List ℕ × List ℕ) → first_text_at bytes ≡ Some p
    → IsBytes bytes → FramesFirst bytes p.0
unfolding first_text_at
first_takes [] p h b = absurd (cc)
first_takes (v ∷ []) p h b = absurd (cc)
first_takes (v ∷ n ∷ []) p h b = absurd (cc)
first_takes (v ∷ n ∷ a ∷ []) p h b = absurd (cc)
first_takes (v ∷ n ∷ a ∷ e ∷ []) p h b = absurd (cc)
first_takes (v ∷ n ∷ a ∷ e ∷ c ∷ []) p h b = absurd (cc)
first_takes (v ∷ n ∷ a ∷ e ∷ c ∷ d ∷ bytes) p h b =
    let size = from_be_bytes w32 (a ∷ e ∷ c ∷ d ∷ []) in
    let some = guard_ok (n == 0) (part_at size bytes) p h in
    let part = part_takes size bytes p some.1 b.1.1.1.1.1.1 in
    let a_fits : a < 256 = b.1.1.0 in
    let e_fits : e < 256 = b.1.1.1.0 in
    let c_fits : c < 256 = b.1.1.1.1.0 in
    let d_fits : d < 256 = b.1.1.1.1.1.0 in
    let number : to_be_bytes w32 (length p.0) ≡ a ∷ e ∷ c ∷ d ∷ [] =
    be_bytes_4 (a ∷ e ∷ c ∷ d ∷ []) (length p.0) refl
    (four_fit a e c d a_fits e_fits c_fits d_fits) part.1 in
    let small : size < 2 ^ 32 = omega arith in
    record {
      format_byte = v;
      count = n;
      rest = p.1;
      some = grind (arith, nat_tests, some.0);
      size = omega (arith, part.1, small);
      whole = ap (λ (xs : List ℕ). v ∷ n ∷ a ∷ e ∷ c ∷ d ∷ xs) part.0
          ∙ ap (λ (xs : List ℕ). v ∷ n ∷ xs ++ p.0 ++ p.1) (sym number);
    }

pub first_again : (bytes text : List ℕ) (f : FramesFirst bytes text) → first_text_at bytes ≡ Some
    (text, f.rest)
unfolding first_text_at
first_again bytes text f =
    let some : (f.count == 0) ≡ false = grind (arith, nat_tests, f.some) in
    let size : from_be_bytes w32 (to_be_bytes w32 (length text)) ≡ length text =
    from_be_bytes-to_be_bytes_4 (length text) f.size in
    ap first_text_at f.whole ∙ rw (some, size, part_again (length text) text f.rest refl)
