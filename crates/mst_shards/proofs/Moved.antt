-- Lists of which one element is taken out and put back.
use Rattle.mst_shards.proofs.Names.{◌≡◌, ◌≢◌, ℕ, zero, suc, ◌+◌, ◌-◌, ◌<◌, ◌≤◌, List, [], ◌∷◌, ◌++◌, length, take, get_or, set, refl, sym, ap, ◌∙◌, arith, length-set, get_or-set_same, get_or-set_other, drop, swap_remove, SwappedAt, same_lists, get_or-append, get_or-append_seam, dite, ℕ_discrete}
use Rattle.std.proofs.lemmas.List.{length-take-le, get_or-take}
use Rattle.std.proofs.Math.Seq.{take-append_seam}

module _ {X : Type 0} where
  -- an element that is there is read so, whatever stands for those that are not
  pub read_any : (xs : List X) (i : ℕ) (d e : X) → i < length xs → get_or xs i d ≡ get_or xs i e
  read_any [] i d e low = absurd (omega (arith, low))
  read_any (x ∷ xs) zero d e low = refl
  read_any (x ∷ xs) (suc i) d e low = read_any xs i d e (omega (arith, low))

  abbrev pub moved : List X → ℕ → ℕ → X → List X
  moved xs i n x = set xs i (get_or xs n x)

  left_length : (xs ys : List X) (i n : ℕ) (x : X) → length xs ≡ n + 1
      → ys ≡ take n (moved xs i n x) → length ys ≡ n
  left_length xs ys i n x count left =
      let same = length-set xs i (get_or xs n x) in
      ap (λ (l : List X). length l) left
      ∙ length-take-le n (moved xs i n x) (omega (arith, count, same))

  back_at : (xs ys zs : List X) (i n : ℕ) (x q : X) → length xs ≡ n + 1 → i ≤ n
      → ys ≡ take n (moved xs i n x) → SwappedAt (ys ++ q ∷ []) zs i n → (k : ℕ) (d : X)
      → k < n + 1 → get_or zs k d ≡ get_or (set xs i q) k d
  back_at xs ys zs i n x q count there left back k d low =
      let long = left_length xs ys i n x count left in
      let read : (j : ℕ) → j < n → get_or (ys ++ q ∷ []) j d ≡ get_or (moved xs i n x) j d =
      λ j less. get_or-append ys (q ∷ []) d j (omega (arith, less, long))
      ∙ ap (λ (l : List X). get_or l j d) left ∙ get_or-take n (moved xs i n x) j d less in
      dite (ℕ_discrete k i)
      (λ (is : k ≡ i). ap (λ (j : ℕ). get_or zs j d) is ∙ back.0 d
      ∙ ap (λ (j : ℕ). get_or (ys ++ q ∷ []) j d) (sym long)
      ∙ get_or-append_seam ys q [] d
      ∙ sym (get_or-set_same xs i q d (omega (arith, there, count)))
      ∙ ap (λ (j : ℕ). get_or (set xs i q) j d) (sym is))
      (λ (other : k ≢ i). dite (ℕ_discrete k n)
      (λ (is : k ≡ n). ap (λ (j : ℕ). get_or zs j d) is ∙ back.1 d
      ∙ read i (omega (arith, there, is, other))
      ∙ get_or-set_same xs i (get_or xs n x) d (omega (arith, there, count))
      ∙ read_any xs n x d (omega (arith, count))
      ∙ ap (λ (j : ℕ). get_or xs j d) (sym is)
      ∙ sym (get_or-set_other xs i k q d other))
      (λ (less : k ≢ n). back.2 k d other less ∙ read k (omega (arith, low, less))
      ∙ get_or-set_other xs i k (get_or xs n x) d other
      ∙ sym (get_or-set_other xs i k q d other)))

  -- what was taken out, and then put back as another, is set at its place
  pub put_back : (xs ys zs : List X) (i n : ℕ) (x q : X) → length xs ≡ n + 1
      → length zs ≡ n + 1 → i ≤ n → ys ≡ swap_remove xs i x
      → SwappedAt (ys ++ q ∷ []) zs i n → zs ≡ set xs i q
  put_back xs ys zs i n x q count again there left back =
      let same = length-set xs i q in
      let last : length xs - 1 ≡ n = omega (arith, count) in
      let taken : ys ≡ take n (moved xs i n x) =
      left ∙ ap (λ (j : ℕ). take j (moved xs i j x)) last in
      same_lists zs (set xs i q) (again ∙ sym count ∙ sym same)
      (λ k d low. back_at xs ys zs i n x q count there taken back k d (omega (arith, low, again)))

  -- a list that was written anew as a whole
  pub written_whole : (n : ℕ) (ws rest : List X) → n ≡ length ws → take n (ws ++ rest) ≡ ws
  written_whole n [] rest is = ap (λ (j : ℕ). take j rest) is
  written_whole n (w ∷ ws) rest is =
      ap (λ (j : ℕ). take j (w ∷ (ws ++ rest))) is
      ∙ ap (λ (l : List X). w ∷ l) (written_whole (length ws) ws rest refl)

-- A list whose slice a call gave back as it was: what the slice has, and behind it what the list
-- had there.
pub given_back : {A : Type 0} (n : ℕ) (new old ps : List A) → n ≡ length ps → new ≡ ps
    → take n (new ++ drop (length new) old) ≡ ps
given_back {A} n new old ps count same =
    ap (λ (k : ℕ). take k (new ++ drop (length new) old))
    (count ∙ ap (λ (l : List A). length l) (sym same))
    ∙ take-append_seam new (drop (length new) old) ∙ same
