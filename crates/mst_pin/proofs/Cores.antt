-- What each step makes of the core's state, and that it keeps what the words keep.
use Rattle.mst_pin.proofs.Names.{◌≡◌, ℕ, ◌+◌, ◌-◌, ◌^◌, ◌<◌, ◌≤◌, ◌≢◌, Bool, cond, eqb, eq-eqb, Some, None, List, length, get_or, set, replicate, sym, refl, ap, ◌∙◌, subst, arith, bit_xor, get_or-set_same, get_or-set_other, bit_at, xor_lt, pow-lt, bit_at-zero, bit_at_above, bit_at-trailing_zeros, dite, ℕ_discrete, dec_le, trailing_zeros, w64, Words, Returned, Pin, Unpin, Publish, Transfer, after, row_set, opening, IsDrained, IsPinned, record_of, counted_mask, pinned_mask, pinned_by, record_with_bit, IsKept, state_of}
use Rattle.std.proofs.Common.{pow_pos}
use Rattle.mst_pin.proofs.States.{same_state}
use Rattle.mst_pin.proofs.Masks.{pin_adds, pin_one, unpin_drops, unpin_one, pinned_bit, pinned_some, pinned_none, pinned_same, with_here, with_else}
use Rattle.std.proofs.lemmas.List.{get_or-replicate, get_or_past, length-replicate}
use Rattle.mst_pin.proofs.WordSteps.{counted_here, counted_else, xored_current, record_stays, turned_here, turned_else, xored_done, done_here, done_else, done_tells, published, back_from, now_current, publish_keeps, transferred, transfer_keeps}

-- ---- a pin

module _ (n : ℕ) (w : Words) (rows : List ℕ) (p : ℕ) (kept : IsKept n w) (first : 0 < p)
    (last : p ≤ n) (free : pinned_by (n + 2) (pinned_mask w) p ≡ None) where
  pin_within : p - 1 < 32
  pin_within = let a = kept.passes_in in omega arith

  pin_small : (r : ℕ) → pinned_mask (xored_current w (p - 1)) r < 2 ^ n
  pin_small r = dite (ℕ_discrete r (record_of w.current))
      (λ same. subst (λ (z : ℕ). z < 2 ^ n)
      (sym (ap (pinned_mask (xored_current w (p - 1))) same ∙ turned_here w (p - 1) pin_within))
      (xor_lt n (pinned_mask w (record_of w.current)) (2 ^ (p - 1))
      (kept.few (record_of w.current)) (pow-lt (let l : p - 1 < n = omega arith in l))))
      (λ not. subst (λ (z : ℕ). z < 2 ^ n) (sym (turned_else w (p - 1) pin_within r not))
      (kept.few r))

  pub pin_keeps : IsKept n (xored_current w (p - 1))
  pin_keeps = record {
    current_in = subst (λ (z : ℕ). z < n + 2) (sym (record_stays w (p - 1) pin_within))
        kept.current_in;
    due_in = λ d e. let h = kept.due_in d e in
        (h.0, λ f. h.1 (f ∙ record_stays w (p - 1) pin_within));
    few = pin_small;
    one = λ r s k. pin_one (n + 2) (pinned_mask w) (pinned_mask (xored_current w (p - 1))) p
        (record_of w.current) first kept.current_in (turned_here w (p - 1) pin_within)
        (turned_else w (p - 1) pin_within) free kept.one r s k;
    passes_in = kept.passes_in;
  }

  pub pin_state : state_of n (xored_current w (p - 1)) rows ≡ after (state_of n w rows) (Pin p)
  pin_state = same_state _ _ refl (record_stays w (p - 1) pin_within) (λ r x. refl)
      (λ q. pin_adds (n + 2) (pinned_mask w) (pinned_mask (xored_current w (p - 1))) p
      (record_of w.current) first kept.current_in (turned_here w (p - 1) pin_within)
      (turned_else w (p - 1) pin_within) free q) refl

-- ---- an unpin

module _ (n : ℕ) (w : Words) (rows : List ℕ) (p r : ℕ) (kept : IsKept n w)
    (pinned : pinned_by (n + 2) (pinned_mask w) p ≡ Some r) (long : length w.done ≡ 34) where
  pub unpin_first : 0 < p
  unpin_first = (pinned_bit (n + 2) (pinned_mask w) p r pinned).0

  pub unpin_in : r < n + 2
  unpin_in = (pinned_bit (n + 2) (pinned_mask w) p r pinned).1

  pub unpin_within : r < length w.done
  unpin_within = let a = kept.passes_in in let l = unpin_in in omega arith

  -- a pass that pins is one of the core
  pub unpin_last : p ≤ n
  unpin_last =
      dite (dec_le p n) (λ l. l)
      (λ not. absurd (let b = (pinned_bit (n + 2) (pinned_mask w) p r pinned).2 in let z =
      bit_at_above (pinned_mask w r) n (p - 1) (kept.few r) (omega arith) in omega arith))

  unpin_small : (s : ℕ) → pinned_mask (xored_done w r (2 ^ (p - 1))) s < 2 ^ n
  unpin_small s = let f = unpin_first in let e = unpin_last in dite (ℕ_discrete s r)
      (λ same. subst (λ (z : ℕ). z < 2 ^ n)
      (sym (ap (pinned_mask (xored_done w r (2 ^ (p - 1)))) same ∙ done_here w r (2 ^ (p - 1))
      unpin_within))
      (xor_lt n (pinned_mask w r) (2 ^ (p - 1)) (kept.few r)
      (pow-lt (let l : p - 1 < n = omega arith in l))))
      (λ not. subst (λ (z : ℕ). z < 2 ^ n) (sym (done_else w r (2 ^ (p - 1)) unpin_within s not))
      (kept.few s))

  pub unpin_keeps : IsKept n (xored_done w r (2 ^ (p - 1)))
  unpin_keeps = record {
    current_in = kept.current_in;
    due_in = kept.due_in;
    few = unpin_small;
    one = λ a b k. unpin_one (n + 2) (pinned_mask w) (pinned_mask (xored_done w r (2 ^ (p - 1)))) p
        r unpin_first unpin_in (done_here w r (2 ^ (p - 1)) unpin_within)
        (done_else w r (2 ^ (p - 1)) unpin_within) pinned kept.one a b k;
    passes_in = kept.passes_in;
  }

  pub unpin_state : state_of n (xored_done w r (2 ^ (p - 1))) rows ≡ after (state_of n w rows)
      (Unpin p)
  unpin_state = same_state _ _ refl refl (λ s x. refl)
      (λ q. unpin_drops (n + 2) (pinned_mask w) (pinned_mask (xored_done w r (2 ^ (p - 1)))) p r
      unpin_first unpin_in (done_here w r (2 ^ (p - 1)) unpin_within)
      (done_else w r (2 ^ (p - 1)) unpin_within) pinned kept.one q) refl

-- ---- a publish

module _ (n : ℕ) (w : Words) (rows : List ℕ) (into chosen : ℕ) (kept : IsKept n w)
    (settled : w.returned ≡ None) (inside : into < n + 2) (spare : into ≢ record_of w.current) where
  pub publish_kept : IsKept n (published w into)
  publish_kept = record {
    current_in = subst (λ (z : ℕ). z < n + 2) (sym (now_current w into settled spare)) inside;
    due_in = λ d e. let same : back_from w ≡ d =
        cc in subst (λ (z : Returned). (z.from < n + 2)
        × (z.from ≢ record_of (published w into).current)) same
        (kept.current_in, λ f. spare (sym (now_current w into settled spare) ∙ sym f));
    few = λ r. subst (λ (z : ℕ). z < 2 ^ n) (sym (publish_keeps w into settled spare r))
        (kept.few r);
    one =
        λ r s k a b x y. kept.one r s k a b
        (ap (λ (z : ℕ). bit_at z k) (sym (publish_keeps w into settled spare r)) ∙ x)
        (ap (λ (z : ℕ). bit_at z k) (sym (publish_keeps w into settled spare s)) ∙ y);
    passes_in = kept.passes_in;
  }

  pub publish_state : into < length rows → state_of n (published w into) (set rows into chosen)
      ≡ after (state_of n w rows) (Publish into chosen)
  publish_state l = same_state _ _ refl (now_current w into settled spare)
      (λ r x. dite (ℕ_discrete r into)
      (λ same. ap (λ (z : ℕ). row_set z x) (ap (λ (q : ℕ). get_or (set rows into chosen) q 0) same
      ∙ get_or-set_same rows into chosen 0 l) ∙ ap (λ (f : ℕ → Bool). f x)
      (sym (with_here (λ q. row_set (get_or rows q 0)) into (row_set chosen) r same)))
      (λ not. ap (λ (z : ℕ). row_set z x) (get_or-set_other rows into r chosen 0 not)
      ∙ ap (λ (f : ℕ → Bool). f x)
      (sym (with_else (λ q. row_set (get_or rows q 0)) into (row_set chosen) r not))))
      (λ p. pinned_same (n + 2) (pinned_mask w) (pinned_mask (published w into))
      (publish_keeps w into settled spare) p) refl

-- ---- a transfer

module _ (n : ℕ) (w : Words) (rows : List ℕ) (d : Returned) (kept : IsKept n w)
    (due : w.returned ≡ Some d) (long : length w.done ≡ 34) where
  pub transfer_within : d.from < length w.done
  transfer_within = let a = kept.passes_in in let l = (kept.due_in d due).0 in omega arith

  transfer_same : (s : ℕ) → pinned_mask (transferred w d) s ≡ pinned_mask w s
  transfer_same = transfer_keeps w d due (kept.due_in d due).1 transfer_within

  pub transfer_kept : IsKept n (transferred w d)
  transfer_kept = record {
    current_in = kept.current_in;
    due_in = λ e f. absurd (let g : None ≡ Some e = f in cc);
    few = λ r. subst (λ (z : ℕ). z < 2 ^ n) (sym (transfer_same r)) (kept.few r);
    one =
        λ r s k a b x y. kept.one r s k a b (ap (λ (z : ℕ). bit_at z k) (sym (transfer_same r)) ∙ x)
        (ap (λ (z : ℕ). bit_at z k) (sym (transfer_same s)) ∙ y);
    passes_in = kept.passes_in;
  }

  pub transfer_state : state_of n (transferred w d) rows ≡ after (state_of n w rows) Transfer
  transfer_state =
      same_state _ _ refl refl (λ r x. refl)
      (λ p. pinned_same (n + 2) (pinned_mask w) (pinned_mask (transferred w d)) transfer_same p)
      refl

-- ---- a record that nobody pins

some_bit : (n m : ℕ) → n < 33 → m < 2 ^ n → m ≢ 0 → (k : ℕ) × (k < n) × (bit_at m k ≡ 1)
some_bit n m few small some =
    let wide : 2 ^ n < 2 ^ 33 = pow-lt few in
    let h = bit_at-trailing_zeros w64 m (omega arith) (omega arith) in
    let k : ℕ = trailing_zeros w64 m in (
      k,
      dite (dec_le n k)
          (λ high. absurd (let z = bit_at_above m n k small high in let b = h.1 in omega arith))
          (λ low. let l : k < n = omega arith in l),
      h.1,
    )

module _ (n : ℕ) (w : Words) (rows : List ℕ) (r : ℕ) (kept : IsKept n w)
    (settled : w.returned ≡ None) (inside : r < n + 2) (spare : r ≢ record_of w.current) where
  pub drained_from_done : get_or w.done r 0 ≡ 0 → IsDrained (state_of n w rows) r
  drained_from_done zero_there p pins = let h = pinned_bit (n + 2) (pinned_mask w) p r pins in
      let none : pinned_mask w r ≡ 0 = done_tells w settled r spare ∙ zero_there in
      let clear : bit_at (pinned_mask w r) (p - 1) ≡ 0 = ap (λ (z : ℕ). bit_at z (p - 1)) none
      ∙ bit_at-zero (p - 1) in
      let bit : ℕ = bit_at (pinned_mask w r) (p - 1) in
      let one : bit ≡ 1 = h.2 in
      let no : bit ≡ 0 = clear in
      absurd (let f : 1 ≡ 0 = sym one ∙ no in omega arith)

  pub pinner_from_done : get_or w.done r 0 ≢ 0 → (p : ℕ) × ((state_of n w rows).pins p ≡ Some r)
  pinner_from_done some = let b = some_bit n (pinned_mask w r) kept.passes_in.1 (kept.few r)
      (λ e. some (sym (done_tells w settled r spare) ∙ e)) in
      let at : bit_at (pinned_mask w r) (b.0 + 1 - 1) ≡ 1 =
      ap (bit_at (pinned_mask w r)) (let z : b.0 + 1 - 1 ≡ b.0 = omega arith in z) ∙ b.2 in (
        b.0 + 1,
        pinned_some (n + 2) (pinned_mask w) (b.0 + 1) r (omega arith) inside at
            (λ s l e. kept.one s r (b.0 + 1 - 1) l inside e at),
      )

-- a record that is pinned is one of the core
pub pinned_in : (n : ℕ) (w : Words) (rows : List ℕ) (r : ℕ) → IsPinned (state_of n w rows) r
    → r < n + 2
pinned_in n w rows r h = (pinned_bit (n + 2) (pinned_mask w) h.0 r h.1).1

-- a pass that the core has not pins nothing
pub none_above : (n : ℕ) (w : Words) (p : ℕ) → IsKept n w → n < p → pinned_by (n + 2)
    (pinned_mask w) p ≡ None
none_above n w p kept above = pinned_none (n + 2) (pinned_mask w) p (omega arith)
    (λ r l b. let z = bit_at_above (pinned_mask w r) n (p - 1) (kept.few r) (omega arith) in
    absurd (omega arith))

pub none_at_zero : (n : ℕ) (w : Words) (p : ℕ) → p ≡ 0 → pinned_by (n + 2) (pinned_mask w) p ≡ None
none_at_zero n w p none =
    ap (λ (t : Bool). cond t None (record_with_bit (n + 2) (pinned_mask w) (p - 1)))
    (eq-eqb p 0 none)

-- ---- the opening

copies : (k r x : ℕ) → get_or (replicate k x) r x ≡ x
copies k r x = dite (dec_le k r)
    (λ past. let l : length (replicate k x) ≡ k = length-replicate k x in
    get_or_past (replicate k x) r x (omega arith))
    (λ within. get_or-replicate k r x x (omega arith))

zeros : (k r : ℕ) → ◌≡◌ {A = ℕ} (get_or (replicate k 0) r 0) 0
zeros k r = copies k r 0

module _ (n : ℕ) (first : 0 < n) (last : n ≤ 32) where
  fresh : Words
  fresh = record { current = 0; done = replicate 34 0; returned = None }

  fresh_masks : (r : ℕ) → pinned_mask fresh r ≡ 0
  unfolding fresh
  fresh_masks r = ap (λ (z : ℕ). bit_xor (counted_mask fresh r) z) (zeros 34 r)
      ∙ dite (ℕ_discrete r 0)
      (λ here. ap (λ (z : ℕ). bit_xor z 0) (counted_here fresh r here))
      (λ away. ap (λ (z : ℕ). bit_xor z 0) (counted_else fresh r away))

  pub fresh_kept : IsKept n record { current = 0; done = replicate 34 0; returned = None }
  unfolding fresh
  fresh_kept = record {
    current_in = omega arith;
    due_in = λ d e. absurd (let g : None ≡ Some d = e in cc);
    few = λ r. subst (λ (z : ℕ). z < 2 ^ n) (sym (fresh_masks r)) (pow_pos n);
    one =
        λ r s k a b x y. absurd
        (let f : 0 ≡ 1 = sym (bit_at-zero k) ∙ ap (λ (z : ℕ). bit_at z k) (sym (fresh_masks r))
        ∙ x in omega arith);
    passes_in = (first, omega arith);
  }

  pub fresh_state : state_of n record { current = 0; done = replicate 34 0; returned = None }
      (replicate 34 0) ≡ opening n
  unfolding fresh
  fresh_state = same_state _ _ refl refl
      (λ r x. ap (λ (z : ℕ). row_set z x) (zeros 34 r) ∙ ap (λ (z : ℕ). eqb z 1) (bit_at-zero x))
      (λ p. dite (ℕ_discrete p 0)
      (λ none. ap (λ (t : Bool). cond t None (record_with_bit (n + 2) (pinned_mask fresh) (p - 1)))
      (eq-eqb p 0 none))
      (λ some. pinned_none (n + 2) (pinned_mask fresh) p (omega arith)
      (λ r l b. let f : 0 ≡ 1 = sym (bit_at-zero (p - 1)) ∙ ap (λ (z : ℕ). bit_at z (p - 1))
      (sym (fresh_masks r)) ∙ b in absurd (omega arith))))
      refl
