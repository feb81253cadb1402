-- What each step makes of the words: the masks of pins, and what the words keep.
use Rattle.mst_pin.proofs.Names.{◌≡◌, ℕ, ◌*◌, ◌^◌, ◌<◌, ◌≢◌, Bool, cond, eqb, eq-eqb, ne_eqb, Option, Some, None, length, get_or, set, sym, refl, ap, ◌∙◌, arith, bit_xor, get_or-set_same, get_or-set_other, dite, ℕ_discrete, Words, Returned, record_of, mask_of, masks, counted_mask, pinned_mask}
use Rattle.std.specs.Int.Bits.{xor_zero_l}
use Rattle.std.proofs.lemmas.Nat.{xor_comm}
use Rattle.mst_pin.specs.Words.{returned_mask}
use Rattle.mst_pin.proofs.Bits.{xor_current, xor_assoc}

if_true : {A : Type 0} (a b : ℕ) (x y : A) → a ≡ b → cond (eqb a b) x y ≡ x
if_true a b x y e = ap (λ (t : Bool). cond t x y) (eq-eqb a b e)

if_false : {A : Type 0} (a b : ℕ) (x y : A) → a ≢ b → cond (eqb a b) x y ≡ y
if_false a b x y e = ap (λ (t : Bool). cond t x y) (ne_eqb a b e)

-- the mask that counts, at the current record and elsewhere
pub counted_here : (w : Words) (r : ℕ) → r ≡ record_of w.current → counted_mask w r ≡ mask_of
    w.current
counted_here w r e = if_true r (record_of w.current) (mask_of w.current)
    (returned_mask w.returned r) e

pub counted_else : (w : Words) (r : ℕ) → r ≢ record_of w.current → counted_mask w r ≡ returned_mask
    w.returned r
counted_else w r e = if_false r (record_of w.current) (mask_of w.current)
    (returned_mask w.returned r) e

-- ---- a xor into CURRENT

abbrev pub xored_current : Words → ℕ → Words
xored_current w k = record w { current = bit_xor w.current (2 ^ k) }

module _ (w : Words) (k : ℕ) (within : k < 32) where
  pub record_stays : record_of (xored_current w k).current ≡ record_of w.current
  record_stays = (xor_current w.current k within).0

  pub turned_here : pinned_mask (xored_current w k) (record_of w.current) ≡ bit_xor
      (pinned_mask w (record_of w.current)) (2 ^ k)
  turned_here = let r : ℕ = record_of w.current in let d : ℕ = get_or w.done r 0 in let m : ℕ =
      mask_of w.current in
      ap (λ (z : ℕ). bit_xor z d) (counted_here (xored_current w k) r (sym record_stays)
      ∙ (xor_current w.current k within).1)
      ∙ xor_assoc m (2 ^ k) d ∙ ap (λ (z : ℕ). bit_xor m z) (xor_comm (2 ^ k) d)
      ∙ sym (xor_assoc m d (2 ^ k)) ∙ ap (λ (z : ℕ). bit_xor (bit_xor z d) (2 ^ k))
      (sym (counted_here w r refl))

  pub turned_else : (s : ℕ) → s ≢ record_of w.current → pinned_mask (xored_current w k) s
      ≡ pinned_mask w s
  turned_else s not = ap (λ (z : ℕ). bit_xor z (get_or w.done s 0))
      (counted_else (xored_current w k) s (λ e. not (e ∙ record_stays))
      ∙ sym (counted_else w s not))

-- ---- a xor into DONE

abbrev pub xored_done : Words → ℕ → ℕ → Words
xored_done w r bits = record w { done = set w.done r (bit_xor (get_or w.done r 0) bits) }

module _ (w : Words) (r bits : ℕ) (within : r < length w.done) where
  pub done_here : pinned_mask (xored_done w r bits) r ≡ bit_xor (pinned_mask w r) bits
  done_here = ap (λ (z : ℕ). bit_xor (counted_mask w r) z)
      (get_or-set_same w.done r (bit_xor (get_or w.done r 0) bits) 0 within)
      ∙ sym (xor_assoc (counted_mask w r) (get_or w.done r 0) bits)

  pub done_else : (s : ℕ) → s ≢ r → pinned_mask (xored_done w r bits) s ≡ pinned_mask w s
  done_else s not = ap (λ (z : ℕ). bit_xor (counted_mask w s) z)
      (get_or-set_other w.done r s (bit_xor (get_or w.done r 0) bits) 0 not)

-- ---- nothing is due

module _ (w : Words) (settled : w.returned ≡ None) where
  counted_spare : (r : ℕ) → r ≢ record_of w.current → counted_mask w r ≡ 0
  counted_spare r not = counted_else w r not ∙ ap (λ (z : Option Returned). returned_mask z r)
      settled

  -- DONE alone says who pins a record that is not current
  pub done_tells : (r : ℕ) → r ≢ record_of w.current → pinned_mask w r ≡ get_or w.done r 0
  done_tells r not = ap (λ (z : ℕ). bit_xor z (get_or w.done r 0)) (counted_spare r not)
      ∙ xor_zero_l (get_or w.done r 0)

-- ---- a publish

abbrev pub back_from : Words → Returned
back_from w = record { from = record_of w.current; mask = mask_of w.current }

abbrev pub published : Words → ℕ → Words
published w into = record w { current = into * masks; returned = Some (back_from w) }

-- the words of a publish, by their parts
pub published_parts : (w u : Words) (into from mask : ℕ) → u.current ≡ into * masks
    → u.done ≡ w.done → from ≡ record_of w.current → mask ≡ mask_of w.current
    → record {
      current = u.current;
      done = u.done;
      returned =
          Some record { from = from; mask = mask };
    } ≡ published w into
published_parts w u into from mask a b x y =
    λ i. record { current = a i; done = b i; returned = Some record { from = x i; mask = y i } }

module _ (w : Words) (into : ℕ) (settled : w.returned ≡ None) (spare : into ≢ record_of w.current)
  where
    pub now_current : record_of (published w into).current ≡ into
    now_current = omega arith

    empty_mask : mask_of (published w into).current ≡ 0
    empty_mask = omega arith

    returned_here : (s : ℕ) → s ≡ record_of w.current → returned_mask (Some (back_from w)) s
        ≡ mask_of
        w.current
    returned_here s e = if_true s (record_of w.current) (mask_of w.current) 0 e

    returned_else : (s : ℕ) → s ≢ record_of w.current → returned_mask (Some (back_from w)) s ≡ 0
    returned_else s e = if_false s (record_of w.current) (mask_of w.current) 0 e

    counted_kept : (s : ℕ) → counted_mask (published w into) s ≡ counted_mask w s
    counted_kept s = dite (ℕ_discrete s into)
        (λ same. counted_here (published w into) s (same ∙ sym now_current) ∙ empty_mask
        ∙ sym (counted_spare w settled s (λ e. spare (sym same ∙ e))))
        (λ not. counted_else (published w into) s (λ e. not (e ∙ now_current))
        ∙ dite (ℕ_discrete s (record_of w.current))
        (λ here. returned_here s here ∙ sym (counted_here w s here))
        (λ away. returned_else s away ∙ sym (counted_spare w settled s away)))

    pub publish_keeps : (s : ℕ) → pinned_mask (published w into) s ≡ pinned_mask w s
    publish_keeps s = ap (λ (z : ℕ). bit_xor z (get_or w.done s 0)) (counted_kept s)

-- ---- a transfer

abbrev pub transferred : Words → Returned → Words
transferred w d =
    record w { done = set w.done d.from (bit_xor (get_or w.done d.from 0) d.mask); returned = None }

-- the words of a transfer, by their parts
pub transferred_parts : (w u : Words) (d : Returned) → u ≡ xored_done w d.from d.mask
    → record u { returned = None } ≡ transferred w d
transferred_parts w u d e = ap (λ (z : Words). record z { returned = None }) e

module _ (w : Words) (d : Returned) (due : w.returned ≡ Some d)
    (away : d.from ≢ record_of w.current) (within : d.from < length w.done) where
  returned_there : (s : ℕ) → s ≡ d.from → returned_mask w.returned s ≡ d.mask
  returned_there s e = ap (λ (z : Option Returned). returned_mask z s) due ∙ if_true s d.from d.mask
      0 e

  returned_away : (s : ℕ) → s ≢ d.from → returned_mask w.returned s ≡ 0
  returned_away s e = ap (λ (z : Option Returned). returned_mask z s) due ∙ if_false s d.from d.mask
      0 e

  at_due : pinned_mask (transferred w d) d.from ≡ pinned_mask w d.from
  at_due = let m : ℕ = d.mask in let o : ℕ = get_or w.done d.from 0 in
      ap (λ (z : ℕ). bit_xor z (get_or (set w.done d.from (bit_xor o m)) d.from 0))
      (counted_else (transferred w d) d.from away)
      ∙ xor_zero_l (get_or (set w.done d.from (bit_xor o m)) d.from 0) ∙ get_or-set_same w.done
      d.from (bit_xor o m) 0 within ∙ xor_comm o m
      ∙ ap (λ (z : ℕ). bit_xor z o) (sym (counted_else w d.from away ∙ returned_there d.from refl))

  elsewhere : (s : ℕ) → s ≢ d.from → pinned_mask (transferred w d) s ≡ pinned_mask w s
  elsewhere s not = ap (λ (z : ℕ). bit_xor (counted_mask (transferred w d) s) z)
      (get_or-set_other w.done d.from s (bit_xor (get_or w.done d.from 0) d.mask) 0 not)
      ∙ ap (λ (z : ℕ). bit_xor z (get_or w.done s 0)) (dite (ℕ_discrete s (record_of w.current))
      (λ here. counted_here (transferred w d) s here ∙ sym (counted_here w s here))
      (λ there. counted_else (transferred w d) s there
      ∙ sym (counted_else w s there ∙ returned_away s not)))

  pub transfer_keeps : (s : ℕ) → pinned_mask (transferred w d) s ≡ pinned_mask w s
  transfer_keeps s =
      dite (ℕ_discrete s d.from) (λ same. ap (pinned_mask (transferred w d)) same ∙ at_due
      ∙ ap (pinned_mask w) (sym same)) (λ not. elsewhere s not)
