use Rattle.mst_arena.proofs.Names.{◌≡◌, ◌∙◌, ◌<◌, ap, subst, arith, List, ℕ, Bool, true, false, length, Some, slice_get, slice_set, flags, bit, BitWritten}
use Rattle.mst_arena.proofs.FlagLemmas.{flag_within, length-flags, bit_of_flag}
use Rattle.mst_arena.proofs.SetLemmas.{take_flags, take_some, set_take, written}
use Rattle.mst_arena.proofs.free_rows.FreeRows.take_at.Goals as goal

pub take_bit-requires-clause-there : goal.take_bit-requires-clause-there
take_bit-requires-clause-there g c =
    let i = c.self.inside in
    let has : slice_get (flags i.rows i.words.items) c.args.row ≡ Some true =
    ap (λ (s : List Bool). slice_get s c.args.row) c.self.view_is ∙ c.requires.there in
    omega (
      arith,
      flag_within i.rows i.words.items c.args.row true has,
      c.self.invariant.room,
      ap (λ (l : List ℕ). length l) c.deref_mut.ensures.value,
      c.deref_mut.ensures.len,
    )

pub overflow_sub-self : goal.overflow_sub-self
overflow_sub-self g c =
    let i = c.self.inside in
    let has : slice_get (flags i.rows i.words.items) c.args.row ≡ Some true =
    ap (λ (s : List Bool). slice_get s c.args.row) c.self.view_is ∙ c.requires.there in
    omega (
      arith,
      take_some i.rows i.count i.at i.words.items i.summary.items _ _ c.self.invariant
          c.args.row has,
    )

pub invariant_of-self : goal.invariant_of-self
invariant_of-self g c =
    let i = c.self.inside in
    let has : slice_get (flags i.rows i.words.items) c.args.row ≡ Some true =
    ap (λ (s : List Bool). slice_get s c.args.row) c.self.view_is ∙ c.requires.there in
    let w : BitWritten i.words.items c.take_bit.new.words c.args.row 0 =
    subst (λ (o : List ℕ). BitWritten o c.take_bit.new.words c.args.row 0)
    c.deref_mut.ensures.value c.take_bit.ensures.written in
    let len : length c.take_bit.new.summary ≡ length i.summary.items =
    c.take_bit.ensures.summary_len ∙ ap (λ (l : List ℕ). length l) c.deref_mut-2.ensures.value
    in
    let words = written i.words.len c.take_bit.new.words i.words.items
    (omega (
      arith,
      w.len,
      c.deref_mut.ensures.len,
      ap (λ (l : List ℕ). length l)
          c.deref_mut.ensures.value,
    )) in
    let sums = written i.summary.len c.take_bit.new.summary i.summary.items
    (omega (
      arith,
      len,
      c.deref_mut-2.ensures.len,
      ap (λ (l : List ℕ). length l)
          c.deref_mut-2.ensures.value,
    )) in
    let within : c.args.at < length i.words.items =
    omega (
      arith,
      c.requires.at,
      ap (λ (s : List Bool). length s) c.self.view_is,
      length-flags i.rows i.words.items,
      c.self.invariant.room,
    ) in
    rw (words, sums)
    (set_take i.rows i.count i.at i.words.items i.summary.items _ _ c.self.invariant
    c.take_bit.new.words c.take_bit.new.summary c.args.row c.args.at has w
    c.take_bit.ensures.sums len within)

pub returns-clause-taken : goal.returns-clause-taken
returns-clause-taken g c =
    let i = c.self.inside in
    let w : BitWritten i.words.items c.take_bit.new.words c.args.row 0 =
    subst (λ (o : List ℕ). BitWritten o c.take_bit.new.words c.args.row 0)
    c.deref_mut.ensures.value c.take_bit.ensures.written in
    let words = written i.words.len c.take_bit.new.words i.words.items
    (omega (
      arith,
      w.len,
      c.deref_mut.ensures.len,
      ap (λ (l : List ℕ). length l)
          c.deref_mut.ensures.value,
    )) in
    ap (flags i.rows) words ∙ take_flags i.rows i.count i.at i.words.items i.summary.items _ _
    c.self.invariant c.take_bit.new.words c.args.row w
    ∙ ap (λ (s : List Bool). slice_set s c.args.row false) c.self.view_is

pub overflow_cast-result : goal.overflow_cast-result
overflow_cast-result g c =
    let i = c.self.inside in
    let has : slice_get (flags i.rows i.words.items) c.args.row ≡ Some true =
    ap (λ (s : List Bool). slice_get s c.args.row) c.self.view_is ∙ c.requires.there in
    omega (arith, flag_within i.rows i.words.items c.args.row true has, c.self.invariant.few)

pub take_bit-requires-clause-set : goal.take_bit-requires-clause-set
take_bit-requires-clause-set g c =
    let i = c.self.inside in
    let has : slice_get (flags i.rows i.words.items) c.args.row ≡ Some true =
    ap (λ (s : List Bool). slice_get s c.args.row) c.self.view_is ∙ c.requires.there in
    ap (λ (l : List ℕ). bit l c.args.row) c.deref_mut.ensures.value
    ∙ bit_of_flag i.rows i.words.items c.args.row has
