use Rattle.mst_arena.proofs.Names.{◌≡◌, ◌∙◌, ap, subst, arith, List, ℕ, Bool, true, false, length, Some, slice_get, slice_set, flags, BitWritten}
use Rattle.mst_arena.proofs.FlagLemmas.{flag_within}
use Rattle.mst_arena.proofs.SetLemmas.{put_flags, put_room, set_put, written}
use Rattle.mst_arena.proofs.free_rows.FreeRows.put.Goals as goal

pub put_bit-requires-clause-there : goal.put_bit-requires-clause-there
put_bit-requires-clause-there g c =
    let i = c.self.inside in
    let out : slice_get (flags i.rows i.words.items) c.args.row ≡ Some false =
    ap (λ (s : List Bool). slice_get s c.args.row) c.self.view_is ∙ c.requires.out in
    omega (
      arith,
      flag_within i.rows i.words.items c.args.row false out,
      c.self.invariant.room,
      c.deref_mut.ensures.value,
      c.deref_mut.ensures.len,
    )

pub overflow_add-self : goal.overflow_add-self
overflow_add-self g c =
    let i = c.self.inside in
    let out : slice_get (flags i.rows i.words.items) c.args.row ≡ Some false =
    ap (λ (s : List Bool). slice_get s c.args.row) c.self.view_is ∙ c.requires.out in
    omega (
      arith,
      put_room i.rows i.count i.at i.words.items i.summary.items _ _ c.self.invariant
          c.args.row out,
    )

pub invariant_of-self : goal.invariant_of-self
invariant_of-self g c =
    let i = c.self.inside in
    let out : slice_get (flags i.rows i.words.items) c.args.row ≡ Some false =
    ap (λ (s : List Bool). slice_get s c.args.row) c.self.view_is ∙ c.requires.out in
    let w : BitWritten i.words.items c.put_bit.new.words c.args.row 1 =
    subst (λ (o : List ℕ). BitWritten o c.put_bit.new.words c.args.row 1)
    c.deref_mut.ensures.value c.put_bit.ensures.written in
    let len : length c.put_bit.new.summary ≡ length i.summary.items = c.put_bit.ensures.summary_len
    ∙ ap (λ (l : List ℕ). length l) c.deref_mut-2.ensures.value in
    let words = written i.words.len c.put_bit.new.words i.words.items
    (omega (
      arith,
      w.len,
      c.deref_mut.ensures.len,
      ap (λ (l : List ℕ). length l)
          c.deref_mut.ensures.value,
    )) in
    let sums = written i.summary.len c.put_bit.new.summary i.summary.items
    (omega (
      arith,
      len,
      c.deref_mut-2.ensures.len,
      ap (λ (l : List ℕ). length l)
          c.deref_mut-2.ensures.value,
    )) in
    rw (words, sums) (set_put i.rows i.count i.at i.words.items i.summary.items _ _ c.self.invariant
    c.put_bit.new.words c.put_bit.new.summary c.args.row out w c.put_bit.ensures.sums len)

pub returns : goal.returns
returns g c =
    let i = c.self.inside in
    let w : BitWritten i.words.items c.put_bit.new.words c.args.row 1 =
    subst (λ (o : List ℕ). BitWritten o c.put_bit.new.words c.args.row 1)
    c.deref_mut.ensures.value c.put_bit.ensures.written in
    let words = written i.words.len c.put_bit.new.words i.words.items
    (omega (
      arith,
      w.len,
      c.deref_mut.ensures.len,
      ap (λ (l : List ℕ). length l)
          c.deref_mut.ensures.value,
    )) in
    record {
      put = ap (flags i.rows) words ∙ put_flags i.rows i.count i.at i.words.items
          i.summary.items _ _ c.self.invariant c.put_bit.new.words c.args.row w
          ∙ ap (λ (s : List Bool). slice_set s c.args.row true) c.self.view_is;
    }
