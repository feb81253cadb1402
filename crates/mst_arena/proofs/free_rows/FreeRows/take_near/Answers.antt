use Rattle.mst_arena.proofs.Names.{◌≡◌, ◌∙◌, ap, sym, arith, rules, List, ℕ, Bool, true, false, length, Option, Some, None, slice_get, slice_set, IfSome, bit, flags}
use Rattle.mst_arena.proofs.FlagLemmas.{bit_of_flag, length-flags}
use Rattle.mst_arena.proofs.SetLemmas.{set_bit_flag}
use Rattle.mst_arena.proofs.free_rows.FreeRows.take_near.Goals as goal

pub take_at-requires-clause-there : goal.take_at-requires-clause-there
take_at-requires-clause-there g c =
    let i = c.self.inside in
    let set : bit c.deref.result.now c.args.row ≡ 1 = search rules in
    let is : bit i.words.items c.args.row ≡ 1 =
    ap (λ (l : List ℕ). bit l c.args.row) (sym c.deref.ensures.value) ∙ set in
    ap (λ (s : List Bool). slice_get s c.args.row) (sym c.self.view_is)
    ∙ set_bit_flag i.rows i.count i.at i.words.items i.summary.items _ _ c.self.invariant c.args.row
    is

pub take_at-requires-clause-at : goal.take_at-requires-clause-at
take_at-requires-clause-at g c =
    let i = c.self.inside in
    omega (
      arith,
      c.self.invariant.cursor,
      c.self.invariant.fits,
      ap (λ (s : List Bool). length s) c.self.view_is,
      length-flags i.rows i.words.items,
    )

pub returns-then-is_set-clause-some : goal.returns-then-is_set-clause-some
returns-then-is_set-clause-some g c =
    let i = c.self.inside in
    let set : bit c.deref.result.now c.args.row ≡ 1 = search rules in
    let is : bit i.words.items c.args.row ≡ 1 =
    ap (λ (l : List ℕ). bit l c.args.row) (sym c.deref.ensures.value) ∙ set in
    let there : slice_get c.args.self.now c.args.row ≡ Some true =
    ap (λ (s : List Bool). slice_get s c.args.row) (sym c.self.view_is)
    ∙ set_bit_flag i.rows i.count i.at i.words.items i.summary.items _ _ c.self.invariant c.args.row
    is
    in (
      ap (λ (r : ℕ). slice_get c.args.self.now r) c.take_at.ensures.same ∙ there,
      c.take_at.ensures.taken
          ∙ ap (λ (r : ℕ). slice_set c.args.self.now r false) (sym c.take_at.ensures.same),
    )

pub returns-then-is_set-clause-near : goal.returns-then-is_set-clause-near
returns-then-is_set-clause-near g c = search rules

pub returns-else-is_set-clause-near : goal.returns-else-is_set-clause-near
returns-else-is_set-clause-near g c =
    let i = c.self.inside in
    no_premise c.args.row _ (λ at.
    let flag : slice_get (flags i.rows i.words.items) c.args.row ≡ Some true =
    ap (λ (s : List Bool). slice_get s c.args.row) c.self.view_is ∙ at in
    let is : bit c.deref.result.now c.args.row ≡ 1 =
    ap (λ (l : List ℕ). bit l c.args.row) c.deref.ensures.value
    ∙ bit_of_flag i.rows i.words.items c.args.row flag in
    let yes : c.is_set.result ≡ true = c.is_set.ensures.set.1 is in
    let no : c.is_set.result ≡ false = c.if-is_set.false in
    cc)
  where
    no_premise : {Q : Type 0} (row : ℕ) (o : Option ℕ) → (Q → ⊥) → IfSome o (λ r. Q → r ≡ row)
    no_premise row None f = tt
    no_premise row (Some r) f = λ q. absurd (f q)
