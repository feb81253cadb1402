use Rattle.mst_arena.proofs.Names.{◌≡◌, ℕ, zero, suc, Bool, true, false, List, [], ◌∷◌, Some, refl, sym, ◌∙◌, ap, slice_get, slice_set, Life, is_free}
use Rattle.mst_arena.proofs.undo.note_free.Goals.{else-not-is_free-via-then-not-is_free+else-is_free, else-not-is_free-via-else-not-is_free}
use Rattle.mst_arena.proofs.undo.note_free.Goals as goal

same_write : (bs : List Bool) (r : ℕ) (b : Bool) → slice_get bs r ≡ Some b → slice_set bs r b ≡ bs
same_write [] r b at = cc
same_write (x ∷ bs) zero b at = let e : x ≡ b = cc in ap (λ (z : Bool). z ∷ bs) (sym e)
same_write (x ∷ bs) (suc r) b at = ap (λ (zs : List Bool). x ∷ zs) (same_write bs r b at)

-- a row that is as free as it was
kept : (bs : List Bool) (r : ℕ) (b a : Bool) → slice_get bs r ≡ Some b → a ≡ b
    → bs ≡ slice_set bs r a
kept bs r b a at same = sym (ap (slice_set bs r) same ∙ same_write bs r b at)

-- one that was free stays so, and one that is not free was not
both : (b a : Bool) → (b ≡ true → a ≡ true) → b ≡ true → a ≡ b
both b a more is = more is ∙ sym is

neither : (b a : Bool) → (b ≡ true → a ≡ true) → a ≡ false → a ≡ b
neither true a more is = more refl
neither false a more is = is

pub returns-else-not-is_free : goal.returns-else-not-is_free
returns-else-not-is_free g c =
    record {
      noted = elim c.else-not-is_free.branch [
        | else-not-is_free-via-then-not-is_free+else-is_free w ↦
            kept c.args.free.now c.args.row (is_free c.args.was) (is_free c.args.now)
            c.requires.was (neither (is_free c.args.was) (is_free c.args.now) c.requires.more
            (sym w.is_free-then-not-is_free.ensures.free ∙ w.if-is_free.false))
        | else-not-is_free-via-else-not-is_free w ↦
            kept c.args.free.now c.args.row (is_free c.args.was) (is_free c.args.now)
            c.requires.was (both (is_free c.args.was) (is_free c.args.now) c.requires.more
            (sym c.is_free.ensures.free ∙ w.if-not-is_free.false))
      ];
    }
