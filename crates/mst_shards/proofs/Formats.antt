-- The format of all passes of a list.
use Rattle.mst_shards.proofs.Names.{◌≡◌, ℕ, zero, suc, ◌+◌, ◌<◌, ◌≤◌, List, [], ◌∷◌, length, drop, get_or, sym, ap, ◌∙◌, subst, arith, drop_of_length-le, drop_more, AllByRecursion, Format, Known}
use Rattle.mst_store.specs.Passes.{format_seen}

-- these passes have seen a version in the format last
abbrev pub AreIn : Format → List Known → Type 0
AreIn format ps = AllByRecursion (λ (p : Known). format_seen p ≡ format) ps

pub format_at : (format : Format) (ps : List Known) (i : ℕ) (e : Known) → i < length ps
    → AreIn format ps → format_seen (get_or ps i e) ≡ format
format_at format [] i e low all = absurd (omega (arith, low))
format_at format (p ∷ ps) zero e low all = all.0
format_at format (p ∷ ps) (suc i) e low all = format_at format ps i e (omega (arith, low)) all.1

-- what is left decides
pub in_more : (format : Format) (ps : List Known) (i : ℕ) (p : Known) → i < length ps
    → p ≡ get_or ps i p → format_seen p ≡ format → (AreIn format (drop i ps) → AreIn format ps)
    → AreIn format (drop (i + 1) ps) → AreIn format ps
in_more format ps i p low is here was left =
    was (subst (AreIn format) (sym (drop_more ps i p low))
    (ap (λ (x : Known). format_seen x) (sym is) ∙ here, left))

pub in_all : (format : Format) (ps : List Known) (i : ℕ)
    → (AreIn format (drop i ps) → AreIn format ps) → length ps ≤ i → AreIn format ps
in_all format ps i was last = was (subst (AreIn format) (sym (drop_of_length-le ps last)) tt)

-- the format of one of them is that of all
pub same_format : (format : Format) (ps : List Known) (i : ℕ) (p : Known) → i < length ps
    → p ≡ get_or ps i p → AreIn format ps → format_seen p ≡ format
same_format format ps i p low is all =
    ap (λ (x : Known). format_seen x) is ∙ format_at format ps i p low all

pub in_first : (format other : Format) (ps : List Known) (p : Known) → 0 < length ps
    → p ≡ get_or ps 0 p → other ≡ format_seen p → AreIn format ps → AreIn other ps
in_first format other ps p low is first all =
    subst (λ (f : Format). AreIn f ps) (sym (first ∙ same_format format ps 0 p low is all)) all
