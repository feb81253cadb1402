-- The lines of pairs, one after another.
use Rattle.mst_requests.proofs.Names.{◌≡◌, ℕ, ◌+◌, ◌<◌, List, [], ◌∷◌, ◌++◌, length, take, drop, get_or, sym, refl, ap, ◌∙◌, append_assoc, append-nil, take-append-drop, line_of, pair_words, pair_lines}
use Rattle.std.proofs.lemmas.List.{take_more}
use Rattle.mst_key.specs.Map.{Pair}

pair_lines-append : (ps qs : List Pair) → pair_lines (ps ++ qs) ≡ pair_lines ps ++ pair_lines qs
pair_lines-append [] qs = refl
pair_lines-append (p ∷ ps) qs = ap (λ (l : List ℕ). line_of (pair_words p) ++ l)
    (pair_lines-append ps qs)
    ∙ sym (append_assoc (line_of (pair_words p)) (pair_lines ps) (pair_lines qs))

pub one_more : (ps : List Pair) (i : ℕ) (d : Pair) → i < length ps → pair_lines (take (i + 1) ps)
    ≡ pair_lines (take i ps) ++ line_of (pair_words (get_or ps i d))
one_more ps i d l = ap pair_lines (take_more ps i d l) ∙ pair_lines-append (take i ps)
    (get_or ps i d ∷ []) ∙ ap (λ (x : List ℕ). pair_lines (take i ps) ++ x)
    (append-nil (line_of (pair_words (get_or ps i d))))

-- all lines, in two parts
pub parted : (ps : List Pair) (i : ℕ) → pair_lines ps ≡ pair_lines (take i ps) ++ pair_lines
    (drop i ps)
parted ps i = ap pair_lines (sym (take-append-drop i ps)) ∙ pair_lines-append (take i ps)
    (drop i ps)
