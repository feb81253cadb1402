-- An element of a list that is taken one by one.
use Rattle.mst_shards.proofs.Names.{◌≡◌, ℕ, List, [], ◌∷◌, ◌++◌, length, get_or, sym, ap, ◌∙◌, arith, append_assoc, append-nil, subst, length-append, get_or-append_seam, AllByRecursion}
use Rattle.std.proofs.lemmas.List.{nil_from_length}

-- the one that comes next
pub next_at : {X : Type 0} (all front rest : List X) (x : X) (n : ℕ) (d : X)
    → all ≡ front ++ x ∷ rest → length front ≡ n → get_or all n d ≡ x
next_at all front rest x n d is long =
    ap (λ l. get_or l n d) is ∙ ap (λ i. get_or (front ++ x ∷ rest) i d) (sym long)
    ∙ get_or-append_seam front x rest d

-- it goes to those that are done
pub goes_on : {X : Type 0} (all front rest rest' : List X) (x : X) → all ≡ front ++ rest
    → rest ≡ x ∷ rest' → all ≡ (front ++ x ∷ []) ++ rest'
goes_on all front rest rest' x is next =
    is ∙ ap (λ l. front ++ l) next ∙ sym (append_assoc front (x ∷ []) rest')

-- it goes there as the same
pub goes_same : {X : Type 0} (all done left rest new : List X) (p q : X) → all ≡ done ++ left
    → left ≡ p ∷ rest → q ≡ p → new ≡ done ++ q ∷ [] → all ≡ new ++ rest
goes_same {X} all done left rest new p q is next same pushed =
    goes_on all done left rest p is next
    ∙ ap (λ (x : X). (done ++ x ∷ []) ++ rest) (sym same)
    ∙ ap (λ (l : List X). l ++ rest) (sym pushed)

-- none is left
pub all_gone : {X : Type 0} (all done left : List X) → all ≡ done ++ left → length left ≡ 0
    → done ≡ all
all_gone {X} all done left is none =
    sym (is ∙ ap (λ (l : List X). done ++ l) (nil_from_length left none) ∙ append-nil done)

-- what holds of all holds of it
pub holds_next : {X : Type 0} (P : X → Type 0) (front rest : List X) (x : X)
    → AllByRecursion P (front ++ x ∷ rest) → P x
holds_next P [] rest x all = all.0
holds_next P (y ∷ front) rest x all = holds_next P front rest x all.1

pub own_next : {X : Type 0} (all others front left rest : List X) (x : X) (n : ℕ) → all ≡ others
    → all ≡ front ++ left → left ≡ x ∷ rest → length front ≡ n → x ≡ get_or others n x
own_next all others front left rest x n same is next long =
    sym (ap (λ l. get_or l n x) (sym same)
    ∙ next_at all front rest x n x (is ∙ ap (λ l. front ++ l) next) long)

pub holds_own : {X : Type 0} (P : X → Type 0) (all others front left rest : List X) (x : X)
    → all ≡ others → all ≡ front ++ left → left ≡ x ∷ rest → AllByRecursion P others → P x
holds_own P all others front left rest x same is next holds =
    holds_next P front rest x
    (subst (λ l. AllByRecursion P l) (sym same ∙ is ∙ ap (λ l. front ++ l) next) holds)

-- all were taken
pub taken : {X : Type 0} (all front left : List X) → all ≡ front ++ left
    → length front ≡ length all → front ≡ all
taken all front [] is long = sym (is ∙ append-nil front)
taken all front (x ∷ left) is long =
    let more = length-append front (x ∷ left) in
    let same = ap (λ l. length l) is in absurd (omega (arith, more, same, long))
