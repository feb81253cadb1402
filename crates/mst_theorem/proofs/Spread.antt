-- Calls spread by their rank: those of each rank one after another, in the order in which they
-- stood.
use Rattle.mst_theorem.proofs.Names.{◌≡◌, ◌≢◌, ℕ, suc, ◌+◌, ◌<◌, ◌≤◌, ◌==◌, Bool, List, [], ◌∷◌, ◌++◌, filter, refl, sym, ap, ◌∙◌, arith, eq-eqb, ne_eqb, AllByRecursion, dite, ℕ_discrete, Call, rank, NeverFalls}
use Rattle.std.proofs.Common.{zero}
use Rattle.std.proofs.lemmas.List.Elements.{filter-append}
use Rattle.mst_theorem.proofs.Filters.{weaker, take_in, leave_out, filter_swap}

-- the calls of one rank
abbrev pub of_rank : ℕ → List Call → List Call
of_rank r run = filter (λ c. rank c == r) run

-- those of m ranks, from the rank r on
abbrev pub spread : ℕ → ℕ → List Call → List Call
spread r zero run = []
spread r (suc m) run = of_rank r run ++ spread (suc r) m run

pub filter-spread : (chosen : Call → Bool) (r m : ℕ) (run : List Call)
    → filter chosen (spread r m run) ≡ spread r m (filter chosen run)
filter-spread chosen r zero run = refl
filter-spread chosen r (suc m) run = filter-append chosen (of_rank r run) (spread (suc r) m run)
    ∙ ap (λ (l : List Call). l ++ filter chosen (spread (suc r) m run))
    (filter_swap chosen (λ (c : Call). rank c == r) run)
    ∙ ap (λ (l : List Call). of_rank r (filter chosen run) ++ l)
    (filter-spread chosen (suc r) m run)

-- a call is not among those of higher ranks
beyond : (c : Call) (run : List Call) (r m : ℕ) → rank c < r
    → spread r m (c ∷ run) ≡ spread r m run
beyond c run r zero low = refl
beyond c run r (suc m) low =
    ap (λ (l : List Call). l ++ spread (suc r) m (c ∷ run))
    (leave_out (λ (d : Call). rank d == r) c run (ne_eqb (rank c) r (λ e. omega (arith, e, low))))
    ∙ ap (λ (l : List Call). of_rank r run ++ l) (beyond c run (suc r) m (omega (arith, low)))

pub none_of_rank : (r : ℕ) (run : List Call) → AllByRecursion (λ c. r < rank c) run
    → of_rank r run ≡ []
none_of_rank r [] a = refl
none_of_rank r (c ∷ run) a = let high : r < rank c = a.0 in
    leave_out (λ (d : Call). rank d == r) c run
    (ne_eqb (rank c) r (λ e. omega (arith, e, high))) ∙ none_of_rank r run a.1

-- a call whose rank is not above that of any other comes first
front : (c : Call) (run : List Call) (r m : ℕ) → r ≤ rank c → rank c < r + m
    → AllByRecursion (λ d. rank c ≤ rank d) run → spread r m (c ∷ run) ≡ c ∷ spread r m run
front c run r zero low high a = absurd (omega (arith, low, high))
front c run r (suc m) low high a = dite (ℕ_discrete (rank c) r)
    (λ (is : rank c ≡ r). ap (λ (l : List Call). l ++ spread (suc r) m (c ∷ run))
    (take_in (λ (d : Call). rank d == r) c run (eq-eqb (rank c) r is))
    ∙ ap (λ (l : List Call). (c ∷ of_rank r run) ++ l)
    (beyond c run (suc r) m (omega (arith, is))))
    (λ (other : rank c ≢ r). let none : of_rank r run ≡ [] =
    none_of_rank r run
    (weaker (λ (d : Call). rank c ≤ rank d) (λ (d : Call). r < rank d)
    (λ d l. omega (arith, l, low, other)) run a) in
    ap (λ (l : List Call). l ++ spread (suc r) m (c ∷ run))
    (leave_out (λ (d : Call). rank d == r) c run (ne_eqb (rank c) r other) ∙ none)
    ∙ front c run (suc r) m (omega (arith, low, other)) (omega (arith, high)) a
    ∙ ap (λ (l : List Call). c ∷ (l ++ spread (suc r) m run)) (sym none))

spread-nil : (r m : ℕ) → spread r m [] ≡ []
spread-nil r zero = refl
spread-nil r (suc m) = spread-nil (suc r) m

-- calls whose ranks never fall stay as they stand
pub spread_same : (r m : ℕ) (run : List Call) → NeverFalls run
    → AllByRecursion (λ c. (r ≤ rank c) × (rank c < r + m)) run → spread r m run ≡ run
spread_same r m [] rises within = spread-nil r m
spread_same r m (c ∷ run) rises within =
    front c run r m within.0.0 within.0.1 rises.0
    ∙ ap (λ (l : List Call). c ∷ l) (spread_same r m run rises.1 within.1)
