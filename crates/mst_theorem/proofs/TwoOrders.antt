-- Two calls of two passes stand in one of two orders. So a get beside a put of its key finds
-- nothing or what was put.
use Rattle.mst_theorem.proofs.Names.{◌≡◌, ◌⊎◌, ◌≢◌, ℕ, suc, ◌==◌, List, [], ◌∷◌, length, inl, inr, refl, sym, ap, ◌∙◌, subst, arith, eq-eqb, ne_eqb, Option, Some, None, Result, Ok, Err, dite, ℕ_discrete, Format, map_get-put_same, WriteFault, Single, Call, calls_of, IsServed, left_by, read, got, put_was}
use Rattle.mst_theorem.proofs.Filters.{take_in, leave_out}

abbrev AreCalls : List Call → List Call → Type 0
AreCalls order run = (n : ℕ) → calls_of n order ≡ calls_of n run

mine : (c : Call) (cs : List Call) (n : ℕ) → c.old.number ≡ n
    → calls_of n (c ∷ cs) ≡ c ∷ calls_of n cs
mine c cs n is = take_in (λ (d : Call). d.old.number == n) c cs (eq-eqb c.old.number n is)

others : (c : Call) (cs : List Call) (n : ℕ) → c.old.number ≢ n
    → calls_of n (c ∷ cs) ≡ calls_of n cs
others c cs n not = leave_out (λ (d : Call). d.old.number == n) c cs (ne_eqb c.old.number n not)

some_none : (c : Call) (cs : List Call) → c ∷ cs ≡ [] → ⊥
some_none c cs e = let long : suc (length cs) ≡ 0 = ap length e in omega (arith, long)

-- what is left when the first call is taken away on both sides
rest_of : (c : Call) (cs ds : List Call) → AreCalls (c ∷ cs) (c ∷ ds) → AreCalls cs ds
rest_of c cs ds are n = dite (ℕ_discrete c.old.number n)
    (λ (is : c.old.number ≡ n). let whole : c ∷ calls_of n cs ≡ c ∷ calls_of n ds =
    sym (mine c cs n is) ∙ are n ∙ mine c ds n is in
    let behind : calls_of n cs ≡ calls_of n ds = cc in behind)
    (λ (not : c.old.number ≢ n). sym (others c cs n not) ∙ are n ∙ others c ds n not)

no_calls : (order : List Call) → AreCalls order [] → order ≡ []
no_calls [] are = refl
no_calls (x ∷ xs) are = absurd (some_none x (calls_of x.old.number xs)
    (sym (mine x xs x.old.number refl) ∙ are x.old.number))

one_call : (c : Call) (order : List Call) → AreCalls order (c ∷ []) → order ≡ c ∷ []
one_call c [] are =
    absurd (some_none c [] (sym (mine c [] c.old.number refl) ∙ sym (are c.old.number)))
one_call c (x ∷ xs) are = let n : ℕ = x.old.number in
    let front : x ∷ calls_of n xs ≡ calls_of n (c ∷ []) = sym (mine x xs n refl) ∙ are n in
    dite (ℕ_discrete c.old.number n)
    (λ (is : c.old.number ≡ n). let whole : x ∷ calls_of n xs ≡ c ∷ [] =
    front ∙ mine c [] n is in let same : x ≡ c = cc in
    let less : xs ≡ [] =
    no_calls xs (rest_of c xs [] (subst (λ (y : Call). AreCalls (y ∷ xs) (c ∷ [])) same are)) in
    ap (λ (y : Call). y ∷ xs) same ∙ ap (λ (l : List Call). c ∷ l) less)
    (λ (not : c.old.number ≢ n). absurd
    (some_none x (calls_of n xs) (front ∙ others c [] n not)))

pub two_orders : (c d : Call) (order : List Call) → c.old.number ≢ d.old.number
    → AreCalls order (c ∷ d ∷ []) → (order ≡ c ∷ d ∷ []) ⊎ (order ≡ d ∷ c ∷ [])
two_orders c d [] apart are =
    absurd (some_none c (calls_of c.old.number (d ∷ []))
    (sym (mine c (d ∷ []) c.old.number refl) ∙ sym (are c.old.number)))
two_orders c d (x ∷ xs) apart are = let n : ℕ = x.old.number in
    let front : x ∷ calls_of n xs ≡ calls_of n (c ∷ d ∷ []) =
    sym (mine x xs n refl) ∙ are n in
    dite (ℕ_discrete c.old.number n)
    (λ (is : c.old.number ≡ n). let whole : x ∷ calls_of n xs ≡ c ∷ calls_of n (d ∷ []) =
    front ∙ mine c (d ∷ []) n is in let same : x ≡ c = cc in
    let less : xs ≡ d ∷ [] =
    one_call d xs
    (rest_of c xs (d ∷ []) (subst (λ (y : Call). AreCalls (y ∷ xs) (c ∷ d ∷ [])) same are)) in
    inl (ap (λ (y : Call). y ∷ xs) same ∙ ap (λ (l : List Call). c ∷ l) less))
    (λ (not : c.old.number ≢ n). dite (ℕ_discrete d.old.number n)
    (λ (is : d.old.number ≡ n). let whole : x ∷ calls_of n xs ≡ d ∷ [] =
    front ∙ others c (d ∷ []) n not ∙ mine d [] n is in let same : x ≡ d = cc in
    let less : xs ≡ c ∷ [] =
    one_call c xs
    (rest_of d xs (c ∷ []) (λ k. ap (λ (y : Call). calls_of k (y ∷ xs)) (sym same) ∙ are k
    ∙ turned k)) in
    inr (ap (λ (y : Call). y ∷ xs) same ∙ ap (λ (l : List Call). d ∷ l) less))
    (λ (neither : d.old.number ≢ n). absurd
    (some_none x (calls_of n xs)
    (front ∙ others c (d ∷ []) n not ∙ others d [] n neither))))
  where
    -- of one pass there is one of the two
    turned : (k : ℕ) → calls_of k (c ∷ d ∷ []) ≡ calls_of k (d ∷ c ∷ [])
    turned k = dite (ℕ_discrete c.old.number k)
        (λ (is : c.old.number ≡ k). let not : d.old.number ≢ k = λ e. apart (is ∙ sym e) in
        mine c (d ∷ []) k is ∙ ap (λ (l : List Call). c ∷ l) (others d [] k not)
        ∙ sym (others d (c ∷ []) k not ∙ mine c [] k is))
        (λ (no : c.old.number ≢ k). others c (d ∷ []) k no
        ∙ dite (ℕ_discrete d.old.number k)
        (λ (is : d.old.number ≡ k). mine d [] k is
        ∙ sym (mine d (c ∷ []) k is ∙ ap (λ (l : List Call). d ∷ l) (others c [] k no)))
        (λ (not : d.old.number ≢ k). others d [] k not
        ∙ sym (others d (c ∷ []) k not ∙ others c [] k no)))

-- what the get finds in either order
pub finds_put : (format : Format) (k v : List ℕ) (r : Result (Option (List ℕ)) WriteFault)
    (found : Option (List ℕ)) (t : Single)
    → IsServed (left_by format []) (put_was k v r ∷ read (got k found) ∷ []) t
    → (found ≡ None) ⊎ (found ≡ Some v)
finds_put format k v (Ok old) found t s = inr (s.1.0 ∙ map_get-put_same [] k v)
finds_put format k v (Err fault) found t s = inl s.1.0

pub finds_none : (format : Format) (k v : List ℕ) (r : Result (Option (List ℕ)) WriteFault)
    (found : Option (List ℕ)) (t : Single)
    → IsServed (left_by format []) (read (got k found) ∷ put_was k v r ∷ []) t
    → (found ≡ None) ⊎ (found ≡ Some v)
finds_none format k v r found t s = inl s.0
