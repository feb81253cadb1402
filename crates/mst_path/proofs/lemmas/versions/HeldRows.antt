-- The rows that kept versions reach together are as many as these versions hold: each stay of a
-- node counts once, at the first kept version in its run. Nodes, their rows, the runs and what a
-- version reaches are left open.
use Rattle.mst_path.proofs.Names.{◌≡◌, ℕ, zero, suc, ◌+◌, ◌<◌, ◌≤◌, ◌⊎◌, inl, inr, eqb, Bool, true, false, ◌&&◌, ◌||◌, List, [], ◌∷◌, ◌++◌, length, length-append, refl, sym, ◌∙◌, ap, subst, arith, ◌↔◌, nat_tests, times, times-append, or_cases, and_parts}
use Rattle.std.proofs.Common.{⊎_elim}
use Rattle.std.proofs.lemmas.Bool.{or_parts}

-- none, or some
by_zero : (n : ℕ) (A : Type 0) → (n ≡ 0 → A) → (0 < n → A) → A
by_zero zero A is_zero is_more = is_zero refl
by_zero (suc n) A is_zero is_more = is_more (omega arith)

and_false : (a b : Bool) → (a && b) ≡ false → a ≡ true → b ≡ false
and_false true b i on = i
and_false false b i on = cc

by_bool : (b : Bool) (A : Type 0) → (b ≡ true → A) → (b ≡ false → A) → A
by_bool true A f g = f refl
by_bool false A f g = g refl

-- below n + 1 is below n, or n
below_more : (u n : ℕ) → u < suc n → (u ≡ n) ⊎ (u < n)
below_more u n l = by_bool (eqb u n) _ (λ e. inl (grind (arith, nat_tests)))
    (λ e. inr (let other : (u ≡ n → ⊥) = grind (arith, nat_tests) in omega (arith, l, other)))

module _ (N : Type 0) (rows : N → List ℕ) (nodes : ℕ → List N) (lasts : ℕ → ℕ → N → Bool)
    (live : ℕ → Bool) where
  -- a live version below n is in the run that the node of version w has
  abbrev pub met_below : ℕ → ℕ → N → Bool
  met_below zero w t = false
  met_below (suc n) w t = (live n && lasts n w t) || met_below n w t

  abbrev pub either_list : Bool → List N → List N → List N
  either_list true a b = a
  either_list false a b = b

  -- the nodes that no earlier live version has
  abbrev pub firsts : ℕ → List N → List N
  firsts w [] = []
  firsts w (t ∷ ts) = either_list (met_below w w t) (firsts w ts) (t ∷ firsts w ts)

  abbrev pub all_rows : List N → List ℕ
  all_rows [] = []
  all_rows (t ∷ ts) = rows t ++ all_rows ts

  abbrev pub weigh : List N → ℕ
  weigh [] = 0
  weigh (t ∷ ts) = length (rows t) + weigh ts

  abbrev pub pick : Bool → List N → List N
  pick true ts = ts
  pick false ts = []

  -- what the live versions below n hold
  abbrev pub held_below : ℕ → ℕ
  held_below zero = 0
  held_below (suc n) = weigh (pick (live n) (firsts n (nodes n))) + held_below n

  -- and the rows
  abbrev pub rows_below : ℕ → List ℕ
  rows_below zero = []
  rows_below (suc n) = all_rows (pick (live n) (firsts n (nodes n))) ++ rows_below n

  -- each row of each of these nodes is reached by an earlier version exactly if the node's run goes
  -- back so far
  abbrev pub Aged : (ℕ → ℕ → Bool) → ℕ → ℕ → List N → Type 0
  Aged reach w v [] = Unit {0}
  Aged reach w v (t ∷ ts) = ((x : ℕ) → 0 < times x (rows t) → reach v x ≡ lasts v w t)
      × Aged reach w v ts

  weighed : (ts : List N) → length (all_rows ts) ≡ weigh ts
  weighed [] = refl
  weighed (t ∷ ts) = omega (arith, length-append (rows t) (all_rows ts), weighed ts)

  -- they are as many as is held
  pub counted : (n : ℕ) → length (rows_below n) ≡ held_below n
  counted zero = refl
  counted (suc n) =
      omega (
        arith,
        length-append (all_rows (pick (live n) (firsts n (nodes n)))) (rows_below n),
        weighed (pick (live n) (firsts n (nodes n))),
        counted n,
      )

  module _ (reach : ℕ → ℕ → Bool) where
    -- a live version below n that reaches the row
    abbrev Reacher : ℕ → ℕ → Type 0
    Reacher n x = (v : ℕ) × (v < n) × (live v ≡ true) × (reach v x ≡ true)

    met_of : (n w : ℕ) (t : N) → met_below n w t ≡ true → (u : ℕ) × (u < n) × (live u ≡ true)
        × (lasts u w t ≡ true)
    met_of zero w t is = cc
    met_of (suc n) w t is = ⊎_elim
        (λ (h : (live n && lasts n w t) ≡ true). let b = and_parts (live n) (lasts n w t) h in
        (n, omega arith, b.0, b.1))
        (λ (h : met_below n w t ≡ true). let r = met_of n w t h in
        (r.0, (let m = r.1 in omega arith), r.2, r.3))
        (or_cases (live n && lasts n w t) (met_below n w t) is)

    unmet : (n w : ℕ) (t : N) → met_below n w t ≡ false → (u : ℕ) → u < n → live u ≡ true
        → lasts u w t ≡ false
    unmet zero w t is u l on = absurd (omega (arith, l))
    unmet (suc n) w t is u l on = let b = or_parts (live n && lasts n w t) (met_below n w t) is in
        ⊎_elim
        (λ (same : u ≡ n). ap (λ (z : ℕ). lasts z w t) same ∙ and_false (live n) (lasts n w t) b.0
        (sym (ap live same) ∙ on))
        (λ (less : u < n). unmet n w t b.1 u less on)
        (below_more u n l)

    -- what is first is what there is, and not more
    firsts_few : (w x : ℕ) (ts : List N) → times x (all_rows (firsts w ts)) ≤ times x (all_rows ts)
    firsts_few w x [] = omega arith
    firsts_few w x (t ∷ ts) = go (met_below w w t) (firsts_few w x ts)
      where
        go : (b : Bool) → times x (all_rows (firsts w ts)) ≤ times x (all_rows ts)
            → times x (all_rows (either_list b (firsts w ts) (t ∷ firsts w ts))) ≤ times x
            (rows t ++ all_rows ts)
        go true h = omega (arith, h, times-append x (rows t) (all_rows ts))
        go false h =
            omega (
              arith,
              h,
              times-append x (rows t) (all_rows ts),
              times-append x (rows t)
                  (all_rows (firsts w ts)),
            )

    -- a row of the nodes is one of the first, or an earlier live version reaches it
    first_or_met : (w x : ℕ) (ts : List N) → ((v : ℕ) → v < w → Aged reach w v ts)
        → 0 < times x (all_rows ts) → (0 < times x (all_rows (firsts w ts))) ⊎ Reacher w x
    first_or_met w x [] aged i = absurd (omega (arith, i))
    first_or_met w x (t ∷ ts) aged i =
        go (met_below w w t) refl (λ j. first_or_met w x ts (λ v l. (aged v l).1) j)
      where
        go : (b : Bool) → met_below w w t ≡ b
            → (0 < times x (all_rows ts) → (0 < times x (all_rows (firsts w ts))) ⊎ Reacher w x)
            → (0 < times x (all_rows (either_list b (firsts w ts) (t ∷ firsts w ts)))) ⊎ Reacher w x
        go true e more = by_zero (times x (rows t)) _
            (λ z. more (omega (arith, z, i, times-append x (rows t) (all_rows ts))))
            (λ there. inr
            (let m = met_of w w t e in (m.0, m.1, m.2, (aged m.0 m.1).0 x there ∙ m.3)))
        go false e more = by_zero (times x (rows t)) _
            (λ z. ⊎_elim
            (λ (h : 0 < times x (all_rows (firsts w ts))). inl
            (omega (arith, h, times-append x (rows t) (all_rows (firsts w ts)))))
            (λ (r : Reacher w x). inr r)
            (more (omega (arith, z, i, times-append x (rows t) (all_rows ts)))))
            (λ there. inl (omega (arith, there, times-append x (rows t) (all_rows (firsts w ts)))))

    -- no earlier live version reaches a row of the first
    first_new : (w x : ℕ) (ts : List N) → ((v : ℕ) → v < w → Aged reach w v ts)
        → 0 < times x (all_rows (firsts w ts)) → (v : ℕ) → v < w → live v ≡ true → reach v x ≡ false
    first_new w x [] aged i v l on = absurd (omega (arith, i))
    first_new w x (t ∷ ts) aged i v l on =
        go (met_below w w t) refl i (λ j. first_new w x ts (λ u k. (aged u k).1) j v l on)
      where
        go : (b : Bool) → met_below w w t ≡ b
            → 0 < times x (all_rows (either_list b (firsts w ts) (t ∷ firsts w ts)))
            → (0 < times x (all_rows (firsts w ts)) → reach v x ≡ false) → reach v x ≡ false
        go true e j more = more j
        go false e j more = by_zero (times x (rows t)) _
            (λ z. more (omega (arith, z, j, times-append x (rows t) (all_rows (firsts w ts)))))
            (λ there. (aged v l).0 x there ∙ unmet w w t e v l on)

    module _ (exact : (v x : ℕ) → live v ≡ true → reach v x ≡ true
        ↔ 0 < times x (all_rows (nodes v)))
        (once : (v x : ℕ) → live v ≡ true → times x (all_rows (nodes v)) ≤ 1)
        (aged : (w v : ℕ) → live w ≡ true → v < w → Aged reach w v (nodes w)) where
      -- each of the rows is reached by a live version
      sound : (n x : ℕ) → 0 < times x (rows_below n) → Reacher n x
      sound zero x i = absurd (omega (arith, i))
      sound (suc n) x i = go (live n) refl i (λ j. sound n x j)
        where
          further : Reacher n x → Reacher (suc n) x
          further r = (r.0, (let m = r.1 in omega arith), r.2, r.3)

          go : (b : Bool) → live n ≡ b
              → 0 < times x (all_rows (pick b (firsts n (nodes n))) ++ rows_below n)
              → (0 < times x (rows_below n) → Reacher n x) → Reacher (suc n) x
          go false e j more = further (more j)
          go true e j more = by_zero (times x (rows_below n)) _
              (λ z. (
                n,
                omega arith,
                e,
                (exact n x e).1
                    (omega (
                      arith,
                      z,
                      j,
                      times-append x (all_rows (firsts n (nodes n)))
                          (rows_below n),
                      firsts_few n x (nodes n),
                    )),
              ))
              (λ there. further (more there))

      -- the rows of the first of a live version are among them
      own_there : (n v x : ℕ) → v < n → live v ≡ true → 0 < times x (all_rows (firsts v (nodes v)))
          → 0 < times x (rows_below n)
      own_there zero v x l on i = absurd (omega (arith, l))
      own_there (suc n) v x l on i = ⊎_elim
          (λ (same : v ≡ n). let own : 0 < times x (all_rows (pick (live n) (firsts n (nodes n)))) =
          subst (λ (b : Bool). 0 < times x (all_rows (pick b (firsts n (nodes n)))))
          (sym (sym (ap live same) ∙ on))
          (subst (λ (z : ℕ). 0 < times x (all_rows (firsts z (nodes z)))) same i) in
          omega (
            arith,
            own,
            times-append x (all_rows (pick (live n) (firsts n (nodes n))))
                (rows_below n),
          ))
          (λ (less : v < n). let there = own_there n v x less on i in
          omega (
            arith,
            there,
            times-append x (all_rows (pick (live n) (firsts n (nodes n))))
                (rows_below n),
          ))
          (below_more v n l)

      -- each row that a live version reaches is one of them
      complete : (fuel n v x : ℕ) → v < fuel → v < n → live v ≡ true → reach v x ≡ true
          → 0 < times x (rows_below n)
      complete zero n v x f l on i = absurd (omega (arith, f))
      complete (suc fuel) n v x f l on i = ⊎_elim
          (λ (h : 0 < times x (all_rows (firsts v (nodes v)))). own_there n v x l on h)
          (λ (r : Reacher v x). complete fuel n r.0 x (let m = r.1 in omega (arith, m, f))
          (let m = r.1 in omega (arith, m, l)) r.2 r.3)
          (first_or_met v x (nodes v) (λ u k. aged v u on k) ((exact v x on).0 i))

      -- none of them twice
      distinct : (n x : ℕ) → times x (rows_below n) ≤ 1
      distinct zero x = omega arith
      distinct (suc n) x = go (live n) refl (distinct n x)
        where
          go : (b : Bool) → live n ≡ b → times x (rows_below n) ≤ 1
              → times x (all_rows (pick b (firsts n (nodes n))) ++ rows_below n) ≤ 1
          go false e few = few
          go true e few = by_zero (times x (rows_below n)) _
              (λ z. omega (
                arith,
                z,
                once n x e,
                firsts_few n x (nodes n),
                times-append x
                    (all_rows (firsts n (nodes n))) (rows_below n),
              ))
              (λ there. by_zero (times x (all_rows (firsts n (nodes n)))) _
              (λ z. omega (
                arith,
                z,
                few,
                times-append x (all_rows (firsts n (nodes n)))
                    (rows_below n),
              ))
              (λ new. absurd (let r = sound n x there in let not_one =
              first_new n x (nodes n) (λ u k. aged n u e k) new r.0 r.1 r.2 in let is_one =
              r.3 in cc)))

      -- the live versions together reach exactly these rows
      pub together : (n x : ℕ) → Reacher n x ↔ 0 < times x (rows_below n)
      together n x = ((λ r. complete n n r.0 x r.1 r.1 r.2 r.3), (λ i. sound n x i))

      pub rows_once : (n x : ℕ) → times x (rows_below n) ≤ 1
      rows_once n x = distinct n x
