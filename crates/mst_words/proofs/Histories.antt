-- A history that grows by an event: what began it still does, and whose event it is.
use Rattle.mst_words.proofs.Names.{◌≡◌, ◌⊎◌, ℕ, suc, ◌+◌, ◌<◌, ◌≢◌, inl, inr, Bool, [], ◌∷◌, ◌++◌, length, refl, sym, ap, ◌∙◌, subst, ⊎_elim, arith, eq-eqb, ne_eqb, cond, append-nil, length-append, All, dite, ℕ_discrete, Event, History, events_of, IsPrefix, IsPrefix-itself, events_of-append}
use Rattle.std.specs.List.{slice_index_or}
use Rattle.mst_key.proofs.HistoryLaws.{IsPrefix-append, IsPrefix-chain, IsPrefix-length, IsPrefix-compare, events_of-begins}

pub begins_longer : (seen log more : History) → IsPrefix seen log → IsPrefix seen (log ++ more)
begins_longer seen log more b = IsPrefix-chain seen log (log ++ more) b (IsPrefix-append log more)

-- a pass that no event names has none
pub events_none : (p : ℕ) (log : History)
    → ((k : ℕ) (d : Event) → k < length log → (slice_index_or log k d).pass ≢ p) → events_of p log
    ≡ []
events_none p [] h = refl
events_none p (e ∷ es) h = ap (λ (b : Bool). cond b (e ∷ events_of p es) (events_of p es))
    (ne_eqb e.pass p (h 0 e (omega arith))) ∙ events_none p es (λ k d l. h (suc k) d (omega arith))

pub events_own : (p : ℕ) (log : History) (e : Event) → e.pass ≡ p → events_of p (log ++ e ∷ [])
    ≡ events_of p log ++ e ∷ []
events_own p log e is = events_of-append p log (e ∷ [])
    ∙ ap (λ (b : Bool). events_of p log ++ cond b (e ∷ []) []) (eq-eqb e.pass p is)

pub events_other : (p : ℕ) (log : History) (e : Event) → e.pass ≢ p → events_of p (log ++ e ∷ [])
    ≡ events_of p log
events_other p log e other = events_of-append p log (e ∷ [])
    ∙ ap (λ (b : Bool). events_of p log ++ cond b (e ∷ []) []) (ne_eqb e.pass p other)
    ∙ append-nil (events_of p log)

-- a history is empty, or has a last event
pub last_of : (log : History) → (log ≡ [])
    ⊎ ((front : History) × (e : Event) × (log ≡ front ++ e ∷ []))
last_of [] = inl refl
last_of (x ∷ xs) = ⊎_elim (λ none. inr ([], x, ap (λ (l : History). x ∷ l) none))
    (λ t. inr (x ∷ t.0, t.1, ap (λ (l : History). x ∷ l) t.2)) (last_of xs)

pub last_named : (P : Event → Type 0) (front : History) (e : Event) → All P (front ++ e ∷ []) → P e
last_named P [] e all = all 0 e (omega arith)
last_named P (x ∷ xs) e all = last_named P xs e (λ k d l. all (suc k) d (omega arith))

-- a pass that has seen its own events, of which the last of the history is one, has seen the
-- history
pub all_seen : (p : ℕ) (mine seen front : History) (e : Event) → e.pass ≡ p
    → IsPrefix seen (front ++ e ∷ []) → events_of p seen ≡ mine → events_of p (front ++ e ∷ [])
    ≡ mine → seen ≡ front ++ e ∷ []
all_seen p mine seen front e is b here all =
    dite (ℕ_discrete (length seen) (length (front ++ e ∷ [])))
    (λ same. sym (IsPrefix-length seen (front ++ e ∷ []) b (sym same)))
    (λ other. absurd (too_few other))
  where
    whole : length (front ++ e ∷ []) ≡ length front + 1
    whole = length-append front (e ∷ [])

    long : length (front ++ e ∷ []) ≡ length seen + length b.0
    long = ap length b.1 ∙ length-append seen b.0

    early : length seen ≢ length (front ++ e ∷ []) → IsPrefix seen front
    early other = ⊎_elim (λ (c : IsPrefix seen front). c)
        (λ (c : IsPrefix front seen). let more : length seen ≡ length front + length c.0 =
        ap length c.1 ∙ length-append front c.0 in
        let same : length seen ≡ length front = omega (arith, whole, long, more, other) in
        subst (λ (l : History). IsPrefix l front) (sym (IsPrefix-length front seen c same))
        (IsPrefix-itself front))
        (IsPrefix-compare seen front (front ++ e ∷ []) b (IsPrefix-append front (e ∷ [])))

    too_few : length seen ≢ length (front ++ e ∷ []) → ⊥
    too_few other = let c = events_of-begins p seen front (early other) in
        let front_has : length (events_of p front) ≡ length (events_of p seen) + length c.0 =
        ap length c.1 ∙ length-append (events_of p seen) c.0 in
        let all_has : length mine ≡ length (events_of p front) + 1 =
        ap length (sym all ∙ events_own p front e is) ∙ length-append (events_of p front)
        (e ∷ []) in
        let seen_has : length (events_of p seen) ≡ length mine = ap length here in
        omega (arith, front_has, all_has, seen_has)
