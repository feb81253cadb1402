-- The laws of histories: the map after them, one history that begins another, and the events of a
-- pass.
use Rattle.mst_key.proofs.Names.{◌≡◌, ℕ, Some, None, ◌+◌, ◌==◌, ◌⊎◌, inl, inr, List, [], ◌∷◌, ◌++◌, length, refl, sym, ap, ◌∙◌, subst, append_assoc, length-append, arith, append-nil, filter-append, Change, Put, Remove, Migrate, Batch, Edit, Format, AllByRecursion, edited, batched, had, reply, key_of, IsEdited, History, changed, format_after, after_from, after, events_of, IsPrefix, Pair, IsMap, map_get, put, remove}
use Rattle.mst_key.specs.declared.history.Event.{Event}
use Rattle.mst_key.specs.declared.history.Edit.TheVariants as edit
use Rattle.mst_key.specs.History.{change_of, IsSmall, singles, changed_format, IsAbout, IsMigration, LeavesAlone, KeepsFormat, IsWithinLimits, IsPossible}
use Rattle.mst_key.proofs.Alls.{alls-append, alls-front}
use Rattle.mst_key.proofs.MapLaws.{IsMap-nil, IsMap-put, IsMap-remove, map_get-put_same, map_get-remove_same, map_get-put_other, map_get-remove_other}

-- ---- the map after the edits of a batch

pub IsMap-edited : (m : List Pair) (e : Edit) → IsMap m → IsSmall e → IsMap (edited m e)
IsMap-edited m (edit.Put k v) map small = IsMap-put m k v map small.0 small.1
IsMap-edited m (edit.Remove k) map small = IsMap-remove m k map

pub IsMap-batched : (m : List Pair) (es : List Edit) → IsMap m → AllByRecursion IsSmall es
    → IsMap (batched m es)
IsMap-batched m [] map small = map
IsMap-batched m (e ∷ es) map small = IsMap-batched (edited m e) es
    (IsMap-edited m e map small.0) small.1

pub map_get-edited_other : (m : List Pair) (e : Edit) (q : List ℕ) → (q ≡ key_of e → ⊥)
    → map_get (edited m e) q ≡ map_get m q
map_get-edited_other m (edit.Put k v) q other = map_get-put_other m k v q other
map_get-edited_other m (edit.Remove k) q other = map_get-remove_other m k q other

pub map_get-batched_other : (m : List Pair) (es : List Edit) (q : List ℕ) → (IsEdited q es → ⊥)
    → map_get (batched m es) q ≡ map_get m q
map_get-batched_other m [] q other = refl
map_get-batched_other m (e ∷ es) q other =
    map_get-batched_other (edited m e) es q (λ i. other (inr i))
    ∙ map_get-edited_other m e q (λ is. other (inl is))

-- ---- the map after a history

pub IsMap-changed : (m : List Pair) (c : Change) → IsMap m → IsWithinLimits c → IsMap (changed m c)
IsMap-changed m (Put k v) map within = IsMap-put m k v map within.0 within.1
IsMap-changed m (Remove k) map within = IsMap-remove m k map
IsMap-changed m (Migrate to) map within = map
IsMap-changed m (Batch es) map within = IsMap-batched m es map within

pub IsMap-after_from : (m : List Pair) (h : History) → IsMap m → IsPossible h
    → IsMap (after_from m h)
IsMap-after_from m [] map possible = map
IsMap-after_from m (e ∷ h) map possible =
    IsMap-after_from (changed m e.change) h (IsMap-changed m e.change map possible.0) possible.1

pub IsMap-after : (h : History) → IsPossible h → IsMap (after h)
IsMap-after h = IsMap-after_from [] h IsMap-nil

pub after_from-append : (m : List Pair) (g h : History) → after_from m (g ++ h) ≡ after_from
    (after_from m g) h
after_from-append m [] h = refl
after_from-append m (e ∷ g) h = after_from-append (changed m e.change) g h

pub after-append : (g h : History) → after (g ++ h) ≡ after_from (after g) h
after-append = after_from-append []

-- one more event changes the map as it says
pub after-push : (h : History) (e : Event) → after (h ++ e ∷ []) ≡ changed (after h) e.change
after-push h e = after-append h (e ∷ [])

-- ---- batches

pub batched-append : (m : List Pair) (es fs : List Edit) → batched m (es ++ fs)
    ≡ batched (batched m es) fs
batched-append m [] fs = refl
batched-append m (e ∷ es) fs = batched-append (edited m e) es fs

pub batched-last_put : (m : List Pair) (es fs : List Edit) (k v : List ℕ) → (IsEdited k fs → ⊥)
    → map_get (batched m (es ++ edit.Put k v ∷ fs)) k ≡ Some v
batched-last_put m es fs k v other =
    ap (λ (n : List Pair). map_get n k) (batched-append m es (edit.Put k v ∷ fs))
    ∙ map_get-batched_other (edited (batched m es) (edit.Put k v)) fs k other
    ∙ map_get-put_same (batched m es) k v

pub batched-last_remove : (m : List Pair) (es fs : List Edit) (k : List ℕ) → (IsEdited k fs → ⊥)
    → map_get (batched m (es ++ edit.Remove k ∷ fs)) k ≡ None
batched-last_remove m es fs k other =
    ap (λ (n : List Pair). map_get n k) (batched-append m es (edit.Remove k ∷ fs))
    ∙ map_get-batched_other (edited (batched m es) (edit.Remove k)) fs k other
    ∙ map_get-remove_same (batched m es) k

after_from-singles : (m : List Pair) (pass : ℕ) (es : List Edit) → after_from m (singles pass es)
    ≡ batched m es
after_from-singles m pass [] = refl
after_from-singles m pass (edit.Put k v ∷ es) = after_from-singles (put m k v) pass es
after_from-singles m pass (edit.Remove k ∷ es) = after_from-singles (remove m k) pass es

pub after-singles : (h : History) (pass : ℕ) (es : List Edit)
    → after (h ++ record { pass = pass; change = Batch es } ∷ []) ≡ after (h ++ singles pass es)
after-singles h pass es =
    after-push h (record { pass = pass; change = Batch es })
    ∙ sym (after-append h (singles pass es) ∙ after_from-singles (after h) pass es)

-- a change leaves every key that it is not about as it was
pub map_get-changed_other : (m : List Pair) (c : Change) (q : List ℕ) → (IsAbout q c → ⊥)
    → map_get (changed m c) q ≡ map_get m q
map_get-changed_other m (Put k v) q other = map_get-put_other m k v q other
map_get-changed_other m (Remove k) q other = map_get-remove_other m k q other
map_get-changed_other m (Migrate to) q other = refl
map_get-changed_other m (Batch es) q other = map_get-batched_other m es q other

pub map_get-after_from_alone : (m : List Pair) (h : History) (k : List ℕ) → LeavesAlone h k
    → map_get (after_from m h) k ≡ map_get m k
map_get-after_from_alone m [] k alone = refl
map_get-after_from_alone m (e ∷ h) k alone = map_get-after_from_alone (changed m e.change) h k
    alone.1 ∙ map_get-changed_other m e.change k alone.0

pub map_get-after_alone : (h : History) (k : List ℕ) → LeavesAlone h k → map_get (after h) k ≡ None
map_get-after_alone = map_get-after_from_alone []

-- the last change of a key leaves its value
after_last : (g h : History) (e : Event) (k : List ℕ) → LeavesAlone h k
    → map_get (after (g ++ e ∷ h)) k ≡ map_get (changed (after g) e.change) k
after_last g h e k alone =
    ap (λ (m : List Pair). map_get m k) (after-append g (e ∷ h)) ∙ map_get-after_from_alone
    (changed (after g) e.change) h k alone

pub map_get-after_last_put : (g h : History) (pass : ℕ) (k v : List ℕ) → LeavesAlone h k
    → map_get (after (g ++ record { pass = pass; change = Put k v } ∷ h)) k ≡ Some v
map_get-after_last_put g h pass k v alone =
    after_last g h (record { pass = pass; change = Put k v }) k alone ∙ map_get-put_same (after g) k
    v

pub map_get-after_last_remove : (g h : History) (pass : ℕ) (k : List ℕ) → LeavesAlone h k
    → map_get (after (g ++ record { pass = pass; change = Remove k } ∷ h)) k ≡ None
map_get-after_last_remove g h pass k alone =
    after_last g h (record { pass = pass; change = Remove k }) k alone ∙ map_get-remove_same
    (after g) k

-- ---- the format after a history

pub format_after-append : (first : Format) (g h : History) → format_after first (g ++ h)
    ≡ format_after (format_after first g) h
format_after-append first [] h = refl
format_after-append first (e ∷ g) h = format_after-append (changed_format first e.change) g h

pub format_after-push : (first : Format) (h : History) (e : Event) → format_after first
    (h ++ e ∷ []) ≡ changed_format (format_after first h) e.change
format_after-push first h e = format_after-append first h (e ∷ [])

pub format_kept : (format : Format) (c : Change) → (IsMigration c → ⊥) → changed_format format c
    ≡ format
format_kept format (Put k v) not = refl
format_kept format (Remove k) not = refl
format_kept format (Migrate to) not = absurd (not tt)
format_kept format (Batch es) not = refl

pub format_after_none : (first : Format) (h : History) → KeepsFormat h → format_after first h
    ≡ first
format_after_none first [] keeps = refl
format_after_none first (e ∷ h) keeps = format_after_none (changed_format first e.change) h keeps.1
    ∙ format_kept first e.change keeps.0

pub format_after_last : (first to : Format) (g h : History) (pass : ℕ) → KeepsFormat h
    → format_after first (g ++ record { pass = pass; change = Migrate to } ∷ h) ≡ to
format_after_last first to g h pass keeps =
    format_after-append first g (record { pass = pass; change = Migrate to } ∷ h)
    ∙ format_after_none to h keeps

-- ---- what a write returns

pub reply_edit : (first : Format) (h : History) (pass : ℕ) (e : Edit)
    → reply first h (record { pass = pass; change = change_of e })
    ≡ had (map_get (after h) (key_of e))
reply_edit first h pass (edit.Put k v) = refl
reply_edit first h pass (edit.Remove k) = refl

-- a migration before it changes nothing of the map, and so nothing of the reply
pub reply_past_migration : (first other to : Format) (g h : History) (by pass : ℕ) (e : Edit)
    → reply first (g ++ record { pass = by; change = Migrate to } ∷ h)
    (record { pass = pass; change = change_of e })
    ≡ reply other (g ++ h) (record { pass = pass; change = change_of e })
reply_past_migration first other to g h by pass e =
    reply_edit first (g ++ record { pass = by; change = Migrate to } ∷ h) pass e
    ∙ ap (λ (m : List Pair). had (map_get m (key_of e)))
    (after-append g (record { pass = by; change = Migrate to } ∷ h) ∙ sym (after-append g h))
    ∙ sym (reply_edit other (g ++ h) pass e)

-- ---- histories of possible changes

-- ---- one history begins another

pub IsPrefix-nil : (h : History) → IsPrefix [] h
IsPrefix-nil h = (h, refl)

pub IsPrefix-itself : (h : History) → IsPrefix h h
IsPrefix-itself h = ([], sym (append-nil h))

pub IsPrefix-append : (g h : History) → IsPrefix g (g ++ h)
IsPrefix-append g h = (h, refl)

pub IsPrefix-chain : (f g h : History) → IsPrefix f g → IsPrefix g h → IsPrefix f h
IsPrefix-chain f g h a b =
    (a.0 ++ b.0, b.1 ∙ ap (λ (l : History). l ++ b.0) a.1 ∙ append_assoc f a.0 b.0)

no_events : (h : History) → length h ≡ 0 → h ≡ []
no_events [] e = refl
no_events (x ∷ h) e = absurd (omega arith)

pub IsPrefix-length : (g h : History) → IsPrefix g h → length h ≡ length g → h ≡ g
IsPrefix-length g h a same =
    let long : length h ≡ length g + length a.0 = ap length a.1 ∙ length-append g a.0 in
    let none : length a.0 ≡ 0 = omega arith in
    a.1 ∙ ap (λ (l : History). g ++ l) (no_events a.0 none) ∙ append-nil g

pub IsPrefix-both_ways : (g h : History) → IsPrefix g h → IsPrefix h g → g ≡ h
IsPrefix-both_ways g h a b =
    let long : length h ≡ length g + length a.0 = ap length a.1 ∙ length-append g a.0 in
    let short : length g ≡ length h + length b.0 = ap length b.1 ∙ length-append h b.0 in
    let same : length h ≡ length g = omega arith in
    sym (IsPrefix-length g h a same)

one_begins : (f g s t : History) → f ++ s ≡ g ++ t → IsPrefix f g ⊎ IsPrefix g f
one_begins [] g s t e = inl (IsPrefix-nil g)
one_begins (x ∷ f) [] s t e = inr (IsPrefix-nil (x ∷ f))
one_begins (x ∷ f) (y ∷ g) s t e =
    let first : x ≡ y = cc in
    let rest : f ++ s ≡ g ++ t = cc in
    elim (one_begins f g s t rest) [
      | inl a ↦ inl (a.0, λ i. sym first i ∷ a.1 i)
      | inr b ↦ inr
          (b.0, λ i. first i ∷ b.1 i)
    ]

-- of two histories that begin one history, one begins the other
pub IsPrefix-compare : (f g h : History) → IsPrefix f h → IsPrefix g h → IsPrefix f g ⊎ IsPrefix g f
IsPrefix-compare f g h a b = one_begins f g a.0 b.0 (sym a.1 ∙ b.1)

-- ---- the events of a pass

pub events_of-append : (pass : ℕ) (g h : History) → events_of pass (g ++ h) ≡ events_of pass g
    ++ events_of pass h
events_of-append pass g h = filter-append (λ (e : Event). e.pass == pass) g h

pub events_of-begins : (pass : ℕ) (g h : History) → IsPrefix g h → IsPrefix (events_of pass g)
    (events_of pass h)
events_of-begins pass g h a =
    (events_of pass a.0, ap (events_of pass) a.1 ∙ events_of-append pass g a.0)

-- a history between two that have the same events of a pass has them too
pub events_of-between : (pass : ℕ) (mine x y z : History) → IsPrefix x y → IsPrefix y z
    → events_of pass x ≡ mine → events_of pass z ≡ mine → events_of pass y ≡ mine
events_of-between pass mine x y z a b low high =
    let more : IsPrefix mine (events_of pass y) =
    subst (λ (l : History). IsPrefix l (events_of pass y)) low (events_of-begins pass x y a) in
    let less : IsPrefix (events_of pass y) mine =
    subst (λ (l : History). IsPrefix (events_of pass y) l) high (events_of-begins pass y z b) in
    IsPrefix-both_ways (events_of pass y) mine less more
