-- What the machine answers in a store of one pass, to a line with a fault, and after a put or a
-- batch.
use Rattle.mst_script.proofs.Names.{◌≡◌, ◌≢◌, inl, inr, ℕ, ◌<◌, List, [], ◌∷◌, ◌++◌, Option, Some, None, refl, sym, ap, ◌∙◌, subst, arith, Format, Change, Edit, History, Reply, had, was, done, after, format_after, Pair, map_get, StoreId, rows_of, Put, Batch, Get, Fault, Request, asked, fault_words, line_of, reply_words, rows_words, value_words, Machine, AnswersRequest, Applies, Counts, Line, Migrates, Step, StepOf, Writes}
use Rattle.std.proofs.Common.{Result, Ok, Err, codes}
use Rattle.mst_key.specs.declared.format.Format.TheVariants.{One, Two}
use Rattle.mst_key.specs.declared.history.Change.TheVariants as change
use Rattle.mst_key.specs.History.{reply, value_after}
use Rattle.mst_key.proofs.HistoryLaws.{map_get-after_last_put, after-push}
use Rattle.mst_key.proofs.Batches.{map_get-batched}

-- ---- a store of one pass

abbrev first_byte : List ℕ → ℕ
first_byte [] = 0
first_byte (b ∷ bs) = b

other_first : (text words : List ℕ) (b : ℕ) → text ≡ line_of words → first_byte (line_of words) ≡ b
    → 98 < b → text ≢ line_of (codes "busy")
other_first text words b is first high busy = let low : b ≡ 98 =
    sym first ∙ ap first_byte (sym is ∙ busy) in omega (arith, high, low)

value_first : (o : Option (List ℕ)) (text : List ℕ) → text ≡ line_of (value_words o)
    → text ≢ line_of (codes "busy")
value_first None text is = other_first text (codes "none") 110 is refl (omega arith)
value_first (Some v) text is = other_first text (value_words (Some v)) 115 is refl (omega arith)

reply_first : (r : Reply) (text : List ℕ) → text ≡ line_of (reply_words r)
    → text ≢ line_of (codes "busy")
reply_first (had old) text is = value_first old text is
reply_first (was One) text is = other_first text (codes "was 1") 119 is refl (omega arith)
reply_first (was Two) text is = other_first text (codes "was 2") 119 is refl (omega arith)
reply_first done text is = other_first text (codes "done") 100 is refl (omega arith)

pub lone_write : (store : StoreId) (p : ℕ) (change : Change) (h new : History) (text : List ℕ)
    → store.passes ≡ 1 → Writes store p change h text new → text ≢ line_of (codes "busy")
lone_write store p change h new text one (inl adds) =
    reply_first (reply store.format h (record { pass = p; change = change })) text adds.answer
lone_write store p change h new text one (inr (inl busy, same)) =
    absurd (let several : 1 < store.passes = busy.1 in omega (arith, one, several))
lone_write store p change h new text one (inr (inr (inl spent), same)) =
    other_first text (codes "spent") 115 spent.0 refl (omega arith)
lone_write store p change h new text one (inr (inr (inr none), same)) =
    other_first text (codes "noroom") 110 none.0 refl (omega arith)

pub lone_migration : (store : StoreId) (p : ℕ) (to : Format) (h new : History) (text : List ℕ)
    → store.passes ≡ 1 → Migrates store p to h text new → text ≢ line_of (codes "busy")
lone_migration store p to h new text one (inl adds) =
    reply_first (reply store.format h (record { pass = p; change = change.Migrate to })) text
    adds.answer
lone_migration store p to h new text one (inr (inl busy, same)) =
    absurd (let several : 1 < store.passes = busy.1 in omega (arith, one, several))
lone_migration store p to h new text one (inr (inr (inl spent), same)) =
    other_first text (codes "spent") 115 spent.0 refl (omega arith)
lone_migration store p to h new text one (inr (inr (inr (other, next, inl lacks)), same)) =
    other_first text (codes "memory") 109 lacks refl (omega arith)
lone_migration store p to h new text one (inr (inr (inr (other, next, inr none)), same)) =
    other_first text (codes "noroom") 110 none.0 refl (omega arith)

pub lone_batch : (store : StoreId) (p : ℕ) (es : List Edit) (h new : History) (text : List ℕ)
    → store.passes ≡ 1 → Applies store p es h text new → text ≢ line_of (codes "busy")
lone_batch store p es h new text one (inl writes) =
    lone_write store p (change.Batch es) h new text one writes
lone_batch store p es h new text one (inr lacks) =
    other_first text (codes "memory") 109 lacks.0 refl (omega arith)

pub lone_count : (store : StoreId) (h new : History) (text : List ℕ) → store.passes ≡ 1
    → Counts store h text new
    → text ≡ line_of (rows_words (Some (rows_of (format_after store.format h) (after h))))
lone_count store h new text one (inl count, same) = count
lone_count store h new text one (inr (inl busy), same) =
    absurd (let several : 1 < store.passes = busy.1 in omega (arith, one, several))
lone_count store h new text one (inr (inr held), same) = absurd (held.1 one)

-- ---- a line with a fault

pub fault_told : (store : StoreId) (m new : Machine) (line : Option (List ℕ)) (text : List ℕ)
    (why : Fault) → asked store.passes line ≡ Err why → Line store m line text new
    → (text ≡ line_of (fault_words why)) × (new ≡ m)
fault_told store m new line text why is answered =
    subst (λ (r : Result Request Fault). AnswersRequest store r m text new) is answered

-- ---- a get after a put

step_of_line : (store : StoreId) (m new : Machine) (line : Option (List ℕ)) (text : List ℕ)
    (request : Request) → asked store.passes line ≡ Ok request → Line store m line text new
    → Step store request.pass request.command m text new
step_of_line store m new line text request is answered =
    subst (λ (r : Result Request Fault). AnswersRequest store r m text new) is answered

put_adds : (store : StoreId) (m n : Machine) (text : List ℕ) (p : ℕ) (k v : List ℕ)
    → n.history ≢ m.history → Step store p (Put k v) m text n →
    (n.history ≡ m.history ++ record { pass = p; change = change.Put k v } ∷ [])
    × (n.pinned ≡ m.pinned)
put_adds store m n text p k v moved step = go (m.pinned p) step
  where
    go : (pin : Option ℕ) → StepOf pin store p (Put k v) m text n
        → (n.history ≡ m.history ++ record { pass = p; change = change.Put k v } ∷ [])
        × (n.pinned ≡ m.pinned)
    go None (inl adds, pins) = (adds.added, pins)
    go None (inr refused, pins) = absurd (moved refused.1)
    go (Some version) (said, same) = absurd (moved (ap (λ (x : Machine). x.history) same))

get_tells : (store : StoreId) (n o : Machine) (told : List ℕ) (q : ℕ) (k : List ℕ)
    → n.pinned q ≡ None → Step store q (Get k) n told o
    → told ≡ line_of (value_words (map_get (after n.history) k))
get_tells store n o told q k none step =
    (subst (λ (pin : Option ℕ). StepOf pin store q (Get k) n told o) none step).0.0

pub put_told : (store : StoreId) (m n o : Machine) (line next : Option (List ℕ))
    (text told : List ℕ) (p q : ℕ) (k v : List ℕ) → asked store.passes line ≡ Ok
    (record { pass = p; command = Put k v }) →
    asked store.passes next ≡ Ok (record { pass = q; command = Get k }) → m.pinned q ≡ None
    → Line store m line text n → Line store n next told o → n.history ≢ m.history
    → told ≡ line_of (value_words (Some v))
put_told store m n o line next text told p q k v is then none first second moved =
    let added =
    put_adds store m n text p k v moved
    (step_of_line store m n line text (record { pass = p; command = Put k v }) is first) in
    get_tells store n o told q k (ap (λ (pins : ℕ → Option ℕ). pins q) added.1 ∙ none)
    (step_of_line store n o next told (record { pass = q; command = Get k }) then second)
    ∙ ap (λ (h : History). line_of (value_words (map_get (after h) k))) added.0
    ∙ ap (λ (found : Option (List ℕ)). line_of (value_words found))
    (map_get-after_last_put m.history [] p k v tt)

-- ---- a get after a batch

batch_adds : (store : StoreId) (m n : Machine) (text : List ℕ) (p : ℕ) (es : List Edit)
    → n.history ≢ m.history → Step store p (Batch es) m text n →
    (n.history ≡ m.history ++ record { pass = p; change = change.Batch es } ∷ [])
    × (n.pinned ≡ m.pinned)
batch_adds store m n text p es moved step = go (m.pinned p) step
  where
    go : (pin : Option ℕ) → StepOf pin store p (Batch es) m text n
        → (n.history ≡ m.history ++ record { pass = p; change = change.Batch es } ∷ [])
        × (n.pinned ≡ m.pinned)
    go None (inl (inl adds), pins) = (adds.added, pins)
    go None (inl (inr refused), pins) = absurd (moved refused.1)
    go None (inr lacks, pins) = absurd (moved lacks.2)
    go (Some version) (said, same) = absurd (moved (ap (λ (x : Machine). x.history) same))

pub batch_told : (store : StoreId) (m n o : Machine) (line next : Option (List ℕ))
    (text told : List ℕ) (p q : ℕ) (es : List Edit) (k : List ℕ) → asked store.passes line ≡ Ok
    (record { pass = p; command = Batch es }) →
    asked store.passes next ≡ Ok (record { pass = q; command = Get k }) → m.pinned q ≡ None
    → Line store m line text n → Line store n next told o → n.history ≢ m.history
    → told ≡ line_of (value_words (value_after es k (map_get (after m.history) k)))
batch_told store m n o line next text told p q es k is then none first second moved =
    let added =
    batch_adds store m n text p es moved
    (step_of_line store m n line text (record { pass = p; command = Batch es }) is first) in
    get_tells store n o told q k (ap (λ (pins : ℕ → Option ℕ). pins q) added.1 ∙ none)
    (step_of_line store n o next told (record { pass = q; command = Get k }) then second)
    ∙ ap (λ (h : History). line_of (value_words (map_get (after h) k))) added.0
    ∙ ap (λ (left : List Pair). line_of (value_words (map_get left k)))
    (after-push m.history (record { pass = p; change = change.Batch es }))
    ∙ ap (λ (found : Option (List ℕ)). line_of (value_words found))
    (map_get-batched (after m.history) es k)
