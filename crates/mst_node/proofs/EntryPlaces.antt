-- The entries of a body, place by place.
use Rattle.mst_node.proofs.Names.{◌≡◌, ℕ, zero, suc, ◌<◌, ◌≤◌, List, [], ◌∷◌, length, map, Option, Some, None, refl, sym, ◌∙◌, ap, subst, arith, rules, option_map, IsSome, Format, FlatEntry, ◌>>=◌, child_at, entry_at, whole, body_or_empty}
use Rattle.std.specs.Prelude.{unwrap_or, slice_get}
use Rattle.mst_node.specs.Text.{child_before}
use Rattle.mst_node.specs.Reading.{entries_at, behind_at, body_at}
use Rattle.mst_node.proofs.ReadIsSpelled.{bind_ok, some_same}
use Rattle.mst_node.proofs.BytesAfterEntries.{behind-entries}

-- as many entries are read as were asked for
pub entries-count : (format : Format) (n : ℕ) (bytes : List ℕ) (p : List FlatEntry × List ℕ)
    → entries_at format n bytes ≡ Some p → length p.0 ≡ n
unfolding entries_at
entries-count format zero bytes p h = ap (λ (q : List FlatEntry × List ℕ). length q.0)
    (sym (some_same ([], bytes) p h))
entries-count format (suc n) bytes p h =
    let r1 = bind_ok (entry_at format bytes) _ p h in
    let r2 = bind_ok (entries_at format n r1.0.1) _ p r1.2 in
    ap (λ (q : List FlatEntry × List ℕ). length q.0)
    (sym (some_same (r1.0.0 ∷ r2.0.0, r2.0.1) p r2.2))
    ∙ ap suc (entries-count format n r1.0.1 r2.0 r2.1)

-- an entry is read after those before it
pub record EntryPlace (format : Format) (bytes : List ℕ) (i : ℕ) (es : List FlatEntry) : Type 0
  where
    pub rest : List ℕ
    pub entry : FlatEntry × List ℕ
    pub behind : behind_at format i bytes ≡ Some rest
    pub reading : entry_at format rest ≡ Some entry
    pub place : slice_get es i ≡ Some entry.0

pub place : (format : Format) (n i : ℕ) (bytes : List ℕ) (p : List FlatEntry × List ℕ)
    → entries_at format n bytes ≡ Some p → i < n → EntryPlace format bytes i p.0
unfolding entries_at behind_at
place format zero i bytes p h l = absurd (omega arith)
place format (suc n) zero bytes p h l =
    let r1 = bind_ok (entry_at format bytes) _ p h in
    let r2 = bind_ok (entries_at format n r1.0.1) _ p r1.2 in
    let P : List FlatEntry × List ℕ → Type 0 = λ q. EntryPlace format bytes 0 q.0 in
    subst P (some_same (r1.0.0 ∷ r2.0.0, r2.0.1) p r2.2)
    (record { rest = bytes; entry = r1.0; behind = refl; reading = r1.1; place = refl })
place format (suc n) (suc i) bytes p h l =
    let r1 = bind_ok (entry_at format bytes) _ p h in
    let r2 = bind_ok (entries_at format n r1.0.1) _ p r1.2 in
    let there = place format n i r1.0.1 r2.0 r2.1 (omega arith) in
    let P : List FlatEntry × List ℕ → Type 0 = λ q. EntryPlace format bytes (suc i) q.0 in
    let behind : behind_at format (suc i) bytes ≡ Some there.rest =
    ap (λ (r : Option (FlatEntry × List ℕ)). r >>= λ e. behind_at format i e.1) r1.1
    ∙ there.behind in
    subst P (some_same (r1.0.0 ∷ r2.0.0, r2.0.1) p r2.2)
    (record {
      rest = there.rest;
      entry = there.entry;
      behind = behind;
      reading =
          there.reading;
      place = there.place;
    })

-- the parts of a body
pub record Parts (format : Format) (n : ℕ) (bytes : List ℕ) (b : List FlatEntry × Option (List ℕ)) :
    Type 0 where
  pub rest : List ℕ
  pub entries : entries_at format n bytes ≡ Some (b.0, rest)
  pub tail : child_at rest ≡ Some (b.1, [])
  pub count : length b.0 ≡ n

parts_of : (format : Format) (n : ℕ) (bytes : List ℕ) (b : List FlatEntry × Option (List ℕ))
    → body_at format n bytes ≡ Some b → Parts format n bytes b
unfolding body_at
parts_of format n bytes b h =
    let r1 = bind_ok (entries_at format n bytes) _ b h in
    let r2 = bind_ok (child_at r1.0.1) _ b r1.2 in
    go r1.0.0 r1.0.1 r1.1 r2.0.0 r2.0.1 r2.1 r2.2
  where
    go : (es : List FlatEntry) (rest : List ℕ) → entries_at format n bytes ≡ Some (es, rest)
        → (tail : Option (List ℕ)) (left : List ℕ) → child_at rest ≡ Some (tail, left)
        → whole ((es, tail), left) ≡ Some b → Parts format n bytes b
    go es rest h tail [] k e = subst (Parts format n bytes) (some_same (es, tail) b e)
        (record {
          rest = rest;
          entries = h;
          tail = k;
          count =
              entries-count format n bytes (es, rest) h;
        })
    go es rest h tail (x ∷ left) k e = absurd (cc)

pub parts : (format : Format) (n : ℕ) (bytes : List ℕ) → IsSome (body_at format n bytes)
    → Parts format n bytes (body_or_empty format n bytes)
parts format n bytes some = go (body_at format n bytes) refl some
  where
    go : (r : Option (List FlatEntry × Option (List ℕ))) → body_at format n bytes ≡ r → IsSome r
        → Parts format n bytes (unwrap_or r ([], None))
    go None e some = absurd (search rules)
    go (Some b) e some = parts_of format n bytes b e

-- after all entries lies the last child
pub parts-behind : (format : Format) (n : ℕ) (bytes : List ℕ) (b : List FlatEntry × Option (List ℕ))
    (p : Parts format n bytes b) → behind_at format n bytes ≡ Some p.rest
parts-behind format n bytes b p = behind-entries format n bytes
    ∙ ap (option_map (λ (q : List FlatEntry × List ℕ). q.1)) p.entries

-- ---- the children

pub child_before-at : (es : List FlatEntry) (tail : Option (List ℕ)) (i : ℕ) (e : FlatEntry)
    → slice_get es i ≡ Some e → child_before es tail i ≡ e.child
child_before-at [] tail i e h = absurd (cc)
child_before-at (x ∷ es) tail zero e h = ap (λ (y : FlatEntry). y.child) (some_same x e h)
child_before-at (x ∷ es) tail (suc i) e h = child_before-at es tail i e h

pub child_before-end : (es : List FlatEntry) (tail : Option (List ℕ)) (i : ℕ) → length es ≤ i
    → child_before es tail i ≡ tail
child_before-end [] tail i h = refl
child_before-end (x ∷ es) tail zero h = absurd (omega arith)
child_before-end (x ∷ es) tail (suc i) h = child_before-end es tail i (omega arith)

-- ---- a body that is seen as these entries and this last child

pub seen-count : (format : Format) (n : ℕ) (bytes : List ℕ) (es : List FlatEntry)
    → IsSome (body_at format n bytes) → (body_or_empty format n bytes).0 ≡ es → n ≡ length es
seen-count format n bytes es some e = sym (ap length (sym e) ∙ (parts format n bytes some).count)

pub seen-place : (format : Format) (n i : ℕ) (bytes : List ℕ) (es : List FlatEntry)
    → IsSome (body_at format n bytes) → (body_or_empty format n bytes).0 ≡ es → i < length es
    → EntryPlace format bytes i es
seen-place format n i bytes es some e l =
    let b = parts format n bytes some in
    let within : i < n = omega (arith, seen-count format n bytes es some e) in
    subst (EntryPlace format bytes i) e
    (place format n i bytes ((body_or_empty format n bytes).0, b.rest) b.entries within)

pub none-some : {A : Type 0} (r : Option A) (x : A) → r ≡ None → r ≡ Some x → ⊥
none-some r x e f = absurd (cc)

-- what was read at one place is one
pub read-same : {A B : Type 0} (r : Option A) (f : A → Option B) (x y : A) → r ≡ Some x → r ≡ Some y
    → f x ≡ f y
read-same r f x y e g = ap f (some_same x y (sym e ∙ g))
