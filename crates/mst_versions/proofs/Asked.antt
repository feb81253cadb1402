-- One record more is asked.
use Rattle.mst_versions.proofs.Names.{◌≡◌, ℕ, ◌+◌, ◌<◌, List, [], ◌∷◌, ◌++◌, length, slice_index, inr, refl, sym, ap, ◌∙◌, subst, ⊎_elim, arith, Bool, true, false, eqb, dite, ℕ_discrete, eq-eqb, nat_tests, State, version, In, in_either, one_row, stored, SeatState, StoodAtAsk, KnowsRecords, HasAsked, AsksEach, Asked, in_nothing, in_first, in_later, in_cases}
use Rattle.std.proofs.Common.{inl}
use Rattle.mst_arena.proofs.ListLemmas.{times-append}
use Rattle.mst_words.specs.Steps.{Drained, Blocked}

-- the last of a list stands in it, and so do those before it
pub in_last : (x : ℕ) (xs : List ℕ) → In x (xs ++ x ∷ [])
in_last x xs = omega (arith, times-append x xs (x ∷ []), in_first x x [] refl)

length-snoc : (xs : List ℕ) (x : ℕ) → length (xs ++ x ∷ []) ≡ length xs + 1
length-snoc [] x = refl
length-snoc (y ∷ ys) x = let more = length-snoc ys x in omega (arith, more)

pub in_front : (x : ℕ) (xs ys : List ℕ) → In x xs → In x (xs ++ ys)
in_front x xs ys i = omega (arith, times-append x xs ys, i)

pub asked_none : (desk : State) (a : Asked) (m : SeatState) → KnowsRecords desk m → m.0.drained ≡ []
    → m.0.blocked ≡ [] → m.0.found ≡ [] → a.live.items ≡ version desk ∷ [] → HasAsked 0 desk a m
asked_none desk a m k d b f is =
    let no_drained : length m.0.drained ≡ 0 = ap (λ (z : List ℕ). length z) d in
    let no_blocked : length m.0.blocked ≡ 0 = ap (λ (z : List ℕ). length z) b in
    let one : length a.live.items ≡ 1 = ap (λ (z : List ℕ). length z) is in
    record {
      knows = k;
      before = λ l. omega (arith, no_drained, no_blocked);
      behind = λ l. absurd (omega (arith, l));
      fewer = let some = k.some in omega (arith, no_blocked, some);
      room = omega (arith, one, no_blocked);
      live = is ∙ ap (λ (z : List ℕ). version desk ∷ z) (sym f);
      blocked = λ r within. absurd (in_nothing r (subst (λ (z : List ℕ). In r z) b within));
      drained = λ r within. absurd (in_nothing r (subst (λ (z : List ℕ). In r z) d within));
      now = subst (λ (z : List ℕ). In (version desk) z) (sym is)
          (in_first (version desk) (version desk) [] refl);
      others = λ r l other out. absurd (omega (arith, l));
      only = λ v i. inl (one_row v (version desk) (subst (λ (z : List ℕ). In v z) is i));
      found = λ r l other out. absurd (omega (arith, l));
      stood = λ r within. absurd (in_nothing r (subst (λ (z : List ℕ). In r z) b within));
      into = λ some. absurd (omega (arith, some, no_drained));
    }

-- the current record is passed over
pub asked_current : (n : ℕ) (desk : State) (a : Asked) (m : SeatState) → HasAsked n desk a m
    → n ≡ desk.current → HasAsked (n + 1) desk a m
asked_current n desk a m h is = record {
  knows = h.knows;
  before = λ l. absurd (omega (arith, l, is));
  behind = λ l. let b = h.before (omega (arith, is)) in omega (arith, b);
  fewer = h.fewer;
  room = h.room;
  live = h.live;
  blocked = λ r within. let l = h.blocked r within in omega (arith, l);
  drained = λ r within. let d = h.drained r within in let l = d.0 in (omega (arith, l), d.1);
  now = h.now;
  others = λ r l other out. h.others r (omega (arith, l, other, is)) other out;
  only = λ v i. ⊎_elim (λ e. inl e) (λ t. inr (t.0, (let l = t.1 in omega (arith, l)), t.2, t.3))
      (h.only v i);
  found = λ r l other out. h.found r (omega (arith, l, other, is)) other out;
  stood = h.stood;
  into = h.into;
}

-- a record is drained
pub asked_drained : (n : ℕ) (desk : State) (a b : Asked) (m m' : SeatState) → HasAsked n desk a m
    → (n ≡ desk.current → ⊥) → Drained n m m' → b.live ≡ a.live → b.into ≡ n → HasAsked (n + 1) desk
    b m'
asked_drained n desk a b m m' h other is live into =
    subst (λ (z : SeatState). HasAsked (n + 1) desk b z)
    (sym is) known
  where
    known : HasAsked (n + 1) desk b
        (record m.0 { drained = n ∷ m.0.drained; asked = m.0.asked + 1 }, m.1)
    known =
        let one : length (n ∷ m.0.drained) ≡ length m.0.drained + 1 = omega arith in
        let k = h.knows in
        record {
          knows =
              record {
                holder = k.holder;
                some = k.some;
                few = k.few;
                current = k.current;
                there =
                    k.there;
                records = k.records;
                versions = k.versions;
              };
          before = λ l. let e = h.before (omega (arith, l)) in omega (arith, e, one);
          behind = λ l. let e = h.behind (omega (arith, l, other)) in omega (arith, e, one);
          fewer = h.fewer;
          room = ap (λ z. length z.items) live ∙ h.room;
          live = ap (λ z. z.items) live ∙ h.live;
          blocked = λ r within. let l = h.blocked r within in omega (arith, l);
          drained =
              λ r within. ⊎_elim
              (λ (e : r ≡ n). (omega (arith, e), λ (f : r ≡ desk.current). other (sym e ∙ f)))
              (λ (t : In r m.0.drained). let d = h.drained r t in let l =
              d.0 in (omega (arith, l), d.1)) (in_cases r n m.0.drained within);
          now = subst (λ z. In (version desk) z.items) (sym live) h.now;
          others = λ r l o out. subst (λ z. In (slice_index desk.versions r) z.items) (sym live)
              (h.others r (let not : (r ≡ n → ⊥) = λ e. out (in_first r n m.0.drained e) in
              omega (arith, l, not)) o (λ t. out (in_later r n m.0.drained t)));
          only = λ v i. ⊎_elim (λ e. inl e)
              (λ (t : (r : ℕ) × (r < n) × (In r m.0.drained → ⊥)
              × (v ≡ slice_index desk.versions r)).
              let l =
              t.1 in inr (
                t.0,
                omega (arith, l),
                (λ within. ⊎_elim (λ (e : t.0 ≡ n). absurd (omega (arith, l, e))) t.2
                    (in_cases t.0 n m.0.drained within)),
                t.3,
              ))
              (h.only v (subst (λ z. In v z.items) live i));
          found =
              λ r l o out. h.found r
              (let not : (r ≡ n → ⊥) = λ e. out (in_first r n m.0.drained e) in
              omega (arith, l, not)) o (λ t. out (in_later r n m.0.drained t));
          stood = h.stood;
          into = λ some. in_first b.into n m.0.drained into;
        }

-- a record is pinned, and its version live
pub asked_blocked : (n : ℕ) (desk : State) (a b : Asked) (m m' : SeatState) → HasAsked n desk a m
    → (n ≡ desk.current → ⊥) → Blocked (stored m.0.format) n m m'
    → b.live.items ≡ a.live.items ++ slice_index desk.versions n ∷ [] → b.into ≡ a.into
    → HasAsked (n + 1) desk b m'
asked_blocked n desk a b m m' h other is live into =
    subst (λ (z : SeatState). HasAsked (n + 1) desk b z)
    (sym is.is) known
  where
    known : HasAsked (n + 1) desk b (
      record m.0 {
        blocked = n ∷ m.0.blocked;
        found =
            m.0.found ++ slice_index m.0.desk.versions n ∷ [];
        asked = m.0.asked + 1;
      },
      m.1,
    )
    known =
        let one : length (n ∷ m.0.blocked) ≡ length m.0.blocked + 1 = omega arith in
        let longer : length b.live.items ≡ length a.live.items + 1 =
        ap (λ (z : List ℕ). length z) live ∙ length-snoc a.live.items
        (slice_index desk.versions n) in
        let k = h.knows in
        record {
          knows =
              record {
                holder = k.holder;
                some = k.some;
                few = k.few;
                current = k.current;
                there =
                    k.there;
                records = k.records;
                versions = k.versions;
              };
          before = λ l. let e = h.before (omega (arith, l)) in omega (arith, e, one);
          behind = λ l. let e = h.behind (omega (arith, l, other)) in omega (arith, e, one);
          fewer = let f = is.fewer in omega (arith, f, one);
          room = let r = h.room in omega (arith, longer, r, one);
          live = live ∙ ap (λ (z : List ℕ). z ++ slice_index desk.versions n ∷ []) h.live
              ∙ ap (λ (z : List ℕ). version desk ∷ (m.0.found ++ slice_index z n ∷ []))
              (sym k.versions);
          blocked = λ r within. ⊎_elim (λ (e : r ≡ n). omega (arith, e))
              (λ (t : In r m.0.blocked). let l = h.blocked r t in omega (arith, l))
              (in_cases r n m.0.blocked within);
          drained = λ r within. let d = h.drained r within in let l =
              d.0 in (omega (arith, l), d.1);
          now = subst (λ (z : List ℕ). In (version desk) z) (sym live)
              (in_front (version desk) a.live.items (slice_index desk.versions n ∷ []) h.now);
          others = λ r l o out. subst (λ (z : List ℕ). In (slice_index desk.versions r) z)
              (sym live) (go r l o out (eqb r n) refl);
          only = λ v i. ⊎_elim
              (λ old. ⊎_elim (λ e. inl e)
              (λ t. inr (t.0, (let l = t.1 in omega (arith, l)), t.2, t.3)) (h.only v old))
              (λ (last : In v (slice_index desk.versions n ∷ [])). inr (
                n,
                omega arith,
                (λ within. let l = (h.drained n within).0 in absurd (omega (arith, l))),
                one_row v
                    (slice_index desk.versions n) last,
              ))
              (in_either v a.live.items (slice_index desk.versions n ∷ [])
              (subst (λ (z : List ℕ). In v z) live i));
          found = λ r l o out. dite (ℕ_discrete r n) (λ e. in_first r n m.0.blocked e)
              (λ not. in_later r n m.0.blocked (h.found r (omega (arith, l, not)) o out));
          stood =
              λ r within. ⊎_elim
              (λ (e : r ≡ n). subst (λ (z : ℕ). StoodAtAsk z m.0) (sym e)
              (is.place, is.used, is.stands)) (λ (t : In r m.0.blocked). h.stood r t)
              (in_cases r n m.0.blocked within);
          into = λ some. subst (λ (z : ℕ). In z m.0.drained) (sym into) (h.into some);
        }
      where
        go : (r : ℕ) → r < n + 1 → (r ≡ desk.current → ⊥) → (In r m.0.drained → ⊥) → (t : Bool)
            → eqb r n ≡ t → In (slice_index desk.versions r)
            (a.live.items ++ slice_index desk.versions n ∷ [])
        go r l o out true e = let same : r ≡ n = grind (arith, nat_tests) in
            subst (λ (z : ℕ). In (slice_index desk.versions z)
            (a.live.items ++ slice_index desk.versions n ∷ [])) (sym same)
            (in_last (slice_index desk.versions n) a.live.items)
        go r l o out false e = in_front (slice_index desk.versions r) a.live.items
            (slice_index desk.versions n ∷ [])
            (h.others r (let not : (r ≡ n → ⊥) = λ same. (let yes = eq-eqb r n same in cc) in
            omega (arith, l, not)) o out)

-- when all are asked, one of them is drained
pub some_drained : (desk : State) (a : Asked) (m : SeatState) → HasAsked (m.0.passes + 2) desk a m
    → 0 < length m.0.drained
some_drained desk a m h = let there = h.knows.there in let e = h.behind there in let f =
    h.fewer in omega (arith, e, f)

-- a record is not asked twice
pub not_asked : (n : ℕ) (desk : State) (a : Asked) (m : SeatState) → HasAsked n desk a m
    → In n m.0.blocked → ⊥
not_asked n desk a m h within = let l = h.blocked n within in omega (arith, l)

-- each question is counted
pub asks_drained : (n : ℕ) (m m' : SeatState) → Drained n m m' → AsksEach m m'
asks_drained n m m' is = let a : m'.0.asked ≡ m.0.asked + 1 =
    ap (λ (z : SeatState). z.0.asked) is in
    let b : length m'.0.blocked ≡ length m.0.blocked = ap (λ (z : SeatState). length z.0.blocked) is
    in
    let d : length m'.0.drained ≡ length (n ∷ m.0.drained) =
    ap (λ (z : SeatState). length z.0.drained)
    is in omega (arith, a, b, d)

pub asks_blocked : (n : ℕ) (m m' : SeatState) → Blocked (stored m.0.format) n m m' → AsksEach m m'
asks_blocked n m m' is = let a : m'.0.asked ≡ m.0.asked + 1 =
    ap (λ (z : SeatState). z.0.asked) is.is in
    let b : length m'.0.blocked ≡ length (n ∷ m.0.blocked) =
    ap (λ (z : SeatState). length z.0.blocked) is.is in
    let d : length m'.0.drained ≡ length m.0.drained =
    ap (λ (z : SeatState). length z.0.drained) is.is
    in omega (arith, a, b, d)
