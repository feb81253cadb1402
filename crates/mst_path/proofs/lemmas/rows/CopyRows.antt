-- Rows that are copied: which are new and which old, and what is read of them.
use Rattle.mst_path.proofs.Names.{Format, ◌≡◌, ℕ, zero, suc, ◌+◌, ◌-◌, ◌<◌, ◌≤◌, Bool, true, eqb, List, [], ◌∷◌, ◌++◌, length, Option, Some, None, refl, sym, ◌∙◌, ap, subst, arith, inl, inr, IsTrue, IfSome, IsSome, slice_get, option_and_then, keyed_links, entry_pair, KeyedLinks, AllByRecursion, nat_tests, Content, State, next, In, times, bit, Row, Entry, Life, Born, Placed, used, link_of, HasRows, times-append, placed_frame, IsOut, KeepsBut, FreeIsBlank, FewRows, RowsAreWritable, IsAlive, IsOld, Moves, IsNew, OldPiece, own_rows, own, gaps_used, EachGap, PlacedEntry, entries_used, ahead, IsAhead, Going, NodeWriter, in_either}
use Rattle.mst_arena.specs.Row.{bare_links}
use Rattle.mst_arena.specs.declared.row.BareLinks.{BareLinks}
use Rattle.mst_arena.specs.Standing.{none as no_tree, head as tree_head}
use Rattle.mst_path.proofs.lemmas.rows.Moving.{not_in, out_of_times}

-- ---- rows and lists of rows

pub kept_at : (old new : Content) (rows : List ℕ) (r : ℕ) → KeepsBut rows old new → times r rows ≡ 0
    → new r ≡ old r
kept_at old new rows r keeps out = keeps r (out_of_times r rows out)

pub all_in : {P : ℕ → Type 0} (xs : List ℕ) → ((r : ℕ) → In r xs → P r) → AllByRecursion P xs
all_in [] each = tt
all_in (x ∷ xs) each =
    let here : bit (eqb x x) ≡ 1 = let e : eqb x x ≡ true = grind (arith, nat_tests) in ap bit e in
    (each x (omega arith), all_in xs (λ r is. each r (omega arith)))

-- a row of the version to come is of no older one
pub new_not_old : (s : State) (r : ℕ) → IsNew s r → IsOld s r → ⊥
new_not_old s r new old = let same : old.0 ≡ next s = let a =
    old.1 in cc in absurd (omega (arith, same, old.2))

pub new_alive : (s : State) (r : ℕ) → IsNew s r → IsAlive s r
new_alive s r is = (next s, is)

pub old_alive : (s : State) (r : ℕ) → IsOld s r → IsAlive s r
old_alive s r is = (is.0, is.1)

-- ---- pieces and runs stay

pub own-append : (xs ys : List PlacedEntry) → own (xs ++ ys) ≡ own xs ++ own ys
own-append [] ys = refl
own-append (x ∷ xs) ys = ap (λ (ns : List ℕ). x.at ∷ ns) (own-append xs ys)

pub own_frame : (old new : Content) (behind : ℕ) (es : List PlacedEntry)
    → ((r : ℕ) → In r (own es) → new r ≡ old r) → HasRows old (own_rows behind es)
    → HasRows new (own_rows behind es)
own_frame old new behind [] same has = tt
own_frame old new behind (e ∷ es) same has =
    let here : bit (eqb e.at e.at) ≡ 1 = let t : eqb e.at e.at ≡ true = grind (arith, nat_tests) in
    ap bit t in (
      same e.at (omega arith) ∙ has.0,
      own_frame old new behind es (λ r is. same r (omega arith))
          has.1,
    )

pub gaps_frame : (format : Format) (c d : Content) (s t : State) (es : List PlacedEntry)
    → ((r : ℕ) → In r (gaps_used es) → d r ≡ c r)
    → ((r : ℕ) → In r (gaps_used es) → IsOld s r → IsOld t r) → EachGap (OldPiece format c s) es
    → EachGap (OldPiece format d t) es
gaps_frame format c d s t [] same old each = tt
gaps_frame format c d s t (e ∷ es) same old each =
    let front : (r : ℕ) → In r (used e.child) → In r (gaps_used (e ∷ es)) =
    λ r is. omega (arith, is, times-append r (used e.child) (gaps_used es)) in
    let back : (r : ℕ) → In r (gaps_used es) → In r (gaps_used (e ∷ es)) =
    λ r is. omega (arith, is, times-append r (used e.child) (gaps_used es)) in (
      record {
        rows = placed_frame format c d e.child (all_in (used e.child) (λ r is. same r (front r is)))
            each.0.rows;
        old = λ r is. old r (front r is) (each.0.old r is);
      },
      gaps_frame format c d s t es (λ r is. same r (back r is)) (λ r is. old r (back r is)) each.1,
    )

-- the trees in gaps stand on old rows
pub gaps_old : (format : Format) (c : Content) (s : State) (x : ℕ) (es : List PlacedEntry)
    → EachGap (OldPiece format c s) es → In x (gaps_used es) → IsOld s x
gaps_old format c s x [] each i = absurd (omega arith)
gaps_old format c s x (y ∷ es) each i = elim (in_either x (used y.child) (gaps_used es) i) [
  | inl k ↦ each.0.old x k
  | inr k ↦ gaps_old format c s x es each.1 k
]

pub at_self : (x : ℕ) → bit (eqb x x) ≡ 1
at_self x = let e : eqb x x ≡ true = grind (arith, nat_tests) in ap bit e

-- ---- what stays possible

-- a link of a tree on rows of the desk
pub small_link : (s : State) (p : Placed) → ((r : ℕ) → In r (used p) → IsAlive s r)
    → FewRows s.lives → link_of p ≤ 65535
small_link s no_tree alive few = omega arith
small_link s (tree_head at layer chain) alive few =
    let here = alive at (omega (arith, at_self at)) in
    omega (arith, few, within s.lives at (Born here.0) here.1)
  where
    within : (lives : List Life) (k : ℕ) (x : Life) → slice_get lives k ≡ Some x → k < length lives
    within [] k x is = absurd cc
    within (l ∷ lives) zero x is = omega arith
    within (l ∷ lives) (suc k) x is = omega (arith, within lives k x is)

module _ (s s' : State) (t k : List ℕ) (m : Moves s s' t k) (blank : ℕ → Bool)
    (free : FreeIsBlank s.lives blank) where
  pub blank_free : FreeIsBlank s'.lives blank
  blank_free r is =
      let out_taken = not_in r t (λ i. let a = m.born r i in cc) in
      let out_killed = not_in r k (λ i. let a = (m.dies r i).3 in cc) in
      free r (sym (m.others r out_taken out_killed) ∙ is)

  pub blank_taken : (r : ℕ) → In r t → IsTrue (blank r)
  blank_taken r i = free r (m.free r i)

-- rows may still be taken and written
pub still_writable : (s s' : State) (t k : List ℕ) (blank blank' : ℕ → Bool) → Moves s s' t k
    → blank' ≡ blank → RowsAreWritable s.lives blank → RowsAreWritable s'.lives blank'
still_writable s s' t k blank blank' m same ready = record {
  few = omega (arith, ready.few, m.rows);
  free = subst (FreeIsBlank s'.lives) (sym same) (blank_free s s' t k m blank ready.free);
}

pub blank_ahead : {A : Type 0} (w : NodeWriter A) (blank : ℕ → Bool)
    → ((r : ℕ) → In r (ahead w.next) → IsTrue (blank r)) → IfSome w.next (λ r. IsTrue (blank r))
blank_ahead w blank each = go w.next each
  where
    go : (o : Option ℕ) → ((r : ℕ) → In r (ahead o) → IsTrue (blank r))
        → IfSome o (λ r. IsTrue (blank r))
    go None each = tt
    go (Some r) each = each r (omega (arith, at_self r))

-- ---- what is read of a row

pub links_there : (o : Option Row) (child nxt : ℕ) (key value : List ℕ)
    → o ≡ Some (Entry child nxt key value) → IsSome (option_and_then keyed_links o)
links_there o child nxt key value is =
    subst (λ (r : Option Row). IsSome (option_and_then keyed_links r)) (sym is) refl

pub pair_there : (o : Option Row) (child nxt : ℕ) (key value : List ℕ)
    → o ≡ Some (Entry child nxt key value) → option_and_then entry_pair o ≡ Some (key, value)
pair_there o child nxt key value is = ap (option_and_then entry_pair) is

pub links_are : (o : Option Row) (l : KeyedLinks) (child nxt : ℕ) (key value : List ℕ)
    → o ≡ Some (Entry child nxt key value) → option_and_then keyed_links o ≡ Some l
    → (l.child ≡ child) × (l.next ≡ nxt) × (l.key ≡ key)
links_are o l child nxt key value is read =
    let e : Some (record { child = child; next = nxt; key = key }) ≡ Some l =
    sym (ap (option_and_then keyed_links) is) ∙ read in
    let same : record { child = child; next = nxt; key = key } ≡ l = cc in (
      sym (ap (λ (x : KeyedLinks). x.child) same),
      sym (ap (λ (x : KeyedLinks). x.next) same),
      sym (ap (λ (x : KeyedLinks). x.key) same),
    )

pub ends_are : (o : Option Row) (l : BareLinks) (child nxt : ℕ) (key value : List ℕ)
    → o ≡ Some (Entry child nxt key value) → option_and_then bare_links o ≡ Some l
    → (l.child ≡ child) × (l.next ≡ nxt)
ends_are o l child nxt key value is read =
    let e : Some (record { child = child; next = nxt }) ≡ Some l =
    sym (ap (option_and_then bare_links) is) ∙ read in
    let same : record { child = child; next = nxt } ≡ l = cc in (
      sym (ap (λ (x : BareLinks). x.child) same),
      sym (ap (λ (x : BareLinks). x.next) same),
    )

-- ---- the row for the next entry

pub next_some : (o : Option ℕ) (left : ℕ) → IsAhead o left → 0 < left → (r : ℕ) × (o ≡ Some r)
next_some None left ahead some = absurd (omega (arith, ahead))
next_some (Some r) left ahead some = (r, refl)

pub one_ahead : (o : Option ℕ) → length (ahead o) ≤ 1
one_ahead None = omega arith
one_ahead (Some r) = omega arith

-- the new row is none of those that are written, nor of an old tree
pub row_out : {A : Type 0} (format : Format) (w : NodeWriter A) (c : Content) (s : State)
    (ws : List PlacedEntry)
    (p : Placed) (r : ℕ) → Going format w c s ws → w.next ≡ Some r
    → ((x : ℕ) → In x (used p) → IsOld s x) → IsOut r (entries_used ws ++ used p)
row_out format w c s ws p r going is old =
    let row : times r (ahead w.next) ≡ bit (eqb r r) + 0 = ap (λ (o : Option ℕ). times r (ahead o))
    is in
    let none : times r (used p) ≡ 0 =
    not_in r (used p) (λ i. new_not_old s r (going.new r (omega (arith, row, at_self r)))
    (old r i)) in
    out_of_times r (entries_used ws ++ used p)
    (omega (
      arith,
      times-append r (entries_used ws) (used p),
      going.once r,
      row,
      at_self r,
      none,
    ))
