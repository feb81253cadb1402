-- One reading of a node text says what reading it, testing its keys and searching it say.
use Rattle.mst_node.proofs.Names.{◌≡◌, ◌↔◌, ℕ, zero, suc, ◌<◌, ◌==◌, Bool, true, false, cond, List, [], ◌∷◌, length, Option, Some, None, refl, sym, ◌∙◌, ap, subst, arith, IfSome, option_map, w16, from_be_bytes, AllByRecursion, Ordering, Less, Equal, Greater, nat_tests, nat_list_cmp_total, Format, key_cmp, FlatEntry, FlatNode, format_byte, IsBetween, KeysFit, place_among, place_of, ◌>>=◌, child_at, entry_at, whole, node_of, Stopped, Passing, stop_at, pass_at, scan_at, by_order, KeyPlace, Found, Gap}
use Rattle.std.specs.Option.{option_or}
use Rattle.mst_node.specs.KeyPlace.{LiesWithin}
use Rattle.mst_node.specs.Reading.{entries_at, body_at, node_at}
use Rattle.mst_node.specs.Scan.{start, body_scan_at, text_scan_at, first_at, EndsLieIn, place_by}
use Rattle.mst_node.specs.declared.key_place.Span.{Span}
use Rattle.mst_node.proofs.FittingKeys.{FitsFrom, fits-all}
use Rattle.mst_node.proofs.EntryPlaces.{entries-count, none-some}
use Rattle.mst_node.proofs.ReadIsSpelled.{bind_ok, guard_ok, some_same}
use Rattle.mst_node.proofs.ScannedEntries.{passing, scan-read, read-scan}

-- ---- where the search ends

passing-stopped : (k : List ℕ) (p : Passing) (s : Stopped) (es : List FlatEntry) → p.stop ≡ Some s
    → (passing k p es).stop ≡ Some s
passing-stopped k p s [] h = h
passing-stopped k p s (e ∷ es) h =
    passing-stopped k (pass_at k p e) s es
    (ap (λ (o : Option Stopped). stop_at o p.last e (key_cmp k e.key)) h)

-- what the order to the next entry's key chooses
abbrev chosen : List ℕ → Option (List ℕ) → Span → FlatEntry → List FlatEntry → Option (List ℕ)
    → Ordering → KeyPlace
chosen k last span e es tail r =
    by_order r (Gap e.child (record { low = option_or last span.low; high = Some e.key }))
    (Found e.held) (place_among k (Some e.key) span.high es tail)

passing-place : (k : List ℕ) (p : Passing) (es : List FlatEntry) (span : Span)
    (tail : Option (List ℕ)) → p.stop ≡ None → place_by (passing k p es).stop (passing k p es).last
    span tail ≡ place_among k (option_or p.last span.low) span.high es tail
passing-place k p [] span tail none = ap (λ (o : Option Stopped). place_by o p.last span tail) none
passing-place k p (e ∷ es) span tail none =
    go (key_cmp k e.key) refl (passing-place k (pass_at k p e) es span tail)
  where
    step : (r : Ordering) → key_cmp k e.key ≡ r → (pass_at k p e).stop ≡ stop_at None p.last e r
    step r is = ap (λ (o : Option Stopped). stop_at o p.last e (key_cmp k e.key)) none
        ∙ ap (stop_at None p.last e) is

    go : (r : Ordering) → key_cmp k e.key ≡ r
        → ((pass_at k p e).stop ≡ None → place_by (passing k (pass_at k p e) es).stop
        (passing k (pass_at k p e) es).last span tail ≡ place_among k (Some e.key) span.high es
        tail) → place_by (passing k (pass_at k p e) es).stop (passing k (pass_at k p e) es).last
        span tail ≡ chosen k p.last span e es tail r
    go Less is next =
        ap (λ (o : Option Stopped). place_by o (passing k (pass_at k p e) es).last span tail)
        (passing-stopped k (pass_at k p e) (record { low = p.last; entry = e; here = false }) es
        (step Less is))
    go Equal is next =
        ap (λ (o : Option Stopped). place_by o (passing k (pass_at k p e) es).last span tail)
        (passing-stopped k (pass_at k p e) (record { low = p.last; entry = e; here = true }) es
        (step Equal is))
    go Greater is next = next (step Greater is)

-- ---- the last key

abbrev last_key : FlatEntry → List FlatEntry → List ℕ
last_key e [] = e.key
last_key e (f ∷ es) = last_key f es

passing-last : (k : List ℕ) (p : Passing) (e : FlatEntry) (es : List FlatEntry)
    → (passing k p (e ∷ es)).last ≡ Some (last_key e es)
passing-last k p e [] = refl
passing-last k p e (f ∷ es) = passing-last k (pass_at k p e) f es

-- ---- rising keys lie in a span if the first and the last one do

abbrev Above : List ℕ → List FlatEntry → Type 0
Above b es = AllByRecursion (λ x. key_cmp b x.key ≡ Less) es

abbrev Below : List ℕ → List FlatEntry → Type 0
Below b es = AllByRecursion (λ x. key_cmp x.key b ≡ Less) es

all-above : (format : Format) (b : List ℕ) (l : ℕ) (e : FlatEntry) (es : List FlatEntry)
    → FitsFrom format (Some e.key) l es → key_cmp b e.key ≡ Less → Above b (e ∷ es)
all-above format b l e [] fits less = (less, tt)
all-above format b l e (f ∷ es) fits less =
    (less, all-above format b l f es fits.2 ((nat_list_cmp_total).trans b e.key f.key less fits.1))

all-below : (format : Format) (b : List ℕ) (l : ℕ) (e : FlatEntry) (es : List FlatEntry)
    → FitsFrom format (Some e.key) l es → key_cmp (last_key e es) b ≡ Less → Below b (e ∷ es)
all-below format b l e [] fits less = (less, tt)
all-below format b l e (f ∷ es) fits less =
    let rest = all-below format b l f es fits.2 less in
    ((nat_list_cmp_total).trans e.key f.key b fits.1 rest.0, rest)

last-below : (b : List ℕ) (e : FlatEntry) (es : List FlatEntry) → Below b (e ∷ es)
    → key_cmp (last_key e es) b ≡ Less
last-below b e [] all = all.0
last-below b e (f ∷ es) all = last-below b f es all.1

abbrev Between : Option (List ℕ) → Option (List ℕ) → List FlatEntry → Type 0
Between low high es = AllByRecursion (λ x. IsBetween low high x.key) es

between-both : (low high : Option (List ℕ)) (es : List FlatEntry) → IfSome low (λ b. Above b es)
    → IfSome high (λ b. Below b es) → Between low high es
between-both low high [] a b = tt
between-both None None (e ∷ es) a b =
    (record { above = tt; below = tt }, between-both None None es tt tt)
between-both (Some x) None (e ∷ es) a b =
    (record { above = a.0; below = tt }, between-both (Some x) None es a.1 tt)
between-both None (Some y) (e ∷ es) a b =
    (record { above = tt; below = b.0 }, between-both None (Some y) es tt b.1)
between-both (Some x) (Some y) (e ∷ es) a b =
    (record { above = a.0; below = b.0 }, between-both (Some x) (Some y) es a.1 b.1)

between-low : (low high : Option (List ℕ)) (es : List FlatEntry) → Between low high es
    → IfSome high (λ b. Below b es)
between-low low None es all = tt
between-low low (Some b) [] all = tt
between-low low (Some b) (e ∷ es) all = (all.0.below, between-low low (Some b) es all.1)

low-all : (format : Format) (low : Option (List ℕ)) (l : ℕ) (e : FlatEntry) (es : List FlatEntry)
    → FitsFrom format (Some e.key) l es → IfSome low (λ b. key_cmp b e.key ≡ Less)
    → IfSome low (λ b. Above b (e ∷ es))
low-all format None l e es fits less = tt
low-all format (Some b) l e es fits less = all-above format b l e es fits less

high-all : (format : Format) (high : Option (List ℕ)) (l : ℕ) (e : FlatEntry) (es : List FlatEntry)
    → FitsFrom format (Some e.key) l es → IfSome high (λ b. key_cmp (last_key e es) b ≡ Less)
    → IfSome high (λ b. Below b (e ∷ es))
high-all format None l e es fits less = tt
high-all format (Some b) l e es fits less = all-below format b l e es fits less

high-last : (high : Option (List ℕ)) (e : FlatEntry) (es : List FlatEntry)
    → IfSome high (λ b. Below b (e ∷ es)) → IfSome high (λ b. key_cmp (last_key e es) b ≡ Less)
high-last None e es all = tt
high-last (Some b) e es all = last-below b e es all

ends-within : (format : Format) (k : List ℕ) (span : Span) (l : ℕ) (e : FlatEntry)
    (es : List FlatEntry) → FitsFrom format None l (e ∷ es)
    → EndsLieIn span (Some e.key) (passing k start (e ∷ es)) ↔ Between span.low span.high (e ∷ es)
ends-within format k span l e es fits =
    let last = passing-last k start e es in
    let B : Option (List ℕ) → Type 0 =
    λ o. IfSome o (λ j. IfSome span.high (λ b. key_cmp j b ≡ Less)) in (
      λ ends. between-both span.low span.high (e ∷ es)
          (low-all format span.low l e es fits.2 ends.above)
          (high-all format span.high l e es fits.2 (subst B last ends.below)),
      λ all. record {
        above = all.0.above;
        below =
            subst B (sym last)
            (high-last span.high e es (between-low span.low span.high (e ∷ es) all));
      },
    )

-- ---- the whole text

-- what was scanned is a node with keys that fit, and what it says of the key
pub record Scanned (format : Format) (k text : List ℕ)
    (x : ℕ × Option (List ℕ) × Passing × Option (List ℕ)) : Type 0
  where
    pub node : FlatNode
    pub read : node_at format text ≡ Some node
    pub fit : KeysFit node
    pub layer : x.0 ≡ node.layer
    pub within : (span : Span) → EndsLieIn span x.1 x.2 ↔ LiesWithin span node
    pub place : (span : Span) → place_by x.2.stop x.2.last span x.3 ≡ place_of k span node

-- the key of the first entry, as a list has it
abbrev head_key : List FlatEntry → Option (List ℕ)
head_key [] = None
head_key (e ∷ es) = Some e.key

first-read : (format : Format) (n : ℕ) (bytes : List ℕ) (r : List FlatEntry × List ℕ) → 0 < n
    → entries_at format n bytes ≡ Some r → first_at format bytes ≡ head_key r.0
unfolding entries_at
first-read format zero bytes r some h = absurd (omega (arith, some))
first-read format (suc n) bytes r some h =
    let e = bind_ok (entry_at format bytes) _ r h in
    let more = bind_ok (entries_at format n e.0.1) _ r e.2 in
    let same : (e.0.0 ∷ more.0.0, more.0.1) ≡ r = some_same _ r more.2 in
    ap (λ (o : Option (FlatEntry × List ℕ)). option_map (λ x. x.0.key) o) e.1
    ∙ ap (λ (q : List FlatEntry × List ℕ). head_key q.0) same

-- what a body that was scanned has
pub record BodyRead (format : Format) (l : ℕ) (k : List ℕ) (n : ℕ) (bytes : List ℕ)
    (b : Passing × Option (List ℕ)) : Type 0 where
  pub entries : List FlatEntry
  pub read : body_at format n bytes ≡ Some (entries, b.1)
  pub fits : FitsFrom format None l entries
  pub passed : b.0 ≡ passing k start entries
  pub count : length entries ≡ n
  pub first : 0 < n → first_at format bytes ≡ head_key entries

body-read : (format : Format) (l : ℕ) (k : List ℕ) (n : ℕ) (bytes : List ℕ)
    (b : Passing × Option (List ℕ)) → body_scan_at format l k n bytes ≡ Some b
    → BodyRead format l k n bytes b
unfolding body_scan_at body_at
body-read format l k n bytes b h =
    let p = bind_ok (scan_at format l k start n bytes) _ b h in
    let r = scan-read format l k start n bytes p.0 p.1 in
    let t = bind_ok (child_at p.0.1) _ b p.2 in
    go p.0.0 p.0.1 r.0 r.1 r.2 r.3 t.0.0 t.0.1 t.1 t.2
  where
    go : (p : Passing) (rest : List ℕ) (es : List FlatEntry) → entries_at format n bytes ≡ Some
        (es, rest) → FitsFrom format None l es → p ≡ passing k start es → (tail : Option (List ℕ))
        (left : List ℕ) → child_at rest ≡ Some (tail, left) → whole ((p, tail), left) ≡ Some b
        → BodyRead format l k n bytes b
    go p rest es h fits is tail (x ∷ left) c e = absurd (cc)
    go p rest es h fits is tail [] c e =
        let same = some_same (p, tail) b e in
        let read : body_at format n bytes ≡ Some (es, tail) =
        ap (λ (q : Option (List FlatEntry × List ℕ)). q >>= λ x. child_at x.1 >>= λ t. whole
        ((x.0, t.0), t.1)) h
        ∙ ap (λ (q : Option (Option (List ℕ) × List ℕ)). q >>= λ t. whole ((es, t.0), t.1)) c in
        record {
          entries = es;
          read = read ∙ ap (λ (q : Passing × Option (List ℕ)). Some (es, q.1)) same;
          fits = fits;
          passed = ap (λ (q : Passing × Option (List ℕ)). q.0) (sym same) ∙ is;
          count = entries-count format n bytes (es, rest) h;
          first = λ some. first-read format n bytes (es, rest) some h;
        }

body-scan : (format : Format) (l : ℕ) (k : List ℕ) (n : ℕ) (bytes : List ℕ)
    (b : List FlatEntry × Option (List ℕ)) → body_at format n bytes ≡ Some b → FitsFrom format None
    l b.0 → body_scan_at format l k n bytes ≡ Some (passing k start b.0, b.1)
unfolding body_scan_at body_at
body-scan format l k n bytes b h fits =
    let r = bind_ok (entries_at format n bytes) _ b h in
    let t = bind_ok (child_at r.0.1) _ b r.2 in
    go r.0.0 r.0.1 r.1 t.0.0 t.0.1 t.1 t.2
  where
    go : (es : List FlatEntry) (rest : List ℕ) → entries_at format n bytes ≡ Some (es, rest)
        → (tail : Option (List ℕ)) (left : List ℕ) → child_at rest ≡ Some (tail, left)
        → whole ((es, tail), left) ≡ Some b → body_scan_at format l k n bytes ≡ Some
        (passing k start b.0, b.1)
    go es rest h tail (x ∷ left) c e = absurd (cc)
    go es rest h tail [] c e =
        let same = some_same (es, tail) b e in
        let here = subst (λ (q : List FlatEntry × Option (List ℕ)). FitsFrom format None l q.0)
        (sym same) fits in
        ap (λ (q : Option (Passing × List ℕ)). q >>= λ x. child_at x.1 >>= λ t. whole
        ((x.0, t.0), t.1)) (read-scan format l k start n bytes (es, rest) h here)
        ∙ ap (λ (q : Option (Option (List ℕ) × List ℕ)). q >>= λ t. whole
        ((passing k start es, t.0), t.1)) c
        ∙ ap (λ (q : List FlatEntry × Option (List ℕ)). Some (passing k start q.0, q.1)) same

scanned_of : (format : Format) (k text : List ℕ) (l : ℕ) (first : Option (List ℕ))
    (b : Passing × Option (List ℕ)) (es : List FlatEntry)
    → node_at format text ≡ Some (node_of format l (es, b.1)) → FitsFrom format None l es
    → b.0 ≡ passing k start es → first ≡ head_key es → 0 < length es
    → Scanned format k text (l, first, b.0, b.1)
scanned_of format k text l first b [] read fits is head some = absurd (omega arith)
scanned_of format k text l first b (e ∷ es) read fits is head some =
    record {
      node = node_of format l (e ∷ es, b.1);
      read = read;
      fit = (fits-all format l (e ∷ es, b.1)).1 fits;
      layer = refl;
      within =
          λ span. subst (λ (o : Option (List ℕ)). EndsLieIn span o b.0
          ↔ Between span.low span.high (e ∷ es)) (sym head)
          (subst (λ (p : Passing). EndsLieIn span (Some e.key) p
          ↔ Between span.low span.high (e ∷ es)) (sym is) (ends-within format k span l e es fits));
      place = λ span. ap (λ (p : Passing). place_by p.stop p.last span b.1) is
          ∙ passing-place k start (e ∷ es) span b.1 refl;
    }

pub text-scanned : (format : Format) (k text : List ℕ)
    (x : ℕ × Option (List ℕ) × Passing × Option (List ℕ))
    → text_scan_at format k text ≡ Some x → Scanned format k text x
unfolding text_scan_at node_at
text-scanned format k [] x h = absurd (cc)
text-scanned format k (v ∷ []) x h = absurd (cc)
text-scanned format k (v ∷ l ∷ []) x h = absurd (cc)
text-scanned format k (v ∷ l ∷ g ∷ []) x h = absurd (cc)
text-scanned format k (v ∷ l ∷ g ∷ c ∷ bytes) x h = go (v == format_byte format) refl h
  where
    go : (u : Bool) → (v == format_byte format) ≡ u
        → cond u (cond (from_be_bytes w16 (g ∷ c ∷ []) == 0) None
        (body_scan_at format l k (from_be_bytes w16 (g ∷ c ∷ [])) bytes >>= λ b. Some
        (l, first_at format bytes, b.0, b.1))) None ≡ Some x → Scanned format k
        (v ∷ l ∷ g ∷ c ∷ bytes) x
    go false e h = absurd (cc)
    go true e h =
        let count = from_be_bytes w16 (g ∷ c ∷ []) in
        let some =
        guard_ok (count == 0)
        (body_scan_at format l k count bytes >>= λ b. Some (l, first_at format bytes, b.0, b.1))
        x h in
        let b = bind_ok (body_scan_at format l k count bytes)
        (λ b. Some (l, first_at format bytes, b.0, b.1)) x some.1 in
        let r = body-read format l k count bytes b.0 b.1 in
        let more : 0 < count = grind (arith, nat_tests, some.0) in
        let read : node_at format (v ∷ l ∷ g ∷ c ∷ bytes) ≡ Some
        (node_of format l (r.entries, b.0.1)) =
        ap (λ (t : Bool). cond t
        (cond (count == 0) None (body_at format count bytes >>= λ y. Some (node_of format l y)))
        None) e
        ∙ ap (λ (t : Bool). cond t None
        (body_at format count bytes >>= λ y. Some (node_of format l y))) some.0
        ∙ ap (λ (o : Option (List FlatEntry × Option (List ℕ))). o >>= λ y. Some
        (node_of format l y)) r.read in
        subst (Scanned format k (v ∷ l ∷ g ∷ c ∷ bytes))
        (some_same (l, first_at format bytes, b.0.0, b.0.1) x b.2)
        (scanned_of format k (v ∷ l ∷ g ∷ c ∷ bytes) l (first_at format bytes) b.0 r.entries read
        r.fits r.passed (r.first more) (omega (arith, more, r.count)))

-- a node with keys that fit is scanned
pub node-scanned : (format : Format) (k text : List ℕ) (n : FlatNode) → node_at format text ≡ Some n
    → KeysFit n → text_scan_at format k text ≡ None → ⊥
unfolding text_scan_at node_at
node-scanned format k [] n h fit none = absurd (cc)
node-scanned format k (v ∷ []) n h fit none = absurd (cc)
node-scanned format k (v ∷ l ∷ []) n h fit none = absurd (cc)
node-scanned format k (v ∷ l ∷ g ∷ []) n h fit none = absurd (cc)
node-scanned format k (v ∷ l ∷ g ∷ c ∷ bytes) n h fit none =
    go (v == format_byte format) refl h none
  where
    go : (u : Bool) → (v == format_byte format) ≡ u
        → cond u (cond (from_be_bytes w16 (g ∷ c ∷ []) == 0) None
        (body_at format (from_be_bytes w16 (g ∷ c ∷ [])) bytes >>= λ y. Some (node_of format l y)))
        None ≡ Some n → cond {A = Option (ℕ × Option (List ℕ) × Passing × Option (List ℕ))} u
        (cond {A = Option (ℕ × Option (List ℕ) × Passing × Option (List ℕ))}
        (from_be_bytes w16 (g ∷ c ∷ []) == 0)
        None (body_scan_at format l k (from_be_bytes w16 (g ∷ c ∷ [])) bytes >>= λ b. Some
        (l, first_at format bytes, b.0, b.1))) None ≡ None → ⊥
    go false e h none = absurd (cc)
    go true e h none =
        let count = from_be_bytes w16 (g ∷ c ∷ []) in
        let some =
        guard_ok (count == 0) (body_at format count bytes >>= λ y. Some (node_of format l y)) n
        h in
        let b = bind_ok (body_at format count bytes) (λ y. Some (node_of format l y)) n some.1 in
        let fits =
        (fits-all format l b.0).0
        (subst KeysFit (sym (some_same (node_of format l b.0) n b.2)) fit) in
        let scan = body-scan format l k count bytes b.0 b.1 fits in
        let scanned : cond {A = Option (ℕ × Option (List ℕ) × Passing × Option (List ℕ))}
        (count == 0) None
        (body_scan_at format l k count bytes >>= λ y. Some (l, first_at format bytes, y.0, y.1))
        ≡ Some
        (l, first_at format bytes, passing k start b.0.0, b.0.1) =
        ap (λ (t : Bool). cond t None
        (body_scan_at format l k count bytes >>= λ y. Some (l, first_at format bytes, y.0, y.1)))
        some.0
        ∙ ap (λ (o : Option (Passing × Option (List ℕ))). o >>= λ y. Some
        (l, first_at format bytes, y.0, y.1)) scan in
        none-some _ _ none scanned
