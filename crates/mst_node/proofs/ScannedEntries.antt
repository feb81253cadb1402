-- Entries whose keys fit, scanned one after another.
use Rattle.mst_node.proofs.Names.{◌≡◌, ℕ, zero, suc, ◌<◌, ◌==◌, Bool, true, false, cond, List, [], ◌∷◌, Option, Some, None, refl, sym, ◌∙◌, ap, subst, arith, IfSome, Decides, Ordering, Less, Equal, Greater, Format, layer_in, key_cmp, FlatEntry, ◌>>=◌, entry_at, Passing, pass_at, fits_behind}
use Rattle.std.specs.Option.{option_map_or}
use Rattle.std.specs.Ordering.{is_lt}
use Rattle.std.proofs.lemmas.Bool.Decides.{Decides-and, Decides-eqb}
use Rattle.mst_node.specs.Reading.{entries_at}
use Rattle.mst_node.specs.Scan.{scan_at}
use Rattle.mst_node.proofs.FittingKeys.{FitsFrom}
use Rattle.mst_node.proofs.ReadIsSpelled.{bind_ok, some_same}

-- ---- keys that fit

pub lt-Decides : (r : Ordering) → Decides (is_lt r) (r ≡ Less)
lt-Decides Less = (λ e. refl, λ e. refl)
lt-Decides Equal = (λ e. absurd (cc), λ e. ap is_lt e)
lt-Decides Greater = (λ e. absurd (cc), λ e. ap is_lt e)

last-Decides : (last : Option (List ℕ)) (k : List ℕ)
    → Decides (option_map_or (λ b. is_lt (key_cmp b k)) last true)
    (IfSome last (λ b. key_cmp b k ≡ Less))
last-Decides None k = (λ e. tt, λ is. refl)
last-Decides (Some b) k = lt-Decides (key_cmp b k)

pub behind-Decides : (format : Format) (l : ℕ) (last : Option (List ℕ)) (k : List ℕ)
    → Decides (fits_behind format l last k)
    ((layer_in format k ≡ l) × IfSome last (λ b. key_cmp b k ≡ Less))
behind-Decides format l last k =
    Decides-and (layer_in format k == l) (option_map_or (λ b. is_lt (key_cmp b k)) last true)
    (Decides-eqb (layer_in format k) l) (last-Decides last k)

fits_ok : {A : Type 0} (b : Bool) (r : Option A) (y : A) → cond b r None ≡ Some y → (b ≡ true)
    × (r ≡ Some y)
fits_ok true r y h = (refl, h)
fits_ok false r y h = absurd (cc)

-- ---- entries passed one after another

abbrev pub passing : List ℕ → Passing → List FlatEntry → Passing
passing k p [] = p
passing k p (e ∷ es) = passing k (pass_at k p e) es

-- what is scanned was read, and its keys fit
pub scan-read : (format : Format) (l : ℕ) (k : List ℕ) (p : Passing) (n : ℕ) (bytes : List ℕ)
    (r : Passing × List ℕ) → scan_at format l k p n bytes ≡ Some r → (es : List FlatEntry)
    × (entries_at format n bytes ≡ Some (es, r.1)) × FitsFrom format p.last l es
    × (r.0 ≡ passing k p es)
unfolding scan_at entries_at
scan-read format l k p zero bytes r h =
    let same = some_same (p, bytes) r h in (
      [],
      ap (λ (q : Passing × List ℕ). Some ([], q.1)) same,
      tt,
      ap (λ (q : Passing × List ℕ). q.0)
          (sym same),
    )
scan-read format l k p (suc n) bytes r h =
    let e = bind_ok (entry_at format bytes) _ r h in
    let fit = fits_ok (fits_behind format l p.last e.0.0.key)
    (scan_at format l k (pass_at k p e.0.0) n e.0.1) r e.2 in
    let rest = scan-read format l k (pass_at k p e.0.0) n e.0.1 r fit.1 in
    let fits = (behind-Decides format l p.last e.0.0.key).0 fit.0 in
    let read : entries_at format (suc n) bytes ≡ Some (e.0.0 ∷ rest.0, r.1) =
    ap (λ (q : Option (FlatEntry × List ℕ)). q >>= λ x. entries_at format n x.1 >>= λ es. Some
    (x.0 ∷ es.0, es.1)) e.1
    ∙ ap (λ (q : Option (List FlatEntry × List ℕ)). q >>= λ es. Some (e.0.0 ∷ es.0, es.1)) rest.1 in
    (e.0.0 ∷ rest.0, read, (fits.0, fits.1, rest.2), rest.3)

-- what is read with keys that fit is scanned
pub read-scan : (format : Format) (l : ℕ) (k : List ℕ) (p : Passing) (n : ℕ) (bytes : List ℕ)
    (r : List FlatEntry × List ℕ) → entries_at format n bytes ≡ Some r → FitsFrom format p.last l
    r.0 → scan_at format l k p n bytes ≡ Some (passing k p r.0, r.1)
unfolding scan_at entries_at
read-scan format l k p zero bytes r h fits =
    ap (λ (q : List FlatEntry × List ℕ). Some (passing k p q.0, q.1)) (some_same ([], bytes) r h)
read-scan format l k p (suc n) bytes r h fits =
    let e = bind_ok (entry_at format bytes) _ r h in
    let more = bind_ok (entries_at format n e.0.1) _ r e.2 in
    let same : (e.0.0 ∷ more.0.0, more.0.1) ≡ r = some_same _ r more.2 in
    let here : FitsFrom format p.last l (e.0.0 ∷ more.0.0) =
    subst (λ (q : List FlatEntry × List ℕ). FitsFrom format p.last l q.0) (sym same) fits in
    let test : fits_behind format l p.last e.0.0.key ≡ true =
    (behind-Decides format l p.last e.0.0.key).1 (here.0, here.1) in
    let rest = read-scan format l k (pass_at k p e.0.0) n e.0.1 more.0 more.1 here.2 in
    ap (λ (q : Option (FlatEntry × List ℕ)). q >>= λ x. cond (fits_behind format l p.last x.0.key)
    (scan_at format l k (pass_at k p x.0) n x.1) None) e.1
    ∙ ap (λ (t : Bool). cond t (scan_at format l k (pass_at k p e.0.0) n e.0.1) None) test
    ∙ rest
    ∙ ap (λ (q : List FlatEntry × List ℕ). Some (passing k p q.0, q.1)) same

-- one more entry of a scan
pub scan_more : (format : Format) (l : ℕ) (k : List ℕ) (p q : Passing) (n m : ℕ) (bytes : List ℕ)
    (e : FlatEntry × List ℕ) → n ≡ suc m → entry_at format bytes ≡ Some e → fits_behind format l
    p.last e.0.key ≡ true → q ≡ pass_at k p e.0 → scan_at format l k q m e.1 ≡ scan_at format l k p
    n bytes
unfolding scan_at
scan_more format l k p q zero m bytes e h r fits is = absurd (omega (arith, h))
scan_more format l k p q (suc n) m bytes e h r fits is =
    let same : m ≡ n = omega (arith, h) in
    ap (λ (j : ℕ). scan_at format l k q j e.1) same
    ∙ ap (λ (s : Passing). scan_at format l k s n e.1) is
    ∙ sym (ap (λ (t : Bool). cond t (scan_at format l k (pass_at k p e.0) n e.1) None) fits)
    ∙ sym (ap (λ (o : Option (FlatEntry × List ℕ)). o >>= λ x. cond
    (fits_behind format l p.last x.0.key) (scan_at format l k (pass_at k p x.0) n x.1) None) r)

-- a scan ends at an entry that is not read, or does not fit
pub scan_unread : (format : Format) (l : ℕ) (k : List ℕ) (p : Passing) (n : ℕ) (bytes : List ℕ)
    → 0 < n → entry_at format bytes ≡ None → scan_at format l k p n bytes ≡ None
unfolding scan_at
scan_unread format l k p zero bytes some r = absurd (omega arith)
scan_unread format l k p (suc n) bytes some r =
    ap (λ (o : Option (FlatEntry × List ℕ)). o >>= λ x. cond (fits_behind format l p.last x.0.key)
    (scan_at format l k (pass_at k p x.0) n x.1) None) r

pub scan_unfit : (format : Format) (l : ℕ) (k : List ℕ) (p : Passing) (n : ℕ) (bytes : List ℕ)
    (e : FlatEntry × List ℕ) → 0 < n → entry_at format bytes ≡ Some e → fits_behind format l p.last
    e.0.key ≡ false → scan_at format l k p n bytes ≡ None
unfolding scan_at
scan_unfit format l k p zero bytes e some r fits = absurd (omega arith)
scan_unfit format l k p (suc n) bytes e some r fits =
    ap (λ (o : Option (FlatEntry × List ℕ)). o >>= λ x. cond (fits_behind format l p.last x.0.key)
    (scan_at format l k (pass_at k p x.0) n x.1) None) r
    ∙ ap (λ (t : Bool). cond t (scan_at format l k (pass_at k p e.0) n e.1) None) fits

pub scan_end : (format : Format) (l : ℕ) (k : List ℕ) (p : Passing) (n : ℕ) (bytes : List ℕ) → n ≡ 0
    → scan_at format l k p n bytes ≡ Some (p, bytes)
unfolding scan_at
scan_end format l k p zero bytes none = refl
scan_end format l k p (suc n) bytes none = absurd (omega (arith, none))
