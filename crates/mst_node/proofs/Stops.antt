-- A search that goes over entries, and where it stops.
use Rattle.mst_node.proofs.Names.{◌≡◌, ℕ, zero, suc, ◌<◌, ◌≤◌, Bool, true, false, cond, List, [], ◌∷◌, Option, Some, None, refl, sym, ◌∙◌, ap, arith, not, IsSome, Decides, Ordering, Less, Equal, Greater, Format, IsKey, key_cmp, FlatEntry, ◌>>=◌, entry_at, Stopped, Passing, seen_stop, key_before, passing_from, stop_at, pass_at, fits_behind, scan_from, seen}
use Rattle.std.proofs.Common.{option_copied}
use Rattle.std.specs.Prelude.{IfNone}
use Rattle.std.proofs.lemmas.Bool.{false≢true}
use Rattle.mst_node.specs.Scan.{scan_at, Halts}
use Rattle.mst_node.specs.declared.finding.Coming.{Coming}
use Rattle.mst_node.specs.declared.finding.Stop.{Stop}
use Rattle.mst_key.proofs.KeyOrder.{greater_from_less, less_from_greater}
use Rattle.mst_node.proofs.ReadIsSpelled.{some_same}

before_key : (x : List ℕ) → IsKey x → key_before x ≡ Some x
before_key [] key = absurd (omega (arith, key.0))
before_key (b ∷ x) key = refl

abbrev pub passed_to : Option (List ℕ) → Option Stopped → Passing
passed_to last stop = record { last = last; stop = stop }

-- over an entry that the search goes over
pub passes_on : (k last : List ℕ) (stop : Option Stop) (e : FlatEntry) → IsKey e.key
    → IfNone stop (key_cmp e.key k ≡ Less)
    → passing_from e.key stop ≡ pass_at k (passing_from last stop) e
passes_on k last (Some s) e key on =
    ap (λ (o : Option (List ℕ)). passed_to o (Some (seen_stop s))) (before_key e.key key)
passes_on k last None e key on =
    ap (λ (o : Option (List ℕ)). passed_to o None) (before_key e.key key)
    ∙ ap (λ (r : Ordering). passed_to (Some e.key) (stop_at None (key_before last) e r))
    (sym (greater_from_less e.key k on))

-- to stop at the first entry to come changes nothing in what scanning gives
pub scan_stop : (format : Format) (l : ℕ) (k : List ℕ) (last : Option (List ℕ)) (s : Stopped)
    (n : ℕ) (bytes : List ℕ) (e : FlatEntry × List ℕ) → 0 < n → entry_at format bytes ≡ Some e
    → stop_at None last e.0 (key_cmp k e.0.key) ≡ Some s
    → scan_at format l k (passed_to last (Some s)) n bytes
    ≡ scan_at format l k (passed_to last None) n bytes
unfolding scan_at
scan_stop format l k last s zero bytes e some r stops = absurd (omega arith)
scan_stop format l k last s (suc n) bytes e some r stops =
    step (Some s)
    ∙ ap (λ (o : Option Stopped). cond (fits_behind format l last e.0.key)
    (scan_at format l k (passed_to (Some e.0.key) o) n e.1) None) (sym stops)
    ∙ sym (step None)
  where
    step : (o : Option Stopped) → scan_at format l k (passed_to last o) (suc n) bytes
        ≡ cond (fits_behind format l last e.0.key)
        (scan_at format l k (passed_to (Some e.0.key) (stop_at o last e.0 (key_cmp k e.0.key))) n
        e.1) None
    step o = ap (λ (q : Option (FlatEntry × List ℕ)). q >>= λ x. cond
        (fits_behind format l last x.0.key)
        (scan_at format l k (pass_at k (passed_to last o) x.0) n x.1) None) r

-- if the search has reached a key not below the sought one, it stops there
pub stops_at : (format : Format) (l : ℕ) (k : List ℕ) (c : Coming) (s : Stop) (below : Bool)
    (rest : List ℕ) → 0 < c.left → entry_at format c.rest.now ≡ Some (seen s.entry, rest)
    → Halts format k None c.rest.now → Decides below (key_cmp k (seen s.entry).key ≡ Less)
    → option_copied s.low ≡ key_before c.last.now → s.here ≡ not below
    → scan_from format l k (Some s) c ≡ scan_from format l k None c
stops_at format l k c s below rest some r halts less low here =
    scan_stop format l k (key_before c.last.now) (seen_stop s) c.left c.rest.now
    (seen s.entry, rest) some r (pick below (key_cmp k (seen s.entry).key) refl less here)
  where
    other : key_cmp (seen s.entry).key k ≡ Less → ⊥
    other e = halts.3
        (ap (λ (q : FlatEntry × List ℕ). key_cmp q.0.key k)
        (some_same (halts.0, halts.1) (seen s.entry, rest) (sym halts.2 ∙ r)) ∙ e)

    stopped : Option (List ℕ) → Bool → Option Stopped
    stopped o b = Some (record { low = o; entry = seen s.entry; here = b })

    pick : (b : Bool) (o : Ordering) → key_cmp k (seen s.entry).key ≡ o
        → Decides b (key_cmp k (seen s.entry).key ≡ Less) → s.here ≡ not b
        → stop_at None (key_before c.last.now) (seen s.entry) o ≡ Some (seen_stop s)
    pick true Less is d h = ap (λ (o : Option (List ℕ)). stopped o false) (sym low)
        ∙ ap (stopped (option_copied s.low)) (sym h)
    pick true Equal is d h = absurd (cc (is, d.0 refl))
    pick true Greater is d h = absurd (other (less_from_greater k (seen s.entry).key is))
    pick false Less is d h = absurd (cc (d.1 is))
    pick false Equal is d h = ap (λ (o : Option (List ℕ)). stopped o true) (sym low)
        ∙ ap (stopped (option_copied s.low)) (sym h)
    pick false Greater is d h = absurd (other (less_from_greater k (seen s.entry).key is))

-- a search that has stopped, or had nothing to come, has gone over all
pub ended : (format : Format) (k : List ℕ) (stop : Option Stop) (rest : List ℕ) (n m : ℕ) → m ≤ n
    → (0 < n → IsSome stop) → (0 < m → Halts format k stop rest) → m ≡ 0
ended format k stop rest n zero f s h = refl
ended format k None rest n (suc m) f s h = absurd (false≢true (s (omega (arith, f))))
ended format k (Some t) rest n (suc m) f s h = absurd (h (omega arith))
