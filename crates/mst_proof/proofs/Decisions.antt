-- Each test of a text decides what it asks.
use Rattle.mst_proof.proofs.Names.{Format, ◌≡◌, ℕ, Bool, true, false, ◌==◌, ◌<◌, cond, List, [], ◌∷◌, map, Option, Some, None, refl, ◌∙◌, ap, subst, IfSome, list_all, AllByRecursion, is_lt, is_gt, Less, IsBytes, Pair, key_cmp, above, below, IsAscending, less_from_greater, greater_from_less, FlatEntry, FlatNode, spelling, flat_pairs, IsFlatNode, IsBetween, ◌>>=◌, LiesWithin, Span, bind_ok, some_same, node_in, is_under, is_inside}
use Rattle.std.specs.Bool.{Decides}
use Rattle.std.proofs.lemmas.Bool.Decides.{Decides-and, Decides-eqb, Decides-ltb, same_from_decides}
use Rattle.mst_key.specs.Layer.{layer_in}
use Rattle.mst_key.proofs.KeyOrder.{greater_from_test}
use Rattle.mst_node.specs.Grammar.{KeysFit, InGrammar}
use Rattle.mst_node.specs.Reading.{node_at}
use Rattle.mst_node.proofs.ScannedEntries.{lt-Decides}
use Rattle.mst_node.proofs.GrammarIsRead.{read_in_grammar, grammar_read}
use Rattle.mst_proof.specs.Verdict.{are_rising, do_fit}

-- a test of each element decides what holds of each
pub all-Decides : {X : Type 0} (test : X → Bool) (P : X → Type 0)
    → ((x : X) → Decides (test x) (P x)) → (xs : List X) → Decides (list_all test xs)
    (AllByRecursion P xs)
all-Decides test P each [] = (λ e. tt, λ all. refl)
all-Decides test P each (x ∷ xs) = Decides-and (test x) (list_all test xs) (each x)
    (all-Decides test P each xs)

rising-Decides : (es : List FlatEntry) → Decides (are_rising (map (λ e. e.key) es))
    (IsAscending (flat_pairs es))
rising-Decides [] = (λ e. tt, λ all. refl)
rising-Decides (e ∷ es) =
    Decides-and (list_all (λ j. is_lt (key_cmp e.key j)) (map (λ e. e.key) es))
    (are_rising (map (λ e. e.key) es)) (above-Decides es) (rising-Decides es)
  where
    above-Decides : (xs : List FlatEntry)
        → Decides (list_all (λ j. is_lt (key_cmp e.key j)) (map (λ e. e.key) xs))
        (AllByRecursion (λ (p : Pair). key_cmp e.key p.0 ≡ Less) (flat_pairs xs))
    above-Decides [] = (λ e. tt, λ all. refl)
    above-Decides (x ∷ xs) = Decides-and (is_lt (key_cmp e.key x.key))
        (list_all (λ j. is_lt (key_cmp e.key j)) (map (λ e. e.key) xs))
        (lt-Decides (key_cmp e.key x.key)) (above-Decides xs)

pub fit-Decides : (n : FlatNode) → Decides (do_fit n) (KeysFit n)
fit-Decides n =
    let layers = all-Decides (λ (e : FlatEntry). layer_in n.format e.key == n.layer)
    (λ (e : FlatEntry). layer_in n.format e.key ≡ n.layer)
    (λ e. Decides-eqb (layer_in n.format e.key) n.layer) n.entries in
    let both =
    Decides-and (list_all (λ (e : FlatEntry). layer_in n.format e.key == n.layer) n.entries)
    (are_rising (map (λ e. e.key) n.entries)) layers (rising-Decides n.entries) in (
      λ e. let is = both.0 e in record { at_layer = is.0; rising = is.1 },
      λ fit. both.1
          (fit.at_layer, fit.rising),
    )

-- the flat node of a text in the grammar is the one that it spells
pub node_in-spelt : (format : Format) (text : List ℕ) (n : FlatNode) → node_in format text ≡ Some n
    → IsBytes text → (n.format ≡ format) × IsFlatNode n × (text ≡ spelling n)
node_in-spelt format text n h b =
    let read = bind_ok (node_at format text) _ n h in
    let fits = kept read.0 (do_fit read.0) refl read.2 in
    subst (λ (x : FlatNode). (x.format ≡ format) × IsFlatNode x × (text ≡ spelling x)) fits.0
    (read_in_grammar format text read.0 read.1 b ((fit-Decides read.0).0 fits.1))
  where
    kept : (x : FlatNode) (t : Bool) → do_fit x ≡ t → cond t (Some x) None ≡ Some n → (x ≡ n)
        × (do_fit x ≡ true)
    kept x true e k = (some_same x n k, e)
    kept x false e k = absurd (cc)

pub node_in-read : (format : Format) (text : List ℕ) (g : InGrammar format text)
    → node_in format text ≡ Some g.0
node_in-read format text g =
    let fits : do_fit g.0 ≡ true = (fit-Decides g.0).1 g.2.keys in
    ap (λ (r : Option FlatNode). r >>= λ n. cond (do_fit n) (Some n) None)
    (grammar_read format text g) ∙ ap (λ (t : Bool). cond t (Some g.0) None) fits

pub node_in-none : (format : Format) (text : List ℕ) → IsBytes text → (InGrammar format text → ⊥)
    → node_in format text ≡ None
node_in-none format text b not = go (node_in format text) refl
  where
    go : (r : Option FlatNode) → node_in format text ≡ r → r ≡ None
    go None e = refl
    go (Some n) e = let is = node_in-spelt format text n e b in absurd (not (n, is.0, is.1, is.2))

-- ---- the layer and the span

pub under-Decides : (upper : Option ℕ) (l : ℕ) → Decides (is_under upper l)
    (IfSome upper (λ u. l < u))
under-Decides None l = (λ e. tt, λ is. refl)
under-Decides (Some u) l = Decides-ltb l u

low-Decides : (low : Option (List ℕ)) (k : List ℕ) → Decides (above low k)
    (IfSome low (λ b. key_cmp b k ≡ Less))
low-Decides None k = (λ e. tt, λ is. refl)
low-Decides (Some b) k = (
  λ e. less_from_greater k b (greater_from_test k b e),
  λ less. ap is_gt
      (greater_from_less b k less),
)

high-Decides : (high : Option (List ℕ)) (k : List ℕ) → Decides (below high k)
    (IfSome high (λ b. key_cmp k b ≡ Less))
high-Decides None k = (λ e. tt, λ is. refl)
high-Decides (Some b) k = lt-Decides (key_cmp k b)

inside-Decides : (span : Span) (k : List ℕ) → Decides (is_inside span k)
    (IsBetween span.low span.high k)
inside-Decides span k =
    let both = Decides-and (above span.low k) (below span.high k) (low-Decides span.low k)
    (high-Decides span.high k) in (
      λ e. let is = both.0 e in record { above = is.0; below = is.1 },
      λ is. both.1
          (is.above, is.below),
    )

pub within-Decides : (span : Span) (n : FlatNode)
    → Decides (list_all (λ e. is_inside span e.key) n.entries) (LiesWithin span n)
within-Decides span n = all-Decides (λ (e : FlatEntry). is_inside span e.key)
    (λ (e : FlatEntry). IsBetween span.low span.high e.key) (λ e. inside-Decides span e.key)
    n.entries

pub keys_inside : (span : Span) (n : FlatNode) (r : Bool) → Decides r (LiesWithin span n)
    → list_all (λ e. is_inside span e.key) n.entries ≡ r
keys_inside span n r = same_from_decides (list_all (λ e. is_inside span e.key) n.entries) r
    (within-Decides span n)
