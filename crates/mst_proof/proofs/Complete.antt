-- The texts of a key's trail lead to the map's answer.
use Rattle.mst_proof.proofs.Names.{◌≡◌, ℕ, zero, suc, ◌<◌, ◌≤◌, List, [], ◌∷◌, map, Option, Some, None, inl, inr, refl, sym, ap, subst, arith, IfSome, AllByRecursion, Format, less_chain, Tree, empty, node, Entries, last, entry, pairs, entries_pairs, IsUnder, FlatEntry, child_digest, flat_entries, flat, text, digest, IsBetween, LiesBetween, EntriesLieBetween, nodes_met, met_in_gap, KeyPlace, Gap, Span, some_same, flat_is, Expected, Step, step_of, held_answer, looked, IsSmall}
use Rattle.mst_proof.proofs.Stepwise.{IsExpected, Says, Leads}
use Rattle.mst_proof.proofs.Framed.{AllBytes}
use Rattle.mst_proof.proofs.Agreed.{Spells}
use Rattle.mst_proof.proofs.Falls.{place, falls}
use Rattle.mst_proof.proofs.Sound.{small_child}

-- ---- the keys of a node lie in its span

-- what lies above a key that lies above a bound lies above the bound
between_lower : (low high : Option (List ℕ)) (key j : List ℕ) → IsBetween low high key
    → IsBetween (Some key) high j → IsBetween low high j
between_lower None high key j here there = record { above = tt; below = there.below }
between_lower (Some b) high key j here there =
    record { above = less_chain b key j here.above there.above; below = there.below }

all_lower : (low high : Option (List ℕ)) (key : List ℕ) (es : List FlatEntry)
    → IsBetween low high key → AllByRecursion (λ e. IsBetween (Some key) high e.key) es
    → AllByRecursion (λ e. IsBetween low high e.key) es
all_lower low high key [] here all = tt
all_lower low high key (e ∷ es) here all =
    (between_lower low high key e.key here all.0, all_lower low high key es here all.1)

keys_within : (format : Format) (low high : Option (List ℕ)) (es : Entries) → EntriesLieBetween low
    high es → AllByRecursion (λ e. IsBetween low high e.key) (flat_entries format es)
keys_within format low high (last child) lie = tt
keys_within format low high (entry child key value rest) lie = (
  lie.0,
  all_lower low high key (flat_entries format rest) lie.0
      (keys_within format (Some key) high rest lie.2),
)

-- ---- from the top down

-- what is expected of a tree's top node
pub record Expects (x : Expected) (t : Tree) : Type 0 where
  pub digest : Some x.digest ≡ child_digest t
  pub under : IfSome x.upper (λ u. IsUnder u t)
  pub lies : LiesBetween x.span.low x.span.high t

-- the texts of a list of nodes lead on from a step to the answer
abbrev Continues : (format : Format) → List ℕ → Step → List Tree → Option (List ℕ) → Type 0
Continues format k s us a = Spells format (map text us) (λ ns. Says s ns a (λ y. Leads k y ns a))

abbrev Answer : (format : Format) → List ℕ → Expected → Tree → Type 0
Answer format k x t = Spells format (map text (nodes_met k t))
    (λ ns. Leads k x ns (looked format (pairs t) k))

-- what holds of each tree below a layer
abbrev Below : (format : Format) → ℕ → List ℕ → Type 0
Below format n k = (y : Expected) (c : Tree) → IsUnder n c → IsSmall format c → Expects y c
    → AllBytes (map text (nodes_met k c)) → Answer format k y c

child_leads : (format : Format) (n l : ℕ) (k : List ℕ) (c : Tree) (span : Span) → Below format n k
    → l ≤ n → IsUnder l c → IsSmall format c → LiesBetween span.low span.high c
    → AllBytes (map text (nodes_met k c)) → Continues format k
    (step_of l (Gap (child_digest c) span)) (nodes_met k c) (looked format (pairs c) k)
child_leads format n l k empty span next few under small lies b =
    record { nodes = []; flat = tt; texts = refl; leads = (refl, refl) }
child_leads format n l k (node g m fs) span next few under small lies b =
    let low : m < n = omega (arith, under, few) in
    next _ (node g m fs) low small (record { digest = refl; under = under; lies = lies }) b

gap_leads : (format : Format) (n l : ℕ) (k : List ℕ) (low high : Option (List ℕ)) (es : Entries)
    → Below format n k → l ≤ n → IsSmall format (node format l es) → EntriesLieBetween low high es
    → AllBytes (map text (met_in_gap k es)) → Continues format k
    (step_of l (place format k low high es)) (met_in_gap k es) (looked format (entries_pairs es) k)
gap_leads format n l k low high es next few small lies b =
    elim (falls format k low high l es small.mst.2 small.map) [
      | inl h ↦
          let P : KeyPlace → Type 0 =
          λ p. Says (step_of l p) [] (looked format (entries_pairs es) k)
          (λ y. Leads k y [] (looked format (entries_pairs es) k)) in
          record {
            nodes = [];
            flat = tt;
            texts = ap (map text) h.meets;
            leads =
                subst P (sym h.placed) (refl, ap (held_answer format) h.looks);
          }
      | inr g ↦
          let bytes : AllBytes (map text (nodes_met k g.child)) =
          subst (λ (us : List Tree). AllBytes (map text us)) g.meets b in
          let child = child_leads format n l k g.child g.span next few g.under
          (small_child format k low high l es small g) (g.lies lies) bytes in
          let Q : KeyPlace → Type 0 = λ p. Continues format k (step_of l p) (nodes_met k g.child)
          (looked format (pairs g.child) k) in
          let R : List Tree → Type 0 =
          λ us. Continues format k (step_of l (place format k low high es))
          us (looked format (pairs g.child) k) in
          let S : Option (List ℕ) → Type 0 =
          λ a. Continues format k (step_of l (place format k low high es)) (met_in_gap k es) a in
          subst S (sym (ap (held_answer format) g.looks))
          (subst R (sym g.meets) (subst Q (sym g.placed) child))
    ]

node_leads : (format : Format) (n l : ℕ) (k : List ℕ) (x : Expected) (es : Entries)
    → Below format n k → l ≤ n → IsSmall format (node format l es) → Expects x (node format l es)
    → AllBytes (map text (nodes_met k (node format l es))) → Answer format k x (node format l es)
node_leads format n l k x es next few small is b =
    let rest = gap_leads format n l k x.span.low x.span.high es next few small is.lies b.1 in
    let top : IsExpected x (flat format l es) =
    record {
      digest = sym (some_same x.digest (digest (node format l es)) is.digest);
      layer =
          is.under;
      keys = keys_within format x.span.low x.span.high es is.lies;
    } in
    record {
      nodes = flat format l es ∷ rest.nodes;
      flat = ((refl, flat_is format l es small.mst small.map small.few b.0), rest.flat);
      texts = ap (λ (us : List (List ℕ)). text (node format l es) ∷ us) rest.texts;
      leads = (top, rest.leads);
    }

pub complete : (format : Format) (n : ℕ) (k : List ℕ) (x : Expected) (t : Tree) → IsUnder n t
    → IsSmall format t → Expects x t → AllBytes (map text (nodes_met k t)) → Answer format k x t
complete format zero k x empty low small is b = absurd (cc (is.digest))
complete format (suc n) k x empty low small is b = absurd (cc (is.digest))
complete format zero k x (node f l es) low small is b = absurd (omega (arith, low))
complete format (suc n) k x (node f l es) low small is b =
    let P : Format → Type 0 = λ g. IsSmall format (node g l es) → Expects x (node g l es)
    → AllBytes (map text (nodes_met k (node g l es))) → Answer format k x (node g l es) in
    subst P (sym small.mst.0)
    (node_leads format n l k x es (λ y c. complete format n k y c) (omega (arith, low))) small
    is b
