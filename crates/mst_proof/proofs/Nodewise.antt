-- Nodes that lead to an answer, one after another, do so step by step as they are judged, and back.
use Rattle.mst_proof.proofs.Names.{Format, ◌≡◌, ℕ, List, [], ◌∷◌, ◌++◌, Option, Some, None, ◌⊎◌, inl, inr, refl, sym, ◌∙◌, ap, subst, AllByRecursion, Ordering, Less, key_cmp, IsAscending, AllAbove, less_chain, greater_from_less, equal_from_same, FlatEntry, FlatNode, IsFlatNode, flat_pairs, place_among, place_of, KeyPlace, Found, Gap, Span, Expected, step_of, first_expected, IsInGap, gap_child, gap_low, gap_high, LeadsOn, LeadsFrom, held_answer}
use Rattle.mst_key.proofs.KeyOrder.{by_order}
use Rattle.mst_node.specs.Trail.{by_order as chosen}
use Rattle.mst_proof.specs.Accepted.{ShowsValue, ShowsAbsence, Leads, Accepted}
use Rattle.mst_proof.proofs.Stepwise as step
use Rattle.mst_proof.proofs.Agreed.{AllFlat}

-- ---- where a key lies among entries

above_at : (j : List ℕ) (before : List FlatEntry) (e : FlatEntry) (behind : List FlatEntry)
    → AllAbove (flat_pairs (before ++ e ∷ behind)) j → key_cmp j e.key ≡ Less
above_at j [] e behind a = a.0
above_at j (b ∷ before) e behind a = above_at j before e behind a.1

all_above : (k j : List ℕ) (es : List FlatEntry) → key_cmp k j ≡ Less → AllAbove (flat_pairs es) j
    → AllByRecursion (λ (e : FlatEntry). key_cmp k e.key ≡ Less) es
all_above k j [] less a = tt
all_above k j (e ∷ es) less a = (less_chain k j e.key less a.0, all_above k j es less a.1)

pub held_among : (k : List ℕ) (low high : Option (List ℕ)) (before : List FlatEntry) (e : FlatEntry)
    (behind : List FlatEntry) (tail : Option (List ℕ))
    → IsAscending (flat_pairs (before ++ e ∷ behind)) → e.key ≡ k →
    place_among k low high (before ++ e ∷ behind) tail ≡ Found e.held
held_among k low high [] e behind tail rising is =
    ap (λ (o : Ordering). chosen o (Gap e.child (record { low = low; high = Some e.key }))
    (Found e.held) (place_among k (Some e.key) high behind tail))
    (equal_from_same k e.key (sym is))
held_among k low high (b ∷ before) e behind tail rising is =
    ap (λ (o : Ordering). chosen o (Gap b.child (record { low = low; high = Some b.key }))
    (Found b.held) (place_among k (Some b.key) high (before ++ e ∷ behind) tail))
    (greater_from_less b.key k
    (subst (λ (j : List ℕ). key_cmp b.key j ≡ Less) is
    (above_at b.key before e behind rising.0)))
    ∙ held_among k (Some b.key) high before e behind tail rising.1 is

pub gap_among : (k : List ℕ) (low high : Option (List ℕ)) (before behind : List FlatEntry)
    (tail : Option (List ℕ)) → AllByRecursion (λ (e : FlatEntry). key_cmp e.key k ≡ Less) before
    → AllByRecursion (λ (e : FlatEntry). key_cmp k e.key ≡ Less) behind →
    place_among k low high (before ++ behind) tail ≡ Gap (gap_child behind tail)
    (record { low = gap_low low before; high = gap_high behind high })
gap_among k low high [] [] tail lesser greater = refl
gap_among k low high [] (e ∷ es) tail lesser greater =
    ap (λ (o : Ordering). chosen o (Gap e.child (record { low = low; high = Some e.key }))
    (Found e.held) (place_among k (Some e.key) high es tail)) greater.0
gap_among k low high (e ∷ before) behind tail lesser greater =
    ap (λ (o : Ordering). chosen o (Gap e.child (record { low = low; high = Some e.key }))
    (Found e.held) (place_among k (Some e.key) high (before ++ behind) tail))
    (greater_from_less e.key k lesser.0)
    ∙ gap_among k (Some e.key) high before behind tail lesser.1 greater

-- a key among entries, or in a gap of them
pub record HeldIn (k : List ℕ) (es : List FlatEntry) : Type 0 where
  pub before : List FlatEntry
  pub entry : FlatEntry
  pub behind : List FlatEntry
  pub entries : es ≡ before ++ entry ∷ behind
  pub key : entry.key ≡ k

pub record GapIn (k : List ℕ) (es : List FlatEntry) : Type 0 where
  pub before : List FlatEntry
  pub behind : List FlatEntry
  pub entries : es ≡ before ++ behind
  pub lesser : AllByRecursion (λ (e : FlatEntry). key_cmp e.key k ≡ Less) before
  pub greater : AllByRecursion (λ (e : FlatEntry). key_cmp k e.key ≡ Less) behind

pub located : (k : List ℕ) (es : List FlatEntry) → IsAscending (flat_pairs es) → HeldIn k es
    ⊎ GapIn k es
located k [] rising =
    inr (record { before = []; behind = []; entries = refl; lesser = tt; greater = tt })
located k (e ∷ es) rising =
    by_order k e.key
    (λ less. inr
    (record {
      before = [];
      behind = e ∷ es;
      entries = refl;
      lesser = tt;
      greater =
          (less, all_above k e.key es less rising.0);
    }))
    (λ same. inl (record { before = []; entry = e; behind = es; entries = refl; key = sym same }))
    (λ more. go more (located k es rising.1))
  where
    go : key_cmp e.key k ≡ Less → HeldIn k es ⊎ GapIn k es → HeldIn k (e ∷ es) ⊎ GapIn k (e ∷ es)
    go more (inl h) =
        inl (record {
          before = e ∷ h.before;
          entry = h.entry;
          behind = h.behind;
          entries =
              ap (λ (l : List FlatEntry). e ∷ l) h.entries;
          key = h.key;
        })
    go more (inr g) =
        inr (record {
          before = e ∷ g.before;
          behind = g.behind;
          entries =
              ap (λ (l : List FlatEntry). e ∷ l) g.entries;
          lesser = (more, g.lesser);
          greater =
              g.greater;
        })

-- ---- the same of a node

pub held_place : (k : List ℕ) (span : Span) (n : FlatNode) (before : List FlatEntry) (e : FlatEntry)
    (behind : List FlatEntry) → IsFlatNode n → n.entries ≡ before ++ e ∷ behind → e.key ≡ k
    → place_of k span n ≡ Found e.held
held_place k span n before e behind flat is key =
    ap (λ (es : List FlatEntry). place_among k span.low span.high es n.tail) is
    ∙ held_among k span.low span.high before e behind n.tail
    (subst (λ (es : List FlatEntry). IsAscending (flat_pairs es)) is flat.keys.rising) key

pub gap_place : (k : List ℕ) (span : Span) (n : FlatNode) (before behind : List FlatEntry)
    → IsInGap n k before behind → place_of k span n ≡ Gap (gap_child behind n.tail)
    (record { low = gap_low span.low before; high = gap_high behind span.high })
gap_place k span n before behind g =
    ap (λ (es : List FlatEntry). place_among k span.low span.high es n.tail) g.entries
    ∙ gap_among k span.low span.high before behind n.tail g.lesser g.greater

-- ---- nodes one after another

pub stepwise : (format : Format) (k : List ℕ) (x : Expected) (ns : List FlatNode)
    (a : Option (List ℕ)) → AllFlat format ns → Leads k x.digest x.upper x.span.low x.span.high ns a
    → step.Leads k x ns a
stepwise format k x [] a flat l = l
stepwise format k x (n ∷ ns) a flat l = (
  record { digest = l.0.digest; layer = l.0.layer; keys = l.0.keys },
  go l.1 (λ y. stepwise format k y ns a flat.1),
)
  where
    Goal : KeyPlace → Type 0
    Goal p = step.Says (step_of n.layer p) ns a (λ y. step.Leads k y ns a)

    go : ShowsValue k n ns a ⊎ ShowsAbsence k n ns a ⊎ LeadsOn k x.span.low x.span.high n
        (λ d u l h. Leads k d u l h ns a) →
        ((y : Expected) → Leads k y.digest y.upper y.span.low y.span.high ns a
        → step.Leads k y ns a) → step.Says (step_of n.layer (place_of k x.span n)) ns a
        (λ y. step.Leads k y ns a)
    go (inl s) next = let h = s.1 in
        subst Goal (sym (held_place k x.span n h.before h.entry h.behind flat.0.1 h.entries h.key))
        (s.2, s.3 ∙ ap Some (sym h.value))
    go (inr (inl s)) next =
        subst Goal (sym
        (gap_place k x.span n s.0 s.1 s.2
        ∙ ap (λ (c : Option (List ℕ)). Gap c
        (record { low = gap_low x.span.low s.0; high = gap_high s.1 x.span.high })) s.3))
        (s.4, s.5)
    go (inr (inr s)) next =
        subst Goal (sym
        (gap_place k x.span n s.0 s.1 s.3
        ∙ ap (λ (c : Option (List ℕ)). Gap c
        (record { low = gap_low x.span.low s.0; high = gap_high s.1 x.span.high })) s.4))
        (next (record {
          digest = s.2;
          upper = Some n.layer;
          span =
              record { low = gap_low x.span.low s.0; high = gap_high s.1 x.span.high };
        }) s.5)

pub nodewise : (format : Format) (k : List ℕ) (x : Expected) (ns : List FlatNode)
    (a : Option (List ℕ)) → AllFlat format ns → step.Leads k x ns a → Leads k x.digest x.upper
    x.span.low x.span.high ns a
nodewise format k x [] a flat l = l
nodewise format k x (n ∷ ns) a flat l = (
  record { digest = l.0.digest; layer = l.0.layer; keys = l.0.keys },
  go (located k n.entries flat.0.1.keys.rising) l.1 (λ y. nodewise format k y ns a flat.1),
)
  where
    Given : KeyPlace → Type 0
    Given p = step.Says (step_of n.layer p) ns a (λ y. step.Leads k y ns a)

    in_gap : (before behind : List FlatEntry) → IsInGap n k before behind → (c : Option (List ℕ))
        → gap_child behind n.tail ≡ c
        → step.Says (step_of n.layer
        (Gap c (record { low = gap_low x.span.low before; high = gap_high behind x.span.high }))) ns
        a (λ y. step.Leads k y ns a) →
        ((y : Expected) → step.Leads k y ns a → Leads k y.digest y.upper y.span.low y.span.high ns
        a) → ShowsValue k n ns a ⊎ ShowsAbsence k n ns a ⊎ LeadsOn k x.span.low x.span.high n
        (λ d u l h. Leads k d u l h ns a)
    in_gap before behind g None is says next = inr (inl (before, behind, g, is, says.0, says.1))
    in_gap before behind g (Some d) is says next =
        inr
        (inr (
          before,
          behind,
          d,
          g,
          is,
          next (record {
            digest = d;
            upper = Some n.layer;
            span =
                record { low = gap_low x.span.low before; high = gap_high behind x.span.high };
          }) says,
        ))

    go : HeldIn k n.entries ⊎ GapIn k n.entries → step.Says (step_of n.layer (place_of k x.span n))
        ns a (λ y. step.Leads k y ns a) →
        ((y : Expected) → step.Leads k y ns a → Leads k y.digest y.upper y.span.low y.span.high ns
        a) → ShowsValue k n ns a ⊎ ShowsAbsence k n ns a ⊎ LeadsOn k x.span.low x.span.high n
        (λ d u l h. Leads k d u l h ns a)
    go (inl h) says next =
        let s =
        subst Given (held_place k x.span n h.before h.entry h.behind flat.0.1 h.entries h.key)
        says in
        inl (
          h.entry.held,
          record {
            before = h.before;
            entry = h.entry;
            behind = h.behind;
            entries =
                h.entries;
            key = h.key;
            value = refl;
          },
          s.0,
          s.1,
        )
    go (inr g) says next =
        let is : IsInGap n k g.before g.behind =
        record { entries = g.entries; lesser = g.lesser; greater = g.greater } in
        in_gap g.before g.behind is (gap_child g.behind n.tail) refl
        (subst Given (gap_place k x.span n g.before g.behind is) says) next

-- ---- whole proofs

pub accepted_stepwise : (format : Format) (root k bytes : List ℕ) (a : Option (List ℕ))
    → Accepted format root k bytes a → step.Accepted format root k bytes a
accepted_stepwise format root k bytes a is =
    record {
      nodes = is.nodes;
      flat = is.flat;
      few = is.few;
      frames = is.frames;
      leads =
          go is.nodes (held_answer format a) is.flat is.leads;
      fit = is.fit;
    }
  where
    go : (ns : List FlatNode) (a : Option (List ℕ)) → AllFlat format ns → LeadsFrom root k ns a
        → step.LeadsFrom root k ns a
    go [] a flat l = l
    go (n ∷ ns) a flat l = stepwise format k (first_expected root) (n ∷ ns) a flat l

pub from_nodewise : (format : Format) (root k : List ℕ) (ns : List FlatNode) (a : Option (List ℕ))
    → AllFlat format ns → step.LeadsFrom root k ns a → LeadsFrom root k ns a
from_nodewise format root k [] a flat l = l
from_nodewise format root k (n ∷ ns) a flat l = nodewise format k (first_expected root) (n ∷ ns) a
    flat l

pub accepted_nodewise : (format : Format) (root k bytes : List ℕ) (a : Option (List ℕ))
    → step.Accepted format root k bytes a → Accepted format root k bytes a
accepted_nodewise format root k bytes a is =
    record {
      nodes = is.nodes;
      flat = is.flat;
      few = is.few;
      frames = is.frames;
      leads =
          from_nodewise format root k is.nodes (held_answer format a) is.flat is.leads;
      fit = is.fit;
    }
