-- A node that stands, compared with one to be made: entry by entry, and as a whole.
use Rattle.mst_batch.proofs.Names.{◌≡◌, ℕ, ◌+◌, ◌<◌, Bool, true, false, List, [], ◌∷◌, length, map, drop, get_or, Option, Some, None, refl, sym, ◌∙◌, ap, arith, true≢false, ◌↔◌, eqb-true, at_drop_all, length-map, Format, Content, part_at, entry_value, Placed, none, head, Chain, end, cell, link_of, count_of, Row, KeyedLinks, HeadLinks, LiesBehind, head_of, chain_links, Onward, AtCell, further, kept_entries, kept_node, PlanTree, PlanEntries, PlannedEntry, with_planned, kept, made, last, entry, plan_of, plan_of_node, planned_entry, PlanEntry, out-PlanEntry, PlanNode, out-PlanNode}
use Rattle.std.specs.Prelude.{eqb}
use Rattle.std.proofs.lemmas.List.{at_drop_more}
use Rattle.mst_read.proofs.Walk.{AtEnd}
use Rattle.mst_batch.specs.Beside.{kept_entry}
use Rattle.mst_batch.proofs.Heads.{HasHead}
use Rattle.mst_batch.proofs.PlanShapes.{plan_out, planned_entry_out, items, tail}

-- ---- how many entries there are

abbrev pub plan_count : PlanEntries → ℕ
plan_count (last child) = 0
plan_count (entry child key value rest) = plan_count rest + 1

pub count_made : (xs : List PlannedEntry) (t : PlanTree)
    → plan_count (with_planned xs (last t)) ≡ length xs
count_made [] t = refl
count_made (x ∷ xs) t = omega (arith, count_made xs t)

count_kept : (c : Chain) → plan_count (kept_entries c) ≡ count_of c
count_kept (end child) = refl
count_kept (cell at child key value rest) = ap (λ (n : ℕ). n + 1) (count_kept rest)

-- ---- an entry

module _ {A : Type 0} (e : PlanEntry A) (links : KeyedLinks) (value : List ℕ) where
  child_is : (planned_entry e).child ≡ plan_of (out-PlanEntry A e).child
  child_is = ap (λ (x : PlannedEntry). x.child) (planned_entry_out A e)

  -- where the tree before it is kept, its pair decides
  pub pair_decides : {b : Bool} → plan_of (out-PlanEntry A e).child ≡ kept links.child
      → (b ≡ true) ↔ ((planned_entry e).key ≡ links.key) × ((planned_entry e).value ≡ value)
      → (b ≡ true) ↔ (planned_entry e ≡ kept_entry links value)
  pair_decides child tells = (
    λ yes.
        let pair = tells.0 yes in
        λ j. record { child = (child_is ∙ child) j; key = pair.0 j; value = pair.1 j },
    λ is. tells.1 (
      ap (λ (x : PlannedEntry). x.key) is,
      ap (λ (x : PlannedEntry). x.value) is,
    ),
  )

  pub other_child : {b : Bool}
      → (b ≡ true) ↔ (plan_of (out-PlanEntry A e).child ≡ kept links.child) → b ≡ false
      → (b ≡ true) ↔ (planned_entry e ≡ kept_entry links value)
  other_child tells other = (
    λ yes. absurd (true≢false (sym yes ∙ other)),
    λ is. absurd (true≢false
        (sym (tells.1 (sym child_is ∙ ap (λ (x : PlannedEntry). x.child) is)) ∙ other)),
  )

-- ---- the entries

module _ {A : Type 0} (xs : List (PlanEntry A)) (t : PlanTree) where
  -- what is to be made from an entry on
  abbrev pub planned : List (PlanEntry A) → PlanEntries
  planned ys = with_planned (map planned_entry ys) (last t)

  -- the entries are those of the chain exactly if those from here on are those of its rest
  abbrev pub IsSameFrom : Chain → ℕ → Chain → Type 0
  IsSameFrom c i rest =
      (planned xs ≡ kept_entries c) ↔ (planned (drop i xs) ≡ kept_entries rest)

  module _ {format : Format} {content : Content} {links : HeadLinks} (c : Chain) where
    pub other_count : LiesBehind format content links c → (length xs ≡ links.count → ⊥)
        → (false ≡ true) ↔ (planned xs ≡ kept_entries c)
    other_count lies other = (
      λ no. absurd (true≢false (sym no)),
      λ is. absurd (other (omega (
        arith,
        ap plan_count is,
        count_made (map planned_entry xs) t,
        length-map {B = PlannedEntry} xs planned_entry,
        count_kept c,
        lies.count,
      ))),
    )

  module _ {format : Format} {content : Content} {far row i all : ℕ} {links : KeyedLinks}
      (c : Chain) (a : AtCell format content far row i all links (IsSameFrom c i)) where
    pub value_at : part_at entry_value content row ≡ Some a.value
    value_at = ap (λ (r : Option Row). part_at entry_value (λ n. r) 0) a.here

    module _ (e : PlanEntry A) (h : i < length xs) (is : e ≡ get_or xs i e) where
      ahead : planned (drop i xs) ≡ entry (planned_entry e).child (planned_entry e).key
          (planned_entry e).value (planned (drop (i + 1) xs))
      ahead = at_drop_more planned xs i e h
          ∙ ap (λ (x : PlanEntry A). planned (x ∷ drop (i + 1) xs)) (sym is)

      -- the entry is the one to be made if all are
      same_entry : planned xs ≡ kept_entries c → planned_entry e ≡ kept_entry links a.value
      same_entry whole =
          let both : entry (planned_entry e).child (planned_entry e).key (planned_entry e).value
          (planned (drop (i + 1) xs))
          ≡ entry (kept (link_of a.child)) links.key a.value (kept_entries a.rest) =
          sym ahead ∙ a.holds.0 whole in
          let child : (planned_entry e).child ≡ kept (link_of a.child) = cc in
          let key : (planned_entry e).key ≡ links.key = cc in
          let value : (planned_entry e).value ≡ a.value = cc in
          λ j. record {
            child = (child ∙ ap kept a.child_is) j;
            key = key j;
            value = value j;
          }

      pub one_more : planned_entry e ≡ kept_entry links a.value
          → Onward format content far links.next (i + 1) all (IsSameFrom c (i + 1))
      one_more same =
          let front : planned (drop i xs)
          ≡ entry (kept (link_of a.child)) links.key a.value (planned (drop (i + 1) xs)) =
          ahead
          ∙ ap (λ (x : PlannedEntry). entry x.child x.key x.value (planned (drop (i + 1) xs))) same
          ∙ ap (λ (n : ℕ). entry (kept n) links.key a.value (planned (drop (i + 1) xs)))
          (sym a.child_is) in
          further a (IsSameFrom c (i + 1)) (
            λ whole.
                let both : entry (kept (link_of a.child)) links.key a.value
                (planned (drop (i + 1) xs))
                ≡ entry (kept (link_of a.child)) links.key a.value (kept_entries a.rest) =
                sym front ∙ a.holds.0 whole in cc,
            λ rest. a.holds.1 (front
                ∙ ap (λ (es : PlanEntries). entry (kept (link_of a.child)) links.key a.value es)
                rest),
          )

      -- if it is another, they are not the entries that stand
      pub not_all : {b : Bool} → (b ≡ true) ↔ (planned_entry e ≡ kept_entry links a.value)
          → b ≡ false → (false ≡ true) ↔ (planned xs ≡ kept_entries c)
      not_all tells other = (
        λ no. absurd (true≢false (sym no)),
        λ whole. absurd (true≢false (sym (tells.1 (same_entry whole)) ∙ other)),
      )

  -- after all entries the last gap decides
  module _ {format : Format} {content : Content} {far i : ℕ} (c : Chain)
      (a : AtEnd format content far (IsSameFrom c i)) (done : length xs ≡ i) where
    none_left : planned (drop i xs) ≡ last t
    none_left = at_drop_all planned xs i (omega arith)

    pub tail_decides : {b : Bool} → (b ≡ true) ↔ (t ≡ kept far)
        → (b ≡ true) ↔ (planned xs ≡ kept_entries c)
    tail_decides tells = (
      λ yes. a.holds.1
          (none_left ∙ ap last (tells.0 yes) ∙ ap (λ (n : ℕ). last (kept n)) (sym a.child_is)),
      λ whole.
          let both : last t ≡ last (kept (link_of a.child)) = sym none_left ∙ a.holds.0 whole in
          let same : t ≡ kept (link_of a.child) = cc in tells.1 (same ∙ ap kept a.child_is),
    )

-- ---- the whole node

module _ {A : Type 0} (n : PlanNode A) where
  abbrev entries : PlanEntries
  entries = with_planned (map planned_entry (items A n)) (last (tail A n))

  module _ {format : Format} {content : Content} {p : Placed} {links : HeadLinks}
      (h : HasHead format content p links) where
    both : plan_of_node n ≡ kept_node p
        → made (out-PlanNode A n).layer entries ≡ made links.layer (kept_entries h.chain)
    both is = sym (plan_out A n) ∙ is ∙ ap kept_node h.is

    pub entries_decide : {b : Bool} → (out-PlanNode A n).layer ≡ links.layer
        → (b ≡ true) ↔ (entries ≡ kept_entries h.chain)
        → (b ≡ true) ↔ (plan_of_node n ≡ kept_node p)
    entries_decide layer tells = (
      λ yes.
          let same = tells.0 yes in
          plan_out A n ∙ (λ i. made (layer i) (same i)) ∙ sym (ap kept_node h.is),
      λ is. let e = both is in let same : entries ≡ kept_entries h.chain = cc in tells.1 same,
    )

    pub other_layer : ((out-PlanNode A n).layer ≡ links.layer → ⊥)
        → (eqb (out-PlanNode A n).layer links.layer ≡ true) ↔ (plan_of_node n ≡ kept_node p)
    other_layer other = (
      λ yes. absurd (other (eqb-true (out-PlanNode A n).layer links.layer yes)),
      λ is.
          let e = both is in
          let same : (out-PlanNode A n).layer ≡ links.layer = cc in absurd (other same),
    )

  -- no node stands there
  pub none_there : (p : Placed) → head_of p ≡ None
      → (false ≡ true) ↔ (plan_of_node n ≡ kept_node p)
  none_there none is = (
    λ no. absurd (true≢false (sym no)),
    λ same.
        let e : made (out-PlanNode A n).layer entries ≡ kept 0 = sym (plan_out A n) ∙ same in
        absurd cc,
  )
  none_there (head row l c) is = let some : Some (chain_links l c) ≡ None = is in absurd cc
