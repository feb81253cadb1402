-- Events of the passes of a store, what passes have seen that met, the rows of the first put, why
-- at most one edit is refused, and what the number of the free rows decides.
use Rattle.mst_store.proofs.Names.{◌≡◌, ◌≢◌, ℕ, suc, ◌+◌, ◌<◌, ◌≤◌, Bool, if◌then◌else◌, List, [], ◌∷◌, ◌++◌, length, refl, sym, ap, ◌∙◌, subst, arith, dite, ℕ_discrete, All-head, Format, Change, Edit, Event, History, Reply, after, format_after, events_of, IsPrefix, empty, IsOfPasses, ApplyFault, Memory, RefusesBatch, Known, made_by, Wrote, Refuses}
use Rattle.std.proofs.Common.{◌⊎◌, cond, max, inl, inr, ne_eqb}
use Rattle.std.proofs.lemmas.Bool.{eq-eqb}
use Rattle.std.proofs.lemmas.List.{append_cancel_right}
use Rattle.std.proofs.lemmas.List.Elements.{All-tail}
use Rattle.mst_key.proofs.HistoryLaws.{IsPrefix-compare}
use Rattle.mst_key.specs.Layer.{layer_in}
use Rattle.mst_change.proofs.Formats.{stays}
use Rattle.mst_node.specs.Tree.{node, last, entry, entries_of, tree_within, tree}
use Rattle.mst_batching.specs.declared.faults.ApplyFault.TheVariants.{Busy, VersionsSpent, NoRoom}
use Rattle.mst_versions.specs.declared.faults.WriteFault.TheVariants as write
use Rattle.mst_store.specs.Passes.{AreFree}
use Rattle.mst_store.specs.Settling.{Met}
use Rattle.mst_versions.specs.Writes.{rows_held, rows_needed}

-- each event is of a pass from 1 to n
abbrev pub IsOf : ℕ → Event → Type 0
IsOf n e = (0 < e.pass) × (e.pass ≤ n)

-- if there is one pass, all events are its own
pub own_all : (log : History) → IsOfPasses 1 log → events_of 1 log ≡ log
own_all [] all = refl
own_all (e ∷ es) all = let b = All-head (IsOf 1) e es all in let pos = b.0 in let low =
    b.1 in let is : e.pass ≡ 1 = omega arith in
    ap (λ (t : Bool). cond t (e ∷ events_of 1 es) (events_of 1 es)) (eq-eqb e.pass 1 is)
    ∙ ap (λ (l : History). e ∷ l) (own_all es (All-tail (IsOf 1) e es all))

-- an event is one more of its pass, and none of another
one_more : (p : ℕ) (e : Event) (es : History) → e.pass ≡ p → length (events_of p (e ∷ es)) ≡ suc
    (length (events_of p es))
one_more p e es is = ap (λ (t : Bool). length (cond t (e ∷ events_of p es) (events_of p es)))
    (eq-eqb e.pass p is)

none_more : (p : ℕ) (e : Event) (es : History) → e.pass ≢ p → length (events_of p (e ∷ es)) ≡ length
    (events_of p es)
none_more p e es other = ap (λ (t : Bool). length (cond t (e ∷ events_of p es) (events_of p es)))
    (ne_eqb e.pass p other)

-- if there are two passes, each event is of the one or of the other
two_count : (log : History) → IsOfPasses 2 log → length log ≡ length (events_of 1 log) + length
    (events_of 2 log)
two_count [] all = refl
two_count (e ∷ es) all = let b = All-head (IsOf 2) e es all in let pos = b.0 in let low =
    b.1 in let behind = two_count es (All-tail (IsOf 2) e es all) in dite (ℕ_discrete e.pass 1)
    (λ is. let first = one_more 1 e es is in let second =
    none_more 2 e es (λ f. omega (arith, is, f)) in let all_of : suc (length es) ≡ length
    (events_of 1 (e ∷ es)) + length (events_of 2 (e ∷ es)) =
    omega (arith, behind, first, second) in all_of)
    (λ not. let is : e.pass ≡ 2 = omega (arith, pos, low, not) in let first =
    none_more 1 e es not in let second = one_more 2 e es is in
    let all_of : suc (length es) ≡ length (events_of 1 (e ∷ es)) + length (events_of 2 (e ∷ es)) =
    omega (arith, behind, first, second) in all_of)

-- what passes have seen that met
pub met_one : (p q m n : Known) → Met p q m n → (m.seen ≡ n.seen) × IsPrefix p.seen m.seen
    × IsPrefix q.seen m.seen
met_one p q m n h = let one : m.seen ≡ h.log = ap (λ (z : Known). z.seen) h.now.0 in
    let other : n.seen ≡ h.log = ap (λ (z : Known). z.seen) h.now.1 in (
      one ∙ sym other,
      subst (λ (l : History). IsPrefix p.seen l) (sym one) h.later.0,
      subst (λ (l : History). IsPrefix q.seen l) (sym one) h.later.1,
    )

pub met_either : (p q m n : Known) → Met p q m n → IsPrefix p.seen q.seen ⊎ IsPrefix q.seen p.seen
met_either p q m n h = IsPrefix-compare p.seen q.seen h.log h.later.0 h.later.1

pub met_two : (p q m n : Known) → Met p q m n → p.store.passes ≡ 2 → p.number ≡ 1 → q.number ≡ 2
    → length m.seen ≡ length p.mine + length q.mine
met_two p q m n h two first second = let count =
    two_count h.log (subst (λ (k : ℕ). IsOfPasses k h.log) two h.alone) in
    let seen : length m.seen ≡ length h.log = ap (λ (z : Known). length z.seen) h.now.0 in
    let one : length (events_of 1 h.log) ≡ length p.mine =
    ap (λ (k : ℕ). length (events_of k h.log)) (sym first) ∙ ap (λ (l : History). length l)
    h.own.0 in
    let other : length (events_of 2 h.log) ≡ length q.mine =
    ap (λ (k : ℕ). length (events_of k h.log)) (sym second) ∙ ap (λ (l : History). length l)
    h.own.1 in
    omega (arith, count, seen, one, other)

-- the greatest of one layer
greatest_one : (l : ℕ) → l ≡ max l 0
greatest_one l = grind arith

-- the tree of a map of one pair is one node
pub lone_tree : (format : Format) (k v : List ℕ) → tree format ((k, v) ∷ []) ≡ node format
    (max (layer_in format k) 0) (entry empty k v (last empty))
unfolding tree tree_within entries_of
lone_tree format k v =
    ap (λ (t : Bool). node format (max (layer_in format k) 0)
    (if t then entry empty k v (last empty) else last empty))
    (eq-eqb (layer_in format k) (max (layer_in format k) 0) (greatest_one (layer_in format k)))

-- no edits take no row, and no memory
pub no_edits : (fault : ApplyFault) (p q : Known) → RefusesBatch fault [] p q → (fault ≡ Busy)
    ⊎ (fault ≡ VersionsSpent)
no_edits Busy p q refused = inl refl
no_edits VersionsSpent p q refused = inr refl
no_edits (Memory why) p q refused = let none = refused.3 in absurd (omega (arith, none))
no_edits NoRoom p q refused =
    let some = refused.4.costs in
    let none = stays (tree (format_after p.store.format q.seen) (after q.seen)) in
    absurd (omega (arith, some, none))

-- one edit takes no memory
pub one_edit : (fault : ApplyFault) (e : Edit) (p q : Known) → RefusesBatch fault (e ∷ []) p q
    → (fault ≡ Busy) ⊎ (fault ≡ VersionsSpent) ⊎ (fault ≡ NoRoom)
one_edit Busy e p q refused = inl refl
one_edit VersionsSpent e p q refused = inr (inl refl)
one_edit (Memory why) e p q refused = let more = refused.3 in absurd (omega (arith, more))
one_edit NoRoom e p q refused = inr (inr refl)

-- the rows that are free are enough for what needs no more, and too few for what needs more
pub enough_free : (free : ℕ) (change : Change) (p q : Known) → AreFree free p
    → rows_needed p.store.format p.seen change ≤ free → q.seen ≡ p.seen → q.found ≡ p.found
    → Refuses write.NoRoom change p q → ⊥
enough_free free change p q are few seen found refused =
    let lacks : p.store.rows < rows_held p.store.format p.seen p.found
    + rows_needed p.store.format p.seen change =
    subst (λ (l : History). p.store.rows < rows_held p.store.format l p.found
    + rows_needed p.store.format l change) seen
    (subst (λ (l : List ℕ). p.store.rows < rows_held p.store.format q.seen l
    + rows_needed p.store.format q.seen change) found refused.4.lacks) in
    omega (arith, are, few, lacks)

pub too_few_free : (free : ℕ) (change : Change) (answered : Reply) (p q : Known) → AreFree free p
    → free < rows_needed p.store.format p.seen change → q.seen ≡ p.seen ++ made_by p change ∷ []
    → q.found ≡ p.found → Wrote (made_by p change) p answered q → ⊥
too_few_free free change answered p q are many seen found wrote =
    let before : wrote.log ≡ p.seen =
    append_cancel_right wrote.log p.seen (made_by p change ∷ []) (sym wrote.seen ∙ seen) in
    let fits : rows_held p.store.format p.seen p.found
    + rows_needed p.store.format p.seen change ≤ p.store.rows =
    subst (λ (l : History). rows_held p.store.format l p.found
    + rows_needed p.store.format l change ≤ p.store.rows) before
    (subst (λ (l : List ℕ). rows_held p.store.format wrote.log l
    + rows_needed p.store.format wrote.log change ≤ p.store.rows) found wrote.beside.fits) in
    omega (arith, are, many, fits)
