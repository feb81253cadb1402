-- The rows that a plan names, one level at a time.
use Rattle.mst_batch.proofs.Names.{◌≡◌, ℕ, zero, suc, ◌<◌, Some, None, List, [], ◌∷◌, ◌++◌, length, map, get_or, refl, sym, ◌∙◌, ap, subst, arith, rules, append_assoc, option_and_then, AllByRecursion, append-nil, map-append, same_Some, Pair, Format, alls-front, alls-back, alls-append, Content, part_at, entry_pair, entry_value, keyed_links, KeyedLinks, Placed, rows_of, HasRows, Row, Entry, Head, IsTold, IsEntryOf, Known, own_known, all_known, known_of, known_of_node, known_of_entry, AreKnown, IsThere, AreThere, PlannedEntry, planned_entry, Origin, Kept, Changed, PlanNode, out-PlanNode, PlanEntry, out-PlanEntry, the_lemmas, fold_out-PlanNode, fold_out-PlanEntry}
use Rattle.std.specs.declared.option.Option.{Option}
use Rattle.mst_batch.specs.Known.{entry_known_step, node_known_step}
use Rattle.mst_batch.proofs.PlanShapes.{planned_entry_out}
use Rattle.mst_batch.specs.declared.plan.Origin.TheVariants.{Unknown}

-- ---- a plan from its fields

pub known_out : (A : Type 0) (n : PlanNode A) → known_of_node n
    ≡ all_known (map known_of_entry (out-PlanNode A n).entries.items)
    ++ known_of (out-PlanNode A n).tail
known_out A n =
    search (
      rules,
      the_lemmas,
      fold_out-PlanNode A (List Known) (List Known) (entry_known_step A) (node_known_step A) n,
    )

pub known_entry_out : (A : Type 0) (e : PlanEntry A) → known_of_entry e
    ≡ known_of (out-PlanEntry A e).child
    ++ own_known (out-PlanEntry A e).origin ((out-PlanEntry A e).key, (out-PlanEntry A e).value)
known_entry_out A e =
    search (
      rules,
      the_lemmas,
      fold_out-PlanEntry A (List Known) (List Known) (entry_known_step A) (node_known_step A) e,
    )

-- ---- what is known of a list

pub all_known-append : (xs ys : List (List Known))
    → all_known (xs ++ ys) ≡ all_known xs ++ all_known ys
all_known-append [] ys = refl
all_known-append (x ∷ xs) ys =
    ap (λ (ks : List Known). x ++ ks) (all_known-append xs ys)
    ∙ sym (append_assoc x (all_known xs) (all_known ys))

-- what holds of all holds of one entry's
pub in_list : (P : Known → Type 0) {A : Type 0} (xs : List (PlanEntry A)) (i : ℕ)
    (e : PlanEntry A) → i < length xs → e ≡ get_or xs i e
    → AllByRecursion P (all_known (map known_of_entry xs))
    → AllByRecursion P (known_of_entry e)
in_list P [] i e h is known = absurd (omega (arith, h))
in_list P {A} (x ∷ xs) zero e h is known =
    subst (λ (y : PlanEntry A). AllByRecursion P (known_of_entry y)) (sym is)
    (alls-front P (known_of_entry x) (all_known (map known_of_entry xs)) known)
in_list P (x ∷ xs) (suc i) e h is known =
    in_list P xs i e (omega (arith, h)) is
    (alls-back P (known_of_entry x) (all_known (map known_of_entry xs)) known)

module _ (format : Format) (whole : Placed) where
  abbrev Is : Known → Type 0
  Is k = IsEntryOf format whole k.0 k.1

  pub known_both : (xs ys : List Known) → AreKnown format whole xs → AreKnown format whole ys
      → AreKnown format whole (xs ++ ys)
  known_both xs ys a b = alls-append Is xs ys a b

  -- what is told of a pair is known
  pub known_told : (pair : Pair) (o : Origin) → IsTold format whole pair o
      → AreKnown format whole (own_known o pair)
  known_told pair Unknown told = tt
  known_told pair (Kept row) told = (told, tt)
  known_told pair (Changed row) told = tt

  told_known : (pair : Pair) (o : Origin) → AreKnown format whole (own_known o pair)
      → IsTold format whole pair o
  told_known pair Unknown known = tt
  told_known pair (Kept row) known = known.0
  told_known pair (Changed row) known = tt

  -- one entry more
  pub known_more : {A : Type 0} (xs : List (PlanEntry A)) (e : PlanEntry A) (child : List Known)
      (o : Origin) (pair : Pair) → known_of_entry e ≡ child ++ own_known o pair
      → AreKnown format whole (all_known (map known_of_entry xs)) → AreKnown format whole child
      → IsTold format whole pair o
      → AreKnown format whole (all_known (map known_of_entry (xs ++ e ∷ [])))
  known_more {A} xs e child o pair is before below told =
      subst (AreKnown format whole)
      (sym (ap all_known (map-append known_of_entry xs (e ∷ []))
      ∙ all_known-append (map known_of_entry xs) (known_of_entry e ∷ [])
      ∙ ap (λ (ks : List Known). all_known (map known_of_entry xs) ++ ks)
      (append-nil (known_of_entry e) ∙ is)))
      (known_both (all_known (map known_of_entry xs)) (child ++ own_known o pair) before
      (known_both child (own_known o pair) below (known_told pair o told)))

  module _ (A : Type 0) (n : PlanNode A) (known : AreKnown format whole (known_of_node n)) where
    parts : AreKnown format whole (all_known (map known_of_entry (out-PlanNode A n).entries.items)
        ++ known_of (out-PlanNode A n).tail)
    parts = subst (AreKnown format whole) (known_out A n) known

    pub tail_known : AreKnown format whole (known_of (out-PlanNode A n).tail)
    tail_known = alls-back Is (all_known (map known_of_entry (out-PlanNode A n).entries.items))
        (known_of (out-PlanNode A n).tail) parts

    module _ (i : ℕ) (e : PlanEntry A) (h : i < length (out-PlanNode A n).entries.items)
        (is : e ≡ get_or (out-PlanNode A n).entries.items i e) where
      own : AreKnown format whole (known_of (out-PlanEntry A e).child
          ++ own_known (out-PlanEntry A e).origin
          ((out-PlanEntry A e).key, (out-PlanEntry A e).value))
      own = subst (AreKnown format whole) (known_entry_out A e)
          (in_list Is (out-PlanNode A n).entries.items i e h is
          (alls-front Is (all_known (map known_of_entry (out-PlanNode A n).entries.items))
          (known_of (out-PlanNode A n).tail) parts))

      pub child_known : AreKnown format whole (known_of (out-PlanEntry A e).child)
      child_known = alls-front Is (known_of (out-PlanEntry A e).child)
          (own_known (out-PlanEntry A e).origin
          ((out-PlanEntry A e).key, (out-PlanEntry A e).value)) own

      pub entry_told : IsTold format whole ((out-PlanEntry A e).key, (out-PlanEntry A e).value)
          (out-PlanEntry A e).origin
      entry_told = told_known ((out-PlanEntry A e).key, (out-PlanEntry A e).value)
          (out-PlanEntry A e).origin
          (alls-back Is (known_of (out-PlanEntry A e).child)
          (own_known (out-PlanEntry A e).origin
          ((out-PlanEntry A e).key, (out-PlanEntry A e).value)) own)

-- what is told of a pair is there while the rows stand
pub there_from : (format : Format) (whole : Placed) (content : Content) (pair : Pair) (o : Origin)
    → HasRows content (rows_of format whole) → IsTold format whole pair o → IsThere content pair o
there_from format whole content pair Unknown rows told = tt
there_from format whole content pair (Kept row) rows told = told content rows
there_from format whole content pair (Changed row) rows told = tt

pub all_there : (format : Format) (whole : Placed) (content : Content) (known : List Known)
    → HasRows content (rows_of format whole) → AreKnown format whole known
    → AreThere content known
all_there format whole content [] rows each = tt
all_there format whole content (k ∷ ks) rows each =
    (each.0 content rows, all_there format whole content ks rows each.1)

module _ (content : Content) where
  abbrev There : Known → Type 0
  There k = part_at entry_pair content k.0 ≡ Some k.1

  pub entries_there : (A : Type 0) (n : PlanNode A) → AreThere content (known_of_node n)
      → AreThere content (all_known (map known_of_entry (out-PlanNode A n).entries.items))
  entries_there A n known =
      alls-front There (all_known (map known_of_entry (out-PlanNode A n).entries.items))
      (known_of (out-PlanNode A n).tail) (subst (AreThere content) (known_out A n) known)

  pub entry_there : {A : Type 0} (xs : List (PlanEntry A)) (i : ℕ) (e : PlanEntry A)
      → i < length xs → e ≡ get_or xs i e
      → AreThere content (all_known (map known_of_entry xs))
      → AreThere content (known_of_entry e)
  entry_there xs i e h is known = in_list There xs i e h is known

  -- an entry that is known to be in a row
  pub own_there : (A : Type 0) (e : PlanEntry A) (row : ℕ)
      → (out-PlanEntry A e).origin ≡ Kept row → AreThere content (known_of_entry e)
      → part_at entry_pair content row
      ≡ Some ((planned_entry e).key, (planned_entry e).value)
  own_there A e row is known =
      let whole = subst (AreThere content) (known_entry_out A e) known in
      let own : AreThere content (own_known (out-PlanEntry A e).origin
      ((out-PlanEntry A e).key, (out-PlanEntry A e).value)) =
      alls-back There (known_of (out-PlanEntry A e).child)
      (own_known (out-PlanEntry A e).origin
      ((out-PlanEntry A e).key, (out-PlanEntry A e).value)) whole in
      let there : part_at entry_pair content row
      ≡ Some ((out-PlanEntry A e).key, (out-PlanEntry A e).value) =
      (subst (λ (o : Origin). AreThere content
      (own_known o ((out-PlanEntry A e).key, (out-PlanEntry A e).value))) is own).0 in
      there ∙ ap (λ (x : PlannedEntry). Some (x.key, x.value)) (sym (planned_entry_out A e))

-- an entry whose pair is known has it
pub same_pair : (content : Content) (row : ℕ) (key value v : List ℕ) (links : KeyedLinks)
    → part_at entry_pair content row ≡ Some (key, value)
    → part_at keyed_links content row ≡ Some links → part_at entry_value content row ≡ Some v
    → (key ≡ links.key) × (value ≡ v)
same_pair content row key value v links = go (content row)
  where
    go : (o : Option Row) → option_and_then entry_pair o ≡ Some (key, value)
        → option_and_then keyed_links o ≡ Some links → option_and_then entry_value o ≡ Some v
        → (key ≡ links.key) × (value ≡ v)
    go None pair read own = absurd cc
    go (Some (Head layer count first tail digest)) pair read own = absurd cc
    go (Some (Entry child next k w)) pair read own =
        let parts = same_Some (k, w) (key, value) pair in
        let fields : record { child = child; next = next; key = k } ≡ links = cc in
        let last : w ≡ v = same_Some w v own in (
          (λ i. (sym parts i).0) ∙ ap (λ (l : KeyedLinks). l.key) fields,
          (λ i. (sym parts i).1) ∙ last,
        )
