-- The rows of the new nodes of a tree, counted along its structure.
use Rattle.mst_change.proofs.Names.{◌≡◌, ℕ, ◌+◌, ◌<◌, ◌==◌, ◌||◌, Bool, true, false, not, cond, List, ◌∷◌, ◌++◌, filter, refl, sym, ap, ◌∙◌, arith, inl, inr, sum_by, nat_tests, cond-false, sum_by-cons, filter-append, Format, Tree, empty, node, Entries, last, entry, entry_count, with_entries, subtrees, is_subtree, top_entries, new_rows, cells, first_child, with_first, node_of, side_rows, InTree, InEntries, is_old, is_new}
use Rattle.std.proofs.lemmas.Bool.{cond-true}
use Rattle.std.proofs.lemmas.List.Sums.{sum_by-append}
use Rattle.mst_node.specs.Cost.{entries_subtrees}

abbrev mutual
  pub fresh : Tree → Tree → ℕ
  fresh old empty = 0
  fresh old (node g l es) = cond (is_subtree (node g l es) old) 0 (entry_count es + 1) + fresh_in
      old es

  pub fresh_in : Tree → Entries → ℕ
  fresh_in old (last child) = fresh old child
  fresh_in old (entry child key value rest) = fresh old child + fresh_in old rest

-- the rows of those of the nodes that are new
abbrev counted : Tree → List Tree → ℕ
counted old ts = sum_by (λ t. top_entries t + 1) (filter (λ t. not (is_subtree t old)) ts)

counted_cons : (old t : Tree) (ts : List Tree) → counted old (t ∷ ts) ≡ cond (is_subtree t old) 0
    (top_entries t + 1) + counted old ts
counted_cons old t ts = go (is_subtree t old)
  where
    go : (b : Bool) → sum_by (λ (u : Tree). top_entries u + 1)
        (cond (not b) (t ∷ filter (λ (u : Tree). not (is_subtree u old)) ts)
        (filter (λ (u : Tree). not (is_subtree u old)) ts)) ≡ cond b 0 (top_entries t + 1) + counted
        old ts
    go true = omega arith
    go false = sum_by-cons (λ (u : Tree). top_entries u + 1) t
        (filter (λ (u : Tree). not (is_subtree u old)) ts)

counted_append : (old : Tree) (ts us : List Tree) → counted old (ts ++ us) ≡ counted old ts
    + counted old us
counted_append old ts us =
    ap (sum_by (λ (u : Tree). top_entries u + 1))
    (filter-append (λ (u : Tree). not (is_subtree u old)) ts us)
    ∙ sum_by-append (λ (u : Tree). top_entries u + 1)
    (filter (λ (u : Tree). not (is_subtree u old)) ts)
    (filter (λ (u : Tree). not (is_subtree u old)) us)

mutual
  pub new_rows_fresh : (t old : Tree) → new_rows old t ≡ fresh old t
  new_rows_fresh empty old = refl
  new_rows_fresh (node g l es) old =
      counted_cons old (node g l es) (entries_subtrees es)
      ∙ ap (λ n. cond (is_subtree (node g l es) old) 0 (entry_count es + 1) + n)
      (new_rows_fresh_in es old)

  new_rows_fresh_in : (es : Entries) (old : Tree) → counted old (entries_subtrees es) ≡ fresh_in old
      es
  new_rows_fresh_in (last child) old = new_rows_fresh child old
  new_rows_fresh_in (entry child key value rest) old =
      let one = new_rows_fresh child old in
      let more = new_rows_fresh_in rest old in
      counted_append old (subtrees child) (entries_subtrees rest) ∙ omega (arith, one, more)

-- ---- trees that stand in the old tree

abbrev pub Stands : Tree → Tree → Type 0
Stands old t = (s : Tree) → InTree s t → InTree s old

abbrev pub StandIn : Tree → Entries → Type 0
StandIn old es = (s : Tree) → InEntries s es → InTree s old

pub stands_itself : (old : Tree) → Stands old old
stands_itself old s is = is

pub entries_stand : (old : Tree) (g : Format) (l : ℕ) (es : Entries) → Stands old (node g l es)
    → StandIn old es
entries_stand old g l es all s is = all s (inr is)

pub node_stands : (old : Tree) (g : Format) (l : ℕ) (es : Entries) → Stands old (node g l es)
    → InTree (node g l es) old
node_stands old g l es all = all (node g l es) (inl refl)

pub child_stands : (old child : Tree) (key value : List ℕ) (rest : Entries)
    → StandIn old (entry child key value rest) → Stands old child
child_stands old child key value rest all s is = all s (inl is)

pub rest_stands : (old child : Tree) (key value : List ℕ) (rest : Entries)
    → StandIn old (entry child key value rest) → StandIn old rest
rest_stands old child key value rest all s is = all s (inr is)

pub first_stands : (es : Entries) (old : Tree) → StandIn old es → Stands old (first_child es)
first_stands (last child) old all = all
first_stands (entry child key value rest) old all = child_stands old child key value rest all

-- nothing of them is new
mutual
  pub fresh_none : (t old : Tree) → Stands old t → fresh old t ≡ 0
  fresh_none empty old all = refl
  fresh_none (node g l es) old all =
      let is = is_old (node g l es) old (node_stands old g l es all) in
      let none = fresh_in_none es old (entries_stand old g l es all) in
      let here : cond (is_subtree (node g l es) old) 0 (entry_count es + 1) ≡ 0 =
      cond-true (is_subtree (node g l es) old) 0 (entry_count es + 1) is in
      omega (arith, here, none)

  pub fresh_in_none : (es : Entries) (old : Tree) → StandIn old es → fresh_in old es ≡ 0
  fresh_in_none (last child) old all = fresh_none child old all
  fresh_in_none (entry child key value rest) old all =
      let one = fresh_none child old (child_stands old child key value rest all) in
      let more = fresh_in_none rest old (rest_stands old child key value rest all) in
      omega (arith, one, more)

-- ---- nodes that are new, and nodes whose entries are put together

pub fresh_node : (old : Tree) (g : Format) (l : ℕ) (es : Entries) → (InTree (node g l es) old → ⊥)
    → fresh old (node g l es) ≡ entry_count es + 1 + fresh_in old es
fresh_node old g l es absent =
    ap (λ n. n + fresh_in old es)
    (cond-false (is_subtree (node g l es) old) 0 (entry_count es + 1)
    (is_new (node g l es) old absent))

-- a side of a node, if it is known of the node whether it is old
pub fresh_side : (es : Entries) (old : Tree) (g : Format) (l : ℕ) (whole : Bool)
    → (0 < entry_count es → is_subtree (node_of g l es) old ≡ whole) → fresh old (node_of g l es)
    ≡ side_rows (entry_count es) whole + fresh_in old es
fresh_side (last child) old g l whole is = omega arith
fresh_side (entry child key value rest) old g l whole is =
    let n = entry_count rest in
    ap (λ (b : Bool). cond b 0 (n + 1 + 1) + fresh_in old (entry child key value rest))
    (is (omega arith))
    ∙ ap (λ (b : Bool). cond b 0 (n + 1 + 1) + fresh_in old (entry child key value rest))
    (sym (nonzero_or whole (n + 1) (omega arith)))
  where
    nonzero_or : (b : Bool) (n : ℕ) → 0 < n → ((n == 0) || b) ≡ b
    nonzero_or b n h = let other : (n == 0) ≡ false = grind (arith, nat_tests) in rw other

pub fresh_seam : (es fs : Entries) (old : Tree) → StandIn old es
    → fresh_in old (with_entries (cells es) fs) ≡ fresh_in old fs
fresh_seam (last child) fs old all = refl
fresh_seam (entry child key value rest) fs old all =
    let none = fresh_none child old (child_stands old child key value rest all) in
    let more = fresh_seam rest fs old (rest_stands old child key value rest all) in
    omega (arith, none, more)

pub fresh_first : (fs : Entries) (new old : Tree) → StandIn old fs
    → fresh_in old (with_first new fs) ≡ fresh old new
fresh_first (last child) new old all = refl
fresh_first (entry child key value rest) new old all =
    let none = fresh_in_none rest old (rest_stands old child key value rest all) in
    omega (arith, none)
