-- The pair that a row has wherever a tree stands is found among the rows of the tree.
use Rattle.mst_batch.proofs.Names.{◌≡◌, ℕ, eqb, Bool, IsSome, true, false, Option, Some, None, List, [], ◌∷◌, refl, sym, ◌∙◌, ap, subst, if◌then◌else◌, option_and_then, option_map_or, eq-eqb, eqb-true, same_Some, Pair, Format, Content, part_at, entry_pair, keyed_links, Row, Entry, Head, Placed, rows_of, HasRows, pair_among, IsItem, Item, IsEntryOf}
use Rattle.mst_batch.specs.Items.{row_among, pair_in}
use Rattle.mst_batch.specs.declared.items.Item.TheVariants as item

-- a content without one row
abbrev but : ℕ → Content → Content
but row content k = if eqb row k then None else content k

but_there : (row k : ℕ) (content : Content) (b : Bool) → eqb row k ≡ b
    → but row content k ≡ (if b then None else content k)
but_there row k content b is = ap (λ (t : Bool). if t then None else content k) is

-- where no row of the number is found, the others stand without it
still : (rows : List (ℕ × Row)) (row : ℕ) (content : Content) → HasRows content rows
    → row_among rows row ≡ None → HasRows (but row content) rows
still [] row content has none = tt
still (r ∷ rows) row content has none =
    go (eqb row r.0) refl none (λ other. still rows row content has.1 other)
  where
    go : (b : Bool) → eqb row r.0 ≡ b → (if b then Some r.1 else row_among rows row) ≡ None
        → (row_among rows row ≡ None → HasRows (but row content) rows)
        → HasRows (but row content) (r ∷ rows)
    go true is other more = absurd cc
    go false is other more = (but_there row r.0 content false is ∙ has.0, more other)

-- a row that is found stands
found_there : (rows : List (ℕ × Row)) (row : ℕ) (content : Content) → HasRows content rows
    → (r : Row) → row_among rows row ≡ Some r → content row ≡ Some r
found_there [] row content has r none = absurd cc
found_there (x ∷ rows) row content has r is =
    go (eqb row x.0) refl is (λ own. found_there rows row content has.1 r own)
  where
    go : (b : Bool) → eqb row x.0 ≡ b → (if b then Some x.1 else row_among rows row) ≡ Some r
        → (row_among rows row ≡ Some r → content row ≡ Some r) → content row ≡ Some r
    go true same own more = ap content (eqb-true row x.0 same) ∙ has.0 ∙ own
    go false same own more = more own

pair_of_row : (r : Row) (pair : Pair) → entry_pair r ≡ Some pair → pair_in r ≡ pair ∷ []
pair_of_row (Entry child next key value) pair is =
    ap (λ (p : Pair). p ∷ []) (same_Some (key, value) pair is)
pair_of_row (Head layer count first tail digest) pair is = absurd cc

pub pair_found : (format : Format) (whole : Placed) (content : Content)
    → HasRows content (rows_of format whole) → (row : ℕ) (pair : Pair)
    → IsEntryOf format whole row pair → pair_among (rows_of format whole) row ≡ pair ∷ []
pair_found format whole content has row pair told =
    go (row_among (rows_of format whole) row) refl
  where
    go : (o : Option Row) → row_among (rows_of format whole) row ≡ o
        → pair_among (rows_of format whole) row ≡ pair ∷ []
    go None none =
        let gone : part_at entry_pair (but row content) row ≡ Some pair =
        told (but row content) (still (rows_of format whole) row content has none) in
        let nothing : but row content row ≡ None =
        but_there row row content true (eq-eqb row row refl) in
        let both : None ≡ Some pair =
        sym (ap (option_and_then entry_pair) nothing) ∙ gone in absurd cc
    go (Some r) is =
        let there = found_there (rows_of format whole) row content has r is in
        ap (λ (o : Option Row). option_map_or pair_in o []) is
        ∙ pair_of_row r pair (sym (ap (option_and_then entry_pair) there) ∙ told content has)

-- ---- an item by its row

links_there : (o : Option Row) (pair : Pair) → option_and_then entry_pair o ≡ Some pair
    → IsSome (option_and_then keyed_links o)
links_there None pair is = absurd cc
links_there (Some (Entry child next key value)) pair is = refl
links_there (Some (Head layer count first tail digest)) pair is = absurd cc

module _ (format : Format) (whole : Placed) (content : Content)
    (has : HasRows content (rows_of format whole)) (row layer : ℕ) (x : Item)
    (is : x ≡ item.Kept row layer) (each : IsItem format whole x) where
  here : IsItem format whole (item.Kept row layer)
  here = subst (IsItem format whole) is each

  pub kept_there : IsSome (part_at keyed_links content row)
  kept_there = links_there (content row) here.0 (here.1 content has)
