-- What the place at which a search for a key ends says of the pairs of the node.
use Rattle.mst_read.proofs.Names.{◌≡◌, ℕ, List, ◌∷◌, ◌++◌, Option, Some, IsSome, option_and_then, refl, sym, ◌∙◌, ap, subst, Ordering, Less, Equal, Greater, Format, Pair, key_cmp, IsAscending, AllBelow, map_get, same_from_equal, less_from_greater, IsAscending-front, IsAscending-back, IsAscending-below, IsAscending-above, pairs, entries_pairs, IsMstEntries, Content, part_at, entry_value, HeadLinks, Row, Entry, Chain, end, cell, tree_of, entries_of, link_of, first_of, rows_of, chain_rows, HasRows, all-front, all-back, by_order, Lies, LiesBehind, place, RowPlace, Found, Gap}
use Rattle.mst_key.proofs.KeyOrder.{other_from_less}
use Rattle.mst_key.proofs.MapLaws.{map_get-here, map_get-past, AllAbove-less, AllBelow-less}
use Rattle.mst_key.proofs.Splits.{map_get-left, map_get-right}
use Rattle.mst_read.proofs.Still.{behind_still}
use Rattle.mst_read.proofs.Descend.{Ahead, Inside, holding}

-- a list round a pair of its own, looked at for a key below the pair's, for that key, and for one
-- above it

map_get-before : (front back : List Pair) (k key v : List ℕ)
    → IsAscending (front ++ (key, v) ∷ back) → key_cmp k key ≡ Less → map_get front k ≡ map_get
    (front ++ (key, v) ∷ back) k
map_get-before front back k key v rise less =
    sym (map_get-left front ((key, v) ∷ back) k
    (less, AllAbove-less back k key less (IsAscending-above front back (key, v) rise)))

map_get-there : (front back : List Pair) (k key v : List ℕ) → IsAscending (front ++ (key, v) ∷ back)
    → key_cmp k key ≡ Equal → Some v ≡ map_get (front ++ (key, v) ∷ back) k
map_get-there front back k key v rise equal =
    let same : k ≡ key = same_from_equal k key equal in
    let below : AllBelow front k =
    subst (AllBelow front) (sym same) (IsAscending-below front back (key, v) rise) in
    sym (map_get-right front ((key, v) ∷ back) k below ∙ map_get-here (key, v) back k (sym same))

map_get-behind : (front back : List Pair) (k key v : List ℕ)
    → IsAscending (front ++ (key, v) ∷ back) → key_cmp k key ≡ Greater → map_get back k ≡ map_get
    (front ++ (key, v) ∷ back) k
map_get-behind front back k key v rise greater =
    let less : key_cmp key k ≡ Less = less_from_greater k key greater in
    let below : AllBelow front k =
    AllBelow-less front key k (IsAscending-below front back (key, v) rise) less in
    sym (map_get-right front ((key, v) ∷ back) k below ∙ map_get-past (key, v) back k
    (other_from_less key k less))

-- the lists in which the key has the value that it has in the map
abbrev pub Finds : List ℕ → List Pair → List Pair → Type 0
Finds k m ps = map_get ps k ≡ map_get m k

module _ (format : Format) (content : Content) (k : List ℕ) where
  gap : (l link : ℕ) (c : Chain) → HasRows content (chain_rows format c) → IsMstEntries format l
      (entries_of format c) → IsAscending (entries_pairs (entries_of format c))
      → place k c ≡ Gap link → Ahead format content l link
      (Finds k (entries_pairs (entries_of format c)))
  gap l link (end p) rows mst rise is =
      let at : link_of p ≡ link = cc in
      record {
        placed = p;
        lies = record { at = at; rows = rows };
        under = mst.0;
        mst =
            mst.1;
        rise = rise;
        holds = refl;
      }
  gap l link (cell at p key v c) rows mst rise is =
      go (key_cmp k key) refl is
      (gap l link c (all-back _ (rows_of format p) (chain_rows format c) rows.1) mst.3
      (IsAscending-back front ((key, v) ∷ back) rise).1)
    where
      front : List Pair
      front = pairs (tree_of format p)

      back : List Pair
      back = entries_pairs (entries_of format c)

      go : (o : Ordering) → key_cmp k key ≡ o → by_order o (Gap (link_of p)) (Found at) (place k c)
          ≡ Gap link → (place k c ≡ Gap link → Ahead format content l link (Finds k back))
          → Ahead format content l link (Finds k (front ++ (key, v) ∷ back))
      go Less e is further =
          let here : link_of p ≡ link = cc in
          let lies : Lies format content link p =
          record {
            at = here;
            rows = all-front _ (rows_of format p) (chain_rows format c) rows.1;
          } in
          record {
            placed = p;
            lies = lies;
            under = mst.0;
            mst = mst.1;
            rise =
                IsAscending-front front ((key, v) ∷ back) rise;
            holds =
                map_get-before front back k key v rise e;
          }
      go Equal e is further = let no : Found at ≡ Gap link = is in cc
      go Greater e is further = holding (further is) (Finds k (front ++ (key, v) ∷ back))
          (λ ps found. found ∙ map_get-behind front back k key v rise e)

  value_at : (row : ℕ) (c : Chain) → HasRows content (chain_rows format c)
      → IsAscending (entries_pairs (entries_of format c)) → place k c ≡ Found row
      → part_at entry_value content row ≡ map_get (entries_pairs (entries_of format c)) k
  value_at row (end p) rows rise is = let no : Gap (link_of p) ≡ Found row = is in cc
  value_at row (cell at p key v c) rows rise is =
      go (key_cmp k key) refl is
      (value_at row c (all-back _ (rows_of format p) (chain_rows format c) rows.1)
      (IsAscending-back front ((key, v) ∷ back) rise).1)
    where
      front : List Pair
      front = pairs (tree_of format p)

      back : List Pair
      back = entries_pairs (entries_of format c)

      go : (o : Ordering) → key_cmp k key ≡ o → by_order o (Gap (link_of p)) (Found at) (place k c)
          ≡ Found row → (place k c ≡ Found row → part_at entry_value content row ≡ map_get back k)
          → part_at entry_value content row ≡ map_get (front ++ (key, v) ∷ back) k
      go Less e is further = let no : Gap (link_of p) ≡ Found row = is in cc
      go Equal e is further =
          let same : at ≡ row = cc in
          let there : content row ≡ Some (Entry (link_of p) (first_of c) key v) =
          ap content (sym same) ∙ rows.0 in
          let value : part_at entry_value content row ≡ Some v = rw there in
          value ∙ map_get-there front back k key v rise e
      go Greater e is further = further is ∙ map_get-behind front back k key v rise e

  found_there : (row : ℕ) (c : Chain) → HasRows content (chain_rows format c)
      → place k c ≡ Found row
      → IsSome (part_at entry_value content row)
  found_there row (end p) rows is = let no : Gap (link_of p) ≡ Found row = is in cc
  found_there row (cell at p key v c) rows is =
      go (key_cmp k key) is
      (found_there row c (all-back _ (rows_of format p) (chain_rows format c) rows.1))
    where
      go : (o : Ordering) → by_order o (Gap (link_of p)) (Found at) (place k c) ≡ Found row
          → (place k c ≡ Found row → IsSome (part_at entry_value content row))
          → IsSome (part_at entry_value content row)
      go Less is further = let no : Gap (link_of p) ≡ Found row = is in cc
      go Equal is further =
          let same : at ≡ row = cc in
          let there : content row ≡ Some (Entry (link_of p) (first_of c) key v) =
          ap content (sym same) ∙ rows.0 in
          let There : Option Row → Type 0 = λ r. IsSome (option_and_then entry_value r) in
          subst There (sym there) refl
      go Greater is further = further is

-- what the place at which the search ends says in a node, while the rows are the same
module _ {format : Format} {content : Content} {links : HeadLinks} (k : List ℕ) (m : List Pair)
    (d : Inside format content links (Finds k m)) {after : Content} {found : RowPlace}
    (same : after ≡ content) (answer : (f : Format) (c : Chain) → LiesBehind f after links c
    → found ≡ place k c) where
  place_is : place k d.chain ≡ found
  place_is = sym (answer format d.chain (behind_still same d.lies))

  -- the tree in the gap, in which the search goes on
  pub in_gap : {link : ℕ} → found ≡ Gap link → Ahead format content links.layer link (Finds k m)
  in_gap {link} is =
      holding (gap format content k links.layer link d.chain d.lies.rows d.mst d.rise
      (place_is ∙ is)) (Finds k m) (λ ps e. e ∙ d.holds)

  -- the row that has the key has its value
  pub value_found : {row : ℕ} → found ≡ Found row → part_at entry_value content row ≡ map_get m k
  value_found {row} is = value_at format content k row d.chain d.lies.rows d.rise (place_is ∙ is)
      ∙ d.holds

  pub value_there : {row : ℕ} → found ≡ Found row → IsSome (part_at entry_value content row)
  value_there {row} is = found_there format content k row d.chain d.lies.rows (place_is ∙ is)
