-- A node that stands, opened: its head, its entries, and the tree in the last gap.
use Rattle.mst_path.proofs.Names.{Format, ◌≡◌, ℕ, ◌+◌, ◌-◌, ◌<◌, eqb, List, [], ◌∷◌, length, Option, Some, IsSome, refl, sym, ◌∙◌, ap, subst, arith, option_and_then, node, entry, entry_count, TreeEntry, Content, part_at, State, In, times, bit, head_links, Row, Entry, HeadLinks, Placed, Chain, end, cell, tree_of, entries_of, link_of, first_of, tail_of, count_of, head_row, rows_of, chain_rows, used, chain_used, HasRows, times-append, all-front, all-back, cells, last_child, IsOld, OldPiece, RunStands, own_rows, own, gaps_used, EachGap, cell_of, cells_of, entries_to, PlacedEntry, link_from}
use Rattle.mst_arena.specs.Standing.{none as no_tree, head as tree_head}
use Rattle.mst_path.proofs.lemmas.rows.CopyRows.{at_self}

-- ---- the entries of a chain

abbrev pub cells_in : Chain → List PlacedEntry
cells_in (end child) = []
cells_in (cell at child key value rest) =
    record { at = at; child = child; key = key; value = value } ∷ cells_in rest

abbrev pub last_in : Chain → Placed
last_in (end child) = child
last_in (cell at child key value rest) = last_in rest

count_in : (c : Chain) → length (cells_in c) ≡ count_of c
count_in (end child) = refl
count_in (cell at child key value rest) = omega (arith, count_in rest)

first_in : (c : Chain) → link_from 0 (cells_in c) ≡ first_of c
first_in (end child) = refl
first_in (cell at child key value rest) = refl

tail_in : (c : Chain) → link_of (last_in c) ≡ tail_of c
tail_in (end child) = refl
tail_in (cell at child key value rest) = tail_in rest

tree_in : (format : Format) (c : Chain) → entries_of format c ≡ entries_to format (cells_in c)
    (last_in c)
tree_in format (end child) = refl
tree_in format (cell at child key value rest) = ap (entry (tree_of format child) key value)
    (tree_in format rest)

rows_in : (format : Format) (content : Content) (c : Chain) → HasRows content (chain_rows format c)
    → HasRows content (own_rows 0 (cells_in c))
rows_in format content (end child) has = tt
rows_in format content (cell at child key value rest) has = (
  has.0 ∙ ap (λ (n : ℕ). Some (Entry (link_of child) n key value)) (sym (first_in rest)),
  rows_in format content rest (all-back _ (rows_of format child) (chain_rows format rest) has.1),
)

used_in : (x : ℕ) (c : Chain) → times x (chain_used c) ≡ times x (own (cells_in c)) + times x
    (gaps_used (cells_in c)) + times x (used (last_in c))
used_in x (end child) = omega arith
used_in x (cell at child key value rest) =
    omega (
      arith,
      used_in x rest,
      times-append x (used child) (chain_used rest),
      times-append x
          (used child) (gaps_used (cells_in rest)),
    )

gaps_in : (format : Format) (content : Content) (s : State) (c : Chain) → HasRows content
    (chain_rows format c) → ((r : ℕ) → In r (chain_used c) → IsOld s r)
    → EachGap (OldPiece format content s) (cells_in c)
gaps_in format content s (end child) has old = tt
gaps_in format content s (cell at child key value rest) has old = (
  record {
    rows = all-front _ (rows_of format child) (chain_rows format rest) has.1;
    old = λ r i. old r (omega (arith, i, times-append r (used child) (chain_used rest)));
  },
  gaps_in format content s rest (all-back _ (rows_of format child) (chain_rows format rest) has.1)
      (λ r i. old r (omega (arith, i, times-append r (used child) (chain_used rest)))),
)

last_rows : (format : Format) (content : Content) (c : Chain) → HasRows content
    (chain_rows format c) → HasRows content (rows_of format (last_in c))
last_rows format content (end child) has = has
last_rows format content (cell at child key value rest) has =
    last_rows format content rest (all-back _ (rows_of format child) (chain_rows format rest) has.1)

-- ---- a node

-- What stands at a row whose head has these links.
pub record Opened (format : Format) (c : Content) (s : State) (p : Placed) (row : ℕ)
    (h : HeadLinks) : Type 0 where
  pub entries : List PlacedEntry
  pub tail : Placed
  pub run : RunStands format c s h.first h.count 0 entries
  pub tail_at : link_of tail ≡ h.tail
  pub tail_piece : OldPiece format c s tail
  pub head_old : IsOld s row
  pub used_is : (x : ℕ) → times x (used p) ≡ bit (eqb x row) + times x (own entries) + times x
      (gaps_used entries) + times x (used tail)
  pub tree : tree_of format p ≡ node format h.layer (entries_to format entries tail)

-- the head row of a tree that is not empty
pub head_there : (format : Format) (c : Content) (p : Placed) (link : ℕ) → link_of p ≡ link
    → 0 < link → HasRows c (rows_of format p) → IsSome (part_at head_links c (link - 1))
head_there format c no_tree link at some has = absurd (omega (arith, at, some))
head_there format c (tree_head i l chain) link at some has =
    let same : link - 1 ≡ i = omega (arith, at) in
    let there : c (link - 1) ≡ Some (head_row format l chain) = ap c same ∙ has.0 in
    subst (λ (o : Option Row). IsSome (option_and_then head_links o)) (sym there) refl

pub opened : (format : Format) (c : Content) (s : State) (p : Placed) (link : ℕ) (h : HeadLinks)
    → link_of p ≡ link → 0 < link → OldPiece format c s p → part_at head_links c (link - 1) ≡ Some h
    → Opened format c s p (link - 1) h
opened format c s no_tree link h at some piece read = absurd (omega (arith, at, some))
opened format c s (tree_head i l chain) link h at some piece read =
    let same : link - 1 ≡ i = omega (arith, at) in
    let there : c (link - 1) ≡ Some (head_row format l chain) = ap c same ∙ piece.rows.0 in
    let both : Some
    (record { layer = l; count = count_of chain; first = first_of chain; tail = tail_of chain })
    ≡ Some h = sym (ap (option_and_then head_links) there) ∙ read in
    let is : record {
      layer = l;
      count = count_of chain;
      first = first_of chain;
      tail =
          tail_of chain;
    } ≡ h = cc in
    let old : (r : ℕ) → In r (chain_used chain) → IsOld s r = λ r k. piece.old r (omega (arith, k))
    in
    record {
      entries = cells_in chain;
      tail = last_in chain;
      run = record {
        counted = count_in chain ∙ ap (λ (x : HeadLinks). x.count) is;
        begins = first_in chain ∙ ap (λ (x : HeadLinks). x.first) is;
        rows = rows_in format c chain piece.rows.1;
        old = λ r k. old r (omega (arith, k, used_in r chain));
        gaps = gaps_in format c s chain piece.rows.1 old;
      };
      tail_at = tail_in chain ∙ ap (λ (x : HeadLinks). x.tail) is;
      tail_piece =
          record {
            rows = last_rows format c chain piece.rows.1;
            old =
                λ r k. old r (omega (arith, k, used_in r chain));
          };
      head_old = subst (IsOld s) (sym same) (piece.old i (omega (arith, at_self i)));
      used_is = λ x. omega (arith, used_in x chain, ap (λ (n : ℕ). bit (eqb x n)) same);
      tree = ap (node format l) (tree_in format chain)
          ∙ ap (λ (x : HeadLinks). node format x.layer
          (entries_to format (cells_in chain) (last_in chain))) is;
    }

-- ---- its first entry

pub cells_to : (format : Format) (es : List PlacedEntry) (tail : Placed)
    → cells (entries_to format es tail) ≡ cells_of format es
cells_to format [] tail = refl
cells_to format (e ∷ es) tail = ap (λ (l : List TreeEntry). cell_of format e ∷ l)
    (cells_to format es tail)

pub last_to : (format : Format) (es : List PlacedEntry) (tail : Placed)
    → last_child (entries_to format es tail) ≡ tree_of format tail
last_to format [] tail = refl
last_to format (e ∷ es) tail = last_to format es tail

pub count_to : (format : Format) (es : List PlacedEntry) (tail : Placed)
    → entry_count (entries_to format es tail) ≡ length es
count_to format [] tail = refl
count_to format (e ∷ es) tail = omega (arith, count_to format es tail)

pub record First (es : List PlacedEntry) : Type 0 where
  pub entry : PlacedEntry
  pub more : List PlacedEntry
  pub is : es ≡ entry ∷ more

pub first_of_some : (es : List PlacedEntry) → 0 < length es → First es
first_of_some [] some = absurd (omega (arith, some))
first_of_some (e ∷ es) some = record { entry = e; more = es; is = refl }
