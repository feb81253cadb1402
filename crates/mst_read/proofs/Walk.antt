-- A walk along the entries of a node.
use Rattle.mst_read.proofs.Names.{◌≡◌, ℕ, ◌+◌, ◌-◌, ◌<◌, List, Some, sym, ◌∙◌, ap, subst, arith, Format, Content, part_at, keyed_links, Entry, KeyedLinks, Placed, Chain, end, cell, link_of, first_of, tail_of, count_of, rows_of, chain_rows, HasRows, all-front, all-back, Lies}
use Rattle.std.specs.Prelude.{option_and_then}
use Rattle.mst_read.proofs.Still.{lies_still, read_before}

-- the rest of a chain after as many entries as are done: it begins at the link, and something holds
-- of it
pub record Onward (format : Format) (content : Content) (tail next done all : ℕ)
    (P : Chain → Type 0) : Type 0 where
  pub rest : Chain
  pub first_is : first_of rest ≡ next
  pub tail_is : tail_of rest ≡ tail
  pub left : count_of rest + done ≡ all
  pub rows : HasRows content (chain_rows format rest)
  pub holds : P rest

-- the rest of a chain begins with the entry that was read
pub record AtCell (format : Format) (content : Content) (tail row done all : ℕ) (e : KeyedLinks)
    (P : Chain → Type 0) : Type 0 where
  pub child : Placed
  pub value : List ℕ
  pub rest : Chain
  pub child_is : link_of child ≡ e.child
  pub first_is : first_of rest ≡ e.next
  pub links_are : record { child = link_of child; next = first_of rest; key = e.key } ≡ e
  pub tail_is : tail_of rest ≡ tail
  pub left : count_of rest + (done + 1) ≡ all
  pub here : content row ≡ Some (Entry (link_of child) (first_of rest) e.key value)
  pub child_rows : HasRows content (rows_of format child)
  pub rows : HasRows content (chain_rows format rest)
  pub holds : P (cell row child e.key value rest)

-- nothing but the tree of the last gap is left of the chain
pub record AtEnd (format : Format) (content : Content) (tail : ℕ) (P : Chain → Type 0) : Type 0
  where
    pub child : Placed
    pub child_is : link_of child ≡ tail
    pub rows : HasRows content (rows_of format child)
    pub holds : P (end child)

-- the trees of the gap before the entry and of the last gap, while the rows are the same
pub child_lies : {format : Format} {content : Content} {tail row done all : ℕ} {e : KeyedLinks}
    {P : Chain → Type 0} (a : AtCell format content tail row done all e P) {after : Content}
    → after ≡ content → Lies format after e.child a.child
child_lies a same = lies_still same (record { at = a.child_is; rows = a.child_rows })

pub tail_lies : {format : Format} {content : Content} {tail : ℕ} {P : Chain → Type 0}
    (a : AtEnd format content tail P) {after : Content} → after ≡ content → Lies format after tail
    a.child
tail_lies a same = lies_still same (record { at = a.child_is; rows = a.rows })

module _ {format : Format} {content : Content} {tail next done all : ℕ} {P : Chain → Type 0}
    (o : Onward format content tail next done all P) where
  cell_at : done < all → (e : KeyedLinks) → part_at keyed_links content (next - 1) ≡ Some e
      → AtCell format content tail (next - 1) done all e P
  cell_at lt e part = go o.rest o.first_is o.tail_is o.left o.rows o.holds
    where
      go : (c : Chain) → first_of c ≡ next → tail_of c ≡ tail → count_of c + done ≡ all
          → HasRows content (chain_rows format c) → P c → AtCell format content tail (next - 1) done
          all e P
      go (end p) first tail_is left rows holds = absurd (omega arith)
      go (cell at p key v c) first tail_is left rows holds =
          let is : at ≡ next - 1 = omega arith in
          let row : content (next - 1) ≡ Some (Entry (link_of p) (first_of c) key v) =
          ap content (sym is) ∙ rows.0 in
          let parts : Some (record { child = link_of p; next = first_of c; key = key }) ≡ Some e =
          rw row at part in
          let fields : record { child = link_of p; next = first_of c; key = key } ≡ e = cc in
          let child_is : link_of p ≡ e.child = ap (λ (x : KeyedLinks). x.child) fields in
          let next_is : first_of c ≡ e.next = ap (λ (x : KeyedLinks). x.next) fields in
          let key_is : key ≡ e.key = ap (λ (x : KeyedLinks). x.key) fields in
          record {
            child = p;
            value = v;
            rest = c;
            child_is = child_is;
            first_is = next_is;
            links_are = λ i. record { child = child_is i; next = next_is i; key = e.key };
            tail_is = tail_is;
            left = omega arith;
            here = row ∙ ap (λ (k : List ℕ). Some (Entry (link_of p) (first_of c) k v)) key_is;
            child_rows = all-front _ (rows_of format p) (chain_rows format c) rows.1;
            rows = all-back _ (rows_of format p) (chain_rows format c) rows.1;
            holds = subst (λ (k : List ℕ). P (cell (next - 1) p k v c)) key_is
                (subst (λ (n : ℕ). P (cell n p key v c)) is holds);
          }

  -- the entry was read while the rows are the same
  pub at_cell : done < all → {after : Content} {e : KeyedLinks} → after ≡ content
      → part_at keyed_links after (next - 1) ≡ Some e → AtCell format content tail (next - 1) done
      all e P
  at_cell lt {e = e} same read = cell_at lt e (read_before same keyed_links (next - 1) read)

  pub at_end : all ≡ done → AtEnd format content tail P
  at_end is = go o.rest o.tail_is o.left o.rows o.holds
    where
      go : (c : Chain) → tail_of c ≡ tail → count_of c + done ≡ all → HasRows content
          (chain_rows format c) → P c → AtEnd format content tail P
      go (end p) tail_is left rows holds =
          record { child = p; child_is = tail_is; rows = rows; holds = holds }
      go (cell at p key v c) tail_is left rows holds = absurd (omega arith)

  -- if entries are left, there is one at the link
  pub entry_left : done < all → (e : KeyedLinks) × (part_at keyed_links content (next - 1) ≡ Some e)
  entry_left lt = go o.rest o.first_is o.left o.rows
    where
      go : (c : Chain) → first_of c ≡ next → count_of c + done ≡ all → HasRows content
          (chain_rows format c) → (e : KeyedLinks)
          × (part_at keyed_links content (next - 1) ≡ Some e)
      go (end p) first left rows = absurd (omega arith)
      go (cell at p key v c) first left rows =
          let is : at ≡ next - 1 = omega arith in
          let row : content (next - 1) ≡ Some (Entry (link_of p) (first_of c) key v) =
          ap content (sym is) ∙ rows.0 in (
            record { child = link_of p; next = first_of c; key = key },
            ap (option_and_then keyed_links) row,
          )

pub further : {format : Format} {content : Content} {tail row done all : ℕ} {e : KeyedLinks}
    {P : Chain → Type 0} (a : AtCell format content tail row done all e P) (Q : Chain → Type 0)
    → Q a.rest → Onward format content tail e.next (done + 1) all Q
further a Q holds =
    record {
      rest = a.rest;
      first_is = a.first_is;
      tail_is = a.tail_is;
      left = a.left;
      rows =
          a.rows;
      holds = holds;
    }
