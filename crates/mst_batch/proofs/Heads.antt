-- A node that stands, by its head that was read.
use Rattle.mst_batch.proofs.Names.{◌≡◌, ◌+◌, ◌-◌, ◌<◌, ◌≤◌, ℕ, Some, None, Option, IsSome, refl, sym, ◌∙◌, ap, subst, arith, option_and_then, Format, Content, part_at, head_links, keyed_links, Placed, none, head, Chain, end, cell, first_of, count_of, head_row, rows_of, HasRows, HeadLinks, KeyedLinks, Lies, LiesBehind, head_of, chain_links, Onward}
use Rattle.mst_read.proofs.Still.{there_still}
use Rattle.mst_read.proofs.Walk.{entry_left}

-- the tree is a node of this head
pub record HasHead (format : Format) (content : Content) (p : Placed) (links : HeadLinks)
    : Type 0 where
  pub row : ℕ
  pub chain : Chain
  pub is : p ≡ head row links.layer chain
  pub lies : LiesBehind format content links chain

pub with_head : {format : Format} {content : Content} (p : Placed) {links : HeadLinks}
    → HasRows content (rows_of format p) → head_of p ≡ Some links
    → HasHead format content p links
with_head none {links} rows is = let nothing : None ≡ Some links = is in cc
with_head (head row l c) {links} rows is =
    let whole : Some (chain_links l c) ≡ Some links = is in
    let fields : chain_links l c ≡ links = cc in
    record {
      row = row;
      chain = c;
      is = ap (λ (x : HeadLinks). head row x.layer c) fields;
      lies = record {
        first = ap (λ (x : HeadLinks). x.first) fields;
        tail = ap (λ (x : HeadLinks). x.tail) fields;
        count = ap (λ (x : HeadLinks). x.count) fields;
        rows = rows.1;
      };
    }

-- the head of the node at a link is there to be read
pub top_there : {format : Format} {content : Content} {link : ℕ} (p : Placed)
    → Lies format content link p → 0 < link → IsSome (part_at head_links content (link - 1))
top_there {content = content} {link} none lies some = absurd (omega (arith, lies.at, some))
top_there {content = content} {link} (head i l chain) lies some =
    let same : link - 1 ≡ i = omega (arith, lies.at) in
    let there : content (link - 1) ≡ Some (head_row _ l chain) = ap content same ∙ lies.rows.0 in
    subst (λ (o : Option HeadLinks). IsSome o)
    (sym (ap (option_and_then head_links) there)) refl

-- and so is the next entry of a walk, if entries are left
module _ {format : Format} {content : Content} {tail next done all : ℕ} {P : Chain → Type 0}
    (o : Onward format content tail next done all P) (left : done < all) where
  pub next_some : 1 ≤ next
  next_some = go o.rest o.first_is o.left
    where
      go : (c : Chain) → first_of c ≡ next → count_of c + done ≡ all → 1 ≤ next
      go (end p) first more = absurd (omega (arith, more, left))
      go (cell at p key v c) first more = omega (arith, first)

  pub next_there : {after : Content} → after ≡ content
      → IsSome (part_at keyed_links after (next - 1))
  next_there same =
      there_still same keyed_links (next - 1)
      (subst (λ (e : Option KeyedLinks). IsSome e) (sym (entry_left o left).1) refl)
