-- A walk along the entries of a node, up to where a key stands.
use Rattle.mst_path.proofs.Names.{Format, ◌≡◌, ℕ, ◌+◌, ◌-◌, ◌<◌, List, [], ◌∷◌, ◌++◌, length, Some, refl, sym, ◌∙◌, ap, subst, arith, append_assoc, length-append, option_and_then, map-append, last, entry, TreeEntry, with_entries, Content, part_at, keyed_links, Entry, KeyedLinks, HeadLinks, Placed, link_of, tree_of, HasRows, all-append, CellsBelow, own_rows, PlacedEntry, link_from, cell_of, cells_of, entries_to, EntriesLie, CutGap, CutFound, with_entries-append}
use Rattle.std.proofs.Common.{Less, Equal, Greater}
use Rattle.mst_key.specs.Map.{key_cmp}
use Rattle.mst_key.proofs.KeyOrder.{same_from_equal, less_from_greater}
use Rattle.mst_path.proofs.lemmas.rows.CopyRows.{links_are}

-- so many entries are passed, all below the key, and the others begin at the link
pub record Onward (format : Format) (content : Content) (k : List ℕ) (es : List PlacedEntry)
    (link done all : ℕ) : Type 0 where
  pub before : List PlacedEntry
  pub rest : List PlacedEntry
  pub whole : es ≡ before ++ rest
  pub passed : length before ≡ done
  pub left : length rest + done ≡ all
  pub first : link_from 0 rest ≡ link
  pub low : CellsBelow k (cells_of format before)
  pub rows : HasRows content (own_rows 0 rest)

pub onward_starts : (format : Format) (content : Content) (k : List ℕ) (links : HeadLinks)
    (es : List PlacedEntry) → EntriesLie content links es → Onward format content k es links.first 0
    links.count
onward_starts format content k links es lie =
    record {
      before = [];
      rest = es;
      whole = refl;
      passed = refl;
      left = omega (arith, lie.count);
      first = lie.first;
      low = tt;
      rows = lie.rows;
    }

-- the next entry
pub record AtEntry (format : Format) (content : Content) (k : List ℕ) (es : List PlacedEntry)
    (link done all : ℕ) (o : Onward format content k es link done all) : Type 0 where
  pub here : PlacedEntry
  pub more : List PlacedEntry
  pub is : o.rest ≡ here ∷ more
  pub at : here.at ≡ link - 1
  pub link_is : link ≡ here.at + 1
  pub row : content (link - 1) ≡ Some
      (Entry (link_of here.child) (link_from 0 more) here.key here.value)
  pub rows : HasRows content (own_rows 0 more)

pub at_entry : (format : Format) (content : Content) (k : List ℕ) (es : List PlacedEntry)
    (link done all : ℕ) (o : Onward format content k es link done all) → done < all
    → AtEntry format content k es link done all o
at_entry format content k es link done all o lt = go o.rest refl
  where
    go : (l : List PlacedEntry) → o.rest ≡ l → AtEntry format content k es link done all o
    go [] e = absurd (omega (arith, lt, o.left, ap (λ (l : List PlacedEntry). length l) e))
    go (x ∷ xs) e =
        let link_is : x.at + 1 ≡ link = sym (ap (link_from 0) e) ∙ o.first in
        let at : x.at ≡ link - 1 = omega (arith, link_is) in
        let rows : HasRows content (own_rows 0 (x ∷ xs)) =
        subst (λ (l : List PlacedEntry). HasRows content (own_rows 0 l)) e o.rows in
        record {
          here = x;
          more = xs;
          is = e;
          at = at;
          link_is = sym link_is;
          row =
              ap content (sym at) ∙ rows.0;
          rows = rows.1;
        }

-- the links and the key of the next entry
pub next_links : (format : Format) (content : Content) (k : List ℕ) (es : List PlacedEntry)
    (link done all : ℕ) → Onward format content k es link done all → done < all → (e : KeyedLinks)
    × (part_at keyed_links content (link - 1) ≡ Some e)
next_links format content k es link done all o lt =
    let a = at_entry format content k es link done all o lt in (
      record { child = link_of a.here.child; next = link_from 0 a.more; key = a.here.key },
      ap (option_and_then keyed_links) a.row,
    )

-- ---- entries and cells

pub link_from-append : (es fs : List PlacedEntry) → link_from 0 (es ++ fs) ≡ link_from
    (link_from 0 fs) es
link_from-append [] fs = refl
link_from-append (e ∷ es) fs = refl

pub cells-append : (format : Format) (es fs : List PlacedEntry) → cells_of format (es ++ fs)
    ≡ cells_of format es ++ cells_of format fs
cells-append format es fs = map-append (cell_of format) es fs

pub entries_to-append : (format : Format) (es fs : List PlacedEntry) (tail : Placed)
    → entries_to format (es ++ fs) tail ≡ with_entries (cells_of format es)
    (entries_to format fs tail)
entries_to-append format es fs tail =
    ap (λ (cs : List TreeEntry). with_entries cs (last (tree_of format tail)))
    (cells-append format es fs) ∙ with_entries-append (cells_of format es) (cells_of format fs)
    (last (tree_of format tail))

module _ (format : Format) (content : Content) (k : List ℕ) (links : HeadLinks)
    (es : List PlacedEntry) (lie : EntriesLie content links es) (link done all : ℕ)
    (all_is : all ≡ links.count) (o : Onward format content k es link done all) where
  begins : link_from link o.before ≡ links.first
  begins = ap (λ (n : ℕ). link_from n o.before) (sym o.first)
      ∙ sym (link_from-append o.before o.rest) ∙ ap (link_from 0) (sym o.whole) ∙ lie.first

  entries_are : (tail : Placed) → entries_to format es tail ≡ with_entries
      (cells_of format o.before) (entries_to format o.rest tail)
  entries_are tail = ap (λ (l : List PlacedEntry). entries_to format l tail) o.whole
      ∙ entries_to-append format o.before o.rest tail

  -- nothing is left
  pub cut_end : (tail : Placed) → link_of tail ≡ links.tail → all ≡ done → CutGap format k es tail
      (record { first = links.first; count = links.count }) links.tail
      (record { first = 0; count = 0 })
  cut_end tail tail_is end = go o.rest refl
    where
      go : (l : List PlacedEntry) → o.rest ≡ l → CutGap format k es tail
          (record { first = links.first; count = links.count }) links.tail
          (record { first = 0; count = 0 })
      go (x ∷ xs) e = absurd (omega (arith, o.left, end, ap (λ (l : List PlacedEntry). length l) e))
      go [] e =
          let first : link_from 0 [] ≡ link = sym (ap (link_from 0) e) ∙ o.first in
          record {
            before = o.before;
            behind = [];
            whole = o.whole ∙ ap (λ (l : List PlacedEntry). o.before ++ l) e;
            front_is =
                record {
                  counted = omega (arith, o.passed, end, all_is);
                  begins =
                      ap (λ (n : ℕ). link_from n o.before) first ∙ begins;
                };
            back_is = record { counted = refl; begins = refl };
            child_at = tail_is;
            gap =
                record {
                  whole =
                      entries_are tail
                      ∙ ap (λ (l : List PlacedEntry). with_entries (cells_of format o.before)
                      (entries_to format l tail)) e;
                  low = o.low;
                  high = tt;
                };
          }

  module _ (lt : done < all) (e : KeyedLinks)
      (part : part_at keyed_links content (link - 1) ≡ Some e) where
    a : AtEntry format content k es link done all o
    a = at_entry format content k es link done all o lt

    read : (e.child ≡ link_of a.here.child) × (e.next ≡ link_from 0 a.more) × (e.key ≡ a.here.key)
    read = links_are (content (link - 1)) e (link_of a.here.child) (link_from 0 a.more) a.here.key
        a.here.value a.row part

    whole_is : es ≡ o.before ++ a.here ∷ a.more
    whole_is = o.whole ∙ ap (λ (l : List PlacedEntry). o.before ++ l) a.is

    counted : length a.more + 1 + done ≡ all
    counted = omega (arith, o.left, ap (λ (l : List PlacedEntry). length l) a.is)

    entries_here : (tail : Placed) → entries_to format es tail ≡ with_entries
        (cells_of format o.before)
        (entry (tree_of format a.here.child) a.here.key a.here.value
        (entries_to format a.more tail))
    entries_here tail =
        entries_are tail
        ∙ ap (λ (l : List PlacedEntry). with_entries (cells_of format o.before)
        (entries_to format l tail)) a.is

    -- the key falls in front of the entry
    pub cut_gap : (tail : Placed) → key_cmp k e.key ≡ Less → CutGap format k es tail
        (record { first = links.first; count = done }) e.child
        (record { first = link; count = links.count - done })
    cut_gap tail less = record {
      before = o.before;
      behind = a.here ∷ a.more;
      whole = whole_is;
      front_is =
          record {
            counted = o.passed;
            begins = ap (λ (n : ℕ). link_from n o.before) (sym a.link_is)
                ∙ begins;
          };
      back_is = record { counted = omega (arith, counted, all_is); begins = sym a.link_is };
      child_at = sym read.0;
      gap =
          record {
            whole = entries_here tail;
            low = o.low;
            high = ap (key_cmp k) (sym read.2)
                ∙ less;
          };
    }

    -- the entry has the key
    pub cut_found : (tail : Placed) → key_cmp k e.key ≡ Equal → CutFound format k es tail
        (record { first = links.first; count = done }) (link - 1) e.child
        (record { first = e.next; count = links.count - done - 1 })
    cut_found tail equal =
        let same : a.here.key ≡ k = sym read.2 ∙ sym (same_from_equal k e.key equal) in
        record {
          before = o.before;
          here = a.here;
          behind = a.more;
          whole = whole_is;
          front_is =
              record {
                counted = o.passed;
                begins =
                    ap (λ (n : ℕ). link_from n o.before) (omega (arith, a.link_is)) ∙ begins;
              };
          back_is = record { counted = omega (arith, counted, all_is); begins = sym read.1 };
          row_is = a.at;
          key_is = same;
          child_at = sym read.0;
          at = record {
            whole =
                entries_here tail
                ∙ ap (λ (key : List ℕ). with_entries (cells_of format o.before)
                (entry (tree_of format a.here.child) key a.here.value
                (entries_to format a.more tail))) same;
            low = o.low;
          };
        }

    -- the entry is below the key
    pub cut_on : key_cmp k e.key ≡ Greater → Onward format content k es e.next (done + 1) all
    cut_on more =
        let less : key_cmp a.here.key k ≡ Less =
        less_from_greater k a.here.key (ap (key_cmp k) (sym read.2) ∙ more) in
        let one = cell_of format a.here ∷ [] in
        record {
          before = o.before ++ a.here ∷ [];
          rest = a.more;
          whole = whole_is ∙ sym (append_assoc o.before (a.here ∷ []) a.more);
          passed = length-append o.before (a.here ∷ []) ∙ omega (arith, o.passed);
          left = omega (arith, counted);
          first = sym read.1;
          low = subst (CellsBelow k) (sym (cells-append format o.before (a.here ∷ [])))
              (all-append (λ c. key_cmp c.key k ≡ Less) (cells_of format o.before) one o.low
              (less, tt));
          rows = a.rows;
        }
