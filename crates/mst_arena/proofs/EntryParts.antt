-- The links of an entry without its key, and its key with its value.
use Rattle.mst_arena.proofs.Names.{◌≡◌, ◌≤◌, ℕ, List, Option, Some, None, IsSome, refl, ◌∙◌, ap, arith, option_and_then, slice_index, Row, Entry, Head, KeyedLinks, Content, part_at, IsRow, keyed_links, entry_pair, entry_value, part_in}
use Rattle.mst_arena.specs.declared.row.BareLinks.{BareLinks}
use Rattle.mst_arena.specs.Row.{bare_links}
use Rattle.mst_arena.proofs.Readers.{EntryIn, entry_with}

-- the words of an entry: its links are small, and stand in words 1 and 2
pub record LinksIn (words : List ℕ) : Type 0 where
  pub child : slice_index words 1 ≤ 65535
  pub next : slice_index words 2 ≤ 65535
  pub ends : part_in bare_links words ≡ Some
      (record { child = slice_index words 1; next = slice_index words 2 })

pub links_in_words : (words : List ℕ) → IsSome (part_in keyed_links words) → LinksIn words
links_in_words words some =
    let e : EntryIn words = entry_with keyed_links words (λ layer count first tail digest. refl)
    some in
    let limits : IsRow (Entry e.child e.next e.key e.value) = e.limits in
    let one : e.child ≡ slice_index words 1 = ap (λ (l : List ℕ). slice_index l 1) e.same in
    let two : e.next ≡ slice_index words 2 = ap (λ (l : List ℕ). slice_index l 2) e.same in
    record {
      child = omega (arith, one, limits.0);
      next = omega (arith, two, limits.1);
      ends = ap (option_and_then bare_links) e.row
          ∙ (λ i. Some (record { child = one i; next = two i }));
    }

-- from the links with the key
pub ends_of : (o : Option Row) (e : KeyedLinks) → option_and_then keyed_links o ≡ Some e
    → option_and_then bare_links o ≡ Some (record { child = e.child; next = e.next })
ends_of None e is = absurd (let no : None ≡ Some e = is in cc)
ends_of (Some (Head layer count first tail digest)) e is =
    absurd (let no : None ≡ Some e = is in cc)
ends_of (Some (Entry child next key value)) e is =
    let some : Some (record { child = child; next = next; key = key }) ≡ Some e = is in
    let fields : record { child = child; next = next; key = key } ≡ e = cc in
    ap (λ (x : KeyedLinks). Some (record { child = x.child; next = x.next })) fields

pub pair_of : (o : Option Row) (e : KeyedLinks) (v : List ℕ) → option_and_then keyed_links o
    ≡ Some e → option_and_then entry_value o ≡ Some v → option_and_then entry_pair o ≡ Some
    (e.key, v)
pair_of None e v is held = absurd (let no : None ≡ Some e = is in cc)
pair_of (Some (Head layer count first tail digest)) e v is held =
    absurd (let no : None ≡ Some e = is in cc)
pair_of (Some (Entry child next key value)) e v is held =
    let some : Some (record { child = child; next = next; key = key }) ≡ Some e = is in
    let fields : record { child = child; next = next; key = key } ≡ e = cc in
    let whole : Some value ≡ Some v = held in
    let same : value ≡ v = cc in
    let key_is : key ≡ e.key = ap (λ (x : KeyedLinks). x.key) fields in
    λ i. Some (key_is i, same i)

-- an entry has a value
pub value_there : (o : Option Row) → IsSome (option_and_then keyed_links o)
    → IsSome (option_and_then entry_value o)
value_there None some = some
value_there (Some (Head layer count first tail digest)) some = some
value_there (Some (Entry child next key value)) some = refl

-- back to the links with some key
links_from : (o : Option Row) (l : BareLinks) → option_and_then bare_links o ≡ Some l
    → (k : List ℕ)
    × (option_and_then keyed_links o ≡ Some (record { child = l.child; next = l.next; key = k }))
links_from None l is = absurd (let no : None ≡ Some l = is in cc)
links_from (Some (Head layer count first tail digest)) l is =
    absurd (let no : None ≡ Some l = is in cc)
links_from (Some (Entry child next key value)) l is =
    let some : Some (record { child = child; next = next }) ≡ Some l = is in
    let fields : record { child = child; next = next } ≡ l = cc in (
      key,
      ap (λ (x : BareLinks). Some (record { child = x.child; next = x.next; key = key })) fields,
    )

pub links_at : (content : Content) (row : ℕ) (l : BareLinks) → part_at bare_links content row ≡ Some
    l
    → (k : List ℕ)
    × (part_at keyed_links content row ≡ Some (record { child = l.child; next = l.next; key = k }))
links_at content row l = links_from (content row) l
