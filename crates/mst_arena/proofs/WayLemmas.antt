-- The way to a key from an entry, by its links and by its words.
use Rattle.mst_arena.proofs.Names.{◌≡◌, ℕ, ◌*◌, ◌+◌, ◌≤◌, List, length, Option, Some, None, Ordering, Less, Equal, Greater, refl, sym, ◌∙◌, ap, arith, slice_index, option_and_then, IsKey, IsBytes, key_cmp, Row, Entry, Head, KeyedLinks, Way, Child, Here, Next, Content, part_at, IsRow, HasBytes, keyed_links, words_of, part_in, entry_way, words_order}
use Rattle.std.specs.Prelude.{IsSome}
use Rattle.mst_node.specs.Trail.{by_order}
use Rattle.mst_arena.specs.Ways.{way_at}
use Rattle.mst_arena.proofs.Readers.{EntryIn, entry_with}
use Rattle.mst_arena.proofs.WordOrder.{by_words}

-- from the links and the key of an entry
pub from_links : (k : List ℕ) (o : Option Row) (e : KeyedLinks) → option_and_then keyed_links o
    ≡ Some e → option_and_then (entry_way k) o ≡ Some (way_at k e.child e.next e.key)
from_links k None e is = absurd (let no : None ≡ Some e = is in cc)
from_links k (Some (Head layer count first tail digest)) e is =
    absurd (let no : None ≡ Some e = is in cc)
from_links k (Some (Entry child next key value)) e is =
    let some : Some (record { child = child; next = next; key = key }) ≡ Some e = is in
    let fields : record { child = child; next = next; key = key } ≡ e = cc in
    ap (λ (x : KeyedLinks). Some (way_at k x.child x.next x.key)) fields

-- the way that was returned is that from the entry
pub way_is : (content : Content) (row : ℕ) (k : List ℕ) (e : KeyedLinks) (w : Way)
    → part_at keyed_links content row ≡ Some e → part_at (entry_way k) content row ≡ Some w
    → way_at k e.child e.next e.key ≡ w
way_is content row k e w part is =
    let both : Some (way_at k e.child e.next e.key) ≡ Some w =
    sym (from_links k (content row) e part) ∙ is in
    cc

-- what a way says of the order and of the link
child_way : (r : Ordering) (child next link : ℕ) → by_order r (Child child) Here (Next next) ≡ Child
    link → (r ≡ Less) × (child ≡ link)
child_way Less child next link is = (refl, cc)
child_way Equal child next link is = absurd cc
child_way Greater child next link is = absurd cc

here_way : (r : Ordering) (child next : ℕ) → by_order r (Child child) Here (Next next) ≡ Here
    → r ≡ Equal
here_way Less child next is = absurd cc
here_way Equal child next is = refl
here_way Greater child next is = absurd cc

next_way : (r : Ordering) (child next link : ℕ) → by_order r (Child child) Here (Next next) ≡ Next
    link → (r ≡ Greater) × (next ≡ link)
next_way Less child next link is = absurd cc
next_way Equal child next link is = absurd cc
next_way Greater child next link is = (refl, cc)

pub to_child : (k : List ℕ) (e : KeyedLinks) (link : ℕ) → way_at k e.child e.next e.key ≡ Child link
    → (key_cmp k e.key ≡ Less) × (e.child ≡ link)
to_child k e link = child_way (key_cmp k e.key) e.child e.next link

pub is_here : (k : List ℕ) (e : KeyedLinks) → way_at k e.child e.next e.key ≡ Here → key_cmp k e.key
    ≡ Equal
is_here k e = here_way (key_cmp k e.key) e.child e.next

pub to_next : (k : List ℕ) (e : KeyedLinks) (link : ℕ) → way_at k e.child e.next e.key ≡ Next link
    → (key_cmp k e.key ≡ Greater) × (e.next ≡ link)
to_next k e link = next_way (key_cmp k e.key) e.child e.next link

-- the words of an entry: its links are small, and the order by words chooses the way
pub record WayIn (k words : List ℕ) : Type 0 where
  pub child : slice_index words 1 ≤ 65535
  pub next : slice_index words 2 ≤ 65535
  pub way : part_in (entry_way k) words ≡ Some
      (by_order (words_order k (slice_index words)) (Child (slice_index words 1)) Here
      (Next (slice_index words 2)))

pub way_in_words : (k words : List ℕ) → IsKey k → IsBytes k → IsSome (part_in keyed_links words)
    → WayIn k words
way_in_words k words size all some =
    let e : EntryIn words = entry_with keyed_links words (λ layer count first tail digest. refl)
    some in
    let limits : IsRow (Entry e.child e.next e.key e.value) = e.limits in
    let bytes : HasBytes (Entry e.child e.next e.key e.value) = e.bytes in
    let spelt : List ℕ = words_of (Entry e.child e.next e.key e.value) in
    let at : (i : ℕ) → slice_index words i ≡ slice_index spelt i =
    λ i. ap (λ (l : List ℕ). slice_index l i) (sym e.same) in
    let one : slice_index words 1 ≡ e.child = at 1 in
    let two : slice_index words 2 ≡ e.next = at 2 in
    let three : slice_index words 3 ≡ length e.key + 256 * length e.value = at 3 in
    let order : words_order k (slice_index words) ≡ key_cmp k e.key =
    by_words k e.key (slice_index words) all bytes.1 size.1 bytes.0.1 (at 4) (at 5) (at 6)
    (at 7) (omega (arith, three, bytes.0)) in
    record {
      child = omega (arith, one, limits.0);
      next = omega (arith, two, limits.1);
      way = ap (option_and_then (entry_way k)) e.row ∙ sym (ap Some (rw (order, one, two) refl));
    }
