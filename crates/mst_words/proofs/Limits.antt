-- A head that words spell is within its limits.
use Rattle.mst_words.proofs.Names.{◌≡◌, ℕ, List, Bool, true, false, Option, Some, None, refl, subst, if◌then◌else◌, option_and_then, part_at, head_links, row_in, Row, Entry, View, known_row, rows_in, may_read, content_of}
use Rattle.mst_arena.specs.Row.{IsRow, IsHead}
use Rattle.mst_arena.specs.declared.row.HeadLinks.{HeadLinks}
use Rattle.mst_arena.specs.declared.row.Row.TheVariants.{Head}
use Rattle.mst_arena.proofs.Spelling.{words_of_row}

spelt_head : (words : List ℕ) (h : HeadLinks) → option_and_then head_links (row_in words) ≡ Some h
    → IsHead h
spelt_head words h is = go (row_in words) refl is
  where
    go : (o : Option Row) → row_in words ≡ o → option_and_then head_links o ≡ Some h → IsHead h
    go None e is = absurd (let no : None ≡ Some h = is in cc)
    go (Some (Entry child next key value)) e is = absurd (let no : None ≡ Some h = is in cc)
    go (Some (Head layer count first tail digest)) e is =
        let limits : IsRow (Head layer count first tail digest) =
        (words_of_row words (Head layer count first tail digest) e).0 in
        let some : Some (record { layer = layer; count = count; first = first; tail = tail }) ≡ Some
        h = is in
        let fields : record { layer = layer; count = count; first = first; tail = tail } ≡ h = cc in
        subst IsHead fields limits

pub head_within : (v : View) (x : ℕ) (h : HeadLinks) → part_at head_links (content_of v) x ≡ Some h
    → IsHead h
head_within v x h is = go (may_read v x) is
  where
    go : (b : Bool) → option_and_then head_links (if b then rows_in (known_row v) x else None)
        ≡ Some h → IsHead h
    go true is = spelt_head _ h is
    go false is = absurd (let no : None ≡ Some h = is in cc)
