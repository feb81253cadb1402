-- Where a search for a key goes on from an entry, and the order of two keys by words.
use Rattle.std.specs.Prelude.{ℕ, zero, suc, ◌+◌, ◌%◌, List, length, Option, Some, None, option_and_then}
use Rattle.std.specs.declared.cmp.Ordering.{Ordering}
use Rattle.std.specs.Ordering.{nat_cmp, ordering_then}
use Rattle.mst_key.specs.Map.{key_cmp}
use Rattle.mst_node.specs.Trail.{by_order}
use Rattle.mst_arena.specs.Content.{Content, part_at}
use Rattle.mst_arena.specs.Words.{word_from, lengths_word, length_radix, first_key_word}
use Rattle.mst_arena.specs.declared.row.Row.{Row}
use Rattle.mst_arena.specs.declared.row.Row.TheVariants.{Entry, Head}
use Rattle.mst_arena.specs.declared.sought.Way.{Way}
use Rattle.mst_arena.specs.declared.sought.Way.TheVariants.{Child, Here, Next}
use Rattle.mst_arena.specs.declared.sought.Stop.{Stop}
use Rattle.mst_arena.specs.declared.sought.Stop.TheVariants.{Gap, Found, End}

-- the way to a key from an entry that has these links and this key
abbrev pub way_at : List ℕ → ℕ → ℕ → List ℕ → Way
way_at k child next key = by_order (key_cmp k key) (Child child) Here (Next next)

-- the way to a key from a row, if it is an entry
abbrev pub entry_way : List ℕ → Row → Option Way
entry_way k (Entry child next key value) = Some (way_at k child next key)
entry_way k (Head layer count first tail digest) = None

-- a search that goes this way from the entry at a link, when so many entries are left with it: it
-- ends there, or goes on at the next link
abbrev pub by_way : ℕ → ℕ → (ℕ → Option Stop) → Way → Option Stop
by_way link left onward (Child child) = Some (Gap link child left)
by_way link left onward Here = Some (Found link left)
by_way link left onward (Next next) = onward next

-- where a search for a key ends among so many entries of which the first has this link
abbrev pub stop_from : List ℕ → Content → ℕ → ℕ → Option Stop
stop_from k content zero link = Some End
stop_from k content (suc n) zero = None
stop_from k content (suc n) (suc row) =
    option_and_then (by_way (suc row) (suc n) (stop_from k content n))
    (part_at (entry_way k) content row)

-- the order of a key and of that whose length and bytes stand in words 3 to 7: the first words that
-- differ decide, or the lengths if no words differ
abbrev pub words_order : List ℕ → (ℕ → ℕ) → Ordering
words_order k word =
    ordering_then (ordering_then (ordering_then (ordering_then
    (nat_cmp (word_from k 0) (word first_key_word))
    (nat_cmp (word_from k 8) (word (first_key_word + 1))))
    (nat_cmp (word_from k 16) (word (first_key_word + 2))))
    (nat_cmp (word_from k 24) (word (first_key_word + 3))))
    (nat_cmp (length k) (word lengths_word % length_radix))
