-- Answers as the code keeps them, and their text.
use Rattle.std.specs.Prelude.{ℕ, List, [], ◌++◌, codes}
use Rattle.hex.specs.Hex.{encode_lower}
use Rattle.mst_key.specs.Digits.{digits_of}
use Rattle.mst_requests.specs.declared.answer.Answer.{Answer}
use Rattle.mst_requests.specs.declared.answer.Answer.TheVariants.{Refused, Value, Pair, Pairs, Root, Pinned, Unpinned, Rows, Format, Was, Done, Bytes, NoNode, Busy, Spent, NoRoom, Memory}
use Rattle.mst_requests.specs.Texts.{line_of, fault_words, value_words, found_words, count_words, pair_lines, pinned_words, rows_words, format_words, was_words}

-- the words of the first line, without the digits of bytes, which may be many
abbrev pub first_words : {A : Type 0} → Answer A → List ℕ
first_words (Refused fault) = fault_words fault
first_words (Value found) = value_words found
first_words (Pair found) = found_words found
first_words (Pairs found) = count_words found.items
first_words (Root digest) = digits_of digest
first_words (Pinned version) = pinned_words version
first_words Unpinned = codes "unpinned"
first_words (Rows found) = rows_words found
first_words (Format format) = format_words format
first_words (Was format) = was_words format
first_words Done = codes "done"
first_words (Bytes found) = []
first_words NoNode = codes "empty"
first_words Busy = codes "busy"
first_words Spent = codes "spent"
first_words NoRoom = codes "noroom"
first_words (Memory refused) = codes "memory"

-- all lines
abbrev pub text_of : {A : Type 0} → Answer A → List ℕ
text_of (Refused fault) = line_of (fault_words fault)
text_of (Value found) = line_of (value_words found)
text_of (Pair found) = line_of (found_words found)
text_of (Pairs found) = line_of (count_words found.items) ++ pair_lines found.items
text_of (Root digest) = line_of (digits_of digest)
text_of (Pinned version) = line_of (pinned_words version)
text_of Unpinned = line_of (codes "unpinned")
text_of (Rows found) = line_of (rows_words found)
text_of (Format format) = line_of (format_words format)
text_of (Was format) = line_of (was_words format)
text_of Done = line_of (codes "done")
text_of (Bytes found) = line_of (encode_lower found.items)
text_of NoNode = line_of (codes "empty")
text_of Busy = line_of (codes "busy")
text_of Spent = line_of (codes "spent")
text_of NoRoom = line_of (codes "noroom")
text_of (Memory refused) = line_of (codes "memory")
