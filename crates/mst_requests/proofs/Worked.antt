-- The definitions at lines that were worked by hand.
use Rattle.mst_requests.proofs.Names.{◌≡◌, ℕ, List, [], ◌∷◌, ◌++◌, refl, ap, arith, Some, None, Ok, Err, FieldCount, asked}
use Rattle.std.proofs.Common.{codes}
use Rattle.std.proofs.lemmas.Fmt.{decimal_digit}
use Rattle.mst_requests.specs.declared.request.Fault.TheVariants.{NoPass, NoCommand, BadField, KeySize}
use Rattle.mst_requests.specs.declared.request.Command.TheVariants.{Root, Pin, Unpin, Batch}
use Rattle.mst_requests.specs.Fields.{count_in, bytes_of}
use Rattle.mst_requests.specs.Texts.{pinned_words}
use Rattle.mst_key.specs.declared.history.Edit.TheVariants as edit
use Rattle.mst_lines.specs.Lines.{kept}
use Rattle.hex.specs.Hex.{decode_pairs}

no_such_pass : asked 4 (kept (codes "9 get 61")) ≡ Err NoPass
no_such_pass = refl

empty_line : asked 4 (kept []) ≡ Err NoPass
empty_line = refl

tab : asked 4 (kept (codes "1\troot")) ≡ Err NoPass
tab = refl

pass_alone : asked 4 (kept (codes "1")) ≡ Err NoCommand
pass_alone = refl

no_such_command : asked 4 (kept (codes "1 frob")) ≡ Err NoCommand
no_such_command = refl

no_key : asked 4 (kept (codes "1 get")) ≡ Err FieldCount
no_key = refl

two_blanks : asked 4 (kept (codes "1 get  61")) ≡ Err FieldCount
two_blanks = refl

root_asked : asked 4 (kept (codes "2 root")) ≡ Ok record { pass = 2; command = Root }
root_asked = refl

pin_asked : asked 4 (kept (codes "2 pin")) ≡ Ok record { pass = 2; command = Pin }
pin_asked = refl

unpin_asked : asked 4 (kept (codes "4 unpin")) ≡ Ok record { pass = 4; command = Unpin }
unpin_asked = refl

pin_of_a_key : asked 4 (kept (codes "1 pin 61")) ≡ Err FieldCount
pin_of_a_key = refl

blank_behind_unpin : asked 4 (kept (codes "1 unpin ")) ≡ Err FieldCount
blank_behind_unpin = refl

version_pinned : pinned_words 1 ≡ codes "pinned 1"
version_pinned = ap (λ (digits : List ℕ). codes "pinned " ++ digits) (decimal_digit 1 (omega arith))

most_pairs : count_in (codes "65535") ≡ Some 65535
most_pairs = refl

too_many_pairs : count_in (codes "65536") ≡ None
too_many_pairs = refl

zero_before : count_in (codes "01") ≡ None
zero_before = refl

no_pairs : count_in (codes "0") ≡ Some 0
no_pairs = refl

-- ---- batches

no_edits : asked 4 (kept (codes "1 batch")) ≡ Ok record { pass = 1; command = Batch [] }
no_edits = refl

two_edits : asked 4 (kept (codes "3 batch put 61 3130 del 62")) ≡ Ok record {
  pass = 3;
  command = Batch (edit.Put (97 ∷ []) (49 ∷ 48 ∷ []) ∷ edit.Remove (98 ∷ []) ∷ []);
}
unfolding bytes_of decode_pairs
two_edits = refl

one_key_twice : asked 4 (kept (codes "1 batch del 61 put 61 - put 61 30")) ≡ Ok record {
  pass = 1;
  command = Batch (edit.Remove (97 ∷ []) ∷ edit.Put (97 ∷ []) [] ∷ edit.Put (97 ∷ []) (48 ∷ [])
      ∷ []);
}
unfolding bytes_of decode_pairs
one_key_twice = refl

unknown_edit : asked 4 (kept (codes "1 batch del 61 get 62")) ≡ Err FieldCount
unknown_edit = refl

put_without_value : asked 4 (kept (codes "1 batch del zz put 62")) ≡ Err FieldCount
put_without_value = refl

blank_behind_batch : asked 4 (kept (codes "1 batch ")) ≡ Err FieldCount
blank_behind_batch = refl

-- the empty key of the first edit is told after what spells nothing, and before the size of the
-- second
bad_field_later : asked 4 (kept (codes "1 batch del - put 61 3")) ≡ Err BadField
unfolding bytes_of decode_pairs
bad_field_later = refl

key_size_first : asked 4 (kept (codes "1 batch del - put 61 30")) ≡ Err KeySize
unfolding bytes_of decode_pairs
key_size_first = refl
