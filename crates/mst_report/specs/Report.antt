-- What is said of a proof that is spelt in hexadecimal digits.
use Rattle.std.specs.Prelude.{ℕ, ◌-◌, ◌==◌, nat_lt, Bool, true, false, if◌then◌else◌, List, [], ◌∷◌, ◌++◌, length, take, slice_index, codes, Option, Some, None, Result, Ok, Err}
use Rattle.hex.specs.Hex.{decode_of}
use Rattle.hex.specs.declared.error.FromHexError.{FromHexError}
use Rattle.mst_key.specs.Digits.{digits_of}
use Rattle.mst_key.specs.declared.format.Format.{Format}
use Rattle.mst_proof.specs.declared.fault.ProofFault.{ProofFault}
use Rattle.mst_proof.specs.declared.fault.ProofFault.TheVariants.{FormatByte, CutShort, LeftOver, NoNode, OtherDigest, LayerNotBelow, KeyOutside, Unfinished, TextBehind, OtherValue}
use Rattle.mst_proof.specs.Verdict.{verdict}
use Rattle.mst_sharded_proof.specs.declared.fault.ShardedFault.{ShardedFault}
use Rattle.mst_sharded_proof.specs.declared.fault.ShardedFault.TheVariants.{FormatByte as OtherFormatByte, CutShort as Cut, NoKey, Directory, NotListed, NoListing, KeyBelow, KeyNotBelow, Shard}
use Rattle.mst_sharded_proof.specs.Verdict.{sharded_verdict}
use Rattle.mst_report.specs.declared.report.ProofKind.{ProofKind}
use Rattle.mst_report.specs.declared.report.ProofKind.TheVariants.{Plain, Sharded}
use Rattle.mst_report.specs.declared.report.Report.{Report}
use Rattle.mst_report.specs.declared.report.Report.TheVariants.{Present, Absent, Refused, ShardedRefused, NotHex, Long}

-- how many bytes a text has at most, its newline included
abbrev pub limit : ℕ
limit = 33554432

-- a text without the newline at its end, if there is one
abbrev pub without_newline : List ℕ → List ℕ
without_newline text =
    if slice_index text (length text - 1) == 10 then take (length text - 1) text else text

abbrev pub said : Result (Option (List ℕ)) ProofFault → Report
said (Ok (Some v)) = Present v
said (Ok None) = Absent
said (Err fault) = Refused fault

abbrev pub said_sharded : Result (Option (List ℕ)) ShardedFault → Report
said_sharded (Ok (Some v)) = Present v
said_sharded (Ok None) = Absent
said_sharded (Err fault) = ShardedRefused fault

-- what a proof of a kind shows, in a format, for a root digest and a key
abbrev pub said_by : ProofKind → Format → List ℕ → List ℕ → List ℕ → Report
said_by Plain format root k proof = said (verdict format root k proof)
said_by Sharded format root k proof = said_sharded (sharded_verdict format root k proof)

abbrev pub said_of : ProofKind → Format → List ℕ → List ℕ → Result (List ℕ) FromHexError → Report
said_of kind format root k (Ok proof) = said_by kind format root k proof
said_of kind format root k (Err e) = NotHex

-- what is said of the text of a proof of a kind in a format, for a root digest and a key: its
-- length is tested first, then its digits, then the proof that they spell
abbrev pub report_of : ProofKind → Format → List ℕ → List ℕ → List ℕ → Report
report_of kind format root k text =
    if nat_lt limit (length text) then Long
    else said_of kind format root k (decode_of (without_newline text))

-- ---- as it is written

abbrev pub fault_words : ProofFault → List ℕ
fault_words FormatByte = codes "P1"
fault_words CutShort = codes "P2"
fault_words LeftOver = codes "P3"
fault_words NoNode = codes "P4"
fault_words OtherDigest = codes "P5"
fault_words LayerNotBelow = codes "P6"
fault_words KeyOutside = codes "P7"
fault_words Unfinished = codes "P8"
fault_words TextBehind = codes "P9"
fault_words OtherValue = codes "P10"

-- the test of a proof of a sharded map
abbrev pub test_words : ShardedFault → List ℕ
test_words OtherFormatByte = codes "S1"
test_words Cut = codes "S2"
test_words NoKey = codes "S3"
test_words (Directory fault) = codes "S4"
test_words NotListed = codes "S5"
test_words NoListing = codes "S6"
test_words KeyBelow = codes "S7"
test_words KeyNotBelow = codes "S8"
test_words (Shard fault) = codes "S9"

-- the test that a part of the proof fails, where the fault is that of a part
abbrev pub part_fault : ShardedFault → Option ProofFault
part_fault (Directory fault) = Some fault
part_fault (Shard fault) = Some fault
part_fault _ = None

abbrev pub part_words : Option ProofFault → List ℕ
part_words None = []
part_words (Some fault) = codes " " ++ fault_words fault

abbrev pub sharded_words : ShardedFault → List ℕ
sharded_words fault = test_words fault ++ part_words (part_fault fault)

abbrev pub words_of : Report → List ℕ
words_of (Present v) = codes "present " ++ digits_of v
words_of Absent = codes "absent"
words_of (Refused fault) = fault_words fault
words_of (ShardedRefused fault) = sharded_words fault
words_of NotHex = codes "fault hex"
words_of Long = codes "fault long"

-- the words with the newline that ends their line
unfoldable pub line_of : Report → List ℕ
line_of report = words_of report ++ 10 ∷ []

-- whether the text is no proof of an answer
abbrev pub is_refusal : Report → Bool
is_refusal (Present v) = false
is_refusal Absent = false
is_refusal (Refused fault) = true
is_refusal (ShardedRefused fault) = true
is_refusal NotHex = true
is_refusal Long = true
