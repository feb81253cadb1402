use Rattle.mst_c.proofs.WorkedEdits as worked
use Rattle.mst_c.proofs.laws.worked_batches.Goals as goal

pub returns : goal.returns
returns c = record {
  none = worked.none;
  put = worked.put;
  two = worked.two;
  no_key = worked.no_key;
  long_key = worked.long_key;
  high_byte = worked.high_byte;
  long_value = worked.long_value;
  no_lengths = worked.no_lengths;
  cut_short = worked.cut_short;
  kind = worked.kind;
  removed_value = worked.removed_value;
}
