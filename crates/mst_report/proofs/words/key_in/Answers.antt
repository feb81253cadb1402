use Rattle.std.proofs.Common.{rules}
use Rattle.std.proofs.Common.{◌∙◌, arith}
use Rattle.mst_report.proofs.Keys.{too_long}
use Rattle.mst_report.proofs.words.key_in.Goals as goal

pub returns-in_err-bytes : goal.returns-in_err-bytes
returns-in_err-bytes c =
    record {
      key = c.from_residual.ensures ∙ too_long c.args.word.now
          (omega (arith, c.in_err-bytes.ensures.lookup));
    }

pub slice_bounds-get_mut-end : goal.slice_bounds-get_mut-end
slice_bounds-get_mut-end c = search rules

pub get_mut-requires : goal.get_mut-requires
get_mut-requires c within = search rules

pub returns-in_err-ok : goal.returns-in_err-ok
returns-in_err-ok c = search rules

pub returns : goal.returns
returns c = search rules
