use Rattle.std.proofs.Common.{arith}
use Rattle.std.proofs.lemmas.Bool.Decides.{nat_tests}
use Rattle.mst_report.proofs.Digits.{of_even}
use Rattle.mst_report.proofs.report.is_hex.Goals as goal

pub returns : goal.returns
returns c =
    record {
      hex = of_even c.args.text.now c.are_digits.result c.are_digits.ensures.all
          (grind (arith, nat_tests, c.if-text-ne0.false));
    }
