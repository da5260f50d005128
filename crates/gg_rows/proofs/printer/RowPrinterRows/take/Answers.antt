use Rattle.std.proofs.Common.{refl, arith}
use Rattle.gg_io.proofs.EndingLemmas.{exit-is}
use Rattle.gg_io.proofs.WritingLemmas.{none-front}
use Rattle.gg_rows.proofs.printer.RowPrinterRows.take.Goals as goal

pub returns-in_err-text : goal.returns-in_err-text
returns-in_err-text g c =
    record {
      prints = rw (exit-is c.from_residual.ensures.1) (none-front _ _ _ refl);
      goes = rw (exit-is c.from_residual.ensures.1) (tt {0});
      on = record { faults_stay_or_rise = omega arith; refused_stay_or_rise = omega arith };
    }
