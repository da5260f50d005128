use Rattle.gg_trace.proofs.PrintLaws.{printed_value}
use Rattle.gg_trace.proofs.printing.printed_values_are_read.Goals as goal

pub returns : goal.returns
returns c = printed_value
