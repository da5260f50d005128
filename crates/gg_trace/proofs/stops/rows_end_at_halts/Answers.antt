use Rattle.gg_trace.proofs.LastLaws.{halts-first, halts-none}
use Rattle.gg_trace.proofs.stops.rows_end_at_halts.Goals as goal

pub returns : goal.returns
returns c = record { first = halts-first; all = halts-none }
