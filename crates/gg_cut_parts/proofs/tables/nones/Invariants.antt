use Rattle.std.proofs.Common.{◌≡◌, replicate, None}
use Rattle.gg_cut_parts.proofs.tables.nones.Given as goal

abbrev pub invariant-loop : goal.invariant-loop
invariant-loop l = l.nones.items ≡ replicate l.counter None
