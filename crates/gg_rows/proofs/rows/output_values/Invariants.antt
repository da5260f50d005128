use Rattle.std.proofs.Common.{◌≡◌, ℕ, ◌+◌, ◌<◌, get_or}
use Rattle.gg_node.specs.Machine.{machine_at}
use Rattle.gg_rows.specs.inside.Rows.{told_value}
use Rattle.gg_rows.proofs.rows.output_values.Given as goal

abbrev pub invariant-loop-k : goal.invariant-loop-k
invariant-loop-k g l = (j : ℕ) → j < l.k → get_or l.outs j 0 ≡ told_value (machine_at l.net.machines (l.first + j)) l.cycle
