use Rattle.std.proofs.Common.{◌≡◌, ◌+◌}
use Rattle.std.specs.Prelude.{drop}
use Rattle.std.specs.List.{prefix_len}
use Rattle.gg_rows.specs.inside.Trays.{is_inner}
use Rattle.gg_rows.proofs.trays.inner_len.Given as goal

abbrev pub invariant-loop-number : goal.invariant-loop-number
invariant-loop-number l = prefix_len is_inner l.machines ≡ l.«number» + prefix_len is_inner (drop l.«number» l.machines)
