use Rattle.std.proofs.Common.{◌≡◌, ◌+◌}
use Rattle.std.specs.Prelude.{drop}
use Rattle.std.specs.List.{prefix_len}
use Rattle.gg_rows.specs.inside.Trays.{is_tray}
use Rattle.gg_rows.proofs.trays.trays_len.Given as goal

abbrev pub invariant-loop-number : goal.invariant-loop-number
invariant-loop-number l = prefix_len is_tray l.machines ≡ l.«number» + prefix_len is_tray (drop l.«number» l.machines)
